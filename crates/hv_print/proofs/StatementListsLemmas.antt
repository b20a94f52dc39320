-- The same of initialisers, declarators with them, and the items of blocks.
use Rattle.std.proofs.Common.{◌≡◌, ℕ, ◌+◌, Bool, true, false, List, [], ◌∷◌, ◌++◌, map, refl, sym, ap, ◌∙◌, append_assoc}
use Rattle.std.proofs.lemmas.List.{append-nil}
use Rattle.std.specs.declared.rc.Rc.{Rc}
use Rattle.std.specs.declared.alloc.Global.{Global}
use Rattle.hv_ctree.specs.declared.tree.declaration.InitDeclarator.{InitDeclarator}
use Rattle.hv_ctree.specs.declared.tree.declaration.InitializerItem.{InitializerItem}
use Rattle.hv_ctree.specs.declared.tree.declaration.InitializerItem.TheVariants.{Plain' as Next', Designated'}
use Rattle.hv_ctree.specs.declared.tree.stmt.BlockItem.{BlockItem}
use Rattle.hv_ctree.specs.declared.tree.stmt.ExternalDeclaration.{ExternalDeclaration}
use Rattle.hv_ctree.specs.declared.tree.stmt.Program.{Program}
use Rattle.hv_ctree.specs.tree.EraseStatements.{init_declarator_of, init_declarators_after, item_after, initializers_after, item_of, items_after, external_of, program_of}
use Rattle.hv_ctree.specs.tree.Statements as plain
use Rattle.hv_grammar.specs.Symbols.{Symbol, comma_sign}
use Rattle.hv_grammar.specs.Tokens.{init_declarator_tokens, init_declarators_tokens, initializers_tokens}
use Rattle.hv_print.specs.ProgramTokens.{item_tokens, items_tokens, external_tokens, externals_tokens, program_tokens}
use Rattle.hv_print.specs.Shown.{shown, c_tokens}
use Rattle.hv_print.specs.working.Printed.{comma_before, printed}
use Rattle.hv_print.proofs.PrintedLemmas.{printed_shown}
use Rattle.hv_print.proofs.ListsLemmas.{comma_next}

------ init_declarators

-- the tokens of what is left of declarators with their initialisers, from this index on
abbrev pub init_declarators_left : ℕ → List (Rc InitDeclarator Global) → List Symbol
init_declarators_left i [] = []
init_declarators_left i (x ∷ xs) =
    comma_before i ++ (init_declarator_tokens (init_declarator_of x.value) ++ init_declarators_left (i + 1) xs)

init_declarators_after_left : (zs : plain.InitDeclarators) (b : plain.InitDeclarator) (xs : List (Rc InitDeclarator Global)) (i : ℕ)
    → init_declarators_tokens (init_declarators_after (plain.then_init_declarator zs b) xs)
    ≡ init_declarators_tokens (plain.then_init_declarator zs b) ++ init_declarators_left (i + 1) xs
init_declarators_after_left zs b [] i = sym (append-nil (init_declarators_tokens (plain.then_init_declarator zs b)))
init_declarators_after_left zs b (x ∷ xs) i =
    init_declarators_after_left (plain.then_init_declarator zs b) (init_declarator_of x.value) xs (i + 1)
    ∙ rw (comma_next i) (simp append_assoc)

pub init_declarators_all : (xs : List (Rc InitDeclarator Global))
    → init_declarators_tokens (init_declarators_after plain.no_init_declarators xs) ≡ init_declarators_left 0 xs
init_declarators_all [] = refl
init_declarators_all (x ∷ xs) = init_declarators_after_left plain.no_init_declarators (init_declarator_of x.value) xs 0

------ initializers

-- whether there is an entry
abbrev has_entry : plain.Initializers → Bool
has_entry plain.no_initializers = false
has_entry (plain.then_initializer xs p g x) = true

has_item : (zs : plain.Initializers) (x : InitializerItem) → has_entry (item_after zs x) ≡ true
has_item zs (Next' p q x) = refl
has_item zs (Designated' p d q x) = refl

initializers_more : (zs : plain.Initializers) (x : InitializerItem) → has_entry zs ≡ true
    → initializers_tokens (item_after zs x)
    ≡ initializers_tokens zs ++ comma_sign
    ∷ initializers_tokens (item_after plain.no_initializers x)
initializers_more plain.no_initializers x h = cc
initializers_more (plain.then_initializer zs q h y) (Next' p r x) e = refl
initializers_more (plain.then_initializer zs q h y) (Designated' p d r x) e = refl

-- the tokens of what is left of the entries of an initialiser, from this index on
abbrev pub initializers_left : ℕ → List (Rc InitializerItem Global) → List Symbol
initializers_left i [] = []
initializers_left i (x ∷ xs) =
    comma_before i ++ (initializers_tokens (item_after plain.no_initializers x.value)
    ++ initializers_left (i + 1) xs)

initializers_after_left : (zs : plain.Initializers) (xs : List (Rc InitializerItem Global)) (i : ℕ)
    → has_entry zs ≡ true
    → initializers_tokens (initializers_after zs xs)
    ≡ initializers_tokens zs ++ initializers_left (i + 1) xs
initializers_after_left zs [] i h = sym (append-nil (initializers_tokens zs))
initializers_after_left zs (x ∷ xs) i h =
    initializers_after_left (item_after zs x.value) xs (i + 1) (has_item zs x.value)
    ∙ ap (λ ss. ss ++ initializers_left (i + 1 + 1) xs) (initializers_more zs x.value h)
    ∙ rw (comma_next i) (simp append_assoc)

pub initializers_all : (xs : List (Rc InitializerItem Global))
    → initializers_tokens (initializers_after plain.no_initializers xs) ≡ initializers_left 0 xs
initializers_all [] = refl
initializers_all (x ∷ xs) =
    initializers_after_left (item_after plain.no_initializers x.value) xs 0
    (has_item plain.no_initializers x.value)

------ items

-- the tokens of what is left of the items of a block
abbrev pub items_left : List (Rc BlockItem Global) → List Symbol
items_left [] = []
items_left (x ∷ xs) = item_tokens (item_of x.value) ++ items_left xs

items_after_left : (ys : plain.Items) (xs : List (Rc BlockItem Global))
    → items_tokens (items_after ys xs) ≡ items_tokens ys ++ items_left xs
items_after_left ys [] = sym (append-nil (items_tokens ys))
items_after_left ys (x ∷ xs) = items_after_left (plain.then_item ys (item_of x.value)) xs ∙ append_assoc (items_tokens ys) (item_tokens (item_of x.value)) (items_left xs)

pub items_all : (xs : List (Rc BlockItem Global)) → items_tokens (items_after plain.no_items xs) ≡ items_left xs
items_all xs = items_after_left plain.no_items xs

------ external declarations

-- the tokens of what is left of external declarations
abbrev pub externals_left : List (Rc ExternalDeclaration Global) → List Symbol
externals_left [] = []
externals_left (x ∷ xs) = external_tokens (external_of x.value) ++ externals_left xs

externals_all : (xs : List (Rc ExternalDeclaration Global))
    → externals_tokens (map (λ (r : Rc ExternalDeclaration Global). external_of r.value) xs)
    ≡ externals_left xs
externals_all [] = refl
externals_all (x ∷ xs) =
    ap (λ ss. external_tokens (external_of x.value) ++ ss) (externals_all xs)

-- the external declarations of a program, printed, are its printed form
pub program_printed : (program : Program)
    → printed (externals_left program.externals)
    ≡ shown (c_tokens (program_tokens (program_of program)))
program_printed program =
    ap printed (sym (externals_all program.externals))
    ∙ printed_shown (program_tokens (program_of program))

-- a list as a whole is what is left of it at its beginning
pub ruleset lists = (init_declarators_all, initializers_all, items_all, program_printed)
