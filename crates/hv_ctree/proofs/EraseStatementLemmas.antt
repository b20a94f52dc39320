-- The same of initialisers, declarations, statements and programs.
use Rattle.std.proofs.Common.{◌≡◌, List, [], ◌∷◌, ◌++◌, refl, ap, ◌∙◌}
use Rattle.std.specs.declared.rc.Rc.{Rc}
use Rattle.std.specs.declared.alloc.Global.{Global}
use Rattle.hv_ctree.specs.declared.tree.declaration.InitDeclarator.{InitDeclarator}
use Rattle.hv_ctree.specs.declared.tree.declaration.InitializerItem.{InitializerItem}
use Rattle.hv_ctree.specs.declared.tree.declaration.Initializer.TheBlock.{Row_of-Initializer-List-1-1, end_of-Initializer-List-1-1, more_of-Initializer-List-1-1, items-the_row-Initializer-List-1-1, items_hidden-the_row-Initializer-List-1-1-0, hidden-the_row-Initializer-List-1-1-0}
use Rattle.hv_ctree.specs.declared.tree.stmt.BlockItem.{BlockItem}
use Rattle.hv_ctree.specs.declared.tree.stmt.BlockItem.TheBlock.{Row_of-Stmt-Compound-1-1, end_of-Stmt-Compound-1-1, more_of-Stmt-Compound-1-1, items-the_row-Stmt-Compound-1-1, items_hidden-the_row-Stmt-Compound-1-1-0, hidden-the_row-Stmt-Compound-1-1-0}
use Rattle.hv_ctree.specs.tree.EraseStatements.{item_after, initializers_row, initializers_after, init_declarator_of, init_declarators_after, item_of, items_row, items_after}
use Rattle.hv_ctree.specs.tree.Statements as plain

------ initializers
initializers_items : (n : _) (ys : plain.Initializers) (k : Row_of-Initializer-List-1-1 n) → initializers_row ys k ≡ initializers_after ys (items-the_row-Initializer-List-1-1 n k)
initializers_items _ ys end_of-Initializer-List-1-1 = refl
initializers_items _ ys (more_of-Initializer-List-1-1 _ x rest) = initializers_items _ (item_after ys x) rest

pub initializers_hidden : (ys : plain.Initializers) (xs : List (Rc InitializerItem Global)) → initializers_row ys (hidden-the_row-Initializer-List-1-1-0 xs) ≡ initializers_after ys xs
initializers_hidden ys xs = initializers_items _ ys (hidden-the_row-Initializer-List-1-1-0 xs) ∙ ap (initializers_after ys) (items_hidden-the_row-Initializer-List-1-1-0 xs)

pub initializers_push_after : (ys : plain.Initializers) (xs : List (Rc InitializerItem Global)) (x : Rc InitializerItem Global) → initializers_after ys (xs ++ x ∷ []) ≡ item_after (initializers_after ys xs) x.value
initializers_push_after ys [] x = refl
initializers_push_after ys (y ∷ rest) x = initializers_push_after (item_after ys y.value) rest x

------ init_declarators
pub init_declarators_push_after : (ys : plain.InitDeclarators) (xs : List (Rc InitDeclarator Global)) (x : Rc InitDeclarator Global) → init_declarators_after ys (xs ++ x ∷ []) ≡ plain.then_init_declarator (init_declarators_after ys xs) (init_declarator_of x.value)
init_declarators_push_after ys [] x = refl
init_declarators_push_after ys (y ∷ rest) x = init_declarators_push_after (plain.then_init_declarator ys (init_declarator_of y.value)) rest x

------ items
items_items : (n : _) (ys : plain.Items) (k : Row_of-Stmt-Compound-1-1 n) → items_row ys k ≡ items_after ys (items-the_row-Stmt-Compound-1-1 n k)
items_items _ ys end_of-Stmt-Compound-1-1 = refl
items_items _ ys (more_of-Stmt-Compound-1-1 _ x rest) = items_items _ (plain.then_item ys (item_of x)) rest

pub items_hidden : (ys : plain.Items) (xs : List (Rc BlockItem Global)) → items_row ys (hidden-the_row-Stmt-Compound-1-1-0 xs) ≡ items_after ys xs
items_hidden ys xs = items_items _ ys (hidden-the_row-Stmt-Compound-1-1-0 xs) ∙ ap (items_after ys) (items_hidden-the_row-Stmt-Compound-1-1-0 xs)

pub items_push_after : (ys : plain.Items) (xs : List (Rc BlockItem Global)) (x : Rc BlockItem Global) → items_after ys (xs ++ x ∷ []) ≡ plain.then_item (items_after ys xs) (item_of x.value)
items_push_after ys [] x = refl
items_push_after ys (y ∷ rest) x = items_push_after (plain.then_item ys (item_of y.value)) rest x

-- the stored parts of a node
pub ruleset erasing_statements = (initializers_hidden, items_hidden)

-- lists with one more
pub ruleset pushing_statements = (initializers_push_after, init_declarators_push_after, items_push_after)
