-- What the machine makes of a token of specifiers, the grammar derives.
use Rattle.std.proofs.Common.{◌≡◌, ℕ, Bool, true, false, List, ◌∷◌, sym, Option, Some, subst}
use Rattle.hv_base.specs.declared.place.Place.{Place}
use Rattle.hv_base.specs.declared.keyword.Keyword.{Keyword}
use Rattle.hv_base.specs.declared.keyword.Keyword.TheVariants as keywords
use Rattle.hv_ctree.specs.declared.tree.words.StorageClass.{StorageClass}
use Rattle.hv_ctree.specs.declared.tree.words.StorageClass.TheVariants as storages
use Rattle.hv_ctree.specs.declared.tree.words.TypeQualifier.TheVariants.{Const, Restrict}
use Rattle.hv_ctree.specs.tree.Expressions.{Specifiers, then_specifier, Specifier, storage, of_type, qualifier, inline, word, typedef_name, TypeWord, void_word, char_word, short_word, int_word, long_word, signed_word, unsigned_word, bool_word}
use Rattle.hv_grammar.specs.Symbols.{Symbol, keyword, marked, Role, Marked, at, storage_word, type_word}
use Rattle.hv_grammar.specs.Expressions.{has_type, ReadsSpecifier, r_storage, r_inline, r_qualifier, r_type, r_word, r_typedef_name}
use Rattle.hv_grammar.specs.machine.Frames.{Owner, of_type_name, of_parameter, of_member, of_declaration, Frame, depth, within, Words}
use Rattle.hv_grammar.specs.machine.Steps.{state, Taken, plainly, may_stand, worded, marked_word, keyword_word, specifier_at}
use Rattle.hv_grammar.proofs.Reached.{words_of, is_specified, b_specified, more, Specs, Leads, once, branches, fits_most, one_more}

-- what a specifier that is one word is where it stands
abbrev Stands : Owner → Place → Symbol → Specifier → Type 0
Stands o q s x = (r : Role) (d : ℕ) (b : Bool) (ts : List Marked)
    → ReadsSpecifier r d (words_of o) b (at r d q s ∷ ts) ts x

-- where one of these words may be one more specifier
abbrev From : (Bool → List Marked → List Marked → Type 0) → Owner → Place → Specifiers → List Frame
    → Place → Symbol → Type 0
From B o p xs stack q s = (r : Role) (d : ℕ) (ws us : List Marked) → B false ws (at r d q s ∷ us)
    → Specs o p xs stack ws (at r d q s ∷ us)

storage_stands : (o : Owner) (q : Place) (c : StorageClass) → may_stand o (storage q c) ≡ true
    → Stands o q (storage_word c) (storage q c)
storage_stands of_parameter q c e r d b ts = r_storage q c
storage_stands of_declaration q c e r d b ts = r_storage q c
storage_stands of_type_name q c e r d b ts = cc
storage_stands of_member q c e r d b ts = cc

inline_stands : (o : Owner) (q : Place) → may_stand o (inline q) ≡ true
    → Stands o q (keyword keywords.Inline) (inline q)
inline_stands of_parameter q e r d b ts = r_inline q
inline_stands of_declaration q e r d b ts = r_inline q
inline_stands of_type_name q e r d b ts = cc
inline_stands of_member q e r d b ts = cc

worded_read : (B : Bool → List Marked → List Marked → Type 0) (o : Owner) (p : Place)
    (xs : Specifiers) (stack : List Frame) (q : Place) (s : Symbol) (x : Specifier)
    (other : Option Taken)
    → From B o p xs stack q s → Leads B q s other → (may_stand o x ≡ true → Stands o q s x)
    → Leads B q s (worded o p xs stack (Some x) other)
worded_read B o p xs stack q s x other f g h =
    branches B q s (may_stand o x)
    (plainly stack (state stack (Words o p (then_specifier xs x))) (depth stack)) other
    (λ e. once (λ ws us k. let t = f (within stack) (depth stack) ws us k in
    one_more t.site t.stacked t.specifiers (h e (within stack) (depth stack) (has_type xs) us)))
    (λ e. g)

word_stands : (o : Owner) (q : Place) (w : TypeWord)
    → Stands o q (type_word w) (of_type q (word q w))
word_stands o q w r d b ts = r_type (r_word q w)

keyword_read : (B : Bool → List Marked → List Marked → Type 0) (o : Owner) (p : Place)
    (xs : Specifiers) (stack : List Frame) (q : Place) (k : Keyword) (other : Option Taken)
    → From B o p xs stack q (keyword k) → Leads B q (keyword k) other
    → Leads B q (keyword k) (keyword_word o p xs stack q k other)
keyword_read B o p xs stack q keywords.Struct other f g =
    once (λ ws us k. let t = f (within stack) (depth stack) ws us k in
    record {
      specified = is_specified;
      stacked =
          more t.stacked (fits_most stack) t.site (b_specified t.specifiers);
    })
keyword_read B o p xs stack q keywords.Union other f g =
    once (λ ws us k. let t = f (within stack) (depth stack) ws us k in
    record {
      specified = is_specified;
      stacked =
          more t.stacked (fits_most stack) t.site (b_specified t.specifiers);
    })
keyword_read B o p xs stack q keywords.Enum other f g =
    once (λ ws us k. let t = f (within stack) (depth stack) ws us k in
    record {
      specified = is_specified;
      stacked =
          more t.stacked (fits_most stack) t.site (b_specified t.specifiers);
    })
keyword_read B o p xs stack q keywords.Typedef other f g =
    worded_read B o p xs stack q (keyword keywords.Typedef) (storage q storages.Typedef) other f g
    (storage_stands o q storages.Typedef)
keyword_read B o p xs stack q keywords.Extern other f g =
    worded_read B o p xs stack q (keyword keywords.Extern) (storage q storages.Extern) other f g
    (storage_stands o q storages.Extern)
keyword_read B o p xs stack q keywords.Static other f g =
    worded_read B o p xs stack q (keyword keywords.Static) (storage q storages.Static) other f g
    (storage_stands o q storages.Static)
keyword_read B o p xs stack q keywords.Auto other f g =
    worded_read B o p xs stack q (keyword keywords.Auto) (storage q storages.Auto) other f g
    (storage_stands o q storages.Auto)
keyword_read B o p xs stack q keywords.Register other f g =
    worded_read B o p xs stack q (keyword keywords.Register) (storage q storages.Register) other f g
    (storage_stands o q storages.Register)
keyword_read B o p xs stack q keywords.Inline other f g =
    worded_read B o p xs stack q (keyword keywords.Inline) (inline q) other f g (inline_stands o q)
keyword_read B o p xs stack q keywords.Const other f g =
    worded_read B o p xs stack q (keyword keywords.Const) (qualifier q Const) other f g
    (λ e r d b ts. r_qualifier q Const)
keyword_read B o p xs stack q keywords.Restrict other f g =
    worded_read B o p xs stack q (keyword keywords.Restrict) (qualifier q Restrict) other f g
    (λ e r d b ts. r_qualifier q Restrict)
keyword_read B o p xs stack q keywords.Void other f g =
    worded_read B o p xs stack q (keyword keywords.Void) (of_type q (word q void_word)) other f g
    (λ e. word_stands o q void_word)
keyword_read B o p xs stack q keywords.Char other f g =
    worded_read B o p xs stack q (keyword keywords.Char) (of_type q (word q char_word)) other f g
    (λ e. word_stands o q char_word)
keyword_read B o p xs stack q keywords.Short other f g =
    worded_read B o p xs stack q (keyword keywords.Short) (of_type q (word q short_word)) other f g
    (λ e. word_stands o q short_word)
keyword_read B o p xs stack q keywords.Int other f g =
    worded_read B o p xs stack q (keyword keywords.Int) (of_type q (word q int_word)) other f g
    (λ e. word_stands o q int_word)
keyword_read B o p xs stack q keywords.Long other f g =
    worded_read B o p xs stack q (keyword keywords.Long) (of_type q (word q long_word)) other f g
    (λ e. word_stands o q long_word)
keyword_read B o p xs stack q keywords.Signed other f g =
    worded_read B o p xs stack q (keyword keywords.Signed) (of_type q (word q signed_word)) other f
    g (λ e. word_stands o q signed_word)
keyword_read B o p xs stack q keywords.Unsigned other f g =
    worded_read B o p xs stack q (keyword keywords.Unsigned) (of_type q (word q unsigned_word))
    other f g (λ e. word_stands o q unsigned_word)
keyword_read B o p xs stack q keywords.Bool other f g =
    worded_read B o p xs stack q (keyword keywords.Bool) (of_type q (word q bool_word)) other f g
    (λ e. word_stands o q bool_word)
keyword_read B o p xs stack q _ other f g = g

marked_read : (B : Bool → List Marked → List Marked → Type 0) (o : Owner) (p : Place)
    (xs : Specifiers) (stack : List Frame) (q : Place) (n : List ℕ) (other : Option Taken)
    → From B o p xs stack q (marked n) → Leads B q (marked n) other
    → Leads B q (marked n) (marked_word o p xs stack q n other)
marked_read B o p xs stack q n other f g =
    branches B q (marked n) (has_type xs) other
    (plainly stack (state stack (Words o p (then_specifier xs (of_type q (typedef_name q n)))))
    (depth stack)) (λ e. g)
    (λ e. once (λ ws us k. let t = f (within stack) (depth stack) ws us k in
    one_more t.site t.stacked t.specifiers (first us e)))
  where
    first : (us : List Marked) → has_type xs ≡ false
        → ReadsSpecifier (within stack) (depth stack) (words_of o) (has_type xs)
        (at (within stack) (depth stack) q (marked n) ∷ us) us (of_type q (typedef_name q n))
    first us e =
        subst (λ (b : Bool). ReadsSpecifier (within stack) (depth stack) (words_of o) b
        (at (within stack) (depth stack) q (marked n) ∷ us) us (of_type q (typedef_name q n)))
        (sym e) (r_type (r_typedef_name q n))

-- a token that may be one more specifier
pub specifier_read : (B : Bool → List Marked → List Marked → Type 0) (o : Owner) (p : Place)
    (xs : Specifiers) (stack : List Frame) (q : Place) (s : Symbol) (other : Option Taken)
    → ((r : Role) (d : ℕ) (ws us : List Marked) → B false ws (at r d q s ∷ us)
    → Specs o p xs stack ws (at r d q s ∷ us)) → Leads B q s other
    → Leads B q s (specifier_at o p xs stack q s other)
specifier_read B o p xs stack q (keyword k) other f g = keyword_read B o p xs stack q k other f g
specifier_read B o p xs stack q (marked n) other f g = marked_read B o p xs stack q n other f g
specifier_read B o p xs stack q _ other f g = g
