-- What the machine makes of the tokens of specifiers and declarators, production by production.
use Rattle.std.proofs.Common.{◌≡◌, ℕ, suc, Bool, true, false, List, [], ◌∷◌, refl, sym, ap, ◌∙◌, Option}
use Rattle.hv_base.specs.declared.place.Place.{Place}
use Rattle.hv_base.specs.declared.keyword.Keyword.TheVariants as keywords
use Rattle.hv_base.specs.declared.punct.Punct.{Punct}
use Rattle.hv_base.specs.declared.punct.Punct.TheVariants as puncts
use Rattle.hv_ctree.specs.declared.tree.words.StorageClass.{StorageClass}
use Rattle.hv_ctree.specs.declared.tree.words.StorageClass.TheVariants as storages
use Rattle.hv_ctree.specs.declared.tree.words.StructOrUnion.{StructOrUnion}
use Rattle.hv_ctree.specs.declared.tree.words.StructOrUnion.TheVariants.{Struct, Union}
use Rattle.hv_ctree.specs.declared.tree.words.TypeQualifier.{TypeQualifier}
use Rattle.hv_ctree.specs.declared.tree.words.TypeQualifier.TheVariants.{Const, Restrict}
use Rattle.hv_ctree.specs.tree.Expressions.{Specifiers, then_specifier, Specifier, storage, of_type, qualifier, inline, word, compound, enumeration, typedef_name, mentioned, no_declarators, listed_before, declarator, some_declarator, nothing, no_suffixes, Pointers, no_pointers, then_pointer, Qualifiers, no_qualifiers, then_qualifier, TypeWord, void_word, char_word, short_word, int_word, long_word, signed_word, unsigned_word, bool_word}
use Rattle.hv_ctree.specs.tree.Statements.{no_init_declarators}
use Rattle.hv_grammar.specs.Symbols.{Symbol, keyword, name, marked, sign, Role, Marked, at, BeginsAt, at_first, storage_word, qualifier_word, compound_word, type_word}
use Rattle.hv_grammar.specs.Expressions.{Words as WordKind, all_words, type_words, has_type, stars, ReadsQualifiers, r_no_qualifiers, r_qualifiers, ReadsPointers, r_no_pointers, r_pointer}
use Rattle.hv_grammar.specs.machine.Frames.{Owner, of_type_name, of_parameter, of_member, of_declaration, Mode, only_named, only_abstract, either, Frame, Specified, Owned, OwnedMembers, Declaring, depth, within, State, Words, AfterCompound, AfterTag, AfterEnum, AfterEnumTag, Pointing}
use Rattle.hv_grammar.specs.machine.Steps.{state, Taken, took, plainly, specifier_at, words_ended, step_words, step_pointing, ended, begins, may_lack_name, only_pointers, step_at}
use Rattle.hv_grammar.specs.machine.Moves.{Takes, taken, Moves, stays, takes}
use Rattle.hv_grammar.proofs.Arriving.{joined, one}

-- a step whose marks are as the machine says
pub steps_as : {m n : State} {r s : Role} {d e : ℕ} (p : Place) (t : Symbol)
    → step_at m.stack m.at p t ≡ took s n e → r ≡ s → d ≡ e → Takes m false (at r d p t) n false
steps_as {n = n} {s = s} {d = d} p t h same deep =
    taken false refl (h ∙ (ap (λ k. took s n k) (sym deep) ∙ ap (λ k. took k n d) (sym same)))

-- the place at which a phrase begins is that of its first token
pub first_of : {p : Place} {t : Marked} {ts : List Marked} → BeginsAt p (t ∷ ts) → t.token.place ≡ p
first_of (at_first t ts) = refl

-- a terminal that is no `{`
abbrev pub no_brace : Symbol → Bool
no_brace (sign puncts.LeftBrace) = false
no_brace _ = true

------ specifiers

-- the machine may read one more specifier upon these frames
pub record Spec (m : State) (o : Owner) (p : Place) (xs : Specifiers) (st : List Frame)
    (q : Place) : Type 0 where
  pub other : Symbol → Option Taken
  pub reads : (s : Symbol) → no_brace s ≡ true
      → step_at m.stack m.at q s ≡ specifier_at o p xs st q s (other s)

-- the machine is after specifiers, one of which the next token may end
pub record Like (n : State) (o : Owner) (p : Place) (xs : Specifiers) (st : List Frame) : Type 0
  where
    pub reads : (q : Place) (s : Symbol) → no_brace s ≡ true
        → step_at n.stack n.at q s ≡ step_words o p xs st q s

pub like_words : (o : Owner) (p : Place) (xs : Specifiers) (st : List Frame)
    → Like (state st (Words o p xs)) o p xs st
like_words o p xs st = record { reads = λ q s b. refl }

pub like_spec : {n : State} {o : Owner} {p : Place} {xs : Specifiers} {st : List Frame}
    → Like n o p xs st → (q : Place) → Spec n o p xs st q
like_spec {o = o} {p = p} {xs = xs} {st = st} h q =
    record { other = λ s. words_ended o p xs st q s; reads = λ s b. h.reads q s b }

-- the machine has read specifiers
pub record Worded (m : State) (ts us : List Marked) (o : Owner) (p : Place) (xs : Specifiers)
    (st : List Frame) : Type 0 where
  pub there : State
  pub moves : Moves m false ts there false us
  pub like : Like there o p xs st

pub data Suits : WordKind → Owner → Type 0 where
  suits_all : Suits all_words of_parameter
  suits_declaration : Suits all_words of_declaration
  suits_type_name : Suits type_words of_type_name
  suits_member : Suits type_words of_member

pub spec_steps : {m : State} {o : Owner} {p : Place} {xs : Specifiers} {st : List Frame} {q : Place}
    (h : Spec m o p xs st q) (s : Symbol) → no_brace s ≡ true
    → {n : State} {r : Role} {d e : ℕ} → specifier_at o p xs st q s (h.other s) ≡ plainly st n e
    → r ≡ within st → d ≡ e → Takes m false (at r d q s) n false
spec_steps {q = q} h s b g same deep = steps_as q s (h.reads s b ∙ g) same deep

-- one more word
pub worded_one : {m : State} {o : Owner} {p : Place} {xs : Specifiers} {st : List Frame} {q : Place}
    (h : Spec m o p xs st q) (s : Symbol) (x : Specifier) → no_brace s ≡ true
    → {r : Role} {d : ℕ} {ts : List Marked}
    → specifier_at o p xs st q s (h.other s)
    ≡ plainly st (state st (Words o p (then_specifier xs x))) (depth st)
    → r ≡ within st → d ≡ depth st → Worded m (at r d q s ∷ ts) ts o p (then_specifier xs x) st
worded_one {o = o} {p = p} {xs = xs} {st = st} h s x b g same deep = record {
  there = state st (Words o p (then_specifier xs x));
  moves = one (spec_steps h s b g same deep);
  like = like_words o p (then_specifier xs x) st;
}

storage_no_brace : (c : StorageClass) → no_brace (storage_word c) ≡ true
storage_no_brace storages.Typedef = refl
storage_no_brace storages.Extern = refl
storage_no_brace storages.Static = refl
storage_no_brace storages.Auto = refl
storage_no_brace storages.Register = refl

storage_stands : {o : Owner} → Suits all_words o
    → (p : Place) (xs : Specifiers) (st : List Frame) (q : Place) (c : StorageClass)
    (other : Option Taken)
    → specifier_at o p xs st q (storage_word c) other
    ≡ plainly st (state st (Words o p (then_specifier xs (storage q c)))) (depth st)
storage_stands suits_all p xs st q storages.Typedef other = refl
storage_stands suits_declaration p xs st q storages.Typedef other = refl
storage_stands suits_all p xs st q storages.Extern other = refl
storage_stands suits_declaration p xs st q storages.Extern other = refl
storage_stands suits_all p xs st q storages.Static other = refl
storage_stands suits_declaration p xs st q storages.Static other = refl
storage_stands suits_all p xs st q storages.Auto other = refl
storage_stands suits_declaration p xs st q storages.Auto other = refl
storage_stands suits_all p xs st q storages.Register other = refl
storage_stands suits_declaration p xs st q storages.Register other = refl

qualifier_no_brace : (c : TypeQualifier) → no_brace (qualifier_word c) ≡ true
qualifier_no_brace Const = refl
qualifier_no_brace Restrict = refl

qualifier_stands : (o : Owner) (p : Place) (xs : Specifiers) (st : List Frame) (q : Place)
    (c : TypeQualifier) (other : Option Taken)
    → specifier_at o p xs st q (qualifier_word c) other
    ≡ plainly st (state st (Words o p (then_specifier xs (qualifier q c)))) (depth st)
qualifier_stands of_parameter p xs st q Const other = refl
qualifier_stands of_parameter p xs st q Restrict other = refl
qualifier_stands of_type_name p xs st q Const other = refl
qualifier_stands of_type_name p xs st q Restrict other = refl
qualifier_stands of_member p xs st q Const other = refl
qualifier_stands of_member p xs st q Restrict other = refl
qualifier_stands of_declaration p xs st q Const other = refl
qualifier_stands of_declaration p xs st q Restrict other = refl

word_no_brace : (w : TypeWord) → no_brace (type_word w) ≡ true
word_no_brace void_word = refl
word_no_brace char_word = refl
word_no_brace short_word = refl
word_no_brace int_word = refl
word_no_brace long_word = refl
word_no_brace signed_word = refl
word_no_brace unsigned_word = refl
word_no_brace bool_word = refl

word_stands : (o : Owner) (p : Place) (xs : Specifiers) (st : List Frame) (q : Place) (w : TypeWord)
    (other : Option Taken)
    → specifier_at o p xs st q (type_word w) other
    ≡ plainly st (state st (Words o p (then_specifier xs (of_type q (word q w))))) (depth st)
word_stands of_parameter p xs st q void_word other = refl
word_stands of_parameter p xs st q char_word other = refl
word_stands of_parameter p xs st q short_word other = refl
word_stands of_parameter p xs st q int_word other = refl
word_stands of_parameter p xs st q long_word other = refl
word_stands of_parameter p xs st q signed_word other = refl
word_stands of_parameter p xs st q unsigned_word other = refl
word_stands of_parameter p xs st q bool_word other = refl
word_stands of_type_name p xs st q void_word other = refl
word_stands of_type_name p xs st q char_word other = refl
word_stands of_type_name p xs st q short_word other = refl
word_stands of_type_name p xs st q int_word other = refl
word_stands of_type_name p xs st q long_word other = refl
word_stands of_type_name p xs st q signed_word other = refl
word_stands of_type_name p xs st q unsigned_word other = refl
word_stands of_type_name p xs st q bool_word other = refl
word_stands of_member p xs st q void_word other = refl
word_stands of_member p xs st q char_word other = refl
word_stands of_member p xs st q short_word other = refl
word_stands of_member p xs st q int_word other = refl
word_stands of_member p xs st q long_word other = refl
word_stands of_member p xs st q signed_word other = refl
word_stands of_member p xs st q unsigned_word other = refl
word_stands of_member p xs st q bool_word other = refl
word_stands of_declaration p xs st q void_word other = refl
word_stands of_declaration p xs st q char_word other = refl
word_stands of_declaration p xs st q short_word other = refl
word_stands of_declaration p xs st q int_word other = refl
word_stands of_declaration p xs st q long_word other = refl
word_stands of_declaration p xs st q signed_word other = refl
word_stands of_declaration p xs st q unsigned_word other = refl
word_stands of_declaration p xs st q bool_word other = refl

pub arrives_storage : {m : State} {o : Owner} {p : Place} {xs : Specifiers} {st : List Frame}
    (q : Place) (c : StorageClass) → Suits all_words o → Spec m o p xs st q
    → {r : Role} {d : ℕ} {ts : List Marked} → r ≡ within st → d ≡ depth st
    → Worded m (at r d q (storage_word c) ∷ ts) ts o p (then_specifier xs (storage q c)) st
arrives_storage {p = p} {xs = xs} {st = st} q c s h same deep =
    worded_one h (storage_word c) (storage q c) (storage_no_brace c)
    (storage_stands s p xs st q c (h.other (storage_word c))) same deep

inline_stands : {o : Owner} → Suits all_words o → (p : Place) (xs : Specifiers) (st : List Frame)
    (q : Place) (other : Option Taken)
    → specifier_at o p xs st q (keyword keywords.Inline) other
    ≡ plainly st (state st (Words o p (then_specifier xs (inline q)))) (depth st)
inline_stands suits_all p xs st q other = refl
inline_stands suits_declaration p xs st q other = refl

pub arrives_inline : {m : State} {o : Owner} {p : Place} {xs : Specifiers} {st : List Frame}
    (q : Place) → Suits all_words o → Spec m o p xs st q
    → {r : Role} {d : ℕ} {ts : List Marked} → r ≡ within st → d ≡ depth st
    → Worded m (at r d q (keyword keywords.Inline) ∷ ts) ts o p (then_specifier xs (inline q)) st
arrives_inline {p = p} {xs = xs} {st = st} q s h same deep =
    worded_one h (keyword keywords.Inline) (inline q) refl
    (inline_stands s p xs st q (h.other (keyword keywords.Inline))) same deep

pub arrives_qualifier : {m : State} {o : Owner} {p : Place} {xs : Specifiers} {st : List Frame}
    (q : Place) (c : TypeQualifier) → Spec m o p xs st q
    → {r : Role} {d : ℕ} {ts : List Marked} → r ≡ within st → d ≡ depth st
    → Worded m (at r d q (qualifier_word c) ∷ ts) ts o p (then_specifier xs (qualifier q c)) st
arrives_qualifier {o = o} {p = p} {xs = xs} {st = st} q c h same deep =
    worded_one h (qualifier_word c) (qualifier q c) (qualifier_no_brace c)
    (qualifier_stands o p xs st q c (h.other (qualifier_word c))) same deep

pub arrives_word : {m : State} {o : Owner} {p : Place} {xs : Specifiers} {st : List Frame}
    (q : Place) (w : TypeWord) → Spec m o p xs st q
    → {r : Role} {d : ℕ} {ts : List Marked} → r ≡ within st → d ≡ depth st
    → Worded m (at r d q (type_word w) ∷ ts) ts o p (then_specifier xs (of_type q (word q w)))
    st
arrives_word {o = o} {p = p} {xs = xs} {st = st} q w h same deep =
    worded_one h (type_word w) (of_type q (word q w)) (word_no_brace w)
    (word_stands o p xs st q w (h.other (type_word w))) same deep

pub arrives_typedef_name : {m : State} {o : Owner} {p : Place} {xs : Specifiers} {st : List Frame}
    (q : Place) (n : List ℕ) → Spec m o p xs st q → has_type xs ≡ false
    → {r : Role} {d : ℕ} {ts : List Marked} → r ≡ within st → d ≡ depth st
    → Worded m (at r d q (marked n) ∷ ts) ts o p
    (then_specifier xs (of_type q (typedef_name q n))) st
arrives_typedef_name {o = o} {p = p} {xs = xs} {st = st} q n h none same deep =
    worded_one h (marked n) (of_type q (typedef_name q n)) refl (stands (h.other (marked n))) same
    deep where
      stands : (other : Option Taken)
          → specifier_at o p xs st q (marked n) other
          ≡ plainly st (state st (Words o p (then_specifier xs (of_type q (typedef_name q n)))))
          (depth st)
      stands other = rw none refl

-- `struct` or `union`
pub compound_begun : {m : State} {o : Owner} {p : Place} {xs : Specifiers} {st : List Frame}
    (q : Place) (k : StructOrUnion) → Spec m o p xs st q
    → {r : Role} {d : ℕ} → r ≡ within st → d ≡ depth st
    → Takes m false (at r d q (compound_word k))
    (state (Specified o p xs ∷ st) (AfterCompound q k)) false
compound_begun q Struct h same deep = spec_steps h (compound_word Struct) refl refl same deep
compound_begun q Union h same deep = spec_steps h (compound_word Union) refl refl same deep

pub enum_begun : {m : State} {o : Owner} {p : Place} {xs : Specifiers} {st : List Frame} (q : Place)
    → Spec m o p xs st q
    → {r : Role} {d : ℕ} → r ≡ within st → d ≡ depth st
    → Takes m false (at r d q (keyword keywords.Enum))
    (state (Specified o p xs ∷ st) (AfterEnum q)) false
enum_begun q h same deep = spec_steps h (keyword keywords.Enum) refl refl same deep

-- `struct S`
pub like_mentioned : (o : Owner) (p : Place) (xs : Specifiers) (st : List Frame) (q : Place)
    (k : StructOrUnion) (r : Place) (n : List ℕ)
    → Like (state (Specified o p xs ∷ st) (AfterTag q k r n)) o p
    (then_specifier xs (of_type q (compound q (mentioned q k r n)))) st
like_mentioned o p xs st q k r n = record { reads = go } where
  go : (y : Place) (s : Symbol) → no_brace s ≡ true
      → step_at (Specified o p xs ∷ st) (AfterTag q k r n) y s
      ≡ step_words o p (then_specifier xs (of_type q (compound q (mentioned q k r n)))) st y s
  go y (sign puncts.LeftBrace) b = cc
  go y _ b = refl

pub like_listed_before : (o : Owner) (p : Place) (xs : Specifiers) (st : List Frame) (q : Place)
    (r : Place) (n : List ℕ)
    → Like (state (Specified o p xs ∷ st) (AfterEnumTag q r n)) o p
    (then_specifier xs (of_type q (enumeration q (listed_before q r n)))) st
like_listed_before o p xs st q r n = record { reads = go } where
  go : (y : Place) (s : Symbol) → no_brace s ≡ true
      → step_at (Specified o p xs ∷ st) (AfterEnumTag q r n) y s
      ≡ step_words o p (then_specifier xs (of_type q (enumeration q (listed_before q r n)))) st y s
  go y (sign puncts.LeftBrace) b = cc
  go y _ b = refl

------ declarators

-- a terminal that begins a declarator, and a sign that ends one
abbrev pub begins_declarator : Symbol → Bool
begins_declarator (name n) = true
begins_declarator (sign puncts.Star) = true
begins_declarator (sign puncts.LeftParenthesis) = true
begins_declarator (sign puncts.LeftBracket) = true
begins_declarator _ = false

abbrev pub ends_declarator : Punct → Bool
ends_declarator puncts.RightParenthesis = true
ends_declarator puncts.Comma = true
ends_declarator puncts.Semicolon = true
ends_declarator puncts.Equal = true
ends_declarator _ = false

-- the machine stands before the middle of a declarator, after these `*`s
pub record Pointed (n : State) (md : Mode) (p : Place) (ps : Pointers) (st : List Frame) : Type 0
  where
    pub reads : (q : Place) (s : Symbol) → begins_declarator s ≡ true
        → step_at n.stack n.at q s ≡ step_pointing md p ps st q s

-- and these may be all of it
pub record Bare (n : State) (md : Mode) (p : Place) (ps : Pointers) (st : List Frame) : Type 0 where
  pub reads : (q : Place) (s : Punct) → ends_declarator s ≡ true → may_lack_name md ≡ true
      → step_at n.stack n.at q (sign s) ≡ ended st (only_pointers p ps) s

pub any_place : (md : Mode) (p p' : Place) (st : List Frame) (q : Place) (s : Symbol)
    → step_pointing md p no_pointers st q s ≡ step_pointing md p' no_pointers st q s
any_place md p p' st q (name n) = refl
any_place md p p' st q (keyword k) = refl
any_place md p p' st q (sign puncts.Star) = refl
any_place md p p' st q (sign puncts.LeftParenthesis) = refl
any_place md p p' st q (sign puncts.LeftBracket) = refl
any_place md p p' st q (sign _) = refl
any_place md p p' st q _ = refl

pub pointed_at : (md : Mode) (p : Place) (ps : Pointers) (st : List Frame)
    → Pointed (state st (Pointing md p ps)) md p ps st
pointed_at md p ps st = record { reads = λ q s b. refl }

pub bare_at : (md : Mode) (p : Place) (ps : Pointers) (st : List Frame)
    → Bare (state st (Pointing md p ps)) md p ps st
bare_at md p ps st = record { reads = go } where
  go : (q : Place) (s : Punct) → ends_declarator s ≡ true → may_lack_name md ≡ true
      → step_at st (Pointing md p ps) q (sign s) ≡ ended st (only_pointers p ps) s
  go q puncts.RightParenthesis b l = rw l refl
  go q puncts.Comma b l = rw l refl
  go q puncts.Semicolon b l = rw l refl
  go q puncts.Equal b l = rw l refl
  go q _ b l = cc

-- the mode of what specifiers stand in, and its frame
abbrev pub mode_of : Owner → Mode
mode_of of_type_name = only_abstract
mode_of of_parameter = either
mode_of of_member = only_named
mode_of of_declaration = only_named

abbrev pub owned : Owner → Place → Specifiers → Frame
owned of_type_name p xs = Owned of_type_name p xs
owned of_parameter p xs = Owned of_parameter p xs
owned of_member p xs = OwnedMembers p xs no_declarators
owned of_declaration p xs = Declaring p xs no_init_declarators

ended_by : (o : Owner) (p : Place) (xs : Specifiers) (st : List Frame) (q : Place) (s : Symbol)
    → begins_declarator s ≡ true
    → words_ended o p xs st q s ≡ step_pointing (mode_of o) q no_pointers (owned o p xs ∷ st) q s
ended_by of_type_name p xs st q s b = refl
ended_by of_parameter p xs st q s b = refl
ended_by of_member p xs st q s b = refl
ended_by of_declaration p xs st q (sign puncts.Semicolon) b = cc
ended_by of_declaration p xs st q s b = refl

ended_bare : (o : Owner) (p : Place) (xs : Specifiers) (st : List Frame) (q : Place) (s : Symbol)
    → may_lack_name (mode_of o) ≡ true
    → words_ended o p xs st q s ≡ step_pointing (mode_of o) q no_pointers (owned o p xs ∷ st) q s
ended_bare of_type_name p xs st q s l = refl
ended_bare of_parameter p xs st q s l = refl
ended_bare of_member p xs st q s l = refl
ended_bare of_declaration p xs st q s l = cc

pub like_pointed : {n : State} {o : Owner} {p : Place} {xs : Specifiers} {st : List Frame}
    → Like n o p xs st → (y : Place) → Pointed n (mode_of o) y no_pointers (owned o p xs ∷ st)
like_pointed {n} {o} {p} {xs} {st} h y = record { reads = go } where
  end : (q : Place) (s : Symbol) → begins_declarator s ≡ true
      → words_ended o p xs st q s ≡ step_pointing (mode_of o) y no_pointers (owned o p xs ∷ st) q s
  end q s b = ended_by o p xs st q s b ∙ any_place (mode_of o) q y (owned o p xs ∷ st) q s

  go : (q : Place) (s : Symbol) → begins_declarator s ≡ true
      → step_at n.stack n.at q s ≡ step_pointing (mode_of o) y no_pointers (owned o p xs ∷ st) q s
  go q (name x) b = h.reads q (name x) refl ∙ end q (name x) b
  go q (sign puncts.Star) b = h.reads q (sign puncts.Star) refl ∙ end q (sign puncts.Star) b
  go q (sign puncts.LeftParenthesis) b = h.reads q (sign puncts.LeftParenthesis) refl
      ∙ end q (sign puncts.LeftParenthesis) b
  go q (sign puncts.LeftBracket) b = h.reads q (sign puncts.LeftBracket) refl
      ∙ end q (sign puncts.LeftBracket) b
  go q _ b = cc

pub like_bare : {n : State} {o : Owner} {p : Place} {xs : Specifiers} {st : List Frame}
    → Like n o p xs st → (y : Place) → Bare n (mode_of o) y no_pointers (owned o p xs ∷ st)
like_bare {n} {o} {p} {xs} {st} h y = record { reads = go } where
  whole : (q : Place) (s : Punct) → no_brace (sign s) ≡ true → ends_declarator s ≡ true
      → may_lack_name (mode_of o) ≡ true
      → step_at n.stack n.at q (sign s) ≡ ended (owned o p xs ∷ st) (only_pointers y no_pointers) s
  whole q s b e l = h.reads q (sign s) b
      ∙ (ended_bare o p xs st q (sign s) l ∙ (any_place (mode_of o) q y (owned o p xs ∷ st) q (sign s)
      ∙ (bare_at (mode_of o) y no_pointers (owned o p xs ∷ st)).reads q s e l))

  go : (q : Place) (s : Punct) → ends_declarator s ≡ true → may_lack_name (mode_of o) ≡ true
      → step_at n.stack n.at q (sign s) ≡ ended (owned o p xs ∷ st) (only_pointers y no_pointers) s
  go q puncts.RightParenthesis b l = whole q puncts.RightParenthesis refl b l
  go q puncts.Comma b l = whole q puncts.Comma refl b l
  go q puncts.Semicolon b l = whole q puncts.Semicolon refl b l
  go q puncts.Equal b l = whole q puncts.Equal refl b l
  go q _ b l = cc

abbrev pub has_pointer : Pointers → Bool
has_pointer no_pointers = false
has_pointer (then_pointer ps p qs) = true

-- the machine has read `*`s
pub record PointedAt (m : State) (ts us : List Marked) (md : Mode) (ps : Pointers)
    (st : List Frame) : Type 0 where
  pub there : State
  pub place : Place
  pub moves : Moves m false ts there false us
  pub pointed : Pointed there md place ps st
  pub bare : has_pointer ps ≡ true → Bare there md place ps st
  pub first : (p q : Place) → BeginsAt p ts → BeginsAt q us → begins place ps q ≡ p
  pub alone : (p : Place) → BeginsAt p ts → only_pointers place ps ≡ only_pointers p ps

pub same_begin : {p q : Place} {ts : List Marked} → BeginsAt p ts → BeginsAt q ts → q ≡ p
same_begin {ts = t ∷ ts} b c = sym (first_of c) ∙ first_of b
same_begin {ts = []} b c = elim b [ ]

pub arrives_no_pointers : {m : State} {md : Mode} {p : Place} {st : List Frame} {ts : List Marked}
    → Pointed m md p no_pointers st
    → PointedAt m ts ts md no_pointers st
arrives_no_pointers {m} {p = p} h = record {
  there = m;
  place = p;
  moves = stays;
  pointed = h;
  bare = λ e. cc;
  first = λ x y b c. same_begin b c;
  alone = λ x b. refl;
}

qualifier_taken : (md : Mode) (p q y : Place) (ps : Pointers) (qs : Qualifiers) (c : TypeQualifier)
    (st : List Frame)
    → step_at st (Pointing md p (then_pointer ps q qs)) y (qualifier_word c)
    ≡ plainly st (state st (Pointing md p (then_pointer ps q (then_qualifier qs c))))
    (suc (stars ps (depth st)))
qualifier_taken md p q y ps qs Const st = refl
qualifier_taken md p q y ps qs Restrict st = refl

pub arrives_qualifiers : {r : Role} {d : ℕ} {ts us : List Marked} {qs : Qualifiers}
    → ReadsQualifiers r d ts us qs → (md : Mode) (p q : Place) (ps : Pointers) (st : List Frame)
    → r ≡ within st → d ≡ suc (stars ps (depth st))
    → Moves (state st (Pointing md p (then_pointer ps q no_qualifiers))) false ts
    (state st (Pointing md p (then_pointer ps q qs))) false us
arrives_qualifiers r_no_qualifiers md p q ps st same deep = stays
arrives_qualifiers (r_qualifiers {qs = qs} y c h) md p q ps st same deep =
    joined (arrives_qualifiers h md p q ps st same deep)
    (one (steps_as y (qualifier_word c) (qualifier_taken md p q y ps qs c st) same deep))

one_pointer : {r : Role} {d : ℕ} {ts us vs : List Marked} {ps : Pointers} {qs : Qualifiers}
    (q : Place) (m : State) (md : Mode) (st : List Frame)
    → ReadsQualifiers r (suc (stars ps d)) us vs qs → r ≡ within st → d ≡ depth st
    → PointedAt m ts (at r (suc (stars ps d)) q (sign puncts.Star) ∷ us) md ps st
    → PointedAt m ts vs md (then_pointer ps q qs) st
one_pointer {ps = ps} {qs = qs} q m md st k same deep i = record {
  there = state st (Pointing md (begins i.place ps q) (then_pointer ps q qs));
  place = begins i.place ps q;
  moves =
      joined i.moves (takes
      (steps_as q (sign puncts.Star) (i.pointed.reads q (sign puncts.Star) refl) same
      (ap (λ n. suc (stars ps n)) deep))
      (arrives_qualifiers k md (begins i.place ps q) q ps st same
      (ap (λ n. suc (stars ps n)) deep)));
  pointed = pointed_at md (begins i.place ps q) (then_pointer ps q qs) st;
  bare = λ e. bare_at md (begins i.place ps q) (then_pointer ps q qs) st;
  first = λ x y b c. i.first x q b (at_first _ _);
  alone =
      λ x b. ap (λ y. some_declarator (declarator y (then_pointer ps q qs) nothing no_suffixes))
      (i.first x q b (at_first _ _));
}

pub arrives_pointers : {r : Role} {d : ℕ} {ts us : List Marked} {ps : Pointers}
    → ReadsPointers r d ts us ps → (m : State) (md : Mode) (p : Place) (st : List Frame)
    → Pointed m md p no_pointers st → r ≡ within st → d ≡ depth st → PointedAt m ts us md ps st
arrives_pointers r_no_pointers m md p st h same deep = arrives_no_pointers h
arrives_pointers (r_pointer q r k) m md p st h same deep =
    one_pointer q m md st k same deep (arrives_pointers r m md p st h same deep)
