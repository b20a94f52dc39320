-- The printed form of tokens, cut at its gaps, gives the tokens.
use Rattle.std.proofs.Common.{◌≡◌, ℕ, ◌+◌, ◌<◌, ◌^◌, ◌%◌, Bool, true, false, not, ◌||◌, ◌==◌, ◌⊎◌, inl, inr, subst, List, [], ◌∷◌, ◌++◌, cond, refl, ◌∙◌, ap, arith, codes}
use Rattle.std.specs.List.{list_all, flat_map, slice_split, AllByRecursion}
use Rattle.std.specs.Fmt.{decimal}
use Rattle.std.proofs.lemmas.Fmt.{decimal_by_steps}
use Rattle.std.proofs.lemmas.List.{append_assoc}
use Rattle.std.proofs.lemmas.List.Elements.{All-from_recursion}
use Rattle.std.proofs.lemmas.List.Splits.{slice_split_at}
use Rattle.std.proofs.lemmas.Bool.Decides.{nat_tests, Decides-eqb}
use Rattle.hv_plain.specs.Bytes.{is_gap}
use Rattle.hv_base.specs.Ascii.{is_nondigit, is_identifier_byte}
use Rattle.hv_model.specs.Name.{is_name, is_option_name}
use Rattle.hv_plain.specs.Program.{Literal, Statement, Program, shown, ends_a_line, literal_tokens, test_tokens, call_tokens, guarded_tokens, statement_tokens, declaration_tokens, head_tokens, program_tokens}
use Rattle.hv_plain.specs.Run.{variable_of}
use Rattle.hv_base.proofs.Booleans.{and_both, and_parts}
use Rattle.hv_encode.proofs.Lists.{list_all-append}

abbrev pub no_gap : List ℕ → Bool
no_gap token = list_all (λ byte. not (is_gap byte)) token

abbrev pub no_gaps : List (List ℕ) → Bool
no_gaps tokens = list_all no_gap tokens

not_true : (b : Bool) → not b ≡ true → b ≡ false
not_true true e = cc
not_true false e = refl

gapless : (token : List ℕ) → no_gap token ≡ true
    → AllByRecursion (λ byte. is_gap byte ≡ false) token
gapless [] h = tt
gapless (byte ∷ token) h =
    let parts = and_parts (not (is_gap byte)) (no_gap token) h in
    (not_true (is_gap byte) parts.0, gapless token parts.1)

end_is_gap : (ends : Bool) → is_gap (cond ends 10 32) ≡ true
end_is_gap true = refl
end_is_gap false = refl

pub split-shown : (tokens : List (List ℕ)) → no_gaps tokens ≡ true
    → slice_split is_gap (shown tokens) ≡ tokens ++ [] ∷ []
split-shown [] h = refl
split-shown (token ∷ tokens) h =
    let parts = and_parts (no_gap token) (no_gaps tokens) h in
    let end = cond (ends_a_line token) 10 32 in
    ap (slice_split is_gap) (append_assoc token (end ∷ []) (shown tokens))
    ∙ slice_split_at is_gap token end (shown tokens)
    (All-from_recursion (λ byte. is_gap byte ≡ false) token (gapless token parts.0))
    (end_is_gap (ends_a_line token))
    ∙ ap (λ rest. token ∷ rest) (split-shown tokens parts.1)

three_tests : (a b c : Bool) → ((a || b) || c) ≡ true → (a ≡ true) ⊎ ((b ≡ true) ⊎ (c ≡ true))
three_tests true b c e = inl refl
three_tests false true c e = inr (inl refl)
three_tests false false c e = inr (inr e)

-- a gap is no byte of an identifier
gap_is_other : (byte : ℕ) → is_identifier_byte byte ≡ true → ((byte == 32) ≡ true)
    ⊎ (((byte == 9) ≡ true) ⊎ ((byte == 10) ≡ true)) → ⊥
gap_is_other byte h (inl is) =
    let wrong : false ≡ true =
    subst (λ (b : ℕ). is_identifier_byte b ≡ true) ((Decides-eqb byte 32).0 is) h in cc
gap_is_other byte h (inr (inl is)) =
    let wrong : false ≡ true =
    subst (λ (b : ℕ). is_identifier_byte b ≡ true) ((Decides-eqb byte 9).0 is) h in cc
gap_is_other byte h (inr (inr is)) =
    let wrong : false ≡ true =
    subst (λ (b : ℕ). is_identifier_byte b ≡ true) ((Decides-eqb byte 10).0 is) h in cc

letter_by_test : (byte : ℕ) (gap : Bool) → is_gap byte ≡ gap → is_identifier_byte byte ≡ true
    → not gap ≡ true
letter_by_test byte true e h =
    absurd (gap_is_other byte h (three_tests (byte == 32) (byte == 9) (byte == 10) e))
letter_by_test byte false e h = refl

letter_is_no_gap : (byte : ℕ) → is_identifier_byte byte ≡ true → not (is_gap byte) ≡ true
letter_is_no_gap byte h = letter_by_test byte (is_gap byte) refl h

digit_is_no_gap : (n : ℕ) → n < 10 → not (is_gap (48 + n)) ≡ true
digit_is_no_gap n h = grind (arith, nat_tests)

decimal_has_none : (n : ℕ) → n < 2 ^ 64 → no_gap (decimal n) ≡ true
decimal_has_none n small =
    decimal_by_steps (λ _ digits. no_gap digits ≡ true)
    (λ m h. and_both _ _ (digit_is_no_gap m h) refl)
    (λ m front h before. list_all-append (λ byte. not (is_gap byte)) front ((48 + m % 10) ∷ [])
    ∙ and_both _ _ before (and_both _ _ (digit_is_no_gap (m % 10) (omega arith)) refl))
    n small

letters_have_none : (bytes : List ℕ) → list_all is_identifier_byte bytes ≡ true
    → no_gap bytes ≡ true
letters_have_none [] h = refl
letters_have_none (byte ∷ bytes) h =
    let parts = and_parts (is_identifier_byte byte) (list_all is_identifier_byte bytes) h in
    and_both _ _ (letter_is_no_gap byte parts.0) (letters_have_none bytes parts.1)

or_first : (a b : Bool) → a ≡ true → (a || b) ≡ true
or_first true b e = refl
or_first false b e = cc

name_has_none : (name : List ℕ) → is_name name ≡ true → no_gap name ≡ true
name_has_none [] h = refl
name_has_none (byte ∷ bytes) h =
    let parts = and_parts (is_nondigit byte) (list_all is_identifier_byte bytes) h in
    and_both _ _ (letter_is_no_gap byte (or_first (is_nondigit byte) _ parts.0))
    (letters_have_none bytes parts.1)

pub option_has_none : (name : List ℕ) → is_option_name name ≡ true → no_gap name ≡ true
option_has_none name h = name_has_none name (and_parts (is_name name) _ (and_parts _ _ h).0).0

-- the variable of an option has no gap, and so have the literals, statements and programs on it
pub variable_has_none : (name : List ℕ) → is_option_name name ≡ true
    → no_gap (variable_of name) ≡ true
variable_has_none name h = option_has_none name h

abbrev pub IsGapless : Literal → Type 0
IsGapless literal = no_gap literal.variable ≡ true

literal_has_none : (variable : List ℕ) (negated : Bool) → no_gap variable ≡ true
    → no_gaps (literal_tokens (record { variable = variable; negated = negated })) ≡ true
literal_has_none variable true h = and_both _ _ h refl
literal_has_none variable false h = and_both _ _ h refl

test_has_none : (test : List Literal) → AllByRecursion IsGapless test
    → no_gaps (test_tokens test) ≡ true
test_has_none [] h = refl
test_has_none (literal ∷ []) h = literal_has_none literal.variable literal.negated h.0
test_has_none (literal ∷ next ∷ more) h =
    list_all-append no_gap (literal_tokens literal) (codes "&&" ∷ test_tokens (next ∷ more))
    ∙ and_both _ _ (literal_has_none literal.variable literal.negated h.0)
    (test_has_none (next ∷ more) h.1)

call_has_none : (byte : ℕ) → byte < 256 → no_gaps (call_tokens byte) ≡ true
call_has_none byte h = and_both _ _ (decimal_has_none byte (omega arith)) refl

guarded_has_none : (test : List Literal) (byte : ℕ) → AllByRecursion IsGapless test → byte < 256
    → no_gaps (guarded_tokens test (call_tokens byte)) ≡ true
guarded_has_none [] byte h small = call_has_none byte small
guarded_has_none (literal ∷ more) byte h small =
    list_all-append no_gap (test_tokens (literal ∷ more)) (codes ")" ∷ call_tokens byte)
    ∙ and_both _ _ (test_has_none (literal ∷ more) h) (call_has_none byte small)

declarations_have_none : (variables : List (List ℕ))
    → AllByRecursion (λ variable. no_gap variable ≡ true) variables
    → no_gaps (flat_map declaration_tokens variables) ≡ true
declarations_have_none [] h = refl
declarations_have_none (variable ∷ variables) h =
    and_both _ _ h.0 (declarations_have_none variables h.1)

-- a statement on a byte, whose variables have no gap
pub record IsGaplessStatement (statement : Statement) : Type 0 where
  pub byte : statement.byte < 256
  pub test : AllByRecursion IsGapless statement.test

statements_have_none : (statements : List Statement) → AllByRecursion IsGaplessStatement statements
    → no_gaps (flat_map statement_tokens statements) ≡ true
statements_have_none [] h = refl
statements_have_none (statement ∷ statements) h =
    list_all-append no_gap (statement_tokens statement) (flat_map statement_tokens statements)
    ∙ and_both _ _ (guarded_has_none statement.test statement.byte h.0.test h.0.byte)
    (statements_have_none statements h.1)

pub program_has_none : (program : Program)
    → AllByRecursion (λ variable. no_gap variable ≡ true) program.variables
    → AllByRecursion IsGaplessStatement program.statements → no_gaps (program_tokens program) ≡ true
program_has_none program variables statements =
    list_all-append no_gap (flat_map declaration_tokens program.variables ++ head_tokens ++
    flat_map statement_tokens program.statements) (codes "}" ∷ [])
    ∙ and_both _ _
    (list_all-append no_gap (flat_map declaration_tokens program.variables ++ head_tokens)
    (flat_map statement_tokens program.statements)
    ∙ and_both _ _
    (list_all-append no_gap (flat_map declaration_tokens program.variables) head_tokens
    ∙ and_both _ _ (declarations_have_none program.variables variables) refl)
    (statements_have_none program.statements statements))
    refl
