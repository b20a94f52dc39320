-- The text of each part of a program, as it is written.
use Rattle.std.proofs.Common.{◌≡◌, ℕ, ◌+◌, ◌<◌, ◌≤◌, ◌%◌, ◌^◌, Bool, true, false, ◌&&◌, ◌||◌, ◌==◌, List, [], ◌∷◌, ◌++◌, map, cond, refl, sym, ◌∙◌, ap, subst, arith, length, get_or, take, codes, decimal, Result, Ok, Err, OnOk, Some, slice_get, zero, suc}
use Rattle.std.specs.List.{flat_map, list_all}
use Rattle.std.proofs.lemmas.Bool.Decides.{nat_tests}
use Rattle.std.proofs.lemmas.Fmt.{decimal_by_steps}
use Rattle.std.proofs.lemmas.Grind.{flat_map-append}
use Rattle.std.proofs.lemmas.List.{append_assoc, append-nil, take_more, take_all, map-append}
use Rattle.hv_base.specs.Ascii.{is_digit}
use Rattle.hv_plain.specs.Program.{Literal, Statement, shown, shown_token, ends_a_line, literal_tokens, test_tokens, call_tokens, statement_tokens, declaration_tokens, head_tokens, program_tokens}
use Rattle.hv_plain.specs.Run.{variable_of, variables_of}
use Rattle.hv_encode.specs.working.Lift.{IsBegun, is_tested, literal_of, opening_tokens, statements_of, test_text}
use Rattle.hv_encode.specs.declared.small.program.Block.{Block}
use Rattle.hv_encode.specs.declared.small.program.OptionTest.{OptionTest}
use Rattle.hv_encode.specs.working.Lift.{program_with}
use Rattle.hv_encode.proofs.Lists.{list_all-append}
use Rattle.std.proofs.lemmas.Result.{on_ok_weaker}
use Rattle.hv_base.proofs.Booleans.{and_both, and_parts}

-- three writes in a row are one
pub wrote_three : {T E : Type 0} (r : Result T E) (t0 t1 t2 t3 a b c x : List ℕ) → t1 ≡ t0 ++ a
    → t2 ≡ t1 ++ b → OnOk r (t3 ≡ t2 ++ c) → a ++ (b ++ c) ≡ x → OnOk r (t3 ≡ t0 ++ x)
wrote_three (Err e) t0 t1 t2 t3 a b c x p q h is = tt
wrote_three (Ok v) t0 t1 t2 t3 a b c x p q h is =
    h ∙ ap (λ t. t ++ c) (q ∙ ap (λ t. t ++ b) p) ∙ append_assoc (t0 ++ a) b c
    ∙ append_assoc t0 a (b ++ c) ∙ ap (λ t. t0 ++ t) is

pub declaration_text : (name : List ℕ)
    → codes "extern int hv_opt_" ++ (name ++ codes " ;\n")
    ≡ shown (declaration_tokens (variable_of name))
declaration_text name =
    ap (λ rest. codes "extern int hv_opt_" ++ rest)
    (sym (append_assoc name (codes " ") (codes ";\n")))

pub literal_text : (name : List ℕ) (negated : Bool)
    → cond negated (codes "! hv_opt_") (codes "hv_opt_") ++ (name ++ codes " ")
    ≡ shown (literal_tokens (record { variable = variable_of name; negated = negated }))
literal_text name true =
    ap (λ rest. codes "! hv_opt_" ++ rest) (sym (append-nil (name ++ codes " ")))
literal_text name false =
    ap (λ rest. codes "hv_opt_" ++ rest) (sym (append-nil (name ++ codes " ")))

digit_is_one : (n : ℕ) → n < 10 → is_digit (48 + n) ≡ true
digit_is_one n h = grind (arith, nat_tests)

decimal_digits : (n : ℕ) → n < 2 ^ 64 → list_all is_digit (decimal n) ≡ true
decimal_digits n small =
    decimal_by_steps (λ _ digits. list_all is_digit digits ≡ true)
    (λ m h. and_both _ _ (digit_is_one m h) refl)
    (λ m front h before. list_all-append is_digit front ((48 + m % 10) ∷ [])
    ∙ and_both _ _ before (and_both _ _ (digit_is_one (m % 10) (omega arith)) refl))
    n small

digit_is_not : (byte other : ℕ) → is_digit byte ≡ true → 57 < other → (byte == other) ≡ false
digit_is_not byte other h far = grind (arith, nat_tests)

all_false : (a b c p q r : Bool) → a ≡ false → b ≡ false → c ≡ false
    → (((a && p) || (b && q)) || (c && r)) ≡ false
all_false a b c p q r x y z = rw (x, y, z) refl

digits_end_none : (token : List ℕ) → list_all is_digit token ≡ true → ends_a_line token ≡ false
digits_end_none [] h = refl
digits_end_none (byte ∷ token) h =
    let digit = (and_parts (is_digit byte) (list_all is_digit token) h).0 in
    all_false _ _ _ _ _ _ (digit_is_not byte 59 digit (omega arith))
    (digit_is_not byte 123 digit (omega arith)) (digit_is_not byte 125 digit (omega arith))

pub call_text : (byte : ℕ) → byte < 256
    → codes "putchar ( " ++ (decimal byte ++ codes " ) ;\n") ≡ shown (call_tokens byte)
call_text byte small =
    ap (λ rest. codes "putchar ( " ++ rest)
    (sym (append_assoc (decimal byte) (codes " ") (codes ") ;\n"))
    ∙ ap (λ ends. (decimal byte ++ cond ends 10 32 ∷ []) ++ codes ") ;\n")
    (sym (digits_end_none (decimal byte) (decimal_digits byte (omega arith)))))

pub shown-append : (xs ys : List (List ℕ)) → shown (xs ++ ys) ≡ shown xs ++ shown ys
shown-append xs ys = flat_map-append shown_token xs ys

tests_more : (first : Literal) (test : List Literal) (literal : Literal)
    → shown (test_tokens (first ∷ test)) ++ (codes "&& " ++ shown (literal_tokens literal))
    ≡ shown (test_tokens (first ∷ (test ++ literal ∷ [])))
tests_more first [] literal =
    sym (shown-append (literal_tokens first) (codes "&&" ∷ literal_tokens literal))
tests_more first (next ∷ more) literal =
    ap (λ t. t ++ (codes "&& " ++ shown (literal_tokens literal)))
    (shown-append (literal_tokens first) (codes "&&" ∷ test_tokens (next ∷ more)))
    ∙ append_assoc (shown (literal_tokens first)) (codes "&& " ++ shown (test_tokens (next ∷ more)))
    (codes "&& " ++ shown (literal_tokens literal))
    ∙ ap (λ t. shown (literal_tokens first) ++ (codes "&& " ++ t)) (tests_more next more literal)
    ∙ sym (shown-append (literal_tokens first)
    (codes "&&" ∷ test_tokens (next ∷ (more ++ literal ∷ []))))

opening_more : (test : List Literal) (literal : Literal)
    → shown (opening_tokens test) ++
    (cond (is_tested test) (codes "&& ") (codes "if ( ") ++ shown (literal_tokens literal))
    ≡ shown (opening_tokens (test ++ literal ∷ []))
opening_more [] literal = refl
opening_more (first ∷ test) literal = ap (λ t. codes "if ( " ++ t) (tests_more first test literal)

tested_more : (test : List Literal) (literal : Literal) → is_tested (test ++ literal ∷ []) ≡ true
tested_more [] literal = refl
tested_more (first ∷ test) literal = refl

pub begun_more : (before : List ℕ) (test : List Literal) (literal : Literal) (t0 t1 t2 : List ℕ)
    (tested : Bool) → IsBegun before test t0 tested
    → t1 ≡ t0 ++ cond tested (codes "&& ") (codes "if ( ")
    → t2 ≡ t1 ++ shown (literal_tokens literal) → IsBegun before (test ++ literal ∷ []) t2 true
begun_more before test literal t0 t1 t2 tested begun p q = record {
  is_written =
      let O = cond tested (codes "&& ") (codes "if ( ") in
      let L = shown (literal_tokens literal) in
      q ∙ ap (λ t. t ++ L) (p ∙ ap (λ t. t ++ O) begun.is_written)
      ∙ append_assoc (before ++ shown (opening_tokens test)) O L
      ∙ append_assoc before (shown (opening_tokens test)) (O ++ L)
      ∙ ap (λ told. before ++ (shown (opening_tokens test) ++
      (cond told (codes "&& ") (codes "if ( ") ++ L))) begun.is_told
      ∙ ap (λ t. before ++ t) (opening_more test literal);
  is_told = sym (tested_more test literal);
}

-- a test with its parentheses, after what is written of it
pub test_end : (before : List ℕ) (test : List Literal) (t0 t1 closed : List ℕ) (tested : Bool)
    → IsBegun before test t0 tested
    → closed ≡ cond tested (codes ") ") [] → t1 ≡ t0 ++ closed → t1 ≡ before ++ test_text test
test_end before test t0 t1 closed tested begun is p =
    p ∙ ap (λ t. t0 ++ t) is ∙ ap (λ t. t ++ cond tested (codes ") ") []) begun.is_written
    ∙ append_assoc before (shown (opening_tokens test)) (cond tested (codes ") ") [])
    ∙ ap (λ told. before ++ (shown (opening_tokens test) ++ cond told (codes ") ") []))
    begun.is_told

-- a test and a call are a statement
statement_text : (test : List Literal) (byte : ℕ)
    → test_text test ++ shown (call_tokens byte)
    ≡ shown (statement_tokens (record { test = test; byte = byte }))
statement_text [] byte = refl
statement_text (first ∷ test) byte =
    append_assoc (shown (opening_tokens (first ∷ test))) (codes ") ") (shown (call_tokens byte))
    ∙ ap (λ t. codes "if ( " ++ t)
    (sym (shown-append (test_tokens (first ∷ test)) (codes ")" ∷ call_tokens byte)))

pub name_is : (names : List (List ℕ)) (option : ℕ) (name : List ℕ)
    → slice_get names option ≡ Some name → name ≡ get_or names option []
name_is [] option name e = cc
name_is (first ∷ names) zero name e = cc
name_is (first ∷ names) (suc option) name e = name_is names option name e

-- the statement with this test that writes a byte
abbrev pub statement_with : List Literal → ℕ → Statement
statement_with test byte = record { test = test; byte = byte }

-- the text of statements
abbrev pub statements_text : List Statement → List ℕ
statements_text statements = shown (flat_map statement_tokens statements)

pub statements_text-append : (first more : List Statement)
    → statements_text (first ++ more) ≡ statements_text first ++ statements_text more
statements_text-append first more =
    ap shown (flat_map-append statement_tokens first more)
    ∙ shown-append (flat_map statement_tokens first) (flat_map statement_tokens more)

-- one more statement of a block
pub statement_next : (test : List Literal) (bytes : List ℕ) (i : ℕ) (before t0 t1 t2 own : List ℕ)
    → i < length bytes → own ≡ [] ++ test_text test
    → t0 ≡ before ++ statements_text (map (statement_with test) (take i bytes)) → t1 ≡ t0 ++ own
    → t2 ≡ t1 ++ shown (call_tokens (get_or bytes i 0))
    → t2 ≡ before ++ statements_text (map (statement_with test) (take (i + 1) bytes))
statement_next test bytes i before t0 t1 t2 own within is p q r =
    let old = statements_text (map (statement_with test) (take i bytes)) in
    let one = statement_with test (get_or bytes i 0) in
    let call = shown (call_tokens (get_or bytes i 0)) in
    let text : own ++ call ≡ statements_text (one ∷ []) =
    ap (λ t. t ++ call) is ∙ statement_text test (get_or bytes i 0)
    ∙ ap shown (sym (append-nil (statement_tokens one))) in
    let next : statements_text (map (statement_with test) (take (i + 1) bytes)) ≡ old ++
    statements_text (one ∷ []) =
    ap (λ (some : List ℕ). statements_text (map (statement_with test) some))
    (take_more bytes i 0 within)
    ∙ ap statements_text (map-append (statement_with test) (take i bytes) (get_or bytes i 0 ∷ []))
    ∙ statements_text-append (map (statement_with test) (take i bytes)) (one ∷ []) in
    r ∙ ap (λ t. t ++ call) (q ∙ ap (λ t. t ++ own) p)
    ∙ append_assoc (before ++ old) own call ∙ append_assoc before old (own ++ call)
    ∙ ap (λ t. before ++ t) (ap (λ t. old ++ t) text ∙ sym next)

pub declared_next : (names : List (List ℕ)) (i : ℕ) (name before t0 t1 : List ℕ) → i < length names
    → name ≡ get_or names i []
    → t0 ≡ before ++ shown (flat_map declaration_tokens (variables_of (take i names)))
    → t1 ≡ t0 ++ shown (declaration_tokens (variable_of name))
    → t1 ≡ before ++ shown (flat_map declaration_tokens (variables_of (take (i + 1) names)))
declared_next names i name before t0 t1 within is p q =
    let F = λ (variables : List (List ℕ)). flat_map declaration_tokens variables in
    let old = F (variables_of (take i names)) in
    let new = declaration_tokens (variable_of (get_or names i [])) in
    let next : F (variables_of (take (i + 1) names)) ≡ old ++ new =
    ap (λ ns. F (variables_of ns)) (take_more names i [] within)
    ∙ ap F (map-append variable_of (take i names) (get_or names i [] ∷ []))
    ∙ flat_map-append declaration_tokens (variables_of (take i names))
    (variable_of (get_or names i []) ∷ []) ∙ ap (λ t. old ++ t) (append-nil new) in
    q ∙ ap (λ t. t ++ shown (declaration_tokens (variable_of name))) p
    ∙ ap (λ n. (before ++ shown old) ++ shown (declaration_tokens (variable_of n))) is
    ∙ append_assoc before (shown old) (shown new)
    ∙ ap (λ t. before ++ t) (sym (shown-append old new) ∙ ap shown (sym next))

module _ (names : List (List ℕ)) where
  -- the parts of the printed metaproduct, one behind the other
  -- one more test
  pub begun_next : (before : List ℕ) (tests : List OptionTest) (i : ℕ) (d : OptionTest)
      (t0 t1 t2 : List ℕ) (tested : Bool) → i < length tests
      → IsBegun before (map (literal_of names) (take i tests)) t0 tested
      → t1 ≡ t0 ++ cond tested (codes "&& ") (codes "if ( ")
      → t2 ≡ t1 ++ shown (literal_tokens (literal_of names (get_or tests i d)))
      → IsBegun before (map (literal_of names) (take (i + 1) tests)) t2 true
  begun_next before tests i d t0 t1 t2 tested within begun p q =
      let next : map (literal_of names) (take (i + 1) tests)
      ≡ map (literal_of names) (take i tests) ++ literal_of names (get_or tests i d) ∷ [] =
      ap (map (literal_of names)) (take_more tests i d within)
      ∙ map-append (literal_of names) (take i tests) (get_or tests i d ∷ []) in
      let P : List Literal → Type 0 = λ test. IsBegun before test t2 true in
      subst P (sym next) (begun_more before (map (literal_of names) (take i tests))
      (literal_of names (get_or tests i d)) t0 t1 t2 tested begun p q)

  pub test_all : {T E : Type 0} (r : Result T E) (before : List ℕ) (tests : List OptionTest) (i : ℕ)
      (t0 t1 closed : List ℕ) (tested : Bool) → length tests ≤ i
      → IsBegun before (map (literal_of names) (take i tests)) t0 tested
      → closed ≡ cond tested (codes ") ") [] → OnOk r (t1 ≡ t0 ++ closed)
      → OnOk r (t1 ≡ before ++ test_text (map (literal_of names) tests))
  test_all r before tests i t0 t1 closed tested past begun is p =
      let P : List OptionTest → Type 0 =
      λ all. IsBegun before (map (literal_of names) all) t0 tested in
      on_ok_weaker r (test_end before (map (literal_of names) tests) t0 t1 closed tested
      (subst P (take_all i tests past) begun) is) p

  -- one more block
  pub block_next : (blocks : List Block) (i : ℕ) (d : Block) (before t0 t1 : List ℕ)
      → i < length blocks
      → t0 ≡ before ++ statements_text (flat_map (statements_of names) (take i blocks))
      → t1 ≡ t0 ++ statements_text (statements_of names (get_or blocks i d))
      → t1 ≡ before ++ statements_text (flat_map (statements_of names) (take (i + 1) blocks))
  block_next blocks i d before t0 t1 within p q =
      let old = flat_map (statements_of names) (take i blocks) in
      let new = statements_of names (get_or blocks i d) in
      let next : flat_map (statements_of names) (take (i + 1) blocks) ≡ old ++ new =
      ap (flat_map (statements_of names)) (take_more blocks i d within)
      ∙ flat_map-append (statements_of names) (take i blocks) (get_or blocks i d ∷ [])
      ∙ ap (λ t. old ++ t) (append-nil new) in
      q ∙ ap (λ t. t ++ statements_text new) p
      ∙ append_assoc before (statements_text old) (statements_text new)
      ∙ ap (λ t. before ++ t) (sym (statements_text-append old new) ∙ ap statements_text (sym next))

  pub product_text : (statements : List Statement) (t1 t2 t3 t4 : List ℕ)
      → t1 ≡ [] ++ shown (flat_map declaration_tokens (variables_of names))
      → t2 ≡ t1 ++ codes "int putchar ( int ) ;\nint main ( void ) {\n"
      → t3 ≡ t2 ++ statements_text statements → t4 ≡ t3 ++ codes "}\n"
      → t4 ≡ shown (program_tokens (program_with names statements))
  product_text statements t1 t2 t3 t4 p q r s =
      let D = flat_map declaration_tokens (variables_of names) in
      let S = flat_map statement_tokens statements in
      s ∙ ap (λ t. t ++ codes "}\n")
      (r ∙ ap (λ t. t ++ shown S) (q ∙ ap (λ t. t ++ shown head_tokens) p))
      ∙ sym (shown-append (D ++ head_tokens ++ S) (codes "}" ∷ [])
      ∙ ap (λ t. t ++ codes "}\n") (shown-append (D ++ head_tokens) S
      ∙ ap (λ t. t ++ shown S) (shown-append D head_tokens)))
