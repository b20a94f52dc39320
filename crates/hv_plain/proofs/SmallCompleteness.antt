-- The reader answers the output of each small program, when it reads its tokens.
use Rattle.std.proofs.Common.{◌≡◌, ℕ, ◌<◌, ◌==◌, Bool, true, false, cond, not, ◌&&◌, List, [], ◌∷◌, ◌++◌, length, set, codes, refl, sym, ap, ◌∙◌, Option, None, Some, append_assoc, decimal}
use Rattle.std.specs.List.{All, Contains, list_all, flat_map, slice_get}
use Rattle.std.proofs.Math.Bool.{and-true, and_assoc}
use Rattle.std.proofs.lemmas.List.{append-nil, length-set, length-replicate}
use Rattle.std.proofs.lemmas.List.Elements.{All-head, All-tail}
use Rattle.hv_plain.specs.Program.{Literal, Statement, Program, IsTyped, IsTypedStatement, literal_tokens, test_tokens, call_tokens, guarded_tokens, statement_tokens, declaration_tokens, head_tokens, program_tokens}
use Rattle.hv_plain.specs.Run.{literal_holds, output_of, start, variables_of}
use Rattle.hv_plain.specs.working.SmallReader.{wanted, run_from, next, known_value, option_number, start_due, unknown}
use Rattle.hv_plain.specs.declared.small.reader.State.TheVariants.{Declarations, Body, Operand, AfterOperand, Byte}
use Rattle.hv_plain.proofs.ByteNumerals.{byte_of-decimal}
use Rattle.hv_plain.proofs.OptionVariables.{Agrees, Agrees-start, Agrees-declare, is_true, known_value-number, variable-is_no_bang, option_number-given}

not_not : (b : Bool) → not (not b) ≡ b
not_not true = refl
not_not false = refl

literal_read : (names : List (List ℕ)) (values : List Bool) (variables : List (List ℕ))
    (known : List (Option Bool)) (output : List ℕ) (holds : Bool) (v : List ℕ) (negated : Bool)
    (tokens : List (List ℕ)) → Agrees names values variables known → Contains variables v
    → run_from names values (wanted [] (Operand holds)) known output
    (cond negated (codes "!" ∷ v ∷ []) (v ∷ []) ++ tokens)
    ≡ run_from names values (wanted []
    (AfterOperand (holds &&
    cond negated (start names values v == 0) (not (start names values v == 0))))) known output
    tokens
literal_read names values variables known output holds v true tokens a h =
    let value : known_value names known v ≡ Some (is_true names values v) = a.complete v h in
    rw (value, not_not (start names values v == 0)) refl
literal_read names values variables known output holds v false tokens a h =
    let value : known_value names known v ≡ Some (is_true names values v) = a.complete v h in
    let number = known_value-number known (option_number names v) (is_true names values v) value in
    rw (variable-is_no_bang names v number.0 number.1, value) refl

test_read : (names : List (List ℕ)) (values : List Bool) (variables : List (List ℕ))
    (known : List (Option Bool)) (output : List ℕ) (holds : Bool) (literal : Literal)
    (more : List Literal) (tokens : List (List ℕ)) → Agrees names values variables known
    → All (λ (l : Literal). Contains variables l.variable) (literal ∷ more)
    → run_from names values (wanted [] (Operand holds)) known output
    (test_tokens (literal ∷ more) ++ tokens)
    ≡ run_from names values (wanted []
    (AfterOperand (holds && list_all (literal_holds (start names values)) (literal ∷ more)))) known
    output tokens
test_read names values variables known output holds literal [] tokens a h =
    literal_read names values variables known output holds literal.variable literal.negated tokens a
    (All-head (λ (l : Literal). Contains variables l.variable) literal [] h)
    ∙ ap (λ (b : Bool). run_from names values (wanted [] (AfterOperand (holds && b))) known output
    tokens) (sym (and-true (literal_holds (start names values) literal)))
test_read names values variables known output holds literal (next ∷ more) tokens a h =
    ap (run_from names values (wanted [] (Operand holds)) known output)
    (append_assoc (literal_tokens literal) (codes "&&" ∷ test_tokens (next ∷ more)) tokens)
    ∙ literal_read names values variables known output holds literal.variable literal.negated
    (codes "&&" ∷ (test_tokens (next ∷ more) ++ tokens)) a
    (All-head (λ (l : Literal). Contains variables l.variable) literal (next ∷ more) h)
    ∙ test_read names values variables known output
    (holds && literal_holds (start names values) literal) next more tokens a
    (All-tail (λ (l : Literal). Contains variables l.variable) literal (next ∷ more) h)
    ∙ ap (λ (b : Bool). run_from names values (wanted [] (AfterOperand b)) known output tokens)
    (and_assoc holds (literal_holds (start names values) literal)
    (list_all (literal_holds (start names values)) (next ∷ more)))

call_read : (names : List (List ℕ)) (values : List Bool) (known : List (Option Bool))
    (output : List ℕ) (holds : Bool) (byte : ℕ) (tokens : List (List ℕ)) → byte < 256
    → run_from names values (wanted [] (Byte holds)) known output
    (decimal byte ∷ codes ")" ∷ codes ";" ∷ tokens)
    ≡ run_from names values (wanted [] Body) known (output ++ cond holds (byte ∷ []) []) tokens
call_read names values known output true byte tokens h = rw (byte_of-decimal byte h) refl
call_read names values known output false byte tokens h =
    rw (byte_of-decimal byte h, append-nil output) refl

statement_read : (names : List (List ℕ)) (values : List Bool) (variables : List (List ℕ))
    (known : List (Option Bool)) (output : List ℕ) (test : List Literal) (byte : ℕ)
    (tokens : List (List ℕ)) → Agrees names values variables known → byte < 256
    → All (λ (l : Literal). Contains variables l.variable) test
    → run_from names values (wanted [] Body) known output
    (guarded_tokens test (call_tokens byte) ++ tokens)
    ≡ run_from names values (wanted [] Body) known
    (output ++ cond (list_all (literal_holds (start names values)) test) (byte ∷ []) []) tokens
statement_read names values variables known output [] byte tokens a small h =
    call_read names values known output true byte tokens small
statement_read names values variables known output (literal ∷ more) byte tokens a small h =
    ap (run_from names values (wanted [] (Operand true)) known output)
    (append_assoc (test_tokens (literal ∷ more)) (codes ")" ∷ call_tokens byte) tokens)
    ∙ test_read names values variables known output true literal more
    (codes ")" ∷ (call_tokens byte ++ tokens)) a h
    ∙ call_read names values known output
    (list_all (literal_holds (start names values)) (literal ∷ more)) byte tokens small

output_joined : (b : Bool) (output : List ℕ) (byte : ℕ) (rest : List ℕ)
    → (output ++ cond b (byte ∷ []) []) ++ rest ≡ output ++ cond b (byte ∷ rest) rest
output_joined true output byte rest = append_assoc output (byte ∷ []) rest
output_joined false output byte rest = append_assoc output [] rest

statements_read : (names : List (List ℕ)) (values : List Bool) (variables : List (List ℕ))
    (known : List (Option Bool)) (output : List ℕ) (statements : List Statement)
    (tokens : List (List ℕ)) → Agrees names values variables known
    → All (IsTypedStatement variables) statements
    → run_from names values (wanted [] Body) known output
    (flat_map statement_tokens statements ++ tokens)
    ≡ run_from names values (wanted [] Body) known
    (output ++ output_of (start names values) statements) tokens
statements_read names values variables known output [] tokens a h =
    ap (λ (o : List ℕ). run_from names values (wanted [] Body) known o tokens)
    (sym (append-nil output))
statements_read names values variables known output (statement ∷ more) tokens a h =
    let typed : IsTypedStatement variables statement =
    All-head (IsTypedStatement variables) statement more h in
    let holds : Bool = list_all (literal_holds (start names values)) statement.test in
    ap (run_from names values (wanted [] Body) known output)
    (append_assoc (statement_tokens statement) (flat_map statement_tokens more) tokens)
    ∙ statement_read names values variables known output statement.test statement.byte
    (flat_map statement_tokens more ++ tokens) a typed.byte typed.test
    ∙ statements_read names values variables known (output ++ cond holds (statement.byte ∷ []) [])
    more tokens a (All-tail (IsTypedStatement variables) statement more h)
    ∙ ap (λ (o : List ℕ). run_from names values (wanted [] Body) known o tokens)
    (output_joined holds output statement.byte (output_of (start names values) more))

declaration_read : (names : List (List ℕ)) (values : List Bool) (known : List (Option Bool))
    (output : List ℕ) (v : List ℕ) (i : ℕ) (tokens : List (List ℕ)) → option_number names v ≡ Some i
    → run_from names values (wanted [] Declarations) known output (declaration_tokens v ++ tokens)
    ≡ run_from names values (wanted [] Declarations) (set known i (slice_get values i)) output
    tokens
declaration_read names values known output v i tokens e = rw e refl

-- what is known after declarations
record Declared (names : List (List ℕ)) (values : List Bool) (variables : List (List ℕ))
    (known : List (Option Bool)) (more : List (List ℕ)) : Type 0 where
  known_then : List (Option Bool)
  agrees : Agrees names values (variables ++ more) known_then
  read : (output : List ℕ) (tokens : List (List ℕ))
      → run_from names values (wanted [] Declarations) known output
      (flat_map declaration_tokens more ++ tokens)
      ≡ run_from names values (wanted [] Declarations) known_then output tokens

declarations_read : (names : List (List ℕ)) (values : List Bool) (variables : List (List ℕ))
    (known : List (Option Bool)) (more : List (List ℕ)) → length values ≡ length names
    → length known ≡ length names → Agrees names values variables known
    → All (Contains (variables_of names)) more → Declared names values variables known more
declarations_read names values variables known [] l m a h = record {
  known_then = known;
  agrees = rw (append-nil variables) a;
  read = λ output tokens. refl;
}
declarations_read names values variables known (v ∷ more) l m a h =
    let number = option_number-given names v (All-head (Contains (variables_of names)) v more h) in
    let next_known : List (Option Bool) = set known number.0 (slice_get values number.0) in
    let rest : Declared names values (variables ++ v ∷ []) next_known more =
    declarations_read names values (variables ++ v ∷ []) next_known more l
    (length-set known number.0 (slice_get values number.0) ∙ m)
    (Agrees-declare names values variables known v number.0 number.1 l m a)
    (All-tail (Contains (variables_of names)) v more h) in
    record {
      known_then = rest.known_then;
      agrees = rw (← append_assoc variables (v ∷ []) more) rest.agrees;
      read = λ output tokens.
          declaration_read names values known output v number.0
          (flat_map declaration_tokens more ++ tokens) number.1
          ∙ rest.read output tokens;
    }

tokens_joined : (d h s e : List (List ℕ)) (last : List (List ℕ))
    → (d ++ h ++ s ++ e) ++ last ≡ d ++ (h ++ (s ++ (e ++ last)))
tokens_joined d h s e last = simp append_assoc

pub program_read : (names : List (List ℕ)) (values : List Bool) (program : Program)
    → length values ≡ length names → IsTyped (variables_of names) program
    → run_from names values start_due (unknown names) [] (program_tokens program ++ [] ∷ [])
    ≡ Some (output_of (start names values) program.statements)
program_read names values program l typed =
    let d : Declared names values [] (unknown names) program.variables =
    declarations_read names values [] (unknown names) program.variables l
    (length-replicate (length names) None) (Agrees-start names values) typed.variables in
    ap (run_from names values start_due (unknown names) [])
    (tokens_joined (flat_map declaration_tokens program.variables) head_tokens
    (flat_map statement_tokens program.statements) (codes "}" ∷ []) ([] ∷ []))
    ∙ d.read [] (head_tokens ++
    (flat_map statement_tokens program.statements ++ (codes "}" ∷ [] ∷ [])))
    ∙ statements_read names values program.variables d.known_then [] program.statements
    (codes "}" ∷ [] ∷ []) d.agrees typed.statements
