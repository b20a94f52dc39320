-- Where the reader answers an output, what it read is the tokens of a small program.
use Rattle.std.proofs.Common.{◌≡◌, ℕ, ◌<◌, Bool, true, false, cond, not, ◌&&◌, List, [], ◌∷◌, ◌++◌, length, set, codes, refl, sym, ap, ◌∙◌, arith, Option, None, Some, append_assoc, decimal, ◌⊎◌, inl, inr}
use Rattle.std.specs.List.{All, Contains, flat_map, slice_get}
use Rattle.std.specs.Option.{option_and_then}
use Rattle.std.specs.Str.{bytes_eq}
use Rattle.std.proofs.lemmas.Bool.Decides.{nat_tests}
use Rattle.std.proofs.lemmas.List.{append-nil, length-set, length-replicate}
use Rattle.std.proofs.lemmas.List.Elements.{All-nil, All-cons}
use Rattle.std.proofs.lemmas.Option.{cond_some, none-some}
use Rattle.std.proofs.lemmas.Slice.Eq.{bytes_eq-Decides}
use Rattle.hv_plain.specs.Program.{Literal, Statement, Program, IsTyped, IsTypedStatement, literal_tokens, test_tokens, call_tokens, statement_tokens, declaration_tokens, head_tokens, program_tokens}
use Rattle.hv_plain.specs.Run.{variables_of}
use Rattle.hv_plain.specs.working.SmallReader.{Reading, wanted, reading, moved, run_from, next, known_after, output_after, known_value, option_number, after_variable, after_negated, after_argument, declared, byte_of, start_due, unknown, is_done, rest_of_head}
use Rattle.hv_plain.specs.declared.small.reader.State.{State}
use Rattle.hv_plain.specs.declared.small.reader.State.TheVariants.{Declarations, Variable, Body, Operand, Negated, AfterOperand, Byte, End}
use Rattle.hv_plain.specs.declared.small.reader.Action.TheVariants.{Nothing, Declare, Write}
use Rattle.hv_plain.proofs.ByteNumerals.{decimal-byte_of}
use Rattle.hv_plain.proofs.SmallRun.{after}
use Rattle.hv_plain.proofs.OptionVariables.{Agrees, Agrees-start, Agrees-declare, given-option_number}

abbrev Tokens : Type 0
Tokens = List (List ℕ)

-- the statements of a `main` whose variables are declared, to the end of the text
record Statements (variables : List (List ℕ)) (tokens : Tokens) : Type 0 where
  statements : List Statement
  typed : All (IsTypedStatement variables) statements
  are : tokens ≡ flat_map statement_tokens statements ++ codes "}" ∷ [] ∷ []

-- a byte that is written, and what follows it
record Call (variables : List (List ℕ)) (tokens : Tokens) : Type 0 where
  byte : ℕ
  small : byte < 256
  rest : Tokens
  are : tokens ≡ decimal byte ∷ codes ")" ∷ codes ";" ∷ rest
  follow : Statements variables rest

abbrev IsDeclared : List (List ℕ) → Literal → Type 0
IsDeclared variables literal = Contains variables literal.variable

abbrev more_tokens : List Literal → Tokens
more_tokens [] = []
more_tokens (literal ∷ more) = codes "&&" ∷ (literal_tokens literal ++ more_tokens more)

-- the rest of a test
record Literals (variables : List (List ℕ)) (tokens : Tokens) : Type 0 where
  literals : List Literal
  known : All (IsDeclared variables) literals
  rest : Tokens
  are : tokens ≡ more_tokens literals ++ codes ")" ∷ codes "putchar" ∷ codes "(" ∷ rest
  follow : Call variables rest

record Test (variables : List (List ℕ)) (tokens : Tokens) : Type 0 where
  literal : Literal
  known : IsDeclared variables literal
  rest : Tokens
  are : tokens ≡ literal_tokens literal ++ rest
  follow : Literals variables rest

record NegatedTest (variables : List (List ℕ)) (tokens : Tokens) : Type 0 where
  variable : List ℕ
  known : Contains variables variable
  rest : Tokens
  are : tokens ≡ variable ∷ rest
  follow : Literals variables rest

-- the rest of the declarations, and what follows them
record Heads (given : List (List ℕ)) (variables : List (List ℕ)) (tokens : Tokens) : Type 0 where
  more : List (List ℕ)
  are_given : All (Contains given) more
  rest : Tokens
  are : tokens ≡ flat_map declaration_tokens more ++ head_tokens ++ rest
  follow : Statements (variables ++ more) rest

record NewVariable (given : List (List ℕ)) (variables : List (List ℕ)) (tokens : Tokens) : Type 0
  where
    variable : List ℕ
    is_given : Contains given variable
    rest : Tokens
    are : tokens ≡ variable ∷ codes ";" ∷ rest
    follow : Heads given (variables ++ variable ∷ []) rest

abbrev Follows : List (List ℕ) → List (List ℕ) → State → Tokens → Type 0
Follows given variables Declarations tokens = Heads given variables tokens
Follows given variables Variable tokens = NewVariable given variables tokens
Follows given variables Body tokens = Statements variables tokens
Follows given variables (Operand _) tokens = Test variables tokens
Follows given variables (Negated _) tokens = NegatedTest variables tokens
Follows given variables (AfterOperand _) tokens = Literals variables tokens
Follows given variables (Byte _) tokens = Call variables tokens
Follows given variables End tokens = tokens ≡ []

-- the words first, and then what the state says
record IsDue (given : List (List ℕ)) (variables : List (List ℕ)) (words : List (List ℕ))
    (state : State) (tokens : Tokens) : Type 0 where
  rest : Tokens
  are : tokens ≡ words ++ rest
  follow : Follows given variables state rest

same_text : (token word : List ℕ) → bytes_eq token word ≡ true → token ≡ word
same_text token word e = (bytes_eq-Decides token word).0 e

-- one step of a declaration, a statement or a test
heads_more : (given variables : List (List ℕ)) (token : List ℕ) (tokens : Tokens)
    → token ≡ codes "extern" → IsDue given variables (codes "int" ∷ []) Variable tokens
    → Heads given variables (token ∷ tokens)
heads_more given variables token tokens e due =
    let new : NewVariable given variables due.rest = due.follow in
    let last : Heads given (variables ++ new.variable ∷ []) new.rest = new.follow in
    let p = due.are in
    let q = new.are in
    let r = last.are in
    record {
      more = new.variable ∷ last.more;
      are_given = All-cons (Contains given) new.variable last.more new.is_given last.are_given;
      rest = last.rest;
      are = cc;
      follow = rw (← append_assoc variables (new.variable ∷ []) last.more) last.follow;
    }

heads_end : (given variables : List (List ℕ)) (token : List ℕ) (tokens : Tokens)
    → token ≡ codes "int" → IsDue given variables rest_of_head Body tokens
    → Heads given variables (token ∷ tokens)
heads_end given variables token tokens e due =
    let p = due.are in
    record {
      more = [];
      are_given = All-nil (Contains given);
      rest = due.rest;
      are = cc;
      follow = rw (append-nil variables) due.follow;
    }

call_more : (variables : List (List ℕ)) (given : List (List ℕ)) (token : List ℕ) (tokens : Tokens)
    (holds : Bool) → token ≡ codes "putchar"
    → IsDue given variables (codes "(" ∷ []) (Byte holds) tokens
    → Statements variables (token ∷ tokens)
call_more variables given token tokens holds e due =
    let call : Call variables due.rest = due.follow in
    let p = due.are in
    let q = call.are in
    let r = call.follow.are in
    let statement : Statement = record { test = []; byte = call.byte } in
    let typed : IsTypedStatement variables statement =
    record { byte = call.small; test = All-nil (IsDeclared variables) } in
    record {
      statements = statement ∷ call.follow.statements;
      typed =
          All-cons (IsTypedStatement variables) statement call.follow.statements typed
          call.follow.typed;
      are = cc;
    }

test_tokens-more : (literal : Literal) (more : List Literal)
    → test_tokens (literal ∷ more) ≡ literal_tokens literal ++ more_tokens more
test_tokens-more literal [] = sym (append-nil (literal_tokens literal))
test_tokens-more literal (next ∷ more) =
    ap (λ (x : Tokens). literal_tokens literal ++ codes "&&" ∷ x) (test_tokens-more next more)

joined : (l m c f e : Tokens) → l ++ (m ++ (c ++ (f ++ e))) ≡ ((l ++ m) ++ c) ++ f ++ e
joined l m c f e = simp append_assoc

if_more : (variables : List (List ℕ)) (given : List (List ℕ)) (token : List ℕ) (tokens : Tokens)
    (holds : Bool) → token ≡ codes "if"
    → IsDue given variables (codes "(" ∷ []) (Operand holds) tokens
    → Statements variables (token ∷ tokens)
if_more variables given token tokens holds e due =
    let test : Test variables due.rest = due.follow in
    let literals : Literals variables test.rest = test.follow in
    let call : Call variables literals.rest = literals.follow in
    let last : Statements variables call.rest = call.follow in
    let statement : Statement = record { test = test.literal ∷ literals.literals; byte = call.byte }
    in
    let typed : IsTypedStatement variables statement =
    record {
      byte = call.small;
      test =
          All-cons (IsDeclared variables) test.literal literals.literals test.known literals.known;
    }
    in
    let p = due.are in
    let q = test.are in
    let r = literals.are in
    let s = call.are in
    let t = last.are in
    let u =
    joined (literal_tokens test.literal) (more_tokens literals.literals)
    (codes ")" ∷ call_tokens call.byte) (flat_map statement_tokens last.statements)
    (codes "}" ∷ [] ∷ []) in
    let v = test_tokens-more test.literal literals.literals in
    record {
      statements = statement ∷ last.statements;
      typed = All-cons (IsTypedStatement variables) statement last.statements typed last.typed;
      are = cc;
    }

body_end : (variables given : List (List ℕ)) (token : List ℕ) (tokens : Tokens) → token ≡ codes "}"
    → IsDue given variables ([] ∷ []) End tokens → Statements variables (token ∷ tokens)
body_end variables given token tokens e due =
    let p = due.are in
    let q : due.rest ≡ [] = due.follow in
    record {
      statements = [];
      typed = All-nil (IsTypedStatement variables);
      are = cc;
    }

negated_test : (variables given : List (List ℕ)) (token : List ℕ) (tokens : Tokens) (holds : Bool)
    → token ≡ codes "!" → IsDue given variables [] (Negated holds) tokens
    → Test variables (token ∷ tokens)
negated_test variables given token tokens holds e due =
    let test : NegatedTest variables due.rest = due.follow in
    let p = due.are in
    let q = test.are in
    record {
      literal = record { variable = test.variable; negated = true };
      known = test.known;
      rest = test.rest;
      are = cc;
      follow = test.follow;
    }

literals_more : (variables given : List (List ℕ)) (token : List ℕ) (tokens : Tokens) (holds : Bool)
    → token ≡ codes "&&" → IsDue given variables [] (Operand holds) tokens
    → Literals variables (token ∷ tokens)
literals_more variables given token tokens holds e due =
    let test : Test variables due.rest = due.follow in
    let last : Literals variables test.rest = test.follow in
    let p = due.are in
    let q = test.are in
    let r = last.are in
    let s =
    append_assoc (literal_tokens test.literal) (more_tokens last.literals)
    (codes ")" ∷ codes "putchar" ∷ codes "(" ∷ last.rest) in
    record {
      literals = test.literal ∷ last.literals;
      known = All-cons (IsDeclared variables) test.literal last.literals test.known last.known;
      rest = last.rest;
      are = cc;
      follow = last.follow;
    }

literals_end : (variables given : List (List ℕ)) (token : List ℕ) (tokens : Tokens) (holds : Bool)
    → token ≡ codes ")" → IsDue given variables (codes "putchar" ∷ codes "(" ∷
    []) (Byte holds) tokens → Literals variables (token ∷ tokens)
literals_end variables given token tokens holds e due =
    let p = due.are in
    record {
      literals = [];
      known = All-nil (IsDeclared variables);
      rest = due.rest;
      are = cc;
      follow = due.follow;
    }

-- which way a test of a token went
taken : {X Y : Type 0} (then : X → Option Y) (b : Bool) (x : X) (rest : Option X) (y : Y)
    → option_and_then then (cond b (Some x) rest) ≡ Some y → ((b ≡ true) × (then x ≡ Some y))
    ⊎ (option_and_then then rest ≡ Some y)
taken then true x rest y e = inl (refl, e)
taken then false x rest y e = inr e

declared_some : {Y : Type 0} (then : Reading → Option Y) (o : Option ℕ) (y : Y)
    → option_and_then then (declared o) ≡ Some y → (i : ℕ) × (o ≡ Some i)
    × (then (reading (codes ";" ∷ []) Declarations (Declare i)) ≡ Some y)
declared_some then None y e = absurd (none-some y e)
declared_some then (Some i) y e = (i, refl, e)

operand_some : {Y : Type 0} (then : Reading → Option Y) (holds : Bool) (o : Option Bool) (y : Y)
    → option_and_then then (after_variable holds o) ≡ Some y → (value : Bool) × (o ≡ Some value)
    × (then (reading [] (AfterOperand (holds && value)) Nothing) ≡ Some y)
operand_some then holds None y e = absurd (none-some y e)
operand_some then holds (Some value) y e = (value, refl, e)

negated_some : {Y : Type 0} (then : Reading → Option Y) (holds : Bool) (o : Option Bool) (y : Y)
    → option_and_then then (after_negated holds o) ≡ Some y → (value : Bool) × (o ≡ Some value)
    × (then (reading [] (AfterOperand (holds && not value)) Nothing) ≡ Some y)
negated_some then holds None y e = absurd (none-some y e)
negated_some then holds (Some value) y e = (value, refl, e)

byte_some : {Y : Type 0} (then : Reading → Option Y) (holds : Bool) (o : Option ℕ) (y : Y)
    → option_and_then then (after_argument holds o) ≡ Some y → (byte : ℕ) × (o ≡ Some byte)
    × (then (reading (codes ")" ∷ codes ";" ∷ []) Body (cond holds (Write byte) Nothing)) ≡ Some y)
byte_some then holds None y e = absurd (none-some y e)
byte_some then holds (Some byte) y e = (byte, refl, e)

known_after-byte : (values : List Bool) (holds : Bool) (byte : ℕ) (known : List (Option Bool))
    → known_after values (cond holds (Write byte) Nothing) known ≡ known
known_after-byte values true byte known = refl
known_after-byte values false byte known = refl

end_due : (given variables : List (List ℕ)) (words : List (List ℕ)) (state : State)
    → is_done (wanted words state) ≡ true → IsDue given variables words state []
end_due given variables [] Declarations e = cc
end_due given variables [] Variable e = cc
end_due given variables [] Body e = cc
end_due given variables [] (Operand _) e = cc
end_due given variables [] (Negated _) e = cc
end_due given variables [] (AfterOperand _) e = cc
end_due given variables [] (Byte _) e = cc
end_due given variables [] End e = record { rest = []; are = refl; follow = refl }
end_due given variables (word ∷ words) state e = absurd (grind (arith, nat_tests))

-- what is read to an end is what was due
sound : (names : List (List ℕ)) (values : List Bool) (variables : List (List ℕ))
    (known : List (Option Bool)) (output : List ℕ) (words : List (List ℕ)) (state : State)
    (tokens : Tokens) (o : List ℕ) → length values ≡ length names → length known ≡ length names
    → Agrees names values variables known
    → run_from names values (wanted words state) known output tokens ≡ Some o
    → IsDue (variables_of names) variables words state tokens
sound names values variables known output words state [] o l m a e =
    end_due (variables_of names) variables words state
    ((cond_some (is_done (wanted words state)) output o e).0)
sound names values variables known output (word ∷ words) state (token ∷ tokens) o l m a e =
    elim (taken (after names values known output tokens) (bytes_eq token word)
    (reading words state Nothing) None o e) [
      | inl p ↦
          let due = sound names values variables known output words state tokens o l m a p.1 in
          let text = same_text token word p.0 in
          let q = due.are in
          record { rest = due.rest; are = cc; follow = due.follow }
      | inr p ↦ absurd (none-some o p)
    ]
sound names values variables known output [] Declarations (token ∷ tokens) o l m a e =
    elim (taken (after names values known output tokens) (bytes_eq token (codes "extern"))
    (reading (codes "int" ∷ []) Variable Nothing)
    (cond (bytes_eq token (codes "int")) (moved rest_of_head Body) None) o e) [
      | inl p ↦ record {
        rest = token ∷ tokens;
        are = refl;
        follow =
            heads_more (variables_of names) variables token tokens (same_text token (codes "extern") p.0)
            (sound names values variables known output (codes "int" ∷ []) Variable tokens o l m a p.1);
      }
      | inr f ↦ elim (taken (after names values known output tokens) (bytes_eq token (codes "int"))
          (reading rest_of_head Body Nothing) None o f) [
            | inl p ↦ record {
              rest = token ∷ tokens;
              are = refl;
              follow =
                  heads_end (variables_of names) variables token tokens (same_text token (codes "int") p.0)
                  (sound names values variables known output rest_of_head Body tokens o l m a p.1);
            }
            | inr p ↦ absurd (none-some o p)
          ]
    ]
sound names values variables known output [] Variable (token ∷ tokens) o l m a e =
    let p = declared_some (after names values known output tokens) (option_number names token) o e
    in
    let next_known : List (Option Bool) = set known p.0 (slice_get values p.0) in
    let due =
    sound names values (variables ++ token ∷ []) next_known output (codes ";" ∷ []) Declarations
    tokens o l (length-set known p.0 (slice_get values p.0) ∙ m)
    (Agrees-declare names values variables known token p.0 p.1 l m a) p.2 in
    let new : NewVariable (variables_of names) variables (token ∷ tokens) = record {
      variable = token;
      is_given = given-option_number names token p.0 p.1;
      rest = due.rest;
      are = ap (λ (x : Tokens). token ∷ x) due.are;
      follow = due.follow;
    } in
    record { rest = token ∷ tokens; are = refl; follow = new }
sound names values variables known output [] Body (token ∷ tokens) o l m a e =
    elim (taken (after names values known output tokens) (bytes_eq token (codes "putchar"))
    (reading (codes "(" ∷ []) (Byte true) Nothing)
    (cond (bytes_eq token (codes "if")) (moved (codes "(" ∷ []) (Operand true))
    (cond (bytes_eq token (codes "}")) (moved ([] ∷ []) End) None)) o e) [
      | inl p ↦ record {
        rest = token ∷ tokens;
        are = refl;
        follow =
            call_more variables (variables_of names) token tokens true
            (same_text token (codes "putchar") p.0)
            (sound names values variables known output (codes "(" ∷ []) (Byte true) tokens o l m a p.1);
      }
      | inr f ↦ elim (taken (after names values known output tokens) (bytes_eq token (codes "if"))
          (reading (codes "(" ∷ []) (Operand true) Nothing)
          (cond (bytes_eq token (codes "}")) (moved ([] ∷ []) End) None) o f) [
            | inl p ↦ record {
              rest = token ∷ tokens;
              are = refl;
              follow =
                  if_more variables (variables_of names) token tokens true (same_text token (codes "if") p.0)
                  (sound names values variables known output (codes "(" ∷ []) (Operand true) tokens o l m a
                  p.1);
            }
            | inr g ↦ elim (taken (after names values known output tokens) (bytes_eq token (codes "}"))
                (reading ([] ∷ []) End Nothing) None o g) [
                  | inl p ↦ record {
                    rest = token ∷ tokens;
                    are = refl;
                    follow =
                        body_end variables (variables_of names) token tokens (same_text token (codes "}") p.0)
                        (sound names values variables known output ([] ∷ []) End tokens o l m a p.1);
                  }
                  | inr p ↦ absurd (none-some o p)
                ]
          ]
    ]
sound names values variables known output [] (Operand holds) (token ∷ tokens) o l m a e =
    elim (taken (after names values known output tokens) (bytes_eq token (codes "!"))
    (reading [] (Negated holds) Nothing) (after_variable holds (known_value names known token)) o
    e) [
      | inl p ↦ record {
        rest = token ∷ tokens;
        are = refl;
        follow =
            negated_test variables (variables_of names) token tokens holds
            (same_text token (codes "!") p.0)
            (sound names values variables known output [] (Negated holds) tokens o l m a p.1);
      }
      | inr f ↦
          let p =
          operand_some (after names values known output tokens) holds
          (known_value names known token) o f in
          let due =
          sound names values variables known output [] (AfterOperand (holds && p.0)) tokens o l m a
          p.2 in
          let test : Test variables (token ∷ tokens) = record {
            literal = record { variable = token; negated = false };
            known = a.sound token p.0 p.1;
            rest = due.rest;
            are = ap (λ (x : Tokens). token ∷ x) due.are;
            follow = due.follow;
          } in
          record { rest = token ∷ tokens; are = refl; follow = test }
    ]
sound names values variables known output [] (Negated holds) (token ∷ tokens) o l m a e =
    let p =
    negated_some (after names values known output tokens) holds (known_value names known token)
    o e in
    let due =
    sound names values variables known output [] (AfterOperand (holds && not p.0)) tokens o l m
    a p.2 in
    let test : NegatedTest variables (token ∷ tokens) = record {
      variable = token;
      known = a.sound token p.0 p.1;
      rest = due.rest;
      are = ap (λ (x : Tokens). token ∷ x) due.are;
      follow = due.follow;
    } in
    record { rest = token ∷ tokens; are = refl; follow = test }
sound names values variables known output [] (AfterOperand holds) (token ∷ tokens) o l m a e =
    elim (taken (after names values known output tokens) (bytes_eq token (codes "&&"))
    (reading [] (Operand holds) Nothing)
    (cond (bytes_eq token (codes ")")) (moved (codes "putchar" ∷ codes "(" ∷ []) (Byte holds)) None)
    o e) [
      | inl p ↦ record {
        rest = token ∷ tokens;
        are = refl;
        follow =
            literals_more variables (variables_of names) token tokens holds
            (same_text token (codes "&&") p.0)
            (sound names values variables known output [] (Operand holds) tokens o l m a p.1);
      }
      | inr f ↦ elim (taken (after names values known output tokens) (bytes_eq token (codes ")"))
          (reading (codes "putchar" ∷ codes "(" ∷ []) (Byte holds) Nothing) None o f) [
            | inl p ↦ record {
              rest = token ∷ tokens;
              are = refl;
              follow =
                  literals_end variables (variables_of names) token tokens holds
                  (same_text token (codes ")") p.0)
                  (sound names values variables known output (codes "putchar" ∷ codes "(" ∷ []) (Byte holds)
                  tokens o l m a p.1);
            }
            | inr p ↦ absurd (none-some o p)
          ]
    ]
sound names values variables known output [] (Byte holds) (token ∷ tokens) o l m a e =
    let p = byte_some (after names values known output tokens) holds (byte_of token) o e in
    let same : known_after values (cond holds (Write p.0) Nothing) known ≡ known =
    known_after-byte values holds p.0 known in
    let due =
    sound names values variables (known_after values (cond holds (Write p.0) Nothing) known)
    (output_after (cond holds (Write p.0) Nothing) output) (codes ")" ∷ codes ";" ∷ []) Body
    tokens o l (ap length same ∙ m) (rw same a) p.2 in
    let numeral = decimal-byte_of token p.0 p.1 in
    let q = numeral.1 in
    let r = due.are in
    let call : Call variables (token ∷ tokens) = record {
      byte = p.0;
      small = numeral.0;
      rest = due.rest;
      are = cc;
      follow = due.follow;
    } in
    record { rest = token ∷ tokens; are = refl; follow = call }
sound names values variables known output [] End (token ∷ tokens) o l m a e = absurd (none-some o e)

tokens_joined : (d h s e : Tokens) (last : Tokens)
    → d ++ h ++ (s ++ (e ++ last)) ≡ (d ++ h ++ s ++ e) ++ last
tokens_joined d h s e last = simp append_assoc

-- the program that tokens are
pub record IsRead (names : List (List ℕ)) (tokens : Tokens) : Type 0 where
  pub program : Program
  pub are : tokens ≡ program_tokens program ++ [] ∷ []
  pub typed : IsTyped (variables_of names) program

pub tokens_read : (names : List (List ℕ)) (values : List Bool) (tokens : Tokens) (o : List ℕ)
    → length values ≡ length names
    → run_from names values start_due (unknown names) [] tokens ≡ Some o → IsRead names tokens
tokens_read names values tokens o l e =
    let due =
    sound names values [] (unknown names) [] [] Declarations tokens o l
    (length-replicate (length names) None) (Agrees-start names values) e in
    let heads : Heads (variables_of names) [] due.rest = due.follow in
    let last : Statements heads.more heads.rest = heads.follow in
    let p = due.are in
    let q = heads.are in
    let r = last.are in
    let s =
    tokens_joined (flat_map declaration_tokens heads.more) head_tokens
    (flat_map statement_tokens last.statements) (codes "}" ∷ []) ([] ∷ []) in
    record {
      program = record { variables = heads.more; statements = last.statements };
      are = cc;
      typed = record { variables = heads.are_given; statements = last.typed };
    }
