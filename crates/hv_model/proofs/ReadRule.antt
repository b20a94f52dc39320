-- A rule that is being read.
use Rattle.std.proofs.Common.{◌≡◌, ℕ, Bool, true, false, ◌&&◌, List, [], ◌∷◌, sym, ◌∙◌, ap, length, ◌<◌, Option, Some, None}
use Rattle.std.specs.Prelude.{option_and_then, IfSome, IfNone, IfOk, Result, Ok, Err}
use Rattle.std.specs.List.{list_all}
use Rattle.hv_base.proofs.Booleans.{and_true}
use Rattle.hv_model.specs.Grammar.{IsRule}
use Rattle.hv_model.specs.working.Known.{is_known}
use Rattle.hv_model.specs.working.Machine.{Machine, IsSaid, IsTaken, limited_step, limited_run, start, finished, expr_done}
use Rattle.hv_model.specs.working.Parsed.{machine_of}
use Rattle.hv_model.specs.Rule.{Rule, is_about}
use Rattle.hv_model.specs.working.Steps.{items_of, rule_of, fits}
use Rattle.hv_model.specs.Token.{Token, tokens}
use Rattle.hv_model.specs.declared.code.Step.{Step}
use Rattle.hv_model.specs.declared.parser.Parser.{Parser}
use Rattle.hv_model.proofs.Known.{about, about-expr, about-items_of, about-limited_step, is_about-derived}
use Rattle.hv_model.proofs.Limits.{IsBounded, bounded_start, bounded_step, room, IsRule-from_run, no_rule-from_run}

-- what is left is read after what was read so far
pub record IsReading (names : List (List ℕ)) (text : List ℕ) (parser : Parser)
    (rest : List ℕ) : Type 0 where
  pub runs : limited_run names start (tokens text)
      ≡ limited_run names (machine_of parser) (tokens rest)
  pub bounded : IsBounded (machine_of parser)
  pub known : (n : ℕ) → (about n (items_of parser.code) &&
      list_all (is_known n names) (tokens rest)) ≡ list_all (is_known n names) (tokens text)

pub reading_start : (names : List (List ℕ)) (text : List ℕ) (parser : Parser)
    → machine_of parser ≡ start → IsReading names text parser text
reading_start names text parser e =
    record {
      runs = ap (λ m. limited_run names m (tokens text)) (sym e);
      bounded = bounded_at e;
      known =
          λ n. ap (λ (m : Machine). about n m.items && list_all (is_known n names) (tokens text)) e;
    }
  where
    bounded_at : machine_of parser ≡ start → IsBounded (machine_of parser)
    bounded_at e = rw e bounded_start

pub reading_room : (names : List (List ℕ)) (text rest : List ℕ) (parser : Parser)
    → IsReading names text parser rest → length (items_of parser.code) < 1024
reading_room names text rest parser h = room (machine_of parser) h.bounded

pub reading_step : (names : List (List ℕ)) (text rest more : List ℕ) (old new : Parser) (t : Token)
    → IsReading names text old rest → tokens rest ≡ t ∷ tokens more
    → limited_step names (machine_of old) t ≡ Some (machine_of new) → IsReading names text new more
reading_step names text rest more old new t h cut e =
    record {
      runs = h.runs ∙ (ap (limited_run names (machine_of old)) cut
          ∙ ap (λ o. option_and_then (λ next. limited_run names next (tokens more)) o) e);
      bounded = bounded_step names _ _ _ _ t (machine_of new) e h.bounded;
      known = λ n. about-limited_step n names _ _ _ _ t (tokens more) (machine_of new) e
          ∙ (ap (λ ts. about n (items_of old.code) && list_all (is_known n names) ts) (sym cut)
          ∙ h.known n);
    }

pub reading_stuck : (names : List (List ℕ)) (text rest more : List ℕ) (old : Parser) (t : Token)
    → IsReading names text old rest → tokens rest ≡ t ∷ tokens more
    → limited_step names (machine_of old) t ≡ None → (r : Rule) → IsRule names (tokens text) r → ⊥
reading_stuck names text rest more old t h cut e =
    no_rule-from_run names (tokens text)
    (h.runs ∙ (ap (limited_run names (machine_of old)) cut
    ∙ ap (λ o. option_and_then (λ next. limited_run names next (tokens more)) o) e))

ends : (names : List (List ℕ)) (text rest : List ℕ) (parser : Parser)
    → IsReading names text parser rest → tokens rest ≡ []
    → limited_run names start (tokens text) ≡ finished (machine_of parser)
ends names text rest parser h none = h.runs ∙ ap (limited_run names (machine_of parser)) none

pub reading_none : (names : List (List ℕ)) (text rest : List ℕ) (parser : Parser)
    (code : Option (List Step)) → IsReading names text parser rest → tokens rest ≡ []
    → IsSaid (finished (machine_of parser)) code
    → IfNone code ((r : Rule) → IsRule names (tokens text) r → ⊥)
reading_none names text rest parser None h none said =
    no_rule-from_run names (tokens text) (ends names text rest parser h none ∙ said)
reading_none names text rest parser (Some steps) h none said = tt

pub reading_some : (names : List (List ℕ)) (text rest : List ℕ) (parser : Parser)
    (code : Option (List Step)) → IsReading names text parser rest → tokens rest ≡ []
    → IsSaid (finished (machine_of parser)) code
    → IfSome code (λ steps. IsRule names (tokens text) (rule_of steps))
reading_some names text rest parser None h none said = tt
reading_some names text rest parser (Some steps) h none said =
    IsRule-from_run names (tokens text) (rule_of steps) (ends names text rest parser h none ∙ said)

pub reading_about : (names : List (List ℕ)) (text rest : List ℕ) (parser : Parser)
    (code : Option (List Step)) → IsReading names text parser rest → tokens rest ≡ []
    → IsSaid (finished (machine_of parser)) code
    → IfSome code (λ steps. items_of steps ≡ expr_done parser.top (items_of parser.code))
    → IfSome code (λ steps. (n : ℕ) → list_all (fits n) steps ≡ is_about n (rule_of steps))
reading_about names text rest parser None h none said items = tt
reading_about names text rest parser (Some steps) h none said items = λ n.
    let rule =
    IsRule-from_run names (tokens text) (rule_of steps)
    (ends names text rest parser h none ∙ said) in
    sym (about-items_of n steps)
    ∙ (ap (about n) items
    ∙ (about-expr n parser.top (items_of parser.code)
    ∙ (sym (and_true (about n (items_of parser.code)))
    ∙ (ap (λ ts. about n (items_of parser.code) && list_all (is_known n names) ts) (sym none)
    ∙ (h.known n ∙ sym (is_about-derived n rule.derived))))))

pub IfOk-both : {T E : Type 0} (r : Result T E) (P Q R : T → Type 0) → ((x : T) → P x → Q x → R x)
    → IfOk r P → IfOk r Q → IfOk r R
IfOk-both (Ok x) P Q R f p q = f x p q
IfOk-both (Err e) P Q R f p q = tt

pub taken_stuck : (o : Option Machine) (went : Bool) (m : Machine) → IsTaken o went m → went ≡ false
    → o ≡ None
taken_stuck o false m h e = h
taken_stuck o true m h e = cc

pub taken_went : (o : Option Machine) (went : Bool) (m : Machine) → IsTaken o went m → went ≡ true
    → o ≡ Some m
taken_went o true m h e = h
taken_went o false m h e = cc
