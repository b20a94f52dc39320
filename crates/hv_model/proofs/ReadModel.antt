-- Reading model files line by line.
use Rattle.std.proofs.Common.{◌≡◌, ℕ, ◌+◌, ◌<◌, ◌≤◌, Bool, true, false, ◌&&◌, List, [], ◌∷◌, ◌++◌, refl, sym, ◌∙◌, ap, subst, arith, length, get_or, map, length-append}
use Rattle.std.specs.Prelude.{Result, Ok, Err, OnOk, OnErr, IfErr, nat_lt}
use Rattle.std.specs.List.{list_all, list_any}
use Rattle.std.specs.Str.{bytes_eq}
use Rattle.std.proofs.lemmas.Bool.Decides.{nat_tests}
use Rattle.std.proofs.lemmas.List.{map-append}
use Rattle.hv_base.proofs.Booleans.{contrary}
use Rattle.hv_cond.specs.Diagram.{Diagram, IsLeast, IsNever, holds}
use Rattle.hv_cond.specs.declared.conditions.Cond.{Cond}
use Rattle.hv_model.specs.Lines.{Reading, model, fault, Reads, Says, ends, no_configuration, says_nothing, bad, option, repeated, too_many, rule, unknown, no_rule, line_of, option_line, rule_line}
use Rattle.hv_model.specs.Grammar.{IsRule}
use Rattle.hv_model.specs.Model.{IsRefusalIn}
use Rattle.hv_model.specs.Valid.{IsValidIn}
use Rattle.hv_model.specs.working.ModelLine.{IsRead}
use Rattle.hv_model.specs.working.Steps.{AllFit}
use Rattle.hv_model.specs.Rule.{Features, Rule, IsLeastValid, IsValid, is_about}
use Rattle.hv_model.specs.working.Steps.{fits, rule_of}
use Rattle.hv_model.specs.Token.{Token}
use Rattle.hv_model.specs.declared.code.Step.{Step}
use Rattle.hv_model.specs.declared.code.Step.TheVariants.{Option as OptionStep, Not, And, Or, Suppose, SupposeToo, Conclude}
use Rattle.hv_model.specs.declared.faults.ModelKind.TheVariants.{NoConfiguration}
use Rattle.hv_model.specs.declared.faults.ModelRefusal.{ModelRefusal}
use Rattle.hv_model.specs.declared.faults.ModelRefusal.TheVariants.{Bad, Memory}

pub OnOk-map : {T E : Type 0} (r : Result T E) (P Q : Type 0) → (P → Q) → OnOk r P → OnOk r Q
OnOk-map (Ok x) P Q f p = f p
OnOk-map (Err e) P Q f p = tt

pub IfErr-map : {T E : Type 0} (r : Result T E) (P Q : E → Type 0) → ((e : E) → P e → Q e)
    → IfErr r P → IfErr r Q
IfErr-map (Ok x) P Q f p = tt
IfErr-map (Err e) P Q f p = f e p

pub refusal_map : (P Q : Reading → Type 0) → ((o : Reading) → P o → Q o) → (e : ModelRefusal)
    → IsRefusalIn P e → IsRefusalIn Q e
refusal_map P Q f (Bad found) h = f _ h
refusal_map P Q f Memory h = tt

pub fits-more : (n k : ℕ) → n ≤ k → (steps : List Step) → list_all (fits n) steps ≡ true
    → list_all (fits k) steps ≡ true
fits-more n k le [] h = refl
fits-more n k le (step ∷ steps) h =
    both (fits k step) (list_all (fits k) steps)
    (one step (left (fits n step) (list_all (fits n) steps) h))
    (fits-more n k le steps (right (fits n step) (list_all (fits n) steps) h))
  where
    left : (a b : Bool) → (a && b) ≡ true → a ≡ true
    left true b e = refl
    left false b e = e

    right : (a b : Bool) → (a && b) ≡ true → b ≡ true
    right true b e = e
    right false b e = cc

    both : (a b : Bool) → a ≡ true → b ≡ true → (a && b) ≡ true
    both true b e f = f
    both false b e f = e

    below : (i : ℕ) → nat_lt i n ≡ true → nat_lt i k ≡ true
    below i h = grind (arith, nat_tests)

    one : (step : Step) → fits n step ≡ true → fits k step ≡ true
    one (OptionStep i) h = below i h
    one Not h = refl
    one And h = refl
    one Or h = refl
    one Suppose h = refl
    one SupposeToo h = refl
    one Conclude h = refl

pub AllFit-more : (n k : ℕ) (codes : List (List Step)) → n ≤ k → AllFit n codes → AllFit k codes
AllFit-more n k codes le h = λ i d lt. fits-more n k le (get_or codes i d) (h i d lt)

pub no_shorter : {T E : Type 0} (r : Result T E) (old new : List (List ℕ)) (name : List ℕ)
    → OnOk r (new ≡ old ++ name ∷ []) → OnErr r (new ≡ old) → length old ≤ length new
no_shorter (Ok x) old new name e f = omega (arith, ap length e, length-append old (name ∷ []))
no_shorter (Err x) old new name e f = omega (arith, ap length f)

pub option_added : (names now : List (List ℕ)) (rules : List Rule) (n : ℕ) (name line : List ℕ)
    (more : List (List ℕ)) (o : Reading) → now ≡ names ++ name ∷ []
    → list_any (bytes_eq name) names ≡ false → length names < 256
    → line_of line ≡ option_line name → Reads (record { names = now; rules = rules }) (n + 1) more o
    → Reads (record { names = names; rules = rules }) n (line ∷ more) o
option_added names now rules n name line more o e fresh lt l h =
    option l fresh lt (subst (λ ns. Reads (record { names = ns; rules = rules }) (n + 1) more o) e
    h)

pub rule_added : (names : List (List ℕ)) (codes now : List (List Step)) (code : List Step) (n : ℕ)
    (line : List ℕ) (ts : List Token) (more : List (List ℕ)) (o : Reading)
    → now ≡ codes ++ code ∷ []
    → is_about (length names) (rule_of code) ≡ true → line_of line ≡ rule_line ts
    → IsRule names ts (rule_of code)
    → Reads (record { names = names; rules = map rule_of now }) (n + 1) more o
    → Reads (record { names = names; rules = map rule_of codes }) n (line ∷ more) o
rule_added names codes now code n line ts more o e about l r h =
    rule l r about
    (subst (λ rs. Reads (record { names = names; rules = rs }) (n + 1) more o)
    (ap (map rule_of) e ∙ map-append rule_of codes (code ∷ [])) h)

-- the first assignment that satisfies the condition of the valid configurations is the least of these
pub least_picked : (m : Features) (d : Diagram) (c : Cond) (values : List Bool) → IsValidIn m d c
    → IsLeast d c values → IsLeastValid m values
least_picked m d c values v picked =
    record {
      valid = (picked.all_variables ∙ v.variables, sym (v.meaning values) ∙ picked.satisfies);
      first =
          λ others valid. picked.first others (valid.0 ∙ sym v.variables)
          (v.meaning others ∙ valid.1);
    }

-- a file that says a model says one with a valid configuration
pub reads_valid : {m f : Features} {n : ℕ} {lines : List (List ℕ)} {o : Reading} → o ≡ model f
    → Reads m n lines o → (values : List Bool) × IsValid f values
reads_valid {m} {f} {n} {lines} {o} e (ends values valid) =
    (values, subst (λ x. IsValid x values) (same_model e) valid)
  where
    same_model : {a b : Features} → model a ≡ model b → a ≡ b
    same_model e = cc
reads_valid {m} {f} {n} {lines} {o} e (no_configuration h) = cc
reads_valid {m} {f} {n} {lines} {o} e (says_nothing x d) = reads_valid e d
reads_valid {m} {f} {n} {lines} {o} e (bad x) = cc
reads_valid {m} {f} {n} {lines} {o} e (option {name = name} x fresh lt d) = reads_valid e d
reads_valid {m} {f} {n} {lines} {o} e (repeated {name = name} x known) = cc
reads_valid {m} {f} {n} {lines} {o} e (too_many {name = name} x fresh full) = cc
reads_valid {m} {f} {n} {lines} {o} e (rule {ts = ts} {r = r} x said about d) = reads_valid e d
reads_valid {m} {f} {n} {lines} {o} e (unknown {ts = ts} {r = r} x said about) = cc
reads_valid {m} {f} {n} {lines} {o} e (no_rule {ts = ts} x none) = cc

-- lines that made a model with a valid configuration are a file that says it
pub read_some : (bytes : List ℕ) (m : Features) → IsRead bytes m → (values : List Bool)
    → IsValid m values → Says bytes (model m)
read_some bytes m h values valid = h (model m) (λ n. ends values valid)

-- lines that made a model without one are a file without a configuration
pub read_none : (bytes : List ℕ) (m : Features) → IsRead bytes m
    → ((values : List Bool) → IsValid m values → ⊥)
    → Says bytes (fault 0 NoConfiguration)
read_none bytes m h none = h (fault 0 NoConfiguration) (λ n. no_configuration none)

-- where the diagram's node never holds, no configuration is valid
pub never_valid : (m : Features) (d : Diagram) (c : Cond) → IsValidIn m d c → IsNever d c
    → (values : List Bool) → IsValid m values → ⊥
never_valid m d c v never values valid =
    contrary (holds d c values) (v.meaning values ∙ valid.1)
    (never values (valid.0 ∙ sym v.variables))
