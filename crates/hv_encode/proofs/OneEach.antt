-- A lifting has exactly one statement for each line that some valid configuration has.
use Rattle.std.proofs.Common.{◌≡◌, ℕ, suc, ◌<◌, ◌≤◌, ◌==◌, Bool, true, false, not, List, [], ◌∷◌, map, cond, refl, sym, ◌∙◌, ap, subst, arith, ◌⊎◌, inl, inr}
use Rattle.std.specs.List.{list_all, list_any}
use Rattle.std.proofs.lemmas.Bool.Decides.{nat_tests, Decides-eqb}
use Rattle.hv_base.proofs.Lists.{heads}
use Rattle.hv_model.specs.Rule.{Features, IsValid}
use Rattle.hv_plain.specs.Config.{is_on}
use Rattle.hv_plain.specs.Program.{Statement}
use Rattle.hv_plain.specs.Run.{IsReached, IsRunIn, OneEach, done, one, left_out}
use Rattle.hv_plain.specs.Source.{SourceLine, put, if_defined, if_not_defined, otherwise, end_if, bytes_of, keeps_line, kept, numbered}
use Rattle.hv_encode.specs.declared.small.line.BodyLine.{BodyLine}
use Rattle.hv_encode.specs.declared.small.line.BodyLine.TheVariants.{Put, IfDefined, IfNotDefined, Else, EndIf}
use Rattle.hv_encode.specs.declared.small.group.Group.{Group}
use Rattle.hv_encode.specs.working.Lines.{name_at, plain}
use Rattle.hv_encode.specs.working.Lift.{IsMarked, lifted, opened, statement_in}
use Rattle.hv_encode.specs.working.Presence.{Prunes, none, keep, leave}
use Rattle.hv_encode.proofs.Semantics.{all_read, group_reads, negated_value, test_holds}

-- whether the number is among these
abbrev has : List ℕ → ℕ → Bool
has numbers number = list_any (λ kept_number. kept_number == number) numbers

is_itself : (number : ℕ) → (number == number) ≡ true
is_itself number = (Decides-eqb number number).1 refl

is_other : (a b : ℕ) → a < b → (a == b) ≡ false
is_other a b less = grind (arith, nat_tests)

is_other_above : (a b : ℕ) → b < a → (a == b) ≡ false
is_other_above a b less = grind (arith, nat_tests)

has_cond : (b : Bool) (number other : ℕ) (rest : List ℕ) → (number == other) ≡ false
    → has (cond b (number ∷ rest) rest) other ≡ has rest other
has_cond true number other rest apart = rw apart refl
has_cond false number other rest apart = refl

has_first : (b : Bool) (number : ℕ) (rest : List ℕ) → has rest number ≡ false
    → has (cond b (number ∷ rest) rest) number ≡ b
has_first true number rest fresh = rw (is_itself number) refl
has_first false number rest fresh = fresh

-- a smaller number is not kept
not_before : (on : List ℕ → Bool) (groups : List Bool) (lines : List SourceLine) (first number : ℕ)
    → number < first → has (kept on groups (numbered first lines)) number ≡ false
not_before on groups [] first number less = refl
not_before on groups (put n ∷ lines) first number less =
    has_cond (list_all (λ read. read) groups) first number
    (kept on groups (numbered (suc first) lines)) (is_other_above first number less)
    ∙ not_before on groups lines (suc first) number (omega arith)
not_before on groups (if_defined name ∷ lines) first number less =
    not_before on (on name ∷ groups) lines first number less
not_before on groups (if_not_defined name ∷ lines) first number less =
    not_before on (not (on name) ∷ groups) lines first number less
not_before on [] (otherwise ∷ lines) first number less = not_before on [] lines first number less
not_before on (read ∷ groups) (otherwise ∷ lines) first number less =
    not_before on (not read ∷ groups) lines first number less
not_before on [] (end_if ∷ lines) first number less = not_before on [] lines first number less
not_before on (read ∷ groups) (end_if ∷ lines) first number less =
    not_before on groups lines first number less

-- the first of the statements is kept or left, and the others are pruned
Prunes-first : (model : Features) (statement : Statement)
    (rest all kept_statements : List Statement) → Prunes model all kept_statements
    → all ≡ statement ∷ rest
    → ((more : List Statement) × (kept_statements ≡ statement ∷ more) × IsReached model statement
    × Prunes model rest more)
    ⊎ (((values : List Bool) → IsValid model values → IsRunIn model.names values statement → ⊥)
    × Prunes model rest kept_statements)
Prunes-first model statement rest all kept_statements none e = cc
Prunes-first model statement rest all kept_statements
    (keep it {all = others} {kept = more} reached p) e =
    let same = heads it statement others rest e in
    let kept_same : it ∷ more ≡ statement ∷ more = ap (λ (s : Statement). s ∷ more) same.0 in
    inl (
      more,
      kept_same,
      subst (IsReached model) same.0 reached,
      subst
          (λ (statements : List Statement). Prunes model statements more) same.1 p,
    )
Prunes-first model statement rest all kept_statements
    (leave it {all = others} {kept = more} never p) e =
    let same = heads it statement others rest e in
    inr (
      subst (λ (s : Statement). (values : List Bool) → IsValid model values
          → IsRunIn model.names values s → ⊥) same.0 never,
      subst (λ (statements : List Statement). Prunes model statements more) same.1 p,
    )

Prunes-empty : (model : Features) (all kept_statements : List Statement)
    → Prunes model all kept_statements → all ≡ [] → (statement : Statement) (more : List Statement)
    → kept_statements ≡ statement ∷ more → ⊥
Prunes-empty model all kept_statements none empty statement more e = cc
Prunes-empty model all kept_statements (keep it reached p) empty statement more e = cc
Prunes-empty model all kept_statements (leave it never p) empty statement more e = cc

module _ (model : Features) (body : List SourceLine) where
  -- from this number on the body and what is left of it keep the same lines
  abbrev pub IsRest : List Group → List BodyLine → ℕ → Type 0
  IsRest groups lines first = (values : List Bool) (number : ℕ) → first ≤ number
      → keeps_line (is_on model.names values) body number
      ≡ has (kept (is_on model.names values) (map (group_reads model.names values) groups)
      (numbered first (map (plain model.names) lines))) number

  here_is : (groups : List Group) (lines : List BodyLine) (byte first : ℕ)
      → IsRest groups (Put byte ∷ lines) first → (values : List Bool)
      → keeps_line (is_on model.names values) body first ≡ all_read model.names values groups
  here_is groups lines byte first rest values =
      let later =
      kept (is_on model.names values) (map (group_reads model.names values) groups)
      (numbered (suc first) (map (plain model.names) lines)) in
      rest values first (omega arith)
      ∙ has_first (all_read model.names values groups) first later
      (not_before (is_on model.names values) (map (group_reads model.names values) groups)
      (map (plain model.names) lines) (suc first) first (omega arith))

  next_is : (groups : List Group) (lines : List BodyLine) (byte first : ℕ)
      → IsRest groups (Put byte ∷ lines) first → IsRest groups lines (suc first)
  next_is groups lines byte first rest values number more =
      rest values number (omega arith)
      ∙ has_cond (all_read model.names values groups) first number
      (kept (is_on model.names values) (map (group_reads model.names values) groups)
      (numbered (suc first) (map (plain model.names) lines))) (is_other first number (omega arith))

  turned_is : (group : Group) (groups : List Group) (lines : List BodyLine) (first : ℕ)
      → IsRest (group ∷ groups) (Else ∷ lines) first
      → IsRest (opened groups group.test.option (not group.test.negated) ∷ groups) lines first
  turned_is group groups lines first rest values number more =
      rest values number more
      ∙ rw (negated_value group.test.negated
      (is_on model.names values (name_at model.names group.test.option))) refl

  -- of a line that writes a byte
  put_each : (groups : List Group) (lines : List BodyLine) (byte first : ℕ)
      (kept_statements : List Statement) → IsMarked groups → IsRest groups (Put byte ∷ lines) first
      → ((more : List Statement) → Prunes model (lifted model.names groups lines) more
      → OneEach model body (suc first) (bytes_of (map (plain model.names) lines)) more)
      → Prunes model (lifted model.names groups (Put byte ∷ lines)) kept_statements
      → OneEach model body first (byte ∷ bytes_of (map (plain model.names) lines)) kept_statements
  put_each groups lines byte first kept_statements marked rest later pruned =
      elim (Prunes-first model (statement_in model.names groups byte)
      (lifted model.names groups lines) _ kept_statements pruned refl) [
        | inl found ↦
            let reached = found.2 in
            let P : List Statement → Type 0 =
            λ statements. OneEach model body first
            (byte ∷ bytes_of (map (plain model.names) lines)) statements in
            subst P (sym found.1)
            (one first byte (statement_in model.names groups byte) (
              reached.values,
              reached.valid,
              here_is groups lines byte first rest reached.values
                  ∙ sym (test_holds model.names reached.values groups marked) ∙ reached.runs,
            )
            refl (later found.0 found.3))
        | inr unread ↦
            left_out first byte
            (λ had. unread.0 had.0 had.1 (test_holds model.names had.0 groups marked
            ∙ sym (here_is groups lines byte first rest had.0) ∙ had.2))
            (later kept_statements unread.1)
      ]

  pub lifted-one_each : (groups : List Group) (lines : List BodyLine) (first : ℕ)
      (kept_statements : List Statement) → IsMarked groups → IsRest groups lines first
      → Prunes model (lifted model.names groups lines) kept_statements
      → OneEach model body first (bytes_of (map (plain model.names) lines)) kept_statements
  lifted-one_each groups [] first [] marked rest pruned = done first
  lifted-one_each groups [] first (statement ∷ more) marked rest pruned =
      absurd (Prunes-empty model _ _ pruned refl statement more refl)
  lifted-one_each groups (Put byte ∷ lines) first kept_statements marked rest pruned =
      put_each groups lines byte first kept_statements marked rest
      (λ more p. lifted-one_each groups lines (suc first) more marked
      (next_is groups lines byte first rest) p) pruned
  lifted-one_each groups (IfDefined option ∷ lines) first kept_statements marked rest pruned =
      lifted-one_each (opened groups option false ∷ groups) lines first kept_statements
      (refl, marked) rest pruned
  lifted-one_each groups (IfNotDefined option ∷ lines) first kept_statements marked rest pruned =
      lifted-one_each (opened groups option true ∷ groups) lines first kept_statements
      (refl, marked) rest pruned
  lifted-one_each [] (Else ∷ lines) first kept_statements marked rest pruned =
      lifted-one_each [] lines first kept_statements marked rest pruned
  lifted-one_each (group ∷ groups) (Else ∷ lines) first kept_statements marked rest pruned =
      lifted-one_each (opened groups group.test.option (not group.test.negated) ∷ groups) lines
      first kept_statements (refl, marked.1)
      (turned_is group groups lines first rest) pruned
  lifted-one_each [] (EndIf ∷ lines) first kept_statements marked rest pruned =
      lifted-one_each [] lines first kept_statements marked rest pruned
  lifted-one_each (group ∷ groups) (EndIf ∷ lines) first kept_statements marked rest pruned =
      lifted-one_each groups lines first kept_statements marked.1 rest pruned
