-- Stacks of conditions.
use Rattle.std.proofs.Common.{◌≡◌, ℕ, Bool, true, false, ◌&&◌, ◌||◌, not, List, [], ◌∷◌, refl, sym, ◌∙◌, ap}
use Rattle.std.specs.Prelude.{Result, Ok, Err, IfOk, OnOk}
use Rattle.hv_cond.specs.Diagram.{AllNodes, Diagram, IsNode, Keeps, all_hold, holds}
use Rattle.hv_cond.specs.declared.conditions.Cond.{Cond}
use Rattle.hv_cond.specs.Laws.{AllNodes-append, AllNodes-kept, Keeps-refl, Keeps-trans, all_hold-append, all_hold-kept}
use Rattle.std.proofs.Common.{zero, suc, ◌+◌, ◌<◌, ◌≤◌, ◌++◌, length, take, get_or, map, arith}
use Rattle.std.specs.List.{list_all}
use Rattle.std.proofs.lemmas.List.{take_more, take_all, map-append}
use Rattle.std.proofs.lemmas.List.Folds.{list_all-append}
use Rattle.hv_base.proofs.Booleans.{and_true}
use Rattle.hv_model.specs.working.Conds.{held}
use Rattle.hv_model.specs.Rule.{Rule, meets, meets_all}
use Rattle.hv_model.specs.working.Steps.{fits, items_of, rule_of, top_of, values_after}
use Rattle.hv_model.specs.declared.code.Step.{Step}
use Rattle.hv_model.proofs.StepLemmas.{truths, values-all, values-more}

pub nodes_kept : {old new : Diagram} → Keeps old new → (conds : List Cond) → AllNodes old conds
    → AllNodes new conds
nodes_kept k [] h = tt
nodes_kept k (c ∷ conds) h = (k.stays c h.0, nodes_kept k conds h.1)

pub held_kept : {old new : Diagram} → Keeps old new → (conds : List Cond) → AllNodes old conds
    → (values : List Bool) → held new values conds ≡ held old values conds
held_kept k [] h values = refl
held_kept {old} {new} k (c ∷ conds) h values =
    ap (λ (b : Bool). b ∷ held new values conds) (k.meaning c h.0 values)
    ∙ ap (λ bs. holds old c values ∷ bs) (held_kept k conds h.1 values)

pub pushed_nodes : {T E : Type 0} (result : Result T E) (old new : Diagram) (c : Cond)
    (conds now : List Cond) → Keeps old new → AllNodes old conds → IsNode new c
    → OnOk result (now ≡ c ∷ conds) → OnOk result (AllNodes new now)
pushed_nodes (Ok x) old new c conds now k h n e = rw e (n, nodes_kept k conds h)
pushed_nodes (Err x) old new c conds now k h n e = tt

pub pushed_meaning : {T E : Type 0} (result : Result T E) (old new : Diagram) (c : Cond)
    (conds now : List Cond) (b : List Bool → Bool) → Keeps old new → AllNodes old conds
    → ((values : List Bool) → holds new c values ≡ b values) → OnOk result (now ≡ c ∷ conds)
    → OnOk result ((values : List Bool) → held new values now ≡ b values ∷
    held old values conds)
pushed_meaning (Ok x) old new c conds now b k h m e = λ values.
    ap (held new values) e ∙ (ap (λ (v : Bool). v ∷ held new values conds) (m values)
    ∙ ap (λ bs. b values ∷ bs) (held_kept k conds h values))
pushed_meaning (Err x) old new c conds now b k h m e = tt

pub implied_meaning : (old mid new : Diagram) (left right opposite both : Cond) → Keeps old mid
    → IsNode old right
    → ((values : List Bool) → holds mid opposite values ≡ not (holds old left values))
    → ((values : List Bool) → holds new both values ≡ (holds mid opposite values ||
    holds mid right values))
    → (values : List Bool) → holds new both values ≡ (not (holds old left values) ||
    holds old right values)
implied_meaning old mid new left right opposite both k n e f values =
    f values ∙ (ap (λ (b : Bool). b || holds mid right values) (e values)
    ∙ ap (λ (b : Bool). not (holds old left values) || b) (k.meaning right n values))

-- a rule's condition is being made
pub record IsMaking (old now : Diagram) (stack : List Cond) (steps : List Step) (k : ℕ) : Type 0
  where
    pub keeps : Keeps old now
    pub nodes : AllNodes now stack
    pub meaning : (values : List Bool)
        → held now values stack ≡ truths values (items_of (take k steps))

pub making_start : (store : Diagram) (stack : List Cond) (steps : List Step) → stack ≡ []
    → IsMaking store store stack steps 0
making_start store stack steps e =
    rw e (record { keeps = Keeps-refl store; nodes = tt; meaning = λ values. refl })

pub list_all-at : {X : Type 0} (p : X → Bool) (xs : List X) (k : ℕ) (d : X) → list_all p xs ≡ true
    → k < length xs → p (get_or xs k d) ≡ true
list_all-at p [] k d h lt = absurd (omega arith)
list_all-at p (x ∷ xs) zero d h lt = and_left (p x) (list_all p xs) h
  where
    and_left : (a b : Bool) → (a && b) ≡ true → a ≡ true
    and_left true b e = refl
    and_left false b e = e
list_all-at p (x ∷ xs) (suc k) d h lt =
    list_all-at p xs k d (and_right (p x) (list_all p xs) h) (omega arith)
  where
    and_right : (a b : Bool) → (a && b) ≡ true → b ≡ true
    and_right true b e = e
    and_right false b e = cc

pub making_fits : (old now : Diagram) (stack : List Cond) (steps : List Step) (k : ℕ) (d : Step)
    → IsMaking old now stack steps k → list_all (fits old.variables) steps ≡ true → k < length steps
    → fits now.variables (get_or steps k d) ≡ true
making_fits old now stack steps k d m h lt = ap (λ n. fits n (get_or steps k d)) m.keeps.variables
    ∙ list_all-at (fits old.variables) steps k d h lt

pub making_step : (old mid now : Diagram) (stack next : List Cond) (steps : List Step) (k : ℕ)
    (d : Step) → IsMaking old mid stack steps k → k < length steps
    → Keeps mid now → AllNodes now next
    → ((values : List Bool) → held now values next
    ≡ values_after values (held mid values stack) (get_or steps k d))
    → IsMaking old now next steps (k + 1)
making_step old mid now stack next steps k d m lt kept nodes e =
    record {
      keeps = Keeps-trans m.keeps kept;
      nodes = nodes;
      meaning = λ values. e values ∙ values-more values (held mid values stack) steps k d lt
          (m.meaning values);
    }

pub made_node : (old now : Diagram) (stack rest : List Cond) (c : Cond) (steps : List Step) (k : ℕ)
    → IsMaking old now stack steps k → stack ≡ c ∷ rest → IsNode now c
made_node old now stack rest c steps k m e = (rw e at m.nodes).0

pub made_meaning : (old now : Diagram) (stack rest : List Cond) (c : Cond) (steps : List Step)
    (k : ℕ) → IsMaking old now stack steps k → length steps ≤ k → stack ≡ c ∷ rest
    → (values : List Bool) → holds now c values ≡ meets values (rule_of steps)
made_meaning old now stack rest c steps k m h e = λ values.
    sym (ap (λ s. top_of (held now values s)) e)
    ∙ values-all values (held now values stack) steps k h (m.meaning values)

pub made_none : (old now : Diagram) (stack : List Cond) (c : Cond) (steps : List Step) (k : ℕ)
    → IsMaking old now stack steps k → length steps ≤ k → stack ≡ []
    → ((values : List Bool) → holds now c values ≡ false) → (values : List Bool)
    → holds now c values ≡ meets values (rule_of steps)
made_none old now stack c steps k m h e f = λ values.
    f values ∙ (sym (ap (λ s. top_of (held now values s)) e)
    ∙ values-all values (held now values stack) steps k h (m.meaning values))

-- the conditions of the rules are being made
pub record IsGathering (old now : Diagram) (found : List Cond) (rules : List (List Step)) (k : ℕ)
    : Type 0 where
  pub keeps : Keeps old now
  pub nodes : AllNodes now found
  pub meaning : (values : List Bool)
      → all_hold now found values ≡ meets_all values (map rule_of (take k rules))

list_all-more : (p : Rule → Bool) (codes : List (List Step)) (k : ℕ) (d : List Step)
    → k < length codes → list_all p (map rule_of (take (k + 1) codes))
    ≡ (list_all p (map rule_of (take k codes)) && p (rule_of (get_or codes k d)))
list_all-more p codes k d lt =
    ap (λ xs. list_all p (map rule_of xs)) (take_more codes k d lt)
    ∙ (ap (list_all p) (map-append rule_of (take k codes) (get_or codes k d ∷ []))
    ∙ (list_all-append p (map rule_of (take k codes)) (rule_of (get_or codes k d) ∷ [])
    ∙ ap (λ b. list_all p (map rule_of (take k codes)) && b)
    (and_true (p (rule_of (get_or codes k d))))))

-- one more
pub gathering_step : (old mid now : Diagram) (found : List Cond) (c : Cond)
    (rules : List (List Step)) (k : ℕ) (d : List Step) → IsGathering old mid found rules k
    → k < length rules → Keeps mid now → IsNode now c
    → ((values : List Bool) → holds now c values ≡ meets values (rule_of (get_or rules k d)))
    → IsGathering old now (found ++ c ∷ []) rules (k + 1)
gathering_step old mid now found c rules k d g lt kept n f =
    record {
      keeps = Keeps-trans g.keeps kept;
      nodes = AllNodes-append now found (c ∷ []) (AllNodes-kept kept found g.nodes) (n, tt);
      meaning = λ values.
          all_hold-append now found (c ∷ []) values
          ∙ (ap (λ (b : Bool). b && all_hold now (c ∷ []) values)
          (all_hold-kept kept found g.nodes values ∙ g.meaning values)
          ∙ (ap (λ (b : Bool). meets_all values (map rule_of (take k rules)) && b)
          (and_true (holds now c values) ∙ f values)
          ∙ sym (list_all-more (meets values) rules k d lt)));
    }

-- all
pub gathered : (old now : Diagram) (found : List Cond) (rules : List (List Step)) (k : ℕ)
    → IsGathering old now found rules k → length rules ≤ k
    → (values : List Bool) → all_hold now found values ≡ meets_all values (map rule_of rules)
gathered old now found rules k g h = λ values.
    g.meaning values
    ∙ ap (λ xs. meets_all values (map rule_of xs)) (take_all k rules h)

-- of none
pub gathering_start : (store : Diagram) (rules : List (List Step))
    → IsGathering store store [] rules 0
gathering_start store rules = record { keeps = Keeps-refl store; nodes = tt; meaning = λ values. refl }

-- what the condition means, by equal tests
pub meaning_by : {E : Type 0} (r : Result Cond E) (d : Diagram) (f g : List Bool → Bool)
    → ((values : List Bool) → f values ≡ g values)
    → IfOk r (λ c. (values : List Bool) → holds d c values ≡ f values)
    → IfOk r (λ c. (values : List Bool) → holds d c values ≡ g values)
meaning_by (Ok c) d f g e h = λ values. h values ∙ e values
meaning_by (Err x) d f g e h = tt

pub meets_all-false : (values : List Bool) (codes : List (List Step)) (k : ℕ) (d : List Step)
    → k < length codes → meets values (rule_of (get_or codes k d)) ≡ false
    → false ≡ meets_all values (map rule_of codes)
meets_all-false values [] k d lt h = absurd (omega arith)
meets_all-false values (code ∷ codes) zero d lt h = let e : meets values (rule_of code) ≡ false = h
    in rw e refl
meets_all-false values (code ∷ codes) (suc k) d lt h =
    and_false (meets values (rule_of code)) _ (meets_all-false values codes k d (omega arith) h)
  where
    and_false : (a b : Bool) → false ≡ b → false ≡ (a && b)
    and_false true b e = e
    and_false false b e = refl
