-- Rules and models as plain data, by which a proof tells them apart.
use Rattle.std.specs.Prelude.{◌≡◌, ℕ, zero, suc, ◌⊎◌, List, [], ◌∷◌, ◌++◌, refl}
use Rattle.std.specs.Coded.{Coded, code_by, coded×, coded⊎, coded_list, coded_ℕ}
use Rattle.std.proofs.Common.{inl, inr, ap, sym, ◌∙◌, append_assoc}
use Rattle.std.proofs.lemmas.List.{append-nil}
use Rattle.hv_model.specs.Rule.{Rule, option, negation, conjunction, disjunction, implication, Features}

-- a rule as a list: options, and numbers for the operators after their operands
abbrev pub encoded : Rule → List (ℕ ⊎ ℕ)
encoded (option i) = inl i ∷ []
encoded (negation r) = encoded r ++ inr 0 ∷ []
encoded (conjunction r s) = encoded r ++ (encoded s ++ inr 1 ∷ [])
encoded (disjunction r s) = encoded r ++ (encoded s ++ inr 2 ∷ [])
encoded (implication r s) = encoded r ++ (encoded s ++ inr 3 ∷ [])

-- what an operator of this number makes of the last rules
abbrev pub combined : ℕ → List Rule → List Rule
combined zero (r ∷ rules) = negation r ∷ rules
combined (suc zero) (s ∷ r ∷ rules) = conjunction r s ∷ rules
combined (suc (suc zero)) (s ∷ r ∷ rules) = disjunction r s ∷ rules
combined (suc (suc (suc n))) (s ∷ r ∷ rules) = implication r s ∷ rules
combined _ rules = rules

-- the rules that a list says, the last first
abbrev pub decoded : List (ℕ ⊎ ℕ) → List Rule → List Rule
decoded [] rules = rules
decoded (inl i ∷ codes) rules = decoded codes (option i ∷ rules)
decoded (inr n ∷ codes) rules = decoded codes (combined n rules)

-- the first rule; option 0 where there is none
abbrev pub first_rule : List Rule → Rule
first_rule [] = option 0
first_rule (r ∷ _) = r

-- a list that a rule was made into says that rule
pub decoded-encoded : (r : Rule) (codes : List (ℕ ⊎ ℕ)) (rules : List Rule)
    → decoded (encoded r ++ codes) rules ≡ decoded codes (r ∷ rules)
decoded-encoded (option i) codes rules = refl
decoded-encoded (negation r) codes rules =
    ap (λ x. decoded x rules) (append_assoc (encoded r) (inr 0 ∷ []) codes)
    ∙ decoded-encoded r (inr 0 ∷ codes) rules
decoded-encoded (conjunction r s) codes rules =
    ap (λ x. decoded x rules) (append_assoc (encoded r) (encoded s ++ inr 1 ∷ []) codes)
    ∙ (decoded-encoded r ((encoded s ++ inr 1 ∷ []) ++ codes) rules
    ∙ (ap (λ x. decoded x (r ∷ rules)) (append_assoc (encoded s) (inr 1 ∷ []) codes)
    ∙ decoded-encoded s (inr 1 ∷ codes) (r ∷ rules)))
decoded-encoded (disjunction r s) codes rules =
    ap (λ x. decoded x rules) (append_assoc (encoded r) (encoded s ++ inr 2 ∷ []) codes)
    ∙ (decoded-encoded r ((encoded s ++ inr 2 ∷ []) ++ codes) rules
    ∙ (ap (λ x. decoded x (r ∷ rules)) (append_assoc (encoded s) (inr 2 ∷ []) codes)
    ∙ decoded-encoded s (inr 2 ∷ codes) (r ∷ rules)))
decoded-encoded (implication r s) codes rules =
    ap (λ x. decoded x rules) (append_assoc (encoded r) (encoded s ++ inr 3 ∷ []) codes)
    ∙ (decoded-encoded r ((encoded s ++ inr 3 ∷ []) ++ codes) rules
    ∙ (ap (λ x. decoded x (r ∷ rules)) (append_assoc (encoded s) (inr 3 ∷ []) codes)
    ∙ decoded-encoded s (inr 3 ∷ codes) (r ∷ rules)))

-- rules as data
abbrev pub rule_code : Coded Rule
rule_code =
    code_by (List (ℕ ⊎ ℕ)) (coded_list (coded⊎ coded_ℕ coded_ℕ)) encoded
    (λ codes. first_rule (decoded codes []))
    (λ r. ap (λ x. first_rule (decoded x [])) (sym (append-nil (encoded r)))
    ∙ ap first_rule (decoded-encoded r [] []))

-- models as data
abbrev pub features_code : Coded Features
features_code =
    code_by (List (List ℕ) × List Rule)
    (coded× (coded_list (coded_list coded_ℕ)) (coded_list rule_code)) (λ m. (m.names, m.rules))
    (λ p. record { names = p.0; rules = p.1 }) (λ _. refl)
