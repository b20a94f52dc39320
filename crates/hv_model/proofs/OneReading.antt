-- A model file says one thing.
use Rattle.std.proofs.Common.{◌≡◌, ℕ, ◌+◌, ◌<◌, Bool, true, false, List, [], ◌∷◌, ◌++◌, refl, sym, ◌∙◌, subst, arith, length}
use Rattle.std.specs.Prelude.{Some}
use Rattle.std.specs.List.{list_any}
use Rattle.std.specs.Str.{bytes_eq}
use Rattle.hv_model.specs.Grammar.{IsRule}
use Rattle.hv_model.specs.Lines.{ModelLine, nothing, option_line, rule_line, bad_line, Reading, model, fault, Reads, ends, no_configuration, says_nothing, bad, option, repeated, too_many, rule, unknown, no_rule, line_of, SaysOne}
use Rattle.hv_model.specs.Rule.{Features, Rule, IsValid, is_about}
use Rattle.hv_model.specs.Token.{Token}
use Rattle.hv_model.specs.declared.faults.ModelKind.TheVariants.{BadLine, Repeated, Unknown, TooMany, NoConfiguration}
use Rattle.hv_model.proofs.Limits.{run-from_IsRule}

-- a text says one rule
pub IsRule-unique : (names : List (List ℕ)) (ts : List Token) (r s : Rule) → IsRule names ts r
    → IsRule names ts s → r ≡ s
IsRule-unique names ts r s a b = let e = run-from_IsRule names ts r a in let f =
    run-from_IsRule names ts s b in one (sym e ∙ f)
  where
    one : Some r ≡ Some s → r ≡ s
    one e = cc

same_line : {a b c : ModelLine} → a ≡ b → a ≡ c → b ≡ c
same_line e f = sym e ∙ f

same_rule : {a b : List Token} → rule_line a ≡ rule_line b → a ≡ b
same_rule e = cc

same_name : {a b : List ℕ} → option_line a ≡ option_line b → a ≡ b
same_name e = cc

both_ways : {A : Type 0} (b : Bool) → b ≡ true → b ≡ false → A
both_ways b e f = cc

after_nothing : {m : Features} {n : ℕ} {line : List ℕ} {lines : List (List ℕ)} {p : Reading}
    → line_of line ≡ nothing → Reads m n (line ∷ lines) p → Reads m (n + 1) lines p
after_nothing {m} {n} {line} {lines} {p} x (says_nothing e d) = d
after_nothing {m} {n} {line} {lines} {p} x (bad e) = cc
after_nothing {m} {n} {line} {lines} {p} x (option {name = name} e fresh lt d) = cc
after_nothing {m} {n} {line} {lines} {p} x (repeated {name = name} e known) = cc
after_nothing {m} {n} {line} {lines} {p} x (too_many {name = name} e fresh full) = cc
after_nothing {m} {n} {line} {lines} {p} x (rule {ts = ts} {r = r} e said about d) = cc
after_nothing {m} {n} {line} {lines} {p} x (unknown {ts = ts} {r = r} e said about) = cc
after_nothing {m} {n} {line} {lines} {p} x (no_rule {ts = ts} e none) = cc

after_bad : {m : Features} {n : ℕ} {line : List ℕ} {lines : List (List ℕ)} {p : Reading}
    → line_of line ≡ bad_line → Reads m n (line ∷ lines) p → p ≡ fault n BadLine
after_bad {m} {n} {line} {lines} {p} x (says_nothing e d) = cc
after_bad {m} {n} {line} {lines} {p} x (bad e) = refl
after_bad {m} {n} {line} {lines} {p} x (option {name = name} e fresh lt d) = cc
after_bad {m} {n} {line} {lines} {p} x (repeated {name = name} e known) = cc
after_bad {m} {n} {line} {lines} {p} x (too_many {name = name} e fresh full) = cc
after_bad {m} {n} {line} {lines} {p} x (rule {ts = ts} {r = r} e said about d) = cc
after_bad {m} {n} {line} {lines} {p} x (unknown {ts = ts} {r = r} e said about) = cc
after_bad {m} {n} {line} {lines} {p} x (no_rule {ts = ts} e none) = cc

after_repeated : {m : Features} {n : ℕ} {line : List ℕ} {lines : List (List ℕ)} {p : Reading}
    (name : List ℕ) → line_of line ≡ option_line name → list_any (bytes_eq name) m.names ≡ true
    → Reads m n (line ∷ lines) p → p ≡ fault n Repeated
after_repeated {m} {n} {line} {lines} {p} name x k (says_nothing e d) = cc
after_repeated {m} {n} {line} {lines} {p} name x k (bad e) = cc
after_repeated {m} {n} {line} {lines} {p} name x k (option {name = other} e fresh lt d) =
    both_ways (list_any (bytes_eq name) m.names) k
    (subst (λ x. list_any (bytes_eq x) m.names ≡ false) (same_name (same_line e x)) fresh)
after_repeated {m} {n} {line} {lines} {p} name x k (repeated {name = other} e known) = refl
after_repeated {m} {n} {line} {lines} {p} name x k (too_many {name = other} e fresh full) =
    both_ways (list_any (bytes_eq name) m.names) k
    (subst (λ x. list_any (bytes_eq x) m.names ≡ false) (same_name (same_line e x)) fresh)
after_repeated {m} {n} {line} {lines} {p} name x k (rule {ts = us} {r = r} e said about d) = cc
after_repeated {m} {n} {line} {lines} {p} name x k (unknown {ts = us} {r = r} e said about) = cc
after_repeated {m} {n} {line} {lines} {p} name x k (no_rule {ts = us} e none) = cc

after_too_many : {m : Features} {n : ℕ} {line : List ℕ} {lines : List (List ℕ)} {p : Reading}
    (name : List ℕ) → line_of line ≡ option_line name → list_any (bytes_eq name) m.names ≡ false
    → length m.names ≡ 256 → Reads m n (line ∷ lines) p → p ≡ fault n TooMany
after_too_many {m} {n} {line} {lines} {p} name x k f (says_nothing e d) = cc
after_too_many {m} {n} {line} {lines} {p} name x k f (bad e) = cc
after_too_many {m} {n} {line} {lines} {p} name x k f (option {name = other} e fresh lt d) =
    absurd (omega arith)
after_too_many {m} {n} {line} {lines} {p} name x k f (repeated {name = other} e known) =
    both_ways (list_any (bytes_eq name) m.names)
    (subst (λ x. list_any (bytes_eq x) m.names ≡ true) (same_name (same_line e x)) known) k
after_too_many {m} {n} {line} {lines} {p} name x k f (too_many {name = other} e fresh full) = refl
after_too_many {m} {n} {line} {lines} {p} name x k f (rule {ts = us} {r = r} e said about d) = cc
after_too_many {m} {n} {line} {lines} {p} name x k f (unknown {ts = us} {r = r} e said about) = cc
after_too_many {m} {n} {line} {lines} {p} name x k f (no_rule {ts = us} e none) = cc

after_option : {m : Features} {n : ℕ} {line : List ℕ} {lines : List (List ℕ)} {p : Reading}
    (name : List ℕ) → line_of line ≡ option_line name → list_any (bytes_eq name) m.names ≡ false
    → length m.names < 256 → Reads m n (line ∷ lines) p
    → Reads (record { names = m.names ++ name ∷ []; rules = m.rules }) (n + 1) lines p
after_option {m} {n} {line} {lines} {p} name x k f (says_nothing e d) = cc
after_option {m} {n} {line} {lines} {p} name x k f (bad e) = cc
after_option {m} {n} {line} {lines} {p} name x k f (option {name = other} e fresh lt d) =
    subst (λ (y : List ℕ). Reads (record { names = m.names ++ y ∷ []; rules = m.rules }) (n + 1)
    lines p) (same_name (same_line e x)) d
after_option {m} {n} {line} {lines} {p} name x k f (repeated {name = other} e known) =
    both_ways (list_any (bytes_eq name) m.names)
    (subst (λ x. list_any (bytes_eq x) m.names ≡ true) (same_name (same_line e x)) known) k
after_option {m} {n} {line} {lines} {p} name x k f (too_many {name = other} e fresh full) =
    absurd (omega arith)
after_option {m} {n} {line} {lines} {p} name x k f (rule {ts = us} {r = r} e said about d) = cc
after_option {m} {n} {line} {lines} {p} name x k f (unknown {ts = us} {r = r} e said about) = cc
after_option {m} {n} {line} {lines} {p} name x k f (no_rule {ts = us} e none) = cc

after_rule : {m : Features} {n : ℕ} {line : List ℕ} {lines : List (List ℕ)} {p : Reading}
    (ts : List Token) (q : Rule) → line_of line ≡ rule_line ts → IsRule m.names ts q
    → is_about (length m.names) q ≡ true → Reads m n (line ∷ lines) p
    → Reads (record { names = m.names; rules = m.rules ++ q ∷ [] }) (n + 1) lines p
after_rule {m} {n} {line} {lines} {p} ts q x k a (says_nothing e d) = cc
after_rule {m} {n} {line} {lines} {p} ts q x k a (bad e) = cc
after_rule {m} {n} {line} {lines} {p} ts q x k a (option {name = other} e fresh lt d) = cc
after_rule {m} {n} {line} {lines} {p} ts q x k a (repeated {name = other} e known) = cc
after_rule {m} {n} {line} {lines} {p} ts q x k a (too_many {name = other} e fresh full) = cc
after_rule {m} {n} {line} {lines} {p} ts q x k a (rule {ts = us} {r = r} e said about d) =
    subst (λ (z : Rule). Reads (record { names = m.names; rules = m.rules ++ z ∷ [] }) (n + 1) lines
    p) (IsRule-unique m.names ts r q
    (subst (λ us. IsRule m.names us r) (same_rule (same_line e x)) said) k) d
after_rule {m} {n} {line} {lines} {p} ts q x k a (unknown {ts = us} {r = r} e said about) =
    both_ways (is_about (length m.names) q) a
    (subst (λ z. is_about (length m.names) z ≡ false)
    (IsRule-unique m.names ts r q
    (subst (λ us. IsRule m.names us r) (same_rule (same_line e x)) said) k) about)
after_rule {m} {n} {line} {lines} {p} ts q x k a (no_rule {ts = us} e none) =
    absurd (none q (subst (λ us. IsRule m.names us q) (same_rule (same_line x e)) k))

after_unknown : {m : Features} {n : ℕ} {line : List ℕ} {lines : List (List ℕ)} {p : Reading}
    (ts : List Token) (q : Rule) → line_of line ≡ rule_line ts → IsRule m.names ts q
    → is_about (length m.names) q ≡ false → Reads m n (line ∷ lines) p → p ≡ fault n Unknown
after_unknown {m} {n} {line} {lines} {p} ts q x k a (says_nothing e d) = cc
after_unknown {m} {n} {line} {lines} {p} ts q x k a (bad e) = cc
after_unknown {m} {n} {line} {lines} {p} ts q x k a (option {name = other} e fresh lt d) = cc
after_unknown {m} {n} {line} {lines} {p} ts q x k a (repeated {name = other} e known) = cc
after_unknown {m} {n} {line} {lines} {p} ts q x k a (too_many {name = other} e fresh full) = cc
after_unknown {m} {n} {line} {lines} {p} ts q x k a (rule {ts = us} {r = r} e said about d) =
    both_ways (is_about (length m.names) q)
    (subst (λ z. is_about (length m.names) z ≡ true)
    (IsRule-unique m.names ts r q
    (subst (λ us. IsRule m.names us r) (same_rule (same_line e x)) said) k) about) a
after_unknown {m} {n} {line} {lines} {p} ts q x k a (unknown {ts = us} {r = r} e said about) = refl
after_unknown {m} {n} {line} {lines} {p} ts q x k a (no_rule {ts = us} e none) =
    absurd (none q (subst (λ us. IsRule m.names us q) (same_rule (same_line x e)) k))

after_no_rule : {m : Features} {n : ℕ} {line : List ℕ} {lines : List (List ℕ)} {p : Reading}
    (ts : List Token) → line_of line ≡ rule_line ts → ((q : Rule) → IsRule m.names ts q → ⊥)
    → Reads m n (line ∷ lines) p → p ≡ fault n BadLine
after_no_rule {m} {n} {line} {lines} {p} ts x k (says_nothing e d) = cc
after_no_rule {m} {n} {line} {lines} {p} ts x k (bad e) = cc
after_no_rule {m} {n} {line} {lines} {p} ts x k (option {name = other} e fresh lt d) = cc
after_no_rule {m} {n} {line} {lines} {p} ts x k (repeated {name = other} e known) = cc
after_no_rule {m} {n} {line} {lines} {p} ts x k (too_many {name = other} e fresh full) = cc
after_no_rule {m} {n} {line} {lines} {p} ts x k (rule {ts = us} {r = r} e said about d) =
    absurd (k r (subst (λ us. IsRule m.names us r) (same_rule (same_line e x)) said))
after_no_rule {m} {n} {line} {lines} {p} ts x k (unknown {ts = us} {r = r} e said about) =
    absurd (k r (subst (λ us. IsRule m.names us r) (same_rule (same_line e x)) said))
after_no_rule {m} {n} {line} {lines} {p} ts x k (no_rule {ts = us} e none) = refl

at_end_valid : {m : Features} {n : ℕ} {p : Reading} (values : List Bool) → IsValid m values
    → Reads m n [] p → p ≡ model m
at_end_valid values h (ends v g) = refl
at_end_valid values h (no_configuration g) = absurd (g values h)

at_end_none : {m : Features} {n : ℕ} {p : Reading} → ((values : List Bool) → IsValid m values → ⊥)
    → Reads m n [] p → p ≡ fault 0 NoConfiguration
at_end_none h (ends v g) = absurd (h v g)
at_end_none h (no_configuration g) = refl

pub Reads-unique : {m : Features} {n : ℕ} {lines : List (List ℕ)} {o : Reading} → Reads m n lines o
    → (p : Reading) → Reads m n lines p → p ≡ o
Reads-unique (ends values h) p q = at_end_valid values h q
Reads-unique (no_configuration h) p q = at_end_none h q
Reads-unique (says_nothing e d) p q = Reads-unique d p (after_nothing e q)
Reads-unique (bad e) p q = after_bad e q
Reads-unique (option {name = name} e fresh lt d) p q =
    Reads-unique d p (after_option name e fresh lt q)
Reads-unique (repeated {name = name} e known) p q = after_repeated name e known q
Reads-unique (too_many {name = name} e fresh full) p q = after_too_many name e fresh full q
Reads-unique (rule {ts = ts} {r = r} e said about d) p q =
    Reads-unique d p (after_rule ts r e said about q)
Reads-unique (unknown {ts = ts} {r = r} e said about) p q = after_unknown ts r e said about q
Reads-unique (no_rule {ts = ts} e none) p q = after_no_rule ts e none q

pub says_one : (bytes : List ℕ) → SaysOne bytes
says_one bytes = λ o p a b. Reads-unique a p b
