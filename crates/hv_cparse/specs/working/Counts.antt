-- The operators that the control counts, and the limits.
use Rattle.std.specs.Prelude.{◌≡◌, ℕ, suc, Bool, false, cond, nat_le, List, Option, Some, None}
use Rattle.hv_base.specs.declared.why.Why.{Why}
use Rattle.hv_base.specs.declared.why.Why.TheVariants.{Syntax, TooDeep}
use Rattle.hv_grammar.specs.Refusal.{Limits}
use Rattle.hv_grammar.specs.machine.Answers.{operators_before}
use Rattle.hv_cparse.specs.declared.frame.Frame.{Frame}
use Rattle.hv_cparse.specs.declared.frame.At.{At}
use Rattle.hv_cparse.specs.declared.frame.Mark.{Mark}
use Rattle.hv_cparse.specs.declared.frame.Role.{Role}
use Rattle.hv_cparse.specs.declared.frame.Role.TheVariants.{Outside, Inside, Operator}
use Rattle.hv_cparse.specs.working.Steps.{Moved}

-- the operators before a token, where the `(` before it may count too
abbrev pub before : ℕ → Mark → ℕ
before n k = operators_before n k.late

-- the operators up to a token of the role and with it
abbrev pub with_role : ℕ → Role → ℕ
with_role n Outside = 0
with_role n Inside = n
with_role n Operator = suc n

-- the operators up to a token that was taken and with it
abbrev pub after : ℕ → Mark → ℕ
after n k = with_role (before n k) k.role

-- whether the token keeps the limits
abbrev pub keeps : Limits → ℕ → Mark → Bool
keeps l n k =
    cond (nat_le k.depth l.brackets)
    (cond (nat_le (before n k) l.operators) (nat_le (after n k) l.operators) false) false

-- why a token is refused after n operators
abbrev pub cause : Limits → ℕ → Option Moved → Option Why
cause l n None = Some Syntax
cause l n (Some k) = cond (keeps l n k.mark) None (Some TooDeep)

-- the control after a token that was taken after n operators
abbrev pub Follows : ℕ → Option Moved → List Frame → At → ℕ → Type 0
Follows n None stack a c = Unit {0}
Follows n (Some k) stack a c = (stack ≡ k.frames) × (a ≡ k.at) × (c ≡ after n k.mark)
