-- A text is a string literal exactly where it is one token of that kind.
use Rattle.std.proofs.Common.{◌≡◌, ℕ, Bool, true, List, refl, ◌∙◌, ap, Option, Some, None}
use Rattle.hv_base.proofs.Booleans.{same_truth}
use Rattle.hv_toks.specs.Cutting.{whole_token}
use Rattle.hv_toks.specs.Lexical.{is_string_literal}
use Rattle.hv_toks.specs.declared.token.PpKind.{PpKind}
use Rattle.hv_toks.specs.declared.token.PpKind.TheVariants.{Identifier, Number, CharConstant, StringLiteral, HeaderName, Punctuator, Other}
use Rattle.hv_lexer.proofs.WholeToken.{whole-longest}
use Rattle.hv_ctoks.specs.working.Kinds.{is_string_kind}
use Rattle.hv_ctoks.proofs.WholeTokens.{whole_spelling}

kind_is : (kind : Option PpKind) → is_string_kind kind ≡ true → kind ≡ Some StringLiteral
kind_is None e = absurd (cc)
kind_is (Some Identifier) e = absurd (cc)
kind_is (Some Number) e = absurd (cc)
kind_is (Some CharConstant) e = absurd (cc)
kind_is (Some StringLiteral) e = refl
kind_is (Some HeaderName) e = absurd (cc)
kind_is (Some Punctuator) e = absurd (cc)
kind_is (Some Other) e = absurd (cc)

pub string_kind : (text : List ℕ) (kind : Option PpKind) (is : Bool) → kind ≡ whole_token text
    → is ≡ is_string_kind kind → is ≡ is_string_literal text
string_kind text kind is e f =
    f ∙ (ap is_string_kind e ∙ same_truth _ _
    (λ g. let longest = whole-longest text in (rw (kind_is (whole_token text) g) at longest).0)
    (λ g. ap is_string_kind (whole_spelling StringLiteral text g)))
