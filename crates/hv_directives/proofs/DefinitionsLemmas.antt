-- Replacement lists and parameters, token by token.
use Rattle.std.proofs.Common.{◌≡◌, ◌∙◌, ◌+◌, ◌<◌, ℕ, zero, suc, Bool, true, ◌&&◌, ◌||◌, not, List, [], ◌∷◌, ◌++◌, codes, refl, sym, ap, arith, length, get_or, append_assoc, Option, Some, None}
use Rattle.hv_toks.specs.declared.token.PpTok.{PpTok}
use Rattle.hv_plain.specs.episode.Bodies.{is_paste}
use Rattle.hv_plain.specs.episode.Episode.{has_text}
use Rattle.hv_plainpp.specs.Definitions.{Parameters, begins_with_parameter, ends_with_paste, quotes_parameters, some_parameters, with_name}
use Rattle.hv_directives.specs.working.Steps.{with_names}

------ ends_with_paste

pub ends_with_paste-last : (ts : List PpTok) (n : ℕ) (t : PpTok) → n + 1 ≡ length ts
    → t ≡ get_or ts n t → is_paste t ≡ ends_with_paste ts
ends_with_paste-last [] n t len e = absurd (omega arith)
ends_with_paste-last (x ∷ []) zero t len e = ap is_paste e
ends_with_paste-last (x ∷ []) (suc n) t len e = absurd (omega arith)
ends_with_paste-last (x ∷ y ∷ zs) zero t len e = absurd (omega arith)
ends_with_paste-last (x ∷ y ∷ zs) (suc n) t len e =
    ends_with_paste-last (y ∷ zs) n t (omega arith) e

------ quotes_parameters

pub quotes_parameters-step : (ps : List (List ℕ)) (ts : List PpTok) (t : PpTok)
    (after : List PpTok) (allowed : Bool) → ts ≡ t ∷ after
    → allowed ≡ (not (has_text t (codes "#")) || begins_with_parameter ps after)
    → quotes_parameters ps ts ≡ (allowed && quotes_parameters ps after)
quotes_parameters-step ps ts t after allowed e a =
    ap (quotes_parameters ps) e ∙ ap (λ b. b && quotes_parameters ps after) (sym a)

pub quotes_parameters-short : (ps : List (List ℕ)) (ts : List PpTok) → length ts < 1
    → quotes_parameters ps ts ≡ true
quotes_parameters-short ps [] h = refl
quotes_parameters-short ps (t ∷ ts) h = absurd (omega arith)

------ parameters

pub with_names-none : (o : Option Parameters) → with_names [] o ≡ o
with_names-none None = refl
with_names-none (Some ps) = refl

pub with_names-push : (names : List (List ℕ)) (name : List ℕ) (o : Option Parameters)
    → with_names (names ++ name ∷ []) o ≡ with_names names (with_name name o)
with_names-push names name None = refl
with_names-push names name (Some ps) =
    ap (λ ns. Some (record ps { names = ns })) (append_assoc names (name ∷ []) ps.names)

pub some_parameters-short : (ts : List PpTok) → length ts < 2 → some_parameters ts ≡ None
some_parameters-short [] h = refl
some_parameters-short (t ∷ []) h = refl
some_parameters-short (t ∷ mark ∷ ts) h = absurd (omega arith)

-- a parameter and a comma
pub some_parameters-next : (tokens rest : List PpTok) (t mark : PpTok) (after : List PpTok)
    (names more : List (List ℕ)) → some_parameters tokens ≡ with_names names (some_parameters rest)
    → rest ≡ t ∷ mark ∷ after
    → some_parameters (t ∷ mark ∷ after) ≡ with_name t.text (some_parameters after)
    → more ≡ names ++ t.text ∷ []
    → some_parameters tokens ≡ with_names more (some_parameters after)
some_parameters-next tokens rest t mark after names more before e step m =
    before ∙ ap (λ ts. with_names names (some_parameters ts)) e ∙ ap (with_names names) step
    ∙ sym (with_names-push names t.text (some_parameters after))
    ∙ ap (λ ns. with_names ns (some_parameters after)) (sym m)

-- a list that ends with such a pair
pub some_parameters-ends : (tokens rest : List PpTok) (t mark : PpTok) (after : List PpTok)
    (names : List (List ℕ)) (o : Option Parameters)
    → some_parameters tokens ≡ with_names names (some_parameters rest)
    → rest ≡ t ∷ mark ∷ after → some_parameters (t ∷ mark ∷ after) ≡ o
    → some_parameters tokens ≡ with_names names o
some_parameters-ends tokens rest t mark after names o before e step =
    before ∙ ap (λ ts. with_names names (some_parameters ts)) e ∙ ap (with_names names) step
