-- Entries that stand for episodes, joined with others that stand for others.
use Rattle.std.proofs.Common.{◌≡◌, ℕ, List, [], ◌∷◌, ◌++◌, get_or, refl, sym, ap, subst}
use Rattle.std.specs.Prelude.{All, zip}
use Rattle.std.proofs.lemmas.List.Elements.{All-append, All-cons, All-head, All-nil, All-tail, All-weaker}
use Rattle.hv_base.specs.declared.place.Place.{Place}
use Rattle.hv_given.specs.Given.{AgreeInFace, AllAgree, AreEpisodes}
use Rattle.hv_given.specs.declared.given.Given.{Given}
use Rattle.hv_plainpp.specs.Reading.{Met}
use Rattle.hv_preproc.proofs.KeyOrder.{IsBefore-other, IsUntil-before}
use Rattle.hv_preproc.specs.working.Keys.{IsBefore, IsUntil, key}

pub AreEpisodes-append : (gs hs : List Given) (ms ns : List Met) → AreEpisodes gs ms
    → AreEpisodes hs ns → AreEpisodes (gs ++ hs) (ms ++ ns)
AreEpisodes-append [] hs [] ns a b = b
AreEpisodes-append [] hs (m ∷ ms) ns a b = absurd a
AreEpisodes-append (g ∷ gs) hs [] ns a b = absurd a
AreEpisodes-append (g ∷ gs) hs (m ∷ ms) ns a b =
    (a.0, AreEpisodes-append gs hs ms ns a.1 b)

pub zip-append : (gs hs : List Given) (ms ns : List Met) → AreEpisodes gs ms
    → zip (gs ++ hs) (ms ++ ns) ≡ zip gs ms ++ zip hs ns
zip-append [] hs [] ns a = refl
zip-append [] hs (m ∷ ms) ns a = absurd a
zip-append (g ∷ gs) hs [] ns a = absurd a
zip-append (g ∷ gs) hs (m ∷ ms) ns a =
    ap (λ (ps : List (Given × Met)). (g, m) ∷ ps) (zip-append gs hs ms ns a.1)

-- what is so of the episodes' places is so of the entries'
pub places_of : (P : Place → Type 0) (gs : List Given) (ms : List Met) → AreEpisodes gs ms
    → All (λ (m : Met). P m.place) ms → All (λ (p : Given × Met). P p.0.place) (zip gs ms)
places_of P [] [] a h = All-nil (λ (p : Given × Met). P p.0.place)
places_of P [] (m ∷ ms) a h = absurd a
places_of P (g ∷ gs) [] a h = absurd a
places_of P (g ∷ gs) (m ∷ ms) a h =
    All-cons (λ (p : Given × Met). P p.0.place) (g, m) (zip gs ms)
    (subst P (sym a.0.place) (All-head (λ (m : Met). P m.place) m ms h))
    (places_of P gs ms a.1 (All-tail (λ (m : Met). P m.place) m ms h))

------ AllAgree

abbrev Pair : Type 0
Pair = Given × Met

-- entries of one list and of another that all stand before a place, or all from it on
apart : (here : List ℕ) (p q : Pair) → IsBefore (key p.0.place) here
    → IsUntil here (key q.0.place) → ¬ (p.0.place ≡ q.0.place)
apart here p q before from same = IsBefore-other (key p.0.place) (key q.0.place)
    (IsUntil-before (key p.0.place) here (key q.0.place) before from) (ap key same)

pub AllAgree-apart : (here : List ℕ) (ps qs : List Pair)
    → All (λ (p : Pair). IsBefore (key p.0.place) here) ps
    → All (λ (q : Pair). IsUntil here (key q.0.place)) qs → AllAgree ps qs
AllAgree-apart here ps qs before from =
    All-weaker (λ (p : Pair). IsBefore (key p.0.place) here)
    (λ (p : Pair). All (AgreeInFace p) qs)
    (λ p b. All-weaker (λ (q : Pair). IsUntil here (key q.0.place)) (AgreeInFace p)
    (λ q f same. absurd (apart here p q b f same)) qs from) ps before

pub AllAgree-apart_back : (here : List ℕ) (ps qs : List Pair)
    → All (λ (p : Pair). IsBefore (key p.0.place) here) ps
    → All (λ (q : Pair). IsUntil here (key q.0.place)) qs → AllAgree qs ps
AllAgree-apart_back here ps qs before from =
    All-weaker (λ (q : Pair). IsUntil here (key q.0.place))
    (λ (q : Pair). All (AgreeInFace q) ps)
    (λ q f. All-weaker (λ (p : Pair). IsBefore (key p.0.place) here) (AgreeInFace q)
    (λ p b same. absurd (apart here p q b f (sym same))) ps before) qs from

both_ends : (ps qs more : List Pair) → AllAgree ps qs → AllAgree ps more
    → AllAgree ps (qs ++ more)
both_ends ps qs more a b =
    λ k d l. All-append (AgreeInFace (get_or ps k d)) qs more (a k d l) (b k d l)

pub AllAgree-append : (ps qs others more : List Pair) → AllAgree ps qs → AllAgree ps more
    → AllAgree others qs → AllAgree others more → AllAgree (ps ++ others) (qs ++ more)
AllAgree-append ps qs others more a b c d =
    All-append (λ (p : Pair). All (AgreeInFace p) (qs ++ more)) ps others
    (both_ends ps qs more a b) (both_ends others qs more c d)
