-- The events of an episode decide what it comes to.
use Rattle.std.proofs.Common.{◌≡◌, ℕ, zero, suc, ◌-◌, Bool, true, false, List, [], ◌∷◌, Option, Some, None, refl, sym, ap, ◌∙◌, subst}
use Rattle.std.specs.Prelude.{drop, length, map}
use Rattle.hv_base.specs.declared.limits.TheConstants.{MOST_EVENTS}
use Rattle.hv_base.specs.declared.place.Place.{Place}
use Rattle.hv_base.specs.declared.why.Why.TheVariants.{DirectiveInArguments}
use Rattle.hv_toks.specs.Macro.{Macro, undefined, defined}
use Rattle.hv_toks.specs.declared.macros.Body.{Body}
use Rattle.hv_toks.specs.declared.macros.Body.TheVariants.{Object, Function}
use Rattle.hv_toks.specs.declared.token.PpKind.TheVariants.{Number}
use Rattle.hv_toks.specs.declared.token.PpTok.{PpTok}
use Rattle.hv_plain.proofs.EpisodeStates.{AlikeToken, one_token, same_token, AlikeTokens, none, more, tokens_refl, scan, no_frames, AlikeState, at_as, done_as, refused_as, after_alike}
use Rattle.hv_plain.specs.declared.episode.RunEnd.{RunEnd}
use Rattle.hv_plain.specs.declared.episode.RunEnd.TheVariants.{Directive, FileEnd, Line}
use Rattle.hv_plain.specs.episode.Alike.{AlikeByte, same, zero_one, one_zero, end, next as next_byte, alike_refl}
use Rattle.hv_plain.specs.episode.Episode.{Question, asked_at, digit, answer, answered, starting, start, episode}
use Rattle.hv_plain.specs.episode.Expansion.{Next, parenthesis, otherwise, directive, next, Deed, give, use_macro, stop, deed, deed_at, is_open, State, after, events, Episode, adding, ended, fails, too_long, run}
use Rattle.hv_plain.specs.episode.Laws.{AreConsistent, FaceDecides}
use Rattle.hv_plain.specs.episode.Substitution.{Frame}
use Rattle.hv_plain.specs.episode.Tokens.{Token, source_token}

------ what is used is what the name means

deed_means : (n : Next) (macro : Macro) (place : Place) (body : Body)
    → deed n macro ≡ use_macro place body
    → macro ≡ defined place body
deed_means n undefined place body e = cc
deed_means n (defined p (Object b)) place body e = cc
deed_means parenthesis (defined p (Function ps v b)) place body e = cc
deed_means otherwise (defined p (Function ps v b)) place body e = cc
deed_means directive (defined p (Function ps v b)) place body e = cc

deed_at_means : (ends : RunEnd) (t : Token) (tokens : List Token) (frames : List Frame)
    (macro : Macro) (place : Place)
    (body : Body) → deed_at ends t tokens frames macro ≡ use_macro place body
    → macro ≡ defined place body
deed_at_means ends t tokens frames macro place body e = go (is_open t) e
  where
    go : (b : Bool) → elim b [ true ↦ deed (next ends tokens frames) macro | false ↦ give ]
        ≡ use_macro place body
        → macro ≡ defined place body
    go true h = deed_means (next ends tokens frames) macro place body h
    go false h = cc

------ one turn

-- of two tokens, where the definition at one place is used for both, the names and the bodies are
-- equal
abbrev Agrees : Token → Token → Deed → Deed → Type 0
Agrees t u d e = (p : Place) (b c : Body) → d ≡ use_macro p b → e ≡ use_macro p c
    → (t.text ≡ u.text) × (b ≡ c)

-- what follows one deed at equal tokens, where its events are equal
abbrev Follows : Token → Token → (these others : Deed → Episode) → Type 0
Follows t u these others = (d : Deed) → t ≡ u → (these d).face ≡ (others d).face
    → these d ≡ others d

given_alike : (t u : Token) (these others : Deed → Episode) → AlikeToken t u
    → Follows t u these others
    → (adding (events t give) (these give)).face ≡ (adding (events u give) (others give)).face
    → adding (events t give) (these give) ≡ adding (events u give) (others give)
given_alike t u these others a follows e =
    let texts : t.text ≡ u.text = cc in
    let one : t ≡ u = same_token a texts in
    let later : (these give).face ≡ (others give).face = cc in
    ap (adding (events t give)) (follows give one later)
    ∙ ap (λ (v : Token). adding (events v give) (others give)) one

used_alike : (t u : Token) (these others : Deed → Episode) (p q : Place) (b c : Body)
    → AlikeToken t u
    → Agrees t u (use_macro p b) (use_macro q c) → Follows t u these others
    → (adding (events t (use_macro p b)) (these (use_macro p b))).face
    ≡ (adding (events u (use_macro q c)) (others (use_macro q c))).face
    → adding (events t (use_macro p b)) (these (use_macro p b))
    ≡ adding (events u (use_macro q c)) (others (use_macro q c))
used_alike t u these others p q b c a h follows e =
    let places : p ≡ q = cc in
    let both : (t.text ≡ u.text) × (b ≡ c) =
    h p b c refl (ap (λ (x : Place). use_macro x c) (sym places)) in
    let one : t ≡ u = same_token a both.0 in
    let deeds : use_macro p b ≡ use_macro q c = ap (λ (x : Place). use_macro x b) places
    ∙ ap (use_macro q) both.1 in
    let tails : (these (use_macro p b)).face ≡ (others (use_macro q c)).face = cc in
    let later : (these (use_macro p b)).face ≡ (others (use_macro p b)).face =
    tails ∙ ap (λ (d : Deed). (others d).face) (sym deeds) in
    ap (adding (events t (use_macro p b))) (follows (use_macro p b) one later)
    ∙ ap (λ (d : Deed). adding (events u d) (others d)) deeds

turn : (t u : Token) (d e : Deed) (these others : Deed → Episode) (stopped : Episode)
    → AlikeToken t u → Agrees t u d e
    → these stop ≡ stopped → others stop ≡ stopped → stopped.face ≡ [] → Follows t u these others
    → (adding (events t d) (these d)).face ≡ (adding (events u e) (others e)).face
    → adding (events t d) (these d) ≡ adding (events u e) (others e)
turn t u give give these others stopped a h f g n follows e =
    given_alike t u these others a follows e
turn t u give (use_macro q c) these others stopped a h f g n follows e = cc
turn t u give stop these others stopped a h f g n follows e =
    let r : (others stop).face ≡ [] = ap (λ (x : Episode). x.face) g ∙ n in cc
turn t u (use_macro p b) give these others stopped a h f g n follows e = cc
turn t u (use_macro p b) (use_macro q c) these others stopped a h f g n follows e =
    used_alike t u these others p q b c a h follows e
turn t u (use_macro p b) stop these others stopped a h f g n follows e =
    let r : (others stop).face ≡ [] = ap (λ (x : Episode). x.face) g ∙ n in cc
turn t u stop give these others stopped a h f g n follows e =
    let r : (these stop).face ≡ [] = ap (λ (x : Episode). x.face) f ∙ n in cc
turn t u stop (use_macro q c) these others stopped a h f g n follows e =
    let r : (these stop).face ≡ [] = ap (λ (x : Episode). x.face) f ∙ n in cc
turn t u stop stop these others stopped a h f g n follows e = ap (adding []) (f ∙ sym g)

-- the names that two states have next are used alike
agreed : (ends : RunEnd) (t u : Token) (ts us : List Token) (fs gs : List Frame)
    (macros others : List ℕ → Macro)
    → AreConsistent macros others
    → Agrees t u (deed_at ends t ts fs (macros t.text)) (deed_at ends u us gs (others u.text))
agreed ends t u ts us fs gs macros others a p b c d e =
    a t.text u.text p b c (deed_at_means ends t ts fs (macros t.text) p b d)
    (deed_at_means ends u us gs (others u.text) p c e)

------ whole expansions

decided : (ends : RunEnd) (left : ℕ) (s r : State) (macros others : List ℕ → Macro) → AlikeState s r
    → AreConsistent macros others → (run ends macros left s).face ≡ (run ends others left r).face
    → run ends macros left s ≡ run ends others left r
unfolding run
decided ends left _ _ macros others (done_as (scan unread given p)) a e = refl
decided ends left _ _ macros others (refused_as why) a e = refl
decided ends zero _ _ macros others
    (at_as {t = t} {u = u} {s = s} {r = r} {fs = fs} {gs = gs} tokens scans around) a e =
    turn t u (deed_at ends t s.ahead fs (macros t.text)) (deed_at ends u r.ahead gs (others u.text))
    too_long too_long
    (ended (fails DirectiveInArguments)) tokens
    (agreed ends t u s.ahead r.ahead fs gs macros others a) refl refl refl
    (λ d one h. refl) e
decided ends (suc left) _ _ macros others
    (at_as {t = t} {u = u} {s = s} {r = r} {fs = fs} {gs = gs} tokens scans around) a e =
    turn t u (deed_at ends t s.ahead fs (macros t.text)) (deed_at ends u r.ahead gs (others u.text))
    (λ d. run ends macros left (after ends t s fs d))
    (λ d. run ends others left (after ends u r gs d))
    (ended (fails DirectiveInArguments)) tokens
    (agreed ends t u s.ahead r.ahead fs gs macros others a) refl refl refl
    (λ d one h. decided ends left (after ends t s fs d) (after ends u r gs d) macros others
    (subst (λ v. AlikeState (after ends t s fs d) (after ends v r gs d)) one
    (after_alike ends t d scans around)) a h) e

------ how an episode begins

digit_alike : (macro other : Macro) → AlikeByte (digit macro) (digit other)
digit_alike undefined undefined = same 48
digit_alike undefined (defined p b) = zero_one
digit_alike (defined p b) undefined = one_zero
digit_alike (defined p b) (defined q c) = same 49

answer_alike : (t : PpTok) (macro other : Macro)
    → AlikeToken (answer t (digit macro)) (answer t (digit other))
answer_alike t macro other =
    one_token Number (answer t 48).space [] (next_byte (digit_alike macro other) end)

answered_case : (macros others : List ℕ → Macro) (t : PpTok) (after : List PpTok)
    (q : Option Question)
    → ((skipped : ℕ) → AlikeTokens (answered macros skipped after) (answered others skipped after))
    → AlikeTokens
    (elim q [
      | None ↦ source_token t ∷ answered macros zero after
      | Some q ↦ answer t (digit (macros q.name)) ∷ answered macros q.more after
    ])
    (elim q [
      | None ↦ source_token t ∷ answered others zero after
      | Some q ↦ answer t (digit (others q.name)) ∷ answered others q.more after
    ])
answered_case macros others t after None h =
    more (one_token t.kind (source_token t).space [] (alike_refl t.text)) (h zero)
answered_case macros others t after (Some q) h =
    more (answer_alike t (macros q.name) (others q.name)) (h q.more)

answered_alike : (macros others : List ℕ → Macro) (skipped : ℕ) (run : List PpTok)
    → AlikeTokens (answered macros skipped run) (answered others skipped run)
answered_alike macros others skipped [] = none
answered_alike macros others (suc skipped) (t ∷ after) = answered_alike macros others skipped after
answered_alike macros others zero (t ∷ after) =
    answered_case macros others t after (asked_at t after)
    (λ n. answered_alike macros others n after)

starting_alike : {ts us : List Token} → AlikeTokens ts us → (unread : ℕ)
    → AlikeState (starting ts unread) (starting us unread)
starting_alike none unread = done_as (scan 0 [] none)
starting_alike (more t p) unread = at_as t (scan unread [] p) no_frames

start_alike : (ends : RunEnd) (macros others : List ℕ → Macro) (run : List PpTok)
    → AlikeState (start ends macros run) (start ends others run)
start_alike Directive macros others run =
    starting_alike (tokens_refl (map source_token run)) (length run - 1)
start_alike FileEnd macros others run =
    starting_alike (tokens_refl (map source_token run)) (length run - 1)
start_alike Line macros others run = starting_alike (answered_alike macros others zero run) 0

pub face_decides : FaceDecides
unfolding episode
face_decides ends text position macros others a e =
    decided ends MOST_EVENTS (start ends macros (drop position text))
    (start ends others (drop position text)) macros others
    (start_alike ends macros others (drop position text)) a e
