-- What stands next in a text, how much of a run is left, and what an open digit tells.
use Rattle.std.proofs.Common.{◌≡◌, ◌<◌, ◌≤◌, ◌-◌, ℕ, Bool, false, List, [], ◌∷◌, ◌++◌, Option, Some, None, refl, sym, ap, ◌∙◌, arith, length, length-drop, map, drop, get_or, drop-cons, append_assoc}
use Rattle.std.specs.Prelude.{IsTrue, ◌↔◌, slice_get}
use Rattle.std.proofs.lemmas.Bool.{false≢true}
use Rattle.hv_base.proofs.Lists.{drop-past, length-map}
use Rattle.hv_base.specs.declared.why.Why.TheVariants.{BadInvocation}
use Rattle.hv_toks.specs.Macro.{Macro, undefined, defined}
use Rattle.hv_toks.specs.declared.token.PpTok.{PpTok}
use Rattle.hv_plain.specs.declared.episode.RunEnd.{RunEnd}
use Rattle.hv_plain.specs.declared.episode.RunEnd.TheVariants.{Directive, FileEnd, Line}
use Rattle.hv_plain.specs.episode.Episode.{digit}
use Rattle.hv_plain.specs.episode.Expansion.{Next, at, otherwise, next, next_end, next_mark, unclosed}
use Rattle.hv_plain.specs.episode.Invocation.{mark}
use Rattle.hv_plain.specs.episode.Substitution.{Frame, Scan}
use Rattle.hv_plain.specs.episode.Tokens.{Token, owing, source_token}
use Rattle.hv_rescan.specs.Pending.{is_macro}
use Rattle.hv_rescan.specs.Values.{digits_of, frames_of, state_in, text_of, token_of, tokens_of, unread_of}
use Rattle.hv_rescan.specs.declared.scan.Frame.{Frame as Frame'}
use Rattle.hv_rescan.specs.declared.scan.Scan.{Scan as Scan'}
use Rattle.hv_rescan.specs.declared.scan.State.{State as State'}
use Rattle.hv_rescan.specs.declared.scan.State.TheVariants as state'
use Rattle.hv_rescan.specs.declared.scan.Unread.{Unread}
use Rattle.hv_rescan.specs.declared.spelling.Digit.{Digit}
use Rattle.hv_rescan.specs.declared.spelling.Spelling.TheVariants.{Open}
use Rattle.hv_rescan.specs.declared.token.Token.{Token as Token'}

------ the end of a text

pub end_within : (macros : List ℕ → Macro) (run : List PpTok) (ends : RunEnd)
    (fs : List Frame') (b : Bool) → (IsTrue b ↔ (fs ≡ [])) → b ≡ false
    → otherwise ≡ next_end ends (frames_of macros run fs)
end_within macros run Directive [] b h e = absurd (false≢true (sym e ∙ h.1 refl))
end_within macros run Directive (f ∷ fs) b h e = refl
end_within macros run FileEnd fs b h e = refl
end_within macros run Line fs b h e = refl

pub unclosed_within : (macros : List ℕ → Macro) (run : List PpTok) (ends : RunEnd)
    (fs : List Frame') (b : Bool) → (IsTrue b ↔ (fs ≡ [])) → b ≡ false
    → BadInvocation ≡ unclosed ends (frames_of macros run fs)
unclosed_within macros run Directive [] b h e = absurd (false≢true (sym e ∙ h.1 refl))
unclosed_within macros run Directive (f ∷ fs) b h e = refl
unclosed_within macros run FileEnd fs b h e = refl
unclosed_within macros run Line fs b h e = refl

------ what is left of a run

owing_length : (owed : Bool) (ts : List Token) → length (owing owed ts) ≡ length ts
owing_length owed [] = refl
owing_length owed (t ∷ ts) = refl

pub unread_length : (run : List PpTok) (u : Unread)
    → length (unread_of run (Some u)) ≡ length run - u.next
unread_length run u =
    owing_length u.owed (map source_token (drop u.next run))
    ∙ length-map source_token (drop u.next run)
    ∙ length-drop u.next run

unread_past : (run : List PpTok) (u : Unread) → length run ≤ u.next → unread_of run (Some u) ≡ []
unread_past run u h =
    ap (λ (ts : List PpTok). owing u.owed (map source_token ts)) (drop-past u.next run h)

pub unread_ends : (run : List PpTok) (unread : Option Unread) (u : Unread) → unread ≡ Some u
    → length run ≤ u.next → unread_of run unread ≡ []
unread_ends run unread u e h = ap (unread_of run) e ∙ unread_past run u h

------ what stands next

pub next_front : (macros : List ℕ → Macro) (ends : RunEnd) (front : List Token')
    (rest : List Token) (frames : List Frame) (t : Token') (n : Next)
    → Some t ≡ slice_get front 0 → n ≡ next_mark (mark (text_of macros t.spelling))
    → n ≡ next ends (tokens_of macros front ++ rest) frames
next_front macros ends [] rest frames t n e h = let f : Some t ≡ None = e in absurd (cc)
next_front macros ends (x ∷ front) rest frames t n e h =
    let f : Some t ≡ Some x = e in
    let g : t ≡ x = cc in
    h ∙ ap (λ (v : Token'). next_mark (mark (text_of macros v.spelling))) g

pub next_unread : (macros : List ℕ → Macro) (run : List PpTok) (ends : RunEnd)
    (front : List Token') (unread : Option Unread) (u : Unread) (r : PpTok)
    (frames : List Frame) (n : Next)
    → None ≡ slice_get front 0 → unread ≡ Some u → u.next < length run
    → r ≡ get_or run u.next r → n ≡ next_mark (mark r.text)
    → n ≡ next ends (tokens_of macros front ++ unread_of run unread) frames
next_unread macros run ends (x ∷ front) unread u r frames n e is h g m =
    let f : None ≡ Some x = e in absurd (cc)
next_unread macros run ends [] unread u r frames n e is h g m =
    m ∙ ap (λ (v : PpTok). next_mark (mark v.text)) g
    ∙ sym (ap (λ (ts : List PpTok). next ends (owing u.owed (map source_token ts)) frames)
    (drop-cons run u.next r h))
    ∙ sym (ap (λ (v : Option Unread). next ends (unread_of run v) frames) is)

pub next_none : (macros : List ℕ → Macro) (ends : RunEnd) (front : List Token')
    (rest : List Token) (frames : List Frame) (n : Next)
    → None ≡ slice_get front 0 → rest ≡ [] → n ≡ next_end ends frames
    → n ≡ next ends (tokens_of macros front ++ rest) frames
next_none macros ends (x ∷ front) rest frames n e r h = let f : None ≡ Some x = e in absurd (cc)
next_none macros ends [] rest frames n e r h =
    h ∙ sym (ap (λ (ts : List Token). next ends ts frames) r)

------ what an open digit tells

macro_by_digit : (m o : Macro) → digit m ≡ digit o → is_macro m ≡ is_macro o
macro_by_digit undefined undefined e = refl
macro_by_digit undefined (defined place body) e = absurd (omega (arith, e))
macro_by_digit (defined place body) undefined e = absurd (omega (arith, e))
macro_by_digit (defined place body) (defined place' body') e = refl

pub digit_told : (m o : Macro) (before xs ys : List ℕ)
    → before ++ digit m ∷ xs ≡ before ++ digit o ∷ ys → is_macro m ≡ is_macro o
digit_told m o [] xs ys e =
    let d : digit m ≡ digit o = cc in macro_by_digit m o d
digit_told m o (x ∷ before) xs ys e =
    let f : before ++ digit m ∷ xs ≡ before ++ digit o ∷ ys = cc in
    digit_told m o before xs ys f

text_at : (macros : List ℕ → Macro) (run : List PpTok) (t : Token') (s : Scan') (fs : List Frame')
    (u : Token) (r : Scan) (gs : List Frame)
    → state_in macros run (state'.At t s fs) ≡ at u r gs → text_of macros t.spelling ≡ u.text
text_at macros run t s fs u r gs e =
    let f : token_of macros t ≡ u = cc in ap (λ (v : Token). v.text) f

pub digit_asked : (run : List PpTok) (state : State') (t : Token') (s : Scan') (fs : List Frame')
    (first : Digit) (more : List Digit) (tail name : List ℕ) (macros others : List ℕ → Macro)
    (u v : Token) (r q : Scan) (gs hs : List Frame)
    → state ≡ state'.At t s fs → t.spelling ≡ Open first more tail → first.name ≡ name
    → state_in macros run state ≡ at u r gs → state_in others run state ≡ at v q hs
    → u.text ≡ v.text → is_macro (macros name) ≡ is_macro (others name)
digit_asked run state t s fs first more tail name macros others u v r q gs hs is opens named m o e =
    let x : text_of macros (Open first more tail) ≡ u.text =
    sym (ap (text_of macros) opens)
    ∙ text_at macros run t s fs u r gs (sym (ap (state_in macros run) is) ∙ m) in
    let y : text_of others (Open first more tail) ≡ v.text =
    sym (ap (text_of others) opens)
    ∙ text_at others run t s fs v q hs (sym (ap (state_in others run) is) ∙ o) in
    let before : List ℕ = first.before in
    let z : (before ++ digit (macros first.name) ∷ digits_of macros more) ++ tail
    ≡ (before ++ digit (others first.name) ∷ digits_of others more) ++ tail = x ∙ e ∙ sym y in
    let told : is_macro (macros first.name) ≡ is_macro (others first.name) =
    digit_told (macros first.name) (others first.name) before (digits_of macros more ++ tail)
    (digits_of others more ++ tail)
    (sym (append_assoc before (digit (macros first.name) ∷ digits_of macros more) tail)
    ∙ z ∙ append_assoc before (digit (others first.name) ∷ digits_of others more) tail) in
    ap (λ (n : List ℕ). is_macro (macros n)) (sym named) ∙ told
    ∙ ap (λ (n : List ℕ). is_macro (others n)) named
