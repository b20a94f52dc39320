-- What is done with a token whose name is asked for.
use Rattle.std.proofs.Common.{ℕ, ◌≡◌, ◌≢◌, refl, sym, ap, ◌∙◌, subst, Bool, true, false, ◌&&◌, List, [], ◌∷◌}
use Rattle.std.proofs.lemmas.Bool.{false≢true, true≢false}
use Rattle.hv_base.specs.declared.place.Place.{Place}
use Rattle.hv_cond.specs.Diagram.{Diagram}
use Rattle.hv_macros.specs.Table.{HasOneBody, meaning_in}
use Rattle.hv_macros.specs.declared.tables.MacroTable.{MacroTable}
use Rattle.hv_toks.specs.Macro.{Macro, undefined, defined}
use Rattle.hv_toks.specs.declared.macros.Body.{Body}
use Rattle.hv_toks.specs.declared.macros.Body.TheVariants.{Object, Function}
use Rattle.hv_toks.specs.declared.token.PpKind.{PpKind}
use Rattle.hv_plain.specs.declared.episode.RunEnd.{RunEnd}
use Rattle.hv_plain.specs.declared.episode.RunEnd.TheVariants.{Line}
use Rattle.hv_plain.specs.episode.Expansion.{State, Deed, give, use_macro, stop, deed, deed_at, is_open, Next, parenthesis, otherwise, directive, next, next_mark, gives, events}
use Rattle.hv_plain.specs.episode.Invocation.{Mark, opening, closing, comma, none, mark}
use Rattle.hv_plain.specs.episode.Laws.{AreConsistent}
use Rattle.hv_plain.specs.episode.Substitution.{Frame}
use Rattle.hv_plain.specs.episode.Tokens.{Token}
use Rattle.hv_rescan.specs.Pending.{IsAt, IsToken, next_of}
use Rattle.hv_rescan.specs.declared.pending.Following.{Following}
use Rattle.hv_expand.specs.declared.questions.Question.TheVariants as question
use Rattle.hv_expand.specs.working.Going.{Differs, IsAsked, IsSettled, IsTurn, does, events_in, text_in, told}
use Rattle.hv_expand.specs.working.Questions.{IsAnswered, uses as used, Test, same_seen, shown}
use Rattle.hv_expand.proofs.Answering.{and_true, one_stays, same_seen-Decides}
use Rattle.hv_expand.proofs.Turns.{either}

------ macro states

-- definitions of one place have one name and one body in any two configurations
pub consistent : (d : Diagram) (table : MacroTable) → HasOneBody d table → (v w : List Bool)
    → AreConsistent (meaning_in d table v) (meaning_in d table w)
unfolding HasOneBody
consistent d table h v w = λ name other place body second. h v w name other place body second

------ deeds

-- definitions of one place have one body
abbrev OneBody : Macro → Macro → Type 0
OneBody m n = (place : Place) (body other : Body) → m ≡ defined place body
    → n ≡ defined place other → body ≡ other

same_use : (p r : Place) (b c : Body) → p ≡ r → (p ≡ r → b ≡ c)
    → use_macro p b ≡ use_macro r c
same_use p r b c e f = let g : b ≡ c = f e in cc

uses_one : (p r : Place) (b c : Body) → OneBody (defined p b) (defined r c)
    → used p ≡ used r → use_macro p b ≡ use_macro r c
uses_one p r b c one e =
    let same : p ≡ r = cc in
    same_use p r b c same (λ s. one p b c refl (ap (λ (x : Place). defined x c) (sym s)))

-- what is seen decides what is done
pub seen_decides : (f : Next) (m n : Macro) → OneBody m n → shown (deed f m) ≡ shown (deed f n)
    → deed f m ≡ deed f n
seen_decides f undefined undefined one e = refl
seen_decides f undefined (defined r (Object c)) one e = cc
seen_decides parenthesis undefined (defined r (Function ps v c)) one e = cc
seen_decides otherwise undefined (defined r (Function ps v c)) one e = refl
seen_decides directive undefined (defined r (Function ps v c)) one e = cc
seen_decides f (defined p (Object b)) undefined one e = cc
seen_decides f (defined p (Object b)) (defined r (Object c)) one e =
    uses_one p r (Object b) (Object c) one e
seen_decides parenthesis (defined p (Object b)) (defined r (Function ps v c)) one e =
    uses_one p r (Object b) (Function ps v c) one e
seen_decides otherwise (defined p (Object b)) (defined r (Function ps v c)) one e = cc
seen_decides directive (defined p (Object b)) (defined r (Function ps v c)) one e = cc
seen_decides parenthesis (defined p (Function os u b)) undefined one e = cc
seen_decides otherwise (defined p (Function os u b)) undefined one e = refl
seen_decides directive (defined p (Function os u b)) undefined one e = cc
seen_decides parenthesis (defined p (Function os u b)) (defined r (Object c)) one e =
    uses_one p r (Function os u b) (Object c) one e
seen_decides otherwise (defined p (Function os u b)) (defined r (Object c)) one e = cc
seen_decides directive (defined p (Function os u b)) (defined r (Object c)) one e = cc
seen_decides parenthesis (defined p (Function os u b)) (defined r (Function ps v c)) one e =
    uses_one p r (Function os u b) (Function ps v c) one e
seen_decides otherwise (defined p (Function os u b)) (defined r (Function ps v c)) one e = refl
seen_decides directive (defined p (Function os u b)) (defined r (Function ps v c)) one e = refl

-- a macro is used where its name means it
used_is : (f : Next) (m : Macro) (place : Place) (body : Body) → deed f m ≡ use_macro place body
    → m ≡ defined place body
used_is f undefined place body e = cc
used_is f (defined p (Object b)) place body e = cc
used_is parenthesis (defined p (Function ps v b)) place body e = cc
used_is otherwise (defined p (Function ps v b)) place body e = cc
used_is directive (defined p (Function ps v b)) place body e = cc

open_deed : (b : Bool) (f : Next) (m : Macro) (place : Place) (body : Body)
    → elim b [ true ↦ deed f m | false ↦ give ] ≡ use_macro place body → m ≡ defined place body
open_deed true f m place body e = used_is f m place body e
open_deed false f m place body e = cc

used_at : (ends : RunEnd) (t : Token) (ahead : List Token) (fs : List Frame) (m : Macro)
    (place : Place) (body : Body) → deed_at ends t ahead fs m ≡ use_macro place body
    → m ≡ defined place body
used_at ends t ahead fs m place body e =
    open_deed (is_open t) (next ends ahead fs) m place body e

-- an episode is stopped at a directive alone
stops_at : (f : Next) (m : Macro) → deed f m ≡ stop → f ≡ directive
stops_at f undefined e = cc
stops_at f (defined p (Object b)) e = cc
stops_at parenthesis (defined p (Function ps v b)) e = cc
stops_at otherwise (defined p (Function ps v b)) e = cc
stops_at directive (defined p (Function ps v b)) e = refl

marked : (x : Mark) → next_mark x ≢ directive
marked opening e = cc
marked closing e = cc
marked comma e = cc
marked none e = cc

no_directive : (ahead : List Token) (fs : List Frame) → next Line ahead fs ≢ directive
no_directive [] fs e = cc
no_directive (t ∷ ahead) fs e = marked (mark t.text) e

open_stop : (b : Bool) (f : Next) (m : Macro)
    → elim b [ true ↦ deed f m | false ↦ give ] ≡ stop → f ≡ directive
open_stop true f m e = stops_at f m e
open_stop false f m e = cc

never_stops : (t : Token) (ahead : List Token) (fs : List Frame) (m : Macro)
    → deed_at Line t ahead fs m ≢ stop
never_stops t ahead fs m e = no_directive ahead fs (open_stop (is_open t) (next Line ahead fs) m e)

pub never_stops_in : (ends : RunEnd) (state : State) (m : List ℕ → Macro) → ends ≡ Line
    → IsAt state → does ends state m ≢ stop
never_stops_in ends state m line n e =
    never_stops n.token n.scan.ahead n.frames (m n.token.text)
    (ap (λ (x : RunEnd). deed_at x n.token n.scan.ahead n.frames (m n.token.text)) (sym line)
    ∙ ap (λ (s : State). does ends s m) (sym n.is) ∙ e)

------ events

told_events : (t : Token) (kind : PpKind) (text : List ℕ) (d : Deed) → t.kind ≡ kind
    → t.text ≡ text → events t d ≡ told kind text d
told_events t kind text give k e =
    ap (λ x. gives x t.text ∷ []) k ∙ ap (λ x. gives kind x ∷ []) e
told_events t kind text (use_macro p b) k e = refl
told_events t kind text stop k e = refl

-- what is told shows what is seen
told_shown : (kind : PpKind) (text : List ℕ) (d a : Deed) → told kind text d ≡ told kind text a
    → shown d ≡ shown a
told_shown kind text give give e = refl
told_shown kind text give (use_macro r c) e = cc
told_shown kind text give stop e = cc
told_shown kind text (use_macro p b) give e = cc
told_shown kind text (use_macro p b) (use_macro r c) e = let x : p ≡ r = cc in ap used x
told_shown kind text (use_macro p b) stop e = cc
told_shown kind text stop give e = cc
told_shown kind text stop (use_macro r c) e = cc
told_shown kind text stop stop e = refl

-- tokens of two spellings show different events, where a place has one name
other_event : (t : Token) (kind : PpKind) (text : List ℕ) (d a : Deed) → t.text ≢ text
    → a ≢ stop
    → ((place : Place) (body other : Body) → d ≡ use_macro place body → a ≡ use_macro place other
    → t.text ≡ text)
    → events t d ≡ told kind text a → ⊥
other_event t kind text give give differs some one e = let x : t.text ≡ text = cc in differs x
other_event t kind text give (use_macro r c) differs some one e = cc
other_event t kind text give stop differs some one e = some refl
other_event t kind text (use_macro p b) give differs some one e = cc
other_event t kind text (use_macro p b) (use_macro r c) differs some one e =
    let x : p ≡ r = cc in
    differs (one p b c refl (ap (λ (y : Place). use_macro y c) (sym x)))
other_event t kind text (use_macro p b) stop differs some one e = some refl
other_event t kind text stop give differs some one e = cc
other_event t kind text stop (use_macro r c) differs some one e = cc
other_event t kind text stop stop differs some one e = some refl

------ a token whose spelling is settled

token_at : {ends : RunEnd} {kind : PpKind} {text : List ℕ} {opens : Bool} {f : Next}
    {state : State} → IsToken ends kind text opens f state → IsAt state
token_at n = record { token = n.token; scan = n.scan; frames = n.frames; is = n.is }

spelled_at : {ends : RunEnd} {kind : PpKind} {text : List ℕ} {opens : Bool} {f : Next}
    {state : State} → IsToken ends kind text opens f state → text_in state ≡ text
spelled_at n = ap text_in n.is ∙ n.texts

shows_at : {ends : RunEnd} {kind : PpKind} {text : List ℕ} {opens : Bool} {f : Next}
    {state : State} → IsToken ends kind text opens f state → (d : Deed)
    → events_in state d ≡ told kind text d
shows_at {kind = kind} {text = text} n d =
    ap (λ (s : State). events_in s d) n.is ∙ told_events n.token kind text d n.kinds n.texts

-- what is done with it
does_at : {ends : RunEnd} {kind : PpKind} {text : List ℕ} {opens : Bool} {f : Next}
    {state : State} → IsToken ends kind text opens f state → (m : List ℕ → Macro)
    → does ends state m ≡ elim opens [ true ↦ deed f (m text) | false ↦ give ]
does_at {ends = ends} {text = text} {opens = opens} {f = f} n m =
    ap (λ (s : State). does ends s m) n.is
    ∙ ap (λ (b : Bool). elim b [
      | true ↦ deed (next ends n.scan.ahead n.frames) (m n.token.text)
      | false ↦ give
    ]) n.opening
    ∙ ap (λ (x : Next). elim opens [ true ↦ deed x (m n.token.text) | false ↦ give ]) n.following
    ∙ ap (λ (x : List ℕ). elim opens [ true ↦ deed f (m x) | false ↦ give ]) n.texts

-- a name is asked for
pub asked_open : (variables : ℕ) (ends : RunEnd) (kind : PpKind) (text : List ℕ) (f : Following)
    (m : List Bool → List ℕ → Macro) (before after : Test) (state : List Bool → State)
    (macro : Macro) → ((v : List Bool) → IsToken ends kind text true (next_of f) (state v))
    → ((v w : List Bool) → AreConsistent (m v) (m w))
    → IsAnswered variables before after (λ v. m v text) (question.Deed f) macro
    → IsAsked ends m before after state (deed (next_of f) macro)
asked_open variables ends kind text f m before after state macro n one a =
    record {
      kind = kind;
      text = text;
      pends = λ v h. token_at (n v);
      spelled = λ v h. spelled_at (n v);
      shows = λ v h. shows_at (n v);
      within = λ v h. (and_true (before v) _ (sym (a.stay v) ∙ h)).0;
      right = λ v h. does_at (n v) (m v) ∙ seen_decides (next_of f) (m v text) macro
          (λ place body other e g. (one v a.one text text place body other e (a.its ∙ g)).1)
          ((same_seen-Decides _ _).0 (and_true (before v) _ (sym (a.stay v) ∙ h)).1);
      others = λ v b h e. false≢true (sym h ∙ a.stay v
          ∙ ap (λ (x : Bool). x && same_seen (shown (deed (next_of f) (m v text)))
          (shown (deed (next_of f) macro))) b
          ∙ (same_seen-Decides _ _).1 (ap shown (sym (does_at (n v) (m v))) ∙ e));
      one = a.one;
      stays = one_stays a;
    }

-- a token that may be no macro's name is given
pub asked_closed : (ends : RunEnd) (kind : PpKind) (text : List ℕ) (f : Next)
    (m : List Bool → List ℕ → Macro) (before : Test) (state : List Bool → State)
    (one : List Bool) → before one ≡ true
    → ((v : List Bool) → IsToken ends kind text false f (state v))
    → IsAsked ends m before before state give
asked_closed ends kind text f m before state one h n =
    record {
      kind = kind;
      text = text;
      pends = λ v b. token_at (n v);
      spelled = λ v b. spelled_at (n v);
      shows = λ v b. shows_at (n v);
      within = λ v b. b;
      right = λ v b. does_at (n v) (m v);
      others = λ v b g e. true≢false (sym b ∙ g);
      one = one;
      stays = h;
    }

------ a turn

-- the digits of the token that is next are settled, and then its name is asked for
pub combined : (ends : RunEnd) (m : List Bool → List ℕ → Macro) (before mid after : Test)
    (state settled : List Bool → State) (d : Deed)
    → ((v w : List Bool) → AreConsistent (m v) (m w))
    → IsSettled ends before mid state settled
    → (a : IsAsked ends m mid after settled d)
    → IsTurn ends m before after state a.kind a.text d
combined ends m before mid after state settled d one s a =
    record {
      within = λ v h. s.within v (a.within v h);
      pends = pends;
      right = λ v h. ap (λ (x : State). does ends x (m v)) (sym (s.same v (a.within v h)))
          ∙ a.right v h;
      shows = λ v h. ap (λ (x : State). events_in x d) (sym (s.same v (a.within v h)))
          ∙ a.shows v (a.within v h) d;
      others = λ v b f some e.
          either (mid v)
          (λ k. a.others v k f (told_shown a.kind a.text _ d (sym (a.shows v k _)
          ∙ ap (λ (x : State). events_in x (does ends x (m v))) (s.same v k) ∙ e)))
          (λ k. elsewhere v (s.others v a.one b k (a.within a.one a.stays)) some e);
      go_on = λ v b f h e.
          either (mid v)
          (λ k. a.others v k f (ap shown (ap (λ (x : State). does ends x (m v)) (s.same v k) ∙ e
          ∙ sym h)))
          (λ k. never_stops_in ends (settled a.one) (m a.one)
          (s.others v a.one b k (a.within a.one a.stays)).on_line
          (a.pends a.one (a.within a.one a.stays)) (a.right a.one a.stays ∙ h));
    }
  where
    pends : (v : List Bool) → before v ≡ true → IsAt (state v)
    pends v b =
        either (mid v)
        (λ k. subst IsAt (s.same v k) (a.pends v k))
        (λ k. (s.others v a.one b k (a.within a.one a.stays)).pends)

    -- the macro that is used has the name that was asked for
    its_name : (place : Place) (body : Body) → d ≡ use_macro place body
        → m a.one a.text ≡ defined place body
    its_name place body e =
        let n = a.pends a.one (a.within a.one a.stays) in
        let spelled : n.token.text ≡ a.text =
        sym (ap text_in n.is) ∙ a.spelled a.one (a.within a.one a.stays) in
        ap (m a.one) (sym spelled)
        ∙ used_at ends n.token n.scan.ahead n.frames (m a.one n.token.text) place body
        (ap (λ (x : State). does ends x (m a.one)) (sym n.is) ∙ a.right a.one a.stays ∙ e)

    elsewhere : (v : List Bool) → Differs ends (state v) (state a.one) → d ≢ stop
        → events_in (state v) (does ends (state v) (m v)) ≡ told a.kind a.text d → ⊥
    elsewhere v differs some e =
        let n = differs.pends in
        let mine : text_in (state v) ≡ n.token.text = ap text_in n.is in
        let its : text_in (state a.one) ≡ a.text =
        ap text_in (sym (s.same a.one (a.within a.one a.stays)))
        ∙ a.spelled a.one (a.within a.one a.stays) in
        other_event n.token a.kind a.text
        (deed_at ends n.token n.scan.ahead n.frames (m v n.token.text)) d
        (λ same. differs.differs (mine ∙ same ∙ sym its)) some
        (λ place body other mine_is its_is.
        (one v a.one n.token.text a.text place body other
        (used_at ends n.token n.scan.ahead n.frames (m v n.token.text) place body mine_is)
        (its_name place other its_is)).0)
        (sym (ap (λ (x : State). events_in x (does ends x (m v))) n.is) ∙ e)
