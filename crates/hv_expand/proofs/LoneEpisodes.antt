-- Episodes that give their first token and nothing else, in each configuration.
use Rattle.std.proofs.Common.{ℕ, zero, suc, ◌≡◌, ◌≢◌, ◌<◌, ◌≤◌, ◌+◌, ◌-◌, refl, sym, ap, ◌∙◌, subst, Bool, true, false, List, [], ◌∷◌, ◌++◌, map, drop, length, length-drop, arith}
use Rattle.std.specs.Prelude.{nat_le}
use Rattle.std.specs.List.{All}
use Rattle.std.proofs.lemmas.Bool.{false≢true, le-leb}
use Rattle.std.proofs.lemmas.List.{length-map}
use Rattle.std.proofs.lemmas.List.Elements.{All-from_recursion}
use Rattle.hv_base.specs.Ascii.{is_among}
use Rattle.hv_base.specs.declared.limits.TheConstants.{MOST_EVENTS}
use Rattle.hv_cond.specs.Diagram.{Diagram, IsNode}
use Rattle.hv_cond.specs.declared.conditions.Cond.{Cond}
use Rattle.hv_macros.specs.Table.{meaning_in}
use Rattle.hv_macros.specs.declared.tables.MacroTable.{MacroTable}
use Rattle.hv_plain.specs.declared.episode.RunEnd.{RunEnd}
use Rattle.hv_plain.specs.declared.episode.RunEnd.TheVariants.{Directive, FileEnd, Line}
use Rattle.hv_plain.specs.episode.Episode.{episode, goes_on, start}
use Rattle.hv_plain.specs.episode.Expansion.{State, at, done, Deed, give, deed, deed_at, is_open, Next, next, after, settle, alone, gives, events, Episode, expands, adding, run}
use Rattle.hv_plain.specs.episode.Substitution.{Scan}
use Rattle.hv_plain.specs.episode.Tokens.{Token, given_token, is_identifier, source_token}
use Rattle.hv_toks.specs.Macro.{Macro, undefined}
use Rattle.hv_toks.specs.declared.token.PpTok.{PpTok}
use Rattle.hv_expand.specs.declared.outcome.Expanded.TheVariants.{Tokens}
use Rattle.hv_expand.specs.declared.outcome.Outcome.{Outcome}
use Rattle.hv_expand.specs.Outcomes.{ComesTo, HaveOneFace, IsOfOneFace, IsResult, IsRight}
use Rattle.hv_expand.specs.working.Lone.{IsLone, IsLoneOutcome, lone_outcome}
use Rattle.hv_expand.proofs.Turns.{is_done}

------ the first token

-- a name that is no macro is given, and so is what is no name
given_where : (b : Bool) (f : Next) (m : Macro) → (b ≡ true → m ≡ undefined)
    → elim b [ true ↦ deed f m | false ↦ give ] ≡ give
given_where true f m none = ap (deed f) (none refl)
given_where false f m none = refl

named : (b c : Bool)
    → elim b [ true ↦ elim c [ true ↦ false | false ↦ true ] | false ↦ false ] ≡ true → b ≡ true
named true c e = refl
named false c e = absurd (false≢true e)

lone_deed : (ends : RunEnd) (t : PpTok) (ahead : List Token) (m : Macro)
    → (is_identifier t.kind ≡ true → m ≡ undefined)
    → deed_at ends (source_token t) ahead [] m ≡ give
lone_deed ends t ahead m none =
    given_where (is_open (source_token t)) (next ends ahead []) m
    (λ o. none (named (is_identifier t.kind) (is_among t.text []) o))

------ the episode

-- the episode that gives this token and nothing else, and leaves so many of the run
abbrev lone : PpTok → (unread : ℕ) → Episode
lone t unread = record {
  face = gives t.kind t.text ∷ [];
  result = expands (given_token (source_token t) ∷ []) unread;
}

-- the text after a token
abbrev scan_after : PpTok → List PpTok → Scan
scan_after t rest = record (alone (map source_token rest)) { unread = length (t ∷ rest) - 1 }

start_lone : (ends : RunEnd) → ends ≢ Line → (m : List ℕ → Macro) (t : PpTok) (rest : List PpTok)
    → start ends m (t ∷ rest) ≡ at (source_token t) (scan_after t rest) []
start_lone Directive off_line m t rest = refl
start_lone FileEnd off_line m t rest = refl
start_lone Line off_line m t rest = absurd (off_line refl)

at_end : (b : Bool) (s : Scan) → b ≡ true
    → elim b [
      | true ↦ done s
      | false ↦ elim s.ahead
          [ [] ↦ done s | t ∷ tokens ↦ at t (record s { ahead = tokens }) [] ]
    ] ≡ done s
at_end true s e = refl
at_end false s e = absurd (false≢true e)

settled : (s : Scan) → length s.ahead ≤ s.unread → settle [] s ≡ done s
settled s l = at_end (nat_le (length s.ahead) s.unread) s (le-leb (length s.ahead) s.unread l)

given_alone : (ends : RunEnd) (m : List ℕ → Macro) (left : ℕ) (t : Token) (s : Scan) → 0 < left
    → deed_at ends t s.ahead [] (m t.text) ≡ give → length s.ahead ≤ s.unread
    → run ends m left (at t s []) ≡ record {
      face = gives t.kind t.text ∷ [];
      result = expands (map given_token (s.given ++ t ∷ [])) s.unread;
    }
unfolding run
given_alone ends m zero t s some d l = absurd (omega arith)
given_alone ends m (suc left) t s some d l =
    let now : Scan = record s { given = s.given ++ t ∷ [] } in
    ap (λ (x : Deed). adding (events t x) (run ends m left (after ends t s [] x))) d
    ∙ ap (λ (x : State). adding (events t give) (run ends m left x)) (settled now l)
    ∙ ap (adding (events t give)) (is_done ends m left now)

all_ahead : (t : PpTok) (rest : List PpTok)
    → length (scan_after t rest).ahead ≤ (scan_after t rest).unread
all_ahead t rest = let n = length-map rest source_token in omega (arith, n)

lone_episode : (ends : RunEnd) (text : List PpTok) (i : ℕ) (t : PpTok) (m : List ℕ → Macro)
    → ends ≢ Line → drop i text ≡ t ∷ drop (i + 1) text
    → (is_identifier t.kind ≡ true → m t.text ≡ undefined)
    → episode ends text i m ≡ lone t (length (t ∷ drop (i + 1) text) - 1)
unfolding episode
lone_episode ends text i t m off_line first none =
    let rest : List PpTok = drop (i + 1) text in
    let some : 0 < MOST_EVENTS = omega arith in
    ap (λ (ts : List PpTok). run ends m MOST_EVENTS (start ends m ts)) first
    ∙ ap (run ends m MOST_EVENTS) (start_lone ends off_line m t rest)
    ∙ given_alone ends m MOST_EVENTS (source_token t) (scan_after t rest) some
    (lone_deed ends t (map source_token rest) (m t.text) none) (all_ahead t rest)

one_less : (text : List PpTok) (i : ℕ) (t : PpTok) → drop i text ≡ t ∷ drop (i + 1) text
    → length text - (length (t ∷ drop (i + 1) text) - 1) ≡ i + 1
one_less text i t first =
    let n = ap (λ (ts : List PpTok). length ts) first in
    let all = length-drop i text in
    let rest = length-drop (i + 1) text in
    omega (arith, n, all, rest)

------ the outcome

module _ (d : Diagram) (ends : RunEnd) (text : List PpTok) (i : ℕ) (table : MacroTable) (c : Cond)
    (t : PpTok) (outcomes : List Outcome) (node : IsNode d c) (l : IsLone d ends text i table c t)
    (o : IsLoneOutcome t (i + 1) c outcomes) where
  episode_of : (v : List Bool) → episode ends text i (meaning_in d table v)
      ≡ lone t (length (t ∷ drop (i + 1) text) - 1)
  episode_of v =
      lone_episode ends text i t (meaning_in d table v) l.no_line l.first
      (λ named. l.no_name named d v)

  comes : (v : List Bool)
      → ComesTo ends text i (meaning_in d table v) (Tokens o.tokens) (i + 1)
  comes v =
      record {
        right = subst (λ (e : Episode). IsResult (Tokens o.tokens) e.result) (sym (episode_of v))
            o.spelled;
        goes = ap (λ (e : Episode). goes_on text i e.result) (episode_of v)
            ∙ one_less text i t l.first;
      }

  one_face : (v w : List Bool) → HaveOneFace ends text i d table v w
  one_face v w =
      ap (λ (e : Episode). e.face) (episode_of v) ∙ sym (ap (λ (e : Episode). e.face) (episode_of w))

  -- what is so of the only outcome is so of all
  all_of : (P : Outcome → Type 0) → P (lone_outcome o.tokens (i + 1) c) → All P outcomes
  all_of P p =
      subst (λ (os : List Outcome). All P os) (sym o.is)
      (All-from_recursion P (lone_outcome o.tokens (i + 1) c ∷ []) (p, tt))

  pub lone_right : All (IsRight ends text i d table d) outcomes
  lone_right = all_of (IsRight ends text i d table d) (λ v h. comes v)

  pub lone_by_face : All (IsOfOneFace ends text i d table d c) outcomes
  lone_by_face = all_of (IsOfOneFace ends text i d table d c) (λ v w h k. (λ p. one_face v w, λ s. k))
