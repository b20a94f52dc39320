-- A file without directives and without names of macros gives its own tokens.
use Rattle.std.proofs.lemmas.List.{append-nil, length-map}
use Rattle.std.proofs.Common.{◌≡◌, ℕ, suc, ◌-◌, Bool, true, false, List, [], ◌∷◌, ◌++◌, map, length, nat_le, refl, subst, sym, ap, ◌∙◌, Option, arith}
use Rattle.std.proofs.lemmas.Bool.Decides.{nat_tests}
use Rattle.hv_toks.specs.Macro.{Macro, undefined}
use Rattle.hv_toks.specs.MacroState.{Entry, meaning_of}
use Rattle.hv_toks.specs.declared.token.PpTok.{PpTok}
use Rattle.hv_base.specs.Bundles.{NamedFiles}
use Rattle.hv_plain.specs.declared.episode.RunEnd.{RunEnd}
use Rattle.hv_plain.specs.declared.episode.RunEnd.TheVariants.{FileEnd}
use Rattle.hv_plain.specs.episode.Episode.{episode}
use Rattle.hv_plain.specs.episode.Expansion.{Deed, give, deed, deed_at, is_open, next, events, after, adding, run, at as at_token, done, Episode, expands, gives}
use Rattle.hv_plain.specs.episode.Substitution.{Scan, Frame}
use Rattle.hv_plain.specs.episode.Tokens.{Token, source_token, given_token}
use Rattle.hv_plainpp.specs.Files.{Entered, place_of}
use Rattle.hv_plainpp.specs.Laws.{own_episode, AreOrdinary, OrdinaryText}
use Rattle.hv_plainpp.specs.Lines.{Piece, text, directive, with_token, lines_of, with_line, pieces_of}
use Rattle.hv_plainpp.specs.Preprocessing.{Reader, rest_of_file, cut_file}
use Rattle.hv_plainpp.specs.Reading.{Met, Reading, reading, reaches, continued, and_then}
use Rattle.hv_plainpp.specs.Text.{episodes, with_episode}

------ lines

abbrev pub all_of : List (List PpTok) → List PpTok
all_of [] = []
all_of (line ∷ lines) = line ++ all_of lines

with_one : (t next : PpTok) (line : List PpTok) (lines : List (List PpTok)) (b : Bool)
    → all_of (elim b [
      | true ↦ (t ∷ []) ∷ (next ∷ line) ∷ lines
      | false ↦ (t ∷ next ∷ line) ∷ lines
    ]) ≡ t ∷ (next ∷ line ++ all_of lines)
with_one t next line lines true = refl
with_one t next line lines false = refl

with_token_all : (t : PpTok) (lines : List (List PpTok))
    → all_of (with_token t lines) ≡ t ∷ all_of lines
with_token_all t [] = refl
with_token_all t ([] ∷ lines) = refl
with_token_all t ((next ∷ line) ∷ lines) = with_one t next line lines next.first

pub lines_all : (toks : List PpTok) → all_of (lines_of toks) ≡ toks
lines_all [] = refl
lines_all (t ∷ toks) =
    with_token_all t (lines_of toks) ∙ ap (λ (r : List PpTok). t ∷ r) (lines_all toks)

-- the pieces of a file that has no directive
abbrev whole : List PpTok → List Piece
whole [] = []
whole (t ∷ toks) = text (t ∷ toks) FileEnd ∷ []

with_line_whole : (t : PpTok) (line toks : List PpTok)
    → with_line (t ∷ line) (whole toks) ≡ whole (t ∷ (line ++ toks))
with_line_whole t line [] =
    ap (λ (r : List PpTok). text (t ∷ r) FileEnd ∷ []) (sym (append-nil line))
with_line_whole t line (u ∷ toks) = refl

ordinary_right : (macros : List Entry) (xs ys : List PpTok) → AreOrdinary macros (xs ++ ys)
    → AreOrdinary macros ys
ordinary_right macros [] ys h = h
ordinary_right macros (x ∷ xs) ys h = ordinary_right macros xs ys h.1

pieces_whole : (macros : List Entry) (lines : List (List PpTok))
    → AreOrdinary macros (all_of lines) → pieces_of lines ≡ whole (all_of lines)
pieces_whole macros [] h = refl
pieces_whole macros ([] ∷ lines) h = pieces_whole macros lines h
pieces_whole macros ((t ∷ line) ∷ lines) h =
    ap (λ (b : Bool). elim b [
      | true ↦ directive t line ∷ pieces_of lines
      | false ↦ with_line (t ∷ line) (pieces_of lines)
    ]) h.0.0
    ∙ (ap (with_line (t ∷ line))
    (pieces_whole macros lines (ordinary_right macros line (all_of lines) h.1))
    ∙ with_line_whole t line (all_of lines))

------ episodes

undefined_case : (b : Bool) (d : Deed) → d ≡ give → elim b [ true ↦ d | false ↦ give ] ≡ give
undefined_case true d e = e
undefined_case false d e = refl

deed_undefined : (ends : RunEnd) (t : Token) (ahead : List Token) (frames : List Frame)
    → deed_at ends t ahead frames undefined ≡ give
deed_undefined ends t ahead frames =
    undefined_case (is_open t) (deed (next ends ahead frames) undefined) refl

-- the rest of an expansion behind a deed
abbrev behind : RunEnd → (List ℕ → Macro) → ℕ → Token → Scan → Deed → Episode
behind ends macros left t s d = adding (events t d) (run ends macros left (after ends t s [] d))

gives_itself : (ends : RunEnd) (macros : List ℕ → Macro) (left : ℕ) (t : Token) (s : Scan)
    → macros t.text ≡ undefined → nat_le (length s.ahead) s.unread ≡ true
    → run ends macros (suc left) (at_token t s [])
    ≡ record {
      face = gives t.kind t.text ∷ [];
      result = expands (map given_token (s.given ++ t ∷ [])) s.unread;
    }
unfolding run
gives_itself ends macros left t s e h =
    let now : Scan = record s { given = s.given ++ t ∷ [] } in
    ap (λ (m : Macro). behind ends macros left t s (deed_at ends t s.ahead [] m)) e
    ∙ (ap (behind ends macros left t s) (deed_undefined ends t s.ahead [])
    ∙ ap (λ (b : Bool). adding (gives t.kind t.text ∷ []) (run ends macros left (elim b [
      | true ↦ done now
      | false ↦ elim now.ahead [
        | [] ↦ done now
        | u ∷ rest ↦ at_token u (record now { ahead = rest }) []
      ]
    ]))) h)

le_refl : (n : ℕ) → nat_le n n ≡ true
le_refl n = grind (arith, nat_tests)

-- one token less
less_one : (t : PpTok) (toks : List PpTok) → length (t ∷ toks) - 1 ≡ length toks
less_one t toks = omega arith

one_episode : (macros : List ℕ → Macro) (t : PpTok) (toks : List PpTok)
    → macros t.text ≡ undefined
    → episode FileEnd (t ∷ toks) 0 macros
    ≡ record {
      face = gives t.kind t.text ∷ [];
      result = expands (given_token (source_token t) ∷ []) (length (t ∷ toks) - 1);
    }
unfolding episode
one_episode macros t toks e =
    gives_itself FileEnd macros 65535 (source_token t) (record {
      ahead = map source_token toks;
      unread = length (t ∷ toks) - 1;
      given = [];
    }) e
    (ap (λ (n : ℕ). nat_le n (length (t ∷ toks) - 1)) (length-map toks source_token)
    ∙ (ap (nat_le (length toks)) (less_one t toks) ∙ le_refl (length toks)))

-- none of the tokens behind are the episode's own
none_own : (t : PpTok) (toks : List PpTok) → length toks - (length (t ∷ toks) - 1) ≡ 0
none_own t toks = omega arith

episodes_own : (at : Entered) (macros : List Entry) (toks : List PpTok) → AreOrdinary macros toks
    → episodes at FileEnd (meaning_of macros) 0 toks
    ≡ record { met = map (own_episode at) toks; ending = reaches tt }
episodes_own at macros [] h = refl
episodes_own at macros (t ∷ toks) h =
    let rest : ℕ → Reading (Unit {0}) = λ own. episodes at FileEnd (meaning_of macros) own toks in
    let first : List Met = own_episode at t ∷ [] in
    ap (λ (e : Episode). with_episode (place_of at t) (length toks) e.face e.result rest)
    (one_episode (meaning_of macros) t toks h.0.1)
    ∙ (ap (λ (own : ℕ). continued first (rest own)) (none_own t toks)
    ∙ ap (continued first) (episodes_own at macros toks h.1))

------ files

rest_own : (bundle : NamedFiles) (reader : Option Reader) (at : Entered) (macros : List Entry)
    (toks : List PpTok) → AreOrdinary macros toks
    → rest_of_file bundle reader at [] (whole toks) macros
    ≡ record { met = map (own_episode at) toks; ending = reaches macros }
rest_own bundle reader at macros [] h = refl
rest_own bundle reader at macros (t ∷ toks) h =
    ap (λ (r : Reading (Unit {0})). and_then r (λ done. reading macros))
    (episodes_own at macros (t ∷ toks) h)
    ∙ ap (λ (met : List Met). record { met = met; ending = reaches macros })
    (append-nil (map (own_episode at) (t ∷ toks)))

pub ordinary_text : OrdinaryText
ordinary_text bundle reader at toks macros cuts h =
    ap (λ c. cut_file bundle reader at c macros) cuts
    ∙ (ap (λ (ps : List Piece). rest_of_file bundle reader at [] ps macros)
    (pieces_whole macros (lines_of toks) (subst (AreOrdinary macros) (sym (lines_all toks)) h)
    ∙ ap whole (lines_all toks))
    ∙ rest_own bundle reader at macros toks h)
