-- What preprocessing tokens become, with more after them; and what a stream is, with more at its end
-- or over a store that has grown.
use Rattle.std.proofs.Common.{◌≡◌, ◌++◌, Bool, true, false, cond, List, [], ◌∷◌, refl, sym, ◌∙◌, ap}
use Rattle.std.specs.Prelude.{Result, Ok, Err, map, filter, if◌then◌else◌}
use Rattle.std.specs.List.{All}
use Rattle.std.proofs.lemmas.List.Elements.{All-head, All-tail}
use Rattle.hv_base.specs.declared.place.Place.{Place}
use Rattle.hv_base.specs.declared.place.Start.{Start}
use Rattle.hv_base.specs.declared.token.CTok.{CTok}
use Rattle.hv_base.specs.declared.why.Why.{Why}
use Rattle.hv_cond.specs.Diagram.{Diagram, IsNode, Keeps, holds}
use Rattle.hv_cstream.specs.Streams.{stream_in}
use Rattle.hv_ctoks.specs.Conversion.{converted}
use Rattle.hv_ctoks.specs.declared.reserved.ReservedNames.{ReservedNames}
use Rattle.hv_plainpp.specs.CTokens.{c_tokens, with_token}
use Rattle.hv_plainpp.specs.Reading.{Ending, reaches, refused}
use Rattle.hv_toks.specs.Spelled.{Spelled}
use Rattle.hv_toks.specs.declared.stream.StreamTok.{StreamTok}

------ tokens of C

module _ {I : Type 0} (place : I → Place) (reserved : ReservedNames) where
  -- tokens before what others become
  abbrev pub onto : List (CTok × I) → Ending (List (CTok × I)) → Ending (List (CTok × I))
  onto before (reaches tokens) = reaches (before ++ tokens)
  onto before (refused why at) = refused why at

  stays_step : (i : I) (why : Why) (at : Place) (r : Result CTok Why)
      (x y : Ending (List (CTok × I)))
      → with_token place r i x ≡ refused why at → (x ≡ refused why at → y ≡ refused why at)
      → with_token place r i y ≡ refused why at
  stays_step i why at (Err w) x y e h = e
  stays_step i why at (Ok tok) (refused w q) y e h = ap (with_token place (Ok tok) i) (h e)
  stays_step i why at (Ok tok) (reaches xs) y e h = absurd (let no : ⊥ = (cc) in no)

  -- a refusal among the first tokens decides
  pub refused_stays : (ts us : List (Spelled × I)) (why : Why) (at : Place)
      → c_tokens place reserved ts ≡ refused why at
      → c_tokens place reserved (ts ++ us) ≡ refused why at
  refused_stays [] us why at e = absurd (let no : ⊥ = (cc) in no)
  refused_stays (t ∷ ts) us why at e =
      stays_step t.1 why at (converted reserved t.0.kind t.0.text) (c_tokens place reserved ts)
      (c_tokens place reserved (ts ++ us)) e (refused_stays ts us why at)

  onto_nothing : (z : Ending (List (CTok × I))) → onto [] z ≡ z
  onto_nothing (reaches tokens) = refl
  onto_nothing (refused why at) = refl

  onto_one : (i : I) (tok : CTok) (ys : List (CTok × I)) (z : Ending (List (CTok × I)))
      → with_token place (Ok tok) i (onto ys z) ≡ onto ((tok, i) ∷ ys) z
  onto_one i tok ys (reaches tokens) = refl
  onto_one i tok ys (refused why at) = refl

  more_step : (i : I) (xs : List (CTok × I)) (r : Result CTok Why)
      (x rest z : Ending (List (CTok × I)))
      → with_token place r i x ≡ reaches xs
      → ((ys : List (CTok × I)) → x ≡ reaches ys → rest ≡ onto ys z)
      → with_token place r i rest ≡ onto xs z
  more_step i xs (Err w) x rest z e h = absurd (let no : ⊥ = (cc) in no)
  more_step i xs (Ok tok) (refused w q) rest z e h = absurd (let no : ⊥ = (cc) in no)
  more_step i xs (Ok tok) (reaches ys) rest z e h =
      let same : (tok, i) ∷ ys ≡ xs = (cc) in
      ap (with_token place (Ok tok) i) (h ys refl)
      ∙ (onto_one i tok ys z ∙ ap (λ (l : List (CTok × I)). onto l z) same)

  -- after tokens that all become some, the next ones decide
  pub reached_more : (ts us : List (Spelled × I)) (xs : List (CTok × I))
      → c_tokens place reserved ts ≡ reaches xs
      → c_tokens place reserved (ts ++ us) ≡ onto xs (c_tokens place reserved us)
  reached_more [] us xs e =
      let same : [] ≡ xs = (cc) in
      sym (onto_nothing (c_tokens place reserved us))
      ∙ ap (λ (l : List (CTok × I)). onto l (c_tokens place reserved us)) same
  reached_more (t ∷ ts) us xs e =
      more_step t.1 xs (converted reserved t.0.kind t.0.text) (c_tokens place reserved ts)
      (c_tokens place reserved (ts ++ us)) (c_tokens place reserved us) e
      (λ ys h. reached_more ts us ys h)

------ streams

-- a token of a stream without its condition
abbrev pub shown : StreamTok → CTok × Start
shown t = (t.tok, t.start)

module _ (d : Diagram) where
  pub stream_push : (stream : List StreamTok) (t : StreamTok) (values : List Bool)
      → stream_in d (stream ++ t ∷ []) values
      ≡ stream_in d stream values
      ++ (if holds d t.cond values then (t.tok, t.start) ∷ [] else [])
  stream_push [] t values = one (holds d t.cond values)
    where
      one : (b : Bool) → map shown (cond b (t ∷ []) [])
          ≡ cond b ((t.tok, t.start) ∷ []) []
      one true = refl
      one false = refl
  stream_push (s ∷ stream) t values =
      step (holds d s.cond values) (stream_push stream t values)
    where
      step : (b : Bool) → stream_in d (stream ++ t ∷ []) values
          ≡ stream_in d stream values
          ++ (if holds d t.cond values then (t.tok, t.start) ∷ [] else [])
          → map shown (cond b
          (s ∷ filter (λ (t : StreamTok). holds d t.cond values) (stream ++ t ∷ []))
          (filter (λ (t : StreamTok). holds d t.cond values) (stream ++ t ∷ [])))
          ≡ map shown (cond b
          (s ∷ filter (λ (t : StreamTok). holds d t.cond values) stream)
          (filter (λ (t : StreamTok). holds d t.cond values) stream))
          ++ (if holds d t.cond values then (t.tok, t.start) ∷ [] else [])
      step true rest = ap (λ (l : List (CTok × Start)). (s.tok, s.start) ∷ l) rest
      step false rest = rest

pub stream_kept : {old new : Diagram} → Keeps old new → (stream : List StreamTok)
    → All (λ (t : StreamTok). IsNode old t.cond) stream → (values : List Bool)
    → stream_in new stream values ≡ stream_in old stream values
stream_kept keeps [] nodes values = refl
stream_kept {old} {new} keeps (s ∷ stream) nodes values =
    step (holds new s.cond values) (holds old s.cond values)
    (keeps.meaning s.cond (All-head (λ (t : StreamTok). IsNode old t.cond) s stream nodes) values)
    (stream_kept keeps stream (All-tail (λ (t : StreamTok). IsNode old t.cond) s stream nodes) values)
  where
    step : (a b : Bool) → a ≡ b → stream_in new stream values ≡ stream_in old stream values
        → map shown (cond a
        (s ∷ filter (λ (t : StreamTok). holds new t.cond values) stream)
        (filter (λ (t : StreamTok). holds new t.cond values) stream))
        ≡ map shown (cond b
        (s ∷ filter (λ (t : StreamTok). holds old t.cond values) stream)
        (filter (λ (t : StreamTok). holds old t.cond values) stream))
    step true true e rest = ap (λ (l : List (CTok × Start)). (s.tok, s.start) ∷ l) rest
    step true false e rest = absurd (let no : ⊥ = (cc) in no)
    step false true e rest = absurd (let no : ⊥ = (cc) in no)
    step false false e rest = rest
