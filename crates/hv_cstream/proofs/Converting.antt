-- What is converted stays right when more is converted or refused.
use Rattle.std.proofs.Common.{◌≡◌, ◌+◌, ◌++◌, ◌&&◌, ◌⊎◌, ℕ, Bool, true, false, not, cond, List, [], ◌∷◌, length, refl, sym, ◌∙◌, ap, subst, arith, inl, inr, append-nil, append_assoc}
use Rattle.std.specs.Prelude.{Result, Ok, Err}
use Rattle.std.specs.List.{All}
use Rattle.std.proofs.lemmas.Bool.{false≢true}
use Rattle.std.proofs.lemmas.List.Elements.{All-push, All-weaker}
use Rattle.std.proofs.lemmas.List.Sums.{sum_by-cons}
use Rattle.hv_base.specs.declared.place.Place.{Place}
use Rattle.hv_base.specs.declared.place.Start.{Start}
use Rattle.hv_base.specs.declared.token.CTok.{CTok}
use Rattle.hv_base.specs.declared.why.Why.{Why}
use Rattle.hv_cond.specs.Diagram.{Diagram, IsNode, Keeps, holds}
use Rattle.hv_cond.specs.Laws.{count_satisfied-kept}
use Rattle.hv_cond.specs.Parts.{count_satisfied}
use Rattle.hv_cond.specs.declared.conditions.Cond.{Cond}
use Rattle.hv_cstream.proofs.Endings.{onto, reached_more, refused_stays, stream_kept, stream_push}
use Rattle.hv_cstream.proofs.Starts.{entries_kept}
use Rattle.hv_cstream.specs.Streams.{IsConverted, IsRefused, stream_in}
use Rattle.hv_cstream.specs.declared.conversion.Conversion.{Conversion}
use Rattle.hv_cstream.specs.working.Converting.{IsConverting, TakesOut, Tokens, place_of, with_more}
use Rattle.hv_ctoks.specs.Conversion.{converted}
use Rattle.hv_ctoks.specs.declared.reserved.ReservedNames.{ReservedNames}
use Rattle.hv_given.specs.Given.{given_in, tokens_of}
use Rattle.hv_given.specs.Laws.{AreRefusals-kept, IsRefusedAt-before, IsRefusedAt-each, IsRefusedAt-kept}
use Rattle.hv_given.specs.Refusals.{AreRefusals, CountsMore, IsRefusedAt, RefusesMore}
use Rattle.hv_given.specs.declared.given.Given.{Given}
use Rattle.hv_plainpp.specs.CTokens.{c_tokens, with_token}
use Rattle.hv_plainpp.specs.Reading.{reaches, refused}
use Rattle.hv_toks.specs.Division.{Sorts, conditions}
use Rattle.hv_toks.specs.Spelled.{Spelled}
use Rattle.hv_toks.specs.declared.parted.Failing.{Failing}
use Rattle.hv_toks.specs.declared.parted.Parted.{Parted}
use Rattle.hv_toks.specs.declared.stream.StreamTok.{StreamTok}

------ tests

and_left : (x y : Bool) → (x && y) ≡ true → x ≡ true
and_left true y e = refl
and_left false y e = e

and_right : (x y : Bool) → (x && y) ≡ true → y ≡ true
and_right true y e = e
and_right false y e = absurd (false≢true e)

not_false : (y : Bool) → not y ≡ true → y ≡ false
not_false true e = absurd (false≢true e)
not_false false e = refl

left_false : (x y : Bool) → (x && y) ≡ false → y ≡ true → x ≡ false
left_false true y e h = sym (sym e ∙ h)
left_false false y e h = refl

pub outside : (x y : Bool) → (x && y) ≡ false → y ≡ true → x ≡ false
outside x y e h = left_false x y e h

count_cons : (d : Diagram) (c : Cond) (conds : List Cond) (values : List Bool)
    → count_satisfied d (c ∷ conds) values
    ≡ cond (holds d c values) 1 0 + count_satisfied d conds values
count_cons d c conds values = sum_by-cons (λ (x : Cond). cond (holds d x values) 1 0) c conds

------ other words for one state

pub converting_kept : {old new : Diagram} → Keeps old new → (valid : Cond) (tokens : Tokens)
    (c : Conversion) → IsConverting old valid tokens c → IsConverting new valid tokens c
converting_kept {old} {new} keeps valid tokens c i =
    record {
      valid_node = keeps.stays valid i.valid_node;
      live_node = keeps.stays c.live i.live_node;
      stream_nodes = All-weaker (λ (t : StreamTok). IsNode old t.cond)
          (λ (t : StreamTok). IsNode new t.cond) (λ t n. keeps.stays t.cond n) c.stream
          i.stream_nodes;
      refusals = AreRefusals-kept keeps c.refusals i.refusals;
      reached = λ v h.
          i.reached v (sym (keeps.meaning c.live i.live_node v) ∙ h)
          ∙ ap reaches (sym (stream_kept keeps c.stream i.stream_nodes v));
      refuses = λ v place why r. i.refuses v place why
          (IsRefusedAt-before keeps c.refusals i.refusals.nodes v place why r);
      once = λ v.
          count_satisfied-kept keeps (c.live ∷ conditions c.refusals) (i.live_node, i.refusals.nodes) v
          ∙ (i.once v
          ∙ ap {B = ℕ} (λ (b : Bool). cond b 1 0) (sym (keeps.meaning valid i.valid_node v)));
    }

pub converting_same : (d : Diagram) (valid : Cond) (tokens others : Tokens) (c : Conversion)
    → ((values : List Bool) → others values ≡ tokens values)
    → IsConverting d valid tokens c → IsConverting d valid others c
converting_same d valid tokens others c same i =
    record {
      valid_node = i.valid_node;
      live_node = i.live_node;
      stream_nodes = i.stream_nodes;
      refusals = i.refusals;
      reached = λ v h. ap (c_tokens place_of c.reserved) (same v) ∙ i.reached v h;
      refuses = λ v place why r. ap (c_tokens place_of c.reserved) (same v) ∙ i.refuses v place why r;
      once = i.once;
    }

-- what is given in two parts
pub in_parts : (ts done more : List (Spelled × Start)) (b : Bool)
    → ts ++ cond b (done ++ more) [] ≡ (ts ++ cond b done []) ++ cond b more []
in_parts ts done more true = sym (append_assoc ts done more)
in_parts ts done more false = sym (append-nil (ts ++ []))

-- nothing is given yet
pub converting_none : (d old : Diagram) (valid given : Cond) (tokens : Tokens) (c : Conversion)
    → IsConverting d valid tokens c → IsConverting d valid (with_more old tokens given []) c
converting_none d old valid given tokens c i =
    converting_same d valid tokens (with_more old tokens given []) c
    (λ v. nothing (tokens v) (holds old given v)) i
  where
    nothing : (ts : List (Spelled × Start)) (b : Bool) → ts ++ cond b [] [] ≡ ts
    nothing ts true = append-nil ts
    nothing ts false = append-nil ts

------ one step

-- what is given outside the live configurations changes nothing
pub converting_skipped : (d old : Diagram) (valid given : Cond) (tokens : Tokens)
    (more : List (Spelled × Start)) (c : Conversion) → IsConverting d valid tokens c
    → ((values : List Bool) → holds d c.live values ≡ true → holds old given values ≡ false)
    → IsConverting d valid (with_more old tokens given more) c
converting_skipped d old valid given tokens more c i apart =
    record {
      valid_node = i.valid_node;
      live_node = i.live_node;
      stream_nodes = i.stream_nodes;
      refusals = i.refusals;
      reached = λ v h.
          ap (λ (b : Bool). c_tokens place_of c.reserved (tokens v ++ cond b more [])) (apart v h)
          ∙ (ap (c_tokens place_of c.reserved) (append-nil (tokens v)) ∙ i.reached v h);
      refuses = λ v place why r. refused_stays place_of c.reserved (tokens v)
          (cond (holds old given v) more []) why place (i.refuses v place why r);
      once = i.once;
    }

-- a token that is converted
module _ (d old : Diagram) (valid given : Cond) (tokens : Tokens) (c after : Conversion)
    (s : Spelled) (t : StreamTok) (i : IsConverting d valid tokens c)
    (is_after : after ≡ record c { stream = c.stream ++ t ∷ [] })
    (node : IsNode d t.cond)
    (meaning : (values : List Bool)
    → holds d t.cond values ≡ (holds old given values && holds d c.live values))
    (becomes : converted c.reserved s.kind s.text ≡ Ok t.tok) where
  one : c_tokens place_of c.reserved ((s, t.start) ∷ []) ≡ reaches ((t.tok, t.start) ∷ [])
  one = from (converted c.reserved s.kind s.text) becomes
    where
      from : (r : Result CTok Why) → r ≡ Ok t.tok
          → with_token place_of r t.start (reaches [])
          ≡ reaches ((t.tok, t.start) ∷ [])
      from r e = ap (λ (x : Result CTok Why).
          with_token place_of x t.start (reaches [])) e

  reached_step : (values : List Bool) → holds d c.live values ≡ true
      → (b : Bool) → holds old given values ≡ b
      → c_tokens place_of c.reserved (tokens values ++ cond b ((s, t.start) ∷ []) [])
      ≡ reaches (stream_in d c.stream values ++ cond b ((t.tok, t.start) ∷ []) [])
  reached_step v h true e =
      reached_more place_of c.reserved (tokens v) ((s, t.start) ∷ []) (stream_in d c.stream v)
      (i.reached v h)
      ∙ ap (onto place_of c.reserved (stream_in d c.stream v)) one
  reached_step v h false e =
      ap (c_tokens place_of c.reserved) (append-nil (tokens v))
      ∙ (i.reached v h ∙ ap reaches (sym (append-nil (stream_in d c.stream v))))

  here : (values : List Bool) → holds d c.live values ≡ true
      → holds d t.cond values ≡ holds old given values
  here v h = meaning v ∙ (ap (λ (b : Bool). holds old given v && b) h ∙ and_true (holds old given v))
    where
      and_true : (x : Bool) → (x && true) ≡ x
      and_true true = refl
      and_true false = refl

  grown : IsConverting d valid (with_more old tokens given ((s, t.start) ∷ []))
      (record c { stream = c.stream ++ t ∷ [] })
  grown =
      record {
        valid_node = i.valid_node;
        live_node = i.live_node;
        stream_nodes = All-push (λ (x : StreamTok). IsNode d x.cond) c.stream t i.stream_nodes node;
        refusals = i.refusals;
        reached = λ v h.
            reached_step v h (holds old given v) refl
            ∙ ap reaches
            (sym (stream_push d c.stream t v
            ∙ ap (λ (b : Bool). stream_in d c.stream v ++ cond b ((t.tok, t.start) ∷ []) [])
            (here v h)));
        refuses = λ v place why r. refused_stays place_of c.reserved (tokens v)
            (cond (holds old given v) ((s, t.start) ∷ []) []) why place (i.refuses v place why r);
        once = i.once;
      }

  pub converting_given : IsConverting d valid (with_more old tokens given ((s, t.start) ∷ [])) after
  converting_given = subst (λ (x : Conversion).
      IsConverting d valid (with_more old tokens given ((s, t.start) ∷ [])) x) (sym is_after) grown

-- a token that is refused
module _ (d old new : Diagram) (keeps : Keeps d new) (valid given mine : Cond) (tokens : Tokens)
    (c after : Conversion) (s : Spelled) (start : Start) (rest : List (Spelled × Start))
    (place : Place) (why : Why) (i : IsConverting d valid tokens c)
    (out : TakesOut d new place why mine c after)
    (is_place : start.place ≡ place)
    (meaning : (values : List Bool)
    → holds d mine values ≡ (holds old given values && holds d c.live values))
    (becomes : converted c.reserved s.kind s.text ≡ Err why) where
  first : (more : List (Spelled × Start))
      → c_tokens place_of c.reserved ((s, start) ∷ more) ≡ refused why place
  first more =
      ap (λ (r : Result CTok Why). with_token place_of r start
      (c_tokens place_of c.reserved more)) becomes
      ∙ ap (refused why) is_place

  same_reserved : (ts : List (Spelled × Start))
      → c_tokens place_of after.reserved ts ≡ c_tokens place_of c.reserved ts
  same_reserved ts = ap (λ (r : ReservedNames). c_tokens place_of r ts) out.reserved

  -- where it is still live nothing was given
  still : (values : List Bool) → holds new after.live values ≡ true
      → (holds d c.live values ≡ true) × (holds old given values ≡ false)
  still v h =
      let both : (holds d c.live v && not (holds d mine v)) ≡ true = sym (out.live v) ∙ h in
      let live = and_left (holds d c.live v) (not (holds d mine v)) both in
      let outside = not_false (holds d mine v)
      (and_right (holds d c.live v) (not (holds d mine v)) both) in
      (live, left_false (holds old given v) (holds d c.live v) (sym (meaning v) ∙ outside) live)

  -- where it is refused so, it was live and was given the token
  refused_here : (values : List Bool) → holds d mine values ≡ true
      → c_tokens place_of c.reserved
      (tokens values ++ cond (holds old given values) ((s, start) ∷ rest) [])
      ≡ refused why place
  refused_here v h =
      let both : (holds old given v && holds d c.live v) ≡ true = sym (meaning v) ∙ h in
      let live = and_right (holds old given v) (holds d c.live v) both in
      ap (λ (b : Bool). c_tokens place_of c.reserved (tokens v ++ cond b ((s, start) ∷ rest) []))
      (and_left (holds old given v) (holds d c.live v) both)
      ∙ (reached_more place_of c.reserved (tokens v) ((s, start) ∷ rest) (stream_in d c.stream v)
      (i.reached v live)
      ∙ ap (onto place_of c.reserved (stream_in d c.stream v)) (first rest))

  either : (values : List Bool) (at : Place) (cause : Why)
      → IsRefusedAt d c.refusals values at cause
      ⊎ ((place ≡ at) × (why ≡ cause) × (holds d mine values ≡ true))
      → c_tokens place_of c.reserved
      (tokens values ++ cond (holds old given values) ((s, start) ∷ rest) [])
      ≡ refused cause at
  either v at cause (inl r) = refused_stays place_of c.reserved (tokens v)
      (cond (holds old given v) ((s, start) ∷ rest) []) cause at (i.refuses v at cause r)
  either v at cause (inr r) =
      refused_here v r.2 ∙ (ap (λ (p : Place). refused why p) r.0
      ∙ ap (λ (w : Why). refused w at) r.1)

  sums : (live mine_ : Bool) (n m k : ℕ) → (mine_ ≡ true → live ≡ true)
      → k ≡ cond live 1 0 + n → m ≡ n + cond mine_ 1 0
      → cond (live && not mine_) 1 0 + m ≡ k
  sums true true n m k h e f = omega arith
  sums true false n m k h e f = omega arith
  sums false true n m k h e f = absurd (false≢true (h refl))
  sums false false n m k h e f = omega arith

  none : (live mine_ valid_ : Bool) (n : ℕ) → (mine_ ≡ true → live ≡ true)
      → cond live 1 0 + n ≡ cond valid_ 1 0 → mine_ ≡ true → n ≡ 0
  none true mine_ true n h e f = omega arith
  none true mine_ false n h e f = absurd (omega arith)
  none false mine_ valid_ n h e f = absurd (false≢true (h f))

  was_live : (values : List Bool) → holds d mine values ≡ true → holds d c.live values ≡ true
  was_live v h = and_right (holds old given v) (holds d c.live v) (sym (meaning v) ∙ h)

  once_more : (values : List Bool)
      → count_satisfied new (after.live ∷ conditions after.refusals) values
      ≡ cond (holds new valid values) 1 0
  once_more v =
      let before : cond (holds d c.live v) 1 0 + count_satisfied d (conditions c.refusals) v
      ≡ cond (holds d valid v) 1 0 =
      sym (count_cons d c.live (conditions c.refusals) v) ∙ i.once v in
      let counted : count_satisfied new (conditions after.refusals) v
      ≡ count_satisfied d (conditions c.refusals) v + cond (holds d mine v) 1 0 =
      out.counts v (none (holds d c.live v) (holds d mine v) (holds d valid v)
      (count_satisfied d (conditions c.refusals) v) (was_live v) before) in
      count_cons new after.live (conditions after.refusals) v
      ∙ (ap (λ (b : Bool). cond b 1 0 + count_satisfied new (conditions after.refusals) v) (out.live v)
      ∙ (sums (holds d c.live v) (holds d mine v) (count_satisfied d (conditions c.refusals) v)
      (count_satisfied new (conditions after.refusals) v) (cond (holds d valid v) 1 0) (was_live v)
      (sym before) counted
      ∙ ap {B = ℕ} (λ (b : Bool). cond b 1 0) (sym (keeps.meaning valid i.valid_node v))))

  pub converting_refused : IsConverting new valid
      (with_more old tokens given ((s, start) ∷ rest)) after
  converting_refused =
      record {
        valid_node = keeps.stays valid i.valid_node;
        live_node = out.live_node;
        stream_nodes = subst (λ (xs : List StreamTok). All (λ (t : StreamTok). IsNode new t.cond) xs)
            (sym out.stream)
            (All-weaker (λ (t : StreamTok). IsNode d t.cond) (λ (t : StreamTok). IsNode new t.cond)
            (λ t n. keeps.stays t.cond n) c.stream i.stream_nodes);
        refusals = out.refusals;
        reached = λ v h.
            let before = still v h in
            same_reserved (tokens v ++ cond (holds old given v) ((s, start) ∷ rest) [])
            ∙ (ap (λ (b : Bool). c_tokens place_of c.reserved
            (tokens v ++ cond b ((s, start) ∷ rest) [])) before.1
            ∙ (ap (c_tokens place_of c.reserved) (append-nil (tokens v))
            ∙ (i.reached v before.0
            ∙ (ap reaches (sym (stream_kept keeps c.stream i.stream_nodes v))
            ∙ ap (λ (xs : List StreamTok). reaches (stream_in new xs v)) (sym out.stream)))));
        refuses = λ v at cause r.
            same_reserved (tokens v ++ cond (holds old given v) ((s, start) ∷ rest) [])
            ∙ either v at cause ((out.refuses v at cause).0 r);
        once = once_more;
      }

-- taking out is the same in a store that has grown on the way
pub takes_out : (old mid new : Diagram) → Keeps old mid → (place : Place) (why : Why) (mine : Cond)
    (before after : Conversion) → IsNode old mine → AreRefusals old before.refusals
    → after.reserved ≡ before.reserved → after.stream ≡ before.stream
    → IsNode new after.live
    → ((values : List Bool) → holds new after.live values
    ≡ (holds old before.live values && not (holds old mine values)))
    → AreRefusals new after.refusals
    → RefusesMore mid new before.refusals after.refusals place why mine
    → CountsMore mid new before.refusals after.refusals mine
    → TakesOut old new place why mine before after
takes_out old mid new keeps place why mine before after node all reserved stream live_node live
    refusals refuses counts =
    record {
      reserved = reserved;
      stream = stream;
      live_node = live_node;
      live = live;
      refusals = refusals;
      refuses = λ v at cause. (
        λ r. back v at cause ((refuses v at cause).0 r),
        λ r. (refuses v at cause).1 (there v at cause r),
      );
      counts = λ v none.
          let kept = count_satisfied-kept keeps (conditions before.refusals) all.nodes v in
          counts v (λ e. kept ∙ none (sym (keeps.meaning mine node v) ∙ e))
          ∙ (ap (λ (n : ℕ). n + cond (holds mid mine v) 1 0) kept
          ∙ ap (λ (b : Bool). count_satisfied old (conditions before.refusals) v + cond b 1 0)
          (keeps.meaning mine node v));
    }
  where
    back : (v : List Bool) (at : Place) (cause : Why)
        → IsRefusedAt mid before.refusals v at cause
        ⊎ ((place ≡ at) × (why ≡ cause) × (holds mid mine v ≡ true))
        → IsRefusedAt old before.refusals v at cause
        ⊎ ((place ≡ at) × (why ≡ cause) × (holds old mine v ≡ true))
    back v at cause (inl r) = inl (IsRefusedAt-before keeps before.refusals all.nodes v at cause r)
    back v at cause (inr r) = inr (r.0, r.1, sym (keeps.meaning mine node v) ∙ r.2)

    there : (v : List Bool) (at : Place) (cause : Why)
        → IsRefusedAt old before.refusals v at cause
        ⊎ ((place ≡ at) × (why ≡ cause) × (holds old mine v ≡ true))
        → IsRefusedAt mid before.refusals v at cause
        ⊎ ((place ≡ at) × (why ≡ cause) × (holds mid mine v ≡ true))
    there v at cause (inl r) = inl (IsRefusedAt-kept keeps before.refusals all.nodes v at cause r)
    there v at cause (inr r) = inr (r.0, r.1, keeps.meaning mine node v ∙ r.2)

------ the whole

pub converting_sorts : {old new : Diagram} → Keeps old new → (valid : Cond) (given : List Given)
    (reserved : ReservedNames) (c : Conversion) (parted : Parted (List StreamTok))
    → All (λ (g : Given). IsNode old g.cond) given
    → IsConverting new valid (λ values. tokens_of (given_in old given values)) c
    → c.reserved ≡ reserved → parted.good ≡ c.live → parted.value ≡ c.stream
    → parted.failing ≡ c.refusals
    → Sorts new valid (IsConverted reserved new given) (IsRefused reserved new given) parted
converting_sorts {old} {new} keeps valid given reserved c parted nodes i is_reserved good value
    failing =
    record {
      divides = rw (good, failing) (record {
        nodes = (i.live_node, i.refusals.nodes);
        none_false = i.refusals.none_false;
        one = i.once;
        distinct = i.refusals.distinct;
      });
      right = λ v len h.
          told v ∙ (i.reached v (ap (λ (x : Cond). holds new x v) (sym good) ∙ h)
          ∙ ap (λ (xs : List StreamTok). reaches (stream_in new xs v)) (sym value));
      refused = subst (λ (fs : List Failing). All (λ (f : Failing). (values : List Bool)
          → length values ≡ new.variables → holds new f.cond values ≡ true
          → IsRefused reserved new given values f.place f.why) fs) (sym failing)
          (All-weaker
          (λ (f : Failing). (values : List Bool) → holds new f.cond values ≡ true
          → IsRefused reserved new given values f.place f.why)
          (λ (f : Failing). (values : List Bool) → length values ≡ new.variables
          → holds new f.cond values ≡ true → IsRefused reserved new given values f.place f.why)
          (λ f all v len h. all v h) c.refusals
          (IsRefusedAt-each new (λ v place why. IsRefused reserved new given v place why) c.refusals
          (λ v place why r. told v ∙ i.refuses v place why r)));
    }
  where
    told : (v : List Bool) → c_tokens place_of reserved (tokens_of (given_in new given v))
        ≡ c_tokens place_of c.reserved (tokens_of (given_in old given v))
    told v = ap (λ (r : ReservedNames). c_tokens place_of r (tokens_of (given_in new given v)))
        (sym is_reserved)
        ∙ ap (λ (gs : List Given). c_tokens place_of c.reserved (tokens_of gs))
        (entries_kept keeps given nodes v)
