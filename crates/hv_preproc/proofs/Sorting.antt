-- In each valid configuration the tokens of C that a whole unit gives are those of its reading, or
-- both are refused alike.
use Rattle.std.proofs.Common.{◌≡◌, ◌↔◌, ◌⊎◌, ◌+◌, ◌≤◌, ◌++◌, ℕ, Bool, true, false, cond, List, [], ◌∷◌, length, refl, sym, ◌∙◌, ap, ap₂, subst, subst₂, inl, inr, arith}
use Rattle.std.specs.Prelude.{map, filter, zip}
use Rattle.std.specs.List.{All}
use Rattle.std.proofs.lemmas.Bool.{false≢true, true≢false}
use Rattle.std.proofs.lemmas.List.Elements.{All-cons, All-contains, All-head, All-nil, All-tail, All-weaker}
use Rattle.hv_base.specs.declared.place.Place.{Place}
use Rattle.hv_base.specs.declared.place.Start.{Start}
use Rattle.hv_base.specs.declared.token.CTok.{CTok}
use Rattle.hv_base.specs.declared.why.Why.{Why}
use Rattle.hv_cond.specs.Diagram.{AllNodes, Diagram, IsNode, Keeps, holds}
use Rattle.hv_cond.specs.Parts.{count_satisfied}
use Rattle.hv_cond.specs.declared.conditions.Cond.{Cond}
use Rattle.hv_cstream.specs.Streams.{IsConverted, IsRefused, converted_in, stream_in}
use Rattle.hv_ctoks.specs.Joining.{joined}
use Rattle.hv_ctoks.specs.declared.reserved.ReservedNames.{ReservedNames}
use Rattle.hv_given.specs.Given.{AgreeInFace, AllAgree, AreEpisodes, given_in, tokens_of}
use Rattle.hv_given.specs.Laws.{IsRefusedAt-before, IsRefusedAt-each}
use Rattle.hv_given.specs.Refusals.{AreRefusals, IsRefusedAt}
use Rattle.hv_given.specs.declared.given.Given.{Given}
use Rattle.hv_plain.specs.episode.Expansion.{Event}
use Rattle.hv_plainpp.specs.CTokens.{Identity, c_tokens, ending_of, given, with_strings_joined}
use Rattle.hv_plainpp.specs.Reading.{Ending, Met, Reading, reaches, refused}
use Rattle.hv_preproc.proofs.Divisions.{Divides-kept, Divides-then, good_valid, refused_each, refused_once, refused_valid, divides_at, most_one, one_if}
use Rattle.hv_preproc.proofs.Tokens.{AreOne, Belongs, EndAlike, IsAt as IsAtStart, IsFrom, Pair, alike_reaches, alike_refused, all_from_one, c_tokens_alike, episodes_one, identity_place, joined_one, one_from_all, one_from_tokens, one_weaker, refused_so, start_place, tokens_from_one}
use Rattle.hv_preproc.specs.Plain.{Plain, parts_ending}
use Rattle.hv_preproc.specs.Preprocessed.{AgreeInStart, AreTokens, IsLeft, IsRefusedBy, StartsAgree}
use Rattle.hv_preproc.specs.declared.unit.Unit.{Unit as UnitSoFar}
use Rattle.hv_preproc.specs.working.Walk.{IsAt, IsUpTo, SoFar}
use Rattle.hv_preproc.specs.working.Wholes.{CountsBoth, parts_in}
use Rattle.hv_texts.specs.Readings.{conditions_of}
use Rattle.hv_toks.specs.Division.{Divides, Sorts, conditions}
use Rattle.hv_toks.specs.MacroState.{Entry}
use Rattle.hv_toks.specs.declared.parted.Failing.{Failing}
use Rattle.hv_toks.specs.declared.parted.Parted.{Parted}
use Rattle.hv_toks.specs.declared.stream.StreamTok.{StreamTok}

------ a store that has grown

given_kept : {old new : Diagram} → Keeps old new → (gs : List Given)
    → AllNodes old (conditions_of gs) → (values : List Bool)
    → given_in new gs values ≡ given_in old gs values
given_kept keeps [] nodes values = refl
given_kept {old} {new} keeps (g ∷ gs) nodes values =
    ap₂ (λ (b : Bool) (rest : List Given). cond b (g ∷ rest) rest)
    (keeps.meaning g.cond nodes.0 values) (given_kept keeps gs nodes.1 values)

pub each_node : (d : Diagram) (gs : List Given) → AllNodes d (conditions_of gs)
    → All (λ (g : Given). IsNode d g.cond) gs
each_node d [] nodes = All-nil (λ (g : Given). IsNode d g.cond)
each_node d (g ∷ gs) nodes =
    All-cons (λ (g : Given). IsNode d g.cond) g gs nodes.0 (each_node d gs nodes.1)

-- a token of a stream without its condition
abbrev shown : StreamTok → CTok × Start
shown t = (t.tok, t.start)

pub stream_kept : {old new : Diagram} → Keeps old new → (stream : List StreamTok)
    → All (λ (t : StreamTok). IsNode old t.cond) stream → (values : List Bool)
    → stream_in new stream values ≡ stream_in old stream values
stream_kept keeps [] nodes values = refl
stream_kept {old} {new} keeps (s ∷ stream) nodes values =
    step (holds new s.cond values) (holds old s.cond values)
    (keeps.meaning s.cond (All-head (λ (t : StreamTok). IsNode old t.cond) s stream nodes) values)
    (stream_kept keeps stream (All-tail (λ (t : StreamTok). IsNode old t.cond) s stream nodes) values)
  where
    step : (a b : Bool) → a ≡ b → stream_in new stream values ≡ stream_in old stream values
        → map shown (cond a
        (s ∷ filter (λ (t : StreamTok). holds new t.cond values) stream)
        (filter (λ (t : StreamTok). holds new t.cond values) stream))
        ≡ map shown (cond b
        (s ∷ filter (λ (t : StreamTok). holds old t.cond values) stream)
        (filter (λ (t : StreamTok). holds old t.cond values) stream))
    step true true e rest = ap (λ (l : List (CTok × Start)). (s.tok, s.start) ∷ l) rest
    step true false e rest = absurd (true≢false e)
    step false true e rest = absurd (false≢true e)
    step false false e rest = rest

------ one reading

-- a reading that reached a value has the tokens of C of its episodes
reached_ending : {A : Type 0} (reserved : ReservedNames) (met : List Met) (o : Ending A) (value : A)
    → o ≡ reaches value → parts_ending reserved (record { met = met; ending = o })
    ≡ c_tokens identity_place reserved (given met)
reached_ending {A} reserved met o value e =
    ap (λ (x : Ending A). parts_ending reserved (record { met = met; ending = x })) e

refused_ending : {A : Type 0} (reserved : ReservedNames) (met : List Met) (o : Ending A) (why : Why)
    (place : Place) → o ≡ refused why place
    → parts_ending reserved (record { met = met; ending = o }) ≡ refused why place
refused_ending {A} reserved met o why place e =
    ap (λ (x : Ending A). parts_ending reserved (record { met = met; ending = x })) e

-- a live configuration has reached a macro state
live_reaches : (d : Diagram) (u : UnitSoFar) (values : List Bool) (o : Ending (List Entry))
    → IsAt d u values o → holds d u.live values ≡ true
    → (macros : List Entry) × (o ≡ reaches macros)
live_reaches d u values (reaches macros) is h = (macros, refl)
live_reaches d u values (refused why place) is h = absurd (false≢true (sym is.0 ∙ h))

-- one that isn't live is refused
dead_refused : (d : Diagram) (u : UnitSoFar) (values : List Bool) (o : Ending (List Entry))
    → IsAt d u values o → (holds d u.live values ≡ true → ⊥)
    → (why : Why) × (place : Place) × (o ≡ refused why place)
    × IsRefusedAt d u.refusals values place why
dead_refused d u values (reaches macros) is dead = absurd (dead is.0)
dead_refused d u values (refused why place) is dead = (why, place, refl, is.1)

------ two starts

start_same : (s t : Start) → s.place ≡ t.place → s.face ≡ t.face → s.index ≡ t.index → s ≡ t
start_same s t p f n = λ k. record { place = p k; face = f k; index = n k }

identity_same : (i j : Identity) → i.place ≡ j.place → i.face ≡ j.face → i.index ≡ j.index → i ≡ j
identity_same i j p f n = λ k. record { place = p k; face = f k; index = n k }

-- they are one exactly where their identities are
starts_agree : (ps qs : List (Given × Met)) → AllAgree ps qs
    → (s t : Start) (i j : Identity) → IsFrom ps s i → IsFrom qs t j → (s ≡ t) ↔ (i ≡ j)
starts_agree ps qs agree s t i j f g = (
  λ e.
      let spot : s.place ≡ t.place = ap (λ (x : Start). x.place) e in
      identity_same i j (sym f.place ∙ spot ∙ g.place)
      (f.face ∙ (both (sym f.spot ∙ spot ∙ g.spot)).0
      (sym f.number ∙ ap (λ (x : Start). x.face) e ∙ g.number) ∙ sym g.face)
      (sym f.index ∙ ap (λ (x : Start). x.index) e ∙ g.index),
  λ e.
      let spot : s.place ≡ t.place = f.place ∙ ap (λ (x : Identity). x.place) e ∙ sym g.place in
      start_same s t spot
      (f.number ∙ (both (sym f.spot ∙ spot ∙ g.spot)).1
      (sym f.face ∙ ap (λ (x : Identity). x.face) e ∙ g.face) ∙ sym g.number)
      (f.index ∙ ap (λ (x : Identity). x.index) e ∙ sym g.index),
)
  where
    both : AgreeInFace f.from g.from
    both = All-contains (AgreeInFace f.from) qs g.from
        (All-contains (λ (p : Given × Met). All (AgreeInFace p) qs) ps f.from agree f.among) g.among

reached_same : (us tokens : List (CTok × Identity)) → reaches us ≡ reaches tokens → us ≡ tokens
reached_same us tokens e = cc

-- a start and its identity agree with those of each token of a list
abbrev AgreesWith : List (CTok × Start) → List (CTok × Identity) → Belongs
AgreesWith us vs s i = All (λ (q : Pair). (s ≡ q.0.1) ↔ (i ≡ q.1.1)) (zip us vs)

-- each of the one list with each of the other
abbrev AllAgreeInStart : (ts us : List (CTok × Start)) (xs ys : List (CTok × Identity)) → Type 0
AllAgreeInStart ts us xs ys =
    All (λ (p : Pair). All (AgreeInStart p) (zip us ys)) (zip ts xs)

joined_agree : (ts us : List (CTok × Start)) (xs ys : List (CTok × Identity))
    → AreOne IsAtStart ts xs → AreOne IsAtStart us ys → AllAgreeInStart ts us xs ys
    → AllAgreeInStart (joined ts) (joined us) (joined xs) (joined ys)
joined_agree ts us xs ys one other all =
    all_from_one (AgreesWith (joined us) (joined ys)) (joined ts) (joined xs)
    (joined_one (AgreesWith (joined us) (joined ys)) ts xs
    (one_weaker (AgreesWith us ys) (AgreesWith (joined us) (joined ys))
    (λ s i each. all_from_one (λ t j. (s ≡ t) ↔ (i ≡ j)) (joined us) (joined ys)
    (joined_one (λ t j. (s ≡ t) ↔ (i ≡ j)) us ys
    (one_from_all IsAtStart (λ t j. (s ≡ t) ↔ (i ≡ j)) us ys other each)))
    ts xs (one_from_all IsAtStart (AgreesWith us ys) ts xs one all)))

------ all readings

module _ (old mid new : Diagram) (valid : Cond) (u : UnitSoFar) (here : List ℕ) (so_far : SoFar)
    (reserved : ReservedNames) (parted : Parted (List StreamTok)) (all : List Failing)
    (first : Keeps old mid) (second : Keeps mid new) (node : IsNode old valid)
    (r : IsUpTo old valid u here so_far)
    (s : Sorts mid u.live (IsConverted reserved mid u.given) (IsRefused reserved mid u.given) parted)
    (tokens : All (λ (t : StreamTok). IsNode mid t.cond) parted.value) where
  abbrev plain : Plain
  plain = parts_in reserved so_far

  -- the entries that there are
  abbrev entries : List Bool → List Given
  entries values = given_in old u.given values

  abbrev pairs : List Bool → List (Given × Met)
  pairs values = zip (entries values) (so_far values).met

  -- what the entries become, and what the episodes become
  alike : (values : List Bool) → holds old u.live values ≡ true
      → EndAlike (IsFrom (pairs values)) (converted_in reserved mid u.given values)
      (plain values).ending
  alike values live =
      let v : holds old valid values ≡ true =
      good_valid old valid u.live u.refusals r.divides values live in
      let found = live_reaches old u values (so_far values).ending (r.stands values v) live in
      subst₂ (λ (x : Ending (List (CTok × Start))) (y : Ending (List (CTok × Identity))).
      EndAlike (IsFrom (pairs values)) x y)
      (ap (λ (gs : List Given). c_tokens start_place reserved (tokens_of gs))
      (sym (given_kept first u.given r.nodes values)))
      (sym (reached_ending reserved (so_far values).met (so_far values).ending found.0 found.1))
      (c_tokens_alike (IsFrom (pairs values)) (λ s i from. from.place) reserved
      (tokens_of (entries values)) (given (so_far values).met)
      (episodes_one (entries values) (so_far values).met (r.there values v)))

  -- who is good at the end was live
  was_live : (values : List Bool) → holds new parted.good values ≡ true
      → (holds mid parted.good values ≡ true) × (holds old u.live values ≡ true)
  was_live values h =
      let good : holds mid parted.good values ≡ true =
      sym (second.meaning parted.good s.divides.nodes.0 values) ∙ h in (
        good,
        sym (first.meaning u.live r.divides.nodes.0 values)
            ∙ good_valid mid u.live parted.good parted.failing s.divides values good,
      )

  -- its stream is what the episodes become
  good_tokens : (values : List Bool) → length values ≡ new.variables
      → holds new parted.good values ≡ true
      → (us : List (CTok × Identity)) × ((plain values).ending ≡ reaches us)
      × AreOne (IsFrom (pairs values)) (stream_in new parted.value values) us
  good_tokens values len h =
      let live = was_live values h in
      alike_reaches (IsFrom (pairs values)) (stream_in new parted.value values) (plain values).ending
      (subst (λ (x : Ending (List (CTok × Start))).
      EndAlike (IsFrom (pairs values)) x (plain values).ending)
      (s.right values (len ∙ second.variables) live.0
      ∙ ap (λ (ts : List (CTok × Start)). reaches ts) (sym (stream_kept second parted.value tokens values)))
      (alike values live.1))

  pub parts_left : (values : List Bool) → length values ≡ new.variables
      → holds new parted.good values ≡ true → IsLeft plain new values parted.value
  parts_left values len h =
      let us = good_tokens values len h in (
        us.0,
        us.1,
        tokens_from_one (stream_in new parted.value values) us.0
            (one_weaker (IsFrom (pairs values)) IsAtStart
            (λ s i from. record { place = from.place; index = from.index })
            (stream_in new parted.value values) us.0 us.2),
      )

  -- who is refused by the walk
  walk_refused : (values : List Bool) (place : Place) (why : Why)
      → IsRefusedAt old u.refusals values place why → IsRefusedBy plain values place why
  walk_refused values place why is =
      let dead = refused_valid old valid u.live u.refusals r.divides values place why is in
      let found = dead_refused old u values (so_far values).ending (r.stands values dead.0) dead.1 in
      let sum : one_if (holds old u.live values)
      + count_satisfied old (conditions u.refusals) values ≡ one_if (holds old valid values) =
      divides_at old valid u.live u.refusals r.divides values in
      let most : one_if (holds old valid values) ≤ 1 = most_one (holds old valid values) in
      let same = refused_once old u.refusals values (omega (arith, sum, most)) found.1 place found.0 why
      found.3 is in
      refused_ending reserved (so_far values).met (so_far values).ending why place
      (found.2 ∙ ap₂ (λ (w : Why) (p : Place). refused_so {A = List Entry} w p) same.1 same.0)

  -- who is refused for a token
  token_refused : (values : List Bool) (place : Place) (why : Why)
      → length values ≡ mid.variables → IsRefusedAt mid parted.failing values place why
      → IsRefusedBy plain values place why
  token_refused values place why len is =
      let live : holds old u.live values ≡ true =
      sym (first.meaning u.live r.divides.nodes.0 values)
      ∙ (refused_valid mid u.live parted.good parted.failing s.divides values place why is).0 in
      let how : converted_in reserved mid u.given values ≡ refused why place =
      refused_each mid (λ vs p w. length vs ≡ mid.variables
      → converted_in reserved mid u.given vs ≡ refused w p) parted.failing
      (All-weaker (λ (f : Failing). (vs : List Bool) → length vs ≡ mid.variables
      → holds mid f.cond vs ≡ true → converted_in reserved mid u.given vs ≡ refused f.why f.place)
      (λ (f : Failing). (vs : List Bool) → holds mid f.cond vs ≡ true
      → length vs ≡ mid.variables → converted_in reserved mid u.given vs ≡ refused f.why f.place)
      (λ f g vs h l. g vs l h) parted.failing s.refused) values place why is len in
      alike_refused (IsFrom (pairs values)) why place (plain values).ending
      (subst (λ (x : Ending (List (CTok × Start))).
      EndAlike (IsFrom (pairs values)) x (plain values).ending) how (alike values live))

  pub parts_sorted : AreRefusals mid u.refusals → AreRefusals new all
      → CountsBoth mid new u.refusals parted.failing all
      → ((values : List Bool) (place : Place) (why : Why) → IsRefusedAt new all values place why
      → IsRefusedAt mid u.refusals values place why
      ⊎ IsRefusedAt mid parted.failing values place why)
      → Sorts new valid (IsLeft plain new) (IsRefusedBy plain)
      (record { good = parted.good; value = parted.value; failing = all })
  parts_sorted before after counts either = record {
    divides = Divides-then old mid new valid u.live parted.good u.refusals parted.failing all first
        second node r.divides s.divides after counts;
    right = λ values len h. parts_left values len h;
    refused = All-weaker (λ (f : Failing). (vs : List Bool) → holds new f.cond vs ≡ true
        → length vs ≡ new.variables → IsRefusedBy plain vs f.place f.why)
        (λ (f : Failing). (vs : List Bool) → length vs ≡ new.variables
        → holds new f.cond vs ≡ true → IsRefusedBy plain vs f.place f.why)
        (λ f g vs l h. g vs h l) all
        (IsRefusedAt-each new (λ vs p w. length vs ≡ new.variables → IsRefusedBy plain vs p w) all
        (λ values place why is len. cases values place why (len ∙ second.variables)
        (either values place why is)));
  }
    where
      cases : (values : List Bool) (place : Place) (why : Why) → length values ≡ mid.variables
          → IsRefusedAt mid u.refusals values place why
          ⊎ IsRefusedAt mid parted.failing values place why
          → IsRefusedBy plain values place why
      cases values place why len (inl is) =
          walk_refused values place why
          (IsRefusedAt-before first u.refusals r.divides.nodes.1 values place why is)
      cases values place why len (inr is) = token_refused values place why len is

  ------ two configurations

  pub parts_starts : (values others : List Bool) → length values ≡ new.variables
      → length others ≡ new.variables → holds new parted.good values ≡ true
      → holds new parted.good others ≡ true
      → StartsAgree plain new parted.value values others
  parts_starts values others len size h k = λ tokens more e f.
      let us = good_tokens values len h in
      let vs = good_tokens others size k in
      let here : AreOne (IsFrom (pairs values)) (stream_in new parted.value values) tokens =
      subst (λ (l : List (CTok × Identity)).
      AreOne (IsFrom (pairs values)) (stream_in new parted.value values) l)
      (reached_same us.0 tokens (sym us.1 ∙ e)) us.2 in
      let there : AreOne (IsFrom (pairs others)) (stream_in new parted.value others) more =
      subst (λ (l : List (CTok × Identity)).
      AreOne (IsFrom (pairs others)) (stream_in new parted.value others) l)
      (reached_same vs.0 more (sym vs.1 ∙ f)) vs.2 in
      let agree : AllAgree (pairs values) (pairs others) =
      r.faces values others
      (good_valid old valid u.live u.refusals r.divides values (was_live values h).1)
      (good_valid old valid u.live u.refusals r.divides others (was_live others k).1) in
      all_from_one (AgreesWith (stream_in new parted.value others) more)
      (stream_in new parted.value values) tokens
      (one_weaker (IsFrom (pairs values)) (AgreesWith (stream_in new parted.value others) more)
      (λ a i from. all_from_one (λ b j. (a ≡ b) ↔ (i ≡ j)) (stream_in new parted.value others) more
      (one_weaker (IsFrom (pairs others)) (λ b j. (a ≡ b) ↔ (i ≡ j))
      (λ b j to. starts_agree (pairs values) (pairs others) agree a b i j from to)
      (stream_in new parted.value others) more there))
      (stream_in new parted.value values) tokens here)

------ joined literals

module _ (mid new : Diagram) (valid : Cond) (plain parts : Plain)
    (parted : Parted (List StreamTok)) (out : List StreamTok)
    (keeps : Keeps mid new) (node : IsNode mid valid)
    (ends : (values : List Bool)
    → (plain values).ending ≡ with_strings_joined (parts values).ending)
    (s : Sorts mid valid (IsLeft parts mid) (IsRefusedBy parts) parted)
    (joins : (values : List Bool) → holds mid parted.good values ≡ true
    → stream_in new out values ≡ joined (stream_in mid parted.value values)) where
  was_good : (values : List Bool) → holds new parted.good values ≡ true
      → holds mid parted.good values ≡ true
  was_good values h = sym (keeps.meaning parted.good s.divides.nodes.0 values) ∙ h

  pub joined_left : (values : List Bool) → length values ≡ new.variables
      → holds new parted.good values ≡ true → IsLeft plain new values out
  joined_left values len h =
      let good = was_good values h in
      let left : IsLeft parts mid values parted.value =
      s.right values (len ∙ keeps.variables) good in (
        joined left.0,
        ends values ∙ ap with_strings_joined left.1,
        subst (λ (ts : List (CTok × Start)). AreTokens ts (joined left.0)) (sym (joins values good))
            (tokens_from_one (joined (stream_in mid parted.value values)) (joined left.0)
            (joined_one IsAtStart (stream_in mid parted.value values) left.0
            (one_from_tokens (stream_in mid parted.value values) left.0 left.2))),
      )

  abbrev Before : Failing → Type 0
  Before f = (values : List Bool) → length values ≡ mid.variables
      → holds mid f.cond values ≡ true → IsRefusedBy parts values f.place f.why

  abbrev After : Failing → Type 0
  After f = (values : List Bool) → length values ≡ new.variables
      → holds new f.cond values ≡ true → IsRefusedBy plain values f.place f.why

  each_refused : (failing : List Failing) → AllNodes mid (conditions failing)
      → All Before failing → All After failing
  each_refused [] nodes all = All-nil After
  each_refused (f ∷ failing) nodes all =
      All-cons After f failing
      (λ values len h. ends values ∙ ap with_strings_joined
      (All-head Before f failing all values (len ∙ keeps.variables)
      (sym (keeps.meaning f.cond nodes.0 values) ∙ h)))
      (each_refused failing nodes.1 (All-tail Before f failing all))

  pub joined_sorted : Sorts new valid (IsLeft plain new) (IsRefusedBy plain)
      (record { good = parted.good; value = out; failing = parted.failing })
  joined_sorted = record {
    divides = Divides-kept keeps valid parted.good parted.failing node s.divides;
    right = λ values len h. joined_left values len h;
    refused = each_refused parted.failing s.divides.nodes.1 s.refused;
  }

  pub joined_starts : (values others : List Bool) → length values ≡ new.variables
      → length others ≡ new.variables → holds new parted.good values ≡ true
      → holds new parted.good others ≡ true
      → StartsAgree parts mid parted.value values others
      → StartsAgree plain new out values others
  joined_starts values others len size h k agree = λ tokens more e f.
      let here = was_good values h in
      let there = was_good others k in
      let a : IsLeft parts mid values parted.value =
      s.right values (len ∙ keeps.variables) here in
      let b : IsLeft parts mid others parted.value =
      s.right others (size ∙ keeps.variables) there in
      let ts : List (CTok × Start) = stream_in mid parted.value values in
      let us : List (CTok × Start) = stream_in mid parted.value others in
      let all : AllAgreeInStart (joined ts) (joined us) (joined a.0) (joined b.0) =
      joined_agree ts us a.0 b.0 (one_from_tokens ts a.0 a.2) (one_from_tokens us b.0 b.2)
      (agree a.0 b.0 a.1 b.1) in
      let first : AllAgreeInStart (stream_in new out values) (joined us) (joined a.0) (joined b.0) =
      subst (λ (l : List (CTok × Start)). AllAgreeInStart l (joined us) (joined a.0) (joined b.0))
      (sym (joins values here)) all in
      let second : AllAgreeInStart (stream_in new out values) (stream_in new out others)
      (joined a.0) (joined b.0) =
      subst (λ (l : List (CTok × Start)).
      AllAgreeInStart (stream_in new out values) l (joined a.0) (joined b.0))
      (sym (joins others there)) first in
      subst₂ (λ (xs ys : List (CTok × Identity)).
      AllAgreeInStart (stream_in new out values) (stream_in new out others) xs ys)
      (reached_same (joined a.0) tokens
      (sym (ends values ∙ ap with_strings_joined a.1) ∙ e))
      (reached_same (joined b.0) more
      (sym (ends others ∙ ap with_strings_joined b.1) ∙ f)) second

-- the tokens of C of a unit are its parts, joined
pub joined_ending : {A : Type 0} (reserved : ReservedNames) (met : List Met) (o : Ending A)
    → ending_of reserved (record { met = met; ending = o })
    ≡ with_strings_joined (parts_ending reserved (record { met = met; ending = o }))
joined_ending reserved met (reaches value) = refl
joined_ending reserved met (refused why place) = refl
