-- Open literals: what more of them are, over a store that has grown, and what is appended or written.
use Rattle.std.proofs.Common.{◌≡◌, ◌<◌, ◌++◌, ◌&&◌, ℕ, Bool, true, false, not, cond, List, [], ◌∷◌, length, get_or, refl, sym, ◌∙◌, ap, subst, arith, append-nil, append_assoc}
use Rattle.std.specs.Prelude.{map, filter, Result, Ok, Err, OnOk}
use Rattle.std.specs.List.{All}
use Rattle.std.proofs.lemmas.Bool.{false≢true}
use Rattle.std.proofs.lemmas.List.{map-append}
use Rattle.std.proofs.lemmas.List.Elements.{All-cons, All-head, All-push, All-tail, All-weaker, filter-append}
use Rattle.hv_base.specs.declared.place.Start.{Start}
use Rattle.hv_base.specs.declared.token.CTok.{CTok}
use Rattle.hv_base.specs.declared.token.CTok.TheVariants.{Str}
use Rattle.hv_cond.specs.Diagram.{Diagram, IsNode, Keeps, holds}
use Rattle.hv_cond.specs.declared.conditions.Cond.{Cond}
use Rattle.hv_cstream.proofs.Endings.{stream_kept, stream_push}
use Rattle.hv_cstream.specs.Streams.{stream_in}
use Rattle.hv_cstream.specs.declared.literal.Literal.{Literal}
use Rattle.hv_cstream.specs.working.Joining.{Appends, AreNodes, WritesOut, appended, appended_if, is_none, open_in, shown, with_string}
use Rattle.hv_toks.specs.declared.stream.StreamTok.{StreamTok}

------ open literals

abbrev pub node_of : Diagram → Literal → Type 0
node_of d l = IsNode d l.cond

no_nodes : (d : Diagram) → AreNodes d []
no_nodes d = λ k x l. absurd (omega arith)

pub one_node : (d : Diagram) (l : Literal) → IsNode d l.cond → AreNodes d (l ∷ [])
one_node d l n = All-cons (node_of d) l [] n (no_nodes d)

pub nodes_kept : {old new : Diagram} → Keeps old new → (ls : List Literal) → AreNodes old ls
    → AreNodes new ls
nodes_kept {old} {new} keeps ls nodes =
    All-weaker (node_of old) (node_of new) (λ l n. keeps.stays l.cond n) ls nodes

pub out_kept : {old new : Diagram} → Keeps old new → (out : List StreamTok)
    → All (λ (t : StreamTok). IsNode old t.cond) out → All (λ (t : StreamTok). IsNode new t.cond) out
out_kept {old} {new} keeps out nodes =
    All-weaker (λ (t : StreamTok). IsNode old t.cond) (λ (t : StreamTok). IsNode new t.cond)
    (λ t n. keeps.stays t.cond n) out nodes

pub open_append : (d : Diagram) (xs ys : List Literal) (v : List Bool)
    → open_in d (xs ++ ys) v ≡ open_in d xs v ++ open_in d ys v
open_append d xs ys v =
    ap (map shown) (filter-append (λ (l : Literal). holds d l.cond v) xs ys)
    ∙ map-append shown (filter (λ (l : Literal). holds d l.cond v) xs)
    (filter (λ (l : Literal). holds d l.cond v) ys)

pub open_kept : {old new : Diagram} → Keeps old new → (ls : List Literal) → AreNodes old ls
    → (v : List Bool) → open_in new ls v ≡ open_in old ls v
open_kept keeps [] nodes v = refl
open_kept {old} {new} keeps (l ∷ ls) nodes v =
    step (holds new l.cond v) (holds old l.cond v)
    (keeps.meaning l.cond (All-head (node_of old) l ls nodes) v)
    (open_kept keeps ls (All-tail (node_of old) l ls nodes) v)
  where
    step : (a b : Bool) → a ≡ b → open_in new ls v ≡ open_in old ls v
        → map shown (cond a (l ∷ filter (λ (l : Literal). holds new l.cond v) ls)
        (filter (λ (l : Literal). holds new l.cond v) ls))
        ≡ map shown (cond b (l ∷ filter (λ (l : Literal). holds old l.cond v) ls)
        (filter (λ (l : Literal). holds old l.cond v) ls))
    step true true e rest = ap (λ (xs : List (CTok × Start)). shown l ∷ xs) rest
    step true false e rest = absurd (false≢true (sym e))
    step false true e rest = absurd (false≢true e)
    step false false e rest = rest

pub open_one : (l : Literal) (b : Bool) → map shown (cond b (l ∷ []) []) ≡ cond b (shown l ∷ []) []
open_one l true = refl
open_one l false = refl

pub on_ok : {T E : Type 0} (r : Result T E) (P Q : Type 0) → (P → Q) → OnOk r P → OnOk r Q
on_ok (Ok x) P Q f p = f p
on_ok (Err x) P Q f p = tt

------ keeping one

-- a literal that can hold nowhere isn't seen
pub kept_nowhere : (d : Diagram) (ls : List Literal) (l : Literal)
    → ((v : List Bool) → holds d l.cond v ≡ false) → (v : List Bool)
    → open_in d ls v ≡ open_in d ls v ++ open_in d (l ∷ []) v
kept_nowhere d ls l never v =
    sym (append-nil (open_in d ls v))
    ∙ ap (λ (b : Bool). open_in d ls v ++ map shown (cond b (l ∷ []) [])) (sym (never v))

pub copied_nowhere : (d : Diagram) (ls : List Literal) (c : Cond) (x : CTok × Start)
    → ((v : List Bool) → holds d c v ≡ false) → (v : List Bool)
    → open_in d ls v ≡ open_in d ls v ++ cond (holds d c v) (x ∷ []) []
copied_nowhere d ls c x never v =
    sym (append-nil (open_in d ls v))
    ∙ ap (λ (b : Bool). open_in d ls v ++ cond b (x ∷ []) []) (sym (never v))

pub nodes_pushed : (d : Diagram) (ls after : List Literal) (l : Literal) → AreNodes d ls
    → IsNode d l.cond → after ≡ ls ++ l ∷ [] → AreNodes d after
nodes_pushed d ls after l nodes n e =
    subst (λ (xs : List Literal). AreNodes d xs) (sym e) (All-push (node_of d) ls l nodes n)

pub open_pushed : (d : Diagram) (ls after : List Literal) (l : Literal) → after ≡ ls ++ l ∷ []
    → (v : List Bool) → open_in d after v ≡ open_in d ls v ++ open_in d (l ∷ []) v
open_pushed d ls after l e v =
    ap (λ (xs : List Literal). open_in d xs v) e ∙ open_append d ls (l ∷ []) v

pub open_pushed_as : (d : Diagram) (ls after : List Literal) (l seen : Literal)
    → after ≡ ls ++ l ∷ [] → shown l ≡ shown seen
    → (v : List Bool) → open_in d after v ≡ open_in d ls v ++ cond (holds d l.cond v) (shown seen ∷ []) []
open_pushed_as d ls after l seen e same v =
    open_pushed d ls after l e v
    ∙ ap (λ (xs : List (CTok × Start)). open_in d ls v ++ xs)
    (open_one l (holds d l.cond v)
    ∙ ap (λ (x : CTok × Start). cond (holds d l.cond v) (x ∷ []) []) same)

------ appending to one, and writing one out

-- a literal in two parts
module _ {old new : Diagram} (keeps : Keeps old new) (l : Literal) (given inside outside : Cond)
    (before : List Literal) (nodes : AreNodes old before)
    (in_meaning : (v : List Bool)
    → holds new inside v ≡ (holds old l.cond v && holds old given v))
    (out_meaning : (v : List Bool)
    → holds new outside v ≡ (holds old l.cond v && not (holds old given v))) where
  -- what was open, and what stays
  stays : (mid : List Literal)
      → ((v : List Bool) → open_in new mid v
      ≡ open_in new before v ++ cond (holds new outside v) (shown l ∷ []) [])
      → (v : List Bool) → open_in new mid v
      ≡ open_in old before v
      ++ cond (holds old l.cond v && not (holds old given v)) (shown l ∷ []) []
  stays mid shows v =
      shows v
      ∙ (ap (λ (xs : List (CTok × Start)). xs ++ cond (holds new outside v) (shown l ∷ []) [])
      (open_kept keeps before nodes v)
      ∙ ap (λ (b : Bool). open_in old before v ++ cond b (shown l ∷ []) []) (out_meaning v))

  both : (xs : List (CTok × Start)) (a b : Bool) (more : List ℕ)
      → (xs ++ cond (a && not b) (shown l ∷ []) [])
      ++ cond (a && b) ((Str (l.bytes ++ more), l.start) ∷ []) []
      ≡ xs ++ appended_if b more (map shown (cond a (l ∷ []) []))
  both xs true true more = ap (λ (ys : List (CTok × Start)).
      ys ++ (Str (l.bytes ++ more), l.start) ∷ []) (append-nil xs)
  both xs true false more = append-nil (xs ++ shown l ∷ [])
  both xs false true more = append-nil (xs ++ [])
  both xs false false more = append-nil (xs ++ [])

  pub appends_parts : (more : List ℕ) (mid after : List Literal) (longer : Literal)
      → AreNodes new mid
      → ((v : List Bool) → open_in new mid v
      ≡ open_in new before v ++ cond (holds new outside v) (shown l ∷ []) [])
      → IsNode new longer.cond → longer.cond ≡ inside
      → shown longer ≡ (Str (l.bytes ++ more), l.start)
      → after ≡ mid ++ longer ∷ []
      → Appends old new given more (l ∷ []) before after
  appends_parts more mid after longer mid_nodes shows node same_cond same e =
      record {
        nodes = nodes_pushed new mid after longer mid_nodes node e;
        shows = λ v.
            open_pushed new mid after longer e v
            ∙ (ap (λ (xs : List (CTok × Start)). open_in new mid v ++ xs)
            (open_one longer (holds new longer.cond v)
            ∙ (ap (λ (x : CTok × Start). cond (holds new longer.cond v) (x ∷ []) []) same
            ∙ ap (λ (c : Cond). cond (holds new c v) ((Str (l.bytes ++ more), l.start) ∷ []) [])
            same_cond))
            ∙ (ap (λ (b : Bool). open_in new mid v
            ++ cond b ((Str (l.bytes ++ more), l.start) ∷ []) []) (in_meaning v)
            ∙ (ap (λ (xs : List (CTok × Start)). xs
            ++ cond (holds old l.cond v && holds old given v)
            ((Str (l.bytes ++ more), l.start) ∷ []) []) (stays mid shows v)
            ∙ both (open_in old before v) (holds old l.cond v) (holds old given v) more)));
      }

  whole : (b a : Bool) (more : List ℕ) → (a && b) ≡ false
      → map shown (cond a (l ∷ []) []) ≡ appended_if b more (map shown (cond a (l ∷ []) []))
  whole true true more e = absurd (false≢true (sym e))
  whole true false more e = refl
  whole false a more e = refl

  pub appends_whole : (more : List ℕ) (after : List Literal) → IsNode old l.cond
      → ((v : List Bool) → holds new inside v ≡ false) → after ≡ before ++ l ∷ []
      → Appends old new given more (l ∷ []) before after
  appends_whole more after node never e =
      record {
        nodes = nodes_pushed new before after l (nodes_kept keeps before nodes)
            (keeps.stays l.cond node) e;
        shows = λ v.
            open_pushed new before after l e v
            ∙ (ap (λ (xs : List (CTok × Start)). xs ++ open_in new (l ∷ []) v)
            (open_kept keeps before nodes v)
            ∙ (ap (λ (b : Bool). open_in old before v ++ map shown (cond b (l ∷ []) []))
            (keeps.meaning l.cond node v)
            ∙ ap (λ (xs : List (CTok × Start)). open_in old before v ++ xs)
            (whole (holds old given v) (holds old l.cond v) more (sym (in_meaning v) ∙ never v))));
      }

  rest_stays : (xs : List (CTok × Start)) (a b : Bool)
      → xs ++ cond (a && not b) (shown l ∷ []) []
      ≡ xs ++ cond b [] (map shown (cond a (l ∷ []) []))
  rest_stays xs true true = refl
  rest_stays xs true false = refl
  rest_stays xs false true = refl
  rest_stays xs false false = refl

  is_written : (a b : Bool) → cond (a && b) (shown l ∷ []) []
      ≡ cond b (map shown (cond a (l ∷ []) [])) []
  is_written true true = refl
  is_written true false = refl
  is_written false true = refl
  is_written false false = refl

  pub writes_parts : (mid : List Literal) (out written : List StreamTok) (t : StreamTok)
      → AreNodes new mid
      → ((v : List Bool) → open_in new mid v
      ≡ open_in new before v ++ cond (holds new outside v) (shown l ∷ []) [])
      → All (λ (t : StreamTok). IsNode old t.cond) out
      → IsNode new inside
      → t ≡ record { tok = Str l.bytes; cond = inside; start = l.start }
      → written ≡ out ++ t ∷ []
      → WritesOut old new given (l ∷ []) before mid out written
  writes_parts mid out written t mid_nodes shows out_nodes node is_t e =
      record {
        nodes = mid_nodes;
        out_nodes = subst (λ (xs : List StreamTok). All (λ (t : StreamTok). IsNode new t.cond) xs)
            (sym e)
            (All-push (λ (t : StreamTok). IsNode new t.cond) out t (out_kept keeps out out_nodes)
            (subst (λ (t : StreamTok). IsNode new t.cond) (sym is_t) node));
        shows = λ v. stays mid shows v
            ∙ rest_stays (open_in old before v) (holds old l.cond v) (holds old given v);
        writes = λ v.
            ap (λ (xs : List StreamTok). stream_in new xs v) e
            ∙ (stream_push new out t v
            ∙ (ap (λ (xs : List (CTok × Start)).
            xs ++ cond (holds new t.cond v) ((t.tok, t.start) ∷ []) [])
            (stream_kept keeps out out_nodes v)
            ∙ (ap (λ (t : StreamTok). stream_in old out v
            ++ cond (holds new t.cond v) ((t.tok, t.start) ∷ []) []) is_t
            ∙ (ap (λ (b : Bool). stream_in old out v ++ cond b (shown l ∷ []) []) (in_meaning v)
            ∙ ap (λ (xs : List (CTok × Start)). stream_in old out v ++ xs)
            (is_written (holds old l.cond v) (holds old given v))))));
      }

  whole_stays : (b a : Bool) → (a && b) ≡ false
      → map shown (cond a (l ∷ []) []) ≡ cond b [] (map shown (cond a (l ∷ []) []))
  whole_stays true true e = absurd (false≢true (sym e))
  whole_stays true false e = refl
  whole_stays false a e = refl

  none_written : (xs : List (CTok × Start)) (b a : Bool) → (a && b) ≡ false
      → xs ≡ xs ++ cond b (map shown (cond a (l ∷ []) [])) []
  none_written xs true true e = absurd (false≢true (sym e))
  none_written xs true false e = sym (append-nil xs)
  none_written xs false a e = sym (append-nil xs)

  pub writes_whole : (after : List Literal) (out : List StreamTok) → IsNode old l.cond
      → All (λ (t : StreamTok). IsNode old t.cond) out
      → ((v : List Bool) → holds new inside v ≡ false) → after ≡ before ++ l ∷ []
      → WritesOut old new given (l ∷ []) before after out out
  writes_whole after out node out_nodes never e =
      record {
        nodes = nodes_pushed new before after l (nodes_kept keeps before nodes)
            (keeps.stays l.cond node) e;
        out_nodes = out_kept keeps out out_nodes;
        shows = λ v.
            open_pushed new before after l e v
            ∙ (ap (λ (xs : List (CTok × Start)). xs ++ open_in new (l ∷ []) v)
            (open_kept keeps before nodes v)
            ∙ (ap (λ (b : Bool). open_in old before v ++ map shown (cond b (l ∷ []) []))
            (keeps.meaning l.cond node v)
            ∙ ap (λ (xs : List (CTok × Start)). open_in old before v ++ xs)
            (whole_stays (holds old given v) (holds old l.cond v) (sym (in_meaning v) ∙ never v))));
        writes = λ v.
            stream_kept keeps out out_nodes v
            ∙ none_written (stream_in old out v) (holds old given v) (holds old l.cond v)
            (sym (in_meaning v) ∙ never v);
      }

------ one after another

appended_parts : (b : Bool) (more : List ℕ) (xs ys : List (CTok × Start))
    → appended_if b more xs ++ appended_if b more ys ≡ appended_if b more (xs ++ ys)
appended_parts true more xs ys = sym (map-append (appended more) xs ys)
appended_parts false more xs ys = refl

appended_none : (b : Bool) (more : List ℕ) → [] ≡ appended_if b more []
appended_none true more = refl
appended_none false more = refl

pub appends_start : (d : Diagram) (given : Cond) (more : List ℕ) (after : List Literal)
    → after ≡ [] → Appends d d given more [] [] after
appends_start d given more after e =
    record {
      nodes = subst (λ (xs : List Literal). AreNodes d xs) (sym e) (no_nodes d);
      shows = λ v. ap (λ (xs : List Literal). open_in d xs v) e
          ∙ appended_none (holds d given v) more;
    }

pub appends_more : {old mid new : Diagram} → Keeps old mid → (given : Cond) → IsNode old given
    → (more : List ℕ) (done : List Literal) (l : Literal) (left after : List Literal)
    → AreNodes old done → IsNode old l.cond
    → Appends old mid given more done [] left → Appends mid new given more (l ∷ []) left after
    → Appends old new given more (done ++ l ∷ []) [] after
appends_more {old} {mid} {new} keeps given node more done l left after nodes l_node first second =
    record {
      nodes = second.nodes;
      shows = λ v.
          second.shows v
          ∙ (ap (λ (xs : List (CTok × Start)).
          xs ++ appended_if (holds mid given v) more (open_in mid (l ∷ []) v)) (first.shows v)
          ∙ (ap (λ (b : Bool). appended_if (holds old given v) more (open_in old done v)
          ++ appended_if b more (open_in mid (l ∷ []) v)) (keeps.meaning given node v)
          ∙ (ap (λ (xs : List (CTok × Start)).
          appended_if (holds old given v) more (open_in old done v)
          ++ appended_if (holds old given v) more xs)
          (open_kept keeps (l ∷ []) (one_node old l l_node) v)
          ∙ (appended_parts (holds old given v) more (open_in old done v) (open_in old (l ∷ []) v)
          ∙ ap (appended_if (holds old given v) more) (sym (open_append old done (l ∷ []) v))))));
    }

left_parts : (b : Bool) (xs ys : List (CTok × Start)) → cond b [] xs ++ cond b [] ys
    ≡ cond b [] (xs ++ ys)
left_parts true xs ys = refl
left_parts false xs ys = refl

written_parts : (b : Bool) (zs xs ys : List (CTok × Start)) → (zs ++ cond b xs []) ++ cond b ys []
    ≡ zs ++ cond b (xs ++ ys) []
written_parts true zs xs ys = append_assoc zs xs ys
written_parts false zs xs ys = append-nil (zs ++ [])

no_left : (b : Bool) → let xs : List (CTok × Start) = [] in xs ≡ cond b [] []
no_left true = refl
no_left false = refl

no_written : (b : Bool) (zs : List (CTok × Start)) → zs ≡ zs ++ cond b [] []
no_written true zs = sym (append-nil zs)
no_written false zs = sym (append-nil zs)

pub writes_start : (d : Diagram) (given : Cond) (after : List Literal) (out : List StreamTok)
    → All (λ (t : StreamTok). IsNode d t.cond) out → after ≡ []
    → WritesOut d d given [] [] after out out
writes_start d given after out out_nodes e =
    record {
      nodes = subst (λ (xs : List Literal). AreNodes d xs) (sym e) (no_nodes d);
      out_nodes = out_nodes;
      shows = λ v. ap (λ (xs : List Literal). open_in d xs v) e ∙ no_left (holds d given v);
      writes = λ v. no_written (holds d given v) (stream_in d out v);
    }

pub writes_more : {old mid new : Diagram} → Keeps old mid → (given : Cond) → IsNode old given
    → (done : List Literal) (l : Literal) (left after : List Literal)
    (out middle written : List StreamTok)
    → AreNodes old done → IsNode old l.cond
    → WritesOut old mid given done [] left out middle
    → WritesOut mid new given (l ∷ []) left after middle written
    → WritesOut old new given (done ++ l ∷ []) [] after out written
writes_more {old} {mid} {new} keeps given node done l left after out middle written nodes l_node
    first second =
    record {
      nodes = second.nodes;
      out_nodes = second.out_nodes;
      shows = λ v.
          second.shows v
          ∙ (ap (λ (xs : List (CTok × Start)).
          xs ++ cond (holds mid given v) [] (open_in mid (l ∷ []) v)) (first.shows v)
          ∙ (ap (λ (b : Bool). cond (holds old given v) [] (open_in old done v)
          ++ cond b [] (open_in mid (l ∷ []) v)) (keeps.meaning given node v)
          ∙ (ap (λ (xs : List (CTok × Start)). cond (holds old given v) [] (open_in old done v)
          ++ cond (holds old given v) [] xs) (open_kept keeps (l ∷ []) (one_node old l l_node) v)
          ∙ (left_parts (holds old given v) (open_in old done v) (open_in old (l ∷ []) v)
          ∙ ap (λ (xs : List (CTok × Start)). cond (holds old given v) [] xs)
          (sym (open_append old done (l ∷ []) v))))));
      writes = λ v.
          second.writes v
          ∙ (ap (λ (xs : List (CTok × Start)).
          xs ++ cond (holds mid given v) (open_in mid (l ∷ []) v) []) (first.writes v)
          ∙ (ap (λ (b : Bool). (stream_in old out v
          ++ cond (holds old given v) (open_in old done v) [])
          ++ cond b (open_in mid (l ∷ []) v) []) (keeps.meaning given node v)
          ∙ (ap (λ (xs : List (CTok × Start)). (stream_in old out v
          ++ cond (holds old given v) (open_in old done v) [])
          ++ cond (holds old given v) xs []) (open_kept keeps (l ∷ []) (one_node old l l_node) v)
          ∙ (written_parts (holds old given v) (stream_in old out v) (open_in old done v)
          (open_in old (l ∷ []) v)
          ∙ ap (λ (xs : List (CTok × Start)). stream_in old out v
          ++ cond (holds old given v) xs []) (sym (open_append old done (l ∷ []) v))))));
    }

------ what is outside all of them

none_more : (xs : List (CTok × Start)) (l : Literal) (r a : Bool)
    → ((r && is_none xs) && not a) ≡ (r && is_none (xs ++ map shown (cond a (l ∷ []) [])))
none_more [] l true true = refl
none_more [] l true false = refl
none_more [] l false a = refl
none_more (x ∷ xs) l true a = refl
none_more (x ∷ xs) l false a = refl

pub outside_start : (r : Bool) → r ≡ (r && true)
outside_start true = refl
outside_start false = refl

pub outside_more : {old mid : Diagram} (new : Diagram) → Keeps old mid → (given rest left : Cond)
    (done : List Literal) (l : Literal) → IsNode old l.cond
    → ((v : List Bool) → holds mid rest v ≡ (holds old given v && is_none (open_in old done v)))
    → ((v : List Bool) → holds new left v ≡ (holds mid rest v && not (holds mid l.cond v)))
    → (v : List Bool) → holds new left v
    ≡ (holds old given v && is_none (open_in old (done ++ l ∷ []) v))
outside_more {old} {mid} new keeps given rest left done l node before after v =
    after v
    ∙ (ap (λ (b : Bool). b && not (holds mid l.cond v)) (before v)
    ∙ (ap (λ (b : Bool). (holds old given v && is_none (open_in old done v)) && not b)
    (keeps.meaning l.cond node v)
    ∙ (none_more (open_in old done v) l (holds old given v) (holds old l.cond v)
    ∙ ap (λ (xs : List (CTok × Start)). holds old given v && is_none xs)
    (sym (open_append old done (l ∷ []) v)))))

------ a string literal

string_taken : (b : Bool) (bytes : List ℕ) (start : Start) (xs : List (CTok × Start))
    → appended_if b bytes xs ++ cond (b && is_none xs) ((Str bytes, start) ∷ []) []
    ≡ cond b (with_string bytes start xs) xs
string_taken true bytes start [] = refl
string_taken true bytes start (x ∷ xs) = append-nil (map (appended bytes) (x ∷ xs))
string_taken false bytes start xs = append-nil xs

-- what is open after a string literal
pub takes_string : {old mid new : Diagram} → Keeps old mid → Keeps mid new → (given rest : Cond)
    (literals left after : List Literal) (last : Literal) (bytes : List ℕ) (start : Start)
    → IsNode old given → AreNodes old literals → IsNode mid rest
    → ((v : List Bool) → holds mid rest v
    ≡ (holds old given v && is_none (open_in old literals v)))
    → last ≡ record { cond = rest; start = start; bytes = bytes }
    → Appends mid new given bytes literals [] left
    → ((v : List Bool) → open_in new after v ≡ open_in new left v ++ open_in new (last ∷ []) v)
    → (v : List Bool) → open_in new after v
    ≡ cond (holds old given v) (with_string bytes start (open_in old literals v))
    (open_in old literals v)
takes_string {old} {mid} {new} first second given rest literals left after last bytes start node nodes
    rest_node outside is_last appends kept v =
    kept v
    ∙ (ap (λ (xs : List (CTok × Start)). xs ++ open_in new (last ∷ []) v) (appends.shows v)
    ∙ (ap (λ (l : Literal). appended_if (holds mid given v) bytes (open_in mid literals v)
    ++ open_in new (l ∷ []) v) is_last
    ∙ (ap (λ (xs : List (CTok × Start)).
    appended_if (holds mid given v) bytes (open_in mid literals v) ++ xs)
    (open_one (record { cond = rest; start = start; bytes = bytes }) (holds new rest v)
    ∙ ap (λ (b : Bool). cond b ((Str bytes, start) ∷ []) [])
    (second.meaning rest rest_node v ∙ outside v))
    ∙ (ap (λ (b : Bool). appended_if b bytes (open_in mid literals v)
    ++ cond (holds old given v && is_none (open_in old literals v)) ((Str bytes, start) ∷ []) [])
    (first.meaning given node v)
    ∙ (ap (λ (xs : List (CTok × Start)). appended_if (holds old given v) bytes xs
    ++ cond (holds old given v && is_none (open_in old literals v)) ((Str bytes, start) ∷ []) [])
    (open_kept first literals nodes v)
    ∙ string_taken (holds old given v) bytes start (open_in old literals v))))))

-- what is written before another token, and that one
pub takes_other : {old new : Diagram} → Keeps old new → (literals after : List Literal)
    (out middle written : List StreamTok) (t : StreamTok) → IsNode old t.cond
    → WritesOut old new t.cond literals [] after out middle → written ≡ middle ++ t ∷ []
    → (v : List Bool) → stream_in new written v
    ≡ stream_in old out v
    ++ cond (holds old t.cond v) (open_in old literals v ++ (t.tok, t.start) ∷ []) []
takes_other {old} {new} keeps literals after out middle written t node writes e v =
    ap (λ (xs : List StreamTok). stream_in new xs v) e
    ∙ (stream_push new middle t v
    ∙ (ap (λ (xs : List (CTok × Start)). xs
    ++ cond (holds new t.cond v) ((t.tok, t.start) ∷ []) []) (writes.writes v)
    ∙ (ap (λ (b : Bool). (stream_in old out v
    ++ cond (holds old t.cond v) (open_in old literals v) [])
    ++ cond b ((t.tok, t.start) ∷ []) []) (keeps.meaning t.cond node v)
    ∙ written_parts (holds old t.cond v) (stream_in old out v) (open_in old literals v)
    ((t.tok, t.start) ∷ []))))

pub out_pushed : (d : Diagram) (out written : List StreamTok) (t : StreamTok)
    → All (λ (t : StreamTok). IsNode d t.cond) out → IsNode d t.cond → written ≡ out ++ t ∷ []
    → All (λ (t : StreamTok). IsNode d t.cond) written
out_pushed d out written t nodes node e =
    subst (λ (xs : List StreamTok). All (λ (t : StreamTok). IsNode d t.cond) xs) (sym e)
    (All-push (λ (t : StreamTok). IsNode d t.cond) out t nodes node)

------ items of a list that is taken apart

pub node_at : (d : Diagram) (all : List Literal) (i : ℕ) (l : Literal) → AreNodes d all
    → (i < length all) × (l ≡ get_or all i l) → IsNode d l.cond
node_at d all i l nodes t = subst (node_of d) (sym t.1) (nodes i l t.0)

pub token_at : (d : Diagram) (all : List StreamTok) (i : ℕ) (t : StreamTok)
    → All (λ (t : StreamTok). IsNode d t.cond) all → (i < length all) × (t ≡ get_or all i t)
    → IsNode d t.cond
token_at d all i t nodes u = subst (λ (t : StreamTok). IsNode d t.cond) (sym u.1) (nodes i t u.0)

pub nodes_more : (d : Diagram) (done : List Literal) (l : Literal) → AreNodes d done
    → IsNode d l.cond → AreNodes d (done ++ l ∷ [])
nodes_more d done l nodes n = All-push (node_of d) done l nodes n

pub nodes_none : (d : Diagram) → AreNodes d []
nodes_none d = no_nodes d
