-- Each token of a stream keeps what is joined so far right.
use Rattle.std.proofs.Common.{◌≡◌, ◌≤◌, ◌++◌, ◌&&◌, ℕ, Bool, true, false, cond, List, [], ◌∷◌, length, refl, sym, ◌∙◌, ap, subst, arith, append-nil, append_assoc}
use Rattle.std.specs.Prelude.{map, filter, Result, Ok, Err, IfOk}
use Rattle.std.specs.List.{All}
use Rattle.std.proofs.lemmas.List.{length-map}
use Rattle.hv_base.specs.declared.place.Start.{Start}
use Rattle.hv_base.specs.declared.token.CTok.{CTok}
use Rattle.hv_base.specs.declared.token.CTok.TheVariants.{Keyword, Name, Int, Char, Str, Punct}
use Rattle.hv_cond.specs.Diagram.{Diagram, IsNode, Keeps, holds}
use Rattle.hv_cond.specs.declared.conditions.Cond.{Cond}
use Rattle.hv_cstream.proofs.Endings.{stream_kept, stream_push}
use Rattle.hv_cstream.proofs.Literals.{nodes_kept, nodes_none, open_kept, out_kept}
use Rattle.hv_cstream.specs.Streams.{stream_in}
use Rattle.hv_cstream.specs.declared.literal.Literal.{Literal}
use Rattle.hv_cstream.specs.working.Joining.{AreNodes, IsJoining, WritesOut, appended, open_in, shown, with_string}
use Rattle.hv_ctoks.specs.Joining.{before_joined, joined}
use Rattle.hv_toks.specs.declared.stream.StreamTok.{StreamTok}

------ tokens of one configuration

abbrev pub Toks : Type 0
Toks = List (CTok × Start)

-- a token that is no string literal
abbrev pub IsOther : CTok → Type 0
IsOther (Str bytes) = ⊥
IsOther (Keyword word) = Unit {0}
IsOther (Name name) = Unit {0}
IsOther (Int value kind) = Unit {0}
IsOther (Char value) = Unit {0}
IsOther (Punct sign) = Unit {0}

-- two literals before others are one
join_two : (a b : List ℕ) (at to : Start) (js : Toks)
    → before_joined (Str a, at) (before_joined (Str b, to) js) ≡ before_joined (Str (a ++ b), at) js
join_two a b at to [] = refl
join_two a b at to ((Str c, x) ∷ js) =
    ap (λ (bytes : List ℕ). let t : CTok × Start = (Str bytes, at) in t ∷ js)
    (sym (append_assoc a b c))
join_two a b at to ((Keyword word, x) ∷ js) = refl
join_two a b at to ((Name name, x) ∷ js) = refl
join_two a b at to ((Int value kind, x) ∷ js) = refl
join_two a b at to ((Char value, x) ∷ js) = refl
join_two a b at to ((Punct sign, x) ∷ js) = refl

other_first : (t : CTok) → IsOther t → (at : Start) (js : Toks)
    → before_joined (t, at) js ≡ (t, at) ∷ js
other_first (Str bytes) h at js = absurd h
other_first (Keyword word) h at js = refl
other_first (Name name) h at js = refl
other_first (Int value kind) h at js = refl
other_first (Char value) h at js = refl
other_first (Punct sign) h at js = refl

other_second : (a : List ℕ) (to : Start) (t : CTok) → IsOther t → (at : Start) (js : Toks)
    → before_joined (Str a, to) ((t, at) ∷ js) ≡ (Str a, to) ∷ (t, at) ∷ js
other_second a to (Str bytes) h at js = absurd h
other_second a to (Keyword word) h at js = refl
other_second a to (Name name) h at js = refl
other_second a to (Int value kind) h at js = refl
other_second a to (Char value) h at js = refl
other_second a to (Punct sign) h at js = refl

-- a literal after the one that is open, if any, makes it longer
string_joins : (fs : List Literal) → length (map shown fs) ≤ 1 → (bytes : List ℕ) (at : Start)
    (rest : Toks) → joined (map shown fs ++ (Str bytes, at) ∷ rest)
    ≡ joined (with_string bytes at (map shown fs) ++ rest)
string_joins [] l bytes at rest = refl
string_joins (f ∷ []) l bytes at rest = join_two f.bytes bytes f.start at (joined rest)
string_joins (f ∷ g ∷ fs) l bytes at rest = absurd (omega arith)

-- another token after it ends it
other_joins : (fs : List Literal) → length (map shown fs) ≤ 1 → (t : CTok) → IsOther t
    → (at : Start) (rest : Toks) → joined (map shown fs ++ (t, at) ∷ rest)
    ≡ (map shown fs ++ (t, at) ∷ []) ++ joined rest
other_joins [] l t h at rest = other_first t h at (joined rest)
other_joins (f ∷ []) l t h at rest =
    ap (before_joined (Str f.bytes, f.start)) (other_first t h at (joined rest))
    ∙ other_second f.bytes f.start t h at (joined rest)
other_joins (f ∷ g ∷ fs) l t h at rest = absurd (omega arith)

-- and the end too
end_joins : (fs : List Literal) → length (map shown fs) ≤ 1
    → joined (map shown fs ++ []) ≡ map shown fs
end_joins [] l = refl
end_joins (f ∷ []) l = refl
end_joins (f ∷ g ∷ fs) l = absurd (omega arith)

one_string : (b : Bool) (bytes : List ℕ) (at : Start) (xs : Toks) → length xs ≤ 1
    → length (cond b (with_string bytes at xs) xs) ≤ 1
one_string true bytes at [] l = omega arith
one_string true bytes at (x ∷ xs) l =
    let same = length-map (x ∷ xs) (appended bytes) in omega (arith, same, l)
one_string false bytes at xs l = l

one_other : (b : Bool) (xs : Toks) → length xs ≤ 1 → length (cond b [] xs) ≤ 1
one_other true xs l = omega arith
one_other false xs l = l

and_true : (x y : Bool) → y ≡ true → (x && y) ≡ x
and_true true y e = e
and_true false y e = refl

and_false : (x y : Bool) → (x && y) ≡ false → y ≡ true → x ≡ false
and_false true y e h = sym h ∙ e
and_false false y e h = refl

------ other words for one state

pub joining_kept : {old new : Diagram} → Keeps old new → (good : Cond) (tokens : List Bool → Toks)
    (out : List StreamTok) (literals : List Literal) → IsJoining old good tokens out literals
    → IsJoining new good tokens out literals
joining_kept {old} {new} keeps good tokens out literals i =
    record {
      good_node = keeps.stays good i.good_node;
      out_nodes = out_kept keeps out i.out_nodes;
      nodes = nodes_kept keeps literals i.nodes;
      one = λ v. subst (λ (xs : Toks). length xs ≤ 1) (sym (open_kept keeps literals i.nodes v))
          (i.one v);
      joins = λ v h rest.
          i.joins v (sym (keeps.meaning good i.good_node v) ∙ h) rest
          ∙ (ap (λ (xs : Toks). xs ++ joined (open_in old literals v ++ rest))
          (sym (stream_kept keeps out i.out_nodes v))
          ∙ ap (λ (xs : Toks). stream_in new out v ++ joined (xs ++ rest))
          (sym (open_kept keeps literals i.nodes v)));
    }

pub joining_same : (d : Diagram) (good : Cond) (tokens others : List Bool → Toks)
    (out : List StreamTok) (literals : List Literal)
    → ((v : List Bool) → others v ≡ tokens v) → IsJoining d good tokens out literals
    → IsJoining d good others out literals
joining_same d good tokens others out literals same i =
    record {
      good_node = i.good_node;
      out_nodes = i.out_nodes;
      nodes = i.nodes;
      one = i.one;
      joins = λ v h rest. ap (λ (xs : Toks). joined (xs ++ rest)) (same v) ∙ i.joins v h rest;
    }

pub joining_start : (d : Diagram) (good : Cond) (out : List StreamTok) (literals : List Literal)
    → IsNode d good → out ≡ [] → literals ≡ [] → IsJoining d good (λ v. []) out literals
joining_start d good out literals node e f =
    rw (e, f) (record {
      good_node = node;
      out_nodes = λ k x l. absurd (omega arith);
      nodes = nodes_none d;
      one = λ v. omega arith;
      joins = λ v h rest. refl;
    })

------ one token

module _ (old : Diagram) (good given : Cond) (tokens : List Bool → Toks) (out : List StreamTok)
    (literals : List Literal) (i : IsJoining old good tokens out literals) (t : CTok) (at : Start) where
  -- a token that isn't there in any of the configurations
  pub joining_skipped : (new : Diagram) → Keeps old new → (mine : Cond)
      → ((v : List Bool) → holds new mine v ≡ (holds old given v && holds old good v))
      → ((v : List Bool) → holds new mine v ≡ false)
      → IsJoining new good (λ v. tokens v ++ cond (holds old given v) ((t, at) ∷ []) []) out literals
  joining_skipped new keeps mine meaning never =
      let k = joining_kept keeps good tokens out literals i in
      record {
        good_node = k.good_node;
        out_nodes = k.out_nodes;
        nodes = k.nodes;
        one = k.one;
        joins = λ v h rest.
            let outside : holds old given v ≡ false =
            and_false (holds old given v) (holds old good v) (sym (meaning v) ∙ never v)
            (sym (keeps.meaning good i.good_node v) ∙ h) in
            ap (λ (b : Bool). joined ((tokens v ++ cond b ((t, at) ∷ []) []) ++ rest)) outside
            ∙ (ap (λ (xs : Toks). joined (xs ++ rest)) (append-nil (tokens v)) ∙ k.joins v h rest);
      }

  module _ (mid new : Diagram) (first : Keeps old mid) (second : Keeps mid new) (mine : Cond)
      (meaning : (v : List Bool) → holds mid mine v ≡ (holds old given v && holds old good v))
      (after : List Literal) (nodes : AreNodes new after) where
    was_good : (v : List Bool) → holds new good v ≡ true → holds old good v ≡ true
    was_good v h = sym (first.meaning good i.good_node v)
        ∙ (sym (second.meaning good (first.stays good i.good_node) v) ∙ h)

    same_part : (v : List Bool) → holds new good v ≡ true → holds mid mine v ≡ holds old given v
    same_part v h = meaning v ∙ and_true (holds old given v) (holds old good v) (was_good v h)

    -- what is read so far, and what follows
    so_far : (v : List Bool) → holds new good v ≡ true → (rest : Toks)
        → joined ((tokens v ++ cond (holds old given v) ((t, at) ∷ []) []) ++ rest)
        ≡ stream_in old out v
        ++ joined (open_in old literals v ++ (cond (holds old given v) ((t, at) ∷ []) [] ++ rest))
    so_far v h rest =
        ap joined (append_assoc (tokens v) (cond (holds old given v) ((t, at) ∷ []) []) rest)
        ∙ i.joins v (was_good v h) (cond (holds old given v) ((t, at) ∷ []) [] ++ rest)

    pub joining_string : (bytes : List ℕ) → t ≡ Str bytes
        → ((v : List Bool) → open_in new after v
        ≡ cond (holds mid mine v) (with_string bytes at (open_in mid literals v))
        (open_in mid literals v))
        → IsJoining new good (λ v. tokens v ++ cond (holds old given v) ((t, at) ∷ []) []) out after
    joining_string bytes is_string shows =
        record {
          good_node = second.stays good (first.stays good i.good_node);
          out_nodes = out_kept second out (out_kept first out i.out_nodes);
          nodes = nodes;
          one = λ v. subst (λ (xs : Toks). length xs ≤ 1) (sym (is_open v))
              (one_string (holds mid mine v) bytes at (open_in old literals v) (i.one v));
          joins = λ v h rest.
              so_far v h rest
              ∙ (ap (λ (xs : Toks). stream_in old out v ++ xs)
              (step v rest (holds old given v))
              ∙ (ap (λ (b : Bool). stream_in old out v
              ++ joined (cond b (with_string bytes at (open_in old literals v))
              (open_in old literals v) ++ rest)) (sym (same_part v h))
              ∙ (ap (λ (xs : Toks). stream_in old out v ++ joined (xs ++ rest)) (sym (is_open v))
              ∙ ap (λ (xs : Toks). xs ++ joined (open_in new after v ++ rest))
              (sym (stream_kept second out (out_kept first out i.out_nodes) v
              ∙ stream_kept first out i.out_nodes v)))));
        }
      where
        is_open : (v : List Bool) → open_in new after v
            ≡ cond (holds mid mine v) (with_string bytes at (open_in old literals v))
            (open_in old literals v)
        is_open v = shows v ∙ ap (λ (xs : Toks). cond (holds mid mine v) (with_string bytes at xs) xs)
            (open_kept first literals i.nodes v)

        step : (v : List Bool) (rest : Toks) (b : Bool)
            → joined (open_in old literals v ++ (cond b ((t, at) ∷ []) [] ++ rest))
            ≡ joined (cond b (with_string bytes at (open_in old literals v)) (open_in old literals v)
            ++ rest)
        step v rest true =
            ap (λ (x : CTok). joined (open_in old literals v ++ (x, at) ∷ rest)) is_string
            ∙ string_joins (filter (λ (l : Literal). holds old l.cond v) literals) (i.one v) bytes at
            rest
        step v rest false = refl

    pub joining_other : (written : List StreamTok) → IsOther t
        → All (λ (x : StreamTok). IsNode new x.cond) written
        → ((v : List Bool) → open_in new after v
        ≡ cond (holds mid mine v) [] (open_in mid literals v))
        → ((v : List Bool) → stream_in new written v
        ≡ stream_in mid out v ++ cond (holds mid mine v) (open_in mid literals v ++ (t, at) ∷ []) [])
        → IsJoining new good (λ v. tokens v ++ cond (holds old given v) ((t, at) ∷ []) []) written
        after
    joining_other written other out_nodes shows writes =
        record {
          good_node = second.stays good (first.stays good i.good_node);
          out_nodes = out_nodes;
          nodes = nodes;
          one = λ v. subst (λ (xs : Toks). length xs ≤ 1) (sym (is_open v))
              (one_other (holds mid mine v) (open_in old literals v) (i.one v));
          joins = λ v h rest.
              so_far v h rest
              ∙ (step v rest (holds old given v)
              ∙ (ap (λ (b : Bool). (stream_in old out v
              ++ cond b (open_in old literals v ++ (t, at) ∷ []) [])
              ++ joined (cond b [] (open_in old literals v) ++ rest)) (sym (same_part v h))
              ∙ (ap (λ (xs : Toks). (stream_in old out v
              ++ cond (holds mid mine v) (open_in old literals v ++ (t, at) ∷ []) [])
              ++ joined (xs ++ rest)) (sym (is_open v))
              ∙ ap (λ (xs : Toks). xs ++ joined (open_in new after v ++ rest)) (sym (is_written v)))));
        }
      where
        is_open : (v : List Bool) → open_in new after v
            ≡ cond (holds mid mine v) [] (open_in old literals v)
        is_open v = shows v ∙ ap (λ (xs : Toks). cond (holds mid mine v) [] xs)
            (open_kept first literals i.nodes v)

        is_written : (v : List Bool) → stream_in new written v
            ≡ stream_in old out v
            ++ cond (holds mid mine v) (open_in old literals v ++ (t, at) ∷ []) []
        is_written v = writes v
            ∙ (ap (λ (xs : Toks).
            xs ++ cond (holds mid mine v) (open_in mid literals v ++ (t, at) ∷ []) [])
            (stream_kept first out i.out_nodes v)
            ∙ ap (λ (xs : Toks).
            stream_in old out v ++ cond (holds mid mine v) (xs ++ (t, at) ∷ []) [])
            (open_kept first literals i.nodes v))

        step : (v : List Bool) (rest : Toks) (b : Bool)
            → stream_in old out v
            ++ joined (open_in old literals v ++ (cond b ((t, at) ∷ []) [] ++ rest))
            ≡ (stream_in old out v ++ cond b (open_in old literals v ++ (t, at) ∷ []) [])
            ++ joined (cond b [] (open_in old literals v) ++ rest)
        step v rest true =
            ap (λ (xs : Toks). stream_in old out v ++ xs)
            (other_joins (filter (λ (l : Literal). holds old l.cond v) literals) (i.one v) t other at
            rest)
            ∙ sym (append_assoc (stream_in old out v) (open_in old literals v ++ (t, at) ∷ [])
            (joined rest))
        step v rest false = ap (λ (xs : Toks). xs ++ joined (open_in old literals v ++ rest))
            (sym (append-nil (stream_in old out v)))

------ all tokens

-- the tokens of a stream, one after another
pub joining_next : (old store new : Diagram) → Keeps old store → (good : Cond)
    (done : List StreamTok) (t : StreamTok) (out : List StreamTok) (after : List Literal)
    → IsNode old t.cond
    → IsJoining new good (λ v. stream_in old done v
    ++ cond (holds store t.cond v) ((t.tok, t.start) ∷ []) []) out after
    → IsJoining new good (λ v. stream_in old (done ++ t ∷ []) v) out after
joining_next old store new keeps good done t out after node i =
    joining_same new good
    (λ v. stream_in old done v ++ cond (holds store t.cond v) ((t.tok, t.start) ∷ []) [])
    (λ v. stream_in old (done ++ t ∷ []) v) out after
    (λ v. stream_push old done t v
    ∙ ap (λ (b : Bool). stream_in old done v ++ cond b ((t.tok, t.start) ∷ []) [])
    (sym (keeps.meaning t.cond node v))) i

-- the literals that are open at the end are written
pub joining_end : {old mid new : Diagram} → Keeps old mid → Keeps mid new → (good : Cond)
    (stream out written : List StreamTok) (literals after : List Literal)
    → IsJoining mid good (λ v. stream_in old stream v) out literals
    → WritesOut mid new good literals [] after out written
    → (v : List Bool) → holds new good v ≡ true
    → stream_in new written v ≡ joined (stream_in old stream v)
joining_end {old} {mid} {new} first second good stream out written literals after i writes v h =
    let is_good : holds mid good v ≡ true = sym (second.meaning good i.good_node v) ∙ h in
    writes.writes v
    ∙ (ap (λ (b : Bool). stream_in mid out v ++ cond b (open_in mid literals v) []) is_good
    ∙ (ap (λ (xs : Toks). stream_in mid out v ++ xs)
    (sym (end_joins (filter (λ (l : Literal). holds mid l.cond v) literals) (i.one v)))
    ∙ (sym (i.joins v is_good [])
    ∙ ap joined (append-nil (stream_in old stream v)))))

-- a token of another kind
pub is_other : (t : CTok) → ((bytes : List ℕ) → t ≡ Str bytes → ⊥) → IsOther t
is_other (Str bytes) h = h bytes refl
is_other (Keyword word) h = tt
is_other (Name name) h = tt
is_other (Int value kind) h = tt
is_other (Char value) h = tt
is_other (Punct sign) h = tt

-- where a call succeeds, of what it says
pub if_ok_both : {T E : Type 0} (r : Result T E) (P Q R : T → Type 0)
    → ((x : T) → P x → Q x → R x) → IfOk r P → IfOk r Q → IfOk r R
if_ok_both (Ok x) P Q R f p q = f x p q
if_ok_both (Err e) P Q R f p q = tt

pub if_ok_four : {T E : Type 0} (r : Result T E) (P Q R S U : T → Type 0)
    → ((x : T) → P x → Q x → R x → S x → U x) → IfOk r P → IfOk r Q → IfOk r R → IfOk r S
    → IfOk r U
if_ok_four (Ok x) P Q R S U f p q r s = f x p q r s
if_ok_four (Err e) P Q R S U f p q r s = tt
