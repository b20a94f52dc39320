-- Laws of what a configuration keeps of a stream, of macro states, and of how an answer divides the
-- configurations, for proofs above.
use Rattle.std.specs.Prelude.{◌≡◌, ℕ, Bool, true, false, cond, List, [], ◌∷◌, ◌++◌, map, filter, if◌then◌else◌, refl}
use Rattle.std.specs.List.{All}
use Rattle.std.specs.Str.{bytes_eq}
use Rattle.std.proofs.Common.{ap, sym, ◌∙◌}
use Rattle.std.proofs.lemmas.List.{map-append}
use Rattle.std.proofs.lemmas.List.Elements.{All-cons, All-head, All-nil, All-tail}
use Rattle.hv_cond.specs.declared.conditions.Cond.{Cond}
use Rattle.hv_cond.specs.Diagram.{Diagram, IsNever, IsNode, Keeps, holds}
use Rattle.hv_cond.specs.Laws.{AllNodes-kept, NoneFalse-kept, count_satisfied-kept}
use Rattle.hv_cond.specs.Parts.{IsPartition}
use Rattle.hv_toks.specs.declared.parted.Failing.{Failing}
use Rattle.hv_toks.specs.Division.{AreDistinct, Divides, conditions}
use Rattle.hv_toks.specs.declared.stream.StreamTok.{StreamTok}
use Rattle.hv_toks.specs.Macro.{Macro}
use Rattle.hv_toks.specs.MacroState.{Entry, meaning_after, meaning_of}
use Rattle.hv_toks.specs.Stream.{KeptTok, kept, projected, unconditional}

------ kept, projected

-- what is kept of a stream that another follows
pub kept-append : (diagram : Diagram) (values : List Bool) (a b : List StreamTok)
    → kept diagram values (a ++ b) ≡ kept diagram values a ++ kept diagram values b
kept-append diagram values [] b = refl
kept-append diagram values (x ∷ a) b =
    elim (holds diagram x.cond values) as
    (λ t. map unconditional (cond t (x ∷ filter (λ token. holds diagram token.cond values)
    (a ++ b)) (filter (λ token. holds diagram token.cond values) (a ++ b)))
    ≡ map unconditional (cond t (x ∷ filter (λ token. holds diagram token.cond values) a)
    (filter (λ token. holds diagram token.cond values) a)) ++ kept diagram values b) [
      | true ↦ ap (λ kept_toks. unconditional x ∷ kept_toks) (kept-append diagram values a b)
      | false ↦ kept-append diagram values a b
    ]

-- the same without starts
pub projected-append : (diagram : Diagram) (values : List Bool) (a b : List StreamTok)
    → projected diagram values (a ++ b) ≡ projected diagram values a ++ projected diagram values b
projected-append diagram values a b =
    ap (map (λ (token : KeptTok). token.tok)) (kept-append diagram values a b)
    ∙ map-append (λ (token : KeptTok). token.tok) (kept diagram values a) (kept diagram values b)

-- one more token
pub kept-add : (diagram : Diagram) (values : List Bool) (stream : List StreamTok)
    (token : StreamTok)
    → kept diagram values (stream ++ token ∷ []) ≡ kept diagram values stream ++
    (if holds diagram token.cond values then unconditional token ∷ [] else [])
kept-add diagram values stream token =
    kept-append diagram values stream (token ∷ [])
    ∙ ap (λ more. kept diagram values stream ++ more) (one (holds diagram token.cond values))
  where
    one : (t : Bool) → map unconditional (cond t (token ∷ []) []) ≡
        (if t then unconditional token ∷ [] else [])
    one true = refl
    one false = refl

-- a store that grows keeps what a configuration keeps
pub kept-Keeps : {old new : Diagram} → Keeps old new
    → (values : List Bool) (stream : List StreamTok)
    → All (λ token. IsNode old token.cond) stream → kept new values stream ≡ kept old values stream
kept-Keeps keeps values [] nodes = refl
kept-Keeps {old} {new} keeps values (x ∷ stream) nodes =
    let same = kept-Keeps keeps values stream
    (All-tail (λ token. IsNode old token.cond) x stream nodes) in
    rw (keeps.meaning x.cond (All-head (λ token. IsNode old token.cond) x stream nodes) values)
    (elim (holds old x.cond values) as
    (λ t. map unconditional (cond t (x ∷ filter (λ token. holds new token.cond values) stream)
    (filter (λ token. holds new token.cond values) stream))
    ≡ map unconditional (cond t (x ∷ filter (λ token. holds old token.cond values) stream)
    (filter (λ token. holds old token.cond values) stream))) [
      | true ↦ ap (λ kept_toks. unconditional x ∷ kept_toks) same
      | false ↦ same
    ])

-- the same without starts
pub projected-Keeps : {old new : Diagram} → Keeps old new
    → (values : List Bool) (stream : List StreamTok)
    → All (λ token. IsNode old token.cond) stream
    → projected new values stream ≡ projected old values stream
projected-Keeps keeps values stream nodes =
    ap (map (λ (token : KeptTok). token.tok)) (kept-Keeps keeps values stream nodes)

-- and its conditions stay conditions
pub nodes-Keeps : {old new : Diagram} → Keeps old new → (stream : List StreamTok)
    → All (λ token. IsNode old token.cond) stream → All (λ token. IsNode new token.cond) stream
nodes-Keeps {new = new} keeps [] nodes = All-nil (λ token. IsNode new token.cond)
nodes-Keeps {old} {new} keeps (x ∷ stream) nodes =
    All-cons (λ token. IsNode new token.cond) x stream
    (keeps.stays x.cond (All-head (λ token. IsNode old token.cond) x stream nodes))
    (nodes-Keeps keeps stream (All-tail (λ token. IsNode old token.cond) x stream nodes))

------ meaning_of

-- entries after entries
pub meaning_after-append : (before : Macro) (xs ys : List Entry) (name : List ℕ)
    → meaning_after before (xs ++ ys) name ≡ meaning_after (meaning_after before xs name) ys name
meaning_after-append before [] ys name = refl
meaning_after-append before (x ∷ xs) ys name =
    meaning_after-append (if bytes_eq x.name name then x.macro else before) xs ys name

-- a further entry gives its name its macro, and leaves each other name what it was
pub meaning_of-add : (entries : List Entry) (entry : Entry) (name : List ℕ)
    → meaning_of (entries ++ entry ∷ []) name ≡
    (if bytes_eq entry.name name then entry.macro else meaning_of entries name)
meaning_of-add entries entry name = meaning_after-append _ entries (entry ∷ []) name

------ Divides

-- a store that grows keeps how an answer divides the configurations
pub Divides-kept : {old new : Diagram} → Keeps old new → (valid good : Cond)
    (failing : List Failing) → IsNode old valid → Divides old valid good failing
    → Divides new valid good failing
Divides-kept {old} {new} keeps valid good failing node h =
    record {
      nodes = AllNodes-kept keeps (good ∷ conditions failing) h.nodes;
      none_false = NoneFalse-kept keeps (conditions failing) h.nodes.1 h.none_false;
      one = λ values. count_satisfied-kept keeps (good ∷ conditions failing) h.nodes values
          ∙ (h.one values ∙ ap (λ (x : Bool). cond x 1 0) (sym (keeps.meaning valid node values)));
      distinct = h.distinct;
    }

-- an answer without failing configurations, and with some, divides them as the parts of a condition
-- do
pub Divides-partition : (diagram : Diagram) (valid good : Cond) (failing : List Failing)
    → Divides diagram valid good failing → (¬ IsNever diagram good)
    → IsPartition diagram valid (good ∷ conditions failing)
Divides-partition diagram valid good failing h possible =
    record { nodes = h.nodes; none_false = (possible, h.none_false); one = h.one }

-- and back
pub Divides-from_partition : (diagram : Diagram) (valid good : Cond) (failing : List Failing)
    → IsPartition diagram valid (good ∷ conditions failing) → AreDistinct failing
    → Divides diagram valid good failing
Divides-from_partition diagram valid good failing p distinct =
    record { nodes = p.nodes; none_false = p.none_false.1; one = p.one; distinct = distinct }
