-- The tables of the control are those of the pure machine.
use Rattle.std.proofs.Common.{◌≡◌, ℕ, suc, Bool, true, false, cond, List, [], ◌∷◌, refl, ap, ◌∙◌}
use Rattle.hv_ctree.specs.tree.Expressions.{Expr, Pointers, no_pointers, then_pointer}
use Rattle.hv_grammar.specs.Expressions.{stars}
use Rattle.hv_grammar.specs.machine.Parts as plain_parts
use Rattle.hv_grammar.specs.machine.Frames as plain
use Rattle.hv_grammar.specs.machine.Steps as plain_steps
use Rattle.hv_cparse.specs.Control.{count, part_of, frame_of, frames_of}
use Rattle.hv_cparse.specs.working.Parts.{wanted}
use Rattle.hv_cparse.specs.working.Tables.{many, hole, hole_of, made, weigh, depth, types, role_of, ends, reduce}
use Rattle.hv_cparse.specs.working.Seen.{role_in, reduced_in}

pub both : {X Y : Type 0} (h : X → Y) (b c : Bool) (x y : X) (u v : Y) → b ≡ c → h x ≡ u → h y ≡ v
    → h (cond b x y) ≡ cond c u v
both h true true x y u v e p q = p
both h false false x y u v e p q = q
both h true false x y u v e p q = absurd (cc)
both h false true x y u v e p q = absurd (cc)

pub stars_seen : (ps : Pointers) (d : ℕ) → stars ps d ≡ many (count ps) d
stars_seen no_pointers d = refl
stars_seen (then_pointer ps p qs) d = ap suc (stars_seen ps d)

pub weigh_seen : (f : plain.Frame) (d : ℕ) → plain.weigh f d ≡ weigh (frame_of f) d
weigh_seen (plain.Group m p ps q) d = ap suc (stars_seen ps d)
weigh_seen (plain.Length m p ps c ss q qs) d = ap suc (stars_seen ps d)
weigh_seen (plain.Parameters m p ps c ss q r xs) d = ap suc (stars_seen ps d)
weigh_seen _ d = refl

pub depth_seen : (stack : List plain.Frame) → plain.depth stack ≡ depth (frames_of stack)
depth_seen [] = refl
depth_seen (f ∷ stack) =
    weigh_seen f (plain.depth stack) ∙ ap (weigh (frame_of f)) (depth_seen stack)

pub within_seen : (stack : List plain.Frame)
    → role_in (plain.within stack) ≡ role_of (types (frames_of stack))
within_seen [] = refl
within_seen (plain.SizeofType p ∷ stack) = refl
within_seen (plain.CastType p ∷ stack) = refl
within_seen (_ ∷ stack) = within_seen stack

wanted_seen : (c : plain_parts.Part) → plain_parts.wanted c ≡ wanted (part_of c)
wanted_seen (plain_parts.of_case p) = refl
wanted_seen _ = refl

hole_seen : (f : plain.Frame) → plain.hole f ≡ hole (frame_of f)
hole_seen (plain.Parenthesis p) = refl
hole_seen (plain.Statement s c) = wanted_seen c
hole_seen _ = refl

pub hole_of_seen : (stack : List plain.Frame) → plain.hole_of stack ≡ hole_of (frames_of stack)
hole_of_seen [] = refl
hole_of_seen (f ∷ stack) = hole_seen f

made_seen : (f : plain.Frame) → plain.made f ≡ made (frame_of f)
made_seen (plain.Parenthesis p) = refl
made_seen _ = refl

ends_seen : (k : ℕ) (f : plain.Frame) → plain_steps.ends k f ≡ ends k (frame_of f)
ends_seen k (plain.Parenthesis p) = refl
ends_seen k _ = refl

pub reduce_seen : (k : ℕ) (stack : List plain.Frame) (l : ℕ) (a : Expr)
    → reduced_in (plain_steps.reduce k stack l a) ≡ reduce k (frames_of stack) l
reduce_seen k [] l a = refl
reduce_seen k (f ∷ stack) l a =
    both reduced_in (plain_steps.ends k f) (ends k (frame_of f)) _ _ _ _ (ends_seen k f)
    (reduce_seen k stack (plain.made f) (plain.plug f a)
    ∙ ap (λ (n : ℕ). reduce k (frames_of stack) n) (made_seen f)) refl
