use Rattle.std.proofs.Common.{◌≡◌, ◌↔◌, false, IfOk, IsTrue, sym, subst}
use Rattle.hv_cond.specs.declared.connectives.Connective.TheVariants.{And}
use Rattle.hv_cond.specs.Diagram.{AreDisjoint, Diagram, IsNode, Meet}
use Rattle.hv_cond.specs.working.Nodes.{newest_first}
use Rattle.hv_cond.proofs.Meeting.{told_ok}
use Rattle.hv_cond.proofs.Seen.{IsNode-in}
use Rattle.hv_cond.proofs.Sound.{AreAnswers-fewer}
use Rattle.hv_cond.proofs.stores.Store.meets.Goals as goal

pub meet-requires-clause-first : goal.meet-requires-clause-first
meet-requires-clause-first c =
    let s = c.self.inside in
    IsNode-in s.order s.nodes c.args.a (subst (λ (d : Diagram). IsNode d c.args.a) (sym c.self.view_is) c.requires.first)

pub meet-requires-clause-second : goal.meet-requires-clause-second
meet-requires-clause-second c =
    let s = c.self.inside in
    IsNode-in s.order s.nodes c.args.b (subst (λ (d : Diagram). IsNode d c.args.b) (sym c.self.view_is) c.requires.second)

pub meet-requires-clause-answers : goal.meet-requires-clause-answers
meet-requires-clause-answers c =
    let s = c.self.inside in
    AreAnswers-fewer And (newest_first s.nodes) s.conjunctions c.trim.new.self c.trim.ensures c.self.invariant.conjunctions_right

pub invariant_of-self : goal.invariant_of-self
invariant_of-self c =
    let i = c.self.invariant in
    record {
      ordered = i.ordered;
      reduced = i.reduced;
      conjunctions_right = c.meet.ensures.answers;
      disjunctions_right = i.disjunctions_right;
      complements_right = i.complements_right;
    }

pub returns-clause-together : goal.returns-clause-together
returns-clause-together c =
    let s = c.self.inside in
    let i = c.self.invariant in
    let first = subst (λ (d : Diagram). IsNode d c.args.a) (sym c.self.view_is) c.requires.first in
    let second = subst (λ (d : Diagram). IsNode d c.args.b) (sym c.self.view_is) c.requires.second in
    subst (λ (d : Diagram). IfOk c.meet.result (λ met. IsTrue met ↔ Meet d c.args.a c.args.b)) c.self.view_is
    (told_ok s.order s.nodes i.ordered i.reduced c.args.a c.args.b c.meet.result first second c.meet.ensures.met).0

pub returns-clause-apart : goal.returns-clause-apart
returns-clause-apart c =
    let s = c.self.inside in
    let i = c.self.invariant in
    let first = subst (λ (d : Diagram). IsNode d c.args.a) (sym c.self.view_is) c.requires.first in
    let second = subst (λ (d : Diagram). IsNode d c.args.b) (sym c.self.view_is) c.requires.second in
    subst (λ (d : Diagram). IfOk c.meet.result (λ met. (met ≡ false) ↔ AreDisjoint d c.args.a c.args.b)) c.self.view_is
    (told_ok s.order s.nodes i.ordered i.reduced c.args.a c.args.b c.meet.result first second c.meet.ensures.met).1
