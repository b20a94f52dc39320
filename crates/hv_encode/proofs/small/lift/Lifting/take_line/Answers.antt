use Rattle.std.proofs.Common.{refl}
use Rattle.hv_encode.proofs.GroupsLemmas.{open_kept}
use Rattle.hv_encode.proofs.LiftingLemmas.{directive_each, put_taken}
use Rattle.hv_encode.proofs.small.lift.Lifting.take_line.Goals as goal

pub follow_line-requires-clause-open : goal.follow_line-requires-clause-open
follow_line-requires-clause-open c =
    open_kept c.args.store.now c.add_block.new.store c.args.self.now.open_groups
    c.in_ok-add_block.ensures.keeps c.requires.open

pub follow_line-requires-clause-option : goal.follow_line-requires-clause-option
follow_line-requires-clause-option c =
    rw c.in_ok-add_block.ensures.keeps.variables c.requires.option

pub follow_line-requires-clause-few : goal.follow_line-requires-clause-few
follow_line-requires-clause-few c = rw c.in_ok-add_block.ensures.keeps.variables c.requires.few

pub returns-in-Put-clause-goes : goal.returns-in-Put-clause-goes
returns-in-Put-clause-goes c = λ model all nested rest valid distinct at.
    put_taken model c.args.store.now all nested rest c.in-Put.byte c.args.self.now
    (record c.args.self.now { run = c.add.new.self }) refl refl
    c.in_ok-add.ensures.ok (rw c.in-Put.is at at)

pub returns-clause-goes : goal.returns-clause-goes
returns-clause-goes c =
    directive_each c.follow_line.result c.args.store.now c.follow_line.new.store c.args.valid
    c.args.line c.args.self.now
    (record {
      open_groups = c.follow_line.new.open_groups;
      run = c.new.result;
      blocks =
          c.add_block.new.blocks;
    }) c.in_default.not-Put
    c.in_ok-add_block.ensures.added c.new.ensures c.follow_line.ensures.open
    c.follow_line.ensures.after c.follow_line.ensures.nested
