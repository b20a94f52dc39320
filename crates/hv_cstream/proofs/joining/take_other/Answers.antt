use Rattle.hv_cstream.proofs.Literals.{out_pushed, takes_other}
use Rattle.hv_cstream.proofs.joining.take_other.Goals as goal

pub returns-clause-written : goal.returns-clause-written
returns-clause-written c =
    takes_other c.write_out_all.ensures.keeps c.args.literals c.in_ok-after.after c.args.out.now
    c.write_out_all.new.out c.add.new.self c.args.token c.requires.cond
    c.in_ok-after.ensures.written c.in_ok-add.ensures.ok

pub returns-clause-out_nodes : goal.returns-clause-out_nodes
returns-clause-out_nodes c =
    out_pushed _ c.write_out_all.new.out c.add.new.self c.args.token
    c.in_ok-after.ensures.written.out_nodes
    (c.write_out_all.ensures.keeps.stays c.args.token.cond c.requires.cond) c.in_ok-add.ensures.ok
