use Rattle.std.proofs.Common.{◌+◌, refl}
use Rattle.hv_expand_bench.proofs.FamilyLemmas.{family_defined, family_grown, family_same}
use Rattle.hv_expand_bench.proofs.family.Family.define.Goals as goal
use Rattle.hv_macros.specs.Laws.{IsTableOf-kept}

pub returns-in_err-cond : goal.returns-in_err-cond
returns-in_err-cond c =
    family_grown c.args.self.now c.all_of.new.store c.requires c.all_of.ensures.keeps

pub define-requires-clause-nodes : goal.define-requires-clause-nodes
define-requires-clause-nodes c =
    IsTableOf-kept c.all_of.ensures.keeps c.args.self.now.table c.requires.table

pub returns-in_err-define : goal.returns-in_err-define
returns-in_err-define c =
    family_same c.args.self.now c.all_of.new.store c.define.new.store c.define.new.self
    c.as_bytes.result.now (record { stack = c.new.result; file = 0; offset = c.args.self.now.next })
    c.in_ok-body.body.value
    c.requires c.all_of.ensures.keeps c.define.ensures.keeps c.define.ensures.nodes
    c.define.ensures.one_body c.in_err-define.ensures.unchanged refl refl

pub returns : goal.returns
returns c =
    family_defined c.args.self.now c.all_of.new.store c.define.new.store c.define.new.self
    c.as_bytes.result.now c.in_ok-cond.cond
    (record { stack = c.new.result; file = 0; offset = c.args.self.now.next })
    c.in_ok-body.body.value (c.args.self.now.next + 1)
    c.requires c.all_of.ensures.keeps c.define.ensures.keeps c.define.ensures.nodes
    c.define.ensures.one_body c.in_ok-define.ensures.defined refl refl refl
