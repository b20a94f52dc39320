use Rattle.std.proofs.lemmas.Result.{IfOk-weaker}
use Rattle.hv_preproc.proofs.ActionLemmas.{IsUnit-set, no_undef_reads, undef_reads}
use Rattle.hv_preproc.proofs.open_file.OpenFile.undef.Goals as goal

pub returns-in-Some-clause-unit : goal.returns-in-Some-clause-unit
returns-in-Some-clause-unit c = IfOk-weaker c.undef.result _ _
    (λ done sets. IsUnit-set c.args.store.now c.undef.new.store c.args.unit.now c.undef.new.self
    c.undef.ensures.keeps c.requires.unit c.undef.ensures.nodes
    (c.undef.ensures.one_body c.requires.unit.one_body)) c.undef.ensures.removed

pub returns-in-Some-clause-read : goal.returns-in-Some-clause-read
returns-in-Some-clause-read c = IfOk-weaker c.undef.result _ _
    (λ done sets here sound. undef_reads c.args.store.now c.undef.new.store c.args.unit.now
    c.undef.new.self c.args.cond c.undef.ensures.keeps here c.args.hash.now c.in-Some.name.now
    c.args.line.now c.in-Some.ensures.meaning sets
    (IsUnit-set c.args.store.now c.undef.new.store c.args.unit.now c.undef.new.self
    c.undef.ensures.keeps c.requires.unit c.undef.ensures.nodes
    (c.undef.ensures.one_body c.requires.unit.one_body)) sound) c.undef.ensures.removed

pub returns-in-None-clause-read : goal.returns-in-None-clause-read
returns-in-None-clause-read c = IfOk-weaker c.refuse.result _ _
    (λ done read here sound. no_undef_reads c.args.store.now c.refuse.new.store c.args.unit.now
    c.refuse.new.self here c.args.cond c.args.hash.now c.args.line.now c.in-None.ensures.meaning
    (read here sound)) c.refuse.ensures.read
