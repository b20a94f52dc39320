use Rattle.std.proofs.Common.{ap, subst, sym}
use Rattle.std.specs.Prelude.{IfErr, OnOk}
use Rattle.hv_directives.specs.Values.{conditional_of}
use Rattle.hv_plainpp.specs.Directives.{Conditional}
use Rattle.hv_preproc.proofs.Answering.{GroupReads, GroupStops, GroupsFollow}
use Rattle.hv_preproc.specs.working.Faults.{IfStops}
use Rattle.hv_preproc.proofs.open_file.OpenFile.regroup.Goals as goal

pub returns-in-If-clause-read : goal.returns-in-If-clause-read
returns-in-If-clause-read c =
    subst (λ (d : Conditional). OnOk c.begin_group.result (GroupReads c.args.store.now
    c.begin_group.new.store c.args.unit.now c.begin_group.new.unit c.args.self.now.origin
    c.args.self.now.groups c.args.hash.now d)) (sym (ap conditional_of c.in-If.is))
    c.begin_group.ensures.read

pub returns-in-If-clause-regrouped : goal.returns-in-If-clause-regrouped
returns-in-If-clause-regrouped c =
    subst (λ (d : Conditional). OnOk c.begin_group.result (GroupsFollow c.args.store.now
    c.begin_group.new.store c.args.self.now.groups c.begin_group.new.self.groups
    c.begin_group.new.unit.live
    c.args.unit.now.table c.args.self.now.origin c.args.hash.now d))
    (sym (ap conditional_of c.in-If.is)) c.begin_group.ensures.regrouped

pub returns-in-If-clause-stops : goal.returns-in-If-clause-stops
returns-in-If-clause-stops c =
    subst (λ (d : Conditional). IfErr c.begin_group.result (IfStops (λ place conds.
    GroupStops c.args.store.now c.begin_group.new.store c.args.unit.now c.args.self.now.origin
    c.args.self.now.groups c.args.hash.now d place conds)))
    (sym (ap conditional_of c.in-If.is)) c.begin_group.ensures.stops

pub returns-in-Elif-clause-read : goal.returns-in-Elif-clause-read
returns-in-Elif-clause-read c =
    subst (λ (d : Conditional). OnOk c.go_on.result (GroupReads c.args.store.now
    c.go_on.new.store c.args.unit.now c.go_on.new.unit c.args.self.now.origin
    c.args.self.now.groups c.args.hash.now d)) (sym (ap conditional_of c.in-Elif.is))
    c.go_on.ensures.read

pub returns-in-Elif-clause-regrouped : goal.returns-in-Elif-clause-regrouped
returns-in-Elif-clause-regrouped c =
    subst (λ (d : Conditional). OnOk c.go_on.result (GroupsFollow c.args.store.now
    c.go_on.new.store c.args.self.now.groups c.go_on.new.self.groups c.go_on.new.unit.live
    c.args.unit.now.table c.args.self.now.origin c.args.hash.now d))
    (sym (ap conditional_of c.in-Elif.is)) c.go_on.ensures.regrouped

pub returns-in-Elif-clause-stops : goal.returns-in-Elif-clause-stops
returns-in-Elif-clause-stops c =
    subst (λ (d : Conditional). IfErr c.go_on.result (IfStops (λ place conds.
    GroupStops c.args.store.now c.go_on.new.store c.args.unit.now c.args.self.now.origin
    c.args.self.now.groups c.args.hash.now d place conds)))
    (sym (ap conditional_of c.in-Elif.is)) c.go_on.ensures.stops

pub returns-in_ok-go_on_at_else-in-Else-clause-read : goal.returns-in_ok-go_on_at_else-in-Else-clause-read
returns-in_ok-go_on_at_else-in-Else-clause-read c =
    subst (λ (d : Conditional). GroupReads c.args.store.now c.go_on_at_else.new.store
    c.args.unit.now
    c.go_on_at_else.new.unit c.args.self.now.origin c.args.self.now.groups c.args.hash.now d)
    (sym (ap conditional_of c.in-Else.is)) c.in_ok-go_on_at_else-in-Else.ensures.read

pub returns-in_ok-go_on_at_else-in-Else-clause-regrouped : goal.returns-in_ok-go_on_at_else-in-Else-clause-regrouped
returns-in_ok-go_on_at_else-in-Else-clause-regrouped c =
    subst (λ (d : Conditional). GroupsFollow c.args.store.now c.go_on_at_else.new.store
    c.args.self.now.groups c.go_on_at_else.new.self.groups c.go_on_at_else.new.unit.live
    c.args.unit.now.table
    c.args.self.now.origin c.args.hash.now d) (sym (ap conditional_of c.in-Else.is))
    c.in_ok-go_on_at_else-in-Else.ensures.regrouped

pub returns-in_ok-end_group-in-Endif-clause-read : goal.returns-in_ok-end_group-in-Endif-clause-read
returns-in_ok-end_group-in-Endif-clause-read c =
    subst (λ (d : Conditional). GroupReads c.args.store.now c.end_group.new.store c.args.unit.now
    c.end_group.new.unit c.args.self.now.origin c.args.self.now.groups c.args.hash.now d)
    (sym (ap conditional_of c.in-Endif.is)) c.in_ok-end_group-in-Endif.ensures.read

pub returns-in_ok-end_group-in-Endif-clause-regrouped : goal.returns-in_ok-end_group-in-Endif-clause-regrouped
returns-in_ok-end_group-in-Endif-clause-regrouped c =
    subst (λ (d : Conditional). GroupsFollow c.args.store.now c.end_group.new.store
    c.args.self.now.groups c.end_group.new.self.groups c.end_group.new.unit.live
    c.args.unit.now.table
    c.args.self.now.origin c.args.hash.now d) (sym (ap conditional_of c.in-Endif.is))
    c.in_ok-end_group-in-Endif.ensures.regrouped
