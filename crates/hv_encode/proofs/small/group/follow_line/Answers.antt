use Rattle.hv_encode.specs.working.Presence.{elses_of}
use Rattle.hv_encode.proofs.GroupsLemmas.{if_defined_nested, if_not_defined_nested}
use Rattle.hv_encode.proofs.small.group.follow_line.Goals as goal

pub returns-in-IfDefined-clause-nested : goal.returns-in-IfDefined-clause-nested
returns-in-IfDefined-clause-nested c =
    if_defined_nested c.open_first.result c.args.line c.in-IfDefined.option
    (elses_of c.args.open_groups.now) (elses_of c.open_first.new.open_groups)
    c.in-IfDefined.is c.open_first.ensures.nested

pub returns-in-IfNotDefined-clause-nested : goal.returns-in-IfNotDefined-clause-nested
returns-in-IfNotDefined-clause-nested c =
    if_not_defined_nested c.open_first-in-IfNotDefined.result c.args.line c.in-IfNotDefined.option
    (elses_of c.args.open_groups.now)
    (elses_of c.open_first-in-IfNotDefined.new.open_groups) c.in-IfNotDefined.is
    c.open_first-in-IfNotDefined.ensures.nested
