-- What the control shows of the pure machine.
use Rattle.std.specs.Prelude.{Option, Some, None}
use Rattle.hv_grammar.specs.Symbols as symbols
use Rattle.hv_grammar.specs.machine.Frames as plain
use Rattle.hv_grammar.specs.machine.Steps as plain_steps
use Rattle.hv_cparse.specs.declared.frame.Role.{Role}
use Rattle.hv_cparse.specs.declared.frame.Role.TheVariants.{Outside, Inside, Operator}
use Rattle.hv_cparse.specs.declared.class.Infix.{Infix}
use Rattle.hv_cparse.specs.declared.class.Infix.TheVariants.{Binary, Assignment, Question, Comma, Bracket, Parenthesis}
use Rattle.hv_cparse.specs.Control.{frames_of, frames_at, at_of}
use Rattle.hv_cparse.specs.working.Tables.{Reduced, reduced}
use Rattle.hv_cparse.specs.working.Steps.{Moved}

-- where a token stands
abbrev pub role_in : symbols.Role → Role
role_in symbols.outside = Outside
role_in symbols.inside = Inside
role_in symbols.operator = Operator

-- what was taken, without trees and places
abbrev pub seen : Option plain_steps.Taken → Option Moved
seen None = None
seen (Some k) = Some (record {
  frames = frames_at k.state.at k.state.stack;
  at = at_of k.state.at;
  mark = record { depth = k.depth; role = role_in k.role; late = k.late };
})

-- what is left once frames ended, without trees and places
abbrev pub reduced_in : plain_steps.Reduced → Reduced
reduced_in r = reduced (frames_of r.stack) r.level

-- what goes on after a left operand, by its level
abbrev pub infix_in : plain.Infix → Infix
infix_in (plain.by_operator op) = Binary (symbols.level op)
infix_in (plain.by_assignment op) = Assignment
infix_in plain.by_question = Question
infix_in plain.by_comma = Comma
infix_in plain.by_bracket = Bracket
infix_in plain.by_parenthesis = Parenthesis

-- the same, if anything does
abbrev pub infix_within : Option plain.Infix → Option Infix
infix_within None = None
infix_within (Some i) = Some (infix_in i)
