-- What the values of the code stand for: the definitions of `hv_plainpp` by the same names.
use Rattle.hv_plain.specs.gathering.Mentions.{Header}
use Rattle.hv_plainpp.specs.Definitions.{Definition}
use Rattle.hv_plainpp.specs.Directives.{Question, expression, is_macro, is_no_macro, Conditional, if_, elif, else_, endif, Action, include, define, undef, error, ignored, unknown, Directive, conditional, action}
use Rattle.hv_plainpp.specs.Lines.{Piece, text, directive}
use Rattle.hv_directives.specs.declared.definition.Definition.{Definition as Definition'}
use Rattle.hv_directives.specs.declared.directive.Action.{Action as Action'}
use Rattle.hv_directives.specs.declared.directive.Action.TheVariants as action'
use Rattle.hv_directives.specs.declared.directive.Conditional.{Conditional as Conditional'}
use Rattle.hv_directives.specs.declared.directive.Conditional.TheVariants as conditional'
use Rattle.hv_directives.specs.declared.directive.Directive.{Directive as Directive'}
use Rattle.hv_directives.specs.declared.directive.Directive.TheVariants as directive'
use Rattle.hv_directives.specs.declared.directive.Question.{Question as Question'}
use Rattle.hv_directives.specs.declared.directive.Question.TheVariants as question'
use Rattle.hv_directives.specs.declared.header.Header.{Header as Header'}
use Rattle.hv_directives.specs.declared.piece.Piece.{Piece as Piece'}
use Rattle.hv_directives.specs.declared.piece.Piece.TheVariants as piece'

-- a piece of a file
abbrev pub piece_of : Piece' → Piece
piece_of (piece'.Text run ends) = text run.now ends
piece_of (piece'.Directive hash line) = directive hash.now line.now

-- what the first line of a group asks
abbrev pub question_of : Question' → Question
question_of (question'.Expression line) = expression line.now
question_of (question'.IsMacro line) = is_macro line.now
question_of (question'.IsNoMacro line) = is_no_macro line.now

-- a directive that makes groups
abbrev pub conditional_of : Conditional' → Conditional
conditional_of (conditional'.If question) = if_ (question_of question)
conditional_of (conditional'.Elif line) = elif line.now
conditional_of conditional'.Else = else_
conditional_of conditional'.Endif = endif

-- another directive
abbrev pub action_of : Action' → Action
action_of (action'.Include line) = include line.now
action_of (action'.Define line) = define line.now
action_of (action'.Undef line) = undef line.now
action_of action'.Error = error
action_of action'.Ignored = ignored
action_of action'.Unknown = unknown

-- a directive
abbrev pub directive_of : Directive' → Directive
directive_of (directive'.Conditional c) = conditional (conditional_of c)
directive_of (directive'.Action a) = action (action_of a)

-- a header as an `#include` line names it
abbrev pub header_of : Header' → Header
header_of h = record { quoted = h.quoted; name = h.name.now }

-- a name and what it is defined as
abbrev pub definition_of : Definition' → Definition
definition_of d = record { name = d.name; body = d.body }
