-- The table of refusals: each cause has a number and a name.
use Rattle.std.specs.Prelude.{ℕ, List, codes}
use Rattle.hv_base.specs.declared.why.Why.{Why}
use Rattle.hv_base.specs.declared.why.Why.TheVariants.{OpenComment, BadDirective, Unbalanced, BadCondition, ErrorDirective, NoFile, IncludeTooDeep, BadDefine, BadInvocation, DirectiveInArguments, BadPaste, EpisodeTooLong, BadConstant, LeftOut, Syntax, TooDeep, Undeclared, Redeclared, BadType, NotConstant, DuplicateCase, Reserved, NoMain, NotDefined}

-- the number of a refusal
-- SAME: refusals
abbrev pub number_of : Why → ℕ
number_of OpenComment = 1
number_of BadDirective = 2
number_of Unbalanced = 3
number_of BadCondition = 4
number_of ErrorDirective = 5
number_of NoFile = 6
number_of IncludeTooDeep = 7
number_of BadDefine = 8
number_of BadInvocation = 9
number_of DirectiveInArguments = 10
number_of BadPaste = 11
number_of EpisodeTooLong = 12
number_of BadConstant = 13
number_of LeftOut = 14
number_of Syntax = 15
number_of TooDeep = 16
number_of Undeclared = 17
number_of Redeclared = 18
number_of BadType = 19
number_of NotConstant = 20
number_of DuplicateCase = 21
number_of Reserved = 22
number_of NoMain = 23
number_of NotDefined = 24

-- the name of a refusal
-- SAME: refusals
abbrev pub name_of : Why → List ℕ
name_of OpenComment = codes "OpenComment"
name_of BadDirective = codes "BadDirective"
name_of Unbalanced = codes "Unbalanced"
name_of BadCondition = codes "BadCondition"
name_of ErrorDirective = codes "ErrorDirective"
name_of NoFile = codes "NoFile"
name_of IncludeTooDeep = codes "IncludeTooDeep"
name_of BadDefine = codes "BadDefine"
name_of BadInvocation = codes "BadInvocation"
name_of DirectiveInArguments = codes "DirectiveInArguments"
name_of BadPaste = codes "BadPaste"
name_of EpisodeTooLong = codes "EpisodeTooLong"
name_of BadConstant = codes "BadConstant"
name_of LeftOut = codes "LeftOut"
name_of Syntax = codes "Syntax"
name_of TooDeep = codes "TooDeep"
name_of Undeclared = codes "Undeclared"
name_of Redeclared = codes "Redeclared"
name_of BadType = codes "BadType"
name_of NotConstant = codes "NotConstant"
name_of DuplicateCase = codes "DuplicateCase"
name_of Reserved = codes "Reserved"
name_of NoMain = codes "NoMain"
name_of NotDefined = codes "NotDefined"
