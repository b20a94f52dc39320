-- The answers of the tool: each has a status, the bytes for its output, and a message.
use Rattle.std.specs.Prelude.{ℕ, List, [], ◌++◌, codes, decimal}
use Rattle.hv_base.specs.Why.{name_of, number_of}
use Rattle.hv_base.specs.declared.status.Status.{Status}
use Rattle.hv_base.specs.declared.status.Status.TheVariants.{Done, Refused, Unread}
use Rattle.hv_base.specs.declared.status.Status.TheVariants as status
use Rattle.hv_base.specs.declared.why.Why.{Why}
use Rattle.hv_model.specs.ModelKind.{kind_number, kind_name}
use Rattle.hv_cli.specs.declared.answer.Answer.{Answer}
use Rattle.hv_cli.specs.declared.answer.Answer.TheVariants.{Encoded, Options, Variant, Fails, BadWords, BadConfig, CannotRead, NoFile, TooBig, BadModel}
use Rattle.hv_cli.specs.declared.position.Position.{Position}

-- with which status the program ends
abbrev pub status_of : Answer → Status
status_of (Encoded _) = Done
status_of (Options _) = Done
status_of (Variant _) = Done
status_of (Fails _ _ _) = Refused
status_of BadWords = status.BadWords
status_of BadConfig = status.BadWords
status_of (CannotRead _) = Unread
status_of (NoFile _) = Unread
status_of (TooBig _ _ _) = Unread
status_of (BadModel _) = status.BadModel

-- what goes to the output: what the command was to write, and nothing else
abbrev pub output_of : Answer → List ℕ
output_of (Encoded text) = text
output_of (Options text) = text
output_of (Variant text) = text
output_of (Fails _ _ _) = []
output_of BadWords = []
output_of BadConfig = []
output_of (CannotRead _) = []
output_of (NoFile _) = []
output_of (TooBig _ _ _) = []
output_of (BadModel _) = []

-- a position in a message
abbrev pub shown_position : Position → List ℕ
shown_position position =
    codes " file=" ++ position.file ++ codes " line=" ++ decimal position.line
    ++ codes " offset=" ++ decimal position.offset ++ codes " via=" ++ position.via

-- the cause of a refusal in a message
abbrev pub shown_cause : Why → List ℕ
shown_cause why = codes " why=" ++ decimal (number_of why) ++ codes " " ++ name_of why

-- the message of an answer: one line, and none for success
abbrev pub message_of : Answer → List ℕ
message_of (Encoded _) = []
message_of (Options _) = []
message_of (Variant _) = []
message_of (Fails config position why) =
    codes "hercules: fails config=" ++ config ++ shown_position position ++ shown_cause why
    ++ codes "\n"
message_of BadWords = codes "hercules: bad words\n"
message_of BadConfig = codes "hercules: bad config\n"
message_of (CannotRead name) = codes "hercules: cannot read " ++ name ++ codes "\n"
message_of (NoFile name) = codes "hercules: no file " ++ name ++ codes "\n"
message_of (TooBig name size total) =
    codes "hercules: too big " ++ name ++ codes " " ++ decimal size ++ codes " " ++ decimal total
    ++ codes "\n"
message_of (BadModel found) =
    codes "hercules: model line=" ++ decimal found.line ++ codes " kind="
    ++ decimal (kind_number found.kind)
    ++ codes " " ++ kind_name found.kind ++ codes "\n"

-- the message where a write to the output failed
abbrev pub cannot_write : List ℕ
cannot_write = codes "hercules: cannot write\n"

-- the message where memory ran out
abbrev pub want_of_memory : List ℕ
want_of_memory = codes "hercules: want of memory\n"
