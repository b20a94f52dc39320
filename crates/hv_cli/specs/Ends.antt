-- How a call of the program ends, status by status.
use Rattle.std.specs.Prelude.{ℕ, ◌≡◌, ◌≢◌, ◌≤◌, ◌<◌, ◌⊎◌, Bool, List, [], ◌++◌, length, Option, Some, IsTrue, None, Ok, Err}
use Rattle.hv_base.specs.Bundles.{NamedFiles}
use Rattle.hv_base.specs.declared.limits.TheConstants.{MOST_FILE_BYTES}
use Rattle.hv_base.specs.declared.status.Status.{Status}
use Rattle.hv_base.specs.declared.status.Status.TheVariants.{Done, Unwritten, Memory}
use Rattle.hv_base.specs.Status.{code_of}
use Rattle.hv_gather.specs.Causes.{told_answer}
use Rattle.hv_gather.specs.declared.fault.GatherFault.TheVariants as fault
use Rattle.hv_outside.specs.Count.{Rose}
use Rattle.hv_model.specs.Model.{IsModelOf}
use Rattle.hv_model.specs.Rule.{Features, IsValid}
use Rattle.hv_plain.specs.Source.{SourceLine, IsSmallSource}
use Rattle.hv_plain.specs.Program.{Program, IsProgramText}
use Rattle.hv_plain.specs.Run.{IsVariant, run, start, no_start, undefined, variables_of}
use Rattle.hv_words.specs.Commands.{Command, Sources, command_of, encode}
use Rattle.hv_cli.specs.declared.answer.Answer.{Answer}
use Rattle.hv_cli.specs.declared.answer.Answer.TheVariants.{Encoded, CannotRead, NoFile, TooBig}
use Rattle.hv_cli.specs.declared.read.Role.{Role}
use Rattle.hv_cli.specs.declared.read.Role.TheVariants.{Model, Main}
use Rattle.hv_cli.specs.Answer.{output_of, message_of}
use Rattle.hv_cli.specs.Due.{IsDue}
use Rattle.hv_cli.specs.Files.{Reads, gathered_of, name_of, total_of}
use Rattle.hv_cli.specs.Given.{Writes, IsWhole, IsUnwritten, IsStarved, OutputFailed, MessageFailed}

-- the answer was due, and was given whole
pub record Answers (words : List (List ℕ)) (reads : Reads) (w : Writes) (status : ℕ)
    (answer : Answer) : Type 0 where
  pub due : IsDue reads words answer
  pub whole : IsWhole w status answer

-- a write of the answer that was due failed
pub record Fails (words : List (List ℕ)) (reads : Reads) (w : Writes) (status : ℕ) : Type 0 where
  pub answer : Answer
  pub due : IsDue reads words answer
  pub unwritten : IsUnwritten w status answer

-- memory ran out for the answer that was due, or before it was known; then nothing is in the output
abbrev pub Starves : List (List ℕ) → Reads → Writes → ℕ → Type 0
Starves words reads w status =
    ((answer : Answer) × IsDue reads words answer
    × IsStarved w status (output_of answer) (message_of answer))
    ⊎ IsStarved w status [] []

-- status 3, by its three messages
abbrev pub Unread : List (List ℕ) → Reads → Writes → ℕ → Type 0
Unread words reads w status =
    ((name : List ℕ) × Answers words reads w status (CannotRead name))
    ⊎ (((name : List ℕ) × Answers words reads w status (NoFile name))
    ⊎ ((name : List ℕ) × ((size : ℕ) × ((total : ℕ)
    × Answers words reads w status (TooBig name size total)))))

-- the ways in which a call ends with a status
pub data Ends (words : List (List ℕ)) (reads : Reads) (w : Writes) (status : ℕ) : Type 0 where
  answered : (answer : Answer) → Answers words reads w status answer → Ends words reads w status
  failed : Fails words reads w status → Ends words reads w status
  starved : Starves words reads w status → Ends words reads w status

-- these bytes are held under the name of a file. A file that the command doesn't have counts as an
-- empty one
abbrev pub IsHeld : (List ℕ → Option (List ℕ)) → Option (List ℕ) → List ℕ → Type 0
IsHeld held None bytes = bytes ≡ []
IsHeld held (Some name) bytes = held name ≡ Some bytes

-- The headline, for the command `encode` with these sources. The files and the output tell what
-- they hold. Then the model file says a model, and no model file that of no options; the main file
-- is a small source; and the bytes written, after what the output held, are a typed program which,
-- started with a valid configuration, runs on every input and for every number of steps as the
-- variant of that configuration, wherever the variant meets no undefined behaviour: the same
-- output, the same input taken, the same end.
pub record Headline (sources : Sources) (held : List ℕ → Option (List ℕ))
    (before now : Option (List ℕ)) : Type 0 where
  pub model_file : List ℕ
  pub model_held : IsHeld held sources.model model_file
  pub source : List ℕ
  pub source_held : held sources.file ≡ Some source
  pub model : Features
  pub model_read : IsModelOf model_file model
  pub body : List SourceLine
  pub source_read : IsSmallSource model.names source body
  pub text : List ℕ
  pub text_written : (so_far : List ℕ) → before ≡ Some so_far → now ≡ Some (so_far ++ text)
  pub product : Program
  pub product_read : IsProgramText (variables_of model.names) text product
  pub agrees : (values : List Bool) → IsValid model values → (variant : Program)
      → IsVariant model.names source values variant → (input : List ℕ) (steps : ℕ)
      → (run variant no_start input steps).ending ≢ undefined
      → run product (start model.names values) input steps ≡ run variant no_start input steps

-- the files tell what they hold, and the search among them finds this bundle of a main file with
-- all headers that it may include, whose files are within the limits
abbrev pub AreTold : (held : List ℕ → Option (List ℕ)) → Sources → NamedFiles → Type 0
AreTold held sources bundle = told_answer held sources.file sources.dirs ≡ Ok bundle

-- these sources, if there are any, can be gathered
abbrev pub CanGather : (held : List ℕ → Option (List ℕ)) → Option Sources → Type 0
CanGather held None = Unit {0}
CanGather held (Some sources) = (bundle : NamedFiles) × AreTold held sources bundle

-- the files tell that they hold these two within the limit, and what the command gathers; and no
-- count of their faults rose
pub record AreRead (reads : Reads) (command : Command) (model_file source : List ℕ) : Type 0 where
  pub told : IsTrue reads.before.told
  pub model_held : IsHeld reads.before.held (name_of command Model) model_file
  pub model_small : length model_file ≤ MOST_FILE_BYTES
  pub source_held : IsHeld reads.before.held (name_of command Main) source
  pub source_small : length source ≤ MOST_FILE_BYTES
  pub gathered : CanGather reads.before.held (gathered_of command)
  pub no_read_fault : Rose reads.before.faults reads.now.faults → ⊥

-- the file of this name is there and within the limit
abbrev pub IsUsable : Reads → Option (List ℕ) → Type 0
IsUsable reads name =
    (bytes : List ℕ) × IsHeld reads.before.held name bytes × (length bytes ≤ MOST_FILE_BYTES)

-- every file that is read before the one in this role is usable: the model file comes first
abbrev pub AreUsableBefore : Reads → Command → Role → Type 0
AreUsableBefore reads command Model = Unit {0}
AreUsableBefore reads command Main = IsUsable reads (name_of command Model)

-- the answer on a file that isn't there, or is beyond the limit
abbrev pub Blames : Reads → List ℕ → Role → Answer → Type 0
Blames reads name role answer =
    ((reads.before.held name ≡ None) × (answer ≡ NoFile name))
    ⊎ ((bytes : List ℕ) × (reads.before.held name ≡ Some bytes) × (MOST_FILE_BYTES < length bytes)
    × (answer ≡ TooBig name (length bytes) (total_of role (length bytes))))

-- the answer on sources without a main file, or with a file with which a limit is passed
abbrev pub BlamesSources : Reads → Sources → Answer → Type 0
BlamesSources reads sources answer =
    ((told_answer reads.before.held sources.file sources.dirs ≡ Err fault.MainAbsent)
    × (answer ≡ NoFile sources.file))
    ⊎ ((name : List ℕ) × (size : ℕ) × (total : ℕ)
    × (told_answer reads.before.held sources.file sources.dirs
    ≡ Err (fault.TooBig name size total))
    × (answer ≡ TooBig name size total))

-- the file in this role, which is read alone, is the first of the command that can't be used, which
-- the answer says of it
pub record IsUnusable (reads : Reads) (command : Command) (role : Role)
    (answer : Answer) : Type 0 where
  pub name : List ℕ
  pub asked : name_of command role ≡ Some name
  pub usable_before : AreUsableBefore reads command role
  pub blamed : Blames reads name role answer

-- the model file of the command can be used, and its sources can't, which the answer says of them
pub record AreUnusable (reads : Reads) (command : Command) (answer : Answer) : Type 0 where
  pub sources : Sources
  pub asked : gathered_of command ≡ Some sources
  pub usable_before : IsUsable reads (name_of command Model)
  pub blamed : BlamesSources reads sources answer

-- the files tell what they hold, the first of the command that can't be used is the one that the
-- answer blames, and no count of faults rose
pub record IsFirstUnusable (reads : Reads) (command : Command) (answer : Answer) : Type 0 where
  pub told : IsTrue reads.before.told
  pub first : ((role : Role) × IsUnusable reads command role answer)
      ⊎ AreUnusable reads command answer
  pub no_read_fault : Rose reads.before.faults reads.now.faults → ⊥

-- what completeness asks of the words, the files and the source of `encode`; and that no count of
-- faults rose
pub record IsGood (words : List (List ℕ)) (reads : Reads) (w : Writes) : Type 0 where
  pub sources : Sources
  pub words_are : command_of words ≡ Some (encode sources)
  pub model_file : List ℕ
  pub source : List ℕ
  pub read : AreRead reads (encode sources) model_file source
  pub model : Features
  pub model_read : IsModelOf model_file model
  pub body : List SourceLine
  pub source_read : IsSmallSource model.names source body
  pub no_output_fault : OutputFailed w → ⊥
  pub no_message_fault : MessageFailed w → ⊥

-- status 0, every byte of the metaproduct written; or memory ran out
abbrev pub Succeeds : List (List ℕ) → Reads → Writes → ℕ → Type 0
Succeeds words reads w status =
    ((status ≡ code_of Done) × ((text : List ℕ) × Answers words reads w status (Encoded text)))
    ⊎ (status ≡ code_of Memory)

-- this status, or 4 or 5 in its place
abbrev pub IsOrFails : Status → ℕ → Type 0
IsOrFails wanted status =
    (status ≡ code_of wanted) ⊎ ((status ≡ code_of Unwritten) ⊎ (status ≡ code_of Memory))

-- this answer was given whole, or 4 or 5 stands in its place
abbrev pub AnswersOrFails : List (List ℕ) → Reads → Writes → ℕ → Answer → Type 0
AnswersOrFails words reads w status answer =
    Answers words reads w status answer ⊎ ((status ≡ code_of Unwritten) ⊎ (status ≡ code_of Memory))
