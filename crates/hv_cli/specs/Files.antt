-- The files that a command reads, and what the reading finds.
use Rattle.std.specs.Prelude.{ℕ, ◌≡◌, ◌<◌, ◌≤◌, ◌⊎◌, List, [], length, Option, Some, None, Ok, Err, IsTrue}
use Rattle.hv_base.specs.Bundles.{HasMain, NamedFiles}
use Rattle.hv_base.specs.declared.limits.TheConstants.{MOST_FILE_BYTES}
use Rattle.hv_gather.specs.Causes as gathering
use Rattle.hv_gather.specs.Causes.{told_answer}
use Rattle.hv_gather.specs.Limits.{first_beyond}
use Rattle.hv_gather.specs.declared.fault.GatherFault.TheVariants as fault
use Rattle.hv_outside.specs.Count.{Rose}
use Rattle.hv_outside.specs.Files.{FileState}
use Rattle.hv_plain.specs.gathering.Told.{told}
use Rattle.hv_words.specs.Commands.{Command, Sources, encode, variant, options}
use Rattle.hv_cli.specs.declared.read.Role.{Role}
use Rattle.hv_cli.specs.declared.read.Role.TheVariants.{Model, Main}

-- the name of the command's file in this role, which is read alone; `None` where it has none
abbrev pub name_of : Command → Role → Option (List ℕ)
name_of (encode sources) Model = sources.model
name_of (encode sources) Main = Some sources.file
name_of (variant sources config) Model = sources.model
name_of (variant sources config) Main = None
name_of (options model config) Model = model
name_of (options model config) Main = None

-- the sources of a command that gathers its main file with all headers; `None` where it gathers
-- nothing
abbrev pub gathered_of : Command → Option Sources
gathered_of (encode sources) = None
gathered_of (variant sources config) = Some sources
gathered_of (options model config) = None

-- the text of the command's configuration; `None` where it takes none
abbrev pub config_text : Command → Option (List ℕ)
config_text (encode sources) = None
config_text (variant sources config) = Some config
config_text (options model config) = Some config

-- the files before a call and after it
pub record Reads : Type 0 where
  pub before : FileState
  pub now : FileState

-- the files before a call and after it, in this order
abbrev pub reads : FileState → FileState → Reads
reads before now = record { before = before; now = now }

-- the file of this name holds these bytes, if it is told what the files hold
pub record IsFile (reads : Reads) (name bytes : List ℕ) : Type 0 where
  pub held : IsTrue reads.before.told → reads.before.held name ≡ Some bytes
  pub small : length bytes ≤ MOST_FILE_BYTES

-- the file of this name holds these bytes. A file that the command doesn't have counts as an empty
-- one: so without a model file there are no options, and there is one configuration
abbrev pub IsRead : Reads → Option (List ℕ) → List ℕ → Type 0
IsRead reads None bytes = bytes ≡ []
IsRead reads (Some name) bytes = IsFile reads name bytes

-- what was read before the file in this role: the model file comes first
abbrev pub IsReadBefore : Reads → Command → Role → Type 0
IsReadBefore reads command Model = Unit {0}
IsReadBefore reads command Main = (bytes : List ℕ) × IsRead reads (name_of command Model) bytes

------ the main file with its headers

-- the bundle of a main file and all headers that it may include: it is the one that the search
-- finds, if it is told what the files hold; its files are within the limits
pub record IsGathered (reads : Reads) (sources : Sources) (bundle : NamedFiles) : Type 0 where
  pub found : IsTrue reads.before.told
      → bundle ≡ told reads.before.held sources.file sources.dirs
  pub answer : IsTrue reads.before.told
      → told_answer reads.before.held sources.file sources.dirs ≡ Ok bundle
  pub within : first_beyond bundle.entries 0 ≡ None
  pub has_main : HasMain bundle
  pub main : bundle.main ≡ sources.file
  pub dirs : bundle.dirs ≡ sources.dirs

-- these sources, if there are any, were gathered
abbrev pub AreGatheredFrom : Reads → Option Sources → Type 0
AreGatheredFrom reads None = Unit {0}
AreGatheredFrom reads (Some sources) = (bundle : NamedFiles) × IsGathered reads sources bundle

-- where the command gathers sources, they were gathered
abbrev pub AreGathered : Reads → Command → Type 0
AreGathered reads command = AreGatheredFrom reads (gathered_of command)

-- the command gathers these sources, and its model file was read before
pub record Gathers (reads : Reads) (command : Command) (sources : Sources) : Type 0 where
  pub asked : gathered_of command ≡ Some sources
  pub model_file : List ℕ
  pub read_before : IsRead reads (name_of command Model) model_file

------ files that can't be used

-- the total of the sizes of the sources: the model file counts for nothing
abbrev pub total_of : Role → ℕ → ℕ
total_of Model size = 0
total_of Main size = size

-- the file of this name, which is read alone, is beyond the limit; the total counts only the
-- sources
pub record IsTooBigAlone (reads : Reads) (command : Command) (name : List ℕ)
    (size total : ℕ) : Type 0 where
  pub role : Role
  pub asked : name_of command role ≡ Some name
  pub read_before : IsReadBefore reads command role
  pub total_is : total ≡ total_of role size
  pub beyond : MOST_FILE_BYTES < size
  pub held : IsTrue reads.before.told
      → (bytes : List ℕ) × (reads.before.held name ≡ Some bytes) × (length bytes ≡ size)

-- the file of this name is one of the sources, and is beyond the limit on one file, or all files
-- up to it, which have `total` bytes, are beyond the limit on all; and where it is told what the
-- files hold, it is the first that is so
pub record IsTooBigAmong (reads : Reads) (command : Command) (name : List ℕ)
    (size total : ℕ) : Type 0 where
  pub sources : Sources
  pub gathers : Gathers reads command sources
  pub cause : gathering.IsTooBig reads.before name size total
  pub first : IsTrue reads.before.told
      → told_answer reads.before.held sources.file sources.dirs
      ≡ Err (fault.TooBig name size total)

-- the file of this name is too big
abbrev pub IsTooBig : Reads → Command → (name : List ℕ) → (size total : ℕ) → Type 0
IsTooBig reads command name size total =
    IsTooBigAlone reads command name size total ⊎ IsTooBigAmong reads command name size total

-- there is no file of this name, which is read alone
pub record IsAbsentAlone (reads : Reads) (command : Command) (name : List ℕ) : Type 0 where
  pub role : Role
  pub asked : name_of command role ≡ Some name
  pub read_before : IsReadBefore reads command role
  pub rose : Rose reads.before.absences reads.now.absences
  pub held : IsTrue reads.before.told → reads.before.held name ≡ None

-- this is the name of the main file of the sources, and there is no such file
pub record IsAbsentMain (reads : Reads) (command : Command) (name : List ℕ) : Type 0 where
  pub sources : Sources
  pub gathers : Gathers reads command sources
  pub main : name ≡ sources.file
  pub cause : gathering.IsAbsent reads.before reads.now name
  pub none : IsTrue reads.before.told
      → told_answer reads.before.held sources.file sources.dirs ≡ Err fault.MainAbsent

-- there is no file of this name
abbrev pub IsAbsent : Reads → Command → (name : List ℕ) → Type 0
IsAbsent reads command name = IsAbsentAlone reads command name ⊎ IsAbsentMain reads command name

-- the latest read that failed was that of this file, which is read alone
pub record IsUnreadableAlone (reads : Reads) (command : Command) (name : List ℕ) : Type 0 where
  pub role : Role
  pub asked : name_of command role ≡ Some name
  pub read_before : IsReadBefore reads command role
  pub rose : Rose reads.before.faults reads.now.faults
  pub latest : reads.now.failed_name ≡ Some name

-- the latest read that failed was that of this file, while the sources were gathered
pub record IsUnreadableAmong (reads : Reads) (command : Command) (name : List ℕ) : Type 0 where
  pub sources : Sources
  pub gathers : Gathers reads command sources
  pub cause : gathering.IsUnread reads.before reads.now name

-- the latest read that failed was that of this file
abbrev pub IsUnreadable : Reads → Command → (name : List ℕ) → Type 0
IsUnreadable reads command name =
    IsUnreadableAlone reads command name ⊎ IsUnreadableAmong reads command name

------ commands without files

-- no read failed or found no file
pub record IsUntouched (reads : Reads) : Type 0 where
  pub faults : reads.now.faults ≡ reads.before.faults
  pub absences : reads.now.absences ≡ reads.before.absences

-- the command has no file
pub record HasNoFile (command : Command) : Type 0 where
  pub no_model : name_of command Model ≡ None
  pub no_main : name_of command Main ≡ None
  pub no_sources : gathered_of command ≡ None
