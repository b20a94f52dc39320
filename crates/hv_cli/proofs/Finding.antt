-- What is due because of a later read is due because of the whole call.
use Rattle.std.specs.Prelude.{Result, Ok, Err, IfOk}
use Rattle.std.proofs.Common.{◌≡◌, ℕ, ◌≤◌, Bool, List, [], Option, Some, None, IsTrue, ◌⊎◌, inl, inr, refl, sym, ◌∙◌, ap, arith, subst}
use Rattle.std.proofs.Math.Path.{fun_ext}
use Rattle.hv_base.specs.Bundles.{HasMain, NamedFiles}
use Rattle.hv_gather.specs.Causes.{Answers, IsCaused, told_answer}
use Rattle.hv_gather.specs.Limits.{first_beyond}
use Rattle.hv_gather.specs.declared.fault.GatherFault.{GatherFault}
use Rattle.hv_gather.specs.declared.fault.GatherFault.TheVariants as fault
use Rattle.hv_outside.specs.Count.{Rose}
use Rattle.hv_outside.specs.Files.{FileState, Keeps}
use Rattle.hv_model.specs.Model.{IsModelOf}
use Rattle.hv_model.specs.Rule.{Features}
use Rattle.hv_plain.specs.Source.{SourceLine, IsSmallSource}
use Rattle.hv_plain.specs.gathering.Told.{told as told_bundle}
use Rattle.hv_words.specs.Commands.{Command, Sources, encode, options, variant}
use Rattle.hv_cli.specs.declared.answer.Answer.{Answer}
use Rattle.hv_cli.specs.declared.answer.Answer.TheVariants.{Encoded, Options, Variant, Fails, BadWords, BadConfig, CannotRead, NoFile, TooBig, BadModel}
use Rattle.hv_cli.specs.declared.read.Role.{Role}
use Rattle.hv_cli.specs.declared.read.Role.TheVariants.{Model, Main}
use Rattle.hv_cli.specs.Definitions.{IsConfig}
use Rattle.hv_cli.specs.Due.{IsChosen, IsDueTo, IsInput}
use Rattle.hv_cli.specs.Files.{AreGatheredFrom, Gathers, IsFile, IsGathered, IsRead, IsReadBefore, Reads, gathered_of, name_of, reads}
use Rattle.hv_cli.specs.working.Found.{IsDefinedOf, IsEncodedOf, IsLeftOutOf, IsPreprocessedOf, SaysFault}

-- the later reads end where the whole ends, and began after it
pub record IsLater (whole later : Reads) : Type 0 where
  pub keeps : Keeps whole.before later.before
  pub now : later.now ≡ whole.now

Rose-earlier : (a b c d : ℕ) → a ≤ b → c ≡ d → Rose b c → Rose a d
Rose-earlier a b c d h e rose = omega arith

pub IsFile-whole : (whole later : Reads) → IsLater whole later → (name bytes : List ℕ)
    → IsFile later name bytes → IsFile whole name bytes
IsFile-whole whole later l name bytes file = record {
  held = λ told. sym (l.keeps.held name) ∙ file.held (l.keeps.told ∙ told);
  small = file.small;
}

pub IsRead-whole : (whole later : Reads) → IsLater whole later → (name : Option (List ℕ))
    → (bytes : List ℕ) → IsRead later name bytes → IsRead whole name bytes
IsRead-whole whole later l None bytes read = read
IsRead-whole whole later l (Some name) bytes read = IsFile-whole whole later l name bytes read

-- what the later files hold is what the files held
held_same : (whole later : Reads) → IsLater whole later → later.before.held ≡ whole.before.held
held_same whole later l = fun_ext l.keeps.held

pub IsGathered-whole : (whole later : Reads) → IsLater whole later → (sources : Sources)
    (bundle : NamedFiles) → IsGathered later sources bundle → IsGathered whole sources bundle
IsGathered-whole whole later l sources bundle gathered = record {
  found = λ is_told.
      subst
      (λ (held : List ℕ → Option (List ℕ)). bundle ≡ told_bundle held sources.file sources.dirs)
      (held_same whole later l) (gathered.found (l.keeps.told ∙ is_told));
  answer = λ is_told.
      subst
      (λ (held : List ℕ → Option (List ℕ)).
      told_answer held sources.file sources.dirs ≡ Ok bundle)
      (held_same whole later l) (gathered.answer (l.keeps.told ∙ is_told));
  within = gathered.within;
  has_main = gathered.has_main;
  main = gathered.main;
  dirs = gathered.dirs;
}

AreGathered-whole : (whole later : Reads) → IsLater whole later → (sources : Option Sources)
    → AreGatheredFrom later sources → AreGatheredFrom whole sources
AreGathered-whole whole later l None gathered = tt
AreGathered-whole whole later l (Some sources) gathered =
    (gathered.0, IsGathered-whole whole later l sources gathered.0 gathered.1)

IsInput-whole : (whole later : Reads) → IsLater whole later
    → (command : Command) (model : Features) (source : List ℕ)
    → IsInput later command model source → IsInput whole command model source
IsInput-whole whole later l command model source input = record {
  bytes = input.bytes;
  model_file =
      IsRead-whole whole later l (name_of command Model) input.bytes input.model_file;
  accepted = input.accepted;
  main = IsRead-whole whole later l (name_of command Main) source input.main;
  gathered = AreGathered-whole whole later l (gathered_of command) input.gathered;
}

IsChosen-whole : (whole later : Reads) → IsLater whole later
    → (command : Command) (bundle : NamedFiles) (model : Features) (values : List Bool)
    → IsChosen later command bundle model values → IsChosen whole command bundle model values
IsChosen-whole whole later l command bundle model values chosen = record {
  sources = chosen.sources;
  config = chosen.config;
  command_is = chosen.command_is;
  source = chosen.source;
  input = IsInput-whole whole later l command model chosen.source chosen.input;
  gathered = IsGathered-whole whole later l chosen.sources bundle chosen.gathered;
  configuration = chosen.configuration;
}

Gathers-whole : (whole later : Reads) → IsLater whole later
    → (command : Command) (sources : Sources) → Gathers later command sources
    → Gathers whole command sources
Gathers-whole whole later l command sources gathers = record {
  asked = gathers.asked;
  model_file = gathers.model_file;
  read_before =
      IsRead-whole whole later l (name_of command Model) gathers.model_file gathers.read_before;
}

IsReadBefore-whole : (whole later : Reads) → IsLater whole later
    → (command : Command) (role : Role) → IsReadBefore later command role
    → IsReadBefore whole command role
IsReadBefore-whole whole later l command Model read = tt
IsReadBefore-whole whole later l command Main read =
    (read.0, IsRead-whole whole later l (name_of command Model) read.0 read.1)

pub IsDueTo-whole : (whole later : Reads) → IsLater whole later
    → (command : Command) (answer : Answer) → IsDueTo later command answer
    → IsDueTo whole command answer
IsDueTo-whole whole later l command (Encoded text) due = record {
  sources = due.sources;
  command_is = due.command_is;
  model = due.model;
  source = due.source;
  input = IsInput-whole whole later l command due.model due.source due.input;
  body = due.body;
  small = due.small;
  encodes = due.encodes;
}
IsDueTo-whole whole later l command (Options text) due = record {
  model_name = due.model_name;
  config = due.config;
  command_is = due.command_is;
  model = due.model;
  source = due.source;
  input = IsInput-whole whole later l command due.model due.source due.input;
  values = due.values;
  configuration = due.configuration;
  text_is = due.text_is;
}
IsDueTo-whole whole later l command (Variant text) due = record {
  bundle = due.bundle;
  model = due.model;
  values = due.values;
  chosen = IsChosen-whole whole later l command due.bundle due.model due.values due.chosen;
  toks = due.toks;
  tokens = due.tokens;
  text_is = due.text_is;
}
IsDueTo-whole whole later l command (Fails config position why) (inl due) = inl (record {
  sources = due.sources;
  command_is = due.command_is;
  model = due.model;
  source = due.source;
  input = IsInput-whole whole later l command due.model due.source due.input;
  values = due.values;
  least = due.least;
  config_is = due.config_is;
  position_is = due.position_is;
  why_is = due.why_is;
  no_small_source = due.no_small_source;
})
IsDueTo-whole whole later l command (Fails config position why) (inr due) = inr (record {
  bundle = due.bundle;
  model = due.model;
  values = due.values;
  chosen = IsChosen-whole whole later l command due.bundle due.model due.values due.chosen;
  place = due.place;
  is_refused = due.is_refused;
  config_is = due.config_is;
  position_is = due.position_is;
})
IsDueTo-whole whole later l command BadWords due = due
IsDueTo-whole whole later l command BadConfig due = record {
  model = due.model;
  source = due.source;
  input = IsInput-whole whole later l command due.model due.source due.input;
  text = due.text;
  text_is = due.text_is;
  no_config = due.no_config;
}
IsDueTo-whole whole later l command (CannotRead name) (inl due) = inl (record {
  role = due.role;
  asked = due.asked;
  read_before = IsReadBefore-whole whole later l command due.role due.read_before;
  rose = Rose-earlier _ _ _ _ l.keeps.faults (ap (λ (s : FileState). s.faults) l.now) due.rose;
  latest = sym (ap (λ (s : FileState). s.failed_name) l.now) ∙ due.latest;
})
IsDueTo-whole whole later l command (CannotRead name) (inr due) = inr (record {
  sources = due.sources;
  gathers = Gathers-whole whole later l command due.sources due.gathers;
  cause = (
    Rose-earlier _ _ _ _ l.keeps.faults (ap (λ (s : FileState). s.faults) l.now) due.cause.0,
    sym (ap (λ (s : FileState). s.failed_name) l.now) ∙ due.cause.1,
  );
})
IsDueTo-whole whole later l command (NoFile name) (inl due) = inl (record {
  role = due.role;
  asked = due.asked;
  read_before = IsReadBefore-whole whole later l command due.role due.read_before;
  rose = Rose-earlier _ _ _ _ l.keeps.absences (ap (λ (s : FileState). s.absences) l.now) due.rose;
  held = λ told. sym (l.keeps.held name) ∙ due.held (l.keeps.told ∙ told);
})
IsDueTo-whole whole later l command (NoFile name) (inr due) = inr (record {
  sources = due.sources;
  gathers = Gathers-whole whole later l command due.sources due.gathers;
  main = due.main;
  cause = (
    Rose-earlier _ _ _ _ l.keeps.absences (ap (λ (s : FileState). s.absences) l.now) due.cause.0,
    λ told. sym (l.keeps.held name) ∙ due.cause.1 (l.keeps.told ∙ told),
  );
  none = λ told.
      subst
      (λ (held : List ℕ → Option (List ℕ)).
      told_answer held due.sources.file due.sources.dirs ≡ Err fault.MainAbsent)
      (held_same whole later l) (due.none (l.keeps.told ∙ told));
})
IsDueTo-whole whole later l command (TooBig name size total) (inl due) = inl (record {
  role = due.role;
  asked = due.asked;
  read_before = IsReadBefore-whole whole later l command due.role due.read_before;
  total_is = due.total_is;
  beyond = due.beyond;
  held = λ told. let found = due.held (l.keeps.told ∙ told) in
      (found.0, sym (l.keeps.held name) ∙ found.1, found.2);
})
IsDueTo-whole whole later l command (TooBig name size total) (inr due) = inr (record {
  sources = due.sources;
  gathers = Gathers-whole whole later l command due.sources due.gathers;
  cause = (
    due.cause.0,
    λ told. let found = due.cause.1 (l.keeps.told ∙ told) in
        (found.0, sym (l.keeps.held name) ∙ found.1, found.2),
  );
  first = λ told.
      subst
      (λ (held : List ℕ → Option (List ℕ)).
      told_answer held due.sources.file due.sources.dirs ≡ Err (fault.TooBig name size total))
      (held_same whole later l) (due.first (l.keeps.told ∙ told));
})
IsDueTo-whole whole later l command (BadModel found) due = record {
  bytes = due.bytes;
  model_file = IsRead-whole whole later l (name_of command Model) due.bytes due.model_file;
  source = due.source;
  main = IsRead-whole whole later l (name_of command Main) due.source due.main;
  gathered = AreGathered-whole whole later l (gathered_of command) due.gathered;
  refused = due.refused;
}

-- what `encode` makes of the bytes of its files is due to it
pub IsDueTo-encoded : (reads : Reads) (sources : Sources) (model_file source : List ℕ)
    (answer : Answer) → IsRead reads sources.model model_file
    → IsFile reads sources.file source
    → IsEncodedOf model_file source sources.file answer → IsDueTo reads (encode sources) answer
IsDueTo-encoded reads sources model_file source (Encoded text) is_model main made = record {
  sources = sources;
  command_is = refl;
  model = made.0;
  source = source;
  input = record { bytes = model_file; model_file = is_model; accepted = made.2; main = main; gathered = tt };
  body = made.1;
  small = made.3;
  encodes = made.4;
}
IsDueTo-encoded reads sources model_file source (Options text) is_model main made = absurd made
IsDueTo-encoded reads sources model_file source (Variant text) is_model main made = absurd made
IsDueTo-encoded reads sources model_file source (Fails config position why) is_model main made =
    inl (record {
      sources = sources;
      command_is = refl;
      model = made.0;
      source = source;
      input =
          record {
            bytes = model_file;
            model_file = is_model;
            accepted = made.1;
            main = main;
            gathered = tt;
          };
      values = made.2.values;
      least = made.2.least;
      config_is = made.2.config_is;
      position_is = made.2.position_is;
      why_is = made.2.why_is;
      no_small_source = made.3;
    })
IsDueTo-encoded reads sources model_file source BadWords is_model main made = made
IsDueTo-encoded reads sources model_file source BadConfig is_model main made = absurd made
IsDueTo-encoded reads sources model_file source (CannotRead name) is_model main made = absurd made
IsDueTo-encoded reads sources model_file source (NoFile name) is_model main made = absurd made
IsDueTo-encoded reads sources model_file source (TooBig name size total) is_model main made =
    absurd made
IsDueTo-encoded reads sources model_file source (BadModel found) is_model main made =
    record {
      bytes = model_file;
      model_file = is_model;
      source = source;
      main = main;
      gathered = tt;
      refused = made;
    }

-- what `options` makes of the bytes of its model file is due to it
pub IsDueTo-defined : (reads : Reads) (name : Option (List ℕ)) (config model_file : List ℕ)
    (answer : Answer) → IsRead reads name model_file
    → IsDefinedOf model_file config answer → IsDueTo reads (options name config) answer
IsDueTo-defined reads name config model_file (Encoded text) is_model made = absurd made
IsDueTo-defined reads name config model_file (Options text) is_model made = record {
  model_name = name;
  config = config;
  command_is = refl;
  model = made.0;
  source = [];
  input = record { bytes = model_file; model_file = is_model; accepted = made.2; main = refl; gathered = tt };
  values = made.1;
  configuration = made.3;
  text_is = made.4;
}
IsDueTo-defined reads name config model_file (Variant text) is_model made = absurd made
IsDueTo-defined reads name config model_file (Fails least position why) is_model made = absurd made
IsDueTo-defined reads name config model_file BadWords is_model made = made
IsDueTo-defined reads name config model_file BadConfig is_model made = record {
  model = made.0;
  source = [];
  input = record { bytes = model_file; model_file = is_model; accepted = made.1; main = refl; gathered = tt };
  text = config;
  text_is = refl;
  no_config = made.2;
}
IsDueTo-defined reads name config model_file (CannotRead file) is_model made = absurd made
IsDueTo-defined reads name config model_file (NoFile file) is_model made = absurd made
IsDueTo-defined reads name config model_file (TooBig file size total) is_model made = absurd made
IsDueTo-defined reads name config model_file (BadModel found) is_model made =
    record {
      bytes = model_file;
      model_file = is_model;
      source = [];
      main = refl;
      gathered = tt;
      refused = made;
    }

-- the files of a command `variant` were read, and the text of its configuration means a valid one
IsChosen-of : (reads : Reads) (sources : Sources) (config model_file : List ℕ)
    (bundle : NamedFiles) (model : Features) (values : List Bool)
    → IsRead reads sources.model model_file → IsGathered reads sources bundle
    → IsModelOf model_file model → IsConfig model config values
    → IsChosen reads (variant sources config) bundle model values
IsChosen-of reads sources config model_file bundle model values is_model gathered accepted means =
    record {
      sources = sources;
      config = config;
      command_is = refl;
      source = [];
      input =
          record {
            bytes = model_file;
            model_file = is_model;
            accepted = accepted;
            main = refl;
            gathered = (bundle, gathered);
          };
      gathered = gathered;
      configuration = means;
    }

-- what `variant` makes of the bytes of its model file and of its bundle is due to it
pub IsDueTo-chosen : (reads : Reads) (sources : Sources) (config model_file : List ℕ)
    (bundle : NamedFiles) (answer : Answer) → IsRead reads sources.model model_file
    → IsGathered reads sources bundle
    → IsPreprocessedOf model_file bundle config answer → IsDueTo reads (variant sources config) answer
IsDueTo-chosen reads sources config model_file bundle (Encoded text) is_model gathered made =
    absurd made
IsDueTo-chosen reads sources config model_file bundle (Options text) is_model gathered made =
    absurd made
IsDueTo-chosen reads sources config model_file bundle (Variant text) is_model gathered made = record {
  bundle = bundle;
  model = made.model;
  values = made.values;
  chosen =
      IsChosen-of reads sources config model_file bundle made.model made.values is_model gathered
      made.accepted made.configuration;
  toks = made.answers.0;
  tokens = made.answers.1;
  text_is = made.answers.2;
}
IsDueTo-chosen reads sources config model_file bundle (Fails text position why) is_model gathered
    made = inr (record {
      bundle = bundle;
      model = made.model;
      values = made.values;
      chosen =
          IsChosen-of reads sources config model_file bundle made.model made.values is_model gathered
          made.accepted made.configuration;
      place = made.answers.0;
      is_refused = made.answers.1;
      config_is = made.answers.2;
      position_is = made.answers.3;
    })
IsDueTo-chosen reads sources config model_file bundle BadWords is_model gathered made = made
IsDueTo-chosen reads sources config model_file bundle BadConfig is_model gathered made = record {
  model = made.0;
  source = [];
  input =
      record {
        bytes = model_file;
        model_file = is_model;
        accepted = made.1;
        main = refl;
        gathered = (bundle, gathered);
      };
  text = config;
  text_is = refl;
  no_config = made.2;
}
IsDueTo-chosen reads sources config model_file bundle (CannotRead name) is_model gathered made =
    absurd made
IsDueTo-chosen reads sources config model_file bundle (NoFile name) is_model gathered made =
    absurd made
IsDueTo-chosen reads sources config model_file bundle (TooBig name size total) is_model gathered
    made = absurd made
IsDueTo-chosen reads sources config model_file bundle (BadModel found) is_model gathered made =
    record {
      bytes = model_file;
      model_file = is_model;
      source = [];
      main = refl;
      gathered = (bundle, gathered);
      refused = made;
    }

-- the answer that says a fault of gathering is due
pub IsDueTo-fault : (reads : Reads) (command : Command) (sources : Sources) (cause : GatherFault)
    (answer : Answer) → Gathers reads command sources
    → IsCaused sources.file reads.before reads.now cause
    → (IsTrue reads.before.told
    → Answers (told_answer reads.before.held sources.file sources.dirs) (Err cause))
    → SaysFault sources.file cause answer → IsDueTo reads command answer
IsDueTo-fault reads command sources (fault.Read name) answer gathers caused told said =
    let P : Answer → Type 0 = λ given. IsDueTo reads command given in
    subst P (sym said) (inr (record { sources = sources; gathers = gathers; cause = caused }))
IsDueTo-fault reads command sources fault.MainAbsent answer gathers caused told said =
    let P : Answer → Type 0 = λ given. IsDueTo reads command given in
    subst P (sym said) (inr (record {
      sources = sources;
      gathers = gathers;
      main = refl;
      cause = caused;
      none = told;
    }))
IsDueTo-fault reads command sources (fault.TooBig name size total) answer gathers caused told said =
    let P : Answer → Type 0 = λ given. IsDueTo reads command given in
    subst P (sym said) (inr (record {
      sources = sources;
      gathers = gathers;
      cause = caused;
      first = told;
    }))
IsDueTo-fault reads command sources fault.Memory answer gathers caused told said = absurd said

-- a bundle that was gathered, by what gathering says of it
pub IsGathered-of : (reads : Reads) (sources : Sources) (bundle : NamedFiles)
    → (IsTrue reads.before.told → bundle ≡ told_bundle reads.before.held sources.file sources.dirs)
    → (IsTrue reads.before.told
    → told_answer reads.before.held sources.file sources.dirs ≡ Ok bundle)
    → first_beyond bundle.entries 0 ≡ None → HasMain bundle
    → (bundle.main ≡ sources.file) × (bundle.dirs ≡ sources.dirs)
    → IsGathered reads sources bundle
IsGathered-of reads sources bundle found answer within main names = record {
  found = found;
  answer = answer;
  within = within;
  has_main = main;
  main = names.0;
  dirs = names.1;
}

IsFile-later : (old mid new : FileState) → Keeps old mid → (name bytes : List ℕ)
    → IsFile (reads old mid) name bytes → IsFile (reads mid new) name bytes
IsFile-later old mid new keeps name bytes file = record {
  held = λ told. keeps.held name ∙ file.held (sym keeps.told ∙ told);
  small = file.small;
}

-- a file that was read earlier is one before a later read
pub IsRead-later : (old mid new : FileState) → Keeps old mid → (name : Option (List ℕ))
    → (bytes : List ℕ) → IsRead (reads old mid) name bytes → IsRead (reads mid new) name bytes
IsRead-later old mid new keeps None bytes read = read
IsRead-later old mid new keeps (Some name) bytes read =
    IsFile-later old mid new keeps name bytes read

-- an answer for a main file that isn't a small source is one for the bytes of the files
pub left_out_made : {E : Type 0} (result : Result Answer E) (model_file source main : List ℕ)
    (m : Features) → IsModelOf model_file m
    → ((body : List SourceLine) → IsSmallSource m.names source body → ⊥)
    → IfOk result (IsLeftOutOf m main) → IfOk result (IsEncodedOf model_file source main)
left_out_made (Err e) model_file source main m accepted refused out = tt
left_out_made (Ok answer) model_file source main m accepted refused out = at answer out
  where
    at : (answer : Answer) → IsLeftOutOf m main answer → IsEncodedOf model_file source main answer
    at (Encoded text) out = absurd out
    at (Options text) out = absurd out
    at (Variant text) out = absurd out
    at (Fails config position why) out = (m, accepted, out, refused)
    at BadWords out = absurd out
    at BadConfig out = absurd out
    at (CannotRead name) out = absurd out
    at (NoFile name) out = absurd out
    at (TooBig name size total) out = absurd out
    at (BadModel found) out = absurd out
