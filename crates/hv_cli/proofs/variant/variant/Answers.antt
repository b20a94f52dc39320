use Rattle.std.proofs.Common.{refl}
use Rattle.std.proofs.lemmas.Result.{IfOk-weaker}
use Rattle.hv_words.specs.Commands.{Command, Sources, sources_meant, variant}
use Rattle.hv_cli.specs.Due.{IsDueTo}
use Rattle.hv_cli.specs.Files.{Gathers, reads}
use Rattle.hv_cli.specs.working.Found.{IsPreprocessedOf}
use Rattle.hv_cli.proofs.Finding.{IsDueTo-whole, IsDueTo-chosen, IsGathered-whole, IsRead-whole, IsRead-later, IsLater}
use Rattle.hv_cli.proofs.variant.variant.Goals as goal

pub returns-in-Refused-clause-due : goal.returns-in-Refused-clause-due
returns-in-Refused-clause-due g c =
    let command : Command = variant (sources_meant c.args.sources.now) c.args.config.now in
    rw c.in-Refused.is at (c.in_ok-bytes.ensures.found command refl)

pub returns-clause-due : goal.returns-clause-due
returns-clause-due g c =
    let sources : Sources = sources_meant c.args.sources.now in
    let command : Command = variant sources c.args.config.now in
    let before = g.F.Files.state c.args.files.now in
    let middle = g.F.Files.state c.read_model_file.new.files in
    let now = g.F.Files.state c.read_sources.new.files in
    let later : IsLater (reads before now) (reads middle now) =
    record { keeps = c.in_ok-bytes.ensures.keeps; now = refl } in
    let found = rw c.in-Bytes.is at (c.in_ok-bytes.ensures.found command refl) in
    let gathers : Gathers (reads middle now) command sources =
    record {
      asked = refl;
      model_file = c.in-Bytes.bytes;
      read_before =
          IsRead-later before middle now c.in_ok-bytes.ensures.keeps sources.model
          c.in-Bytes.bytes found;
    } in
    IsDueTo-whole _ _ later command c.in-Refused-2.answer
    (rw c.in-Refused-2.is at (c.in_ok-bundle.ensures.found command gathers))

pub returns-in-Bundle-clause-due : goal.returns-in-Bundle-clause-due
returns-in-Bundle-clause-due g c =
    let sources : Sources = sources_meant c.args.sources.now in
    let command : Command = variant sources c.args.config.now in
    let before = g.F.Files.state c.args.files.now in
    let middle = g.F.Files.state c.read_model_file.new.files in
    let now = g.F.Files.state c.read_sources.new.files in
    let later : IsLater (reads before now) (reads middle now) =
    record { keeps = c.in_ok-bytes.ensures.keeps; now = refl } in
    let found = rw c.in-Bytes.is at (c.in_ok-bytes.ensures.found command refl) in
    let first = IsRead-later before middle now c.in_ok-bytes.ensures.keeps sources.model
    c.in-Bytes.bytes found in
    let gathers : Gathers (reads middle now) command sources =
    record { asked = refl; model_file = c.in-Bytes.bytes; read_before = first } in
    let gathered = rw c.in-Bundle.is at (c.in_ok-bundle.ensures.found command gathers) in
    IfOk-weaker c.chosen.result
    (IsPreprocessedOf c.as_slice.result.now c.in-Bundle.bundle c.args.config.now)
    (IsDueTo (reads before now) command)
    (λ answer made. IsDueTo-chosen (reads before now) sources c.args.config.now c.in-Bytes.bytes
    c.in-Bundle.bundle answer (IsRead-whole _ _ later sources.model c.in-Bytes.bytes first)
    (IsGathered-whole _ _ later sources c.in-Bundle.bundle gathered)
    (rw (← c.as_slice.ensures) made))
    c.chosen.ensures
