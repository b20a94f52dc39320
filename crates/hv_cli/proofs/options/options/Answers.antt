use Rattle.std.proofs.Common.{List, ℕ, Option, refl, option_map}
use Rattle.std.specs.String.{string_bytes}
use Rattle.std.proofs.lemmas.Result.{IfOk-weaker}
use Rattle.hv_words.specs.Commands.{Command, options}
use Rattle.hv_cli.specs.Due.{IsDueTo}
use Rattle.hv_cli.specs.Files.{reads}
use Rattle.hv_cli.specs.working.Found.{IsDefinedOf}
use Rattle.hv_cli.proofs.Finding.{IsDueTo-defined}
use Rattle.hv_cli.proofs.options.options.Goals as goal

pub returns-in-Refused-clause-due : goal.returns-in-Refused-clause-due
returns-in-Refused-clause-due g c =
    let name : Option (List ℕ) = option_map string_bytes c.args.model.now in
    let command : Command = options name c.args.config.now in
    rw c.in-Refused.is at (c.in_ok-bytes.ensures.found command refl)

pub returns-in-Bytes-clause-due : goal.returns-in-Bytes-clause-due
returns-in-Bytes-clause-due g c =
    let name : Option (List ℕ) = option_map string_bytes c.args.model.now in
    let command : Command = options name c.args.config.now in
    let read = reads (g.F.Files.state c.args.files.now) (g.F.Files.state c.read_model_file.new.files)
    in
    let found = rw c.in-Bytes.is at (c.in_ok-bytes.ensures.found command refl) in
    IfOk-weaker c.defined.result (IsDefinedOf c.as_slice.result.now c.args.config.now)
    (IsDueTo read command)
    (λ answer made. IsDueTo-defined read name c.args.config.now c.in-Bytes.bytes answer found
    (rw (← c.as_slice.ensures) made))
    c.defined.ensures
