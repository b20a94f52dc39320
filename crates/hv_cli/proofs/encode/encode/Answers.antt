use Rattle.std.proofs.Common.{◌≡◌, Some, ap, refl}
use Rattle.std.proofs.lemmas.Result.{IfOk-weaker}
use Rattle.hv_outside.proofs.FilesLemmas.{Keeps-trans}
use Rattle.hv_words.specs.Commands.{Command, Sources, encode, sources_meant}
use Rattle.hv_cli.specs.Due.{IsDueTo}
use Rattle.hv_cli.specs.Files.{reads}
use Rattle.hv_cli.specs.working.Found.{IsEncodedOf}
use Rattle.hv_cli.proofs.Finding.{IsDueTo-whole, IsDueTo-encoded, IsFile-whole, IsRead-whole, IsRead-later, IsLater}
use Rattle.hv_cli.proofs.encode.encode.Goals as goal

pub returns-in-Refused-clause-due : goal.returns-in-Refused-clause-due
returns-in-Refused-clause-due g c =
    let command : Command = encode (sources_meant c.args.sources.now) in
    rw c.in-Refused.is at (c.in_ok-bytes.ensures.found command refl)

pub returns-in-Refused-2-clause-due : goal.returns-in-Refused-2-clause-due
returns-in-Refused-2-clause-due g c =
    let sources : Sources = sources_meant c.args.sources.now in
    let asked : Some c.as_str-file.result.now ≡ Some sources.file = ap Some c.as_str-file.ensures.value
    in
    let command : Command = encode sources in
    let before = g.F.Files.state c.args.files.now in
    let middle = g.F.Files.state c.read_model_file.new.files in
    let now = g.F.Files.state c.read_file.new.files in
    let later : IsLater (reads before now) (reads middle now) =
    record { keeps = c.in_ok-bytes.ensures.keeps; now = refl } in
    let model = rw c.in-Bytes.is at (c.in_ok-bytes.ensures.found command refl) in
    let first =
    IsRead-later before middle now c.in_ok-bytes.ensures.keeps sources.model c.in-Bytes.bytes model
    in
    IsDueTo-whole _ _ later command c.in-Refused-2.answer
    (rw c.in-Refused-2.is at (c.in_ok-bytes-2.ensures.found command asked
    (c.in-Bytes.bytes, first)))

pub returns-clause-due : goal.returns-clause-due
returns-clause-due g c =
    let sources : Sources = sources_meant c.args.sources.now in
    let asked : Some c.as_str-file.result.now ≡ Some sources.file = ap Some c.as_str-file.ensures.value
    in
    let command : Command = encode sources in
    let before = g.F.Files.state c.args.files.now in
    let middle = g.F.Files.state c.read_model_file.new.files in
    let now = g.F.Files.state c.read_file.new.files in
    let later : IsLater (reads before now) (reads middle now) =
    record { keeps = c.in_ok-bytes.ensures.keeps; now = refl } in
    let found = rw c.in-Bytes.is at (c.in_ok-bytes.ensures.found command refl) in
    let first =
    IsRead-later before middle now c.in_ok-bytes.ensures.keeps sources.model c.in-Bytes.bytes found
    in
    let model = IsRead-whole _ _ later sources.model c.in-Bytes.bytes first in
    let main = IsFile-whole _ _ later sources.file c.in-Bytes-2.bytes
    (rw c.in-Bytes-2.is at (c.in_ok-bytes-2.ensures.found command asked
    (c.in-Bytes.bytes, first)))
    in
    IfOk-weaker c.metaproduct.result
    (IsEncodedOf c.as_slice.result.now c.as_slice-2.result.now c.as_str-file.result.now)
    (IsDueTo (reads before now) command)
    (λ answer made. IsDueTo-encoded _ sources c.in-Bytes.bytes c.in-Bytes-2.bytes answer model main
    (rw (← c.as_slice.ensures, ← c.as_slice-2.ensures, ← c.as_str-file.ensures.value) made))
    c.metaproduct.ensures

pub returns-in-Refused-2-clause-keeps : goal.returns-in-Refused-2-clause-keeps
returns-in-Refused-2-clause-keeps g c =
    Keeps-trans (g.F.Files.state c.args.files.now) (g.F.Files.state c.read_model_file.new.files)
    (g.F.Files.state c.read_file.new.files)
    c.in_ok-bytes.ensures.keeps c.in_ok-bytes-2.ensures.keeps

pub returns-clause-keeps : goal.returns-clause-keeps
returns-clause-keeps g c =
    Keeps-trans (g.F.Files.state c.args.files.now) (g.F.Files.state c.read_model_file.new.files)
    (g.F.Files.state c.read_file.new.files)
    c.in_ok-bytes.ensures.keeps c.in_ok-bytes-2.ensures.keeps
