use Rattle.std.proofs.Common.{ℕ, List, Result, Err, IsTrue, ap, map, subst}
use Rattle.std.specs.String.{string_bytes}
use Rattle.hv_gather.specs.Causes.{Answers, IsCaused, told_answer}
use Rattle.hv_words.specs.Commands.{Sources, sources_meant}
use Rattle.hv_cli.specs.Files.{reads}
use Rattle.hv_cli.specs.working.Found.{SaysFault}
use Rattle.hv_cli.proofs.Finding.{IsDueTo-fault}
use Rattle.hv_cli.proofs.read.read_sources.Goals as goal

pub returns-in_ok-answer_for-in-Err-clause-found : goal.returns-in_ok-answer_for-in-Err-clause-found
returns-in_ok-answer_for-in-Err-clause-found g c = λ command gathers.
    let sources : Sources = sources_meant c.args.sources.now in
    let before = g.F.Files.state c.args.files.now in
    let now = g.F.Files.state c.gather.new.files in
    let fault = c.in-Err.fault in
    let dirs = map string_bytes c.as_slice.result.now in
    IsDueTo-fault (reads before now) command sources fault c.in_ok-answer_for-in-Err.field-0 gathers
    (subst (λ (m : List ℕ). IsCaused m before now fault) c.as_str-main.ensures.value
    c.in-Err.ensures.err)
    (subst
    (λ (ds : List (List ℕ)). IsTrue before.told
    → Answers (told_answer before.held sources.file ds) (Err fault))
    (ap (map string_bytes) c.as_slice.ensures.value)
    (subst
    (λ (m : List ℕ). IsTrue before.told → Answers (told_answer before.held m dirs) (Err fault))
    c.as_str-main.ensures.value c.in-Err.ensures.answer))
    (subst (λ (m : List ℕ). SaysFault m fault c.in_ok-answer_for-in-Err.field-0)
    c.as_str-main.ensures.value c.in_ok-answer_for-in-Err.ensures)
