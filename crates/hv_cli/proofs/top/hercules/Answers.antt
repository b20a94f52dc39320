use Rattle.std.proofs.Common.{refl, map, ◌∙◌, ap}
use Rattle.std.specs.String.{string_bytes}
use Rattle.hv_base.specs.Status.{code_of}
use Rattle.hv_cli.specs.Files.{reads}
use Rattle.hv_cli.specs.Given.{writes}
use Rattle.hv_cli.proofs.EndsLemmas.{Ends-given, Ends-starved, Headline-of, bad_config-of, bad_config_where-of, bad_model_where-of, bad_words-of, complete-of, complete_options-of, encoded-of, left_out_where-of, options-of, starved-of, unread-of, unread_where-of, variant-of, variant_where-of, refused-of, refused_where-of, unwritten-of}
use Rattle.hv_cli.proofs.top.hercules.Goals as goal

pub returns-in-Err-clause-ends : goal.returns-in-Err-clause-ends
returns-in-Err-clause-ends g c =
    Ends-starved _ _ _ c.code-in-Err.result
    (c.code-in-Err.ensures ∙ ap code_of c.report_out_of_memory.ensures.status) refl
    c.report_out_of_memory.ensures.prefix

pub returns-in-Ok-clause-ends : goal.returns-in-Ok-clause-ends
returns-in-Ok-clause-ends g c =
    let words = map string_bytes c.args.words.now in
    let read = reads (g.F.Files.state c.args.files.now) (g.F.Files.state c.answer_to.new.files) in
    let written =
    writes (g.O.Sink.state c.args.out.now) (g.O.Sink.state c.write_answer.new.out)
    (g.E.Sink.state c.args.err.now) (g.E.Sink.state c.write_answer.new.err) in
    Ends-given words read written c.code.result c.in-Ok.answer c.in-Ok.ensures.due
    (rw (← c.code.ensures) at c.write_answer.ensures.given)

pub returns-in-Ok-clause-complete : goal.returns-in-Ok-clause-complete
returns-in-Ok-clause-complete g c =
    let words = map string_bytes c.args.words.now in
    let read = reads (g.F.Files.state c.args.files.now) (g.F.Files.state c.answer_to.new.files) in
    let written =
    writes (g.O.Sink.state c.args.out.now) (g.O.Sink.state c.write_answer.new.out)
    (g.E.Sink.state c.args.err.now) (g.E.Sink.state c.write_answer.new.err) in
    complete-of words read written c.code.result
    (Ends-given words read written c.code.result c.in-Ok.answer c.in-Ok.ensures.due
    (rw (← c.code.ensures) at c.write_answer.ensures.given))

pub returns-in-Ok-clause-complete_options : goal.returns-in-Ok-clause-complete_options
returns-in-Ok-clause-complete_options g c =
    let words = map string_bytes c.args.words.now in
    let read = reads (g.F.Files.state c.args.files.now) (g.F.Files.state c.answer_to.new.files) in
    let written =
    writes (g.O.Sink.state c.args.out.now) (g.O.Sink.state c.write_answer.new.out)
    (g.E.Sink.state c.args.err.now) (g.E.Sink.state c.write_answer.new.err) in
    complete_options-of words read written c.code.result
    (Ends-given words read written c.code.result c.in-Ok.answer c.in-Ok.ensures.due
    (rw (← c.code.ensures) at c.write_answer.ensures.given))

pub returns-in-Ok-clause-left_out_where : goal.returns-in-Ok-clause-left_out_where
returns-in-Ok-clause-left_out_where g c =
    let words = map string_bytes c.args.words.now in
    let read = reads (g.F.Files.state c.args.files.now) (g.F.Files.state c.answer_to.new.files) in
    let written =
    writes (g.O.Sink.state c.args.out.now) (g.O.Sink.state c.write_answer.new.out)
    (g.E.Sink.state c.args.err.now) (g.E.Sink.state c.write_answer.new.err) in
    left_out_where-of words read written c.code.result
    (Ends-given words read written c.code.result c.in-Ok.answer c.in-Ok.ensures.due
    (rw (← c.code.ensures) at c.write_answer.ensures.given))

pub returns-in-Ok-clause-bad_model_where : goal.returns-in-Ok-clause-bad_model_where
returns-in-Ok-clause-bad_model_where g c =
    let words = map string_bytes c.args.words.now in
    let read = reads (g.F.Files.state c.args.files.now) (g.F.Files.state c.answer_to.new.files) in
    let written =
    writes (g.O.Sink.state c.args.out.now) (g.O.Sink.state c.write_answer.new.out)
    (g.E.Sink.state c.args.err.now) (g.E.Sink.state c.write_answer.new.err) in
    bad_model_where-of words read written c.code.result
    (Ends-given words read written c.code.result c.in-Ok.answer c.in-Ok.ensures.due
    (rw (← c.code.ensures) at c.write_answer.ensures.given))

pub returns-in-Ok-clause-bad_config_where : goal.returns-in-Ok-clause-bad_config_where
returns-in-Ok-clause-bad_config_where g c =
    let words = map string_bytes c.args.words.now in
    let read = reads (g.F.Files.state c.args.files.now) (g.F.Files.state c.answer_to.new.files) in
    let written =
    writes (g.O.Sink.state c.args.out.now) (g.O.Sink.state c.write_answer.new.out)
    (g.E.Sink.state c.args.err.now) (g.E.Sink.state c.write_answer.new.err) in
    bad_config_where-of words read written c.code.result
    (Ends-given words read written c.code.result c.in-Ok.answer c.in-Ok.ensures.due
    (rw (← c.code.ensures) at c.write_answer.ensures.given))

pub returns-in-Ok-clause-starved : goal.returns-in-Ok-clause-starved
returns-in-Ok-clause-starved g c =
    let words = map string_bytes c.args.words.now in
    let read = reads (g.F.Files.state c.args.files.now) (g.F.Files.state c.answer_to.new.files) in
    let written =
    writes (g.O.Sink.state c.args.out.now) (g.O.Sink.state c.write_answer.new.out)
    (g.E.Sink.state c.args.err.now) (g.E.Sink.state c.write_answer.new.err) in
    starved-of words read written c.code.result
    (Ends-given words read written c.code.result c.in-Ok.answer c.in-Ok.ensures.due
    (rw (← c.code.ensures) at c.write_answer.ensures.given))

pub returns-in-Ok-clause-unread : goal.returns-in-Ok-clause-unread
returns-in-Ok-clause-unread g c =
    let words = map string_bytes c.args.words.now in
    let read = reads (g.F.Files.state c.args.files.now) (g.F.Files.state c.answer_to.new.files) in
    let written =
    writes (g.O.Sink.state c.args.out.now) (g.O.Sink.state c.write_answer.new.out)
    (g.E.Sink.state c.args.err.now) (g.E.Sink.state c.write_answer.new.err) in
    unread-of words read written c.code.result
    (Ends-given words read written c.code.result c.in-Ok.answer c.in-Ok.ensures.due
    (rw (← c.code.ensures) at c.write_answer.ensures.given))

pub returns-in-Ok-clause-unread_where : goal.returns-in-Ok-clause-unread_where
returns-in-Ok-clause-unread_where g c =
    let words = map string_bytes c.args.words.now in
    let read = reads (g.F.Files.state c.args.files.now) (g.F.Files.state c.answer_to.new.files) in
    let written =
    writes (g.O.Sink.state c.args.out.now) (g.O.Sink.state c.write_answer.new.out)
    (g.E.Sink.state c.args.err.now) (g.E.Sink.state c.write_answer.new.err) in
    unread_where-of words read written c.code.result
    (Ends-given words read written c.code.result c.in-Ok.answer c.in-Ok.ensures.due
    (rw (← c.code.ensures) at c.write_answer.ensures.given))

pub returns-in-Ok-clause-encoded : goal.returns-in-Ok-clause-encoded
returns-in-Ok-clause-encoded g c =
    let words = map string_bytes c.args.words.now in
    let read = reads (g.F.Files.state c.args.files.now) (g.F.Files.state c.answer_to.new.files) in
    let written =
    writes (g.O.Sink.state c.args.out.now) (g.O.Sink.state c.write_answer.new.out)
    (g.E.Sink.state c.args.err.now) (g.E.Sink.state c.write_answer.new.err) in
    encoded-of words read written c.code.result
    (Ends-given words read written c.code.result c.in-Ok.answer c.in-Ok.ensures.due
    (rw (← c.code.ensures) at c.write_answer.ensures.given))

pub returns-in-Ok-clause-options : goal.returns-in-Ok-clause-options
returns-in-Ok-clause-options g c =
    let words = map string_bytes c.args.words.now in
    let read = reads (g.F.Files.state c.args.files.now) (g.F.Files.state c.answer_to.new.files) in
    let written =
    writes (g.O.Sink.state c.args.out.now) (g.O.Sink.state c.write_answer.new.out)
    (g.E.Sink.state c.args.err.now) (g.E.Sink.state c.write_answer.new.err) in
    options-of words read written c.code.result
    (Ends-given words read written c.code.result c.in-Ok.answer c.in-Ok.ensures.due
    (rw (← c.code.ensures) at c.write_answer.ensures.given))

pub returns-in-Ok-clause-bad_words : goal.returns-in-Ok-clause-bad_words
returns-in-Ok-clause-bad_words g c =
    let words = map string_bytes c.args.words.now in
    let read = reads (g.F.Files.state c.args.files.now) (g.F.Files.state c.answer_to.new.files) in
    let written =
    writes (g.O.Sink.state c.args.out.now) (g.O.Sink.state c.write_answer.new.out)
    (g.E.Sink.state c.args.err.now) (g.E.Sink.state c.write_answer.new.err) in
    bad_words-of words read written c.code.result
    (Ends-given words read written c.code.result c.in-Ok.answer c.in-Ok.ensures.due
    (rw (← c.code.ensures) at c.write_answer.ensures.given))

pub returns-in-Ok-clause-bad_config : goal.returns-in-Ok-clause-bad_config
returns-in-Ok-clause-bad_config g c =
    let words = map string_bytes c.args.words.now in
    let read = reads (g.F.Files.state c.args.files.now) (g.F.Files.state c.answer_to.new.files) in
    let written =
    writes (g.O.Sink.state c.args.out.now) (g.O.Sink.state c.write_answer.new.out)
    (g.E.Sink.state c.args.err.now) (g.E.Sink.state c.write_answer.new.err) in
    bad_config-of words read written c.code.result
    (Ends-given words read written c.code.result c.in-Ok.answer c.in-Ok.ensures.due
    (rw (← c.code.ensures) at c.write_answer.ensures.given))

pub returns-in-Ok-clause-headline : goal.returns-in-Ok-clause-headline
returns-in-Ok-clause-headline g c =
    let words = map string_bytes c.args.words.now in
    let read = reads (g.F.Files.state c.args.files.now) (g.F.Files.state c.answer_to.new.files) in
    let written =
    writes (g.O.Sink.state c.args.out.now) (g.O.Sink.state c.write_answer.new.out)
    (g.E.Sink.state c.args.err.now) (g.E.Sink.state c.write_answer.new.err) in
    Headline-of words read written c.code.result
    (Ends-given words read written c.code.result c.in-Ok.answer c.in-Ok.ensures.due
    (rw (← c.code.ensures) at c.write_answer.ensures.given))

pub returns-in-Ok-clause-variant : goal.returns-in-Ok-clause-variant
returns-in-Ok-clause-variant g c =
    let words = map string_bytes c.args.words.now in
    let read = reads (g.F.Files.state c.args.files.now) (g.F.Files.state c.answer_to.new.files) in
    let written =
    writes (g.O.Sink.state c.args.out.now) (g.O.Sink.state c.write_answer.new.out)
    (g.E.Sink.state c.args.err.now) (g.E.Sink.state c.write_answer.new.err) in
    variant-of words read written c.code.result
    (Ends-given words read written c.code.result c.in-Ok.answer c.in-Ok.ensures.due
    (rw (← c.code.ensures) at c.write_answer.ensures.given))

pub returns-in-Ok-clause-variant_where : goal.returns-in-Ok-clause-variant_where
returns-in-Ok-clause-variant_where g c =
    let words = map string_bytes c.args.words.now in
    let read = reads (g.F.Files.state c.args.files.now) (g.F.Files.state c.answer_to.new.files) in
    let written =
    writes (g.O.Sink.state c.args.out.now) (g.O.Sink.state c.write_answer.new.out)
    (g.E.Sink.state c.args.err.now) (g.E.Sink.state c.write_answer.new.err) in
    variant_where-of words read written c.code.result
    (Ends-given words read written c.code.result c.in-Ok.answer c.in-Ok.ensures.due
    (rw (← c.code.ensures) at c.write_answer.ensures.given))

pub returns-in-Ok-clause-refused_where : goal.returns-in-Ok-clause-refused_where
returns-in-Ok-clause-refused_where g c =
    let words = map string_bytes c.args.words.now in
    let read = reads (g.F.Files.state c.args.files.now) (g.F.Files.state c.answer_to.new.files) in
    let written =
    writes (g.O.Sink.state c.args.out.now) (g.O.Sink.state c.write_answer.new.out)
    (g.E.Sink.state c.args.err.now) (g.E.Sink.state c.write_answer.new.err) in
    refused_where-of words read written c.code.result
    (Ends-given words read written c.code.result c.in-Ok.answer c.in-Ok.ensures.due
    (rw (← c.code.ensures) at c.write_answer.ensures.given))

pub returns-in-Ok-clause-refused : goal.returns-in-Ok-clause-refused
returns-in-Ok-clause-refused g c =
    let words = map string_bytes c.args.words.now in
    let read = reads (g.F.Files.state c.args.files.now) (g.F.Files.state c.answer_to.new.files) in
    let written =
    writes (g.O.Sink.state c.args.out.now) (g.O.Sink.state c.write_answer.new.out)
    (g.E.Sink.state c.args.err.now) (g.E.Sink.state c.write_answer.new.err) in
    refused-of words read written c.code.result
    (Ends-given words read written c.code.result c.in-Ok.answer c.in-Ok.ensures.due
    (rw (← c.code.ensures) at c.write_answer.ensures.given))

pub returns-in-Ok-clause-unwritten : goal.returns-in-Ok-clause-unwritten
returns-in-Ok-clause-unwritten g c =
    let words = map string_bytes c.args.words.now in
    let read = reads (g.F.Files.state c.args.files.now) (g.F.Files.state c.answer_to.new.files) in
    let written =
    writes (g.O.Sink.state c.args.out.now) (g.O.Sink.state c.write_answer.new.out)
    (g.E.Sink.state c.args.err.now) (g.E.Sink.state c.write_answer.new.err) in
    unwritten-of words read written c.code.result
    (Ends-given words read written c.code.result c.in-Ok.answer c.in-Ok.ensures.due
    (rw (← c.code.ensures) at c.write_answer.ensures.given))
