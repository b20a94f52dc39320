-- What each status means, from the way in which a call ended.
use Rattle.std.proofs.Common.{◌≡◌, ℕ, Bool, List, [], ◌++◌, Option, Some, None, IsTrue, ◌⊎◌, inl, inr, refl, sym, ◌∙◌, ap, arith, append-nil, subst}
use Rattle.std.specs.Option.{option_map}
use Rattle.hv_base.specs.Bundles.{NamedFiles}
use Rattle.hv_base.specs.Status.{code_of}
use Rattle.hv_base.specs.declared.place.Place.{Place}
use Rattle.hv_base.specs.declared.status.Status.{Status}
use Rattle.hv_base.specs.declared.status.Status.TheVariants as statuses
use Rattle.hv_base.specs.declared.token.CTok.{CTok}
use Rattle.hv_base.specs.declared.why.Why.{Why}
use Rattle.hv_outside.specs.Sink.{Adds, AddsPrefix}
use Rattle.hv_model.specs.declared.faults.ModelFault.{ModelFault}
use Rattle.hv_model.specs.declared.faults.ModelKind.{ModelKind}
use Rattle.hv_model.specs.Config.{text_of}
use Rattle.hv_model.specs.Lines.{Says, fault}
use Rattle.hv_model.specs.Model.{IsModelOf}
use Rattle.hv_model.specs.Rule.{Features}
use Rattle.hv_plain.specs.Source.{SourceLine, IsSmallSource}
use Rattle.hv_plainpp.specs.Reading as readings
use Rattle.hv_print.specs.Shown.{shown}
use Rattle.hv_variant.specs.Variants.{HasTokens}
use Rattle.hv_words.specs.Commands.{Command, Sources, command_of, encode, options, variant}
use Rattle.hv_cli.specs.declared.answer.Answer.{Answer}
use Rattle.hv_cli.specs.declared.answer.Answer.TheVariants.{Encoded, Options, Variant, Fails, BadWords, BadConfig, CannotRead, NoFile, TooBig, BadModel}
use Rattle.hv_cli.specs.declared.position.Position.{Position}
use Rattle.hv_cli.specs.Answer.{status_of, want_of_memory}
use Rattle.hv_cli.specs.Definitions.{IsConfig, definitions_of}
use Rattle.hv_cli.specs.Due.{IsDue, IsDueFor, IsDueTo, IsEncoded, variant_of}
use Rattle.hv_cli.specs.Ends.{Answers, AnswersOrFails, AreRead, AreTold, Ends, Fails as Unwritten, Headline, IsFirstUnusable, IsGood, IsOrFails, Starves, Succeeds, Unread, answered, failed, starved}
use Rattle.hv_cli.specs.Files.{Reads, config_text}
use Rattle.hv_cli.specs.Given.{Writes}
use Rattle.hv_cli.specs.Positions.{position_of}
use Rattle.hv_cli.specs.working.Given.{IsGiven}
use Rattle.hv_cli.proofs.DueLemmas.{encode_not_variant, held_of, not_options, only_bad_config, only_bad_model, only_encoded, only_left_out, only_options, only_refused, only_variant, options_not_variant}
use Rattle.hv_cli.proofs.UnusableLemmas.{only_blamed}

module _ (words : List (List ℕ)) (reads : Reads) (w : Writes) where
  pub Ends-given : (status : ℕ) (answer : Answer) → IsDue reads words answer
      → IsGiven w status answer → Ends words reads w status
  Ends-given status answer due given = elim given [
    | inl whole ↦ answered answer (record { due = due; whole = whole })
    | inr other ↦ elim other [
      | inl unwritten ↦ failed (record { answer = answer; due = due; unwritten = unwritten })
      | inr starves ↦ starved (inl (answer, due, starves))
    ]
  ]

  status_starved : (status : ℕ) → Starves words reads w status → status ≡ 5
  status_starved status (inl s) = s.2.status_is
  status_starved status (inr s) = s.status_is

  -- with a command, what is due is due to it
  due_to : (found : Option Command) (command : Command) (answer : Answer) → found ≡ Some command
      → IsDueFor reads found answer → IsDueTo reads command answer
  due_to (Some other) command answer is due = let same : other ≡ command = cc in
      subst (λ c. IsDueTo reads c answer) same due
  due_to None command answer is due = cc

  encoded-of-at : (sources : Sources) (status : ℕ) (answer : Answer)
      → Answers words reads w status answer → IsDueTo reads (encode sources) answer → status ≡ 0
      → (text : List ℕ) × Answers words reads w status (Encoded text)
  encoded-of-at sources status (Encoded text) a due e = (text, a)
  encoded-of-at sources status (Options text) a due e = absurd (not_options sources due.model_name due.config due.command_is)
  encoded-of-at sources status (Variant text) a due e =
      absurd (encode_not_variant sources due.chosen.sources due.chosen.config due.chosen.command_is)
  encoded-of-at sources status (Fails config position why) a due e = absurd (omega (arith, a.whole.status_is))
  encoded-of-at sources status BadWords a due e = absurd (omega (arith, a.whole.status_is))
  encoded-of-at sources status BadConfig a due e = absurd (omega (arith, a.whole.status_is))
  encoded-of-at sources status (CannotRead name) a due e = absurd (omega (arith, a.whole.status_is))
  encoded-of-at sources status (NoFile name) a due e = absurd (omega (arith, a.whole.status_is))
  encoded-of-at sources status (TooBig name size total) a due e = absurd (omega (arith, a.whole.status_is))
  encoded-of-at sources status (BadModel found) a due e = absurd (omega (arith, a.whole.status_is))

  pub encoded-of : (status : ℕ) → Ends words reads w status → (sources : Sources)
      → command_of words ≡ Some (encode sources) → status ≡ 0
      → (text : List ℕ) × Answers words reads w status (Encoded text)
  encoded-of status (answered answer a) sources is e =
      encoded-of-at sources status answer a
      (due_to (command_of words) (encode sources) answer is a.due) e
  encoded-of status (failed f) sources is e = absurd (omega (arith, f.unwritten.status_is))
  encoded-of status (starved s) sources is e = absurd (omega (arith, status_starved status s))

  options-of-at : (name : Option (List ℕ)) (config : List ℕ) (status : ℕ) (answer : Answer)
      → Answers words reads w status answer → IsDueTo reads (options name config) answer
      → status ≡ 0 → (text : List ℕ) × Answers words reads w status (Options text)
  options-of-at name config status (Encoded text) a due e = absurd (not_options due.sources name config (sym due.command_is))
  options-of-at name config status (Options text) a due e = (text, a)
  options-of-at name config status (Variant text) a due e =
      absurd (options_not_variant name config due.chosen.sources due.chosen.config
      due.chosen.command_is)
  options-of-at name config status (Fails least position why) a due e = absurd (omega (arith, a.whole.status_is))
  options-of-at name config status BadWords a due e = absurd (omega (arith, a.whole.status_is))
  options-of-at name config status BadConfig a due e = absurd (omega (arith, a.whole.status_is))
  options-of-at name config status (CannotRead file) a due e = absurd (omega (arith, a.whole.status_is))
  options-of-at name config status (NoFile file) a due e = absurd (omega (arith, a.whole.status_is))
  options-of-at name config status (TooBig file size total) a due e = absurd (omega (arith, a.whole.status_is))
  options-of-at name config status (BadModel found) a due e = absurd (omega (arith, a.whole.status_is))

  pub options-of : (status : ℕ) → Ends words reads w status → (name : Option (List ℕ))
      (config : List ℕ) → command_of words ≡ Some (options name config) → status ≡ 0
      → (text : List ℕ) × Answers words reads w status (Options text)
  options-of status (answered answer a) name config is e =
      options-of-at name config status answer a
      (due_to (command_of words) (options name config) answer is a.due) e
  options-of status (failed f) name config is e = absurd (omega (arith, f.unwritten.status_is))
  options-of status (starved s) name config is e = absurd (omega (arith, status_starved status s))

  variant-of-at : (sources : Sources) (config : List ℕ) (status : ℕ) (answer : Answer)
      → Answers words reads w status answer → IsDueTo reads (variant sources config) answer
      → status ≡ 0 → (text : List ℕ) × Answers words reads w status (Variant text)
  variant-of-at sources config status (Encoded text) a due e =
      absurd (encode_not_variant due.sources sources config (sym due.command_is))
  variant-of-at sources config status (Options text) a due e =
      absurd (options_not_variant due.model_name due.config sources config (sym due.command_is))
  variant-of-at sources config status (Variant text) a due e = (text, a)
  variant-of-at sources config status (Fails least position why) a due e = absurd (omega (arith, a.whole.status_is))
  variant-of-at sources config status BadWords a due e = absurd (omega (arith, a.whole.status_is))
  variant-of-at sources config status BadConfig a due e = absurd (omega (arith, a.whole.status_is))
  variant-of-at sources config status (CannotRead name) a due e = absurd (omega (arith, a.whole.status_is))
  variant-of-at sources config status (NoFile name) a due e = absurd (omega (arith, a.whole.status_is))
  variant-of-at sources config status (TooBig name size total) a due e = absurd (omega (arith, a.whole.status_is))
  variant-of-at sources config status (BadModel found) a due e = absurd (omega (arith, a.whole.status_is))

  pub variant-of : (status : ℕ) → Ends words reads w status → (sources : Sources)
      (config : List ℕ) → command_of words ≡ Some (variant sources config) → status ≡ 0
      → (text : List ℕ) × Answers words reads w status (Variant text)
  variant-of status (answered answer a) sources config is e =
      variant-of-at sources config status answer a
      (due_to (command_of words) (variant sources config) answer is a.due) e
  variant-of status (failed f) sources config is e = absurd (omega (arith, f.unwritten.status_is))
  variant-of status (starved s) sources config is e = absurd (omega (arith, status_starved status s))

  refused-of-at : (status : ℕ) (answer : Answer) → Answers words reads w status answer → status ≡ 1
      → (config : List ℕ) × (position : Position) × (why : Why)
      × Answers words reads w status (Fails config position why)
  refused-of-at status (Encoded text) a e = absurd (omega (arith, a.whole.status_is))
  refused-of-at status (Options text) a e = absurd (omega (arith, a.whole.status_is))
  refused-of-at status (Variant text) a e = absurd (omega (arith, a.whole.status_is))
  refused-of-at status (Fails config position why) a e = (config, position, why, a)
  refused-of-at status BadWords a e = absurd (omega (arith, a.whole.status_is))
  refused-of-at status BadConfig a e = absurd (omega (arith, a.whole.status_is))
  refused-of-at status (CannotRead name) a e = absurd (omega (arith, a.whole.status_is))
  refused-of-at status (NoFile name) a e = absurd (omega (arith, a.whole.status_is))
  refused-of-at status (TooBig name size total) a e = absurd (omega (arith, a.whole.status_is))
  refused-of-at status (BadModel found) a e = absurd (omega (arith, a.whole.status_is))

  pub refused-of : (status : ℕ) → Ends words reads w status → status ≡ 1
      → (config : List ℕ) × (position : Position) × (why : Why)
      × Answers words reads w status (Fails config position why)
  refused-of status (answered answer a) e = refused-of-at status answer a e
  refused-of status (failed f) e = absurd (omega (arith, f.unwritten.status_is))
  refused-of status (starved s) e = absurd (omega (arith, status_starved status s))

  -- without a command bad words are due, and nothing else
  only_bad_words : (found : Option Command) (answer : Answer) → found ≡ None
      → IsDueFor reads found answer → answer ≡ BadWords
  only_bad_words (Some command) answer none due = cc
  only_bad_words None answer none due = due.0

  pub bad_words-of : (status : ℕ) → Ends words reads w status → command_of words ≡ None
      → status ≡ 2 → Answers words reads w status BadWords
  bad_words-of status (answered answer a) none e =
      let P : Answer → Type 0 = λ given. Answers words reads w status given in
      subst P (only_bad_words (command_of words) answer none a.due) a
  bad_words-of status (failed f) none e = absurd (omega (arith, f.unwritten.status_is))
  bad_words-of status (starved s) none e = absurd (omega (arith, status_starved status s))

  bad_config-of-at : (command : Command) (status : ℕ) (answer : Answer)
      → Answers words reads w status answer → IsDueTo reads command answer → status ≡ 2
      → Answers words reads w status BadConfig
  bad_config-of-at command status (Encoded text) a due e = absurd (omega (arith, a.whole.status_is))
  bad_config-of-at command status (Options text) a due e = absurd (omega (arith, a.whole.status_is))
  bad_config-of-at command status (Variant text) a due e = absurd (omega (arith, a.whole.status_is))
  bad_config-of-at command status (Fails config position why) a due e = absurd (omega (arith, a.whole.status_is))
  bad_config-of-at command status BadWords a due e = absurd due
  bad_config-of-at command status BadConfig a due e = a
  bad_config-of-at command status (CannotRead name) a due e = absurd (omega (arith, a.whole.status_is))
  bad_config-of-at command status (NoFile name) a due e = absurd (omega (arith, a.whole.status_is))
  bad_config-of-at command status (TooBig name size total) a due e = absurd (omega (arith, a.whole.status_is))
  bad_config-of-at command status (BadModel found) a due e = absurd (omega (arith, a.whole.status_is))

  pub bad_config-of : (status : ℕ) → Ends words reads w status → (command : Command)
      → command_of words ≡ Some command → status ≡ 2 → Answers words reads w status BadConfig
  bad_config-of status (answered answer a) command is e =
      bad_config-of-at command status answer a
      (due_to (command_of words) command answer is a.due) e
  bad_config-of status (failed f) command is e = absurd (omega (arith, f.unwritten.status_is))
  bad_config-of status (starved s) command is e = absurd (omega (arith, status_starved status s))

  unread-of-at : (status : ℕ) (answer : Answer) → Answers words reads w status answer → status ≡ 3
      → Unread words reads w status
  unread-of-at status (Encoded text) a e = absurd (omega (arith, a.whole.status_is))
  unread-of-at status (Options text) a e = absurd (omega (arith, a.whole.status_is))
  unread-of-at status (Variant text) a e = absurd (omega (arith, a.whole.status_is))
  unread-of-at status (Fails config position why) a e = absurd (omega (arith, a.whole.status_is))
  unread-of-at status BadWords a e = absurd (omega (arith, a.whole.status_is))
  unread-of-at status BadConfig a e = absurd (omega (arith, a.whole.status_is))
  unread-of-at status (CannotRead name) a e = inl (name, a)
  unread-of-at status (NoFile name) a e = inr (inl (name, a))
  unread-of-at status (TooBig name size total) a e = inr (inr (name, (size, (total, a))))
  unread-of-at status (BadModel found) a e = absurd (omega (arith, a.whole.status_is))

  pub unread-of : (status : ℕ) → Ends words reads w status → status ≡ 3
      → Unread words reads w status
  unread-of status (answered answer a) e = unread-of-at status answer a e
  unread-of status (failed f) e = absurd (omega (arith, f.unwritten.status_is))
  unread-of status (starved s) e = absurd (omega (arith, status_starved status s))

  bad_model-of-at : (status : ℕ) (answer : Answer) → Answers words reads w status answer
      → status ≡ 7 → (found : ModelFault) × Answers words reads w status (BadModel found)
  bad_model-of-at status (Encoded text) a e = absurd (omega (arith, a.whole.status_is))
  bad_model-of-at status (Options text) a e = absurd (omega (arith, a.whole.status_is))
  bad_model-of-at status (Variant text) a e = absurd (omega (arith, a.whole.status_is))
  bad_model-of-at status (Fails config position why) a e = absurd (omega (arith, a.whole.status_is))
  bad_model-of-at status BadWords a e = absurd (omega (arith, a.whole.status_is))
  bad_model-of-at status BadConfig a e = absurd (omega (arith, a.whole.status_is))
  bad_model-of-at status (CannotRead name) a e = absurd (omega (arith, a.whole.status_is))
  bad_model-of-at status (NoFile name) a e = absurd (omega (arith, a.whole.status_is))
  bad_model-of-at status (TooBig name size total) a e = absurd (omega (arith, a.whole.status_is))
  bad_model-of-at status (BadModel found) a e = (found, a)

  pub bad_model-of : (status : ℕ) → Ends words reads w status → status ≡ 7 → (found : ModelFault)
      × Answers words reads w status (BadModel found)
  bad_model-of status (answered answer a) e = bad_model-of-at status answer a e
  bad_model-of status (failed f) e = absurd (omega (arith, f.unwritten.status_is))
  bad_model-of status (starved s) e = absurd (omega (arith, status_starved status s))

  not_four : (answer : Answer) → code_of (status_of answer) ≡ 4 → ⊥
  not_four (Encoded text) e = omega arith
  not_four (Options text) e = omega arith
  not_four (Variant text) e = omega arith
  not_four (Fails config position why) e = omega arith
  not_four BadWords e = omega arith
  not_four BadConfig e = omega arith
  not_four (CannotRead name) e = omega arith
  not_four (NoFile name) e = omega arith
  not_four (TooBig name size total) e = omega arith
  not_four (BadModel found) e = omega arith

  not_five : (answer : Answer) → code_of (status_of answer) ≡ 5 → ⊥
  not_five (Encoded text) e = omega arith
  not_five (Options text) e = omega arith
  not_five (Variant text) e = omega arith
  not_five (Fails config position why) e = omega arith
  not_five BadWords e = omega arith
  not_five BadConfig e = omega arith
  not_five (CannotRead name) e = omega arith
  not_five (NoFile name) e = omega arith
  not_five (TooBig name size total) e = omega arith
  not_five (BadModel found) e = omega arith

  pub unwritten-of : (status : ℕ) → Ends words reads w status → status ≡ 4
      → Unwritten words reads w status
  unwritten-of status (answered answer a) e = absurd (not_four answer (sym a.whole.status_is ∙ e))
  unwritten-of status (failed f) e = f
  unwritten-of status (starved s) e = absurd (omega (arith, status_starved status s))

  pub starved-of : (status : ℕ) → Ends words reads w status → status ≡ 5
      → Starves words reads w status
  starved-of status (answered answer a) e = absurd (not_five answer (sym a.whole.status_is ∙ e))
  starved-of status (failed f) e = absurd (omega (arith, f.unwritten.status_is))
  starved-of status (starved s) e = s

  pub refused_words-of : (status : ℕ) → Ends words reads w status → command_of words ≡ None
      → (status ≡ 2) ⊎ ((status ≡ 4) ⊎ (status ≡ 5))
  refused_words-of status (answered answer a) none =
      inl (a.whole.status_is ∙ ap (λ (given : Answer). code_of (status_of given))
      (only_bad_words (command_of words) answer none a.due))
  refused_words-of status (failed f) none = inr (inl f.unwritten.status_is)
  refused_words-of status (starved s) none = inr (inr (status_starved status s))

  text_after : (before now : Option (List ℕ)) (text : List ℕ) → Adds before now text
      → (so_far : List ℕ) → before ≡ Some so_far → now ≡ Some (so_far ++ text)
  text_after before now text added so_far is = added ∙ ap (option_map (λ bytes. bytes ++ text)) is

  pub Headline-of : (status : ℕ) → Ends words reads w status → (sources : Sources)
      → command_of words ≡ Some (encode sources) → status ≡ 0 → IsTrue reads.before.told
      → Headline sources reads.before.held w.out_before.written w.out_now.written
  Headline-of status ends sources is zero told =
      let found = encoded-of status ends sources is zero in
      let text : List ℕ = found.0 in
      let e : IsEncoded reads (encode sources) text =
      due_to (command_of words) (encode sources) (Encoded text) is found.1.due in
      record {
        model_file = e.input.bytes;
        model_held = held_of reads sources.model e.input.bytes told e.input.model_file;
        source = e.source;
        source_held = e.input.main.held told;
        model = e.model;
        model_read = e.input.accepted;
        body = e.body;
        source_read = e.small;
        text = text;
        text_written = text_after w.out_before.written w.out_now.written text found.1.whole.output;
        product = e.encodes.product;
        product_read = e.encodes.reads;
        agrees = e.encodes.runs.agrees;
      }

  complete-at : (good : IsGood words reads w) (status : ℕ) (answer : Answer)
      → Answers words reads w status answer → (text : List ℕ) × (answer ≡ Encoded text)
      → Succeeds words reads w status
  complete-at good status answer a is =
      let P : Answer → Type 0 = λ given. Answers words reads w status given in
      inl (
        a.whole.status_is ∙ ap (λ (given : Answer). code_of (status_of given)) is.1,
        (is.0, subst P is.1 a),
      )

  pub complete-of : (status : ℕ) → Ends words reads w status → IsGood words reads w
      → Succeeds words reads w status
  complete-of status (answered answer a) good =
      complete-at good status answer a
      (only_encoded reads good.sources good.model_file good.source good.read good.model
      good.model_read good.body good.source_read answer
      (due_to (command_of words) (encode good.sources) answer good.words_are a.due))
  complete-of status (failed f) good = elim f.unwritten.cause [
    | inl out ↦ absurd (good.no_output_fault out.0)
    | inr err ↦ absurd (good.no_message_fault err.0)
  ]
  complete-of status (starved s) good = inr (status_starved status s)

  -- where the answers that are due to a command have one status, the call ends with it, or 4 or 5
  ends_with : (wanted : Status) (status : ℕ) (command : Command) → command_of words ≡ Some command
      → ((answer : Answer) → IsDueTo reads command answer
      → code_of (status_of answer) ≡ code_of wanted)
      → Ends words reads w status → IsOrFails wanted status
  ends_with wanted status command is only (answered answer a) =
      inl (a.whole.status_is ∙ only answer (due_to (command_of words) command answer is a.due))
  ends_with wanted status command is only (failed f) = inr (inl f.unwritten.status_is)
  ends_with wanted status command is only (starved s) = inr (inr (status_starved status s))

  -- where one answer is due to a command, it is given, or 4 or 5 stands in its place
  answers_with : (wanted : Answer) (status : ℕ) (command : Command)
      → command_of words ≡ Some command
      → ((answer : Answer) → IsDueTo reads command answer → answer ≡ wanted)
      → Ends words reads w status → AnswersOrFails words reads w status wanted
  answers_with wanted status command is only (answered answer a) =
      let P : Answer → Type 0 = λ given. Answers words reads w status given in
      inl (subst P (only answer (due_to (command_of words) command answer is a.due)) a)
  answers_with wanted status command is only (failed f) = inr (inl f.unwritten.status_is)
  answers_with wanted status command is only (starved s) = inr (inr (status_starved status s))

  pub bad_model_where-of : (status : ℕ) → Ends words reads w status
      → (command : Command) (model_file source : List ℕ) (line : ℕ) (kind : ModelKind)
      → command_of words ≡ Some command → AreRead reads command model_file source
      → Says model_file (fault line kind) → IsOrFails statuses.BadModel status
  bad_model_where-of status ends command model_file source line kind is read refused =
      ends_with statuses.BadModel status command is
      (only_bad_model reads command model_file source read line kind refused) ends

  pub bad_config_where-of : (status : ℕ) → Ends words reads w status
      → (command : Command) (text model_file source : List ℕ) (m : Features)
      → command_of words ≡ Some command → config_text command ≡ Some text
      → AreRead reads command model_file source → IsModelOf model_file m
      → ((values : List Bool) → IsConfig m text values → ⊥)
      → AnswersOrFails words reads w status BadConfig
  bad_config_where-of status ends command text model_file source m is takes read accepted none =
      answers_with BadConfig status command is
      (only_bad_config reads command text model_file source m takes read accepted none) ends

  pub left_out_where-of : (status : ℕ) → Ends words reads w status
      → (sources : Sources) (model_file source : List ℕ) (m : Features)
      → command_of words ≡ Some (encode sources)
      → AreRead reads (encode sources) model_file source → IsModelOf model_file m
      → ((body : List SourceLine) → IsSmallSource m.names source body → ⊥)
      → IsOrFails statuses.Refused status
  left_out_where-of status ends sources model_file source m is read accepted none =
      ends_with statuses.Refused status (encode sources) is
      (only_left_out reads sources model_file source read m accepted none) ends

  pub complete_options-of : (status : ℕ) → Ends words reads w status
      → (name : Option (List ℕ)) (text model_file source : List ℕ) (m : Features)
      (values : List Bool)
      → command_of words ≡ Some (options name text)
      → AreRead reads (options name text) model_file source → IsModelOf model_file m
      → IsConfig m text values
      → AnswersOrFails words reads w status (Options (definitions_of m.names values))
  complete_options-of status ends name text model_file source m values is read accepted means =
      answers_with (Options (definitions_of m.names values)) status (options name text) is
      (only_options reads name text model_file source m values read accepted means) ends

  pub unread_where-of : (status : ℕ) → Ends words reads w status
      → (command : Command) (blamed : Answer) → command_of words ≡ Some command
      → IsFirstUnusable reads command blamed → AnswersOrFails words reads w status blamed
  unread_where-of status ends command blamed is bad =
      answers_with blamed status command is (only_blamed reads command blamed bad) ends

  pub variant_where-of : (status : ℕ) → Ends words reads w status
      → (sources : Sources) (text model_file source : List ℕ) (m : Features) (values : List Bool)
      (bundle : NamedFiles) (toks : List CTok)
      → command_of words ≡ Some (variant sources text)
      → AreRead reads (variant sources text) model_file source
      → AreTold reads.before.held sources bundle
      → IsModelOf model_file m → IsConfig m text values
      → HasTokens (variant_of bundle m values) toks
      → AnswersOrFails words reads w status (Variant (shown toks))
  variant_where-of status ends sources text model_file source m values bundle toks is read told
      accepted means has =
      answers_with (Variant (shown toks)) status (variant sources text) is
      (only_variant reads sources text model_file source read bundle told m accepted values means
      toks has) ends

  pub refused_where-of : (status : ℕ) → Ends words reads w status
      → (sources : Sources) (text model_file source : List ℕ) (m : Features) (values : List Bool)
      (bundle : NamedFiles) (place : Place) (why : Why)
      → command_of words ≡ Some (variant sources text)
      → AreRead reads (variant sources text) model_file source
      → AreTold reads.before.held sources bundle
      → IsModelOf model_file m → IsConfig m text values
      → (variant_of bundle m values).ending ≡ readings.refused why place
      → AnswersOrFails words reads w status
      (Fails (text_of m.names values) (position_of bundle place) why)
  refused_where-of status ends sources text model_file source m values bundle place why is read told
      accepted means ends_so =
      answers_with (Fails (text_of m.names values) (position_of bundle place) why) status
      (variant sources text) is
      (only_refused reads sources text model_file source read bundle told m accepted values means
      place why ends_so) ends

-- what is written before memory ran out for the answer itself: nothing
pub Adds-nothing : (before now : Option (List ℕ)) → now ≡ before → Adds before now []
Adds-nothing (Some bytes) now e = rw (e, append-nil) refl
Adds-nothing None now e = e

pub Ends-starved : (words : List (List ℕ)) (reads : Reads) (w : Writes) (status : ℕ) → status ≡ 5
    → w.out_now.written ≡ w.out_before.written
    → AddsPrefix w.err_before.written w.err_now.written want_of_memory → Ends words reads w status
Ends-starved words reads w status five same front =
    starved (inr
    (record {
      status_is = five;
      output_prefix =
          (0, Adds-nothing w.out_before.written w.out_now.written same);
      message_prefix =
          inl front;
    }))
