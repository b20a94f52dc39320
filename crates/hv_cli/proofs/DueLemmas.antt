-- Which answers can be due to a command whose files can be read.
use Rattle.std.proofs.Common.{◌≡◌, ℕ, Bool, List, Option, Some, None, Result, Ok, Err, IsTrue, inl, inr, refl, sym, ◌∙◌, ap, arith, length, map, subst, ◌≤◌}
use Rattle.hv_base.specs.Bundles.{NamedFiles}
use Rattle.hv_base.specs.Status.{code_of}
use Rattle.hv_base.specs.declared.limits.TheConstants.{MOST_FILE_BYTES}
use Rattle.hv_base.specs.declared.place.Place.{Place}
use Rattle.hv_base.specs.declared.token.CTok.{CTok}
use Rattle.hv_base.specs.declared.why.Why.{Why}
use Rattle.hv_model.specs.Config.{config as said, text_of}
use Rattle.hv_model.specs.Lines.{Says, model, fault}
use Rattle.hv_model.specs.Model.{IsModelOf}
use Rattle.hv_model.specs.Rule.{Features}
use Rattle.hv_model.specs.declared.faults.ModelKind.{ModelKind}
use Rattle.hv_model.proofs.OneReading.{says_one}
use Rattle.hv_plain.specs.Source.{SourceLine, IsSmallSource}
use Rattle.hv_plainpp.specs.CTokens.{Identity}
use Rattle.hv_plainpp.specs.Reading as readings
use Rattle.hv_plainpp.specs.Reading.{Ending, Reading, reaches}
use Rattle.hv_print.specs.Shown.{shown}
use Rattle.hv_variant.specs.Variants.{HasTokens}
use Rattle.hv_words.specs.Commands.{Command, Sources, encode, options, variant}
use Rattle.hv_cli.specs.declared.answer.Answer.{Answer}
use Rattle.hv_cli.specs.declared.answer.Answer.TheVariants.{Encoded, Options, Variant, Fails, BadWords, BadConfig, CannotRead, NoFile, TooBig, BadModel}
use Rattle.hv_cli.specs.declared.position.Position.{Position}
use Rattle.hv_cli.specs.declared.read.Role.{Role}
use Rattle.hv_cli.specs.declared.read.Role.TheVariants.{Model, Main}
use Rattle.hv_cli.specs.Answer.{status_of}
use Rattle.hv_cli.specs.Definitions.{IsConfig, definitions_of}
use Rattle.hv_cli.specs.Due.{IsBadConfig, IsBadModel, IsChosen, IsDueTo, IsInput, IsPreprocessed, IsRefusedIn, variant_of}
use Rattle.hv_cli.specs.Ends.{AreRead, AreTold, CanGather, IsHeld}
use Rattle.hv_cli.specs.Files.{IsGathered, IsRead, Reads, config_text, gathered_of, name_of}
use Rattle.hv_cli.specs.Positions.{position_of}

pub some_same : {A : Type 0} (o : Option A) (x y : A) → o ≡ Some x → o ≡ Some y → x ≡ y
some_same o x y p q = cc

pub not_options : (sources : Sources) (name : Option (List ℕ)) (text : List ℕ)
    → encode sources ≡ options name text → ⊥
not_options sources name text e = cc

pub encode_not_variant : (sources other : Sources) (text : List ℕ)
    → encode sources ≡ variant other text → ⊥
encode_not_variant sources other text e = cc

pub options_not_variant : (name : Option (List ℕ)) (text : List ℕ) (sources : Sources)
    (more : List ℕ) → options name text ≡ variant sources more → ⊥
options_not_variant name text sources more e = cc

same_text : (name other : Option (List ℕ)) (text more : List ℕ)
    → options name text ≡ options other more → text ≡ more
same_text name other text more e = cc

-- `encode` takes no configuration
encode_takes_none : (command : Command) (sources : Sources) (text : List ℕ)
    → command ≡ encode sources → config_text command ≡ Some text → ⊥
encode_takes_none (encode other) sources text is e = cc
encode_takes_none (variant other config) sources text is e = cc
encode_takes_none (options name config) sources text is e = cc

-- the text of the configuration of `options`
text_of_options : (command : Command) (name : Option (List ℕ)) (config text : List ℕ)
    → command ≡ options name config → config_text command ≡ Some text → config ≡ text
text_of_options (encode sources) name config text is e = cc
text_of_options (variant sources other) name config text is e = cc
text_of_options (options other more) name config text is e = cc

-- the text of the configuration of `variant`
text_of_variant : (command : Command) (sources : Sources) (config text : List ℕ)
    → command ≡ variant sources config → config_text command ≡ Some text → config ≡ text
text_of_variant (encode other) sources config text is e = cc
text_of_variant (variant other more) sources config text is e = cc
text_of_variant (options name more) sources config text is e = cc

-- what `variant` was asked for
same_sources : (sources other : Sources) (text more : List ℕ)
    → variant sources text ≡ variant other more → other ≡ sources
same_sources sources other text more e = cc

same_config : (sources other : Sources) (text more : List ℕ)
    → variant sources text ≡ variant other more → more ≡ text
same_config sources other text more e = cc

one_bundle : {E : Type 0} (b bundle : NamedFiles) → ◌≡◌ {A = Result NamedFiles E} (Ok b) (Ok bundle)
    → b ≡ bundle
one_bundle b bundle e = cc

not_both_ends : {E : Type 0} (b : NamedFiles) (e : E)
    → ◌≡◌ {A = Result NamedFiles E} (Ok b) (Err e) → ⊥
not_both_ends b e is = cc

one_left : {A : Type 0} (e : Ending A) (left others : A) → e ≡ reaches left → e ≡ reaches others
    → left ≡ others
one_left e left others p q = cc

not_refused : {A : Type 0} (e : Ending A) (left : A) (why : Why) (place : Place)
    → e ≡ reaches left → e ≡ readings.refused why place → ⊥
not_refused e left why place p q = cc

one_why : {A : Type 0} (e : Ending A) (why other : Why) (place at : Place)
    → e ≡ readings.refused why place → e ≡ readings.refused other at → other ≡ why
one_why e why other place at p q = cc

one_place : {A : Type 0} (e : Ending A) (why other : Why) (place at : Place)
    → e ≡ readings.refused why place → e ≡ readings.refused other at → at ≡ place
one_place e why other place at p q = cc

-- a reading comes to one list of tokens
one_tokens : (r : Reading (List (CTok × Identity))) (toks others : List CTok)
    → HasTokens r toks → HasTokens r others → toks ≡ others
one_tokens r toks others p q =
    p.2 ∙ ap (map (λ (t : CTok × Identity). t.0)) (one_left r.ending p.0 q.0 p.1 q.1) ∙ sym q.2

same_fails : (c d : List ℕ) (p q : Position) (v w : Why) → c ≡ d → p ≡ q → v ≡ w
    → Fails c p v ≡ Fails d q w
same_fails c d p q v w e f g = cc

-- what is so of one bundle, model and configuration is so of the same ones
moved : (P : NamedFiles → Features → List Bool → Type 0) (b bundle : NamedFiles) (f m : Features)
    (vs values : List Bool) → (b ≡ bundle) × (f ≡ m) × (vs ≡ values) → P b f vs
    → P bundle m values
moved P b bundle f m vs values same is =
    subst (λ (v : List Bool). P bundle m v) same.2
    (subst (λ (g : Features). P bundle g vs) same.1
    (subst (λ (c : NamedFiles). P c f vs) same.0 is))

module _ (reads : Reads) where
  -- what was read of a file is what is held
  pub held_of : (name : Option (List ℕ)) (bytes : List ℕ) → IsTrue reads.before.told
      → IsRead reads name bytes → IsHeld reads.before.held name bytes
  held_of None bytes told read = read
  held_of (Some name) bytes told read = read.held told

  -- a file says one model
  pub model_same : (bytes : List ℕ) (m f : Features) → IsModelOf bytes m → IsModelOf bytes f → m ≡ f
  model_same bytes m f p q = of_model (says_one bytes (model f) (model m) q p)
    where
      of_model : model m ≡ model f → m ≡ f
      of_model e = cc

  -- what is held is one thing
  held_same : (name : Option (List ℕ)) (bytes other : List ℕ) → IsHeld reads.before.held name bytes
      → IsHeld reads.before.held name other → bytes ≡ other
  held_same None bytes other p q = p ∙ sym q
  held_same (Some name) bytes other p q = some_same (reads.before.held name) bytes other p q

  -- this is held under the name of a file that the command has
  pub held_at : (found : Option (List ℕ)) (name bytes : List ℕ) → found ≡ Some name
      → IsHeld reads.before.held found bytes → reads.before.held name ≡ Some bytes
  held_at None name bytes is held = cc
  held_at (Some other) name bytes is held = let same : name ≡ other = cc in
      ap reads.before.held same ∙ held

  held_in : (command : Command) (model_file source : List ℕ)
      (read : AreRead reads command model_file source) (role : Role) (name : List ℕ)
      → name_of command role ≡ Some name
      → (bytes : List ℕ) × (reads.before.held name ≡ Some bytes) × (length bytes ≤ MOST_FILE_BYTES)
  held_in command model_file source read Model name asked =
      (model_file, held_at _ name model_file asked read.model_held, read.model_small)
  held_in command model_file source read Main name asked =
      (source, held_at _ name source asked read.source_held, read.source_small)

  -- sources that a command gathers can be gathered
  told_of : (found : Option Sources) (sources : Sources) → found ≡ Some sources
      → CanGather reads.before.held found
      → (bundle : NamedFiles) × AreTold reads.before.held sources bundle
  told_of None sources is can = cc
  told_of (Some other) sources is can = let same : other ≡ sources = cc in
      subst (λ (s : Sources). (bundle : NamedFiles) × AreTold reads.before.held s bundle) same can

  -- files that can be read are found, so no answer that blames them is due
  blames : (command : Command) (model_file source : List ℕ)
      (read : AreRead reads command model_file source) (answer : Answer)
      → code_of (status_of answer) ≡ 3 → IsDueTo reads command answer → ⊥
  blames command model_file source read (Encoded text) e due = omega arith
  blames command model_file source read (Options text) e due = omega arith
  blames command model_file source read (Variant text) e due = omega arith
  blames command model_file source read (Fails config position why) e due = omega arith
  blames command model_file source read BadWords e due = due
  blames command model_file source read BadConfig e due = omega arith
  blames command model_file source read (CannotRead name) e (inl due) =
      read.no_read_fault due.rose
  blames command model_file source read (CannotRead name) e (inr due) =
      read.no_read_fault due.cause.0
  blames command model_file source read (NoFile name) e (inl due) =
      let held = (held_in command model_file source read due.role name due.asked).1 in
      let none = due.held read.told in cc
  blames command model_file source read (NoFile name) e (inr due) =
      let can = told_of (gathered_of command) due.sources due.gathers.asked read.gathered in
      not_both_ends can.0 _ (sym can.1 ∙ due.none read.told)
  blames command model_file source read (TooBig name size total) e (inl due) =
      let found = due.held read.told in
      let held = held_in command model_file source read due.role name due.asked in
      let same = some_same (reads.before.held name) found.0 held.0 found.1 held.1 in
      omega (arith, ap length same, due.beyond, found.2, held.2)
  blames command model_file source read (TooBig name size total) e (inr due) =
      let can = told_of (gathered_of command) due.sources due.gathers.asked read.gathered in
      not_both_ends can.0 _ (sym can.1 ∙ due.first read.told)
  blames command model_file source read (BadModel found) e due = omega arith

  -- the files of the input are those that are held
  same_input : (command : Command) (model_file source : List ℕ)
      (read : AreRead reads command model_file source) (m : Features) (other : List ℕ)
      → IsInput reads command m other → IsModelOf model_file m × (other ≡ source)
  same_input command model_file source read m other input =
      let same_file : input.bytes ≡ model_file =
      held_same (name_of command Model) input.bytes model_file
      (held_of (name_of command Model) input.bytes read.told input.model_file) read.model_held in (
        rw same_file at input.accepted,
        held_same (name_of command Main) other source
            (held_of (name_of command Main) other read.told input.main) read.source_held,
      )

  same_fault : (command : Command) (model_file source : List ℕ)
      (read : AreRead reads command model_file source) (line : ℕ) (kind : ModelKind)
      → IsBadModel reads command line kind → Says model_file (fault line kind)
  same_fault command model_file source read line kind due =
      let same_file : due.bytes ≡ model_file =
      held_same (name_of command Model) due.bytes model_file
      (held_of (name_of command Model) due.bytes read.told due.model_file) read.model_held in
      rw same_file at due.refused

  pub not_both : (bytes : List ℕ) (m : Features) (line : ℕ) (kind : ModelKind) → IsModelOf bytes m
      → Says bytes (fault line kind) → ⊥
  not_both bytes m line kind p q = of_fault (says_one bytes (model m) (fault line kind) p q)
    where
      of_fault : fault line kind ≡ model m → ⊥
      of_fault e = cc

  -- the input's model is the one that the model file says
  same_model : (command : Command) (model_file source : List ℕ)
      (read : AreRead reads command model_file source) (m other : Features) (input : List ℕ)
      → IsModelOf model_file m → IsInput reads command other input → other ≡ m
  same_model command model_file source read m other input accepted is =
      model_same model_file other m
      (same_input command model_file source read other input is).0 accepted

  pub only_bad_model : (command : Command) (model_file source : List ℕ)
      → AreRead reads command model_file source → (line : ℕ) (kind : ModelKind)
      → Says model_file (fault line kind)
      → (answer : Answer) → IsDueTo reads command answer → code_of (status_of answer) ≡ 7
  only_bad_model command model_file source read line kind refused (Encoded text) due =
      absurd (not_both model_file due.model line kind
      (same_input command model_file source read due.model due.source due.input).0 refused)
  only_bad_model command model_file source read line kind refused (Options text) due =
      absurd (not_both model_file due.model line kind
      (same_input command model_file source read due.model due.source due.input).0 refused)
  only_bad_model command model_file source read line kind refused (Variant text) due =
      absurd (not_both model_file due.model line kind
      (same_input command model_file source read due.model due.chosen.source due.chosen.input).0
      refused)
  only_bad_model command model_file source read line kind refused (Fails config position why)
      (inl due) =
      absurd (not_both model_file due.model line kind
      (same_input command model_file source read due.model due.source due.input).0 refused)
  only_bad_model command model_file source read line kind refused (Fails config position why)
      (inr due) =
      absurd (not_both model_file due.model line kind
      (same_input command model_file source read due.model due.chosen.source due.chosen.input).0
      refused)
  only_bad_model command model_file source read line kind refused BadWords due = absurd due
  only_bad_model command model_file source read line kind refused BadConfig due =
      absurd (not_both model_file due.model line kind
      (same_input command model_file source read due.model due.source due.input).0 refused)
  only_bad_model command model_file source read line kind refused (CannotRead name) due =
      absurd (blames command model_file source read (CannotRead name) refl due)
  only_bad_model command model_file source read line kind refused (NoFile name) due =
      absurd (blames command model_file source read (NoFile name) refl due)
  only_bad_model command model_file source read line kind refused (TooBig name size total) due =
      absurd (blames command model_file source read (TooBig name size total) refl due)
  only_bad_model command model_file source read line kind refused (BadModel found) due = refl

  not_chosen : (command : Command) (text model_file source : List ℕ) (m : Features)
      → config_text command ≡ Some text → AreRead reads command model_file source
      → IsModelOf model_file m → ((values : List Bool) → IsConfig m text values → ⊥)
      → (bundle : NamedFiles) (f : Features) (values : List Bool)
      → IsChosen reads command bundle f values → ⊥
  not_chosen command text model_file source m takes read accepted none bundle f values chosen =
      let one_model = same_model command model_file source read m f chosen.source accepted
      chosen.input in
      let one_text : chosen.config ≡ text =
      text_of_variant command chosen.sources chosen.config text chosen.command_is takes in
      none values (rw (one_model, one_text) at chosen.configuration)

  pub only_bad_config : (command : Command) (text model_file source : List ℕ) (m : Features)
      → config_text command ≡ Some text → AreRead reads command model_file source
      → IsModelOf model_file m → ((values : List Bool) → IsConfig m text values → ⊥)
      → (answer : Answer) → IsDueTo reads command answer → answer ≡ BadConfig
  only_bad_config command text model_file source m takes read accepted none (Encoded written) due =
      absurd (encode_takes_none command due.sources text due.command_is takes)
  only_bad_config command text model_file source m takes read accepted none (Options written) due =
      let one_model = same_model command model_file source read m due.model due.source accepted
      due.input in
      let one_text : due.config ≡ text = text_of_options command due.model_name due.config text
      due.command_is takes in
      absurd (none due.values (rw (one_model, one_text) at due.configuration))
  only_bad_config command text model_file source m takes read accepted none (Variant written) due =
      absurd (not_chosen command text model_file source m takes read accepted none due.bundle
      due.model due.values due.chosen)
  only_bad_config command text model_file source m takes read accepted none (Fails config position why) (inl due) =
      absurd (encode_takes_none command due.sources text due.command_is takes)
  only_bad_config command text model_file source m takes read accepted none (Fails config position why) (inr due) =
      absurd (not_chosen command text model_file source m takes read accepted none due.bundle
      due.model due.values due.chosen)
  only_bad_config command text model_file source m takes read accepted none BadWords due = absurd due
  only_bad_config command text model_file source m takes read accepted none BadConfig due = refl
  only_bad_config command text model_file source m takes read accepted none (CannotRead name) due =
      absurd (blames command model_file source read (CannotRead name) refl due)
  only_bad_config command text model_file source m takes read accepted none (NoFile name) due =
      absurd (blames command model_file source read (NoFile name) refl due)
  only_bad_config command text model_file source m takes read accepted none (TooBig name size total) due =
      absurd (blames command model_file source read (TooBig name size total) refl due)
  only_bad_config command text model_file source m takes read accepted none (BadModel found) due =
      absurd (not_both model_file m found.line found.kind accepted
      (same_fault command model_file source read found.line found.kind due))

  pub only_left_out : (sources : Sources) (model_file source : List ℕ)
      → AreRead reads (encode sources) model_file source → (m : Features) → IsModelOf model_file m
      → ((body : List SourceLine) → IsSmallSource m.names source body → ⊥) → (answer : Answer)
      → IsDueTo reads (encode sources) answer → code_of (status_of answer) ≡ 1
  only_left_out sources model_file source read m accepted none (Encoded text) due =
      let same = same_input (encode sources) model_file source read due.model due.source due.input
      in
      let one_model = model_same model_file due.model m same.0 accepted in
      absurd (none due.body (rw (one_model, same.1) at due.small))
  only_left_out sources model_file source read m accepted none (Options text) due =
      absurd (not_options sources due.model_name due.config due.command_is)
  only_left_out sources model_file source read m accepted none (Variant text) due =
      absurd (encode_not_variant sources due.chosen.sources due.chosen.config due.chosen.command_is)
  only_left_out sources model_file source read m accepted none (Fails config position why) due = refl
  only_left_out sources model_file source read m accepted none BadWords due = absurd due
  only_left_out sources model_file source read m accepted none BadConfig due =
      absurd (encode_takes_none (encode sources) sources due.text refl due.text_is)
  only_left_out sources model_file source read m accepted none (CannotRead name) due =
      absurd (blames (encode sources) model_file source read (CannotRead name) refl due)
  only_left_out sources model_file source read m accepted none (NoFile name) due =
      absurd (blames (encode sources) model_file source read (NoFile name) refl due)
  only_left_out sources model_file source read m accepted none (TooBig name size total) due =
      absurd (blames (encode sources) model_file source read (TooBig name size total) refl due)
  only_left_out sources model_file source read m accepted none (BadModel found) due =
      absurd (not_both model_file m found.line found.kind accepted
      (same_fault (encode sources) model_file source read found.line found.kind due))

  -- a text means one configuration
  config_same : (m : Features) (text : List ℕ) (values others : List Bool)
      → IsConfig m text values → IsConfig m text others → values ≡ others
  config_same m text values others p q = of_config (sym p.means ∙ q.means)
    where
      of_config : said values ≡ said others → values ≡ others
      of_config e = cc

  pub only_options : (name : Option (List ℕ)) (text model_file source : List ℕ) (m : Features)
      (values : List Bool)
      → AreRead reads (options name text) model_file source → IsModelOf model_file m
      → IsConfig m text values
      → (answer : Answer) → IsDueTo reads (options name text) answer
      → answer ≡ Options (definitions_of m.names values)
  only_options name text model_file source m values read accepted means (Encoded written) due =
      absurd (not_options due.sources name text (sym due.command_is))
  only_options name text model_file source m values read accepted means (Options written) due =
      let one_model = same_model (options name text) model_file source read m due.model due.source
      accepted due.input in
      let one_text : due.config ≡ text =
      sym (same_text name due.model_name text due.config due.command_is) in
      let one_config : due.values ≡ values =
      config_same m text due.values values (rw (one_model, one_text) at due.configuration) means in
      ap (λ (t : List ℕ). Options t) due.text_is
      ∙ ap (λ (vs : List Bool). Options (definitions_of due.model.names vs)) one_config
      ∙ ap (λ (f : Features). Options (definitions_of f.names values)) one_model
  only_options name text model_file source m values read accepted means (Variant written) due =
      absurd (options_not_variant name text due.chosen.sources due.chosen.config
      due.chosen.command_is)
  only_options name text model_file source m values read accepted means (Fails config position why) (inl due) =
      absurd (not_options due.sources name text (sym due.command_is))
  only_options name text model_file source m values read accepted means (Fails config position why) (inr due) =
      absurd (options_not_variant name text due.chosen.sources due.chosen.config
      due.chosen.command_is)
  only_options name text model_file source m values read accepted means BadWords due = absurd due
  only_options name text model_file source m values read accepted means BadConfig due =
      let one_model = same_model (options name text) model_file source read m due.model due.source
      accepted due.input in
      let one_text : due.text ≡ text = let e = due.text_is in cc in
      absurd (due.no_config values (rw (one_model, one_text) means))
  only_options name text model_file source m values read accepted means (CannotRead asked) due =
      absurd (blames (options name text) model_file source read (CannotRead asked) refl due)
  only_options name text model_file source m values read accepted means (NoFile asked) due =
      absurd (blames (options name text) model_file source read (NoFile asked) refl due)
  only_options name text model_file source m values read accepted means (TooBig asked size total) due =
      absurd (blames (options name text) model_file source read (TooBig asked size total) refl due)
  only_options name text model_file source m values read accepted means (BadModel found) due =
      absurd (not_both model_file m found.line found.kind accepted
      (same_fault (options name text) model_file source read found.line found.kind due))

  -- a small source is encoded
  pub only_encoded : (sources : Sources) (model_file source : List ℕ)
      → AreRead reads (encode sources) model_file source → (m : Features) → IsModelOf model_file m
      → (body : List SourceLine) → IsSmallSource m.names source body → (answer : Answer)
      → IsDueTo reads (encode sources) answer → (text : List ℕ) × (answer ≡ Encoded text)
  only_encoded sources model_file source read m accepted body small (Encoded text) due =
      (text, refl)
  only_encoded sources model_file source read m accepted body small (Options text) due =
      absurd (not_options sources due.model_name due.config due.command_is)
  only_encoded sources model_file source read m accepted body small (Variant text) due =
      absurd (encode_not_variant sources due.chosen.sources due.chosen.config due.chosen.command_is)
  only_encoded sources model_file source read m accepted body small (Fails config position why) (inl due) =
      let same = same_input (encode sources) model_file source read due.model due.source due.input
      in
      let one_model = model_same model_file due.model m same.0 accepted in
      absurd (due.no_small_source body (rw (one_model, same.1) small))
  only_encoded sources model_file source read m accepted body small (Fails config position why) (inr due) =
      absurd (encode_not_variant sources due.chosen.sources due.chosen.config due.chosen.command_is)
  only_encoded sources model_file source read m accepted body small BadWords due = absurd due
  only_encoded sources model_file source read m accepted body small BadConfig due =
      absurd (encode_takes_none (encode sources) sources due.text refl due.text_is)
  only_encoded sources model_file source read m accepted body small (CannotRead name) due =
      absurd (blames (encode sources) model_file source read (CannotRead name) refl due)
  only_encoded sources model_file source read m accepted body small (NoFile name) due =
      absurd (blames (encode sources) model_file source read (NoFile name) refl due)
  only_encoded sources model_file source read m accepted body small (TooBig name size total) due =
      absurd (blames (encode sources) model_file source read (TooBig name size total) refl due)
  only_encoded sources model_file source read m accepted body small (BadModel found) due =
      absurd (not_both model_file m found.line found.kind accepted
      (same_fault (encode sources) model_file source read found.line found.kind due))

  -- what `variant` was chosen for is what its files, model and configuration say
  same_chosen : (sources : Sources) (text model_file source : List ℕ)
      → AreRead reads (variant sources text) model_file source
      → (bundle : NamedFiles) → AreTold reads.before.held sources bundle
      → (m : Features) → IsModelOf model_file m → (values : List Bool) → IsConfig m text values
      → (b : NamedFiles) (f : Features) (vs : List Bool)
      → IsChosen reads (variant sources text) b f vs
      → (b ≡ bundle) × (f ≡ m) × (vs ≡ values)
  same_chosen sources text model_file source read bundle told m accepted values means b f vs chosen =
      let one_sources : chosen.sources ≡ sources =
      same_sources sources chosen.sources text chosen.config chosen.command_is in
      let one_text : chosen.config ≡ text =
      same_config sources chosen.sources text chosen.config chosen.command_is in
      let one_model = same_model (variant sources text) model_file source read m f chosen.source
      accepted chosen.input in
      let gathered : IsGathered reads sources b =
      subst (λ (s : Sources). IsGathered reads s b) one_sources chosen.gathered in (
        one_bundle b bundle (sym (gathered.answer read.told) ∙ told),
        one_model,
        config_same m text vs values (rw (one_model, one_text) at chosen.configuration) means,
      )

  only_variant_text : (sources : Sources) (text model_file source : List ℕ)
      → AreRead reads (variant sources text) model_file source
      → (bundle : NamedFiles) → AreTold reads.before.held sources bundle
      → (m : Features) → IsModelOf model_file m → (values : List Bool) → IsConfig m text values
      → (written : List ℕ) → (due : IsPreprocessed reads (variant sources text) written)
      → HasTokens (variant_of bundle m values) due.toks
  only_variant_text sources text model_file source read bundle told m accepted values means written due =
      moved (λ b f vs. HasTokens (variant_of b f vs) due.toks) due.bundle bundle due.model m
      due.values values
      (same_chosen sources text model_file source read bundle told m accepted values means
      due.bundle due.model due.values due.chosen)
      due.tokens

  refused_so : (sources : Sources) (text model_file source : List ℕ)
      → AreRead reads (variant sources text) model_file source
      → (bundle : NamedFiles) → AreTold reads.before.held sources bundle
      → (m : Features) → IsModelOf model_file m → (values : List Bool) → IsConfig m text values
      → (config : List ℕ) (position : Position) (why : Why)
      → (due : IsRefusedIn reads (variant sources text) config position why)
      → ((variant_of bundle m values).ending ≡ readings.refused why due.place)
      × (config ≡ text_of m.names values) × (position ≡ position_of bundle due.place)
  refused_so sources text model_file source read bundle told m accepted values means config position why due =
      moved (λ b f vs. ((variant_of b f vs).ending ≡ readings.refused why due.place)
      × (config ≡ text_of f.names vs) × (position ≡ position_of b due.place))
      due.bundle bundle due.model m due.values values
      (same_chosen sources text model_file source read bundle told m accepted values means
      due.bundle due.model due.values due.chosen)
      (due.is_refused, due.config_is, due.position_is)

  -- `variant` can't be answered by these
  no_bad_config : (sources : Sources) (text model_file source : List ℕ)
      → AreRead reads (variant sources text) model_file source
      → (m : Features) → IsModelOf model_file m → (values : List Bool) → IsConfig m text values
      → IsBadConfig reads (variant sources text) → ⊥
  no_bad_config sources text model_file source read m accepted values means due =
      let one_model = same_model (variant sources text) model_file source read m due.model
      due.source accepted due.input in
      let one_text : due.text ≡ text = let e = due.text_is in cc in
      due.no_config values (rw (one_model, one_text) means)

  -- the tokens of a variant are written
  pub only_variant : (sources : Sources) (text model_file source : List ℕ)
      → AreRead reads (variant sources text) model_file source
      → (bundle : NamedFiles) → AreTold reads.before.held sources bundle
      → (m : Features) → IsModelOf model_file m → (values : List Bool) → IsConfig m text values
      → (toks : List CTok) → HasTokens (variant_of bundle m values) toks
      → (answer : Answer) → IsDueTo reads (variant sources text) answer
      → answer ≡ Variant (shown toks)
  only_variant sources text model_file source read bundle told m accepted values means toks has (Encoded written) due =
      absurd (encode_not_variant due.sources sources text (sym due.command_is))
  only_variant sources text model_file source read bundle told m accepted values means toks has (Options written) due =
      absurd (options_not_variant due.model_name due.config sources text (sym due.command_is))
  only_variant sources text model_file source read bundle told m accepted values means toks has (Variant written) due =
      ap (λ (t : List ℕ). Variant t) (due.text_is
      ∙ ap (λ (ts : List CTok). shown ts) (one_tokens (variant_of bundle m values) due.toks toks
      (only_variant_text sources text model_file source read bundle told m accepted values
      means written due) has))
  only_variant sources text model_file source read bundle told m accepted values means toks has (Fails config position cause) (inl due) =
      absurd (encode_not_variant due.sources sources text (sym due.command_is))
  only_variant sources text model_file source read bundle told m accepted values means toks has (Fails config position cause) (inr due) =
      absurd (not_refused (variant_of bundle m values).ending has.0 cause due.place has.1
      (refused_so sources text model_file source read bundle told m accepted values means config
      position cause due).0)
  only_variant sources text model_file source read bundle told m accepted values means toks has BadWords due = absurd due
  only_variant sources text model_file source read bundle told m accepted values means toks has BadConfig due =
      absurd (no_bad_config sources text model_file source read m accepted values means due)
  only_variant sources text model_file source read bundle told m accepted values means toks has (CannotRead name) due =
      absurd (blames (variant sources text) model_file source read (CannotRead name) refl due)
  only_variant sources text model_file source read bundle told m accepted values means toks has (NoFile name) due =
      absurd (blames (variant sources text) model_file source read (NoFile name) refl due)
  only_variant sources text model_file source read bundle told m accepted values means toks has (TooBig name size total) due =
      absurd (blames (variant sources text) model_file source read (TooBig name size total) refl due)
  only_variant sources text model_file source read bundle told m accepted values means toks has (BadModel found) due =
      absurd (not_both model_file m found.line found.kind accepted
      (same_fault (variant sources text) model_file source read found.line found.kind due))

  -- the refusal of a variant is answered
  pub only_refused : (sources : Sources) (text model_file source : List ℕ)
      → AreRead reads (variant sources text) model_file source
      → (bundle : NamedFiles) → AreTold reads.before.held sources bundle
      → (m : Features) → IsModelOf model_file m → (values : List Bool) → IsConfig m text values
      → (place : Place) (why : Why) → (variant_of bundle m values).ending ≡ readings.refused why place
      → (answer : Answer) → IsDueTo reads (variant sources text) answer
      → answer ≡ Fails (text_of m.names values) (position_of bundle place) why
  only_refused sources text model_file source read bundle told m accepted values means place why is_refused (Encoded written) due =
      absurd (encode_not_variant due.sources sources text (sym due.command_is))
  only_refused sources text model_file source read bundle told m accepted values means place why is_refused (Options written) due =
      absurd (options_not_variant due.model_name due.config sources text (sym due.command_is))
  only_refused sources text model_file source read bundle told m accepted values means place why is_refused (Variant written) due =
      let has = only_variant_text sources text model_file source read bundle told m accepted values
      means written due in
      absurd (not_refused (variant_of bundle m values).ending has.0 why place has.1 is_refused)
  only_refused sources text model_file source read bundle told m accepted values means place why is_refused (Fails config position cause) (inl due) =
      absurd (encode_not_variant due.sources sources text (sym due.command_is))
  only_refused sources text model_file source read bundle told m accepted values means place why is_refused (Fails config position cause) (inr due) =
      let so = refused_so sources text model_file source read bundle told m accepted values means config
      position cause due in
      let at = one_place (variant_of bundle m values).ending why cause place due.place is_refused
      so.0 in
      let by = one_why (variant_of bundle m values).ending why cause place due.place is_refused so.0
      in
      same_fails config (text_of m.names values) position (position_of bundle place) cause why so.1
      (so.2 ∙ ap (λ (p : Place). position_of bundle p) at) by
  only_refused sources text model_file source read bundle told m accepted values means place why is_refused BadWords due = absurd due
  only_refused sources text model_file source read bundle told m accepted values means place why is_refused BadConfig due =
      absurd (no_bad_config sources text model_file source read m accepted values means due)
  only_refused sources text model_file source read bundle told m accepted values means place why is_refused (CannotRead name) due =
      absurd (blames (variant sources text) model_file source read (CannotRead name) refl due)
  only_refused sources text model_file source read bundle told m accepted values means place why is_refused (NoFile name) due =
      absurd (blames (variant sources text) model_file source read (NoFile name) refl due)
  only_refused sources text model_file source read bundle told m accepted values means place why is_refused (TooBig name size total) due =
      absurd (blames (variant sources text) model_file source read (TooBig name size total) refl due)
  only_refused sources text model_file source read bundle told m accepted values means place why is_refused (BadModel found) due =
      absurd (not_both model_file m found.line found.kind accepted
      (same_fault (variant sources text) model_file source read found.line found.kind due))
