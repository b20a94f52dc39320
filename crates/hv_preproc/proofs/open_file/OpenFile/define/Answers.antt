use Rattle.std.proofs.Common.{◌≡◌, ◌∙◌, List, ℕ, None, Option, Some, ap, ap₂, option_map, rules, sym}
use Rattle.std.proofs.lemmas.Result.{IfOk-weaker}
use Rattle.hv_directives.specs.Values.{definition_of}
use Rattle.hv_plainpp.specs.Definitions.{Definition, definition}
use Rattle.hv_preproc.proofs.ActionLemmas.{IsUnit-set, define_reads, free_place, no_define_reads}
use Rattle.hv_toks.specs.declared.macros.Body.{Body}
use Rattle.hv_preproc.proofs.open_file.OpenFile.define.Goals as goal

pub returns-in_default-clause-read : goal.returns-in_default-clause-read
returns-in_default-clause-read c =
    let is : None ≡ definition c.args.line.now =
    sym (ap (option_map definition_of) c.in_default.is) ∙ c.in_ok-definition.ensures.meaning in
    IfOk-weaker c.refuse.result _ _
    (λ done read here there until later sound. no_define_reads c.args.store.now c.refuse.new.store
    c.args.unit.now c.refuse.new.self here there c.args.cond c.args.hash c.args.line.now is read
    until later sound) c.refuse.ensures.read

pub returns-clause-unit : goal.returns-clause-unit
returns-clause-unit c = IfOk-weaker c.define.result _ _
    (λ done sets. IsUnit-set c.args.store.now c.define.new.store c.args.unit.now
    c.define.new.self c.define.ensures.keeps c.requires.sound.unit c.define.ensures.nodes
    (c.define.ensures.one_body c.requires.sound.unit.one_body
    (free_place c.args.store.now c.args.unit.now c.args.hash _ _ c.requires.sound
    c.requires.file))) c.define.ensures.defined

-- a definition
abbrev defined_as : List ℕ → Body → Option Definition
defined_as name body = Some (record { name = name; body = body })

pub returns-clause-read : goal.returns-clause-read
returns-clause-read c =
    let named : c.as_slice.result.now ≡ c.in-Some.definition.name = first_of (cc, search rules) in
    let bodied : c.in_ok-body.body.value ≡ c.in-Some.definition.body =
    first_of (cc, search rules) in
    let is : defined_as c.as_slice.result.now c.in_ok-body.body.value
    ≡ definition c.args.line.now = ap₂ defined_as named bodied
    ∙ (sym (ap (option_map definition_of) c.in-Some.is) ∙ c.in_ok-definition.ensures.meaning) in
    IfOk-weaker c.define.result _ _
    (λ done sets here there until later sound. define_reads c.args.store.now c.define.new.store
    c.args.unit.now c.define.new.self c.args.cond c.define.ensures.keeps here there c.args.hash
    c.as_slice.result.now c.in_ok-body.body.value c.args.line.now is sets
    (IsUnit-set c.args.store.now c.define.new.store c.args.unit.now
    c.define.new.self c.define.ensures.keeps c.requires.sound.unit c.define.ensures.nodes
    (c.define.ensures.one_body c.requires.sound.unit.one_body
    (free_place c.args.store.now c.args.unit.now c.args.hash _ _ c.requires.sound
    c.requires.file))) until later sound) c.define.ensures.defined
