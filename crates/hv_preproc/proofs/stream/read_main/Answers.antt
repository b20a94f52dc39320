use Rattle.std.proofs.Common.{◌≡◌, ◌∙◌, ◌++◌, ◌∷◌, [], List, ℕ, None, Some, ap, sym, subst}
use Rattle.std.specs.Option.{option_copied}
use Rattle.std.proofs.lemmas.Result.{IfErr-weaker, on_ok_weaker}
use Rattle.hv_preproc.proofs.Faulting.{stops_weaker}
use Rattle.hv_preproc.proofs.Wholes.{main_file, main_page, main_reads, main_stops}
use Rattle.hv_preproc.specs.working.Walk.{IsSound}
use Rattle.hv_preproc.proofs.stream.read_main.Goals as goal

pub read_file-requires-clause-sound : goal.read_file-requires-clause-sound
read_file-requires-clause-sound c =
    subst (λ (stack : List ℕ). IsSound c.args.store.now c.args.unit.now (stack ++ 0 ∷ []))
    (sym c.new-stack.ensures) c.requires.sound

pub read_file-requires-clause-page : goal.read_file-requires-clause-page
read_file-requires-clause-page c = (
  main_file c.args.pages.now.bundle.now c.requires.main,
  main_page c.args.pages.now c.args.pages.now.bundle.now c.requires.main c.requires.pages
      (λ i. c.args.pages.now.bundle.now) (Some c.in-Some.main.now)
      (ap option_copied (sym c.in-Some.is) ∙ c.numbered.ensures),
)

pub returns-in-Some-clause-read : goal.returns-in-Some-clause-read
returns-in-Some-clause-read c =
    on_ok_weaker c.read_file.result
    (λ h. main_reads c.args.store.now c.read_file.new.store c.args.unit.now c.read_file.new.unit
    c.args.valid c.args.pages.now.bundle.now c.requires.main c.new-stack.result
    c.new-stack.ensures (h (main_file c.args.pages.now.bundle.now c.requires.main)
    (main_page c.args.pages.now c.args.pages.now.bundle.now c.requires.main c.requires.pages
    (λ i. c.args.pages.now.bundle.now) (Some c.in-Some.main.now)
    (ap option_copied (sym c.in-Some.is) ∙ c.numbered.ensures)))) c.read_file.ensures.read

pub returns-in-Some-clause-stops : goal.returns-in-Some-clause-stops
returns-in-Some-clause-stops c =
    IfErr-weaker c.read_file.result _ _
    (λ fault h. main_stops c.args.store.now c.read_file.new.store c.args.unit.now c.args.valid
    c.args.pages.now.bundle.now c.requires.main c.new-stack.result c.new-stack.ensures fault
    (stops_weaker _ _ fault (λ place conds stops.
    stops (main_file c.args.pages.now.bundle.now c.requires.main)
    (main_page c.args.pages.now c.args.pages.now.bundle.now c.requires.main c.requires.pages
    (λ i. c.args.pages.now.bundle.now) (Some c.in-Some.main.now)
    (ap option_copied (sym c.in-Some.is) ∙ c.numbered.ensures))) h))
    c.read_file.ensures.stops

pub returns-in-None-clause-read : goal.returns-in-None-clause-read
returns-in-None-clause-read c =
    absurd (main_page c.args.pages.now c.args.pages.now.bundle.now c.requires.main c.requires.pages
    (λ i. c.args.pages.now.bundle.now) None
    (ap option_copied (sym c.in-None.is) ∙ c.numbered.ensures))
