use Rattle.std.proofs.Common.{◌≡◌, ◌∷◌, [], ℕ, List, subst}
use Rattle.hv_base.specs.Bundles.{NamedFiles}
use Rattle.hv_model.specs.Beginning.{beginning}
use Rattle.hv_plainpp.specs.Preprocessing.{unit}
use Rattle.hv_preproc.proofs.Wholes.{start_reads, start_sound, whole_read, whole_stops}
use Rattle.hv_preproc.specs.working.Faults.{IfStops}
use Rattle.hv_preproc.specs.working.Walk.{Reads, Stops}
use Rattle.hv_toks.specs.MacroState.{entries_of}
use Rattle.hv_preproc.proofs.stream.read_unit.Goals as goal

pub read_main-requires-clause-sound : goal.read_main-requires-clause-sound
read_main-requires-clause-sound c =
    start_sound c.new-3.new.store c.args.valid c.args.model.now.names c.new-unit.result
    (c.in_ok-table.ensures.keeps.stays c.args.valid c.requires.valid)
    (rw c.new-unit.ensures.table c.in_ok-table.ensures.nodes)
    (rw c.new-unit.ensures.table c.in_ok-table.ensures.one_body)
    (λ values name. rw c.new-unit.ensures.table (c.in_ok-table.ensures.begins values name))
    c.new-unit.ensures.given c.new-unit.ensures.live c.new-unit.ensures.refusals (0 ∷ [])

pub returns-in-Ok-clause-read : goal.returns-in-Ok-clause-read
returns-in-Ok-clause-read c =
    whole_read c.new-3.new.store c.read_main.new.store c.args.valid c.args.bundle.now
    (λ values. entries_of (beginning c.args.model.now.names values)) c.new-unit.result
    c.read_main.new.unit c.read_main.ensures.keeps
    (c.in_ok-table.ensures.keeps.stays c.args.valid c.requires.valid)
    (start_reads c.new-3.new.store c.args.valid c.args.model.now.names c.new-unit.result
    (c.in_ok-table.ensures.keeps.stays c.args.valid c.requires.valid)
    (rw c.new-unit.ensures.table c.in_ok-table.ensures.nodes)
    (rw c.new-unit.ensures.table c.in_ok-table.ensures.one_body)
    (λ values name. rw c.new-unit.ensures.table (c.in_ok-table.ensures.begins values name))
    c.new-unit.ensures.given c.new-unit.ensures.live c.new-unit.ensures.refusals (0 ∷ []))
    (subst (λ (bundle : NamedFiles). (there : List ℕ) × Reads c.new-3.new.store
    c.read_main.new.store c.new-unit.result c.read_main.new.unit (0 ∷ []) there c.args.valid
    (λ values macros. unit bundle macros)) c.in_ok-pages.ensures.bundle c.in-Ok.ensures.read)

pub returns-clause-stops : goal.returns-clause-stops
returns-clause-stops c =
    whole_stops c.new-3.new.store c.read_main.new.store c.args.valid c.args.bundle.now
    (λ values. entries_of (beginning c.args.model.now.names values)) c.new-unit.result
    c.read_main.ensures.keeps
    (c.in_ok-table.ensures.keeps.stays c.args.valid c.requires.valid)
    (start_reads c.new-3.new.store c.args.valid c.args.model.now.names c.new-unit.result
    (c.in_ok-table.ensures.keeps.stays c.args.valid c.requires.valid)
    (rw c.new-unit.ensures.table c.in_ok-table.ensures.nodes)
    (rw c.new-unit.ensures.table c.in_ok-table.ensures.one_body)
    (λ values name. rw c.new-unit.ensures.table (c.in_ok-table.ensures.begins values name))
    c.new-unit.ensures.given c.new-unit.ensures.live c.new-unit.ensures.refusals (0 ∷ []))
    c.in-Err.fault
    (subst (λ (bundle : NamedFiles). IfStops (λ place conds. Stops c.new-3.new.store
    c.read_main.new.store c.new-unit.result (0 ∷ []) c.args.valid
    (λ values macros. unit bundle macros) place conds) c.in-Err.fault)
    c.in_ok-pages.ensures.bundle c.in-Err.ensures.stops)
