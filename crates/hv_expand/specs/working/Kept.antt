-- What a growing store changes about an episode's faces: nothing.
use Rattle.std.proofs.Common.{ℕ, ◌≡◌, ◌↔◌, sym, ap, ◌∙◌, subst, Bool, List}
use Rattle.hv_cond.specs.Diagram.{Diagram, Keeps}
use Rattle.hv_macros.specs.Laws.{HasOneBody-kept, IsTableOf-kept, meaning_in-kept}
use Rattle.hv_macros.specs.Table.{IsTableOf, meaning_in}
use Rattle.hv_macros.specs.declared.tables.MacroTable.{MacroTable}
use Rattle.hv_plain.specs.episode.Episode.{episode}
use Rattle.hv_plain.specs.episode.Expansion.{Event}
use Rattle.hv_toks.specs.Macro.{Macro}
use Rattle.hv_expand.specs.Outcomes.{ComesTo, HaveOneFace}
use Rattle.hv_expand.specs.declared.episodes.Episodes.{Episodes}
use Rattle.hv_expand.specs.declared.outcome.Ending.{Ending}
use Rattle.hv_expand.specs.working.Steps.{IsGood}

-- each configuration has its macro state still
pub macros_same : {old new : Diagram} → Keeps old new → (table : MacroTable)
    → IsTableOf old table → (values : List Bool)
    → meaning_in new table values ≡ meaning_in old table values
macros_same keeps table t values = λ k name. meaning_in-kept keeps table t values name k

-- and all of them
pub all_macros_same : {old new : Diagram} → Keeps old new → (table : MacroTable)
    → IsTableOf old table → meaning_in new table ≡ meaning_in old table
all_macros_same keeps table t = λ k values. macros_same keeps table t values k

-- two configurations have one face, whichever comes first
pub symmetric : (d : Diagram) (e : Episodes) (values others : List Bool)
    → HaveOneFace e.ends e.run.now e.at d e.table.now values others
    → HaveOneFace e.ends e.run.now e.at d e.table.now others values
symmetric d e values others same = sym same

-- a store that grows keeps an episode one that can be run
pub good_kept : (old new : Diagram) (e : Episodes) → Keeps old new → IsGood old e → IsGood new e
good_kept old new e keeps g =
    record {
      table = IsTableOf-kept keeps e.table.now g.table;
      one_body = HasOneBody-kept keeps e.table.now g.table g.one_body;
      within = g.within;
      line = g.line;
    }

-- and which configurations have one face
pub face_kept : (old new : Diagram) (e : Episodes) (values others : List Bool) → Keeps old new
    → IsGood old e
    → (HaveOneFace e.ends e.run.now e.at new e.table.now values others
    ↔ HaveOneFace e.ends e.run.now e.at old e.table.now values others)
face_kept old new e values others keeps g =
    let face : (List ℕ → Macro) → List Event = λ m. (episode e.ends e.run.now e.at m).face in
    let one = ap face (macros_same keeps e.table.now g.table values) in
    let other = ap face (macros_same keeps e.table.now g.table others) in
    (λ same. sym one ∙ (same ∙ other), λ same. one ∙ (same ∙ sym other))

-- and what the episode comes to
pub right_kept : (old new : Diagram) (e : Episodes) (value : Ending) (values : List Bool)
    → Keeps old new → IsGood old e
    → ComesTo e.ends e.run.now e.at (meaning_in new e.table.now values) value.result value.end
    → ComesTo e.ends e.run.now e.at (meaning_in old e.table.now values) value.result value.end
right_kept old new e value values keeps g =
    subst (λ (m : List ℕ → Macro). ComesTo e.ends e.run.now e.at m value.result value.end)
    (macros_same keeps e.table.now g.table values)
