-- What a unit is in a store it is in one that has grown.
use Rattle.std.proofs.Common.{◌≡◌, Bool, true, cond, ℕ, List, [], ◌∷◌, refl, sym, ap, ◌∙◌, subst, subst₂}
use Rattle.std.proofs.Math.Path.{fun_ext}
use Rattle.std.specs.Prelude.{zip}
use Rattle.hv_cond.specs.Diagram.{AllNodes, Diagram, IsNode, Keeps, holds}
use Rattle.hv_cond.specs.Laws.{AllNodes-kept, NoneFalse-kept, count_satisfied-kept}
use Rattle.hv_cond.specs.declared.conditions.Cond.{Cond}
use Rattle.hv_given.specs.Given.{AllAgree, AreEpisodes, given_in}
use Rattle.hv_given.specs.Laws.{AreRefusals-kept, IsRefusedAt-kept}
use Rattle.hv_given.specs.Refusals.{AreRefusals}
use Rattle.hv_given.specs.declared.given.Given.{Given}
use Rattle.hv_macros.specs.Laws.{HasOneBody-kept, IsTableOf-kept, meaning_in-kept}
use Rattle.hv_macros.specs.Table.{HasOneBody, IsTableOf, meaning_in}
use Rattle.hv_macros.specs.declared.tables.MacroTable.{MacroTable}
use Rattle.hv_plainpp.specs.Reading.{Ending, reaches, refused}
use Rattle.hv_preproc.specs.declared.unit.Unit.{Unit as UnitSoFar}
use Rattle.hv_preproc.specs.working.Walk.{IsAt, IsSound, IsUnit, IsUpTo, Part, Reads, SoFar, after}
use Rattle.hv_texts.specs.Readings.{conditions_of}
use Rattle.hv_toks.specs.Division.{Divides, conditions}
use Rattle.hv_toks.specs.MacroState.{Entry}
use Rattle.hv_toks.specs.declared.parted.Failing.{Failing}

-- the entries of a configuration
pub given_in-kept : {old new : Diagram} → Keeps old new → (given : List Given)
    → AllNodes old (conditions_of given) → (values : List Bool)
    → given_in new given values ≡ given_in old given values
given_in-kept keeps [] nodes values = refl
given_in-kept {old} {new} keeps (g ∷ given) nodes values =
    ap (λ (b : Bool). cond b (g ∷ given_in new given values) (given_in new given values))
    (keeps.meaning g.cond nodes.0 values)
    ∙ ap (λ (gs : List Given). cond (holds old g.cond values) (g ∷ gs) gs)
    (given_in-kept keeps given nodes.1 values)

-- what the names mean
pub meanings_kept : {old new : Diagram} → Keeps old new → (table : MacroTable)
    → IsTableOf old table → (values : List Bool)
    → meaning_in new table values ≡ meaning_in old table values
meanings_kept keeps table t values = fun_ext (λ name. meaning_in-kept keeps table t values name)

-- a division of a condition's configurations
Divides-kept : {old new : Diagram} → Keeps old new → (valid good : Cond) (failing : List Failing)
    → IsNode old valid → Divides old valid good failing → Divides new valid good failing
Divides-kept keeps valid good failing node d = record {
  nodes = AllNodes-kept keeps (good ∷ conditions failing) d.nodes;
  none_false = NoneFalse-kept keeps (conditions failing) d.nodes.1 d.none_false;
  one = λ values. count_satisfied-kept keeps (good ∷ conditions failing) d.nodes values
      ∙ d.one values
      ∙ ap (λ (b : Bool). cond b 1 0) (sym (keeps.meaning valid node values));
  distinct = d.distinct;
}

pub IsUnit-kept : {old new : Diagram} → Keeps old new → (u : UnitSoFar) → IsUnit old u
    → IsUnit new u
IsUnit-kept keeps u r = record {
  table = IsTableOf-kept keeps u.table r.table;
  one_body = HasOneBody-kept keeps u.table r.table r.one_body;
  live = keeps.stays u.live r.live;
  refusals = AreRefusals-kept keeps u.refusals r.refusals;
}

-- with other live configurations and refusals
pub IsUnit-with : {old new : Diagram} → Keeps old new → (before now : UnitSoFar)
    → IsUnit old before → now.table ≡ before.table → IsNode new now.live
    → AreRefusals new now.refusals → IsUnit new now
IsUnit-with {old} {new} keeps before now r same node refusals = record {
  table = subst (IsTableOf new) (sym same) (IsTableOf-kept keeps before.table r.table);
  one_body = subst (HasOneBody new) (sym same)
      (HasOneBody-kept keeps before.table r.table r.one_body);
  live = node;
  refusals = refusals;
}

pub IsSound-kept : {old new : Diagram} → Keeps old new → (u : UnitSoFar) (here : List ℕ)
    → IsSound old u here → IsSound new u here
IsSound-kept keeps u here s = record {
  unit = IsUnit-kept keeps u s.unit;
  defines_before = λ values name place body e. s.defines_before values name place body
      (sym (meaning_in-kept keeps u.table s.unit.table values name) ∙ e);
}

-- what the reading of a configuration has come to
pub IsAt-kept : {old new : Diagram} → Keeps old new → (u : UnitSoFar) → IsUnit old u
    → (values : List Bool) (o : Ending (List Entry)) → IsAt old u values o → IsAt new u values o
IsAt-kept keeps u r values (reaches macros) h =
    (keeps.meaning u.live r.live values ∙ h.0, meanings_kept keeps u.table r.table values ∙ h.1)
IsAt-kept keeps u r values (refused why place) h = (
  keeps.meaning u.live r.live values ∙ h.0,
  IsRefusedAt-kept keeps u.refusals r.refusals.nodes values place why h.1,
)

pub IsUpTo-kept : {old new : Diagram} → Keeps old new → (valid : Cond) (u : UnitSoFar)
    (here : List ℕ) (so_far : SoFar) → IsUnit old u → IsUpTo old valid u here so_far
    → IsUpTo new valid u here so_far
IsUpTo-kept {old} {new} keeps valid u here so_far unit r =
    let back = λ (values : List Bool) (v : holds new valid values ≡ true).
    sym (keeps.meaning valid r.valid_node values) ∙ v in
    record {
      valid_node = keeps.stays valid r.valid_node;
      divides = Divides-kept keeps valid u.live u.refusals r.valid_node r.divides;
      nodes = AllNodes-kept keeps (conditions_of u.given) r.nodes;
      there = λ values v. subst (λ (gs : List Given). AreEpisodes gs (so_far values).met)
          (sym (given_in-kept keeps u.given r.nodes values)) (r.there values (back values v));
      stands = λ values v. IsAt-kept keeps u unit values (so_far values).ending
          (r.stands values (back values v));
      faces = λ values others v w. subst₂ (λ (gs hs : List Given).
          AllAgree (zip gs (so_far values).met) (zip hs (so_far others).met))
          (sym (given_in-kept keeps u.given r.nodes values))
          (sym (given_in-kept keeps u.given r.nodes others))
          (r.faces values others (back values v) (back others w));
      few = r.few;
      met_before = λ values v. r.met_before values (back values v);
    }

-- a step that was made in a store that has grown since
pub reads_kept : (old mid new : Diagram) (before now : UnitSoFar) (here there : List ℕ)
    (within : Cond) (part : Part) → Keeps mid new
    → Reads old mid before now here there within part
    → Reads old new before now here there within part
reads_kept old mid new before now here there within part keeps r = record {
  sound = IsSound-kept keeps now there r.sound;
  reads = λ valid so_far u. IsUpTo-kept keeps valid now there (after old within so_far part)
      r.sound.unit (r.reads valid so_far u);
}
