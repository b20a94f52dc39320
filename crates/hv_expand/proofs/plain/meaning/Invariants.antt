use Rattle.std.proofs.Common.{◌≡◌, drop, map}
use Rattle.hv_toks.specs.Macro.{macro_of}
use Rattle.hv_toks.specs.MacroState.{meaning_after}
use Rattle.hv_expand.specs.Plain.{entry_of, meanings}
use Rattle.hv_expand.proofs.plain.meaning.Given as goal

abbrev pub invariant-loop-entry : goal.invariant-loop-entry
invariant-loop-entry l =
    meaning_after (macro_of l.latest) (map entry_of (drop l.entry-index l.fn.entries))
    l.fn.name
    ≡ meanings l.fn.entries l.fn.name
