-- What names mean in the macro state of one configuration, where its entries are listed.
use Rattle.std.specs.Prelude.{ℕ, List, map}
use Rattle.hv_toks.specs.Macro.{Macro, macro_of}
use Rattle.hv_toks.specs.MacroState as state
use Rattle.hv_expand.specs.declared.plain.Entry.{Entry}

-- an entry of a macro state
abbrev pub entry_of : Entry → state.Entry
entry_of e = record { name = e.name; macro = macro_of e.meaning }

-- what each name means after these entries (6.10.3)
abbrev pub meanings : List Entry → List ℕ → Macro
meanings entries = state.meaning_of (map entry_of entries)
