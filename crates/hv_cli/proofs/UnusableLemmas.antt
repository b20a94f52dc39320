-- Which answer can be due where a file of a command can't be used.
use Rattle.std.proofs.Common.{◌≡◌, ℕ, List, Option, Some, None, Result, Ok, Err, IsTrue, inl, inr, refl, sym, ◌∙◌, ap, arith, length, subst, ◌<◌, ◌≤◌}
use Rattle.hv_base.specs.Bundles.{NamedFiles}
use Rattle.hv_base.specs.declared.limits.TheConstants.{MOST_FILE_BYTES}
use Rattle.hv_gather.specs.Causes.{told_answer}
use Rattle.hv_gather.specs.declared.fault.GatherFault.{GatherFault}
use Rattle.hv_gather.specs.declared.fault.GatherFault.TheVariants as fault
use Rattle.hv_outside.specs.Count.{Rose}
use Rattle.hv_words.specs.Commands.{Command, Sources, encode, options, variant}
use Rattle.hv_cli.specs.declared.answer.Answer.{Answer}
use Rattle.hv_cli.specs.declared.answer.Answer.TheVariants.{Encoded, Options, Variant, Fails, BadWords, BadConfig, CannotRead, NoFile, TooBig, BadModel}
use Rattle.hv_cli.specs.declared.read.Role.{Role}
use Rattle.hv_cli.specs.declared.read.Role.TheVariants.{Model, Main}
use Rattle.hv_cli.specs.Due.{IsDueTo}
use Rattle.hv_cli.specs.Ends.{AreUnusable, Blames, BlamesSources, IsFirstUnusable, IsUnusable, IsUsable}
use Rattle.hv_cli.specs.Files.{AreGatheredFrom, Gathers, IsFile, IsRead, IsReadBefore, Reads, gathered_of, name_of, total_of}
use Rattle.hv_cli.proofs.DueLemmas.{held_at, some_same}

-- what gathers its main file with headers reads no main file alone
gathers_no_main : (command : Command) (sources : Sources) (name : List ℕ)
    → gathered_of command ≡ Some sources → name_of command Main ≡ Some name → ⊥
gathers_no_main (encode other) sources name gathers asked = cc
gathers_no_main (variant other config) sources name gathers asked = cc
gathers_no_main (options model config) sources name gathers asked = cc

one_sources : (found : Option Sources) (sources other : Sources) → found ≡ Some sources
    → found ≡ Some other → other ≡ sources
one_sources found sources other p q = cc

-- gathering has one answer
ok_or_absent : (r : Result NamedFiles GatherFault) (b : NamedFiles) → r ≡ Ok b
    → r ≡ Err fault.MainAbsent → ⊥
ok_or_absent r b p q = cc

ok_or_big : (r : Result NamedFiles GatherFault) (b : NamedFiles) (name : List ℕ) (size total : ℕ)
    → r ≡ Ok b → r ≡ Err (fault.TooBig name size total) → ⊥
ok_or_big r b name size total p q = cc

absent_or_big : (r : Result NamedFiles GatherFault) (name : List ℕ) (size total : ℕ)
    → r ≡ Err fault.MainAbsent → r ≡ Err (fault.TooBig name size total) → ⊥
absent_or_big r name size total p q = cc

one_big : (r : Result NamedFiles GatherFault) (name other : List ℕ) (size total big all : ℕ)
    → r ≡ Err (fault.TooBig name size total) → r ≡ Err (fault.TooBig other big all)
    → TooBig name size total ≡ TooBig other big all
one_big r name other size total big all p q = cc

module _ (reads : Reads) (told : IsTrue reads.before.told)
    (no_fault : Rose reads.before.faults reads.now.faults → ⊥) where
  -- a file that can't be used was not read
  not_file : (name : List ℕ) (role : Role) (blamed : Answer) → Blames reads name role blamed
      → (bytes : List ℕ) → IsFile reads name bytes → ⊥
  not_file name role blamed is bytes file = elim is [
    | inl none ↦ let held = file.held told in let absent = none.0 in cc
    | inr big ↦ let same = some_same _ bytes big.0 (file.held told) big.1 in
        omega (arith, ap length same, file.small, big.2)
  ]

  not_read : (found : Option (List ℕ)) (name : List ℕ) (role : Role) (blamed : Answer)
      → found ≡ Some name → Blames reads name role blamed
      → (bytes : List ℕ) → IsRead reads found bytes → ⊥
  not_read None name role blamed asked is bytes read = cc
  not_read (Some other) name role blamed asked is bytes read =
      let same : other ≡ name = cc in
      not_file name role blamed is bytes (rw same at read)

  not_input : (command : Command) (role : Role) (blamed : Answer)
      → IsUnusable reads command role blamed → (model_file source : List ℕ)
      → IsRead reads (name_of command Model) model_file
      → IsRead reads (name_of command Main) source → ⊥
  not_input command Model blamed bad model_file source found main =
      not_read (name_of command Model) bad.name Model blamed bad.asked bad.blamed model_file
      found
  not_input command Main blamed bad model_file source found main =
      not_read (name_of command Main) bad.name Main blamed bad.asked bad.blamed source main

  -- of a file that isn't there nothing else is said
  absent_is : (name : List ℕ) (role : Role) (blamed : Answer) → Blames reads name role blamed
      → reads.before.held name ≡ None → NoFile name ≡ blamed
  absent_is name role blamed is none = elim is [
    | inl absent ↦ sym absent.1
    | inr big ↦ let held = big.1 in cc
  ]

  too_big_is : (name : List ℕ) (role : Role) (blamed : Answer) → Blames reads name role blamed
      → (bytes : List ℕ) → reads.before.held name ≡ Some bytes
      → (size total : ℕ) → length bytes ≡ size → total ≡ total_of role size
      → TooBig name size total ≡ blamed
  too_big_is name role blamed is bytes held size total sized is_total = elim is [
    | inl absent ↦ let none = absent.0 in cc
    | inr big ↦ let same = some_same _ bytes big.0 held big.1 in
        let size_is : size ≡ length big.0 = sym sized ∙ ap length same in
        ap (λ (n : ℕ). TooBig name size n) is_total
        ∙ ap (λ (n : ℕ). TooBig name n (total_of role n)) size_is ∙ sym big.3
  ]

  usable_at : (found : Option (List ℕ)) (name : List ℕ) → found ≡ Some name
      → IsUsable reads found
      → (bytes : List ℕ) × (reads.before.held name ≡ Some bytes) × (length bytes ≤ MOST_FILE_BYTES)
  usable_at found name asked is = (is.0, held_at reads found name is.0 asked is.1, is.2)

  one_name : (found : Option (List ℕ)) (name other : List ℕ) → found ≡ Some name
      → found ≡ Some other → name ≡ other
  one_name found name other p q = cc

  -- what is due on a file is due on the first that can't be used
  no_file_is : (command : Command) (role other : Role) (blamed : Answer)
      → IsUnusable reads command role blamed → (name : List ℕ)
      → name_of command other ≡ Some name
      → IsReadBefore reads command other → reads.before.held name ≡ None → NoFile name ≡ blamed
  no_file_is command Model Model blamed bad name asked first none =
      let same = one_name (name_of command Model) name bad.name asked bad.asked in
      rw same (absent_is bad.name Model blamed bad.blamed (rw same at none))
  no_file_is command Model Main blamed bad name asked first none =
      absurd (not_read (name_of command Model) bad.name Model blamed bad.asked bad.blamed
      first.0 first.1)
  no_file_is command Main Model blamed bad name asked first none =
      let held = (usable_at (name_of command Model) name asked bad.usable_before).1 in cc
  no_file_is command Main Main blamed bad name asked first none =
      let same = one_name (name_of command Main) name bad.name asked bad.asked in
      rw same (absent_is bad.name Main blamed bad.blamed (rw same at none))

  big_file_is : (command : Command) (role other : Role) (blamed : Answer)
      → IsUnusable reads command role blamed → (name : List ℕ)
      → name_of command other ≡ Some name
      → IsReadBefore reads command other → (bytes : List ℕ) → reads.before.held name ≡ Some bytes
      → (size total : ℕ) → length bytes ≡ size → total ≡ total_of other size
      → MOST_FILE_BYTES < size → TooBig name size total ≡ blamed
  big_file_is command Model Model blamed bad name asked first bytes held size total sized is_total
      big =
      let same = one_name (name_of command Model) name bad.name asked bad.asked in
      rw same (too_big_is bad.name Model blamed bad.blamed bytes (rw same at held) size total sized
      is_total)
  big_file_is command Model Main blamed bad name asked first bytes held size total sized is_total
      big =
      absurd (not_read (name_of command Model) bad.name Model blamed bad.asked bad.blamed
      first.0 first.1)
  big_file_is command Main Model blamed bad name asked first bytes held size total sized is_total
      big =
      let usable = usable_at (name_of command Model) name asked bad.usable_before in
      let same = some_same (reads.before.held name) bytes usable.0 held usable.1 in
      absurd (omega (arith, ap length same, usable.2, sized, big))
  big_file_is command Main Main blamed bad name asked first bytes held size total sized is_total
      big =
      let same = one_name (name_of command Main) name bad.name asked bad.asked in
      rw same (too_big_is bad.name Main blamed bad.blamed bytes (rw same at held) size total sized
      is_total)

  -- where a file that is read alone can't be used, nothing was gathered
  not_gathers : (command : Command) (role : Role) (blamed : Answer)
      → IsUnusable reads command role blamed → (sources : Sources)
      → Gathers reads command sources → ⊥
  not_gathers command Model blamed bad sources gathers =
      not_read (name_of command Model) bad.name Model blamed bad.asked bad.blamed
      gathers.model_file gathers.read_before
  not_gathers command Main blamed bad sources gathers =
      gathers_no_main command sources bad.name gathers.asked bad.asked

  blamed_alone : (command : Command) (role : Role) (blamed : Answer)
      → IsUnusable reads command role blamed → (answer : Answer) → IsDueTo reads command answer
      → answer ≡ blamed
  blamed_alone command role blamed bad (Encoded text) due =
      absurd (not_input command role blamed bad due.input.bytes due.source due.input.model_file
      due.input.main)
  blamed_alone command role blamed bad (Options text) due =
      absurd (not_input command role blamed bad due.input.bytes due.source due.input.model_file
      due.input.main)
  blamed_alone command role blamed bad (Variant text) due =
      absurd (not_input command role blamed bad due.chosen.input.bytes due.chosen.source
      due.chosen.input.model_file due.chosen.input.main)
  blamed_alone command role blamed bad (Fails config position why) (inl due) =
      absurd (not_input command role blamed bad due.input.bytes due.source due.input.model_file
      due.input.main)
  blamed_alone command role blamed bad (Fails config position why) (inr due) =
      absurd (not_input command role blamed bad due.chosen.input.bytes due.chosen.source
      due.chosen.input.model_file due.chosen.input.main)
  blamed_alone command role blamed bad BadWords due = absurd due
  blamed_alone command role blamed bad BadConfig due =
      absurd (not_input command role blamed bad due.input.bytes due.source due.input.model_file
      due.input.main)
  blamed_alone command role blamed bad (CannotRead name) (inl due) = absurd (no_fault due.rose)
  blamed_alone command role blamed bad (CannotRead name) (inr due) = absurd (no_fault due.cause.0)
  blamed_alone command role blamed bad (NoFile name) (inl due) =
      no_file_is command role due.role blamed bad name due.asked due.read_before (due.held told)
  blamed_alone command role blamed bad (NoFile name) (inr due) =
      absurd (not_gathers command role blamed bad due.sources due.gathers)
  blamed_alone command role blamed bad (TooBig name size total) (inl due) =
      let found = due.held told in
      big_file_is command role due.role blamed bad name due.asked due.read_before found.0 found.1
      size total found.2 due.total_is due.beyond
  blamed_alone command role blamed bad (TooBig name size total) (inr due) =
      absurd (not_gathers command role blamed bad due.sources due.gathers)
  blamed_alone command role blamed bad (BadModel found) due =
      absurd (not_input command role blamed bad due.bytes due.source due.model_file due.main)

  -- where the sources can't be used, they were not gathered
  not_gathered : (found : Option Sources) (sources : Sources) (blamed : Answer)
      → found ≡ Some sources → BlamesSources reads sources blamed → AreGatheredFrom reads found → ⊥
  not_gathered None sources blamed asked is gathered = cc
  not_gathered (Some other) sources blamed asked is gathered =
      let same : other ≡ sources = cc in
      let there : told_answer reads.before.held sources.file sources.dirs ≡ Ok gathered.0 =
      subst (λ (s : Sources). told_answer reads.before.held s.file s.dirs ≡ Ok gathered.0) same
      (gathered.1.answer told) in
      elim is [
        | inl absent ↦ ok_or_absent _ gathered.0 there absent.0
        | inr big ↦ ok_or_big _ gathered.0 big.0 big.1 big.2 there big.3
      ]

  -- a file that is read alone, of a command whose sources can't be used, can be used
  not_absent_alone : (command : Command) (blamed : Answer) → AreUnusable reads command blamed
      → (role : Role) (name : List ℕ) → name_of command role ≡ Some name
      → reads.before.held name ≡ None → ⊥
  not_absent_alone command blamed bad Model name asked none =
      let held = (usable_at (name_of command Model) name asked bad.usable_before).1 in cc
  not_absent_alone command blamed bad Main name asked none =
      gathers_no_main command bad.sources name bad.asked asked

  not_big_alone : (command : Command) (blamed : Answer) → AreUnusable reads command blamed
      → (role : Role) (name : List ℕ) → name_of command role ≡ Some name
      → (bytes : List ℕ) → reads.before.held name ≡ Some bytes → MOST_FILE_BYTES < length bytes → ⊥
  not_big_alone command blamed bad Model name asked bytes held big =
      let usable = usable_at (name_of command Model) name asked bad.usable_before in
      let same = some_same (reads.before.held name) bytes usable.0 held usable.1 in
      omega (arith, ap length same, usable.2, big)
  not_big_alone command blamed bad Main name asked bytes held big =
      gathers_no_main command bad.sources name bad.asked asked

  absent_main_is : (sources other : Sources) (blamed : Answer) (name : List ℕ)
      → BlamesSources reads sources blamed → other ≡ sources → name ≡ other.file
      → told_answer reads.before.held other.file other.dirs ≡ Err fault.MainAbsent
      → NoFile name ≡ blamed
  absent_main_is sources other blamed name is same main none =
      let here : told_answer reads.before.held sources.file sources.dirs ≡ Err fault.MainAbsent =
      subst
      (λ (s : Sources). told_answer reads.before.held s.file s.dirs ≡ Err fault.MainAbsent) same
      none in
      elim is [
        | inl absent ↦
            ap (λ (n : List ℕ). NoFile n) (main ∙ ap (λ (s : Sources). s.file) same)
            ∙ sym absent.1
        | inr big ↦ absurd (absent_or_big _ big.0 big.1 big.2 here big.3)
      ]

  too_big_among_is : (sources other : Sources) (blamed : Answer) (name : List ℕ) (size total : ℕ)
      → BlamesSources reads sources blamed → other ≡ sources
      → told_answer reads.before.held other.file other.dirs ≡ Err (fault.TooBig name size total)
      → TooBig name size total ≡ blamed
  too_big_among_is sources other blamed name size total is same first =
      let here : told_answer reads.before.held sources.file sources.dirs
      ≡ Err (fault.TooBig name size total) =
      subst
      (λ (s : Sources).
      told_answer reads.before.held s.file s.dirs ≡ Err (fault.TooBig name size total)) same
      first in
      elim is [
        | inl absent ↦ absurd (absent_or_big _ name size total absent.0 here)
        | inr big ↦
            one_big _ name big.0 size total big.1 big.2 here big.3 ∙ sym big.4
      ]

  blamed_among : (command : Command) (blamed : Answer) → AreUnusable reads command blamed
      → (answer : Answer) → IsDueTo reads command answer → answer ≡ blamed
  blamed_among command blamed bad (Encoded text) due =
      absurd (not_gathered (gathered_of command) bad.sources blamed bad.asked bad.blamed
      due.input.gathered)
  blamed_among command blamed bad (Options text) due =
      absurd (not_gathered (gathered_of command) bad.sources blamed bad.asked bad.blamed
      due.input.gathered)
  blamed_among command blamed bad (Variant text) due =
      absurd (not_gathered (gathered_of command) bad.sources blamed bad.asked bad.blamed
      due.chosen.input.gathered)
  blamed_among command blamed bad (Fails config position why) (inl due) =
      absurd (not_gathered (gathered_of command) bad.sources blamed bad.asked bad.blamed
      due.input.gathered)
  blamed_among command blamed bad (Fails config position why) (inr due) =
      absurd (not_gathered (gathered_of command) bad.sources blamed bad.asked bad.blamed
      due.chosen.input.gathered)
  blamed_among command blamed bad BadWords due = absurd due
  blamed_among command blamed bad BadConfig due =
      absurd (not_gathered (gathered_of command) bad.sources blamed bad.asked bad.blamed
      due.input.gathered)
  blamed_among command blamed bad (CannotRead name) (inl due) = absurd (no_fault due.rose)
  blamed_among command blamed bad (CannotRead name) (inr due) = absurd (no_fault due.cause.0)
  blamed_among command blamed bad (NoFile name) (inl due) =
      absurd (not_absent_alone command blamed bad due.role name due.asked (due.held told))
  blamed_among command blamed bad (NoFile name) (inr due) =
      absent_main_is bad.sources due.sources blamed name bad.blamed
      (one_sources (gathered_of command) bad.sources due.sources bad.asked due.gathers.asked)
      due.main (due.none told)
  blamed_among command blamed bad (TooBig name size total) (inl due) =
      let found = due.held told in
      absurd (not_big_alone command blamed bad due.role name due.asked found.0 found.1
      (omega (arith, found.2, due.beyond)))
  blamed_among command blamed bad (TooBig name size total) (inr due) =
      too_big_among_is bad.sources due.sources blamed name size total bad.blamed
      (one_sources (gathered_of command) bad.sources due.sources bad.asked due.gathers.asked)
      (due.first told)
  blamed_among command blamed bad (BadModel found) due =
      absurd (not_gathered (gathered_of command) bad.sources blamed bad.asked bad.blamed
      due.gathered)

-- what is due is said of the first file that can't be used
pub only_blamed : (reads : Reads) (command : Command) (blamed : Answer)
    → IsFirstUnusable reads command blamed → (answer : Answer) → IsDueTo reads command answer
    → answer ≡ blamed
only_blamed reads command blamed bad answer due = elim bad.first [
  | inl alone ↦
      blamed_alone reads bad.told bad.no_read_fault command alone.0 blamed alone.1 answer due
  | inr among ↦ blamed_among reads bad.told bad.no_read_fault command blamed among answer due
]
