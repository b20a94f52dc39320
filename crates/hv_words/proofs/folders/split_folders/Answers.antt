use Rattle.std.proofs.Common.{◌∙◌, sym, true, false}
use Rattle.hv_words.proofs.FoldersLemmas.{folders_of_names}
use Rattle.hv_words.proofs.folders.split_folders.Goals as goal

pub returns-then-are_folders : goal.returns-then-are_folders
returns-then-are_folders c =
    sym (folders_of_names c.args.text.now c.in_ok-names.names.items true c.in_ok-names.ensures
    (rw (c.as_slice.ensures.value) at (sym c.are_folders.ensures ∙ c.if-are_folders.true)))

pub returns-else-are_folders : goal.returns-else-are_folders
returns-else-are_folders c =
    sym (folders_of_names c.args.text.now c.in_ok-names.names.items false c.in_ok-names.ensures
    (rw (c.as_slice.ensures.value) at (sym c.are_folders.ensures ∙ c.if-are_folders.false)))
