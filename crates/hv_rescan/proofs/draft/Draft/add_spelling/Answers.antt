use Rattle.hv_rescan.proofs.Texts.{spelling_added}
use Rattle.std.proofs.Common.{sym, ap, ◌∙◌, ◌++◌, ◌∷◌, [], reverse, List, ℕ}
use Rattle.std.proofs.lemmas.List.{reverse-reverse}
use Rattle.hv_plain.specs.episode.Episode.{digit}
use Rattle.hv_rescan.specs.declared.spelling.Digit.{Digit}
use Rattle.hv_rescan.specs.declared.spelling.Spelling.{Spelling}
use Rattle.hv_rescan.specs.Values.{text_of}
use Rattle.hv_rescan.specs.working.Drafts.{digits_within, draft_of, within}
use Rattle.hv_rescan.proofs.draft.Draft.add_spelling.Goals as goal

pub returns-in_ok-add-in-Open-2 : goal.returns-in_ok-add-in-Open-2
returns-in_ok-add-in-Open-2 c macros =
    let q = c.args.is_quoted in
    spelling_added q macros c.in-Open.first c.in-Open.more c.in-Open.tail
    (draft_of macros c.args.self.now) (draft_of macros c.add-in-Open.new.self)
    (draft_of macros c.add_digit.new.self) (draft_of macros c.add_digits.new.self)
    (draft_of macros c.add-in-Open-2.new.self)
    (c.in_ok-add-in-Open.ensures macros ∙ ap (λ (x : List ℕ). draft_of macros c.args.self.now
    ++ within q x) c.as_slice-in-Open.ensures)
    (c.in_ok-add_digit-in-Open.ensures macros ∙ ap (λ (x : List ℕ). draft_of macros
    c.add-in-Open.new.self ++ digit (macros x) ∷ []) c.as_slice-in-Open-2.ensures)
    (c.in_ok-add_digits-in-Open.ensures macros ∙ ap (λ (ds : List Digit). draft_of macros
    c.add_digit.new.self ++ digits_within q macros ds)
    (ap reverse c.as_slice-in-Open-3.ensures ∙ reverse-reverse c.in-Open.more))
    (c.in_ok-add-in-Open-2.ensures macros ∙ ap (λ (x : List ℕ). draft_of macros
    c.add_digits.new.self ++ within q x) c.as_slice-in-Open-4.ensures)
    ∙ ap (λ (s : Spelling). draft_of macros c.args.self.now ++ within q (text_of macros s)) (sym c.in-Open.is)
