-- No two episodes of a translation unit are met at one place.
use Rattle.std.proofs.Common.{◌≡◌, ℕ, zero, suc, ◌≤◌, Bool, true, false, List, [], ◌∷◌, ◌++◌, refl, sym, ap, ◌∙◌, subst, arith, Option, Some, None}
use Rattle.hv_base.specs.Bundles.{NamedFiles}
use Rattle.hv_base.specs.declared.limits.TheConstants.{MOST_INCLUDES}
use Rattle.hv_toks.specs.Cutting.{Cutting, tokens, open_comment}
use Rattle.hv_toks.specs.MacroState.{Entry, meaning_of}
use Rattle.hv_toks.specs.declared.token.PpTok.{PpTok}
use Rattle.hv_plain.specs.gathering.Mentions.{cut}
use Rattle.hv_plainpp.proofs.CutPlaces.{Increasing, cut_increasing}
use Rattle.hv_plainpp.proofs.OrdinaryText.{all_of, lines_all}
use Rattle.hv_plainpp.specs.Directives.{Directive, conditional, action, directive_of}
use Rattle.hv_plainpp.specs.Files.{File, Entered, place_of, file_in}
use Rattle.hv_plainpp.specs.Groups.{Group, is_processed, regrouped}
use Rattle.hv_plainpp.specs.Laws.{DifferInPlace, PlacesDiffer}
use Rattle.hv_plainpp.specs.Lines.{Piece, text, directive, begins_directive, lines_of, with_line, pieces_of}
use Rattle.hv_plainpp.specs.Preprocessing.{Reader, obeyed, at_end, rest_of_file, cut_file, file, entered, unit_of}
use Rattle.hv_plainpp.specs.Reading.{Reading, and_then}
use Rattle.hv_plainpp.specs.Text.{episodes}
use Rattle.std.proofs.lemmas.List.{append_assoc}
use Rattle.hv_plainpp.proofs.Placement.{Rest, rest_later, block_wider, and_then_rest, if_rest, text_rest}
use Rattle.hv_plainpp.proofs.DirectivePlacement.{FirstIn, ForDirective, for_named, regrouped_block, ReaderPlaced, obeyed_block}

------ the tokens of pieces

tokens_in : List Piece → List PpTok
tokens_in [] = []
tokens_in (text run ends ∷ pieces) = run ++ tokens_in pieces
tokens_in (directive hash line ∷ pieces) = hash ∷ (line ++ tokens_in pieces)

with_line_tokens : (line : List PpTok) (pieces : List Piece)
    → tokens_in (with_line line pieces) ≡ line ++ tokens_in pieces
unfolding tokens_in
with_line_tokens line [] = refl
with_line_tokens line (text run ends ∷ pieces) = append_assoc line run (tokens_in pieces)
with_line_tokens line (directive hash more ∷ pieces) = refl

piece_tokens : (t : PpTok) (line : List PpTok) (pieces : List Piece) (b : Bool)
    → tokens_in (elim b as (λ _. List Piece) [
      | true ↦ directive t line ∷ pieces
      | false ↦ with_line (t ∷ line) pieces
    ]) ≡ t ∷ (line ++ tokens_in pieces)
unfolding tokens_in
piece_tokens t line pieces true = refl
piece_tokens t line pieces false = with_line_tokens (t ∷ line) pieces

pieces_tokens : (lines : List (List PpTok)) → tokens_in (pieces_of lines) ≡ all_of lines
unfolding tokens_in
pieces_tokens [] = refl
pieces_tokens ([] ∷ lines) = pieces_tokens lines
pieces_tokens ((t ∷ line) ∷ lines) =
    piece_tokens t line (pieces_of lines) (begins_directive t)
    ∙ ap (λ (r : List PpTok). t ∷ (line ++ r)) (pieces_tokens lines)

increasing_from : (lo hi : ℕ) → lo ≤ hi → (toks : List PpTok) → Increasing hi toks
    → Increasing lo toks
increasing_from lo hi h [] p = tt
increasing_from lo hi h (t ∷ toks) p = (omega (arith, h, p.0), p.1)

-- where the tokens behind these may begin
end_of : ℕ → List PpTok → ℕ
end_of lo [] = lo
end_of lo (t ∷ toks) = end_of (suc t.span.start) toks

increasing_left : (lo : ℕ) (toks more : List PpTok) → Increasing lo (toks ++ more)
    → Increasing lo toks
increasing_left lo [] more p = tt
increasing_left lo (t ∷ toks) more p = (p.0, increasing_left (suc t.span.start) toks more p.1)

increasing_right : (lo : ℕ) (toks more : List PpTok) → Increasing lo (toks ++ more)
    → Increasing (end_of lo toks) more
unfolding end_of
increasing_right lo [] more p = p
increasing_right lo (t ∷ toks) more p = increasing_right (suc t.span.start) toks more p.1

end_later : (lo : ℕ) (toks : List PpTok) → Increasing lo toks → lo ≤ end_of lo toks
unfolding end_of
end_later lo [] p = omega arith
end_later lo (t ∷ toks) p = omega (arith, p.0, end_later (suc t.span.start) toks p.1)

directive_first : (lo : ℕ) (line : List PpTok) → Increasing lo line
    → ForDirective (FirstIn lo (end_of lo line)) (directive_of line)
unfolding end_of
directive_first lo [] p = tt
directive_first lo (name ∷ []) p =
    for_named (FirstIn lo (suc name.span.start)) name.text [] tt
directive_first lo (name ∷ t ∷ toks) p =
    for_named (FirstIn lo (end_of (suc t.span.start) toks)) name.text (t ∷ toks)
    (omega (arith, p.0, p.1.0), omega (arith, end_later (suc t.span.start) toks p.1.1))

------ files

-- the lines behind a directive, by which one it is
directive_rest : (bundle : NamedFiles) (reader : Option Reader) → ReaderPlaced reader
    → (at : Entered) (groups : List Group) (hash : PpTok) (macros : List Entry) (lo hi : ℕ)
    → lo ≤ hash.span.start → suc hash.span.start ≤ hi
    → (next : List Group → List Entry → Reading (List Entry))
    → ((now : List Group) (after : List Entry) → Rest at.stack hi (next now after).met)
    → (d : Directive) → ForDirective (FirstIn (suc hash.span.start) hi) d
    → Rest at.stack lo (elim d as (λ _. Reading (List Entry)) [
      | conditional c ↦
          and_then (regrouped at (meaning_of macros) (place_of at hash) c groups)
          (λ now. next now macros)
      | action a ↦ elim (is_processed groups) [
        | true ↦ and_then (obeyed bundle reader at hash a macros) (λ now. next groups now)
        | false ↦ next groups macros
      ]
    ]).met
directive_rest bundle reader h at groups hash macros lo hi p q next rest (conditional c) f =
    rest_later at.stack lo (suc hash.span.start) (omega (arith, p))
    (and_then (regrouped at (meaning_of macros) (place_of at hash) c groups)
    (λ now. next now macros)).met
    (and_then_rest at.stack (suc hash.span.start) hi q
    (regrouped at (meaning_of macros) (place_of at hash) c groups) (λ now. next now macros)
    (regrouped_block at (meaning_of macros) (place_of at hash) c groups (suc hash.span.start) hi f)
    (λ now. rest now macros))
directive_rest bundle reader h at groups hash macros lo hi p q next rest (action a) f =
    if_rest at.stack lo (is_processed groups)
    (and_then (obeyed bundle reader at hash a macros) (λ now. next groups now))
    (next groups macros)
    (and_then_rest at.stack lo hi (omega (arith, p, q)) (obeyed bundle reader at hash a macros)
    (λ now. next groups now)
    (block_wider at.stack hash.span.start (suc hash.span.start) lo hi p q
    (obeyed bundle reader at hash a macros).met (obeyed_block bundle reader h at hash a macros))
    (λ now. rest groups now))
    (rest_later at.stack lo hi (omega (arith, p, q)) (next groups macros).met (rest groups macros))

end_met : (groups : List Group) (macros : List Entry) → (at_end groups macros).met ≡ []
end_met [] macros = refl
end_met (g ∷ groups) macros = refl

rest_placed : (bundle : NamedFiles) (reader : Option Reader) → ReaderPlaced reader
    → (at : Entered) (pieces : List Piece) (groups : List Group) (macros : List Entry) (lo : ℕ)
    → Increasing lo (tokens_in pieces)
    → Rest at.stack lo (rest_of_file bundle reader at groups pieces macros).met
unfolding tokens_in
rest_placed bundle reader h at [] groups macros lo p =
    subst (Rest at.stack lo) (sym (end_met groups macros)) (tt, tt)
rest_placed bundle reader h at (text run ends ∷ pieces) groups macros lo p =
    let next : Unit {0} → Reading (List Entry) =
    λ done. rest_of_file bundle reader at groups pieces macros in
    if_rest at.stack lo (is_processed groups)
    (and_then (episodes at ends (meaning_of macros) 0 run) next)
    (rest_of_file bundle reader at groups pieces macros)
    (text_rest at ends (meaning_of macros) next (tokens_in pieces)
    (λ low q. rest_placed bundle reader h at pieces groups macros low q) run 0 lo p)
    (rest_placed bundle reader h at pieces groups macros lo
    (increasing_from lo (end_of lo run) (end_later lo run (increasing_left lo run
    (tokens_in pieces) p)) (tokens_in pieces) (increasing_right lo run (tokens_in pieces) p)))
rest_placed bundle reader h at (directive hash line ∷ pieces) groups macros lo p =
    let from : ℕ = suc hash.span.start in
    let own : Increasing from line = increasing_left from line (tokens_in pieces) p.1 in
    directive_rest bundle reader h at groups hash macros lo (end_of from line) p.0
    (end_later from line own)
    (λ now after. rest_of_file bundle reader at now pieces after)
    (λ now after. rest_placed bundle reader h at pieces now after (end_of from line)
    (increasing_right from line (tokens_in pieces) p.1))
    (directive_of line) (directive_first from line own)

cut_placed : (bundle : NamedFiles) (reader : Option Reader) → ReaderPlaced reader
    → (at : Entered) (macros : List Entry) (c : Cutting)
    → cut at.file.number at.file.bytes ≡ c
    → Rest at.stack 0 (cut_file bundle reader at c macros).met
cut_placed bundle reader h at macros (open_comment offset) e = (tt, tt)
cut_placed bundle reader h at macros (tokens toks) e =
    rest_placed bundle reader h at (pieces_of (lines_of toks)) [] macros 0
    (subst (Increasing 0) (sym (pieces_tokens (lines_of toks) ∙ lines_all toks))
    (cut_increasing at.file.number at.file.bytes toks e))

file_placed : (bundle : NamedFiles) (reader : Option Reader) → ReaderPlaced reader
    → ReaderPlaced (Some (file bundle reader))
file_placed bundle reader h at macros =
    cut_placed bundle reader h at macros (cut at.file.number at.file.bytes) refl

entered_placed : (left : ℕ) (bundle : NamedFiles) → ReaderPlaced (Some (entered left bundle))
unfolding entered
entered_placed zero bundle at macros = file_placed bundle None tt at macros
entered_placed (suc left) bundle at macros =
    file_placed bundle (Some (entered left bundle)) (entered_placed left bundle) at macros

unit_placed : (bundle : NamedFiles) (macros : List Entry) (o : Option File)
    → DifferInPlace (unit_of bundle o macros).met
unit_placed bundle macros None = tt
unit_placed bundle macros (Some main) =
    (entered_placed MOST_INCLUDES bundle (record { file = main; stack = [] }) macros).0

pub places_differ : PlacesDiffer
places_differ bundle macros = unit_placed bundle macros (file_in bundle bundle.main)
