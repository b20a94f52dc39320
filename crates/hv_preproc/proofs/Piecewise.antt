-- A file is read piece by piece.
use Rattle.std.proofs.Common.{◌≡◌, Bool, true, false, List, ◌∷◌, Option, refl, sym, ◌∙◌, ap}
use Rattle.hv_base.specs.Bundles.{NamedFiles}
use Rattle.hv_plainpp.specs.Directives.{Directive, action, conditional, directive_of}
use Rattle.hv_plainpp.specs.Files.{Entered, place_of}
use Rattle.hv_plainpp.specs.Groups.{Group, is_processed, regrouped}
use Rattle.hv_plainpp.specs.Lines.{Piece, directive, text}
use Rattle.hv_plainpp.specs.Preprocessing.{Reader, obeyed, rest_of_file}
use Rattle.hv_plainpp.specs.Reading.{Ending, Met, Reading, and_then, continued, reaches, reading, refused}
use Rattle.hv_plainpp.specs.Text.{episodes}
use Rattle.hv_preproc.proofs.Chaining.{and_then-assoc}
use Rattle.hv_preproc.specs.working.Parts.{action_part, group_part, groups_after, keeping, piece_part}
use Rattle.hv_toks.specs.MacroState.{Entry, meaning_of}
use Rattle.hv_toks.specs.declared.token.PpTok.{PpTok}

-- what is read after a reading that keeps the macro state
keeping-then : {A B : Type 0} (r : Reading A) (macros : List Entry) (g : List Entry → Reading B)
    → and_then (keeping r macros) g ≡ and_then r (λ value. g macros)
keeping-then r macros g = and_then-assoc r (λ value. reading macros) g

-- a reading that comes to one value at most goes on alike where both go on alike from that value
same-value : {A B : Type 0} (met : List Met) (o : Ending A) (now : A)
    → ((a : A) → o ≡ reaches a → a ≡ now) → (f g : A → Reading B) → f now ≡ g now
    → and_then (record { met = met; ending = o }) f ≡ and_then (record { met = met; ending = o }) g
same-value met (reaches v) now only f g e =
    ap (continued met) (ap f (only v refl) ∙ (e ∙ ap g (sym (only v refl))))
same-value met (refused why place) now only f g e = refl

by-processed : (b : Bool) (r : Reading (List Entry)) (f : List Entry → Reading (List Entry))
    (macros : List Entry)
    → elim b as (λ _. Reading (List Entry)) [ true ↦ and_then r f | false ↦ f macros ]
    ≡ and_then (elim b as (λ _. Reading (List Entry)) [ true ↦ r | false ↦ reading macros ]) f
by-processed true r f macros = refl
by-processed false r f macros = refl

by-text : (b : Bool) (r : Reading (Unit {0})) (f : List Entry → Reading (List Entry))
    (macros : List Entry)
    → elim b as (λ _. Reading (List Entry)) [ true ↦ and_then r (λ done. f macros) | false ↦ f macros ]
    ≡ and_then (elim b as (λ _. Reading (List Entry)) [
      | true ↦ keeping r macros
      | false ↦ reading macros
    ]) f
by-text true r f macros = sym (keeping-then r macros f)
by-text false r f macros = refl

by-directive : (bundle : NamedFiles) (reader : Option Reader) (at : Entered) (groups now : List Group)
    (hash : PpTok) (macros : List Entry) (f : List Group → List Entry → Reading (List Entry))
    (d : Directive)
    → ((g : List Group) → (elim d as (λ _. Reading (List Group)) [
      | conditional c ↦ regrouped at (meaning_of macros) (place_of at hash) c groups
      | action a ↦ reading groups
    ]).ending ≡ reaches g → g ≡ now)
    → elim d as (λ _. Reading (List Entry)) [
      | conditional c ↦ and_then (regrouped at (meaning_of macros) (place_of at hash) c groups)
          (λ next. f next macros)
      | action a ↦ elim (is_processed groups) as (λ _. Reading (List Entry)) [
        | true ↦ and_then (obeyed bundle reader at hash a macros) (λ after. f groups after)
        | false ↦ f groups macros
      ]
    ] ≡ and_then (elim d as (λ _. Reading (List Entry)) [
      | conditional c ↦ group_part at groups hash c macros
      | action a ↦ action_part bundle reader at groups hash a macros
    ]) (f now)
by-directive bundle reader at groups now hash macros f (conditional c) only =
    same-value (regrouped at (meaning_of macros) (place_of at hash) c groups).met
    (regrouped at (meaning_of macros) (place_of at hash) c groups).ending now only
    (λ next. f next macros) (λ next. f now macros) refl
    ∙ sym (keeping-then (regrouped at (meaning_of macros) (place_of at hash) c groups) macros (f now))
by-directive bundle reader at groups now hash macros f (action a) only =
    by-processed (is_processed groups) (obeyed bundle reader at hash a macros) (f groups) macros
    ∙ ap (λ (gs : List Group). and_then (action_part bundle reader at groups hash a macros) (f gs))
    (only groups refl)

-- the rest of a file is its first piece, and then the rest from there on, where these are the groups
-- after the piece if it comes to any
pub rest_of_file-piece : (bundle : NamedFiles) (reader : Option Reader) (at : Entered)
    (groups now : List Group) (p : Piece) (pieces : List Piece) (macros : List Entry)
    → ((g : List Group) → (groups_after at (meaning_of macros) p groups).ending ≡ reaches g → g ≡ now)
    → rest_of_file bundle reader at groups (p ∷ pieces) macros
    ≡ and_then (piece_part bundle reader at groups p macros)
    (λ after. rest_of_file bundle reader at now pieces after)
rest_of_file-piece bundle reader at groups now (text run ends) pieces macros only =
    by-text (is_processed groups) (episodes at ends (meaning_of macros) 0 run)
    (λ after. rest_of_file bundle reader at groups pieces after) macros
    ∙ ap (λ (gs : List Group). and_then (piece_part bundle reader at groups (text run ends) macros)
    (λ after. rest_of_file bundle reader at gs pieces after)) (only groups refl)
rest_of_file-piece bundle reader at groups now (directive hash line) pieces macros only =
    by-directive bundle reader at groups now hash macros
    (λ gs after. rest_of_file bundle reader at gs pieces after) (directive_of line) only
