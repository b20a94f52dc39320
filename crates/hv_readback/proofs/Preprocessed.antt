-- A text that is cut into ordinary tokens is preprocessed to what they become.
use Rattle.std.proofs.Common.{◌≡◌, ℕ, zero, suc, true, not, List, [], ◌∷◌, map, refl, ap, ◌∙◌, subst, Option, Some, None}
use Rattle.std.specs.Prelude.{Result, ◌&&◌, Ok}
use Rattle.std.specs.Str.{bytes_eq}
use Rattle.std.proofs.lemmas.Slice.Eq.{bytes_eq-Decides}
use Rattle.hv_base.proofs.Booleans.{and_left, and_right}
use Rattle.hv_base.proofs.Lists.{heads}
use Rattle.hv_base.specs.declared.limits.TheConstants.{MOST_INCLUDES}
use Rattle.hv_base.specs.declared.place.Place.{Place}
use Rattle.hv_base.specs.declared.token.CTok.{CTok}
use Rattle.hv_base.specs.declared.token.CTok.TheVariants.{Keyword, Name, Int, Char, Str, Punct}
use Rattle.hv_base.specs.declared.why.Why.{Why}
use Rattle.hv_ctoks.specs.Joining.{before_joined, joined}
use Rattle.hv_ctoks.specs.ReadBack.{AreReadBack, becomes}
use Rattle.hv_ctoks.specs.declared.reserved.ReservedNames.TheVariants.{Allowed}
use Rattle.hv_ctoks.proofs.ListsReadBack.{are_read_back}
use Rattle.hv_readback.proofs.CutLemmas.{IsCut-cut}
use Rattle.hv_plain.specs.episode.Expansion.{gives}
use Rattle.hv_plain.specs.gathering.Mentions.{cut}
use Rattle.hv_plainpp.specs.CTokens.{Identity, given, with_token, c_tokens, with_strings_joined, ending_of}
use Rattle.hv_plainpp.specs.Files.{File, Entered, place_of, file_in}
use Rattle.hv_plainpp.specs.Laws.{own_episode, AreOrdinary}
use Rattle.hv_plainpp.specs.Preprocessing.{entered, unit, unit_of}
use Rattle.hv_plainpp.specs.Reading.{Reading, Ending, reaches}
use Rattle.hv_plainpp.proofs.OrdinaryText.{ordinary_text}
use Rattle.hv_print.specs.Shown.{shown}
use Rattle.hv_toks.specs.Cutting.{IsCut, tokens}
use Rattle.hv_toks.specs.MacroState.{Entry}
use Rattle.hv_toks.specs.declared.token.PpTok.{PpTok}
use Rattle.hv_toks.proofs.Unique.{unique}
use Rattle.hv_readback.specs.Laws.{is_string, begins_with_string, are_apart, TokensAreReadBack}
use Rattle.hv_readback.specs.Texts.{alone}
use Rattle.hv_readback.proofs.Printed.{as_printed, kept, text_shown, each_becomes, printable, start, ordinary}

------ the file

-- the one file of a bundle
abbrev file : (name bytes : List ℕ) → File
file name bytes = record { number = 0; name = name; bytes = bytes }

abbrev at : (name bytes : List ℕ) → Entered
at name bytes = record { file = file name bytes; stack = [] }

same_name : (name : List ℕ) → bytes_eq name name ≡ true
same_name name = (bytes_eq-Decides name name).1 refl

found : (name bytes : List ℕ) → file_in (alone name bytes) name ≡ Some (file name bytes)
found name bytes = rw (same_name name) refl

entered_own : (n : ℕ) (name bytes : List ℕ) (toks : List PpTok) → cut 0 bytes ≡ tokens toks
    → AreOrdinary start toks
    → entered n (alone name bytes) (at name bytes) start
    ≡ record { met = map (own_episode (at name bytes)) toks; ending = reaches start }
unfolding entered
entered_own zero name bytes toks cuts h =
    ordinary_text (alone name bytes) None (at name bytes) toks start cuts h
entered_own (suc n) name bytes toks cuts h =
    ordinary_text (alone name bytes) (Some (entered n (alone name bytes))) (at name bytes) toks start
    cuts h

unit_own : (name bytes : List ℕ) (toks : List PpTok) → cut 0 bytes ≡ tokens toks
    → AreOrdinary start toks
    → unit (alone name bytes) start
    ≡ record { met = map (own_episode (at name bytes)) toks; ending = reaches start }
unit_own name bytes toks cuts h =
    ap (λ (main : Option File). unit_of (alone name bytes) main start) (found name bytes)
    ∙ entered_own MOST_INCLUDES name bytes toks cuts h

------ its tokens

-- what identifies the token of an episode of its own
abbrev identity : Entered → PpTok → Identity
identity at t = record { place = place_of at t; face = gives t.kind t.text ∷ []; index = 0 }

-- the tokens of C of a file, each with what identifies it
abbrev identified : Entered → List PpTok → List CTok → List (CTok × Identity)
identified at [] cs = []
identified at (t ∷ toks) [] = []
identified at (t ∷ toks) (c ∷ cs) = (c, identity at t) ∷ identified at toks cs

-- the place of a token's episode
abbrev place : Identity → Place
place i = i.place

all_become : (at : Entered) (toks : List PpTok) (cs : List CTok)
    → map (becomes Allowed) toks ≡ map kept cs
    → c_tokens place Allowed (given (map (own_episode at) toks)) ≡ reaches (identified at toks cs)
all_become at [] cs e = refl
all_become at (t ∷ toks) [] e = cc
all_become at (t ∷ toks) (c ∷ cs) e =
    let both = heads (becomes Allowed t) (kept c) (map (becomes Allowed) toks) (map kept cs) e in
    let rest : Ending (List (CTok × Identity)) =
    c_tokens place Allowed (given (map (own_episode at) toks)) in
    ap (λ (r : Result CTok Why). with_token place r (identity at t) rest) both.0
    ∙ ap (with_token place (Ok c) (identity at t)) (all_become at toks cs both.1)

same_tokens : (at : Entered) (toks : List PpTok) (cs : List CTok)
    → map (becomes Allowed) toks ≡ map kept cs → map (λ t. t.0) (identified at toks cs) ≡ cs
same_tokens at [] [] e = refl
same_tokens at [] (c ∷ cs) e = cc
same_tokens at (t ∷ toks) [] e = cc
same_tokens at (t ∷ toks) (c ∷ cs) e =
    let both = heads (becomes Allowed t) (kept c) (map (becomes Allowed) toks) (map kept cs) e in
    ap (λ rest. c ∷ rest) (same_tokens at toks cs both.1)

-- a string literal before a token that is none stays as it is
string_apart : (at : Entered) (bytes : List ℕ) (i : Identity) (toks : List PpTok) (cs : List CTok)
    → not (begins_with_string cs) ≡ true
    → before_joined (Str bytes, i) (identified at toks cs) ≡ (Str bytes, i) ∷ identified at toks cs
string_apart at bytes i [] cs e = refl
string_apart at bytes i (t ∷ toks) [] e = refl
string_apart at bytes i (t ∷ toks) (Keyword k ∷ cs) e = refl
string_apart at bytes i (t ∷ toks) (Name n ∷ cs) e = refl
string_apart at bytes i (t ∷ toks) (Int v k ∷ cs) e = refl
string_apart at bytes i (t ∷ toks) (Char v ∷ cs) e = refl
string_apart at bytes i (t ∷ toks) (Str more ∷ cs) e = cc
string_apart at bytes i (t ∷ toks) (Punct p ∷ cs) e = refl

one_apart : (at : Entered) (c : CTok) (i : Identity) (toks : List PpTok) (cs : List CTok)
    → not (is_string c && begins_with_string cs) ≡ true
    → before_joined (c, i) (identified at toks cs) ≡ (c, i) ∷ identified at toks cs
one_apart at (Keyword k) i toks cs e = refl
one_apart at (Name n) i toks cs e = refl
one_apart at (Int v k) i toks cs e = refl
one_apart at (Char v) i toks cs e = refl
one_apart at (Str bytes) i toks cs e = string_apart at bytes i toks cs e
one_apart at (Punct p) i toks cs e = refl

all_apart : (at : Entered) (toks : List PpTok) (cs : List CTok) → are_apart cs ≡ true
    → joined (identified at toks cs) ≡ identified at toks cs
all_apart at [] cs e = refl
all_apart at (t ∷ toks) [] e = refl
all_apart at (t ∷ toks) (c ∷ cs) e =
    ap (before_joined (c, identity at t)) (all_apart at toks cs (and_right _ _ e))
    ∙ one_apart at c (identity at t) toks cs (and_left _ _ e)

------ the law

cut_shown : (cs : List CTok) (toks : List PpTok)
    → IsCut 0 (Rattle.hv_ctoks.specs.ReadBack.text_of (map as_printed cs)) (tokens toks)
    → cut 0 (shown cs) ≡ tokens toks
cut_shown cs toks c =
    unique (IsCut-cut 0 (shown cs))
    (subst (λ (bytes : List ℕ). IsCut 0 bytes (tokens toks)) (text_shown cs) c)

pub tokens_are_read_back : TokensAreReadBack
tokens_are_read_back name cs all apart =
    let back = are_read_back Allowed 0 (map as_printed cs) (printable cs all) in
    let become : map (becomes Allowed) back.toks ≡ map kept cs = back.same ∙ each_becomes cs in
    let here : Entered = at name (shown cs) in
    let read =
    unit_own name (shown cs) back.toks (cut_shown cs back.toks back.cut)
    (ordinary back.toks cs become all) in
    record {
      unit = identified here back.toks cs;
      reached = ap (λ (r : Reading (List Entry)). ending_of Allowed r) read
          ∙ (ap with_strings_joined (all_become here back.toks cs become)
          ∙ ap reaches (all_apart here back.toks cs apart));
      same = same_tokens here back.toks cs become;
    }
