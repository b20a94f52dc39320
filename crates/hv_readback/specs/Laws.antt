-- What is proved of printed text: that it is read back.
use Rattle.std.specs.Prelude.{◌≡◌, ℕ, Bool, true, false, not, ◌&&◌, List, [], ◌∷◌, map, codes, IsTrue}
use Rattle.std.specs.List.{All}
use Rattle.std.specs.Str.{bytes_eq}
use Rattle.hv_base.specs.Ascii.{is_among}
use Rattle.hv_base.specs.declared.token.CTok.{CTok}
use Rattle.hv_base.specs.declared.token.CTok.TheVariants.{Name, Str}
use Rattle.hv_ctoks.specs.Spelling.{spelling}
use Rattle.hv_ctoks.specs.Tokens.{is_token}
use Rattle.hv_ctoks.specs.declared.reserved.ReservedNames.TheVariants.{Allowed}
use Rattle.hv_ctree.specs.tree.Statements.{Program}
use Rattle.hv_grammar.specs.Refusal.{Limits}
use Rattle.hv_model.specs.Beginning.{predefined}
use Rattle.hv_print.specs.ProgramTokens.{program_tokens}
use Rattle.hv_print.specs.Shown.{shown, c_tokens}
use Rattle.hv_grammar.specs.Grammar.{DerivesProgram}
use Rattle.hv_grammar.specs.Symbols.{Token}
use Rattle.hv_readback.specs.Places.{AreSameUpToPlaces}
use Rattle.hv_readback.specs.Texts.{IsPreprocessed, IsDerived, IsReadAs, DerivesUpToPlaces, IsReadInPlace}

-- whether a token is the name of a predefined macro, which preprocessing replaces (6.10.8)
abbrev pub is_predefined : CTok → Bool
is_predefined (Name name) = is_among name (map (λ d. d.0) predefined)
is_predefined _ = false

-- whether a token may be printed: a token of the profile, but not `#`, which could begin a
-- directive, and not the name of a predefined macro
abbrev pub is_printable : CTok → Bool
is_printable token =
    is_token Allowed token && not (bytes_eq (spelling token) (codes "#"))
    && not (is_predefined token)

-- whether a token is a string literal
abbrev pub is_string : CTok → Bool
is_string (Str bytes) = true
is_string _ = false

-- whether the first token is a string literal
abbrev pub begins_with_string : List CTok → Bool
begins_with_string [] = false
begins_with_string (token ∷ tokens) = is_string token

-- whether no two string literals are neighbours, which preprocessing would join (5.1.1.2, phase 6)
abbrev pub are_apart : List CTok → Bool
are_apart [] = true
are_apart (token ∷ tokens) =
    not (is_string token && begins_with_string tokens) && are_apart tokens

-- tokens that may be printed, of which no two string literals are neighbours, are printed so that
-- preprocessing gives them back. No length bounds the text
abbrev pub TokensAreReadBack : Type 0
TokensAreReadBack = (name : List ℕ) (tokens : List CTok)
    → All (λ token. IsTrue (is_printable token)) tokens → IsTrue (are_apart tokens)
    → IsPreprocessed name (shown tokens) tokens

-- a program that tokens of the profile derive, whatever their places, is printed so that it is read
-- as this program again
abbrev pub ProgramsAreReadBack : Type 0
ProgramsAreReadBack = (limits : Limits) (name : List ℕ) (tokens : List CTok) (program : Program)
    → All (λ token. IsTrue (is_token Allowed token)) tokens → IsDerived limits tokens program
    → IsReadAs limits name (shown (c_tokens (program_tokens program))) program

-- where tokens derive a program, the same tokens at any other places derive it again, up to places
abbrev pub PlacesChangeNothingElse : Type 0
PlacesChangeNothingElse = (limits : Limits) (tokens others : List Token) (program : Program)
    → map (λ t. t.symbol) others ≡ map (λ t. t.symbol) tokens
    → DerivesProgram limits tokens program → DerivesUpToPlaces limits others program

-- a program that tokens of the profile derive is printed so that its text, read at the places where
-- the tokens stand in it, is this program again, up to places
abbrev pub ProgramsAreReadInPlace : Type 0
ProgramsAreReadInPlace = (limits : Limits) (name : List ℕ) (tokens : List CTok) (program : Program)
    → All (λ token. IsTrue (is_token Allowed token)) tokens → IsDerived limits tokens program
    → IsReadInPlace limits name (shown (c_tokens (program_tokens program))) program

-- programs that are the same up to places have the same tokens
abbrev pub SameProgramsHaveSameTokens : Type 0
SameProgramsHaveSameTokens = (a b : Program) → AreSameUpToPlaces a b
    → program_tokens a ≡ program_tokens b
