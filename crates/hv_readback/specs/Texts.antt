-- What a text is read as: the tokens of C that preprocessing gives, and the programs that they
-- derive. Not in here: the types of a program.
use Rattle.std.specs.Prelude.{◌≡◌, ℕ, false, List, [], ◌∷◌, map}
use Rattle.hv_base.specs.Bundles.{NamedFiles}
use Rattle.hv_base.specs.declared.held.Held.TheVariants.{Bytes}
use Rattle.hv_base.specs.declared.token.CTok.{CTok}
use Rattle.hv_ctoks.specs.declared.reserved.ReservedNames.TheVariants.{Allowed}
use Rattle.hv_ctree.specs.tree.Statements.{Program}
use Rattle.hv_grammar.specs.Grammar.{symbol_of, DerivesProgram}
use Rattle.hv_grammar.specs.Refusal.{Limits}
use Rattle.hv_grammar.specs.Symbols.{Token, token_at}
use Rattle.hv_plainpp.specs.CTokens.{Identity}
use Rattle.hv_plainpp.specs.Plainpp.{plainpp}
use Rattle.hv_plainpp.specs.Reading.{Ending, reaches}
use Rattle.hv_readback.specs.Places.{AreSameUpToPlaces}

-- the bundle whose one file has this name and these bytes
abbrev pub alone : (name bytes : List ℕ) → NamedFiles
alone name bytes = record { main = name; dirs = []; entries = (name, Bytes bytes) ∷ [] }

-- what a text comes to as the one file of a bundle without options: tokens of C with what
-- identifies them, or a refusal. Names that begin with `hv_` are allowed, as Hercules' own
abbrev pub outcome : (name bytes : List ℕ) → Ending (List (CTok × Identity))
outcome name bytes = (plainpp (alone name bytes) [] [] Allowed).ending

-- the text is preprocessed to these tokens, whatever identifies them, and nothing is refused
pub record IsPreprocessed (name bytes : List ℕ) (tokens : List CTok) : Type 0 where
  pub unit : List (CTok × Identity)
  pub reached : outcome name bytes ≡ reaches unit
  pub same : map (λ t. t.0) unit ≡ tokens

-- tokens of C, at some places, derive this program
pub record IsDerived (limits : Limits) (tokens : List CTok) (program : Program) : Type 0 where
  pub placed : List Token
  pub same : map (λ t. t.symbol) placed ≡ map (λ c. symbol_of c false) tokens
  pub derives : DerivesProgram limits placed program

-- the text is preprocessed to tokens that, at some places, derive this program
pub record IsReadAs (limits : Limits) (name bytes : List ℕ) (program : Program) : Type 0 where
  pub tokens : List CTok
  pub preprocessed : IsPreprocessed name bytes tokens
  pub derived : IsDerived limits tokens program

-- these tokens derive a program that is this one up to places
pub record DerivesUpToPlaces (limits : Limits) (tokens : List Token) (program : Program) : Type 0
  where
    pub read : Program
    pub derives : DerivesProgram limits tokens read
    pub same : AreSameUpToPlaces read program

-- the tokens of a text, each at the place where it stands there
abbrev pub in_place : List (CTok × Identity) → List Token
in_place unit = map (λ t. token_at t.1.place (symbol_of t.0 false)) unit

-- the text is preprocessed to tokens that, at the places where they stand in it, derive a program
-- that is this one up to places
pub record IsReadInPlace (limits : Limits) (name bytes : List ℕ) (program : Program) : Type 0 where
  pub unit : List (CTok × Identity)
  pub reached : outcome name bytes ≡ reaches unit
  pub derived : DerivesUpToPlaces limits (in_place unit) program
