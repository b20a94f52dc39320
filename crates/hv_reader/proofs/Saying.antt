-- What an answer to an element's own tokens says of them, by the law on the machine's answers.
use Rattle.std.proofs.Common.{◌≡◌, List, Result, Ok, Err, IfOk, IfErr, refl, subst}
use Rattle.hv_ctree.specs.tree.Statements.{Skeleton}
use Rattle.hv_grammar.specs.Symbols.{Token}
use Rattle.hv_grammar.specs.Elements.{Standing}
use Rattle.hv_grammar.specs.Refusal.{Limits}
use Rattle.hv_grammar.specs.Grammar.{DerivesElement}
use Rattle.hv_grammar.specs.Laws.{ElementAnswersAreRight, SaysOfElement}
use Rattle.hv_cparse.specs.declared.fault.ParseFault.{ParseFault}
use Rattle.hv_cparse.specs.declared.fault.ParseFault.TheVariants.{Plain, Memory}
use Rattle.hv_cparse.specs.declared.part.Standing.{Standing as Given}
use Rattle.hv_cparse.specs.declared.part.Standing.TheVariants.{External, Item, Nested}
use Rattle.hv_cparse.specs.Control.{standing_of}
use Rattle.hv_reader.specs.Pieces.{standing_in, IsRefusal}
use Rattle.hv_reader.specs.working.Given.{IsFault, IsGiven}

pub derived_so : ElementAnswersAreRight → (r : Result (Unit {0}) ParseFault) (l : Limits)
    (s : Standing) (ts : List Token) → IsGiven l s ts r
    → IfOk r (λ u. (tree : Skeleton) × DerivesElement l s ts tree)
derived_so right (Ok u) l s ts h = (h.0, subst (SaysOfElement l s ts) h.1 (right l s ts))
derived_so right (Err fault) l s ts h = tt

fault_so : ElementAnswersAreRight → (fault : ParseFault) (l : Limits) (s : Standing)
    (ts : List Token) → IsFault l s ts fault → IsRefusal l s ts fault
fault_so right (Plain at why) l s ts h = subst (SaysOfElement l s ts) h (right l s ts)
fault_so right Memory l s ts h = tt

pub refused_so : ElementAnswersAreRight → (r : Result (Unit {0}) ParseFault) (l : Limits)
    (s : Standing) (ts : List Token) → IsGiven l s ts r
    → IfErr r (λ fault. IsRefusal l s ts fault)
refused_so right (Ok u) l s ts h = tt
refused_so right (Err fault) l s ts h = fault_so right fault l s ts h

-- the standing is kept
pub standing_kept : (s : Given) → standing_of (standing_in s) ≡ s
standing_kept External = refl
standing_kept Item = refl
standing_kept Nested = refl
