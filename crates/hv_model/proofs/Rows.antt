-- The definitions at small examples, worked out by hand.
use Rattle.std.specs.Prelude.{ℕ, ◌≡◌, true, false, List, [], ◌∷◌, codes, refl}
use Rattle.hv_model.specs.Config.{config, unknown, repeated, config_of, text_of}
use Rattle.hv_model.specs.Lines.{line_of, nothing, option_line, rule_line, bad_line}
use Rattle.hv_model.specs.Rule.{option, implication, meets}
use Rattle.hv_model.specs.Token.{implies, either, both, negate, open_, close, word, other, tokens}
use Rattle.hv_model.specs.Beginning.{beginning, option_file, place_in, predefined}

cut : tokens (codes "A=>!B1||(c &&_d)& =1") ≡ word (codes "A") ∷ implies ∷ negate ∷
    word (codes "B1") ∷ either ∷ open_ ∷ word (codes "c") ∷ both ∷ word (codes "_d") ∷ close ∷
    other ∷ other ∷ word (codes "1") ∷ []
cut = refl

comment : line_of (codes " \t# rule") ≡ nothing
comment = refl

blank : line_of (codes " \t ") ≡ nothing
blank = refl

option_A : line_of (codes " option\tA ") ≡ option_line (codes "A")
option_A = refl

option_keyword : line_of (codes "option int") ≡ bad_line
option_keyword = refl

rule_parens : line_of (codes "rule(A)") ≡ rule_line (open_ ∷ word (codes "A") ∷ close ∷ [])
rule_parens = refl

rule_one_word : line_of (codes "ruleA") ≡ bad_line
rule_one_word = refl

names_AB : List (List ℕ)
names_AB = codes "A" ∷ codes "B" ∷ []

text_B : config_of names_AB (codes "B") ≡ config (false ∷ true ∷ [])
unfolding names_AB
text_B = refl

text_none : config_of names_AB (codes "") ≡ config (false ∷ false ∷ [])
unfolding names_AB
text_none = refl

text_twice : config_of names_AB (codes "B,B,C") ≡ repeated 1
unfolding names_AB
text_twice = refl

text_empty_piece : config_of names_AB (codes "B,") ≡ unknown 1
unfolding names_AB
text_empty_piece = refl

both_on : text_of names_AB (true ∷ true ∷ []) ≡ codes "A,B"
unfolding names_AB
both_on = refl

false_implies : meets (false ∷ false ∷ []) (implication (option 0) (option 1)) ≡ true
false_implies = refl

-- A is on and B is off: A is defined at its number, and after it the predefined macros
begun_with_A : beginning names_AB (true ∷ false ∷ [])
    ≡ (codes "A", codes "1", place_in option_file 0) ∷ predefined
unfolding names_AB
begun_with_A = refl
