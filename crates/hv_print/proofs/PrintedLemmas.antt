-- The printed form of tokens and terminals one after another, and that the two are one.
use Rattle.std.proofs.Common.{◌≡◌, ℕ, List, [], ◌∷◌, ◌++◌, refl, sym, ap, ◌∙◌, append_assoc}
use Rattle.std.proofs.lemmas.Grind.{common_steps}
use Rattle.std.proofs.lemmas.List.{append-nil}
use Rattle.hv_base.specs.declared.token.CTok.{CTok}
use Rattle.hv_grammar.specs.Symbols.{Symbol}
use Rattle.hv_print.specs.Shown.{shown_token, shown, token_of, c_tokens}
use Rattle.hv_print.specs.working.Printed.{shown_symbol, printed}

pub shown_append : (a b : List CTok) → shown (a ++ b) ≡ shown a ++ shown b
shown_append [] b = refl
shown_append (t ∷ a) b =
    ap (λ bytes. shown_token t ++ bytes) (shown_append a b)
    ∙ sym (append_assoc (shown_token t) (shown a) (shown b))

pub printed_append : (a b : List Symbol) → printed (a ++ b) ≡ printed a ++ printed b
printed_append [] b = refl
printed_append (s ∷ a) b =
    ap (λ bytes. shown_symbol s ++ bytes) (printed_append a b)
    ∙ sym (append_assoc (shown_symbol s) (printed a) (printed b))

pub printed_shown : (ss : List Symbol) → printed ss ≡ shown (c_tokens ss)
unfolding shown_symbol
printed_shown [] = refl
printed_shown (s ∷ ss) =
    ap (λ bytes. shown (token_of s) ++ bytes) (printed_shown ss)
    ∙ sym (shown_append (token_of s) (c_tokens ss))

-- terminals one after another
pub ruleset printing = (common_steps, append_assoc, append-nil, printed_append)
