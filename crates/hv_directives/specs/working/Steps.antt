-- What the values of private functions stand for.
use Rattle.std.specs.Prelude.{ℕ, true, List, [], ◌∷◌, ◌++◌, Option, Some, None}
use Rattle.hv_toks.specs.declared.token.PpTok.{PpTok}
use Rattle.hv_plain.specs.declared.episode.RunEnd.{RunEnd}
use Rattle.hv_plain.specs.declared.episode.RunEnd.TheVariants.{Directive, FileEnd}
use Rattle.hv_plainpp.specs.Definitions.{Parameters, no_more, some_parameters, with_name}
use Rattle.hv_directives.specs.declared.parameters.Pair.{Pair}
use Rattle.hv_directives.specs.declared.parameters.Pair.TheVariants.{Variadic, Last, Next, Malformed}
use Rattle.hv_directives.specs.declared.parameters.Parameters.{Parameters as Parameters'}

------ pieces

-- what ends a text, by the tokens after it
abbrev pub end_before : (after : List PpTok) → RunEnd
end_before [] = FileEnd
end_before (t ∷ after) = Directive

------ parameters

-- the parameters of a function-like macro
abbrev pub parameters_of : Parameters' → Parameters
parameters_of ps = record { names = ps.names; variadic = ps.variadic; behind = ps.after.now }

-- the parameters that begin with such a pair, whose first token is spelled like this
abbrev pub after_pair : Pair → (name : List ℕ) → (after : List PpTok) → Option Parameters
after_pair Variadic name after = Some (record (no_more after) { variadic = true })
after_pair Last name after = with_name name (Some (no_more after))
after_pair Next name after = with_name name (some_parameters after)
after_pair Malformed name after = None

-- parameters with these before them
abbrev pub with_names : (names : List (List ℕ)) → Option Parameters → Option Parameters
with_names names None = None
with_names names (Some ps) = Some (record ps { names = names ++ ps.names })
