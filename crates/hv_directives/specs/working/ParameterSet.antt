-- The names that the parameters of a macro have in its replacement list.
use Rattle.std.specs.Prelude.{ℕ, Bool, true, false, List, [], ◌∷◌, ◌++◌, codes}
use Rattle.hv_directives.specs.declared.parameter_set.ParameterSet.{ParameterSet}

-- the name of the variable arguments, where there are any (6.10.3, paragraph 5)
abbrev pub variable_of : (variadic : Bool) → List (List ℕ)
variable_of true = codes "__VA_ARGS__" ∷ []
variable_of false = []

-- the names of the parameters
abbrev pub names_of : ParameterSet → List (List ℕ)
names_of ps = ps.names.now ++ variable_of ps.variadic
