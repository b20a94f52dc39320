-- What the reader of model files answers.
use Rattle.std.specs.Prelude.{ℕ, List}
use Rattle.hv_model.specs.Lines.{Reading, model, fault, Says}
use Rattle.hv_model.specs.Rule.{Features}
use Rattle.hv_model.specs.declared.faults.ModelRefusal.{ModelRefusal}
use Rattle.hv_model.specs.declared.faults.ModelRefusal.TheVariants.{Bad, Memory}

-- the refusal names the fault; out of memory says nothing
abbrev pub IsRefusalIn : (Reading → Type 0) → ModelRefusal → Type 0
IsRefusalIn Holds (Bad found) = Holds (fault found.line found.kind)
IsRefusalIn Holds Memory = Unit {0}

-- the file says this model, or the fault that the refusal names
abbrev pub IsModelOf : List ℕ → Features → Type 0
IsModelOf bytes m = Says bytes (model m)

-- the file has the fault that the refusal names; out of memory says nothing
abbrev pub IsRefusalOf : List ℕ → ModelRefusal → Type 0
IsRefusalOf bytes refusal = IsRefusalIn (Says bytes) refusal
