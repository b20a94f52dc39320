-- What clap accepts for the commands' descriptions, and what it refuses.
use Rattle.std.specs.Prelude.{◌≡◌, ℕ, List, [], ◌∷◌, codes, Option, Some, None}
use Rattle.std.proofs.Common.{refl}
use Rattle.clap.proofs.OnLiterals.{clap_on_literals}
use Rattle.hv_words.specs.Commands.{Command, command_of, encode, options, values_of, variant}

-- the words of `encode` with a model and this main file, without folders
abbrev encodes : (model : Option (List ℕ)) → (dirs : List (List ℕ)) → Option Command
encodes model dirs = Some (encode (record { model = model; dirs = dirs; file = codes "f.c" }))

spaced : command_of (codes "encode" ∷ codes "--model" ∷ codes "m" ∷ codes "f.c" ∷ [])
    ≡ encodes (Some (codes "m")) []
unfolding clap_on_literals values_of
spaced = refl

with_equals : command_of (codes "encode" ∷ codes "--model=m" ∷ codes "f.c" ∷ [])
    ≡ encodes (Some (codes "m")) []
unfolding clap_on_literals values_of
with_equals = refl

without_value : command_of (codes "encode" ∷ codes "f.c" ∷ codes "--model=" ∷ [])
    ≡ encodes (Some []) []
unfolding clap_on_literals values_of
without_value = refl

after_positional : command_of (codes "encode" ∷ codes "f.c" ∷ codes "-I" ∷ codes "a:b" ∷ [])
    ≡ encodes None (codes "a" ∷ codes "b" ∷ [])
unfolding clap_on_literals values_of
after_positional = refl

attached : command_of (codes "encode" ∷ codes "-Ia" ∷ codes "f.c" ∷ [])
    ≡ encodes None (codes "a" ∷ [])
unfolding clap_on_literals values_of
attached = refl

attached_with_equals : command_of (codes "encode" ∷ codes "-I=a" ∷ codes "f.c" ∷ [])
    ≡ encodes None (codes "a" ∷ [])
unfolding clap_on_literals values_of
attached_with_equals = refl

after_dashes : command_of (codes "encode" ∷ codes "--" ∷ codes "-x.c" ∷ [])
    ≡ Some (encode (record { model = None; dirs = []; file = codes "-x.c" }))
unfolding clap_on_literals values_of
after_dashes = refl

twice : command_of (codes "encode" ∷ codes "-Ia" ∷ codes "-Ia" ∷ codes "f.c" ∷ []) ≡ None
unfolding clap_on_literals values_of
twice = refl

unnamed_folder : command_of (codes "encode" ∷ codes "-I" ∷ codes "a:" ∷ codes "f.c" ∷ []) ≡ None
unfolding clap_on_literals values_of
unnamed_folder = refl

option_as_value : command_of (codes "encode" ∷ codes "--model" ∷ codes "-I" ∷ codes "f.c" ∷ [])
    ≡ None
unfolding clap_on_literals values_of
option_as_value = refl

of_another_command : command_of (codes "encode" ∷ codes "--config" ∷ codes "A" ∷ codes "f.c" ∷ [])
    ≡ None
unfolding clap_on_literals values_of
of_another_command = refl

help_asked : command_of (codes "options" ∷ codes "--help" ∷ []) ≡ None
unfolding clap_on_literals values_of
help_asked = refl

empty_configuration : command_of (codes "options" ∷ codes "--config=" ∷ []) ≡ Some (options None [])
unfolding clap_on_literals values_of
empty_configuration = refl

with_configuration : command_of (codes "variant" ∷ codes "--config" ∷ codes "A" ∷ codes "f.c" ∷ [])
    ≡ Some (variant (record { model = None; dirs = []; file = codes "f.c" }) (codes "A"))
unfolding clap_on_literals values_of
with_configuration = refl

unknown : command_of (codes "help" ∷ []) ≡ None
unfolding clap_on_literals values_of
unknown = refl
