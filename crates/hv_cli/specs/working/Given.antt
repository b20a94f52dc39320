-- How an answer is given, in one word: what giving it promises of a single function.
use Rattle.std.specs.Prelude.{ℕ, ◌⊎◌}
use Rattle.hv_cli.specs.Answer.{message_of, output_of}
use Rattle.hv_cli.specs.Given.{IsStarved, IsUnwritten, IsWhole, Writes}
use Rattle.hv_cli.specs.declared.answer.Answer.{Answer}

-- an answer was given, or 4 or 5 stands in its place
abbrev pub IsGiven : Writes → ℕ → Answer → Type 0
IsGiven w status answer =
    IsWhole w status answer
    ⊎ (IsUnwritten w status answer ⊎ IsStarved w status (output_of answer) (message_of answer))
