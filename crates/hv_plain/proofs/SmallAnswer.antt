-- What the reader answers, in the words of small programs.
use Rattle.std.proofs.Common.{◌≡◌, ℕ, Bool, List, [], length, sym, ap, ◌∙◌, Option, None, Some}
use Rattle.std.specs.List.{slice_split}
use Rattle.std.specs.Option.{IfSome, IfNone}
use Rattle.std.proofs.lemmas.Option.{none-some, same_Some}
use Rattle.hv_plain.specs.Bytes.{is_gap}
use Rattle.hv_plain.specs.Program.{Program, IsProgramText}
use Rattle.hv_plain.specs.Run.{IsOutputOf, output_of, run, start, variables_of}
use Rattle.hv_plain.specs.working.SmallReader.{answer, run_from, start_due, unknown}
use Rattle.hv_plain.proofs.SmallCompleteness.{program_read}
use Rattle.hv_plain.proofs.SmallSoundness.{IsRead, tokens_read}

-- each program that the text is has the answer as its output
answer_of : (names : List (List ℕ)) (values : List Bool) (text : List ℕ)
    → length values ≡ length names → (program : Program)
    → IsProgramText (variables_of names) text program
    → answer names values text ≡ Some (output_of (start names values) program.statements)
answer_of names values text l program is =
    ap (run_from names values start_due (unknown names) []) is.tokens
    ∙ program_read names values program l is.typed

pub answer_only : (names : List (List ℕ)) (values : List Bool) (text : List ℕ)
    → length values ≡ length names → (o : Option (List ℕ)) → o ≡ answer names values text
    → IfSome o (λ output. (program : Program) → IsProgramText (variables_of names) text program
    → output ≡ (run program (start names values) [] 0).output)
answer_only names values text l None e = tt
answer_only names values text l (Some output) e =
    λ program is. same_Some output (output_of (start names values) program.statements)
    (e ∙ answer_of names values text l program is)

pub answer_runs : (names : List (List ℕ)) (values : List Bool) (text : List ℕ)
    → length values ≡ length names → (o : Option (List ℕ)) → o ≡ answer names values text
    → IfSome o (IsOutputOf names values text)
answer_runs names values text l None e = tt
answer_runs names values text l (Some output) e =
    let found : IsRead names (slice_split is_gap text) =
    tokens_read names values (slice_split is_gap text) output l (sym e) in
    let reads : IsProgramText (variables_of names) text found.program =
    record { tokens = found.are; typed = found.typed } in
    record {
      program = found.program;
      reads = reads;
      is =
          answer_only names values text l (Some output) e found.program reads;
    }

pub answer_refused : (names : List (List ℕ)) (values : List Bool) (text : List ℕ)
    → length values ≡ length names → (o : Option (List ℕ)) → o ≡ answer names values text
    → IfNone o ((program : Program) → ¬ (IsProgramText (variables_of names) text program))
answer_refused names values text l None e =
    λ program is. none-some (output_of (start names values) program.statements)
    (e ∙ answer_of names values text l program is)
answer_refused names values text l (Some output) e = tt
