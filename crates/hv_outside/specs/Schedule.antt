-- Which calls of a file, a source or a sink in memory fail.
use Rattle.std.specs.Prelude.{ℕ, ◌+◌, ◌-◌, ◌^◌, ◌≡◌, ◌==◌, Bool, true, false, List, Result, Ok, Err, min}
use Rattle.std.specs.List.{list_any}
use Rattle.hv_outside.specs.declared.files.FileFault.{FileFault}
use Rattle.hv_outside.specs.declared.files.FileFault.TheVariants.{Failed, Memory}

-- the numbers of the calls that fail, counted from 1, and how many calls there were
pub record Schedule : Type 0 where
  pub fails : List ℕ
  pub calls : ℕ

-- no call so far
abbrev pub beginning : List ℕ → Schedule
beginning fails = record { fails = fails; calls = 0 }

-- after one more call. The count of calls stands still at the last value of its type
abbrev pub after_call : Schedule → Schedule
after_call schedule = record {
  fails = schedule.fails;
  calls = min (schedule.calls + 1) (2 ^ 64 - 1);
}

-- the next call is to fail
abbrev pub fails_next : Schedule → Bool
fails_next schedule = list_any (λ number. number == (after_call schedule).calls) schedule.fails

-- a read that is due to fail fails, unless it runs out of memory, and no other read fails
abbrev pub FailsIf : Bool → {T : Type 0} → Result T FileFault → Type 0
FailsIf due (Ok _) = due ≡ false
FailsIf due (Err Failed) = due ≡ true
FailsIf due (Err Memory) = Unit {0}
