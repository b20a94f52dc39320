-- What steps of the search in a row do.
use Rattle.std.proofs.Common.{◌≡◌, ◌∙◌, ◌<◌, ◌≤◌, ℕ, List, ◌++◌, Option, Some, Result, Ok, Err, IfErr, OnOk, IsTrue, refl, sym, ap, subst, arith, length, append_assoc, append-nil}
use Rattle.hv_base.specs.Bundles.{NamedFiles, HasMain}
use Rattle.hv_outside.specs.Files.{FileState, Keeps}
use Rattle.hv_gather.specs.declared.fault.GatherFault.{GatherFault}
use Rattle.hv_gather.specs.declared.fault.GatherFault.TheVariants.{Read, MainAbsent, TooBig, Memory}
use Rattle.hv_gather.specs.Causes.{IsAbsent, IsCaused, IsTooBig, IsUnread}
use Rattle.hv_gather.specs.working.Steps.{Grows, IsCausedByStep, Tells}

-- what files tell they go on to tell
pub Tells-later : (before now : FileState) (held : List ℕ → Option (List ℕ)) → Keeps before now → Tells before held → Tells now held
Tells-later before now held keeps tells = (subst IsTrue (sym keeps.told) tells.0, λ name. keeps.held name ∙ tells.1 name)

-- no name more
pub Grows-refl : (bundle : NamedFiles) → Grows bundle bundle
Grows-refl bundle = record { main = refl; dirs = refl; more = _; entries = sym (append-nil bundle.entries) }

pub Grows-trans : (before middle now : NamedFiles) → Grows before middle → Grows middle now → Grows before now
Grows-trans before middle now first second = record {
  main = second.main ∙ first.main;
  dirs = second.dirs ∙ first.dirs;
  more = first.more ++ second.more;
  entries = second.entries ∙ (ap (λ entries. entries ++ second.more) first.entries ∙ append_assoc before.entries first.more second.more);
}

-- a cause in a later step is one in all of them
pub IsCausedByStep-later : (before middle now : FileState) (fault : GatherFault) → Keeps before middle → IsCausedByStep middle now fault → IsCausedByStep before now fault
IsCausedByStep-later before middle now (Read name) keeps cause = (omega arith, cause.1)
IsCausedByStep-later before middle now MainAbsent keeps cause = cause
IsCausedByStep-later before middle now (TooBig name size total) keeps cause = (
  cause.0,
  λ told. let held = cause.1 (subst IsTrue (sym keeps.told) told) in (held.0, sym (keeps.held name) ∙ held.1, held.2),
)
IsCausedByStep-later before middle now Memory keeps cause = tt

-- a cause of a step is a cause
pub IsCaused-step : (main : List ℕ) (before now : FileState) (fault : GatherFault) → IsCausedByStep before now fault → IsCaused main before now fault
IsCaused-step main before now (Read name) cause = cause
IsCaused-step main before now MainAbsent cause = absurd cause
IsCaused-step main before now (TooBig name size total) cause = cause
IsCaused-step main before now Memory cause = tt

-- the main file stays the first
pub HasMain-later : (before now : NamedFiles) → Grows before now → HasMain before → HasMain now
HasMain-later before now grows has = record {
  bytes = has.bytes;
  others = has.others ++ grows.more;
  first = rw (grows.main) (grows.entries ∙ ap (λ entries. entries ++ grows.more) has.first);
}
