use Rattle.std.proofs.Common.{subst, ℕ, List}
use Rattle.hv_macros.specs.Table.{meaning_in}
use Rattle.hv_plain.specs.declared.episode.RunEnd.{RunEnd}
use Rattle.hv_rescan.specs.Pending.{IsToken, next_of}
use Rattle.hv_rescan.specs.Values.{state_of}
use Rattle.hv_toks.specs.Macro.{Macro}
use Rattle.hv_expand.specs.working.Steps.{states}
use Rattle.hv_expand.proofs.episodes.Episodes.next_turn.Goals as goal

pub returns-in_ok-found-in-Token-clause-turn : goal.returns-in_ok-found-in-Token-clause-turn
returns-in_ok-found-in-Token-clause-turn c =
    let p : (macros : List ℕ → Macro) → IsToken c.args.self.now.ends c.in-Token.kind
    c.in-Token.text.now c.in-Token.is_open (next_of c.in-Token.follows)
    (state_of macros c.args.part.now.machine) =
    λ macros. subst (λ (x : RunEnd). IsToken x c.in-Token.kind c.in-Token.text.now
    c.in-Token.is_open (next_of c.in-Token.follows) (state_of macros c.args.part.now.machine))
    c.requires.machine.ends (c.in-Token.ensures.pends macros) in
    record {
      pends = λ macros.
          let n = p macros in
          record { token = n.token; scan = n.scan; frames = n.frames; is = n.is };
      moves = c.in_ok-found-in-Token.ensures.moves c.args.self.now.ends c.in-Token.kind
          (states (meaning_in c.args.store.now c.args.self.now.table.now)
          c.args.part.now.machine)
          (λ v. p (meaning_in c.args.store.now c.args.self.now.table.now v));
    }
