use Rattle.std.proofs.Common.{◌≡◌, refl, sym, subst, rules, Bool, true, false}
use Rattle.hv_cond.specs.Diagram.{holds}
use Rattle.hv_macros.specs.Table.{meaning_in}
use Rattle.hv_plain.specs.episode.Expansion.{deed, give}
use Rattle.hv_rescan.specs.Pending.{IsToken, next_of}
use Rattle.hv_toks.specs.Macro.{macro_of}
use Rattle.hv_expand.proofs.Answering.{answered_possible, witness}
use Rattle.hv_expand.proofs.Deeds.{asked_closed, asked_open, consistent}
use Rattle.hv_expand.proofs.moves.find_move.Goals as goal

pub returns-then-not-is_open-clause-moves : goal.returns-then-not-is_open-clause-moves
returns-then-not-is_open-clause-moves c =
    λ ends kind state n.
    let closed : c.args.is_open ≡ false = search rules in
    let w = witness c.args.store.now c.args.cond c.requires.possible in
    record {
      node = c.requires.cond;
      possible = c.requires.possible;
      deed = give;
      says = refl;
      asked = asked_closed ends kind c.args.text.now (next_of c.args.follows)
          (λ v. meaning_in c.args.store.now c.args.table.now v)
          (λ v. holds c.args.store.now c.args.cond v) state w.0 w.2
          (λ v. subst (λ (b : Bool). IsToken ends kind c.args.text.now b (next_of c.args.follows)
          (state v)) closed (n v));
    }

pub returns-clause-moves : goal.returns-clause-moves
returns-clause-moves c =
    λ ends kind state n.
    let opened : c.args.is_open ≡ true = search rules in
    record {
      node = c.in_ok-answer.ensures.node;
      possible = answered_possible c.ask.new.store c.in_ok-answer.answer.cond
          c.in_ok-answer.ensures.answer (sym c.ask.ensures.keeps.variables);
      deed = deed (next_of c.args.follows) (macro_of c.in_ok-answer.answer.meaning);
      says = c.decide.ensures;
      asked = asked_open c.args.store.now.variables ends kind c.args.text.now c.args.follows
          (λ v. meaning_in c.args.store.now c.args.table.now v)
          (λ v. holds c.args.store.now c.args.cond v)
          (λ v. holds c.ask.new.store c.in_ok-answer.answer.cond v) state
          (macro_of c.in_ok-answer.answer.meaning)
          (λ v. subst (λ (b : Bool). IsToken ends kind c.args.text.now b (next_of c.args.follows)
          (state v)) opened (n v))
          (λ v w. consistent c.args.store.now c.args.table.now c.requires.one_body v w)
          c.in_ok-answer.ensures.answer;
    }
