use Rattle.std.proofs.Common.{◌≡◌, ◌<◌, ◌+◌, ◌-◌, ◌∷◌, ◌++◌, [], List, sym, ap, ◌∙◌, arith, get_or, length, take, drop}
use Rattle.std.specs.Global.{Vec}
use Rattle.std.proofs.lemmas.List.{map-append}
use Rattle.hv_plain.specs.episode.Invocation.{opening, closing, comma, none, ends_argument}
use Rattle.hv_plain.specs.episode.Tokens.{Token}
use Rattle.hv_rescan.proofs.Sharing.{added, split, taking_closing, taking_deep, taking_none, taking_opening, taking_variable}
use Rattle.hv_rescan.specs.Values.{arguments_of, token_of, tokens_of}
use Rattle.hv_rescan.specs.declared.token.Token.{Token as Token'}
use Rattle.hv_rescan.specs.working.Steps.{mark_of}
use Rattle.hv_rescan.proofs.arguments.find_arguments.Goals.{in-Opening, in-Closing+else-depth-eq0, in-Comma+then-depth-eq0-2+then-ends_argument+in_ok-part-in-Comma+in_ok-push-in-Comma, in-Comma+else-depth-eq0-2, else-depth-eq0-2-via-then-depth-eq0-2+else-ends_argument, else-depth-eq0-2-via-else-depth-eq0-2, in-Other}
use Rattle.hv_rescan.proofs.arguments.find_arguments.Goals as goal

pub loop-at-preserved : goal.loop-at-preserved
loop-at-preserved c =
    let body = c.args.body.now in
    let xs = c.args.tokens.now in
    let i = c.loop-at.at in
    let b = c.loop-at.begin in
    let d = c.loop-at.depth in
    let t = c.token-item.result in
    let same : c.as_slice-token-items.result.now ≡ xs = c.as_slice-token-items.ensures in
    let long = ap length same in
    let h : i < length xs = omega (arith, long) in
    let item : t ≡ get_or xs i t =
    c.token-item.is ∙ ap (λ (l : List Token'). get_or l i t) same in
    record {
      begun = elim c.match-mark.branch [
        | in-Opening w ↦ omega arith
        | in-Closing+else-depth-eq0 w ↦ omega arith
        | in-Comma+then-depth-eq0-2+then-ends_argument+in_ok-part-in-Comma+in_ok-push-in-Comma w ↦ omega arith
        | in-Comma+else-depth-eq0-2 w ↦ omega arith
        | in-Other w ↦ omega arith
      ];
      bound = elim c.match-mark.branch [
        | in-Opening w ↦ omega arith
        | in-Closing+else-depth-eq0 w ↦ omega arith
        | in-Comma+then-depth-eq0-2+then-ends_argument+in_ok-part-in-Comma+in_ok-push-in-Comma w ↦ omega arith
        | in-Comma+else-depth-eq0-2 w ↦ omega arith
        | in-Other w ↦ omega arith
      ];
      same = λ macros rest.
          let args : List (List Token) = arguments_of macros c.loop-at.arguments.items in
          let args' : List (List Token) = arguments_of macros c.match-mark.arguments.items in
          let argument : List Token = tokens_of macros (take (i - b) (drop b xs)) in
          let u : Token = token_of macros t in
          let tokens : List Token = tokens_of macros (drop (i + 1) xs) ++ rest in
          elim c.match-mark.branch [
            | in-Opening w ↦
                added macros body xs rest d c.match-mark.depth b c.match-mark.begin i args args' t
                opening c.loop-at.invariant.begun h item
                (sym (ap mark_of w.in-Opening.is) ∙ c.mark.ensures macros)
                (taking_opening body d c.match-mark.depth u argument args tokens w.depth-is) w.begin-is
                (ap (λ (v : Vec (List Token')). arguments_of macros v.items) w.arguments-is)
                ∙ c.loop-at.invariant.same macros rest
            | in-Closing+else-depth-eq0 w ↦
                added macros body xs rest d c.match-mark.depth b c.match-mark.begin i args args' t
                closing c.loop-at.invariant.begun h item
                (sym (ap mark_of w.in-Closing.is) ∙ c.mark.ensures macros)
                (taking_closing body d c.match-mark.depth u argument args tokens (omega arith) w.depth-is)
                w.begin-is
                (ap (λ (v : Vec (List Token')). arguments_of macros v.items) w.arguments-is)
                ∙ c.loop-at.invariant.same macros rest
            | in-Comma+then-depth-eq0-2+then-ends_argument+in_ok-part-in-Comma+in_ok-push-in-Comma w ↦
                split macros body xs rest d c.match-mark.depth b c.match-mark.begin i args args' t h
                item (sym (ap mark_of w.in-Comma.is) ∙ c.mark.ensures macros)
                (omega arith) w.depth-is
                (sym (w.ends_argument.ensures macros
                ∙ ap (λ (vs : List (List Token')). ends_argument body (arguments_of macros vs))
                w.deref.ensures.value) ∙ w.if-ends_argument.true)
                w.begin-is
                (ap (λ (v : Vec (List Token')). arguments_of macros v.items) w.arguments-is
                ∙ ap (arguments_of macros) w.in_ok-push-in-Comma.ensures.items
                ∙ map-append (tokens_of macros) c.loop-at.arguments.items _
                ∙ ap (λ (ts : List Token'). args ++ tokens_of macros ts ∷ [])
                w.in_ok-part-in-Comma.ensures)
                ∙ c.loop-at.invariant.same macros rest
            | in-Comma+else-depth-eq0-2 w ↦
                added macros body xs rest d c.match-mark.depth b c.match-mark.begin i args args' t
                comma c.loop-at.invariant.begun h item
                (sym (ap mark_of w.in-Comma.is) ∙ c.mark.ensures macros)
                (elim w.else-depth-eq0-2.branch [
                  | else-depth-eq0-2-via-then-depth-eq0-2+else-ends_argument v ↦
                      taking_variable body d c.match-mark.depth u argument args tokens (omega arith)
                      w.depth-is
                      (sym (v.ends_argument.ensures macros
                      ∙ ap (λ (vs : List (List Token')).
                      ends_argument body (arguments_of macros vs)) v.deref.ensures.value)
                      ∙ v.if-ends_argument.false)
                  | else-depth-eq0-2-via-else-depth-eq0-2 v ↦
                      taking_deep body d c.match-mark.depth u argument args tokens (omega arith) w.depth-is
                ]) w.begin-is
                (ap (λ (v : Vec (List Token')). arguments_of macros v.items) w.arguments-is)
                ∙ c.loop-at.invariant.same macros rest
            | in-Other w ↦
                added macros body xs rest d c.match-mark.depth b c.match-mark.begin i args args' t
                none c.loop-at.invariant.begun h item
                (sym (ap mark_of w.in-Other.is) ∙ c.mark.ensures macros)
                (taking_none body d c.match-mark.depth u argument args tokens w.depth-is) w.begin-is
                (ap (λ (v : Vec (List Token')). arguments_of macros v.items) w.arguments-is)
                ∙ c.loop-at.invariant.same macros rest
          ];
    }
