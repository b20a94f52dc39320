use Rattle.std.proofs.Common.{◌≡◌, ◌<◌, sym, ap, ◌∙◌, arith, length, Option}
use Rattle.std.specs.Option.{option_map}
use Rattle.hv_rescan.proofs.Tokens.{join_last_none, join_last_some, join_made, joined_as}
use Rattle.hv_rescan.specs.Values.{token_of, tokens_of}
use Rattle.hv_rescan.specs.declared.token.Token.{Token}
use Rattle.hv_rescan.proofs.paste.join.Goals as goal

pub returns-then-len-eq0 : goal.returns-then-len-eq0
returns-then-len-eq0 c macros =
    let z : length c.args.right.items ≡ 0 = omega (arith, c.args.right.ok) in
    join_last_none macros c.args.left.items c.pop.new.self.items c.args.right.items
    c.push.new.self.items c.in-Some.last c.in-Some.ensures.items z c.in_ok-push.ensures.items

pub returns-in_default-2 : goal.returns-in_default-2
returns-in_default-2 c macros =
    let h : 0 < length c.args.right.items = omega (arith, c.args.right.ok) in
    ap (λ (p : Option Token). joined_as (tokens_of macros c.pop.new.self.items)
    (tokens_of macros c.remove-first.new.self.items) (option_map (token_of macros) p))
    (sym c.in_default-2.is)
    ∙ join_last_some macros c.args.left.items c.pop.new.self.items c.args.right.items
    c.remove-first.new.self.items c.in-Some.last c.remove-first.result c.in_ok-both.field-0
    c.in-Some.ensures.items h c.remove-first.ensures.by_index.2 c.remove-first.ensures.value
    (c.in_ok-both.ensures macros)

pub returns : goal.returns
returns c macros =
    let h : 0 < length c.args.right.items = omega (arith, c.args.right.ok) in
    join_made macros c.pop.new.self.items c.push-2.new.self.items c.append.new.self.items
    c.remove-first.new.self.items c.in-Some-2.both c.in_ok-push-2.ensures.items
    c.in_ok-append.ensures.items
    ∙ ap (λ (p : Option Token). joined_as (tokens_of macros c.pop.new.self.items)
    (tokens_of macros c.remove-first.new.self.items) (option_map (token_of macros) p))
    (sym c.in-Some-2.is)
    ∙ join_last_some macros c.args.left.items c.pop.new.self.items c.args.right.items
    c.remove-first.new.self.items c.in-Some.last c.remove-first.result c.in_ok-both.field-0
    c.in-Some.ensures.items h c.remove-first.ensures.by_index.2 c.remove-first.ensures.value
    (c.in_ok-both.ensures macros)
