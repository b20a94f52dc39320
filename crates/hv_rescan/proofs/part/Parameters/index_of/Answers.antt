use Rattle.std.proofs.Common.{◌≡◌, rules, true, false}
use Rattle.std.specs.Prelude.{codes}
use Rattle.std.specs.Str.{bytes_eq}
use Rattle.hv_rescan.proofs.Parts.{index_fixed, index_named, index_other, index_variadic}
use Rattle.hv_rescan.proofs.part.Parameters.index_of.Goals.{else-self-via-then-self+else-eq, else-self-via-else-self}
use Rattle.hv_rescan.proofs.part.Parameters.index_of.Goals as goal

pub returns-in-Some : goal.returns-in-Some
returns-in-Some c =
    index_named c.args.self.names.now c.args.self.variadic c.args.name.now c.index_in.result
    c.in-Some.i c.index_in.ensures c.in-Some.is

pub returns-then-eq : goal.returns-then-eq
returns-then-eq c =
    let own : bytes_eq (codes "__VA_ARGS__") c.args.name.now ≡ true = search rules in
    index_variadic c.args.self.names.now c.args.self.variadic c.args.name.now c.index_in.result
    c.index_in.ensures c.in_default.is c.if-self.true own

pub returns : goal.returns
returns c =
    elim c.else-self.branch [
      | else-self-via-then-self+else-eq w ↦
          let other : bytes_eq (codes "__VA_ARGS__") c.args.name.now ≡ false = search rules in
          index_other c.args.self.names.now c.args.self.variadic c.args.name.now
          c.index_in.result c.index_in.ensures c.in_default.is other
      | else-self-via-else-self w ↦ index_fixed c.args.self.names.now c.args.self.variadic
          c.args.name.now c.index_in.result c.index_in.ensures c.in_default.is w.if-self.false
    ]
