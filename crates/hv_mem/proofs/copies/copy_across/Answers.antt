use Rattle.std.proofs.Common.{◌≡◌, ◌∙◌, Some, sym, ap}
use Rattle.std.specs.Prelude.{slice_get}
use Rattle.std.proofs.lemmas.Option.{get_or_from_slice_get}
use Rattle.hv_mem.specs.declared.block.Block.{Block}
use Rattle.hv_mem.specs.declared.block.Contents.TheVariants.{Ended}
use Rattle.hv_mem.specs.Memory.{changed}
use Rattle.hv_mem.proofs.BlocksLemmas.{across, changed-get_other, live-found}
use Rattle.hv_mem.proofs.copies.copy_across.Goals as goal

pub returns : goal.returns
returns c =
    let emptied : Block → Block = λ (b : Block). record b { contents = Ended 0 } in
    let filled : Block → Block = λ (b : Block). record b { contents = c.filled-new.result } in
    let b = live-found (slice_get c.args.blocks.now.items c.args.target.block) c.requires.target.live in
    let y = live-found (slice_get c.args.blocks.now.items c.args.source.block) c.requires.source.live in
    let there : slice_get (changed emptied c.args.target.block c.args.blocks.now.items) c.args.source.block ≡ Some y.0 =
    changed-get_other emptied c.args.target.block c.args.source.block c.args.blocks.now.items c.requires.apart ∙ y.1 in
    let read : c.index.result.now ≡ y.0 =
    c.index.ensures
    ∙ get_or_from_slice_get c.take_contents-taken.new.blocks.items c.args.source.block y.0 c.index.result.now
    (ap (λ m. slice_get m c.args.source.block) c.take_contents-taken.ensures.left ∙ there) in
    let taken : c.take_contents-taken.result ≡ b.0.contents = rw b.1 at c.take_contents-taken.ensures.taken in
    c.put_contents.ensures
    ∙ ap (changed filled c.args.target.block) c.take_contents-taken.ensures.left
    ∙ across c.args.blocks.now.items c.args.source.block c.args.target.block c.args.count c.args.source.offset c.args.target.offset b.0 c.index.result.now c.take_contents-taken.result c.filled-new.result (Ended 0) c.requires.apart b.1 (there ∙ ap Some (sym read)) taken c.filled-new.ensures
