use Rattle.std.proofs.Common.{ℕ, ◌^◌, ◌%◌, ◌<◌, ◌≡◌, List, length, get_or, subst, sym, ◌∙◌, arith}
use Rattle.std.proofs.lemmas.Grind.{common_steps}
use Rattle.subset_layers.specs.Layers.{block_masks}
use Rattle.compaction.proofs.BlockRows.{block_of_byte}
use Rattle.compaction.proofs.request.WidthRequest.add_block.Goals as goal

pub bounds-needed-i : goal.bounds-needed-i
bounds-needed-i c = grind (arith, common_steps)

pub add-requires-clause-set : goal.add-requires-clause-set
add-requires-clause-set c =
    let e = c.masks-mask-items.ensures in
    let b = block_of_byte c.args.block.now c.loop-i.i (subst (λ (ms : List ℕ). c.loop-i.i < length ms) e c.loop-i-test.true) in
    let n = c.loop-i.invariant.inputs ∙ sym c.requires.inputs in
    subst (λ (ms : List ℕ). get_or ms c.loop-i.i 0 < 2 ^ c.loop-i.self.inputs) (sym e)
    (subst (λ k. get_or (block_masks c.args.block.now) c.loop-i.i 0 < 2 ^ k) (sym n) b.0)

pub add-requires-clause-byte : goal.add-requires-clause-byte
add-requires-clause-byte c =
    let e = c.masks-mask-items.ensures in
    let b = block_of_byte c.args.block.now c.loop-i.i (subst (λ (ms : List ℕ). c.loop-i.i < length ms) e c.loop-i-test.true) in
    subst (λ (ms : List ℕ). get_or ms c.loop-i.i 0 % 256 ≡ c.loop-i.self.low) (sym e) (b.1 ∙ c.requires.low ∙ sym c.loop-i.invariant.low)

pub loop-i-preserved : goal.loop-i-preserved
loop-i-preserved c = grind arith

pub returns-clause-added : goal.returns-clause-added
returns-clause-added c = grind arith

pub returns-clause-kept : goal.returns-clause-kept
returns-clause-kept c = grind arith
