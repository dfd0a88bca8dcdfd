use Rattle.std.proofs.Common.{◌≡◌, ◌+◌, ℕ, replicate, length, sym, ap, ◌∙◌, arith}
use Rattle.subset_layers.specs.Layers.{LayerOf, masks_of}
use Rattle.layer_core.proofs.Lists.{length-same}
use Rattle.layer_core.specs.Instances.{instance_of}
use Rattle.layer_board.specs.Views.{BriefOf}
use Rattle.layer_board.proofs.Rule.{may_open}
use Rattle.layer_core.proofs.Layouts.{few_masks_in}
use Rattle.layer_board.proofs.boards.Board.new.Goals as goal

pub of_words-requires : goal.of_words-requires
of_words-requires c =
    let b : BriefOf =
    record {
      instance = instance_of c.of.result.value c.of-2.result.value c.args.limit;
      layer = c.of-3.result.value;
      workers = c.args.workers;
    } in
    let many : c.len.result ≡ length (masks_of b.layer) = c.len.ensures ∙ ap (λ (l : LayerOf). length (masks_of l)) (sym c.of-3.ensures) in
    may_open b c.as_slice.result.now (c.as_slice.ensures.value ∙ (c.in_ok-words.ensures ∙ ap (λ (n : ℕ). replicate (n + 1) 0) many))
    (omega (arith, c.count-count.ensures.some, c.count-count.ensures.value)) (omega (arith, c.count-count.ensures.most, c.count-count.ensures.value))

pub invariant_of-board : goal.invariant_of-board
invariant_of-board c = grind (arith, length-same, few_masks_in)

pub invariant_of-board-2 : goal.invariant_of-board-2
invariant_of-board-2 c = grind (arith, length-same, few_masks_in)
