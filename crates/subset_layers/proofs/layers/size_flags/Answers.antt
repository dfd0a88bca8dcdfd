use Rattle.std.proofs.Common.{◌^◌, length, nat_eq, false, ap, ◌∙◌, arith}
use Rattle.std.proofs.lemmas.List.{length-set}
use Rattle.std.proofs.lemmas.List.Edits.{fill_by_more}
use Rattle.std.proofs.lemmas.List.FromFn.{fill_by_all}
use lib.Count.{ones}
use Rattle.definitions.specs.Orders.{members}
use Rattle.definitions.proofs.Bits.Ones.{ones-members}
use Rattle.subset_layers.proofs.layers.size_flags.Goals as goal

pub loop-mask-preserved : goal.loop-mask-preserved
loop-mask-preserved c =
    let value = ap (λ k. nat_eq k c.args.size) (ones-members c.args.inputs c.loop-mask.mask (omega arith)) in (
      length-set c.loop-mask.flags.items c.loop-mask.mask (nat_eq (ones c.loop-mask.mask) c.args.size) ∙ c.loop-mask.invariant.0,
      rw (value)
          (fill_by_more (λ mask. nat_eq (length (members c.args.inputs mask)) c.args.size) c.loop-mask.flags.items c.loop-mask.mask false (omega arith)
          c.loop-mask.invariant.1),
    )

pub returns : goal.returns
returns c =
    fill_by_all (λ mask. nat_eq (length (members c.args.inputs mask)) c.args.size) c.loop-mask.flags.items (2 ^ c.args.inputs) false c.loop-mask.invariant.0
    (λ mask lt. c.loop-mask.invariant.1 mask (omega arith))
