use Rattle.std.proofs.Common.{sym, ap, subst, arith}
use Rattle.subset_layers.specs.Layers.{block_masks}
use Rattle.compaction.specs.Rows.{AreMembers, wanted_count}
use Rattle.compaction.proofs.OwnMembers.{own_members, own_count}
use Rattle.compaction_tests.proofs.widths.sum_of_block.Goals as goal

pub block_widths-requires-clause-members : goal.block_widths-requires-clause-members
block_widths-requires-clause-members g c =
    subst (λ needed. AreMembers c.args.problem.now (block_masks c.args.block.now) needed) (sym c.masks.ensures)
    (own_members c.args.problem.now c.args.block.now (grind arith))

pub block_widths-requires-clause-room : goal.block_widths-requires-clause-room
block_widths-requires-clause-room g c =
    let few = own_count c.args.block.now (grind arith) (grind arith) in
    let many = ap wanted_count c.masks.ensures in
    omega arith
