use Rattle.std.proofs.Common.{ap, ◌∙◌, arith}
use Rattle.std.proofs.lemmas.Bool.{iff_false}
use Rattle.std.proofs.lemmas.Nat.Bits.{shr_and_one}
use Rattle.definitions.specs.Orders.{has}
use Rattle.subfunction_classes.specs.Table.{ClassesOf, set_of}
use Rattle.subfunction_classes.proofs.LowSets.{low_more, low_same, low_new, low_all}
use Rattle.class_tables.proofs.classes.Classes.of_set.Goals as goal
use Rattle.class_tables.proofs.classes.Classes.of_set.Goals.{then-contains+in_ok-classes-2, else-contains}

pub compact-requires-clause-new : goal.compact-requires-clause-new
compact-requires-clause-new c = ap (λ (t : ClassesOf). has (set_of t) c.loop-y.y) c.loop-y.invariant ∙ low_new c.args.problem.now.inputs c.args.mask c.loop-y.y

pub loop-y-preserved : goal.loop-y-preserved
loop-y-preserved c = grind (arith, shr_and_one, then-contains+in_ok-classes-2, low_more, else-contains, low_same, iff_false)

pub returns : goal.returns
returns c = grind (arith, low_all)
