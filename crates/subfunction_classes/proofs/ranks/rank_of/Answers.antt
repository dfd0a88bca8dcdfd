use Rattle.std.proofs.Common.{sym, arith}
use Rattle.std.proofs.lemmas.Bool.{iff_false}
use Rattle.std.proofs.lemmas.Nat.Bits.{shr_and_one, bit_at-lt}
use Rattle.subfunction_classes.proofs.OneMoreVariable.{free_none, free_more, free_same}
use Rattle.subfunction_classes.proofs.ranks.rank_of.Goals as goal
use Rattle.subfunction_classes.proofs.ranks.rank_of.Goals.{then-not-contains, else-not-contains}

pub loop-y-init : goal.loop-y-init
loop-y-init c = record { so_far = sym (free_none c.args.set); small = omega arith }

pub loop-y-preserved : goal.loop-y-preserved
loop-y-preserved c = grind (arith, shr_and_one, then-not-contains, iff_false, bit_at-lt, free_more, else-not-contains, free_same)
