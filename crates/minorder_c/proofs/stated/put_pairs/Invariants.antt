use Rattle.std.proofs.Common.{◌≡◌, map}
use lib.Seq.{paste}
use Rattle.minorder_c.specs.Stated.{pair_for_c}
use Rattle.minorder_c.proofs.stated.put_pairs.Given as goal

abbrev pub invariant-loop-i : goal.invariant-loop-i
invariant-loop-i l = l.place ≡ paste l.fn.place 0 (map pair_for_c l.pairs) l.i
