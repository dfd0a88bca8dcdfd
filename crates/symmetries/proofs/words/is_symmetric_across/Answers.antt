use Rattle.std.proofs.Common.{arith, slice_index}
use Rattle.std.proofs.lemmas.Bool.{cases_eq}
use Rattle.std.proofs.lemmas.Nat.{one_shl}
use Rattle.std.proofs.lemmas.Nat.Bits.{shr_and_one}
use Rattle.symmetries.proofs.words.is_symmetric_across.Goals as goal
use Rattle.symmetries.proofs.words.is_symmetric_across.Goals.{else-i-s-eq0-via-then-i-s-eq0+else-changes_across, else-i-s-eq0-via-else-i-s-eq0}

pub loop-i-preserved : goal.loop-i-preserved
loop-i-preserved c i k less a4 small one =
    grind (arith, cases_eq, else-i-s-eq0-via-then-i-s-eq0+else-changes_across, slice_index, one_shl, else-i-s-eq0-via-else-i-s-eq0, shr_and_one)
