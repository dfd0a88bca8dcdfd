use Rattle.std.proofs.Common.{◌≡◌, ◌≤◌, Bool, true, false, not, length, sum, refl, sym, ap, subst, arith}
use Rattle.std.proofs.lemmas.Slice.Eq.{slice_eq-Decides}
use Rattle.cert_check.proofs.Reasons.{levels_first, total_first}
use Rattle.cert_check.proofs.head.counts_reason.Goals as goal

not_false : (b : Bool) → not b ≡ false → b ≡ true
not_false true e = refl
not_false false e = sym e

pub total-requires-2 : goal.total-requires-2
total-requires-2 c = subst (λ k. k ≤ 16) (sym (ap length c.levels-2.ensures)) c.requires.levels

pub returns-then-ne : goal.returns-then-ne
returns-then-ne c = grind (arith, slice_eq-Decides, levels_first)

pub returns-then-from-total : goal.returns-then-from-total
returns-then-from-total c = grind (arith, slice_eq-Decides, not_false, sum, total_first)

pub returns : goal.returns
returns c = grind (arith, slice_eq-Decides, not_false, sum)
