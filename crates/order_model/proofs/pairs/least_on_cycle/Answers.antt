use Rattle.std.proofs.Common.{◌≡◌, ◌<◌, ℕ, List, true, arith}
use Rattle.definitions.specs.Pairs.{has_pair}
use Rattle.definitions.specs.KeptPairs.{pairs_in}
use Rattle.definitions.proofs.Precedence.Masks.{within_16, same_in, same_at, has_in}
use Rattle.definitions.proofs.Precedence.Closure.{start, one_more, all_reached}
use Rattle.order_model.proofs.pairs.least_on_cycle.Goals as goal

small : (below : List ℕ) (a b : ℕ) → has_pair (pairs_in 16 below) a b ≡ true → (a < 16) × (b < 16)
small below a b h = let s = (has_in 16 below a b).0 h in (s.0, s.1)

pub loop-k-init : goal.loop-k-init
loop-k-init c = search (start, same_at, same_in, within_16)

pub loop-k-preserved : goal.loop-k-preserved
loop-k-preserved c = one_more _ c.loop-k.k c.loop-k.reached _ c.join_through.ensures c.loop-k.invariant

pub loop-v-init : goal.loop-v-init
loop-v-init c u h = absurd (omega arith)

pub loop-v-preserved : goal.loop-v-preserved
loop-v-preserved c u h bit = grind arith

pub returns-then-contains-clause-found : goal.returns-then-contains-clause-found
returns-then-contains-clause-found c = grind (arith, all_reached, small)

pub returns-clause-none : goal.returns-clause-none
returns-clause-none c = grind (arith, small, all_reached)
