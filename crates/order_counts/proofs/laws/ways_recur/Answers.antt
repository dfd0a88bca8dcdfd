use Rattle.std.proofs.Common.{◌≡◌, ℕ, zero, suc, ◌<◌, List, [], arith}
use Rattle.definitions.specs.Functions.{Function}
use Rattle.definitions.specs.Pairs.{Pair}
use Rattle.definitions.specs.AllOrders.{ways}
use Rattle.definitions.proofs.Widths.AllOrders.{ways_empty_zero, ways_empty_more, ways_none}
use Rattle.definitions.proofs.Widths.AllOrders as lemmas
use Rattle.order_counts.proofs.laws.ways_recur.Goals as goal

pub returns-clause-empty : goal.returns-clause-empty
returns-clause-empty c = ways_empty_zero

empty_more : (n : ℕ) (F : List Function) (P : List Pair) (c : ℕ) → 0 < c → ways n F P [] c ≡ 0
empty_more n F P zero h = absurd (omega arith)
empty_more n F P (suc c) h = ways_empty_more n F P c

pub returns-clause-empty_more : goal.returns-clause-empty_more
returns-clause-empty_more c = empty_more

pub returns-clause-step : goal.returns-clause-step
returns-clause-step c = λ n F P S z k d l h. lemmas.ways_recur P S z d l h n F k

pub returns-clause-unlawful : goal.returns-clause-unlawful
returns-clause-unlawful c = λ n F P S k d u. ways_none n F P S d u k
