-- Edges into one set, whose widths are told to be at least what each needs.
--     none_into      none of them fails, and no other edge is judged among these sets
use Rattle.std.proofs.Common.{◌≡◌, ℕ, ◌+◌, ◌-◌, ◌^◌, ◌<◌, ◌≤◌, true, List, slice_index, None, arith}
use Rattle.std.specs.Int.{bit_at}
use Rattle.std.proofs.lemmas.Bool.{cases_eq}
use Rattle.std.proofs.lemmas.Nat.Bits.{bit_at-zero}
use Rattle.definitions.specs.Functions.{Function}
use Rattle.definitions.specs.Orders.{has, members, without}
use Rattle.definitions.specs.Widths.{width}
use Rattle.edge_walks.specs.Edges.{AreJudged, FailsWithin, IsFirstEdge}
use Rattle.edge_walks.proofs.IntoSet.{edge_kept}

pub none_into : (n : ℕ) (F : List Function) (values judged : List ℕ) (T x : ℕ) (needed : List ℕ) → AreJudged n judged →
    ((U : ℕ) → T < U → U < T + 2 ^ x → slice_index judged U ≡ 0) →
    ((y : ℕ) → bit_at (slice_index judged T) y ≡ 1 → slice_index values T ≤ slice_index values (T - 2 ^ y) + slice_index needed y) →
    ((y : ℕ) → has (members n T) y ≡ true → slice_index needed y ≤ width n F (without y (members n T)) y) →
    IsFirstEdge (FailsWithin n F values judged T x) None
none_into n F values judged T x needed members later enough wide S y f = grind (arith, cases_eq, slice_index, edge_kept, bit_at-zero)
