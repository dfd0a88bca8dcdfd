-- Cells of the parity of four variables with bound 7, by computation.
use Rattle.std.proofs.Common.{◌≡◌, ℕ, zero, suc, ◌^◌, ◌<◌, ◌≤◌, refl, sym, subst, lit<, List, [], ◌∷◌, get_or, arith}
use Rattle.std.specs.Int.{bit_at}
use Rattle.std.proofs.lemmas.Nat.Bits.{bit_at_above}
use Rattle.definitions.specs.Functions.{number, points, restrict, table, depends, from_table}
use Rattle.definitions.specs.Orders.{members, without}
use Rattle.definitions.specs.Pairs.{are_lawful, is_lawful}
use Rattle.definitions.specs.Levels.{subfunctions, reach, dependents}
use Rattle.definitions.specs.Widths.{outside, width, cost, arrangements, least_of, least, essential, essentials_outside}
use Rattle.definitions.specs.LowerBounds.{nodes_above}
use Rattle.definitions.specs.Cells.{is_within, best_top, cell_of}
use Rattle.definitions.specs.Problems.{IsPacked, table_in, tables_of}
use Rattle.solver_tests.specs.Examples.{parity}
use Rattle.layer_core.specs.Instances.{cell_for}

pub cell_3 : (4, 0) ≡ cell_for parity 3
unfolding table_in tables_of from_table number points restrict table depends subfunctions reach dependents outside width cost without
    arrangements are_lawful is_lawful least_of least members essential essentials_outside nodes_above is_within best_top cell_of
cell_3 = refl

pub cell_5 : (4, 0) ≡ cell_for parity 5
unfolding table_in tables_of from_table number points restrict table depends subfunctions reach dependents outside width cost without
    arrangements are_lawful is_lawful least_of least members essential essentials_outside nodes_above is_within best_top cell_of
cell_5 = refl

pub cell_7 : (6, 0) ≡ cell_for parity 7
unfolding table_in tables_of from_table number points restrict table depends subfunctions reach dependents outside width cost without
    arrangements are_lawful is_lawful least_of least members essential essentials_outside nodes_above is_within best_top cell_of
cell_7 = refl

-- the word of its truth table
pub packed : (words : List ℕ) → words ≡ 27030 ∷ [] → IsPacked 4 1 words
packed words is = subst (IsPacked 4 1) (sym is) record {
  some_inputs = omega arith;
  few_inputs = omega arith;
  some_outputs = omega arith;
  few_outputs = omega arith;
  long = refl;
  clean = λ i b low high. by i low b high;
}
  where
    by : (i : ℕ) → i < 1 → (b : ℕ) → 2 ^ 4 ≤ b → bit_at (get_or (27030 ∷ []) i 0) b ≡ 0
    by zero low b high = bit_at_above 27030 16 b (lit< tt) (omega (arith, high))
    by (suc i) low b high = absurd (omega arith)
