-- The table of the variables of a mask from a bound on, with one variable after the other.
--     part_free      all variables below the bound are free
--     part_skip, part_with      the next variable down is not in the mask; it is, and the table has one more
use Rattle.std.proofs.Common.{◌≡◌, ℕ, ◌+◌, ◌%◌, ◌^◌, bit_or, sym, ap, ◌∙◌, arith}
use Rattle.std.specs.Int.{bit_at}
use Rattle.edge_walks.specs.Blocks.{IsPartTable}
use Rattle.edge_walks.specs.Tables.{TableOf, rows_with}
use Rattle.subfunction_classes.proofs.HighSets.{part_high, part_more, part_same}

module _ (root : TableOf) (part x y : ℕ) (next : y ≡ x + 1) where
  -- all variables below the bound are free
  pub part_free : (t : TableOf) → IsPartTable root part y t → t.set % 2 ^ (x + 1) ≡ 0
  part_free t is =
      ap (λ k. t.set % 2 ^ k) (sym next) ∙ ap (λ k. k % 2 ^ y) is.set ∙ part_high part y

  -- the next variable down is not in the mask
  pub part_skip : (t : TableOf) → bit_at part x ≡ 0 → IsPartTable root part y t → IsPartTable root part x t
  part_skip t h is = grind (arith, part_same)

  pub part_with : (t u : TableOf) → bit_at part x ≡ 1 → u ≡ rows_with t x → IsPartTable root part y t → IsPartTable root part x u
  part_with t u one made is = grind (arith, bit_or, part_more)
