-- Tables from which a walk can go on.
--     block_small, whole_part      the first set of a block has variables below n, and none from n on
--     stands_start, stands_shorter      the table of the empty set; a table with shorter rows
--     stands_lower, stands_below      the lower half, and all that are lower
--     upper_set, stands_upper      the upper half with its table
--     part_set, stands_part      the table of a part
--     wide_upper      what a table tells of the widths into the upper half's first set
use Rattle.std.proofs.Common.{◌≡◌, ℕ, zero, suc, ◌+◌, ◌*◌, ◌/◌, ◌%◌, ◌^◌, ◌<◌, ◌≤◌, inl, inr, true, List, slice_index, bit_or, sym, ap, ◌∙◌, subst, arith, zero-mul}
use Rattle.std.proofs.Math.Nat.{div-eq_of_lt}
use Rattle.std.proofs.lemmas.Bool.{cases_lt}
use Rattle.std.proofs.lemmas.Nat.{div-add-mod', pow_pos}
use Rattle.definitions.specs.Orders.{has, members, without}
use Rattle.definitions.specs.Problems.{TruthTables, functions}
use Rattle.definitions.specs.Widths.{width}
use Rattle.edge_walks.specs.Blocks.{IsBlock, IsPartTable, StandsAt}
use Rattle.edge_walks.specs.LowerClasses.{IsWide}
use Rattle.edge_walks.specs.Tables.{TableOf, rows_at, rows_with, table_at}
use Rattle.subfunction_classes.proofs.HighSets.{double, high_more, high_or, multiple, step_down}

-- the first set of a block has variables below n
pub block_small : (n set y : ℕ) → IsBlock n set y → set < 2 ^ n
block_small n set y block = grind (arith, pow_pos)

-- it has none from n on
pub whole_part : (n part end y : ℕ) → y ≡ n → IsBlock n part end → part / 2 ^ y * 2 ^ y ≡ 0
whole_part n part end y all block = grind (arith, block_small, div-eq_of_lt, zero-mul)

module _ (P : TruthTables) where
  -- the table of the empty set
  pub stands_start : (y : ℕ) (t : TableOf) → y ≡ P.inputs → t ≡ table_at P 0 P.inputs → StandsAt P y t
  stands_start y t all made = grind (arith, zero-mul, multiple, pow_pos)

  pub stands_shorter : (y : ℕ) (t u : TableOf) → StandsAt P y t → u ≡ rows_at t y → StandsAt P y u
  stands_shorter y t u stands made = grind arith

  -- the lower half
  pub stands_lower : (x y : ℕ) (t : TableOf) → y ≡ x + 1 → StandsAt P y t → StandsAt P x t
  stands_lower x y t next stands = grind (arith, double, step_down)

  -- all that are lower
  pub stands_below : (x y : ℕ) (t : TableOf) → x ≤ y → StandsAt P y t → StandsAt P x t
  stands_below x zero t le stands = subst (λ k. StandsAt P k t) (let same : 0 ≡ x = omega arith in same) stands
  stands_below x (suc y) t le stands = elim (cases_lt y x) [
    | inl more ↦ subst (λ k. StandsAt P k t) (let same : suc y ≡ x = omega arith in same) stands
    | inr less ↦ stands_below x y t less (stands_lower y (suc y) t (omega arith) stands)
  ]

  -- the upper half has one more variable
  pub upper_set : (x y : ℕ) (t u : TableOf) → y ≡ x + 1 → StandsAt P y t → u ≡ rows_with t x → u.set ≡ t.set + 2 ^ x
  upper_set x y t u next stands made =
      ap (λ (v : TableOf). v.set) made ∙ high_or t.set x (ap (λ k. t.set % 2 ^ k) (sym next) ∙ stands.block.aligned)

  pub stands_upper : (x y : ℕ) (t u : TableOf) → y ≡ x + 1 → StandsAt P y t → u ≡ rows_with t x → StandsAt P x u
  stands_upper x y t u next stands made =
      let set = upper_set x y t u next stands made in
      let level : u.level ≡ x = ap (λ (v : TableOf). v.level) made in
      let inside = stands.inside in
      let room = stands.block.room in
      let two = double x y next in
      record {
        problem = ap (λ (v : TableOf). v.problem) made ∙ stands.problem;
        inside = omega arith;
        level = omega arith;
        block = record {
          aligned = ap (λ k. k % 2 ^ x) set ∙ high_more t.set x (ap (λ k. t.set % 2 ^ k) (sym next) ∙ stands.block.aligned);
          room = omega arith;
        };
      }

  pub part_set : (part end : ℕ) (root t : TableOf) → IsBlock P.inputs part end → IsPartTable root part end t → t.set ≡ part
  part_set part end root t block is = grind (arith, div-add-mod')

  pub stands_part : (part end : ℕ) (root t : TableOf) → IsBlock P.inputs part end → end ≤ P.inputs → root.problem ≡ P → IsPartTable root part end t →
      StandsAt P end t
  stands_part part end root t block inside same is = grind (arith, part_set)

  -- what the table tells of the widths into the upper half's first set
  pub wide_upper : (x y : ℕ) (t : TableOf) (needed : List ℕ) → y ≡ x + 1 → StandsAt P y t → IsWide (rows_with t x) needed →
      (z : ℕ) → has (members P.inputs (t.set + 2 ^ x)) z ≡ true →
      slice_index needed z ≤ width P.inputs (functions P) (without z (members P.inputs (t.set + 2 ^ x))) z
  wide_upper x y t needed next stands wide z there = grind (arith, bit_or, high_or)
