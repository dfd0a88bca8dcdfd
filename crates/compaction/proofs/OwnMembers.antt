-- All members of a block's sets, as what is wanted of them.
--     own_members      they are members
--     own_count      there are at most 16 of each of at most 256 sets
use Rattle.std.proofs.Common.{◌≡◌, ℕ, suc, ◌*◌, ◌^◌, ◌<◌, ◌≤◌, true, List, [], ◌∷◌, length, get_or, slice_index, count_ones, pow_mono, subst, arith}
use Rattle.std.specs.Int.{bit_at}
use Rattle.std.proofs.lemmas.Bool.{cases_lt}
use Rattle.std.proofs.lemmas.List.Sums.{sum_by-cons}
use Rattle.std.proofs.lemmas.Nat.Bits.{bit_at_above}
use lib.Count.{ones-le}
use Rattle.definitions.specs.Orders.{has, members}
use Rattle.definitions.specs.Problems.{TruthTables}
use Rattle.definitions.proofs.Lists.Orders.{has_at}
use Rattle.subset_layers.specs.Layers.{BlockOf, block_masks}
use Rattle.subset_layers.proofs.BlockLists.{in_block}
use Rattle.compaction.specs.Rows.{AreMembers, wanted_count}
use Rattle.definitions.proofs.Precedence.MaskLaws.{member_from}

-- a bit of a mask stands for a member
pub bit_member : (n mask x : ℕ) → mask < 2 ^ n → bit_at mask x ≡ 1 → has (members n mask) x ≡ true
bit_member n mask x small one = grind (arith, cases_lt, member_from, bit_at_above)

pub own_members : (p : TruthTables) (b : BlockOf) → b.inputs ≡ p.inputs → AreMembers p (block_masks b) (block_masks b)
own_members p b e i lt x one =
    let m = in_block b (slice_index (block_masks b) i) (has_at (block_masks b) i lt) in
    bit_member p.inputs (slice_index (block_masks b) i) x (subst (λ n. slice_index (block_masks b) i < 2 ^ n) e m.0) one

count_few : (xs : List ℕ) → ((i : ℕ) → i < length xs → get_or xs i 0 < 65536) → wanted_count xs ≤ 16 * length xs
count_few [] h = omega arith
count_few (x ∷ xs) h =
    let s = sum_by-cons count_ones x xs in
    let o = ones-le 16 x (h 0 (omega arith)) in
    let r = count_few xs (λ i lt. h (suc i) (omega arith)) in
    omega arith

pub own_count : (b : BlockOf) → b.inputs ≤ 16 → length (block_masks b) ≤ 256 → wanted_count (block_masks b) ≤ 4096
own_count b few short =
    let c = count_few (block_masks b)
    (λ i lt. let m = in_block b (slice_index (block_masks b) i) (has_at (block_masks b) i lt) in
    let p : 2 ^ b.inputs ≤ 65536 = pow_mono {j = 16} few in let s = m.0 in omega arith) in
    omega arith
