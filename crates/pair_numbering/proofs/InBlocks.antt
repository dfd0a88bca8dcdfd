-- Pairs by blocks, as a loop over the blocks comes to them.
--     InBlock numbers rank block i      pair i of a block is one of the table
--     in_half, in_block, step_is, place_is, all_pairs      the block, its length, the place and the end, as the code has them
--     listed_inside      the pair is listed
--     place_small      a place among the pairs is small
--     pair_inside      both halves of a pair are classes
--     masked_table      pairs with masks are those of a class table
use Rattle.std.proofs.Common.{◌≡◌, ℕ, ◌+◌, ◌*◌, ◌/◌, ◌%◌, ◌^◌, ◌<◌, ◌≤◌, List, length, sym, ap, ◌∙◌, subst, arith}
use Rattle.std.proofs.lemmas.Nat.{one_shl, pow_pos}
use Rattle.subfunction_classes.specs.PairTables.{AllBelow, IsPaired, IsPairTable}
use Rattle.subfunction_classes.specs.Places.{pairs, pair_at, low_place}
use Rattle.subfunction_classes.proofs.BlockPlaces.{block_all, block_inside}
use Rattle.subfunction_classes.proofs.Index.{length-pairs, pair_within}
use Rattle.pair_numbering.specs.declared.masks.MaskedPairs.{MaskedPairs}

pub place_small : (numbers : List ℕ) (step n place : ℕ) → place < n → n ≡ length (pairs numbers step) → length numbers < 2 ^ 32 → place < 2 ^ 31
place_small numbers step n place l e f = omega (arith, length-pairs numbers step)

-- pair i of a block is one of the table
pub record InBlock (numbers : List ℕ) (rank block i : ℕ) : Type 0 where
  pub inside : block < length numbers / 2 / 2 ^ rank
  pub early : i < 2 ^ rank

module _ {numbers : List ℕ} {rank : ℕ} (paired : IsPaired numbers rank) where
  -- the length of a block, as the code has it
  pub step_is : {r : ℕ} → r ≡ rank → 1 * 2 ^ r % 2 ^ 64 ≡ 2 ^ rank
  step_is {r = r} e = one_shl r 64 (omega arith) ∙ ap (λ k. 2 ^ k) e

  pub in_half : {long block i : ℕ} → long ≡ 2 ^ rank → block < length numbers / 2 / 2 ^ rank → i < long → InBlock numbers rank block i
  in_half {i = i} is inside l = record { inside = inside; early = subst (λ z. i < z) is l }

  pub in_block : {half r long block i : ℕ} → half ≡ length numbers / 2 → r ≡ rank → long ≡ 2 ^ rank → block < half / 2 ^ r → i < long →
      InBlock numbers rank block i
  in_block {block = block} h e is l m = in_half is (subst (λ z. z) (λ t. block < h t / 2 ^ e t) l) m

  pub place_is : {r : ℕ} (block i : ℕ) → r ≡ rank → block * (1 * 2 ^ r % 2 ^ 64) + i ≡ block * 2 ^ rank + i
  place_is block i e = ap (λ z. block * z + i) (step_is e)

  -- the blocks are the whole table
  pub all_pairs : {half r : ℕ} (block : ℕ) → half ≡ length numbers / 2 → r ≡ rank → half / 2 ^ r ≤ block → length numbers / 2 ≤ block * 2 ^ rank
  all_pairs block h e l = block_all (length numbers) rank block paired.whole (subst (λ z. z) (λ t. h t / 2 ^ e t ≤ block) l)

  pub listed_inside : {block i : ℕ} → InBlock numbers rank block i → block * 2 ^ rank + i < length (pairs numbers (2 ^ rank))
  listed_inside {block = block} {i = i} here =
      omega (arith, length-pairs numbers (2 ^ rank), block_inside (length numbers) rank block i paired.whole here.inside here.early)

  pub pair_inside : {classes j : ℕ} {p : ℕ × ℕ} → AllBelow numbers classes → j < length numbers / 2 → p ≡ pair_at numbers (2 ^ rank) j →
      (p.0 < classes) × (p.1 < classes)
  pair_inside {classes = classes} {j = j} below small e =
      let w = pair_within (2 ^ rank) paired.whole.0 (length numbers) j (pow_pos rank) paired.whole.1 small in
      let low : low_place (2 ^ rank) j < length numbers = omega arith in
      subst (λ (q : ℕ × ℕ). (q.0 < classes) × (q.1 < classes)) (sym e) (below (low_place (2 ^ rank) j) low, below (low_place (2 ^ rank) j + 2 ^ rank) w)

-- pairs with masks are those of a class table
pub masked_table : (p : MaskedPairs) → IsPaired p.entries.numbers p.entries.rank → IsPairTable p.entries.numbers p.entries.rank (length p.masks.now)
masked_table p paired = record { paired = paired; few = p.few_entries; below = p.below }
