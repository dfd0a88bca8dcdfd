-- Pairs by blocks: pair i of block b, where a block has `step` pairs.
--     block_low, block_pair      its lower entry, and its two entries
--     block_inside, block_all, block_next      it is one of the table; the blocks are the whole table; the next block
--     listed_classes      the classes of pairs are among those numbered
use Rattle.std.proofs.Common.{◌≡◌, ℕ, ◌+◌, ◌*◌, ◌/◌, ◌^◌, ◌<◌, ◌≤◌, length, ap, ap₂, sym, ◌∙◌, List, get_or, subst, arith}
use Rattle.std.proofs.lemmas.Nat.{div-mul-add, mod-mul-add}
use Rattle.subfunction_classes.specs.Places.{low_place, pairs}
use Rattle.subfunction_classes.proofs.Index.{pair_listed, length-pairs}
use Rattle.subfunction_classes.proofs.JoinedMasks.{pair_classes}

-- its lower entry
pub block_low : (step b i : ℕ) → i < step → low_place step (b * step + i) ≡ b * (2 * step) + i
block_low step b i h = ap₂ (λ q r. q * (2 * step) + r) (div-mul-add b step i h) (mod-mul-add b step i h)

-- there are so many blocks
blocks_are : (step blocks len : ℕ) → 0 < step → len ≡ blocks * (2 * step) → len / 2 / step ≡ blocks
blocks_are step blocks len some e = ap (λ z. z / step) (omega arith) ∙ div-mul-add blocks step 0 some

halves_are : (step blocks len : ℕ) → len ≡ blocks * (2 * step) → len / 2 ≡ blocks * step
halves_are step blocks len e = omega arith

-- the pair is one of the table
pub block_inside : (len rank b i : ℕ) → ((blocks : ℕ) × (len ≡ blocks * (2 * 2 ^ rank))) → b < len / 2 / 2 ^ rank → i < 2 ^ rank → b * 2 ^ rank + i < len / 2
block_inside len rank b i whole l m = grind arith

-- the blocks are the whole table
pub block_all : (len rank b : ℕ) → ((blocks : ℕ) × (len ≡ blocks * (2 * 2 ^ rank))) → len / 2 / 2 ^ rank ≤ b → len / 2 ≤ b * 2 ^ rank
block_all len rank b whole l = grind arith

pub block_next : (step b : ℕ) → b * step + step ≡ (b + 1) * step
block_next step b = grind arith

-- the pair, by its entries
pub block_pair : (cs : List ℕ) (rank b i : ℕ) → ((blocks : ℕ) × (length cs ≡ blocks * (2 * 2 ^ rank))) → b < length cs / 2 / 2 ^ rank → i < 2 ^ rank →
    get_or (pairs cs (2 ^ rank)) (b * 2 ^ rank + i) (0, 0) ≡ (get_or cs (b * (2 * 2 ^ rank) + i) 0, get_or cs (b * (2 * 2 ^ rank) + i + 2 ^ rank) 0)
block_pair cs rank b i whole l m = search (pair_listed, block_inside, block_low)

-- all classes of pairs are among those numbered
pub listed_classes : (cs : List ℕ) (rank classes j : ℕ) → ((blocks : ℕ) × (length cs ≡ blocks * (2 * 2 ^ rank))) →
    ((i : ℕ) → i < length cs → get_or cs i 0 < classes) → j < length (pairs cs (2 ^ rank)) →
    ((get_or (pairs cs (2 ^ rank)) j (0, 0)).0 < classes) × ((get_or (pairs cs (2 ^ rank)) j (0, 0)).1 < classes)
listed_classes cs rank classes j whole small h =
    let t : j < length cs / 2 = omega (arith, length-pairs cs (2 ^ rank)) in
    subst (λ (p : ℕ × ℕ). (p.0 < classes) × (p.1 < classes)) (sym (pair_listed cs (2 ^ rank) j t)) (pair_classes cs rank classes j whole small t)
