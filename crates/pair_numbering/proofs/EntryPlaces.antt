-- Pairs of entries where they stand, in a table or in strips.
--     laid_paired      the entries are paired
--     laid_rank, laid_few, laid_named, laid_blocks      it has few of all, and the strips of a block have names
--     laid_half      how many pairs of strips' entries there are
--     laid_inside, laid_low, laid_high      the two strips of a block stand whole, and what stands in them
--     pair_block      a pair is one of a block
--     strip_table      the strips of pairs of names are a table
use Rattle.std.proofs.Common.{◌≡◌, ℕ, suc, ◌+◌, ◌*◌, ◌/◌, ◌^◌, ◌<◌, ◌≤◌, List, Option, None, Some, IfSome, length, get_or, sym, ap, ◌∙◌, subst, arith}
use Rattle.std.proofs.Math.Nat.{div-lt_iff_lt-mul, mul-le-mul_right}
use Rattle.std.proofs.lemmas.Nat.{div-mul-add, pow_pos}
use Rattle.subfunction_classes.specs.PairTables.{IsPaired, IsPairTable}
use Rattle.subfunction_classes.specs.Strips.{names_of, unrolled}
use Rattle.pair_numbering.specs.Strips.{ArePairedStrips, IsLaid, laid_out, strips_at}
use Rattle.subfunction_classes.proofs.StripLengths.{length_named, length_names_of, name_low, name_high, named_at, named_inside, unrolled_below}

-- a pair of strips has 2 * len entries
two_strips : (n len : ℕ) → n * 2 * len ≡ n * (2 * len)
two_strips n len = grind arith

half_of : (n len x : ℕ) → x ≡ n * (2 * len) → x / 2 ≡ n * len
half_of n len x e = omega arith

-- there are so many blocks
block_of : (n len x b : ℕ) → 0 < len → x ≡ n * (2 * len) → b < x / 2 / len → b < n
block_of n len x b some e h =
    let half : x / 2 ≡ n * len + 0 = omega arith in
    omega (arith, ap (λ z. z / len) half ∙ div-mul-add n len 0 some)

-- a block of a table lies within it
within : (n len x b : ℕ) → x ≡ n * (2 * len) → b < n → ((2 * b) * len + len ≤ x) × ((2 * b + 1) * len + len ≤ x)
within n len x b e h =
    let m = mul-le-mul_right (2 * len) (let s : suc b ≤ n = omega arith in s) in
    (omega arith, omega arith)

module _ {R : Type 0} (now : R → List (ℕ × ℕ)) where
  long : (ns : R) (numbers : List ℕ) (rank : ℕ) → IsLaid now (Some ns) numbers rank →
      length (laid_out now (Some ns) numbers (2 ^ rank)) ≡ length (now ns) * (2 * 2 ^ rank)
  unfolding IsLaid
  long ns numbers rank h =
      length_named (names_of (now ns)) numbers (2 ^ rank) h.0 ∙ ap (λ k. k * 2 ^ rank) (length_names_of (now ns))
      ∙ two_strips (length (now ns)) (2 ^ rank)

  pub laid_paired : (names : Option R) (numbers : List ℕ) (rank : ℕ) → IsLaid now names numbers rank →
      IsPaired (laid_out now names numbers (2 ^ rank)) rank
  unfolding IsLaid
  laid_paired None numbers rank h = h
  laid_paired (Some ns) numbers rank h =
      let l = long ns numbers rank h in
      record { small_rank = h.1; short = omega arith; whole = (length (now ns), l) }

  pub laid_rank : (names : Option R) (numbers : List ℕ) (rank : ℕ) → IsLaid now names numbers rank → rank < 16
  unfolding IsLaid
  laid_rank None numbers rank h = h.small_rank
  laid_rank (Some ns) numbers rank h = h.1

  pub laid_few : (names : Option R) (numbers : List ℕ) (rank : ℕ) → IsLaid now names numbers rank → length numbers < 2 ^ 32
  unfolding IsLaid
  laid_few None numbers rank h = h.short
  laid_few (Some ns) numbers rank h = omega arith

  pub laid_half : (ns : R) (numbers : List ℕ) (rank : ℕ) → IsLaid now (Some ns) numbers rank →
      length (now ns) * 2 ^ rank ≡ length (laid_out now (Some ns) numbers (2 ^ rank)) / 2
  laid_half ns numbers rank h = sym (half_of (length (now ns)) (2 ^ rank) _ (long ns numbers rank h))

  pub laid_name : (ns : R) (numbers : List ℕ) (rank b : ℕ) → IsLaid now (Some ns) numbers rank →
      b < length (laid_out now (Some ns) numbers (2 ^ rank)) / 2 / 2 ^ rank → b < length (now ns)
  laid_name ns numbers rank b h l = block_of (length (now ns)) (2 ^ rank) _ b (pow_pos rank) (long ns numbers rank h) l

  pub laid_named : (names : Option R) (numbers : List ℕ) (rank b : ℕ) → IsLaid now names numbers rank →
      b < length (laid_out now names numbers (2 ^ rank)) / 2 / 2 ^ rank → IfSome names (λ r. b < length (now r))
  laid_named None numbers rank b h l = tt
  laid_named (Some ns) numbers rank b h l = laid_name ns numbers rank b h l

  pub laid_blocks : (names : Option R) (numbers : List ℕ) (rank b : ℕ) → IsLaid now names numbers rank →
      b < length (laid_out now names numbers (2 ^ rank)) / 2 / 2 ^ rank → b < 2 ^ 32
  laid_blocks names numbers rank b h l = grind (arith, laid_paired, block_of, pow_pos)

  pub laid_inside : (names : Option R) (numbers : List ℕ) (rank b : ℕ) → IsLaid now names numbers rank →
      b < length (laid_out now names numbers (2 ^ rank)) / 2 / 2 ^ rank →
      ((strips_at now names b).0 * 2 ^ rank + 2 ^ rank ≤ length numbers) × ((strips_at now names b).1 * 2 ^ rank + 2 ^ rank ≤ length numbers)
  unfolding IsLaid
  laid_inside None numbers rank b h l =
      within h.whole.0 (2 ^ rank) (length numbers) b h.whole.1 (block_of h.whole.0 (2 ^ rank) (length numbers) b (pow_pos rank) h.whole.1 l)
  laid_inside (Some ns) numbers rank b h l =
      let m = laid_name ns numbers rank b h l in
      let n = length_names_of (now ns) in
      let inside = named_inside (names_of (now ns)) numbers (2 ^ rank) h.0 in (
        subst (λ z. z * 2 ^ rank + 2 ^ rank ≤ length numbers) (name_low (now ns) b m) (inside (b * 2) (omega arith)),
        subst (λ z. z * 2 ^ rank + 2 ^ rank ≤ length numbers) (name_high (now ns) b m) (inside (b * 2 + 1) (omega arith)),
      )

  pub laid_low : (names : Option R) (numbers : List ℕ) (rank b i : ℕ) → IsLaid now names numbers rank →
      b < length (laid_out now names numbers (2 ^ rank)) / 2 / 2 ^ rank → i < 2 ^ rank →
      get_or numbers ((strips_at now names b).0 * 2 ^ rank + i) 0 ≡ get_or (laid_out now names numbers (2 ^ rank)) (b * (2 * 2 ^ rank) + i) 0
  unfolding IsLaid
  laid_low None numbers rank b i h l m = ap (λ k. get_or numbers k 0) (omega arith)
  laid_low (Some ns) numbers rank b i h l m =
      let k = laid_name ns numbers rank b h l in
      let n = length_names_of (now ns) in
      ap (λ z. get_or numbers (z * 2 ^ rank + i) 0) (sym (name_low (now ns) b k))
      ∙ sym (named_at (names_of (now ns)) numbers (2 ^ rank) h.0 (b * 2) i (omega arith) m)
      ∙ ap (λ z. get_or (laid_out now (Some ns) numbers (2 ^ rank)) z 0) (omega arith)

  pub laid_high : (names : Option R) (numbers : List ℕ) (rank b i : ℕ) → IsLaid now names numbers rank →
      b < length (laid_out now names numbers (2 ^ rank)) / 2 / 2 ^ rank → i < 2 ^ rank →
      get_or numbers ((strips_at now names b).1 * 2 ^ rank + i) 0
      ≡ get_or (laid_out now names numbers (2 ^ rank)) (b * (2 * 2 ^ rank) + i + 2 ^ rank) 0
  unfolding IsLaid
  laid_high None numbers rank b i h l m = ap (λ k. get_or numbers k 0) (omega arith)
  laid_high (Some ns) numbers rank b i h l m =
      let k = laid_name ns numbers rank b h l in
      let n = length_names_of (now ns) in
      ap (λ z. get_or numbers (z * 2 ^ rank + i) 0) (sym (name_high (now ns) b k))
      ∙ sym (named_at (names_of (now ns)) numbers (2 ^ rank) h.0 (b * 2 + 1) i (omega arith) m)
      ∙ ap (λ z. get_or (laid_out now (Some ns) numbers (2 ^ rank)) z 0)
      (omega arith)

pub pair_block : (numbers : List ℕ) (rank j : ℕ) → IsPaired numbers rank → j < length numbers / 2 → j / 2 ^ rank < length numbers / 2 / 2 ^ rank
pair_block numbers rank j p h = grind (arith, div-mul-add, pow_pos, div-lt_iff_lt-mul)

pub strip_table : (names : List (ℕ × ℕ)) (numbers : List ℕ) (bits classes : ℕ) → ArePairedStrips names numbers bits classes →
    IsPairTable (unrolled (names_of names) numbers (2 ^ bits)) bits classes
strip_table names numbers bits classes strips = grind (arith, length_named, length_names_of, two_strips, unrolled_below, pow_pos)
