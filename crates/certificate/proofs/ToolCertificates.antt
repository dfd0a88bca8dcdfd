-- The certificate that the tool writes has a spelling.
--     InRange key low high es      keys rise from low on and are below high
--     tool_spelled      the bounds of all its parts
use Rattle.std.proofs.Common.{◌≡◌, ℕ, zero, suc, ◌+◌, ◌-◌, ◌*◌, ◌^◌, ◌<◌, ◌≤◌, ◌&&◌, inr, Bool, true, false, cond, List, [], ◌∷◌, ◌++◌, length, map, Option, None, Some, refl, ◌∙◌, arith, nat_lt}
use Rattle.std.specs.List.{AllByRecursion, AllPairs, filter, flat_map, range_with_len, sum}
use Rattle.std.proofs.lemmas.List.{length-map}
use Rattle.std.proofs.lemmas.List.Elements.{All-from_recursion}
use Rattle.std.proofs.lemmas.List.FromFn.{length-map-range_with_len}
use Rattle.std.proofs.lemmas.List.Sums.{sum_by-cons}
use Rattle.definitions.specs.Functions.{Function}
use Rattle.definitions.specs.Orders.{IsOrder, members}
use Rattle.definitions.specs.Pairs.{Pair, AreBelow, has_pair, is_lawful, sorted_pairs}
use Rattle.definitions.specs.Levels.{level_count, level_counts, size_under}
use Rattle.definitions.specs.Widths.{least, essentials_outside}
use Rattle.definitions.specs.Certificates.{Cell, certificate_of, least_listed, listed_masks}
use Rattle.definitions.proofs.Functions.Exchange.{Below, below_from_has}
use Rattle.definitions.proofs.Widths.SizeBounds.{order_length, size_bound}
use Rattle.certificate.specs.Spelling.{HasSpelling, IsCell, most_nodes, pair_key}
use Rattle.certificate.proofs.RisingKeys.{IsAbove, RiseFrom, rise_pairs}

module _ {E : Type 0} (key : E → ℕ) where
  -- keys that rise from low on and are below high
  abbrev pub InRange : ℕ → ℕ → List E → Type 0
  InRange low high [] = Unit {0}
  InRange low high (e ∷ es) = (low ≤ key e) × (key e < high) × InRange (key e + 1) high es

  range_rises : (before : Option ℕ) (low high : ℕ) (es : List E) → ((k : ℕ) → low ≤ k → IsAbove before k) → InRange low high es → RiseFrom key before es
  range_rises before low high [] above within = tt
  range_rises before low high (e ∷ es) above (here, under, within) =
      (above (key e) here, range_rises (Some (key e)) (key e + 1) high es (λ k h. omega arith) within)

  range_wider : (low low' high high' : ℕ) (es : List E) → low' ≤ low → high ≤ high' → InRange low high es → InRange low' high' es
  range_wider low low' high high' [] a b within = tt
  range_wider low low' high high' (e ∷ es) a b (here, under, within) =
      grind (arith, range_wider (key e + 1) (key e + 1) high high' es (omega arith) b within)

  range_append : (low middle high : ℕ) (es fs : List E) → low ≤ middle → middle ≤ high → InRange low middle es → InRange middle high fs →
      InRange low high (es ++ fs)
  range_append low middle high [] fs a b here more = range_wider middle low high high fs a (omega arith) more
  range_append low middle high (e ∷ es) fs a b (first, under, here) more =
      grind (arith, range_append (key e + 1) middle high es fs (omega arith) b here more)

  pub range_pairs : (low high : ℕ) (es : List E) → InRange low high es → AllPairs (λ a b. key a < key b) es
  range_pairs low high es within = rise_pairs key None es (range_rises None low high es (λ k h. tt) within)

-- what is made of the numbers of a range that pass a test
module _ {E : Type 0} (make : ℕ → E) (p : ℕ → Bool) where
  pub kept_range : (key : E → ℕ) (base : ℕ) → ((k : ℕ) → key (make k) ≡ base + k) → (low count : ℕ) →
      InRange key (base + low) (base + low + count) (map make (filter p (range_with_len low count)))
  kept_range key base is low zero = tt
  kept_range key base is low (suc count) = grind (arith, range_wider, kept_range key base is (low + 1) count)

  pub kept_all : (Q : E → Type 0) (low count : ℕ) → ((k : ℕ) → low ≤ k → k < low + count → p k ≡ true → Q (make k)) →
      AllByRecursion Q (map make (filter p (range_with_len low count)))
  kept_all Q low zero holds = tt
  kept_all Q low (suc count) holds = by (p low) refl (kept_all Q (low + 1) count (λ k a b e. holds k (omega arith) (omega arith) e))
    where
      by : (b : Bool) → p low ≡ b → AllByRecursion Q (map make (filter p (range_with_len (low + 1) count))) →
          AllByRecursion Q (map make (cond b (low ∷ filter p (range_with_len (low + 1) count)) (filter p (range_with_len (low + 1) count))))
      by true e rest = (holds low (omega arith) (omega arith) e, rest)
      by false e rest = rest

kept_few : (p : ℕ → Bool) (low count : ℕ) → length (filter p (range_with_len low count)) ≤ count
kept_few p low zero = omega arith
kept_few p low (suc count) = grind (arith, kept_few p (low + 1) count)

-- pairs that are listed by their first variable and then by their second one rise
pairs_of : (ℕ → ℕ → Bool) → ℕ → List ℕ → List Pair
pairs_of has n xs = flat_map (λ a. map (λ b. (a, b)) (filter (has a) (range_with_len 0 n))) xs

pairs_rise : (has : ℕ → ℕ → Bool) (n low count : ℕ) → n ≤ 16 → InRange pair_key (low * 16) ((low + count) * 16) (pairs_of has n (range_with_len low count))
unfolding pairs_of
pairs_rise has n low zero few = tt
pairs_rise has n low (suc count) few =
    range_append pair_key (low * 16) ((low + 1) * 16) ((low + suc count) * 16) (map (λ b. (low, b)) (filter (has low) (range_with_len 0 n)))
    (pairs_of has n (range_with_len (low + 1) count))
    (omega arith) (omega arith)
    (range_wider pair_key (low * 16 + 0) (low * 16) (low * 16 + 0 + n) ((low + 1) * 16)
    (map (λ b. (low, b)) (filter (has low) (range_with_len 0 n))) (omega arith) (omega arith)
    (kept_range (λ (b : ℕ). (low, b)) (has low) pair_key (low * 16) (λ k. refl) 0 n))
    (range_wider pair_key ((low + 1) * 16) ((low + 1) * 16) ((low + 1 + count) * 16) ((low + suc count) * 16)
    (pairs_of has n (range_with_len (low + 1) count)) (omega arith) (omega arith) (pairs_rise has n (low + 1) count few))

-- no element is above a sum
each_within : (xs : List ℕ) (most : ℕ) → sum xs ≤ most → AllByRecursion (λ x. x ≤ most) xs
each_within [] most small = tt
each_within (x ∷ xs) most small =
    let parts : sum (x ∷ xs) ≡ x + sum xs = sum_by-cons (λ k. k) x xs in
    (omega arith, each_within xs most (omega arith))

at_most_15 : (n : ℕ) (xs : List ℕ) → n ≤ 16 → Below n xs → AllByRecursion (λ x. x ≤ 15) xs
at_most_15 n [] few below = tt
at_most_15 n (x ∷ xs) few (here, below) = (omega arith, at_most_15 n xs few below)

module _ (n : ℕ) (F : List Function) (P : List Pair) (order : List ℕ) (some : 1 ≤ n) (few : n ≤ 16) (outputs : 1 ≤ length F) (few_outputs : length F ≤ 16)
    (is_order : IsOrder n order) (below : AreBelow n P) (most : length P ≤ 240) (sorted : sorted_pairs n P ≡ P) where
  total : ℕ
  total = size_under n F order

  small : size_under n F order ≤ most_nodes
  small = let s = size_bound n F order few few_outputs is_order in omega arith

  levels : AllByRecursion (λ count. count ≤ most_nodes) (level_counts n F order)
  unfolding size_under
  levels = each_within (level_counts n F order) most_nodes small

  levels_long : length (level_counts n F order) ≡ n
  unfolding level_counts
  levels_long = length-map-range_with_len (level_count n F order) 0 (length order) ∙ order_length n order is_order

  rising : AllPairs (λ (p q : Pair). pair_key p < pair_key q) (sorted_pairs n P)
  unfolding sorted_pairs pairs_of
  rising = range_pairs pair_key (0 * 16) ((0 + n) * 16) (sorted_pairs n P) (pairs_rise (has_pair P) n 0 n few)

  cells : List Cell
  cells = map (least_listed n F P) (listed_masks n F P (size_under n F order))

  listed : AllByRecursion (IsCell n) (map (least_listed n F P) (listed_masks n F P (size_under n F order)))
  unfolding listed_masks least_listed
  listed = kept_all (least_listed n F P)
      (λ mask. is_lawful P (members n mask)
      && nat_lt (least n F P (members n mask) + essentials_outside n F (members n mask)) (size_under n F order))
      (IsCell n) 0 (2 ^ n - 1) one
    where
      one : (k : ℕ) → 0 ≤ k → k < 0 + (2 ^ n - 1) →
          (is_lawful P (members n k)
          && nat_lt (least n F P (members n k) + essentials_outside n F (members n k)) (size_under n F order)) ≡ true →
          IsCell n (least_listed n F P k)
      one k a b e = grind (arith, small)

  cells_rise : AllPairs (λ (a b : Cell). a.mask < b.mask) (map (least_listed n F P) (listed_masks n F P (size_under n F order)))
  unfolding listed_masks least_listed
  cells_rise = range_pairs (λ (c : Cell). c.mask) (0 + 0) (0 + 0 + (2 ^ n - 1)) (map (least_listed n F P) (listed_masks n F P (size_under n F order)))
      (kept_range (least_listed n F P)
      (λ mask. is_lawful P (members n mask)
      && nat_lt (least n F P (members n mask) + essentials_outside n F (members n mask)) (size_under n F order))
      (λ (c : Cell). c.mask) 0 (λ k. omega arith) 0 (2 ^ n - 1))

  cells_few : length (map (least_listed n F P) (listed_masks n F P (size_under n F order))) ≤ 2 ^ n - 1
  unfolding listed_masks
  cells_few = search (kept_few, length-map)

  pub tool_spelled : HasSpelling (certificate_of n F P order)
  unfolding certificate_of
  tool_spelled = record {
    format = inr refl;
    inputs = (some, few);
    outputs = (outputs, few_outputs);
    order = (order_length n order is_order, All-from_recursion _ order (at_most_15 n order few (below_from_has n order (λ y h. (is_order.all y).0 h))));
    levels = (levels_long, All-from_recursion _ (level_counts n F order) levels);
    total = small;
    pair_count = rw sorted most;
    pairs = rw sorted below;
    pairs_rise = rising;
    cell_count = cells_few;
    cells = All-from_recursion _ _ listed;
    cells_rise = cells_rise;
  }
