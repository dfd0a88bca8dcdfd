-- Points and their numbers.
use Rattle.std.proofs.Common.{◌≡◌, ℕ, zero, suc, ◌+◌, ◌*◌, ◌^◌, Bool, false, List, [], ◌∷◌, map, length, get_or, refl, sym, ap, ◌∙◌, arith}
use Rattle.std.specs.List.{flat_map, range_with_len}
use Rattle.std.proofs.lemmas.List.{length-map}
use Rattle.std.proofs.lemmas.List.FromFn.{length-range_with_len, fill_by_all}
use Rattle.definitions.specs.Functions.{Point, both_values, points, number, table, from_table}
use mathlib.Core.List.{map-map}

numbers_from : (ps : List Point) (a : ℕ) → map number ps ≡ range_with_len a (length ps) →
    map number (flat_map both_values ps) ≡ range_with_len (2 * a) (2 * length ps)
unfolding number
numbers_from [] a h = refl
numbers_from (p ∷ ps) a h =
    let here : number p ≡ a = cc in
    let rest = numbers_from ps (a + 1) cc in
    let e : 2 * suc (length ps) ≡ suc (suc (2 * length ps)) = omega arith in
    grind arith

module _ (n : ℕ) (h : map number (points n) ≡ range_with_len 0 (2 ^ n)) where
  count_points : length (points n) ≡ 2 ^ n
  count_points = sym (length-map (points n) number) ∙ ap length h ∙ length-range_with_len 0 (2 ^ n)

  next_numbers : map number (flat_map both_values (points n)) ≡ range_with_len 0 (2 ^ suc n)
  next_numbers =
      let c = count_points in
      let e : 2 * length (points n) ≡ 2 ^ suc n = omega arith in
      numbers_from (points n) 0 (h ∙ ap (range_with_len 0) (sym c)) ∙ ap (range_with_len 0) e

-- the points are listed in the order of their numbers
pub numbers_rise : (n : ℕ) → map number (points n) ≡ range_with_len 0 (2 ^ n)
unfolding points number
numbers_rise zero = refl
numbers_rise (suc n) = next_numbers n (numbers_rise n)

pub point_count : (n : ℕ) → length (points n) ≡ 2 ^ n
point_count n = count_points n (numbers_rise n)

-- a table of 2 ^ n entries is the truth table of its function
pub table-from_table : (n : ℕ) (t : List Bool) → length t ≡ 2 ^ n → table n (from_table t) ≡ t
unfolding table from_table
table-from_table n t l =
    sym (map-map (λ k. get_or t k false) number (points n)) ∙ ap (map (λ k. get_or t k false)) (numbers_rise n)
    ∙ sym (fill_by_all (λ k. get_or t k false) t (2 ^ n) false l (λ k h. refl))
