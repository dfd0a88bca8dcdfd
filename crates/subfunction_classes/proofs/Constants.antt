-- The functions got by fixing all variables: constants, in the order of the points' numbers.
--     fixed k j f      f with the variables below k fixed by the bits of j
--     subfunctions_fixed      all of them, rising
--     fixed_value      with all variables fixed it has f's value at the point with the number
use Rattle.std.proofs.Common.{◌≡◌, ℕ, zero, suc, ◌+◌, ◌*◌, ◌^◌, ◌<◌, ◌≤◌, Bool, true, false, not, inl, inr, List, [], ◌∷◌, ◌++◌, map, length, reverse, get_or, set, get_or-set_same, get_or-set_other, refl, sym, ap, ap₂, ◌∙◌, subst, arith, eqb}
use Rattle.std.specs.Int.{bit_at}
use Rattle.std.specs.List.{filter, range_with_len, flat_map}
use Rattle.std.proofs.Math.Nat.{two-pow-succ}
use Rattle.std.proofs.lemmas.Bool.{cases_eq}
use Rattle.std.proofs.lemmas.List.{length-set, map-append, reverse-append}
use Rattle.std.proofs.lemmas.List.FromFn.{fill_by_all, length-map-range_with_len}
use Rattle.std.proofs.lemmas.Nat.Bits.{bit_at_above, bit_at_cat_low, bit_at_cat_high}
use Rattle.definitions.specs.Functions.{Point, Function, point_of, restrict, SameFunction, table}
use Rattle.definitions.specs.Orders.{has, variables}
use Rattle.definitions.specs.Levels.{subfunctions, reach}
use Rattle.definitions.specs.Widths.{outside}
use Rattle.definitions.proofs.Lists.Sets.{Among, among_from_flat_map, among_from_map}
use Rattle.definitions.proofs.Functions.Tables.{table_same, same_from_table}
use Rattle.definitions.proofs.Lists.Maps.{flat_map_same}
use Rattle.subfunction_classes.proofs.Lists.{map_flat_map, map_ranges}
use mathlib.Core.List.{map-map}
use Rattle.definitions.proofs.Lists.Ranges.{range_append}

-- f with the variables below k fixed by the bits of j
fixed : ℕ → ℕ → Function → Function
fixed zero j f = f
fixed (suc k) j f = fixed k j (restrict k (eqb (bit_at j k) 1) f)

fixed_same : (k i j : ℕ) → ((x : ℕ) → x < k → bit_at i x ≡ bit_at j x) → (f : Function) → fixed k i f ≡ fixed k j f
unfolding fixed
fixed_same zero i j h f = refl
fixed_same (suc k) i j h f =
    ap (λ b. fixed k i (restrict k (eqb b 1) f)) (h k (omega arith)) ∙ fixed_same k i j (λ x lt. h x (omega arith)) (restrict k (eqb (bit_at j k) 1) f)

range_last : (k : ℕ) → variables (suc k) ≡ variables k ++ k ∷ []
range_last k = grind (arith, range_append)

subfunctions_fixed : (k : ℕ) (f : Function) → subfunctions (reverse (variables k)) f ≡ map (λ j. fixed k j f) (range_with_len 0 (2 ^ k))
unfolding subfunctions fixed
subfunctions_fixed zero f = refl
subfunctions_fixed (suc k) f =
    ap (λ xs. subfunctions (reverse xs) f) (range_last k) ∙ ap (λ xs. subfunctions xs f) (reverse-append (variables k) (k ∷ []))
    ∙ ap₂ (λ us vs. us ++ vs) (subfunctions_fixed k (restrict k false f)) (subfunctions_fixed k (restrict k true f))
    ∙ ap₂ (λ us vs. us ++ vs)
    (map_ranges (λ j. fixed k j (restrict k false f)) (λ j. fixed (suc k) j f) (2 ^ k) 0 0 (λ i lt. low (0 + i) (omega arith)))
    (map_ranges (λ j. fixed k j (restrict k true f)) (λ j. fixed (suc k) j f) (2 ^ k) 0 (0 + 2 ^ k) (λ i lt. high i lt))
    ∙ sym (map-append (λ j. fixed (suc k) j f) (range_with_len 0 (2 ^ k)) (range_with_len (0 + 2 ^ k) (2 ^ k)))
    ∙ ap (map (λ j. fixed (suc k) j f)) (sym (range_append 0 (2 ^ k) (2 ^ k)) ∙ ap (range_with_len 0) (sym (two-pow-succ k)))
  where
    low : (j : ℕ) → j < 2 ^ k → fixed k j (restrict k false f) ≡ fixed k j (restrict k (eqb (bit_at j k) 1) f)
    low j lt = ap (λ b. fixed k j (restrict k (eqb b 1) f)) (sym (bit_at_above j k k lt (omega arith)))

    high : (i : ℕ) → i < 2 ^ k → fixed k (0 + i) (restrict k true f) ≡ fixed k (0 + 2 ^ k + i) (restrict k (eqb (bit_at (0 + 2 ^ k + i) k) 1) f)
    high i lt =
        let shape : 0 + 2 ^ k + i ≡ 1 * 2 ^ k + i = omega arith in
        grind (arith, bit_at_cat_high, fixed_same, bit_at_cat_low)

-- ---- values

-- p with the values of the variables below k taken from the bits of j
put : ℕ → ℕ → Point → Point
put zero j p = p
put (suc k) j p = set (put k j p) k (eqb (bit_at j k) 1)

fixed-put : (k j : ℕ) (f : Function) (p : Point) → fixed k j f p ≡ f (put k j p)
unfolding fixed put restrict
fixed-put zero j f p = refl
fixed-put (suc k) j f p = fixed-put k j (restrict k (eqb (bit_at j k) 1) f) p

length-put : (k j : ℕ) (p : Point) → length (put k j p) ≡ length p
unfolding put
length-put zero j p = refl
length-put (suc k) j p = length-set (put k j p) k (eqb (bit_at j k) 1) ∙ length-put k j p

bit-put : (k j : ℕ) (p : Point) → k ≤ length p → (x : ℕ) → x < k → get_or (put k j p) x false ≡ eqb (bit_at j x) 1
unfolding put
bit-put zero j p h x lt = absurd (omega arith)
bit-put (suc k) j p h x lt = elim (cases_eq x k) [
  | inl e ↦ grind (arith, get_or-set_same, length-put)
  | inr ne ↦ search (get_or-set_other, bit-put k j p (omega arith) x (omega arith))
]

put_all : (n j : ℕ) (p : Point) → length p ≡ n → put n j p ≡ point_of n j
unfolding point_of
put_all n j p l = fill_by_all (λ x. eqb (bit_at j x) 1) (put n j p) n false (length-put n j p ∙ l) (λ x lt. bit-put n j p (omega arith) x lt)

fixed_value : (n j : ℕ) (f : Function) (p : Point) → length p ≡ n → fixed n j f p ≡ f (point_of n j)
fixed_value n j f p l = fixed-put n j f p ∙ ap f (put_all n j p l)

-- ---- what is reached by fixing all variables

-- some point, the one with the number 0
abbrev pub value_of : ℕ → Function → Bool
value_of n g = g (point_of n 0)

long_point : (n j : ℕ) → length (point_of n j) ≡ n
unfolding point_of
long_point n j = length-map-range_with_len (λ x. eqb (bit_at j x) 1) 0 n

unfoldable pub all_values : ℕ → List Function → List Bool
all_values n F = flat_map (λ f. map (λ j. f (point_of n j)) (range_with_len 0 (2 ^ n))) F

pub values_reached : (n : ℕ) (F : List Function) → map (value_of n) (reach F (reverse (variables n))) ≡ all_values n F
unfolding reach all_values
values_reached n F =
    map_flat_map (value_of n) (subfunctions (reverse (variables n))) F
    ∙ flat_map_same (λ f. map (value_of n) (subfunctions (reverse (variables n)) f)) (λ f. map (λ j. f (point_of n j)) (range_with_len 0 (2 ^ n)))
    (λ f. ap (map (value_of n)) (subfunctions_fixed n f) ∙ map-map (value_of n) (λ j. fixed n j f) (range_with_len 0 (2 ^ n))
    ∙ map_ranges (λ j. value_of n (fixed n j f)) (λ j. f (point_of n j)) (2 ^ n) 0 0
    (λ i lt. fixed_value n (0 + i) f (point_of n 0) (long_point n 0))) F

pub reached_constant : (n : ℕ) (F : List Function) (g : Function) → Among g (reach F (reverse (variables n))) → (p : Point) → length p ≡ n → g p ≡ value_of n g
unfolding reach
reached_constant n F g a p l =
    let s = among_from_flat_map (subfunctions (reverse (variables n))) g F a in
    let u = among_from_map (λ j. fixed n j s.0) g (range_with_len 0 (2 ^ n)) (subst (Among g) (subfunctions_fixed n s.0) s.2) in
    ap (λ h. h p) u.2 ∙ fixed_value n u.0 s.0 p l ∙ sym (ap (λ h. h (point_of n 0)) u.2 ∙ fixed_value n u.0 s.0 (point_of n 0) (long_point n 0))

-- tables tell the same ones apart as values
pub tables_as_values : (n : ℕ) (F : List Function) (g h : Function) → Among g (reach F (reverse (variables n))) → Among h (reach F (reverse (variables n))) →
    (table n g ≡ table n h → value_of n g ≡ value_of n h) × (value_of n g ≡ value_of n h → table n g ≡ table n h)
unfolding SameFunction
tables_as_values n F g h a b = (
  λ e. same_from_table n g h e (point_of n 0) (long_point n 0),
  λ e. table_same n g h (λ p l. reached_constant n F g a p l ∙ e ∙ sym (reached_constant n F h b p l)),
)

-- over the empty set all variables are fixed
pub outside_none : (n : ℕ) → outside n [] ≡ variables n
unfolding outside
outside_none n = all (variables n)
  where
    all : (xs : List ℕ) → filter (λ y. not (has [] y)) xs ≡ xs
    all [] = refl
    all (x ∷ xs) = ap (λ ys. x ∷ ys) (all xs)
