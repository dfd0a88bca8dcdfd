-- The last two levels of an order, and a closer bound on its size.
--     second_bound      the second last level has at most 16 nodes, the functions of its two variables
--     close_size_bound      all levels of at most 16 variables together have at most 262,148
use Rattle.std.proofs.Common.{◌≡◌, ◌≢◌, ℕ, zero, suc, ◌+◌, ◌^◌, ◌<◌, ◌≤◌, ◌||◌, nat_eq, inl, inr, Bool, true, false, cond, List, [], ◌∷◌, ◌++◌, map, take, length, set, slice_index, replicate, refl, sym, ap, ◌∙◌, subst, arith, pow_mono}
use Rattle.std.specs.List.{filter, flat_map, range_with_len, sum}
use Rattle.std.proofs.Math.Seq.{take-length}
use Rattle.std.proofs.lemmas.Bool.{cases_eq, ne_eqb, true≢false}
use Rattle.std.proofs.lemmas.List.{get_or-replicate, length-replicate, get_or-set_same, get_or-set_other, take_more, append_assoc}
use Rattle.definitions.specs.Functions.{Point, Function, bit, SameFunction, table, depends, same_table}
use Rattle.definitions.specs.Orders.{has, IsOrder}
use Rattle.definitions.specs.Levels.{subfunctions, reach, dependents, level_count, level_counts, size_under}
use Rattle.definitions.proofs.Lists.Sets.{Among, count_le, among_map, among_flat_map, among_from_map, among_from_filter, among_from_flat_map}
use Rattle.definitions.proofs.Functions.Tables.{table_same, same_table_decides}
use Rattle.definitions.proofs.Lists.Orders.{has_append, has_at}
use Rattle.definitions.proofs.Functions.Exchange.{mix, mix_is, bit-mix, length-mix, Below, below_from_has, subfunctions_fix}
use Rattle.definitions.proofs.Widths.SizeBounds.{order_length, level_bound, last_bound, one_more, geometric}

-- the function of x and y with four values
abbrev by_four : ℕ → ℕ → Bool → Bool → Bool → Bool → Function
by_four x y a b c d p = cond (bit p x) (cond (bit p y) d c) (cond (bit p y) b a)

bools : List Bool
bools = false ∷ true ∷ []

of_two : ℕ → ℕ → List Function
of_two x y = flat_map (λ a. flat_map (λ b. flat_map (λ c. map (λ d. by_four x y a b c d) bools) bools) bools) bools

length-of_two : (x y : ℕ) → length (of_two x y) ≡ 16
unfolding of_two bools
length-of_two x y = refl

among_bools : (b : Bool) → Among b bools
unfolding bools
among_bools false = inl refl
among_bools true = inr (inl refl)

among_of_two : (x y : ℕ) (a b c d : Bool) → Among (by_four x y a b c d) (of_two x y)
unfolding of_two
among_of_two x y a b c d =
    among_flat_map (λ a. flat_map (λ b. flat_map (λ c. map (λ d. by_four x y a b c d) bools) bools) bools) a bools (by_four x y a b c d) (among_bools a)
    (among_flat_map (λ b. flat_map (λ c. map (λ d. by_four x y a b c d) bools) bools) b bools (by_four x y a b c d) (among_bools b)
    (among_flat_map (λ c. map (λ d. by_four x y a b c d) bools) c bools (by_four x y a b c d) (among_bools c)
    (among_map (λ d. by_four x y a b c d) d bools (among_bools d))))

-- where all variables but two are restricted, a function of those two is left
module _ (n : ℕ) (xs : List ℕ) (x y : ℕ) (low : x < n) (below : Below n xs) (others : (z : ℕ) → z < n → z ≢ x → z ≢ y → has xs z ≡ true)
    (f g : Function) (h : Among g (subfunctions xs f)) where
  abbrev fixing : Point
  fixing = (subfunctions_fix n xs below f g h).0

  abbrev point : Bool → Bool → Point
  point b c = set (replicate n c) x b

  abbrev value_at : Bool → Bool → Bool
  value_at b c = f (mix n xs fixing (point b c))

  mixed : (p : Point) → mix n xs fixing p ≡ mix n xs fixing (point (bit p x) (bit p y))
  mixed p = mix_is n xs fixing (point (bit p x) (bit p y)) (mix n xs fixing p) (length-mix n xs fixing p) at
    where
      free : (z : ℕ) → z < n → has xs z ≡ false → bit p z ≡ bit (point (bit p x) (bit p y)) z
      free z lt e =
          elim (cases_eq z x) [
            | inl s ↦
                ap (bit p) s
                ∙ sym (ap (bit (point (bit p x) (bit p y))) s
                ∙ get_or-set_same (replicate n (bit p y)) x (bit p x) false (let l = length-replicate n (bit p y) in omega (arith, l, low)))
            | inr ne ↦
                elim (cases_eq z y) [
                  | inl s ↦ ap (bit p) s
                      ∙ sym (get_or-set_other (replicate n (bit p y)) x z (bit p x) false ne ∙ get_or-replicate n z (bit p y) false lt)
                  | inr nf ↦ absurd (true≢false (sym (others z lt ne nf) ∙ e))
                ]
          ]

      at : (z : ℕ) → z < n → bit (mix n xs fixing p) z ≡ cond (has xs z) (bit fixing z) (bit (point (bit p x) (bit p y)) z)
      at z lt = bit-mix n xs fixing p z lt ∙ by (has xs z) refl
        where
          by : (b : Bool) → has xs z ≡ b → cond b (bit fixing z) (bit p z) ≡ cond b (bit fixing z) (bit (point (bit p x) (bit p y)) z)
          by true e = refl
          by false e = free z lt e

  two_left : SameFunction n g (by_four x y (value_at false false) (value_at false true) (value_at true false) (value_at true true))
  unfolding SameFunction
  two_left p l = (subfunctions_fix n xs below f g h).2 p l ∙ ap f (mixed p) ∙ by (bit p x) (bit p y)
    where
      by : (b c : Bool) → value_at b c ≡ cond b (cond c (value_at true true) (value_at true false)) (cond c (value_at false true) (value_at false false))
      by true true = refl
      by true false = refl
      by false true = refl
      by false false = refl

-- the second last level has at most the functions of the two variables that are left
pub second_bound : (n : ℕ) (F : List Function) (order : List ℕ) (m : ℕ) → IsOrder n order → length order ≡ m + 2 → level_count n F order m ≤ 16
unfolding level_count dependents reach
second_bound n F order m o long =
    let le = count_le same_table same_table_decides (map (table n) (filter (λ f. depends n f x) (flat_map (subfunctions above) F)))
    (map (table n) (of_two x y)) within in
    omega (arith, le, length_mapped (of_two x y), length-of_two x y)
  where
    length_mapped : (fs : List Function) → length (map (table n) fs) ≡ length fs
    length_mapped [] = refl
    length_mapped (f ∷ fs) = ap suc (length_mapped fs)

    x : ℕ
    x = slice_index order m

    y : ℕ
    y = slice_index order (m + 1)

    above : List ℕ
    above = take m order

    split : order ≡ above ++ x ∷ y ∷ []
    split =
        let e : length order ≡ (m + 1) + 1 = omega (arith, long) in
        sym (take-length order) ∙ ap (λ k. take k order) e ∙ take_more order (m + 1) 0 (omega (arith, long))
        ∙ ap (λ xs. xs ++ y ∷ []) (take_more order m 0 (omega (arith, long))) ∙ append_assoc above (x ∷ []) (y ∷ [])

    has_split : (z : ℕ) → has order z ≡ (has above z || has (x ∷ y ∷ []) z)
    has_split z = ap (λ ys. has ys z) split ∙ has_append above (x ∷ y ∷ []) z

    below : Below n above
    below = below_from_has n above (λ z h. (o.all z).0 (has_split z ∙ ap (λ b. b || has (x ∷ y ∷ []) z) h))

    low : x < n
    low = (o.all x).0 (has_at order m (omega (arith, long)))

    others : (z : ℕ) → z < n → z ≢ x → z ≢ y → has above z ≡ true
    others z lt ne nf =
        by (has above z)
        (sym (ap (λ b. has above z || (b || (nat_eq z y || false))) (ne_eqb z x ne) ∙ ap (λ b. has above z || (false || (b || false))) (ne_eqb z y nf))
        ∙ sym (has_split z) ∙ (o.all z).1 lt)
      where
        by : (b : Bool) → (b || (false || (false || false))) ≡ true → b ≡ true
        by true e = refl
        by false e = e

    within : (t : List Bool) → Among t (map (table n) (filter (λ f. depends n f x) (flat_map (subfunctions above) F))) → Among t (map (table n) (of_two x y))
    within t m' =
        let from = among_from_map (table n) t (filter (λ f. depends n f x) (flat_map (subfunctions above) F)) m' in
        let g = from.0 in
        let kept = among_from_filter (λ f. depends n f x) g (flat_map (subfunctions above) F) from.1 in
        let origin = among_from_flat_map (subfunctions above) g F kept.0 in
        let value = value_at n above x y low below others origin.0 g origin.2 in
        subst (λ u. Among u (map (table n) (of_two x y)))
        (sym (from.2
        ∙ table_same n g (by_four x y (value false false) (value false true) (value true false) (value true true))
        (two_left n above x y low below others origin.0 g origin.2)))
        (among_map (table n) (by_four x y (value false false) (value false true) (value true false) (value true true)) (of_two x y)
        (among_of_two x y (value false false) (value false true) (value true false) (value true true)))

-- an order of at most 16 variables has at most 262,148 nodes
pub close_size_bound : (n : ℕ) (F : List Function) (order : List ℕ) → n ≤ 16 → length F ≤ 16 → IsOrder n order → size_under n F order ≤ 262148
unfolding size_under level_counts
close_size_bound n F order inputs outputs o = by (length order) refl
  where
    few : length order ≤ 16
    few = let l = order_length n order o in omega arith

    total : ℕ → ℕ
    total k = sum (map (level_count n F order) (range_with_len 0 k))

    by : (k : ℕ) → length order ≡ k → sum (map (level_count n F order) (range_with_len 0 (length order))) ≤ 262148
    by zero long = omega (arith, ap total long)
    by (suc zero) long =
        let last = last_bound n F order 0 o (long ∙ omega arith) in
        omega (arith, ap total long, one_more (level_count n F order) 0, geometric (level_count n F order) 0 (λ i. level_bound n F order i outputs), last)
    by (suc (suc m)) long =
        let more = one_more (level_count n F order) (suc m) in
        let again = one_more (level_count n F order) m in
        let before = geometric (level_count n F order) m (λ i. level_bound n F order i outputs) in
        let last = last_bound n F order (suc m) o (long ∙ omega arith) in
        let second = second_bound n F order m o (long ∙ omega arith) in
        let p : 2 ^ m ≤ 2 ^ 14 = pow_mono {j = 14} (omega (arith, few)) in
        omega (arith, ap total long, more, again, before, last, second, p)
