-- How many nodes an order of at most 16 variables may have, for at most 16 functions.
--     order_length      an order has as many variables as there are
--     level_bound      level i has at most 16 * 2 ^ i nodes
--     last_bound      the last level has at most 4
--     size_bound      all levels together have at most 524,276
use Rattle.std.proofs.Common.{◌≡◌, ◌≢◌, ℕ, zero, suc, ◌+◌, ◌*◌, ◌^◌, ◌<◌, ◌≤◌, ◌||◌, inl, inr, Bool, true, false, cond, List, [], ◌∷◌, ◌++◌, map, take, length, length-append, slice_index, replicate, refl, sym, ap, ◌∙◌, subst, arith, pow_mono, ne_eqb, zero-add}
use Rattle.std.specs.List.{filter, flat_map, range_with_len, sum}
use Rattle.std.proofs.Math.Nat.{mul-suc}
use Rattle.std.proofs.Math.Seq.{take-length}
use Rattle.std.proofs.lemmas.List.{get_or-replicate, length-map, take_more}
use Rattle.std.proofs.lemmas.List.FromFn.{length-range_with_len, map-range_with_len_more}
use Rattle.std.proofs.lemmas.List.Sums.{sum_by-append}
use Rattle.std.proofs.lemmas.Cmp.{nat_eq_equiv}
use Rattle.std.proofs.lemmas.Map.Made.{length-from_same_keys}
use Rattle.definitions.specs.Functions.{Point, Function, bit, restrict, SameFunction, table, depends, same_table}
use Rattle.definitions.specs.Orders.{has, variables, IsOrder}
use Rattle.definitions.specs.Levels.{subfunctions, reach, dependents, level_count, level_counts, size_under}
use Rattle.definitions.proofs.Lists.Sets.{Among, count_le, among_from_map, among_from_filter, among_from_flat_map}
use Rattle.definitions.proofs.Functions.Tables.{table_same, same_table_decides}
use Rattle.definitions.proofs.Lists.Orders.{has_append}
use Rattle.definitions.proofs.Widths.Fewest.{arrangement_from_order}
use Rattle.definitions.proofs.Widths.Recurrence.{distinct_variables}
use Rattle.definitions.proofs.Functions.Exchange.{mix, mix_is, bit-mix, length-mix, Below, below_from_has, subfunctions_fix}

-- how many variables an order has
pub order_length : (n : ℕ) (order : List ℕ) → IsOrder n order → length order ≡ n
order_length n order o =
    let a = arrangement_from_order n order o in
    length-from_same_keys nat_eq_equiv order (variables n) a.once (distinct_variables n) a.members ∙ length-range_with_len 0 n

pub length-subfunctions : (xs : List ℕ) (f : Function) → length (subfunctions xs f) ≡ 2 ^ length xs
unfolding subfunctions
length-subfunctions [] f = refl
length-subfunctions (x ∷ xs) f =
    grind (arith, length-append, length-subfunctions xs (restrict x false f), length-subfunctions xs (restrict x true f))

length-reach : (F : List Function) (xs : List ℕ) → length (reach F xs) ≡ 2 ^ length xs * length F
unfolding reach
length-reach F xs = go F
  where
    go : (fs : List Function) → length (flat_map (subfunctions xs) fs) ≡ 2 ^ length xs * length fs
    go [] = omega arith
    go (f ∷ fs) =
        let m = mul-suc (2 ^ length xs) (length fs) in
        length-append (subfunctions xs f) (flat_map (subfunctions xs) fs) ∙ omega (arith, go fs, length-subfunctions xs f)

length_filter : (p : Function → Bool) (fs : List Function) → length (filter p fs) ≤ length fs
length_filter p [] = omega arith
length_filter p (f ∷ fs) = grind (arith, length_filter p fs)

length_take : (i : ℕ) (xs : List ℕ) → length (take i xs) ≤ i
length_take zero xs = omega arith
length_take (suc i) [] = omega arith
length_take (suc i) (x ∷ xs) = omega (arith, length_take i xs)

-- level i has at most as many nodes as there are ways to fix i variables of each function
pub level_bound : (n : ℕ) (F : List Function) (order : List ℕ) (i : ℕ) → length F ≤ 16 → level_count n F order i ≤ 16 * 2 ^ i
unfolding level_count dependents
level_bound n F order i few =
    let x = slice_index order i in
    let fs = reach F (take i order) in
    let a = count_le same_table same_table_decides (map (table n) (filter (λ f. depends n f x) fs))
    (map (table n) (filter (λ f. depends n f x) fs)) (λ t m. m) in
    grind (arith, length-reach, pow_mono, length_take, length-map, length_filter)

-- the function of one variable with two values
abbrev by_values : ℕ → Bool → Bool → Function
by_values x low high p = cond (bit p x) high low

-- all functions of one variable
abbrev of_one : ℕ → List Function
of_one x = by_values x false false ∷ by_values x false true ∷ by_values x true false ∷ by_values x true true ∷ []

-- where all variables but one are restricted, a function of that one is left
module _ (n : ℕ) (xs : List ℕ) (x : ℕ) (below : Below n xs) (others : (y : ℕ) → y < n → y ≢ x → has xs y ≡ true) (f g : Function)
    (h : Among g (subfunctions xs f)) where
  abbrev fixing : Point
  fixing = (subfunctions_fix n xs below f g h).0

  abbrev value_at : Bool → Bool
  value_at b = f (mix n xs fixing (replicate n b))

  mixed : (p : Point) → mix n xs fixing p ≡ mix n xs fixing (replicate n (bit p x))
  mixed p = mix_is n xs fixing (replicate n (bit p x)) (mix n xs fixing p) (length-mix n xs fixing p) at
    where
      at : (y : ℕ) → y < n → bit (mix n xs fixing p) y ≡ cond (has xs y) (bit fixing y) (bit (replicate n (bit p x)) y)
      at y low = bit-mix n xs fixing p y low ∙ by (has xs y) refl
        where
          by : (b : Bool) → has xs y ≡ b → cond b (bit fixing y) (bit p y) ≡ cond b (bit fixing y) (bit (replicate n (bit p x)) y)
          by true e = refl
          by false e = grind (arith, get_or-replicate)

  one_left : SameFunction n g (by_values x (value_at false) (value_at true))
  unfolding SameFunction
  one_left p l = grind (arith, mixed)

among_of_one : (n x : ℕ) (low high : Bool) → Among (table n (by_values x low high)) (map (table n) (of_one x))
among_of_one n x false false = inl refl
among_of_one n x false true = inr (inl refl)
among_of_one n x true false = inr (inr (inl refl))
among_of_one n x true true = inr (inr (inr (inl refl)))

-- the last level has at most the functions of its one variable
pub last_bound : (n : ℕ) (F : List Function) (order : List ℕ) (m : ℕ) → IsOrder n order → length order ≡ m + 1 → level_count n F order m ≤ 4
unfolding level_count dependents reach
last_bound n F order m o long =
    count_le same_table same_table_decides (map (table n) (filter (λ f. depends n f x) (flat_map (subfunctions above) F))) (map (table n) (of_one x)) within
  where
    x : ℕ
    x = slice_index order m

    above : List ℕ
    above = take m order

    split : order ≡ above ++ x ∷ []
    split = sym (take-length order) ∙ ap (λ k. take k order) long ∙ take_more order m 0 (omega arith)

    has_split : (y : ℕ) → has order y ≡ (has above y || has (x ∷ []) y)
    has_split y = ap (λ ys. has ys y) split ∙ has_append above (x ∷ []) y

    below : Below n above
    below = below_from_has n above (λ y h. (o.all y).0 (has_split y ∙ ap (λ b. b || has (x ∷ []) y) h))

    others : (y : ℕ) → y < n → y ≢ x → has above y ≡ true
    others y low other = by (has above y) (sym (ap (λ b. has above y || (b || false)) (ne_eqb y x other)) ∙ sym (has_split y) ∙ (o.all y).1 low)
      where
        by : (b : Bool) → (b || (false || false)) ≡ true → b ≡ true
        by true e = refl
        by false e = e

    within : (t : List Bool) → Among t (map (table n) (filter (λ f. depends n f x) (flat_map (subfunctions above) F))) → Among t (map (table n) (of_one x))
    within t m' =
        let from = among_from_map (table n) t (filter (λ f. depends n f x) (flat_map (subfunctions above) F)) m' in
        let g = from.0 in
        let kept = among_from_filter (λ f. depends n f x) g (flat_map (subfunctions above) F) from.1 in
        let origin = among_from_flat_map (subfunctions above) g F kept.0 in
        subst (λ u. Among u (map (table n) (of_one x)))
        (sym (from.2
        ∙ table_same n g
        (by_values x (value_at n above x below others origin.0 g origin.2 false)
        (value_at n above x below others origin.0 g origin.2 true)) (one_left n above x below others origin.0 g origin.2)))
        (among_of_one n x (value_at n above x below others origin.0 g origin.2 false) (value_at n above x below others origin.0 g origin.2 true))

-- one level more
pub one_more : (f : ℕ → ℕ) (m : ℕ) → sum (map f (range_with_len 0 (suc m))) ≡ sum (map f (range_with_len 0 m)) + f m
one_more f m =
    let longer = ap (λ k. sum (map f (range_with_len 0 k))) (suc_add m) in
    let all = ap sum (map-range_with_len_more f 0 m m (zero-add m)) in
    grind (arith, sum_by-append)
  where
    suc_add : (k : ℕ) → suc k ≡ k + 1
    suc_add k = omega arith

-- counts that at most double from level to level
pub geometric : (f : ℕ → ℕ) (m : ℕ) → ((i : ℕ) → f i ≤ 16 * 2 ^ i) → sum (map f (range_with_len 0 m)) + 16 ≤ 16 * 2 ^ m
geometric f zero small = omega arith
geometric f (suc m) small = omega (arith, one_more f m, geometric f m small)

-- an order of at most 16 variables has at most 524,276 nodes
pub size_bound : (n : ℕ) (F : List Function) (order : List ℕ) → n ≤ 16 → length F ≤ 16 → IsOrder n order → size_under n F order ≤ 524276
unfolding size_under level_counts
size_bound n F order inputs outputs o = by (length order) refl
  where
    few : length order ≤ 16
    few = let l = order_length n order o in omega arith

    by : (k : ℕ) → length order ≡ k → sum (map (level_count n F order) (range_with_len 0 (length order))) ≤ 524276
    by zero long = omega (arith, ap (λ k. sum (map (level_count n F order) (range_with_len 0 k))) long)
    by (suc m) long =
        let more = one_more (level_count n F order) m in
        let before = geometric (level_count n F order) m (λ i. level_bound n F order i outputs) in
        let last = last_bound n F order m o (long ∙ omega arith) in
        let p : 2 ^ m ≤ 2 ^ 15 = pow_mono {j = 15} (omega (arith, few)) in
        omega (arith, ap (λ k. sum (map (level_count n F order) (range_with_len 0 k))) long)
