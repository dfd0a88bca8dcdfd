-- How many orders have fewer nodes than a number.
--     below_small      they are few
--     below_counted      the entries up to the number add up to them
use Rattle.std.proofs.Common.{◌≡◌, ℕ, zero, suc, ◌+◌, ◌-◌, ◌^◌, ◌<◌, ◌≤◌, cond, inl, inr, List, [], ◌∷◌, length, get_or, nat_eq, nat_lt, sum, refl, sym, ap, ◌∙◌, eq-eqb, arith}
use Rattle.std.specs.List.{sum_by, count_by, range_with_len}
use Rattle.std.proofs.lemmas.Bool.{cases_eq, cases_lt, le-ltb, lt-ltb, ne_eqb}
use Rattle.std.proofs.lemmas.List.{get_or_past}
use Rattle.std.proofs.lemmas.List.FromFn.{length-range_with_len}
use Rattle.std.proofs.lemmas.List.Sums.{count_by-le-length, sum_by-append, sum_by-cons}
use Rattle.definitions.specs.Functions.{Function}
use Rattle.definitions.specs.Orders.{IsOrder, variables}
use Rattle.definitions.specs.Pairs.{Keeps, Pair}
use Rattle.definitions.specs.Levels.{size_under}
use Rattle.definitions.specs.AllOrders.{all_orders, factorial, orders_of_size}
use Rattle.definitions.proofs.Lists.Ranges.{range_append}
use Rattle.definitions.proofs.Widths.Recurrence.{distinct_variables}
use Rattle.definitions.proofs.Widths.OrderSizes.{factorial_bound, lists_bound, orders_are_lists}
use Rattle.order_counts.specs.declared.cost_counts.CostCounts.{CostCounts}
use Rattle.order_counts.specs.Sizes.{AreSizesOfOrders, counts_at, orders_below}
use Rattle.order_counts.proofs.Counts.{raised_low}
use Rattle.order_counts.proofs.Entries.{at_entry}

-- ---- the numbers below a number are those below the one before it, and that one

split_one : (v s : ℕ) → cond (nat_lt v (s + 1)) 1 0 ≡ cond (nat_lt v s) 1 0 + cond (nat_eq v s) 1 0
split_one v s =
    elim (cases_lt v s) [
      | inl lt ↦
          let a : cond {A = ℕ} (nat_lt v (s + 1)) 1 0 ≡ 1 = ap (λ b. cond b 1 0) (lt-ltb v (s + 1) (omega arith)) in
          let b : cond {A = ℕ} (nat_lt v s) 1 0 ≡ 1 = ap (λ b. cond b 1 0) (lt-ltb v s lt) in
          let c : cond {A = ℕ} (nat_eq v s) 1 0 ≡ 0 = ap (λ b. cond b 1 0) (ne_eqb v s (λ e. absurd (omega arith))) in
          omega (arith, a, b, c)
      | inr ge ↦
          let b : cond {A = ℕ} (nat_lt v s) 1 0 ≡ 0 = ap (λ b. cond b 1 0) (le-ltb v s ge) in
          elim (cases_eq v s) [
            | inl e ↦
                let a : cond {A = ℕ} (nat_lt v (s + 1)) 1 0 ≡ 1 = ap (λ b. cond b 1 0) (lt-ltb v (s + 1) (omega (arith, e))) in
                let c : cond {A = ℕ} (nat_eq v s) 1 0 ≡ 1 = ap (λ b. cond b 1 0) (eq-eqb v s e) in
                omega (arith, a, b, c)
            | inr ne ↦
                let a : cond {A = ℕ} (nat_lt v (s + 1)) 1 0 ≡ 0 = ap (λ b. cond b 1 0) (le-ltb v (s + 1) (omega (arith, ne))) in
                let c : cond {A = ℕ} (nat_eq v s) 1 0 ≡ 0 = ap (λ b. cond b 1 0) (ne_eqb v s ne) in
                omega (arith, a, b, c)
          ]
    ]

split_all : {X : Type 0} (f : X → ℕ) (s : ℕ) (xs : List X) →
    count_by (λ x. nat_lt (f x) (s + 1)) xs ≡ count_by (λ x. nat_lt (f x) s) xs + count_by (λ x. nat_eq (f x) s) xs
split_all f s [] = refl
split_all f s (x ∷ xs) =
    omega (
      arith,
      sum_by-cons (λ y. cond (nat_lt (f y) (s + 1)) 1 0) x xs,
      sum_by-cons (λ y. cond (nat_lt (f y) s) 1 0) x xs,
      sum_by-cons (λ y. cond (nat_eq (f y) s) 1 0) x xs,
      split_one (f x) s,
      split_all f s xs,
    )

none_below_zero : {X : Type 0} (f : X → ℕ) (xs : List X) → count_by (λ x. nat_lt (f x) 0) xs ≡ 0
none_below_zero f [] = refl
none_below_zero f (x ∷ xs) =
    let a : cond {A = ℕ} (nat_lt (f x) 0) 1 0 ≡ 0 = ap (λ b. cond b 1 0) (le-ltb (f x) 0 (omega arith)) in
    omega (arith, sum_by-cons (λ y. cond (nat_lt (f y) 0) 1 0) x xs, a, none_below_zero f xs)

counted_below : {X : Type 0} (f : X → ℕ) (xs : List X) (s : ℕ) →
    count_by (λ x. nat_lt (f x) s) xs ≡ sum_by (λ c. count_by (λ x. nat_eq (f x) c) xs) (range_with_len 0 s)
counted_below f xs zero = none_below_zero f xs
counted_below f xs (suc s) =
    let g : ℕ → ℕ = λ c. count_by (λ x. nat_eq (f x) c) xs in
    let e : suc s ≡ s + 1 = omega arith in
    let more = sum_by-append g (range_with_len 0 s) (range_with_len (0 + s) 1) in
    let last = sum_by-cons g (0 + s) [] in
    let whole = ap (sum_by g) (range_append 0 s 1) in
    let at = ap g (let z : 0 + s ≡ s = omega arith in z) in
    let step : count_by (λ x. nat_lt (f x) (s + 1)) xs ≡ sum_by g (range_with_len 0 (s + 1)) =
    omega (arith, split_all f s xs, counted_below f xs s, more, last, whole, at) in
    ap (λ k. count_by (λ x. nat_lt (f x) k) xs) e ∙ step ∙ ap (λ k. sum_by g (range_with_len 0 k)) (sym e)

-- ---- entries

same_sum : (f g : ℕ → ℕ) (a k : ℕ) → ((c : ℕ) → a ≤ c → c < a + k → f c ≡ g c) →
    sum_by f (range_with_len a k) ≡ sum_by g (range_with_len a k)
same_sum f g a zero h = refl
same_sum f g a (suc k) h =
    omega (
      arith,
      sum_by-cons f a (range_with_len (a + 1) k),
      sum_by-cons g a (range_with_len (a + 1) k),
      h a (omega arith) (omega arith),
      same_sum f g (a + 1) k (λ c le lt. h c (omega arith) (omega (arith, lt))),
    )

no_sum : (f : ℕ → ℕ) (a k : ℕ) → ((c : ℕ) → a ≤ c → c < a + k → f c ≡ 0) → sum_by f (range_with_len a k) ≡ 0
no_sum f a zero h = refl
no_sum f a (suc k) h =
    omega (
      arith,
      sum_by-cons f a (range_with_len (a + 1) k),
      h a (omega arith) (omega arith),
      no_sum f (a + 1) k (λ c le lt. h c (omega arith) (omega (arith, lt))),
    )

-- the entries from a place on
listed : (xs : List ℕ) (a : ℕ) → sum_by (λ c. get_or xs (c - a) 0) (range_with_len a (length xs)) ≡ sum xs
listed [] a = refl
listed (x ∷ xs) a =
    let first : get_or (x ∷ xs) (a - a) 0 ≡ x = ap (λ k. get_or (x ∷ xs) k 0) (let z : a - a ≡ 0 = omega arith in z) in
    let step : (c : ℕ) → a + 1 ≤ c → c < a + 1 + length xs → get_or (x ∷ xs) (c - a) 0 ≡ get_or xs (c - (a + 1)) 0 =
    λ c le lt. ap (λ k. get_or (x ∷ xs) k 0) (let e : c - a ≡ suc (c - (a + 1)) = omega arith in e) in
    omega (
      arith,
      sum_by-cons (λ c. get_or (x ∷ xs) (c - a) 0) a (range_with_len (a + 1) (length xs)),
      first,
      same_sum (λ c. get_or (x ∷ xs) (c - a) 0) (λ c. get_or xs (c - (a + 1)) 0) (a + 1) (length xs) step,
      listed xs (a + 1),
      sum_by-cons (λ k. k) x xs,
    )

-- entries add up to the counts below any number after the last
entries_add_up : (s : CostCounts) (most : ℕ) → s.least + length s.orders.items ≤ most + 1 →
    sum_by (counts_at s) (range_with_len 0 (most + 1)) ≡ sum s.orders.items
entries_add_up s most within =
    let long = length s.orders.items in
    let rest = most + 1 - (s.least + long) in
    let f = counts_at s in
    let cut : most + 1 ≡ s.least + (long + rest) = omega (arith, within) in
    let one = ap (λ k. sum_by f (range_with_len 0 k)) cut ∙ ap (sum_by f) (range_append 0 s.least (long + rest))
    ∙ sum_by-append f (range_with_len 0 s.least) (range_with_len (0 + s.least) (long + rest)) in
    let start = ap (λ k. sum_by f (range_with_len k (long + rest))) (let z : 0 + s.least ≡ s.least = omega arith in z) in
    let two = ap (sum_by f) (range_append s.least long rest) ∙ sum_by-append f (range_with_len s.least long) (range_with_len (s.least + long) rest) in
    let before = no_sum f 0 s.least (λ c le lt. raised_low (λ i. get_or s.orders.items i 0) s.least c (omega (arith, lt))) in
    let after = no_sum f (s.least + long) rest
    (λ c le lt. at_entry s c (omega arith) ∙ get_or_past s.orders.items (c - s.least) 0 (omega (arith, le))) in
    let middle = same_sum f (λ c. get_or s.orders.items (c - s.least) 0) s.least long (λ c le lt. at_entry s c le) in
    omega (arith, one, start, two, before, after, middle, listed s.orders.items s.least)

module _ (n : ℕ) (F : List Function) (P : List Pair) where
  -- the entries up to a number add up to how many orders have fewer nodes than the next
  pub below_counted : (most : ℕ) (s : CostCounts) → AreSizesOfOrders n F P most s.least s.orders.items →
      sum s.orders.items ≡ orders_below n F P (most + 1)
  unfolding orders_below orders_of_size
  below_counted most s h =
      let sizes = same_sum (counts_at s) (orders_of_size n F P) 0 (most + 1) (λ c le lt. h.exact c (omega (arith, lt))) in
      sym (entries_add_up s most h.within) ∙ sizes ∙ sym (counted_below (size_under n F) (all_orders n P) (most + 1))

  pub none_below : orders_below n F P 0 ≡ 0
  unfolding orders_below
  none_below = none_below_zero (size_under n F) (all_orders n P)

  -- there are few orders
  pub below_small : (base : List ℕ) → IsOrder n base → Keeps P base → n ≤ 16 → (s : ℕ) → orders_below n F P s < 2 ^ 64
  unfolding orders_below
  below_small base o k few s =
      let all = ap length (orders_are_lists n P base o k) in
      let lists = lists_bound P (variables n) (distinct_variables n) in
      let number = factorial_bound n few in
      let long = ap factorial (length-range_with_len 0 n) in
      omega (arith, count_by-le-length (λ order. nat_lt (size_under n F order) s) (all_orders n P), all, lists, number, long)
