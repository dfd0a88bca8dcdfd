-- What the counts of orders by size say.
--     counts_add_up, sizes_add_up      the counts of all sizes add up to the number of orders, and each size times its count to the sum of the sizes
--     most_is_counted, none_above_most      some order has the greatest size, and none a greater one
--     fewest_is_counted, none_below_fewest      some order has the fewest nodes, and none fewer
--     no_ways_above, no_ways_below      no list of a set has a cost outside the set's least and greatest
use Rattle.std.proofs.Common.{◌≡◌, ◌≢◌, ℕ, zero, suc, ◌+◌, ◌*◌, ◌<◌, ◌≤◌, cond, inl, inr, List, [], ◌∷◌, map, length, refl, sym, ap, ◌∙◌, arith, nat_eq, eq-eqb}
use Rattle.std.specs.List.{sum_by, count_by, range_with_len}
use Rattle.std.proofs.lemmas.Bool.{cases_eq, ne_eqb}
use Rattle.std.proofs.lemmas.List.Sums.{sum_by-cons}
use Rattle.definitions.specs.Functions.{Function}
use Rattle.definitions.specs.Orders.{IsOrder, variables}
use Rattle.definitions.specs.Pairs.{Pair, Keeps}
use Rattle.definitions.specs.Levels.{size_under}
use Rattle.definitions.specs.Widths.{cost, least}
use Rattle.definitions.specs.AllOrders.{all_orders, orders_of_size, size_total, most_of, most, lawful_lists, ways, most_cost}
use Rattle.definitions.proofs.Lists.Sets.{Among, among_map, among_from_map}
use Rattle.definitions.proofs.Lists.Sums.{sum_among, sum_nothing, greatest_among, greatest_over, among_of_place, place_of_among}
use Rattle.definitions.proofs.Functions.Exchange.{size_is_cost}
use Rattle.definitions.proofs.Widths.Recurrence.{least_of_lem, least_is_least}
use Rattle.definitions.proofs.Widths.Fewest.{ground, all_lawful, order_from_lawful, lawful_from_order}
use Rattle.definitions.proofs.Widths.AllOrders.{orders_listed}

-- ---- numbers below a limit, each counted once

-- of the numbers from a on, just one is v, and it adds g v
one_place : (g : ℕ → ℕ) (v k a : ℕ) → a ≤ v → v < a + k → sum_by (λ s. g s * cond (nat_eq v s) 1 0) (range_with_len a k) ≡ g v
one_place g v zero a h lt = absurd (omega arith)
one_place g v (suc k) a h lt =
    sum_by-cons (λ s. g s * cond (nat_eq v s) 1 0) a (range_with_len (a + 1) k)
    ∙ elim (cases_eq v a) [
      | inl e ↦
          ap (λ b. g a * cond b 1 0 + sum_by (λ s. g s * cond (nat_eq v s) 1 0) (range_with_len (a + 1) k)) (eq-eqb v a e)
          ∙ ap (λ r. g a * 1 + r) (none_later v k (a + 1) (omega (arith, e)))
          ∙ (let s : g a ≡ g v = ap g (sym e) in omega (arith, s))
      | inr ne ↦
          ap (λ b. g a * cond b 1 0 + sum_by (λ s. g s * cond (nat_eq v s) 1 0) (range_with_len (a + 1) k)) (ne_eqb v a ne)
          ∙ ap (λ r. g a * 0 + r) (one_place g v k (a + 1) (omega (arith, ne, h)) (omega (arith, lt)))
          ∙ omega arith
    ]
  where
    none_later : (v k a : ℕ) → v < a → sum_by (λ s. g s * cond (nat_eq v s) 1 0) (range_with_len a k) ≡ 0
    none_later v zero a lt = refl
    none_later v (suc k) a lt =
        sum_by-cons (λ s. g s * cond (nat_eq v s) 1 0) a (range_with_len (a + 1) k)
        ∙ ap (λ b. g a * cond b 1 0 + sum_by (λ s. g s * cond (nat_eq v s) 1 0) (range_with_len (a + 1) k)) (ne_eqb v a (λ e. absurd (omega arith)))
        ∙ ap (λ r. g a * 0 + r) (none_later v k (a + 1) (omega arith)) ∙ omega arith

sum_both : {X : Type 0} (f g : X → ℕ) (xs : List X) → sum_by (λ x. f x + g x) xs ≡ sum_by f xs + sum_by g xs
sum_both f g [] = refl
sum_both f g (x ∷ xs) = omega (arith, sum_by-cons (λ y. f y + g y) x xs, sum_by-cons f x xs, sum_by-cons g x xs, sum_both f g xs)

-- the numbers below the limit, each weighed by how often it occurs
weighed : {X : Type 0} (g : ℕ → ℕ) (f : X → ℕ) (limit : ℕ) (xs : List X) → ((x : X) → Among x xs → f x < limit) →
    sum_by (λ s. g s * count_by (λ x. nat_eq (f x) s) xs) (range_with_len 0 limit) ≡ sum_by (λ x. g (f x)) xs
weighed g f limit [] h = sum_nothing (λ s. g s * 0) (range_with_len 0 limit) (λ s m. omega arith)
weighed g f limit (x ∷ xs) h =
    sum_among (λ s. g s * count_by (λ y. nat_eq (f y) s) (x ∷ xs))
    (λ s. g s * cond (nat_eq (f x) s) 1 0 + g s * count_by (λ y. nat_eq (f y) s) xs) (range_with_len 0 limit)
    (λ s m. ap (λ k. g s * k) (sum_by-cons (λ y. cond (nat_eq (f y) s) 1 0) x xs) ∙ spread (g s) (cond (nat_eq (f x) s) 1 0)
    (count_by (λ y. nat_eq (f y) s) xs))
    ∙ sum_both (λ s. g s * cond (nat_eq (f x) s) 1 0) (λ s. g s * count_by (λ y. nat_eq (f y) s) xs) (range_with_len 0 limit)
    ∙ omega (
      arith,
      one_place g (f x) limit 0 (omega arith) (omega (arith, h x (inl refl))),
      weighed g f limit xs (λ y m. h y (inr m)),
      sum_by-cons
          (λ y. g (f y)) x xs,
    )
  where
    spread : (a b c : ℕ) → a * (b + c) ≡ a * b + a * c
    spread a b c = omega arith

ones : {X : Type 0} (xs : List X) → sum_by (λ x. 1) xs ≡ length xs
ones [] = refl
ones (x ∷ xs) = omega (arith, sum_by-cons (λ y. 1) x xs, ones xs)

module _ (n : ℕ) (F : List Function) (P : List Pair) where
  sizes_over : (order : List ℕ) → Among order (all_orders n P) → size_under n F order ≤ most n F P
  unfolding most most_of
  sizes_over order m = greatest_over (map (size_under n F) (all_orders n P)) (size_under n F order) (among_map (size_under n F) order (all_orders n P) m)

  -- the counts of all sizes add up to the number of orders
  pub counts_add_up : (limit : ℕ) → most n F P < limit → sum_by (orders_of_size n F P) (range_with_len 0 limit) ≡ length (all_orders n P)
  unfolding orders_of_size
  counts_add_up limit h =
      sum_among (λ s. count_by (λ order. nat_eq (size_under n F order) s) (all_orders n P))
      (λ s. 1 * count_by (λ order. nat_eq (size_under n F order) s) (all_orders n P)) (range_with_len 0 limit) (λ s m. omega arith)
      ∙ weighed (λ s. 1) (size_under n F) limit (all_orders n P) (λ order m. omega (arith, sizes_over order m, h))
      ∙ ones (all_orders n P)

  -- and each size times its count to the sum of the sizes
  pub sizes_add_up : (limit : ℕ) → most n F P < limit → sum_by (λ s. s * orders_of_size n F P s) (range_with_len 0 limit) ≡ size_total n F P
  unfolding orders_of_size size_total
  sizes_add_up limit h = weighed (λ s. s) (size_under n F) limit (all_orders n P) (λ order m. omega (arith, sizes_over order m, h))

  counted : (order : List ℕ) → Among order (all_orders n P) → (s : ℕ) → size_under n F order ≡ s → 0 < orders_of_size n F P s
  unfolding orders_of_size
  counted order m s e = go (all_orders n P) m
    where
      go : (xs : List (List ℕ)) → Among order xs → 0 < count_by (λ xs. nat_eq (size_under n F xs) s) xs
      go [] m = absurd m
      go (xs ∷ xss) m =
          let step = sum_by-cons (λ xs. cond (nat_eq (size_under n F xs) s) 1 0) xs xss in
          elim m [
            | inl f ↦
                let is = ap (λ b. cond {A = ℕ} b 1 0) (eq-eqb (size_under n F xs) s (ap (size_under n F) (sym f) ∙ e)) in
                omega (arith, step, is)
            | inr r ↦ omega (arith, step, go xss r)
          ]

  not_counted : (s : ℕ) → ((order : List ℕ) → Among order (all_orders n P) → size_under n F order ≢ s) → orders_of_size n F P s ≡ 0
  unfolding orders_of_size
  not_counted s h =
      sum_nothing (λ order. cond (nat_eq (size_under n F order) s) 1 0) (all_orders n P)
      (λ order m. ap (λ b. cond b 1 0) (ne_eqb (size_under n F order) s (h order m)))

  pub none_above_most : (s : ℕ) → most n F P < s → orders_of_size n F P s ≡ 0
  none_above_most s h = not_counted s (λ order m e. absurd (let le = sizes_over order m in omega arith))

  module _ (base : List ℕ) (o : IsOrder n base) (k : Keeps P base) where
    pub most_is_counted : 0 < orders_of_size n F P (most n F P)
    unfolding most most_of
    most_is_counted =
        let there = among_of_place (all_orders n P) base ((orders_listed n P base).1 (o, k)) in
        let m = greatest_among (map (size_under n F) (all_orders n P)) (size_under n F base) (among_map (size_under n F) base (all_orders n P) there) in
        let from = among_from_map (size_under n F) (most n F P) (all_orders n P) m in
        counted from.0 from.1 (most n F P) (sym from.2)

    pub fewest_is_counted : 0 < orders_of_size n F P (least n F P (variables n))
    fewest_is_counted =
        let all = least_is_least n F P base (ground n P base o k) (variables n) (all_lawful n P base o k) in
        let is = order_from_lawful n P base o k all.some.0 all.some.1 in
        counted all.some.0 (among_of_place (all_orders n P) all.some.0 ((orders_listed n P all.some.0).1 is)) (least n F P (variables n))
        (size_is_cost n F all.some.0 is.0 ∙ all.some.2)

    pub none_below_fewest : (s : ℕ) → s < least n F P (variables n) → orders_of_size n F P s ≡ 0
    none_below_fewest s lt =
        not_counted s
        (λ order m e.
        let is = (orders_listed n P order).0 (place_of_among (all_orders n P) order m) in
        let le = (least_is_least n F P base (ground n P base o k) (variables n) (all_lawful n P base o k)).no_less order
        (lawful_from_order n P order is.0 is.1) in
        absurd (let c = size_is_cost n F order is.0 in omega arith))

-- ---- the costs of a set's lists lie between its least and its greatest cost

module _ (n : ℕ) (F : List Function) (P : List Pair) (S : List ℕ) where
  no_ways : (c : ℕ) → ((xs : List ℕ) → Among xs (lawful_lists P S) → cost n F xs ≢ c) → ways n F P S c ≡ 0
  unfolding ways
  no_ways c h =
      sum_nothing (λ xs. cond (nat_eq (cost n F xs) c) 1 0) (lawful_lists P S) (λ xs m. ap (λ b. cond b 1 0) (ne_eqb (cost n F xs) c (h xs m)))

  pub no_ways_above : (c : ℕ) → most_cost n F P S < c → ways n F P S c ≡ 0
  unfolding most_cost most_of
  no_ways_above c lt =
      no_ways c (λ xs m e. absurd (let le = greatest_over (map (cost n F) (lawful_lists P S)) (cost n F xs)
      (among_map (cost n F) xs (lawful_lists P S) m) in omega arith))

  pub no_ways_below : (c : ℕ) → c < least n F P S → ways n F P S c ≡ 0
  unfolding least lawful_lists
  no_ways_below c lt =
      no_ways c
      (λ xs m e.
      let there = among_map (cost n F) xs (lawful_lists P S) m in
      absurd (let le = (least_of_lem (map (cost n F) (lawful_lists P S)) (cost n F xs) there).1 (cost n F xs) there in omega arith))
