-- Sizes of all orders: the greatest, those of the lists of all variables, and bounds.
--     most_recur      the greatest cost of a set's lists, by those of the set without one member
--     orders_are_lists      the orders that keep the pairs are the lawful lists of all variables
--     lists_bound      a set of k members has at most factorial k lists
--     cost_small, total_small      costs are small, and so is their sum
use Rattle.std.proofs.Common.{◌≡◌, ℕ, zero, suc, ◌+◌, ◌*◌, ◌-◌, ◌^◌, ◌<◌, ◌≤◌, Bool, true, false, not, cond, ◌&&◌, ◌||◌, inl, inr, List, [], ◌∷◌, ◌++◌, map, length, refl, sym, ap, ap₂, ◌∙◌, subst, arith, nat_eq, eq-eqb}
use Rattle.std.specs.List.{filter, sum_by, count_by, IsDistinct}
use Rattle.std.proofs.lemmas.Bool.{false≢true, or_left, or_right, or_cases, and_parts, not-true}
use Rattle.std.proofs.lemmas.List.Sums.{sum_by-cons, count_by-le-length}
use Rattle.std.proofs.lemmas.List.{length-map}
use Rattle.std.proofs.lemmas.List.Concat.{length-flat_map}
use Rattle.std.proofs.lemmas.List.FromFn.{length-range_with_len}
use Rattle.definitions.specs.Functions.{Function}
use Rattle.definitions.specs.Orders.{IsOrder, has, variables, without, members}
use Rattle.std.specs.Int.{bit_at}
use Rattle.std.proofs.lemmas.Cmp.{nat_eq_equiv}
use Rattle.std.proofs.lemmas.Map.Made.{length-from_same_keys}
use Rattle.definitions.proofs.Lists.Ranges.{filter_at_most}
use Rattle.definitions.proofs.Bits.Masks.{distinct_members, members_small}
use Rattle.definitions.specs.Pairs.{Pair, keeps, Keeps, are_lawful, tops}
use Rattle.definitions.specs.Levels.{size_under}
use Rattle.definitions.specs.Widths.{cost, arrangements, outside}
use Rattle.definitions.specs.AllOrders.{all_orders, orders_of_size, size_total, most_of, most, lawful_lists, ways, cost_total, most_cost, most_cost_with_top, factorial}
use Rattle.definitions.proofs.Lists.Sets.{Among, among_filter, among_map, among_from_map}
use Rattle.definitions.proofs.Lists.Sums.{filter_among, sum_among, sum_nothing, sum_plus, greatest_among, greatest_over, greatest_is}
use Rattle.definitions.proofs.Lists.Maps.{map_same}
use Rattle.definitions.proofs.Lists.Orders.{same_bool, has_append, has_outside, has_variables, absent_from_apart}
use Rattle.definitions.proofs.Precedence.Lists.{Ground}
use Rattle.definitions.proofs.Functions.Exchange.{size_is_cost}
use Rattle.definitions.proofs.Widths.Recurrence.{arrangement_lem, arranged, IsLawfulList, IsLawfulSet, distinct_without, distinct_variables, distinct_filter, apart_from_absent, length_without, among_has, from_tops, among_tops, cost_cons, in_order, without_top, lawful_cons, lawful_behind, lawful_tail, first_member}
use Rattle.definitions.proofs.Widths.Fewest.{order_from_arrangement, lawful_from_order, order_from_lawful}
use Rattle.definitions.proofs.Widths.LastLevels.{close_size_bound}
use Rattle.definitions.proofs.Widths.AllOrders.{from_lists}

-- ---- the greatest cost

pub to_lists : (P : List Pair) (S xs : List ℕ) → IsDistinct nat_eq S → IsLawfulList P S xs → Among xs (lawful_lists P S)
unfolding lawful_lists
to_lists P S xs d a =
    among_filter (are_lawful P) xs (arrangements (length S) S)
    (subst (λ k. Among xs (arrangements k S)) (length-from_same_keys nat_eq_equiv xs S a.arrangement.once d a.arrangement.members)
    (arranged xs S a.arrangement))
    a.lawful

module _ (n : ℕ) (F : List Function) (P : List Pair) (whole : List ℕ) (g : Ground P whole) where
  -- some list has the greatest cost, and none a greater one
  most_some : (S : List ℕ) → IsLawfulSet P whole S → (xs : List ℕ) × IsLawfulList P S xs × (cost n F xs ≡ most_cost n F P S)
  unfolding most_cost most_of
  most_some S set =
      let first = in_order n F P whole g S set in
      let m = greatest_among (map (cost n F) (lawful_lists P S)) (cost n F (filter (has S) whole))
      (among_map (cost n F) (filter (has S) whole) (lawful_lists P S) (to_lists P S (filter (has S) whole) set.once first)) in
      let from = among_from_map (cost n F) (most_cost n F P S) (lawful_lists P S) m in
      (from.0, from_lists P S from.0 set.once from.1, sym from.2)

  most_over : (S xs : List ℕ) → IsDistinct nat_eq S → IsLawfulList P S xs → cost n F xs ≤ most_cost n F P S
  unfolding most_cost most_of
  most_over S xs d a =
      greatest_over (map (cost n F) (lawful_lists P S)) (cost n F xs) (among_map (cost n F) xs (lawful_lists P S) (to_lists P S xs d a))

  pub most_recur : (S : List ℕ) (z : ℕ) → IsLawfulSet P whole S → has S z ≡ true → most_cost n F P S ≡ most_of (map (most_cost_with_top n F P S) (tops P S))
  unfolding most_of
  most_recur S z set h = sym (greatest_is (map (most_cost_with_top n F P S) (tops P S)) (most_cost n F P S) there none)
    where
      all : (xs : List ℕ) × IsLawfulList P S xs × (cost n F xs ≡ most_cost n F P S)
      all = most_some S set

      -- a top's greatest cost is the cost of some list
      each : (x : ℕ) → Among x (tops P S) → most_cost_with_top n F P S x ≤ most_cost n F P S
      each x m =
          let top = from_tops P S x m in
          let rest = most_some (without x S) (without_top n F P whole g S x set top.1) in
          let xs = rest.0 in
          omega (
            arith,
            most_over S (x ∷ xs) set.once (lawful_cons P x xs S set.lawful top.0 rest.1),
            cost_cons n F S x xs rest.1.arrangement,
            rest.2,
          )

      none : (b : ℕ) → Among b (map (most_cost_with_top n F P S) (tops P S)) → b ≤ most_cost n F P S
      none b m =
          let from = among_from_map (most_cost_with_top n F P S) b (tops P S) m in
          omega (arith, from.2, each from.0 from.1)

      by : (xs : List ℕ) → IsLawfulList P S xs → cost n F xs ≡ most_cost n F P S → Among (most_cost n F P S) (map (most_cost_with_top n F P S) (tops P S))
      by [] a e = absurd (false≢true (a.arrangement.members z ∙ h))
      by (x ∷ xs) a e =
          let l = lawful_behind P x xs S a in
          let tail = lawful_tail P x xs S a in
          let m = among_tops P S x (first_member x xs S a.arrangement) l in
          let s : most_cost_with_top n F P S x ≡ most_cost n F P S =
          omega (arith, each x m, most_over (without x S) xs (distinct_without x S set.once) tail, cost_cons n F S x xs tail.arrangement, e) in
          subst (λ k. Among k (map (most_cost_with_top n F P S) (tops P S))) s (among_map (most_cost_with_top n F P S) x (tops P S) m)

      there : Among (most_cost n F P S) (map (most_cost_with_top n F P S) (tops P S))
      there = by all.0 all.1 all.2

-- ---- all variables

module _ (n : ℕ) (P : List Pair) (base : List ℕ) (o : IsOrder n base) (k : Keeps P base) where
  -- the orders that keep the pairs are the lawful lists of all variables
  pub orders_are_lists : all_orders n P ≡ lawful_lists P (variables n)
  unfolding all_orders lawful_lists
  orders_are_lists =
      filter_among (keeps P) (are_lawful P) (arrangements n (variables n))
      (λ xs m.
      let a = arrangement_lem n (variables n) (distinct_variables n) (length-range_with_len 0 n) xs m in
      let is = order_from_arrangement n xs a in
      same_bool _ _ (λ t. (lawful_from_order n P xs is t).lawful) (λ t. (order_from_lawful n P base o k xs (record { arrangement = a; lawful = t })).1))
      ∙ ap (λ j. filter (are_lawful P) (arrangements j (variables n))) (sym (length-range_with_len 0 n))

  is_order : (xs : List ℕ) → Among xs (lawful_lists P (variables n)) → IsOrder n xs
  is_order xs m = order_from_arrangement n xs (from_lists P (variables n) xs (distinct_variables n) m).arrangement

  module _ (F : List Function) where
    pub sizes_are_ways : (s : ℕ) → orders_of_size n F P s ≡ ways n F P (variables n) s
    unfolding orders_of_size ways
    sizes_are_ways s =
        ap (count_by (λ order. nat_eq (size_under n F order) s)) orders_are_lists
        ∙ sum_among (λ xs. cond (nat_eq (size_under n F xs) s) 1 0) (λ xs. cond (nat_eq (cost n F xs) s) 1 0) (lawful_lists P (variables n))
        (λ xs m. ap (λ c. cond (nat_eq c s) 1 0) (size_is_cost n F xs (is_order xs m)))

    pub size_total_is_cost_total : size_total n F P ≡ cost_total n F P (variables n)
    unfolding size_total cost_total
    size_total_is_cost_total =
        ap (sum_by (size_under n F)) orders_are_lists
        ∙ sum_among (size_under n F) (cost n F) (lawful_lists P (variables n)) (λ xs m. size_is_cost n F xs (is_order xs m))

    pub most_is_most_cost : most n F P ≡ most_cost n F P (variables n)
    unfolding most most_cost
    most_is_most_cost =
        ap (λ xss. most_of (map (size_under n F) xss)) orders_are_lists
        ∙ ap most_of (map_same (size_under n F) (cost n F) (lawful_lists P (variables n)) (λ xs m. size_is_cost n F xs (is_order xs m)))

-- ---- bounds

-- how many arrangements there are
length-arrangements : (k : ℕ) (S : List ℕ) → IsDistinct nat_eq S → length S ≡ k → length (arrangements k S) ≡ factorial k
unfolding arrangements factorial
length-arrangements zero S d l = refl
length-arrangements (suc k) S d l =
    length-flat_map (λ x. map (λ xs. x ∷ xs) (arrangements k (without x S))) S
    ∙ sum_among (λ x. length (map (λ xs. x ∷ xs) (arrangements k (without x S)))) (λ x. factorial k + 0) S
    (λ x m.
    length-map (arrangements k (without x S)) (λ xs. x ∷ xs)
    ∙ length-arrangements k (without x S) (distinct_without x S d) (omega (arith, length_without x S d (among_has S x m), l))
    ∙ omega arith)
    ∙ sum_plus (factorial k) (λ x. 0) S ∙ ap₂ (λ a b. a + factorial k * b) (sum_nothing (λ (x : ℕ). 0) S (λ x m. refl)) l
    ∙ omega arith

-- a set of k members has at most factorial k lawful lists
pub lists_bound : (P : List Pair) (S : List ℕ) → IsDistinct nat_eq S → length (lawful_lists P S) ≤ factorial (length S)
unfolding lawful_lists
lists_bound P S d = omega (arith, filter_at_most (are_lawful P) (arrangements (length S) S), length-arrangements (length S) S d refl)

factorial_some : (k : ℕ) → 1 ≤ factorial k
unfolding factorial
factorial_some zero = omega arith
factorial_some (suc k) = omega (arith, factorial_some k)

factorial_more : (k d : ℕ) → factorial k ≤ factorial (d + k)
unfolding factorial
factorial_more k zero = let e : 0 + k ≡ k = omega arith in subst (λ j. factorial k ≤ factorial j) (sym e) (omega arith)
factorial_more k (suc d) =
    let e : suc d + k ≡ suc (d + k) = omega arith in
    let le : factorial (d + k) ≤ factorial (suc (d + k)) = omega arith in
    subst (λ j. factorial k ≤ factorial j) (sym e) (omega (arith, factorial_more k d, le))

factorial_small : factorial 16 ≡ 20922789888000
unfolding factorial
factorial_small = refl

pub factorial_bound : (k : ℕ) → k ≤ 16 → factorial k ≤ 20922789888000
factorial_bound k le =
    let e : (16 - k) + k ≡ 16 = omega arith in
    omega (arith, factorial_more k (16 - k), ap factorial e, factorial_small)

-- the lists of some of at most 16 variables
pub lists_few : (n : ℕ) (P : List Pair) (mask : ℕ) → n ≤ 16 → length (lawful_lists P (members n mask)) ≤ 20922789888000
unfolding members
lists_few n P mask le =
    omega (arith, lists_bound P (members n mask) (distinct_members n mask), factorial_bound (length (members n mask)) (few n mask le))
  where
    few : (n mask : ℕ) → n ≤ 16 → length (members n mask) ≤ 16
    few n mask le = omega (arith, filter_at_most (λ y. nat_eq (bit_at mask y) 1) (variables n), length-range_with_len 0 n)

-- ways are at most as many as the lists
pub ways_bound : (n : ℕ) (F : List Function) (P : List Pair) (S : List ℕ) (c : ℕ) → ways n F P S c ≤ length (lawful_lists P S)
unfolding ways
ways_bound n F P S c = count_by-le-length (λ xs. nat_eq (cost n F xs) c) (lawful_lists P S)

-- ---- costs of lists

cost_below : (n : ℕ) (F : List Function) (above below : List ℕ) → cost n F below ≤ cost n F (above ++ below)
unfolding cost
cost_below n F [] below = omega arith
cost_below n F (x ∷ above) below = omega (arith, cost_below n F above below)

distinct_onto : (above below : List ℕ) → IsDistinct nat_eq above → IsDistinct nat_eq below → ((y : ℕ) → has above y ≡ true → has below y ≡ false) →
    IsDistinct nat_eq (above ++ below)
unfolding IsDistinct
distinct_onto [] below a b h = b
distinct_onto (x ∷ above) below a b h = (
  apart_from_absent x (above ++ below) (has_append above below x ∙ ap₂ (λ p q. p || q) (absent_from_apart x above a.0) (h x (or_left _ _ (eq-eqb x x refl)))),
  distinct_onto above below a.1 b (λ y m. h y (or_right _ _ m)),
)

-- distinct variables are the lowest ones of some order
order_over : (n : ℕ) (below : List ℕ) → IsDistinct nat_eq below → ((y : ℕ) → has below y ≡ true → y < n) → IsOrder n (outside n below ++ below)
unfolding outside
order_over n below d small = record {
  all = λ y. (
    λ m. elim (or_cases (has (outside n below) y) (has below y) (sym (has_append (outside n below) below y) ∙ m)) [
      | inl a ↦ (has_variables n y).0 (and_parts _ _ (sym (has_outside n below y) ∙ a)).0
      | inr b ↦ small y b
    ],
    λ lt. has_append (outside n below) below y
        ∙ ap (λ b. b || has below y) (has_outside n below y ∙ ap (λ b. b && not (has below y)) ((has_variables n y).1 lt)) ∙ either (has below y),
  );
  once =
      distinct_onto (outside n below) below (distinct_filter (λ y. not (has below y)) (variables n) (distinct_variables n)) d
      (λ y m. not-true _ (and_parts (has (variables n) y) (not (has below y)) (sym (has_outside n below y) ∙ m)).1);
}
  where
    either : (b : Bool) → (not b || b) ≡ true
    either true = refl
    either false = refl

-- each list of at most 16 variables, each once, has a small cost
pub cost_small : (n : ℕ) (F : List Function) (xs : List ℕ) → n ≤ 16 → length F ≤ 16 → IsDistinct nat_eq xs → ((y : ℕ) → has xs y ≡ true → y < n) →
    cost n F xs ≤ 262148
cost_small n F xs few outputs d small =
    let o = order_over n xs d small in
    omega (arith, cost_below n F (outside n xs) xs, size_is_cost n F (outside n xs ++ xs) o, close_size_bound n F (outside n xs ++ xs) few outputs o)

sum_small : (f : List ℕ → ℕ) (m : ℕ) (L : List (List ℕ)) → ((xs : List ℕ) → Among xs L → f xs ≤ m) → sum_by f L ≤ m * length L
sum_small f m [] h = omega arith
sum_small f m (xs ∷ L) h = omega (arith, sum_by-cons f xs L, h xs (inl refl), sum_small f m L (λ ys a. h ys (inr a)))

-- the sum of the costs is below 2 ^ 63
pub total_small : (n : ℕ) (F : List Function) (P : List Pair) (mask : ℕ) → n ≤ 16 → length F ≤ 16 → cost_total n F P (members n mask) < 2 ^ 63
unfolding cost_total
total_small n F P mask few outputs =
    let a = sum_small (cost n F) 262148 (lawful_lists P (members n mask)) each in
    omega (arith, a, lists_few n P mask few)
  where
    each : (xs : List ℕ) → Among xs (lawful_lists P (members n mask)) → cost n F xs ≤ 262148
    each xs m =
        let a = (from_lists P (members n mask) xs (distinct_members n mask) m).arrangement in
        cost_small n F xs few outputs a.once (λ y h. members_small n mask y (sym (a.members y) ∙ h))
