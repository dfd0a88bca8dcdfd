-- All orders and their sizes, by the recurrence over sets.
--     orders_listed, orders_once      the list of all orders has just the orders that keep the pairs, each once
--     lists_recur      the lawful lists of a set, by those of the set without one member
--     ways_recur, number_recur, total_recur      how many have a cost, how many there are, the sum of the costs
use Rattle.std.proofs.Common.{◌≡◌, ◌≢◌, ◌↔◌, ℕ, zero, suc, ◌+◌, ◌*◌, ◌-◌, ◌^◌, Bool, true, false, not, cond, ◌&&◌, ◌||◌, inl, inr, List, [], ◌∷◌, map, length, refl, sym, ap, ap₂, ◌∙◌, subst, arith, nat_eq, eqb-true, eq-eqb}
use Rattle.std.specs.Prelude.{nat_le}
use Rattle.std.specs.List.{filter, flat_map, sum_by, count_by, IsDistinct, AllByRecursion, AllPairs, Contains}
use Rattle.std.proofs.lemmas.Bool.{false≢true, true≢false, cases_Bool, ne_eqb}
use Rattle.std.proofs.lemmas.List.{length-map}
use Rattle.std.proofs.lemmas.List.Concat.{length-flat_map}
use Rattle.std.proofs.lemmas.List.FromFn.{length-range_with_len}
use Rattle.definitions.specs.Functions.{Function}
use Rattle.definitions.specs.Orders.{IsOrder, has, variables, without, members}
use Rattle.std.specs.Int.{bit_at}
use Rattle.std.proofs.lemmas.Nat.Bits.{bit_at-zero}
use Rattle.definitions.proofs.Lists.Ranges.{filter_same, filter_twice}
use Rattle.definitions.proofs.Bits.Masks.{distinct_members, members_without, members_full}
use Rattle.definitions.specs.Pairs.{Pair, keeps, Keeps, is_lawful, are_lawful, tops}
use Rattle.definitions.specs.Widths.{width, cost, arrangements}
use Rattle.definitions.specs.AllOrders.{all_orders, most_of, lawful_lists, ways, ways_above, ways_with_top, cost_total, cost_total_with_top, most_cost}
use Rattle.definitions.proofs.Lists.Sets.{Among, among_filter, among_from_filter, among_from_map}
use Rattle.definitions.proofs.Lists.Sums.{filter_among, filter_none, filter_flat_map, filter_map_through, flat_map_among, flat_map_filter, sum_among, sum_nothing, sum_plus, sum_filter, sum_flat_map, sum_through, Once, once_filter, once_map, once_flat_map, place_of_among, among_of_place, apart_by_places}
use Rattle.definitions.proofs.Lists.Orders.{same_bool, has_filter}
use Rattle.definitions.proofs.Precedence.Lists.{lawful_same, lawful_whole, are_lawful_parts, are_lawful_from}
use Rattle.definitions.proofs.Widths.Recurrence.{IsArrangement, arrangement_lem, arranged, IsLawfulList, distinct_without, distinct_variables, length_without, among_has, cost_cons, has_again}
use Rattle.definitions.proofs.Widths.Fewest.{arrangement_from_order, order_from_arrangement}
use Rattle.definitions.proofs.Widths.SizeBounds.{order_length}

-- ---- the arrangements of a set, each once

once_from_distinct : (xs : List ℕ) → IsDistinct nat_eq xs → Once xs
unfolding IsDistinct
once_from_distinct [] d = tt
once_from_distinct (x ∷ xs) d = (λ m. apart x xs d.0 m, once_from_distinct xs d.1)
  where
    apart : (x : ℕ) (ys : List ℕ) → AllByRecursion (λ w. nat_eq x w ≡ false) ys → Among x ys → ⊥
    apart x [] a m = m
    apart x (y ∷ ys) a m = elim m [ inl e ↦ true≢false (sym (eq-eqb x y e) ∙ a.0) | inr r ↦ apart x ys a.1 r ]

head_of : List ℕ → ℕ
head_of [] = 0
head_of (x ∷ xs) = x

tail_of : List ℕ → List ℕ
tail_of [] = []
tail_of (x ∷ xs) = xs

once_arrangements : (k : ℕ) (S : List ℕ) → IsDistinct nat_eq S → Once (arrangements k S)
unfolding arrangements head_of tail_of
once_arrangements zero S d = (λ m. m, tt)
once_arrangements (suc k) S d =
    once_flat_map (λ x. map (λ xs. x ∷ xs) (arrangements k (without x S))) S (once_from_distinct S d)
    (λ x m. once_map (λ xs. x ∷ xs) (arrangements k (without x S)) (λ xs ys e. ap tail_of e) (once_arrangements k (without x S) (distinct_without x S d)))
    (λ x y zs m r.
    let a = among_from_map (λ xs. x ∷ xs) zs (arrangements k (without x S)) m in
    let b = among_from_map (λ xs. y ∷ xs) zs (arrangements k (without y S)) r in
    sym (ap head_of a.2) ∙ ap head_of b.2)

-- ---- all orders

-- the list of all orders has just the orders that keep the pairs
pub orders_listed : (n : ℕ) (P : List Pair) (order : List ℕ) → Contains (all_orders n P) order ↔ (IsOrder n order × Keeps P order)
unfolding all_orders
orders_listed n P order = (
  λ c.
      let from = among_from_filter (keeps P) order (arrangements n (variables n)) (among_of_place (filter (keeps P) (arrangements n (variables n))) order c) in
      (order_from_arrangement n order (arrangement_lem n (variables n) (distinct_variables n) (length-range_with_len 0 n) order from.0), from.1),
  λ h.
      place_of_among (filter (keeps P) (arrangements n (variables n))) order
      (among_filter (keeps P) order (arrangements n (variables n))
      (subst (λ k. Among order (arrangements k (variables n))) (order_length n order h.0) (arranged order (variables n) (arrangement_from_order n order h.0)))
      h.1),
)

pub orders_once : (n : ℕ) (P : List Pair) → AllPairs (λ xs ys. xs ≢ ys) (all_orders n P)
unfolding all_orders
orders_once n P = apart_by_places (filter (keeps P) (arrangements n (variables n)))
    (once_filter (keeps P) (arrangements n (variables n)) (once_arrangements n (variables n) (distinct_variables n)))

-- ---- the lawful lists of a set

-- what is listed
pub from_lists : (P : List Pair) (S xs : List ℕ) → IsDistinct nat_eq S → Among xs (lawful_lists P S) → IsLawfulList P S xs
unfolding lawful_lists
from_lists P S xs d m =
    let from = among_from_filter (are_lawful P) xs (arrangements (length S) S) m in
    record { arrangement = arrangement_lem (length S) S d refl xs from.0; lawful = from.1 }

-- a set that is not lawful has none
pub lists_none : (P : List Pair) (S : List ℕ) → IsDistinct nat_eq S → is_lawful P S ≡ false → lawful_lists P S ≡ []
unfolding lawful_lists
lists_none P S d u =
    filter_none (are_lawful P) (arrangements (length S) S)
    (λ xs m. none xs (arrangement_lem (length S) S d refl xs m))
  where
    none : (xs : List ℕ) → IsArrangement S xs → are_lawful P xs ≡ false
    none xs a =
        elim (cases_Bool (are_lawful P xs)) [
          | inl t ↦ absurd (true≢false (sym (lawful_whole P xs t) ∙ lawful_same P xs S a.members ∙ u))
          | inr f ↦ f
        ]

pub lists_empty : (P : List Pair) → lawful_lists P [] ≡ [] ∷ []
unfolding lawful_lists arrangements are_lawful
lists_empty P = refl

abbrev pub lists_with_top : List Pair → List ℕ → ℕ → List (List ℕ)
lists_with_top P S x = map (λ xs. x ∷ xs) (lawful_lists P (without x S))

module _ (P : List Pair) (S : List ℕ) (z : ℕ) (d : IsDistinct nat_eq S) (l : is_lawful P S ≡ true) (h : has S z ≡ true) where
  lists_by : (k : ℕ) → length S ≡ suc k → filter (are_lawful P) (arrangements (suc k) S) ≡ flat_map (lists_with_top P S) S
  unfolding arrangements lawful_lists
  lists_by k long =
      filter_flat_map (are_lawful P) (λ x. map (λ xs. x ∷ xs) (arrangements k (without x S))) S
      ∙ flat_map_among (λ x. filter (are_lawful P) (map (λ xs. x ∷ xs) (arrangements k (without x S)))) (lists_with_top P S) S piece
    where
      piece : (x : ℕ) → Among x S → filter (are_lawful P) (map (λ xs. x ∷ xs) (arrangements k (without x S))) ≡ lists_with_top P S x
      piece x m =
          let there = among_has S x m in
          let few : length (without x S) ≡ k = omega (arith, length_without x S d there) in
          filter_map_through (are_lawful P) (λ xs. x ∷ xs) (arrangements k (without x S))
          ∙ ap (map (λ xs. x ∷ xs))
          (filter_among (λ xs. are_lawful P (x ∷ xs)) (are_lawful P) (arrangements k (without x S)) (same x there few)
          ∙ ap (λ j. filter (are_lawful P) (arrangements j (without x S))) (sym few))
        where
          same : (x : ℕ) → has S x ≡ true → length (without x S) ≡ k → (xs : List ℕ) → Among xs (arrangements k (without x S)) → are_lawful P (x ∷ xs)
              ≡ are_lawful P xs
          same x there few xs a =
              let is = arrangement_lem k (without x S) (distinct_without x S d) few xs a in
              let whole : is_lawful P (x ∷ xs) ≡ true =
              lawful_same P (x ∷ xs) S (λ y. ap (λ b. nat_eq y x || b) (is.members y) ∙ has_again x S there y) ∙ l in
              same_bool _ _ (λ t. (are_lawful_parts P x xs t).1) (λ t. are_lawful_from P x xs whole t)

  -- over all members: those without which the set is not lawful add nothing
  pub lists_recur_all : lawful_lists P S ≡ flat_map (lists_with_top P S) S
  unfolding lawful_lists
  lists_recur_all = go S refl
    where
      go : (T : List ℕ) → T ≡ S → lawful_lists P S ≡ flat_map (lists_with_top P S) S
      go [] e = absurd (false≢true (ap (λ U. has U z) e ∙ h))
      go (x ∷ T) e =
          let long : length S ≡ suc (length T) = sym (ap length e) in
          ap (λ k. filter (are_lawful P) (arrangements k S)) long ∙ lists_by (length T) long

  nothing : (x : ℕ) → is_lawful P (without x S) ≡ false → lists_with_top P S x ≡ []
  nothing x u = ap (map (λ xs. x ∷ xs)) (lists_none P (without x S) (distinct_without x S d) u)

  -- the lists of a lawful set that is not empty: those with each of its tops
  pub lists_recur : lawful_lists P S ≡ flat_map (lists_with_top P S) (tops P S)
  lists_recur = lists_recur_all ∙ sym (flat_map_filter (λ x. is_lawful P (without x S)) (lists_with_top P S) S (λ x m u. nothing x u))

  -- any sum over the lists
  pub sums_recur : (g : List ℕ → ℕ) → sum_by g (lawful_lists P S) ≡ sum_by (λ x. sum_by (λ xs. g (x ∷ xs)) (lawful_lists P (without x S))) (tops P S)
  sums_recur g =
      ap (sum_by g) lists_recur ∙ sum_flat_map g (lists_with_top P S) (tops P S)
      ∙ sum_among (λ x. sum_by g (lists_with_top P S x)) (λ x. sum_by (λ xs. g (x ∷ xs)) (lawful_lists P (without x S))) (tops P S)
      (λ x m. sum_through g (λ xs. x ∷ xs) (lawful_lists P (without x S)))

  -- how many lists there are
  pub number_recur : length (lawful_lists P S) ≡ sum_by (λ x. length (lawful_lists P (without x S))) (tops P S)
  number_recur =
      ap length lists_recur ∙ length-flat_map (lists_with_top P S) (tops P S)
      ∙ sum_among (λ x. length (lists_with_top P S x)) (λ x. length (lawful_lists P (without x S))) (tops P S)
      (λ x m. length-map (lawful_lists P (without x S)) (λ xs. x ∷ xs))

  module _ (n : ℕ) (F : List Function) where
    cost_with_top : (x : ℕ) (xs : List ℕ) → Among xs (lawful_lists P (without x S)) → cost n F (x ∷ xs) ≡ width n F (without x S) x + cost n F xs
    cost_with_top x xs m = cost_cons n F S x xs (from_lists P (without x S) xs (distinct_without x S d) m).arrangement

    -- how many have cost c
    pub ways_recur : (c : ℕ) → ways n F P S c ≡ sum_by (ways_with_top n F P S c) (tops P S)
    unfolding ways
    ways_recur c =
        sums_recur (λ xs. cond (nat_eq (cost n F xs) c) 1 0)
        ∙ sum_among (λ x. sum_by (λ xs. cond (nat_eq (cost n F (x ∷ xs)) c) 1 0) (lawful_lists P (without x S))) (ways_with_top n F P S c) (tops P S)
        (λ x m.
        sum_among (λ xs. cond (nat_eq (cost n F (x ∷ xs)) c) 1 0) (λ xs. cond (nat_eq (width n F (without x S) x + cost n F xs) c) 1 0)
        (lawful_lists P (without x S))
        (λ xs a. ap (λ k. cond (nat_eq k c) 1 0) (cost_with_top x xs a))
        ∙ shifted (width n F (without x S) x) (lawful_lists P (without x S)))
      where
        shifted : (w : ℕ) (L : List (List ℕ)) →
            sum_by (λ xs. cond (nat_eq (w + cost n F xs) c) 1 0) L ≡ cond (nat_le w c) (count_by (λ xs. nat_eq (cost n F xs) (c - w)) L) 0
        shifted w L = by (nat_le w c) refl
          where
            by : (b : Bool) → nat_le w c ≡ b → sum_by (λ xs. cond (nat_eq (w + cost n F xs) c) 1 0) L ≡ cond b
                (count_by (λ xs. nat_eq (cost n F xs) (c - w)) L) 0
            by true e =
                sum_among (λ xs. cond (nat_eq (w + cost n F xs) c) 1 0) (λ xs. cond (nat_eq (cost n F xs) (c - w)) 1 0) L
                (λ xs a. ap (λ b. cond b 1 0) (same_bool _ _
                (λ t. let s : cost n F xs ≡ c - w = grind (arith, t, e) in eq-eqb _ _ s)
                (λ t. let s : w + cost n F xs ≡ c = grind (arith, t, e) in eq-eqb _ _ s)))
            by false e =
                sum_nothing (λ xs. cond (nat_eq (w + cost n F xs) c) 1 0) L
                (λ xs a. elim (cases_Bool (nat_eq (w + cost n F xs) c)) [
                  | inl t ↦ absurd (let s : w + cost n F xs ≡ c = eqb-true _ _ t in true≢false (grind (arith, s, e)))
                  | inr f ↦ ap (λ b. cond b 1 0) f
                ])

    pub total_recur : cost_total n F P S ≡ sum_by (cost_total_with_top n F P S) (tops P S)
    unfolding cost_total
    total_recur =
        sums_recur (cost n F)
        ∙ sum_among (λ x. sum_by (λ xs. cost n F (x ∷ xs)) (lawful_lists P (without x S))) (cost_total_with_top n F P S) (tops P S)
        (λ x m.
        sum_among (λ xs. cost n F (x ∷ xs)) (λ xs. width n F (without x S) x + cost n F xs) (lawful_lists P (without x S)) (λ xs a. cost_with_top x xs a)
        ∙ sum_plus (width n F (without x S) x) (cost n F) (lawful_lists P (without x S)))

-- ---- the empty set

pub ways_empty_zero : (n : ℕ) (F : List Function) (P : List Pair) → ways n F P [] 0 ≡ 1
unfolding ways lawful_lists arrangements are_lawful cost
ways_empty_zero n F P = refl

pub ways_empty_more : (n : ℕ) (F : List Function) (P : List Pair) (c : ℕ) → ways n F P [] (suc c) ≡ 0
unfolding ways lawful_lists arrangements are_lawful cost
ways_empty_more n F P c = ap (λ b. 0 + cond b 1 0) (ne_eqb 0 (suc c) (λ e. absurd (omega arith)))

pub total_empty : (n : ℕ) (F : List Function) (P : List Pair) → cost_total n F P [] ≡ 0
unfolding cost_total lawful_lists arrangements are_lawful cost
total_empty n F P = refl

pub most_empty : (n : ℕ) (F : List Function) (P : List Pair) → most_cost n F P [] ≡ 0
unfolding most_cost most_of lawful_lists arrangements are_lawful cost
most_empty n F P = refl

-- ---- sets that are not lawful

pub number_none : (P : List Pair) (S : List ℕ) → IsDistinct nat_eq S → is_lawful P S ≡ false → length (lawful_lists P S) ≡ 0
number_none P S d u = ap length (lists_none P S d u)

module _ (n : ℕ) (F : List Function) (P : List Pair) (S : List ℕ) (d : IsDistinct nat_eq S) (u : is_lawful P S ≡ false) where
  pub ways_none : (c : ℕ) → ways n F P S c ≡ 0
  unfolding ways
  ways_none c = ap (count_by (λ xs. nat_eq (cost n F xs) c)) (lists_none P S d u)

  pub ways_above_none : (w c : ℕ) → ways_above n F P S w c ≡ 0
  ways_above_none w c = by (nat_le w c)
    where
      by : (b : Bool) → cond b (ways n F P S (c - w)) 0 ≡ 0
      by true = ways_none (c - w)
      by false = refl

  pub total_none : cost_total n F P S ≡ 0
  unfolding cost_total
  total_none = ap (sum_by (cost n F)) (lists_none P S d u)

-- ---- the same by masks, over all members

filter_by_has : (p q : ℕ → Bool) (xs : List ℕ) → ((y : ℕ) → has (filter p xs) y ≡ has (filter q xs) y) → filter p xs ≡ filter q xs
filter_by_has p q xs h = filter_same p q xs (λ y m. ap (λ b. b && p y) (sym m) ∙ sym (has_filter p xs y) ∙ h y ∙ has_filter q xs y ∙ ap (λ b. b && q y) m)

-- the members of a mask without one are those of the smaller mask
pub members_less : (n mask x : ℕ) → has (members n mask) x ≡ true → without x (members n mask) ≡ members n (mask - 2 ^ x)
unfolding members without
members_less n mask x h =
    twice ∙ filter_by_has (λ y. nat_eq (bit_at mask y) 1 && not (nat_eq x y)) (λ y. nat_eq (bit_at (mask - 2 ^ x) y) 1) (variables n)
    (λ y. ap (λ ys. has ys y) (sym twice) ∙ sym (members_without n mask x h y))
  where
    twice : filter (λ y. not (nat_eq x y)) (filter (λ y. nat_eq (bit_at mask y) 1) (variables n))
        ≡ filter (λ y. nat_eq (bit_at mask y) 1 && not (nat_eq x y)) (variables n)
    twice = filter_twice (λ y. nat_eq (bit_at mask y) 1) (λ y. not (nat_eq x y)) (variables n)

pub members_all : (n : ℕ) → members n (2 ^ n - 1) ≡ variables n
unfolding members
members_all n =
    filter_by_has (λ y. nat_eq (bit_at (2 ^ n - 1) y) 1) (λ y. true) (variables n)
    (λ y. members_full n y ∙ sym (ap (λ ys. has ys y) (all_kept (variables n))))
    ∙ all_kept (variables n)
  where
    all_kept : (xs : List ℕ) → filter (λ y. true) xs ≡ xs
    all_kept [] = refl
    all_kept (x ∷ xs) = ap (λ ys. x ∷ ys) (all_kept xs)

-- the empty mask has no members
pub members_none : (n : ℕ) → members n 0 ≡ []
unfolding members
members_none n = filter_none (λ y. nat_eq (bit_at 0 y) 1) (variables n) (λ y m. ap (λ b. nat_eq b 1) (bit_at-zero y))

module _ (P : List Pair) (n mask z : ℕ) (h : has (members n mask) z ≡ true) where
  -- over the tops or over all members: where a smaller set is not lawful nothing is added
  dense : (f g : ℕ → ℕ) → ((x : ℕ) → has (members n mask) x ≡ true → f x ≡ g x) →
      ((x : ℕ) → has (members n mask) x ≡ true → is_lawful P (without x (members n mask)) ≡ false → f x ≡ 0) →
      sum_by f (tops P (members n mask)) ≡ sum_by g (members n mask)
  dense f g same none =
      sum_filter (λ x. is_lawful P (without x (members n mask))) f (members n mask) (λ x m u. none x (among_has (members n mask) x m) u)
      ∙ sum_among f g (members n mask) (λ x m. same x (among_has (members n mask) x m))

  -- a set that is not lawful counts nothing
  lawful_or : (v s : ℕ) → (is_lawful P (members n mask) ≡ true → v ≡ s) → (is_lawful P (members n mask) ≡ false → v ≡ 0) →
      v ≡ cond (is_lawful P (members n mask)) s 0
  lawful_or v s a b = by (is_lawful P (members n mask)) a b
    where
      by : (c : Bool) → (c ≡ true → v ≡ s) → (c ≡ false → v ≡ 0) → v ≡ cond c s 0
      by true a b = a refl
      by false a b = b refl

  less : (x : ℕ) → IsDistinct nat_eq (without x (members n mask))
  less x = distinct_without x (members n mask) (distinct_members n mask)

  pub number_by_masks : length (lawful_lists P (members n mask))
      ≡ cond (is_lawful P (members n mask)) (sum_by (λ x. length (lawful_lists P (members n (mask - 2 ^ x)))) (members n mask)) 0
  number_by_masks =
      lawful_or (length (lawful_lists P (members n mask))) (sum_by (λ x. length (lawful_lists P (members n (mask - 2 ^ x)))) (members n mask))
      (λ l.
      number_recur P (members n mask) z (distinct_members n mask) l h
      ∙ dense (λ x. length (lawful_lists P (without x (members n mask)))) (λ x. length (lawful_lists P (members n (mask - 2 ^ x))))
      (λ x m. ap (λ T. length (lawful_lists P T)) (members_less n mask x m))
      (λ x m u. number_none P (without x (members n mask)) (less x) u))
      (λ u. number_none P (members n mask) (distinct_members n mask) u)

  module _ (F : List Function) where
    pub ways_by_masks : (c : ℕ) → ways n F P (members n mask) c
        ≡ cond (is_lawful P (members n mask))
        (sum_by (λ x. ways_above n F P (members n (mask - 2 ^ x)) (width n F (members n (mask - 2 ^ x)) x) c) (members n mask)) 0
    ways_by_masks c =
        lawful_or (ways n F P (members n mask) c)
        (sum_by (λ x. ways_above n F P (members n (mask - 2 ^ x)) (width n F (members n (mask - 2 ^ x)) x) c) (members n mask))
        (λ l.
        ways_recur P (members n mask) z (distinct_members n mask) l h n F c
        ∙ dense (ways_with_top n F P (members n mask) c) (λ x. ways_above n F P (members n (mask - 2 ^ x)) (width n F (members n (mask - 2 ^ x)) x) c)
        (λ x m. ap (λ T. ways_above n F P T (width n F T x) c) (members_less n mask x m))
        (λ x m u. ways_above_none n F P (without x (members n mask)) (less x) u (width n F (without x (members n mask)) x) c))
        (λ u. ways_none n F P (members n mask) (distinct_members n mask) u c)

    pub total_by_masks : cost_total n F P (members n mask)
        ≡ cond (is_lawful P (members n mask))
        (sum_by
        (λ x. cost_total n F P (members n (mask - 2 ^ x))
        + width n F (members n (mask - 2 ^ x)) x * length (lawful_lists P (members n (mask - 2 ^ x))))
        (members n mask)) 0
    total_by_masks =
        lawful_or (cost_total n F P (members n mask)) (sum_by there (members n mask))
        (λ l.
        total_recur P (members n mask) z (distinct_members n mask) l h n F
        ∙ dense (cost_total_with_top n F P (members n mask)) there
        (λ x m. ap (λ T. cost_total n F P T + width n F T x * length (lawful_lists P T)) (members_less n mask x m))
        (λ x m u.
        ap₂ (λ a b. a + width n F (without x (members n mask)) x * b) (total_none n F P (without x (members n mask)) (less x) u)
        (number_none P (without x (members n mask)) (less x) u)
        ∙ omega arith))
        (λ u. total_none n F P (members n mask) (distinct_members n mask) u)
      where
        there : ℕ → ℕ
        there x =
            cost_total n F P (members n (mask - 2 ^ x))
            + width n F (members n (mask - 2 ^ x)) x * length (lawful_lists P (members n (mask - 2 ^ x)))
