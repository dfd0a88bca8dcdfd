-- The lower bound on the nodes above a set holds: one more member takes at most its width from it, and with all variables none are left.
--     asked_step, asked_all      what one member asks for, with one more variable in the set, and with all
--     essentials_bounded      at least one node is counted for each essential variable outside
--     bounded_same, bounded_step, bounded_all      the bound depends on the set alone; with one more variable in the set, and with all
--     bounded_bound      an order has at least the cost of its bottom part and the lower bound on the nodes above it
use Rattle.std.proofs.Common.{◌≡◌, ℕ, ◌+◌, ◌<◌, ◌≤◌, max, Bool, true, false, not, inl, inr, List, [], ◌∷◌, ◌++◌, map, length, refl, sym, ap, ◌∙◌, arith, nat_eq, eq-eqb, ne_eqb}
use Rattle.std.specs.List.{filter, fold, flat_map, IsDistinct}
use Rattle.std.proofs.lemmas.Bool.{cases_eq, or_left, or_right, and_from, not_from_false}
use Rattle.std.proofs.lemmas.List.{length-map}
use Rattle.definitions.specs.Functions.{Function, table, same_table, depends}
use Rattle.definitions.specs.Orders.{has, IsOrder, variables, without}
use Rattle.definitions.specs.Levels.{subfunctions, reach, dependents, size_under}
use Rattle.definitions.specs.Widths.{outside, width, cost, essentials_outside}
use Rattle.definitions.specs.LowerBounds.{functions_with, functions_without, asked_by, nodes_above}
use Rattle.definitions.specs.declared.limits.LowerBound.{LowerBound}
use Rattle.definitions.specs.declared.limits.LowerBound.TheVariants.{Variables, Widths}
use Rattle.definitions.proofs.Lists.Sets.{Among, among_map, among_from_map, count_le}
use Rattle.definitions.proofs.Lists.Orders.{has_variables, absent_from_apart}
use Rattle.definitions.proofs.Lists.Ranges.{filter_same}
use Rattle.definitions.proofs.Functions.Tables.{same_table_decides}
use Rattle.definitions.proofs.Functions.Exchange.{width_same, size_is_cost}
use Rattle.definitions.proofs.Widths.Recurrence.{has_without, has_again, among_has, has_among}
use Rattle.definitions.proofs.Widths.Essential.{essentials_same, essentials_step, essentials_all}
use Rattle.definitions.proofs.Widths.Splits.{fewer_parts, both_and_other, free_dependents}

-- ---- what one member asks for

-- the width of a member over the others, by what is reached from outside the set
own_width : (n : ℕ) (F : List Function) (S : List ℕ) (x : ℕ) → has S x ≡ true → width n F (without x S) x ≡ dependents n (reach F (outside n S)) x
unfolding width outside
own_width n F S x h = λ i. dependents n (reach F (filter (λ y. not (has_again x S h y i)) (variables n))) x

-- a width, by what is reached from outside the set and its variable
width_is : (n : ℕ) (F : List Function) (T : List ℕ) (y : ℕ) → width n F T y ≡ dependents n (reach F (outside n (y ∷ T))) y
unfolding width
width_is n F T y = refl

-- what a member asks for, without a difference
asked_is : (n : ℕ) (F : List Function) (S : List ℕ) (x : ℕ) (w : ℕ) → width n F (without x S) x ≡ w →
    (asked_by n F S x + length (functions_with n F x)
    ≡ max w (length (functions_with n F x)) + essentials_outside n (functions_without n F x) S)
unfolding asked_by
asked_is n F S x w e = omega arith

-- with one more variable in the set a member asks for less by at most that one's width
pub asked_step : (n : ℕ) (F : List Function) (T : List ℕ) (x y : ℕ) → has T x ≡ true → has T y ≡ false → y < n →
    asked_by n F T x ≤ asked_by n F (y ∷ T) x + width n F T y
asked_step n F T x y m new small =
    grind (arith, asked_is, own_width, fewer_parts, both_and_other, free_dependents, width_is, essentials_step)

-- a filter whose test fails at each element keeps none
none_kept : (p : ℕ → Bool) (xs : List ℕ) → ((y : ℕ) → has xs y ≡ true → p y ≡ false) → filter p xs ≡ []
none_kept p xs h = filter_same p (λ y. false) xs h ∙ none xs
  where
    none : (ys : List ℕ) → filter (λ y. false) ys ≡ []
    none [] = refl
    none (y ∷ ys) = none ys

-- with no variable fixed just the functions themselves are reached
pub reach_nothing : (F : List Function) → reach F [] ≡ F
unfolding reach subfunctions
reach_nothing F = by F
  where
    by : (G : List Function) → flat_map (subfunctions []) G ≡ G
    by [] = refl
    by (f ∷ G) = ap (λ H. f ∷ H) (by G)

-- the distinct functions that depend on x are at most as many as those listed that do
few_dependents : (n : ℕ) (F : List Function) (x : ℕ) → dependents n F x ≤ length (functions_with n F x)
unfolding dependents functions_with
few_dependents n F x =
    omega (arith, count_le same_table same_table_decides tables tables (λ t m. m), length-map (filter (λ f. depends n f x) F) (table n))
  where
    tables : List (List Bool)
    tables = map (table n) (filter (λ f. depends n f x) F)

-- with all variables a member asks for nothing
pub asked_all : (n : ℕ) (F : List Function) (S : List ℕ) (x : ℕ) → ((y : ℕ) → y < n → has S y ≡ true) → asked_by n F S x ≡ 0
unfolding outside
asked_all n F S x h =
    let all = ap (λ xs. dependents n (reach F xs) x) nothing ∙ ap (λ G. dependents n G x) (reach_nothing F) in
    grind (arith, asked_is, width_is, few_dependents, essentials_all)
  where
    there : (y : ℕ) → y < n → has (x ∷ without x S) y ≡ true
    there y lt =
        elim (cases_eq y x) [
          | inl e ↦ or_left _ _ (eq-eqb y x e)
          | inr ne ↦ or_right (nat_eq y x) _ (has_without x S y ∙ and_from _ _ (h y lt) (not_from_false _ (ne_eqb x y (λ e. ne (sym e)))))
        ]

    nothing : outside n (x ∷ without x S) ≡ []
    nothing = none_kept (λ y. not (has (x ∷ without x S) y)) (variables n) (λ y m. ap not (there y ((has_variables n y).0 m)))

-- what a member asks for depends on the set alone
asked_same : (n : ℕ) (F : List Function) (S T : List ℕ) (x : ℕ) → ((y : ℕ) → has S y ≡ has T y) → asked_by n F S x ≡ asked_by n F T x
asked_same n F S T x h = grind (arith, width_same, has_without, asked_is, essentials_same)

-- ---- the lower bound

-- the greatest of some numbers is at least each of them
fold_max : (a : ℕ) (xs : List ℕ) → (a ≤ fold max a xs) × ((b : ℕ) → Among b xs → b ≤ fold max a xs)
fold_max a [] = (omega arith, λ b h. absurd h)
fold_max a (x ∷ xs) = grind (arith, fold_max (max a x) xs)

-- and at most what none of them is above
fold_max_least : (a : ℕ) (xs : List ℕ) (m : ℕ) → a ≤ m → ((b : ℕ) → Among b xs → b ≤ m) → fold max a xs ≤ m
fold_max_least a [] m le h = le
fold_max_least a (x ∷ xs) m le h = fold_max_least (max a x) xs m (omega (arith, h x (inl refl))) (λ b k. h b (inr k))

-- the bound is at least what any member asks for
asked_bounded : (n : ℕ) (F : List Function) (S : List ℕ) (x : ℕ) → has S x ≡ true → asked_by n F S x ≤ nodes_above n F Widths S
unfolding nodes_above
asked_bounded n F S x h =
    (fold_max (essentials_outside n F S) (map (asked_by n F S) S)).1 (asked_by n F S x) (among_map (asked_by n F S) x S (has_among S x h))

-- at least one node is counted for each essential variable outside
pub essentials_bounded : (n : ℕ) (F : List Function) (r : LowerBound) (S : List ℕ) → essentials_outside n F S ≤ nodes_above n F r S
unfolding nodes_above
essentials_bounded n F Variables S = omega arith
essentials_bounded n F Widths S = (fold_max (essentials_outside n F S) (map (asked_by n F S) S)).0

-- and no more than the most of these
bounded_least : (n : ℕ) (F : List Function) (S : List ℕ) (m : ℕ) → essentials_outside n F S ≤ m →
    ((x : ℕ) → has S x ≡ true → asked_by n F S x ≤ m) → nodes_above n F Widths S ≤ m
unfolding nodes_above
bounded_least n F S m le h = grind (arith, fold_max_least, among_from_map, among_has)

bounded_variables : (n : ℕ) (F : List Function) (S : List ℕ) → nodes_above n F Variables S ≡ essentials_outside n F S
unfolding nodes_above
bounded_variables n F S = refl

bounded_within : (n : ℕ) (F : List Function) (S T : List ℕ) → ((y : ℕ) → has S y ≡ has T y) → nodes_above n F Widths S ≤ nodes_above n F Widths T
bounded_within n F S T h =
    let same = essentials_same n F S T h in
    let few = essentials_bounded n F Widths T in
    bounded_least n F S (nodes_above n F Widths T) (omega arith)
    (λ x k.
    omega (arith, asked_same n F S T x h, asked_bounded n F T x (sym (h x) ∙ k)))

-- the bound depends on the set alone
pub bounded_same : (n : ℕ) (F : List Function) (r : LowerBound) (S T : List ℕ) → ((y : ℕ) → has S y ≡ has T y) → nodes_above n F r S ≡ nodes_above n F r T
bounded_same n F Variables S T h = bounded_variables n F S ∙ essentials_same n F S T h ∙ sym (bounded_variables n F T)
bounded_same n F Widths S T h = omega (arith, bounded_within n F S T h, bounded_within n F T S (λ y. sym (h y)))

-- one more member costs at least what it takes from the bound
pub bounded_step : (n : ℕ) (F : List Function) (r : LowerBound) (T : List ℕ) (y : ℕ) → has T y ≡ false → y < n →
    nodes_above n F r T ≤ nodes_above n F r (y ∷ T) + width n F T y
bounded_step n F Variables T y new small =
    omega (arith, bounded_variables n F T, bounded_variables n F (y ∷ T), essentials_step n F T y new)
bounded_step n F Widths T y new small =
    let step = essentials_step n F T y new in
    let few = essentials_bounded n F Widths (y ∷ T) in
    bounded_least n F T (nodes_above n F Widths (y ∷ T) + width n F T y) (omega arith)
    (λ x m.
    omega (arith, asked_step n F T x y m new small, asked_bounded n F (y ∷ T) x (or_right (nat_eq x y) _ m)))

pub bounded_all : (n : ℕ) (F : List Function) (r : LowerBound) (S : List ℕ) → ((y : ℕ) → y < n → has S y ≡ true) → nodes_above n F r S ≡ 0
bounded_all n F Variables S h = bounded_variables n F S ∙ essentials_all n F S h
bounded_all n F Widths S h = grind (arith, essentials_all, bounded_least, asked_all)

-- a list of variables above a set has at least as many nodes as it takes from the bound
bounded_through : (n : ℕ) (F : List Function) (r : LowerBound) (above below : List ℕ) → IsDistinct nat_eq (above ++ below) →
    ((y : ℕ) → has (above ++ below) y ≡ true → y < n) →
    cost n F below + nodes_above n F r below ≤ cost n F (above ++ below) + nodes_above n F r (above ++ below)
unfolding cost IsDistinct
bounded_through n F r [] below d small = omega arith
bounded_through n F r (x ∷ above) below d small =
    omega (
      arith,
      bounded_through n F r above below d.1 (λ y m. small y (or_right (nat_eq y x) _ m)),
      bounded_step n F r (above ++ below) x (absent_from_apart x (above ++ below) d.0) (small x (or_left _ _ (eq-eqb x x refl))),
    )

-- an order has at least the cost of its bottom part and the lower bound on the nodes above it
pub bounded_bound : (n : ℕ) (F : List Function) (r : LowerBound) (above below : List ℕ) → IsOrder n (above ++ below) →
    cost n F below + nodes_above n F r below ≤ size_under n F (above ++ below)
bounded_bound n F r above below o =
    omega (
      arith,
      bounded_through n F r above below o.once (λ y m. (o.all y).0 m),
      bounded_all n F r (above ++ below) (λ y lt. (o.all y).1 lt),
      size_is_cost n F (above ++ below) o,
    )
