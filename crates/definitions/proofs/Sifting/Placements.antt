-- Sifting keeps an order of all variables, keeps the pairs, and never makes the size larger.
--     smallest_lem      the smallest of some orders is one of them, and none of them is smaller
--     placement_order, own_place      a placement is an order, and the order is one of its own placements
--     best_lem, sifted_lem      one variable, and all of them
use Rattle.std.proofs.Common.{◌≡◌, ℕ, ◌+◌, ◌<◌, ◌≤◌, Bool, true, false, not, cond, ◌||◌, ◌⊎◌, inl, inr, List, [], ◌∷◌, ◌++◌, map, length, take, drop, refl, sym, ap, ◌∙◌, subst, arith, nat_eq, eqb-true, eq-eqb, ltb, one-add}
use Rattle.std.specs.List.{filter, fold, insert, range_with_len, IsDistinct}
use Rattle.std.proofs.lemmas.Bool.{false≢true, or_cases, or_left, or_right, or_parts}
use Rattle.std.proofs.lemmas.List.{take-append-drop}
use Rattle.definitions.specs.Functions.{Function}
use Rattle.definitions.specs.Orders.{IsOrder, has, without, place_in, variables}
use Rattle.definitions.specs.Pairs.{Pair, keeps, Keeps}
use Rattle.definitions.specs.Levels.{size_under}
use Rattle.definitions.specs.Sifting.{placements, smallest_order, smallest_of, best, count_at, insert_by_count, sifting_order, sifted}
use Rattle.definitions.proofs.Lists.Sets.{Among, among_map, among_from_map, among_filter, among_from_filter}
use Rattle.definitions.proofs.Lists.Orders.{has_append, has_range, has_variables, absent_from_apart}
use Rattle.definitions.proofs.Widths.Recurrence.{apart_from_absent, has_again, absent_without, distinct_without, has_among}

-- ---- the smallest of some orders

smaller : ℕ → List Function → List ℕ → List ℕ → List ℕ
smaller n F a b = cond (ltb (size_under n F b) (size_under n F a)) b a

-- the smallest of some orders is one of them, and none of them is smaller
pub smallest_lem : (n : ℕ) (F : List Function) (first : List ℕ) (others : List (List ℕ)) →
    Among (smallest_order n F first others) (first ∷ others)
    × ((b : List ℕ) → Among b (first ∷ others) → size_under n F (smallest_order n F first others) ≤ size_under n F b)
unfolding smallest_order smaller
smallest_lem n F first [] = (inl refl, λ b m. elim m [ inl e ↦ omega (arith, ap (size_under n F) e) | inr r ↦ absurd r ])
smallest_lem n F first (o ∷ others) = grind (arith, smallest_lem n F (smaller n F first o) others)

smallest_of_lem : (n : ℕ) (F : List Function) (order own : List ℕ) (orders : List (List ℕ)) → Among own orders →
    Among (smallest_of n F order orders) orders × (size_under n F (smallest_of n F order orders) ≤ size_under n F own)
unfolding smallest_of
smallest_of_lem n F order own [] m = absurd m
smallest_of_lem n F order own (first ∷ others) m = let s = smallest_lem n F first others in (s.0, s.1 own m)

-- ---- placements

pub without_absent : (x : ℕ) (xs : List ℕ) → has xs x ≡ false → without x xs ≡ xs
unfolding without
without_absent x [] h = refl
without_absent x (y ∷ xs) h =
    let parts = or_parts (nat_eq x y) (has xs x) h in
    ap (λ c. cond (not c) (y ∷ without x xs) (without x xs)) parts.0 ∙ ap (λ ys. y ∷ ys) (without_absent x xs parts.1)

-- the order is the placement at the variable's own place
pub own_place : (x : ℕ) (xs : List ℕ) → IsDistinct nat_eq xs → has xs x ≡ true → (insert (without x xs) (place_in xs x) x ≡ xs) × (place_in xs x < length xs)
unfolding IsDistinct place_in without
own_place x [] d h = absurd (false≢true h)
own_place x (y ∷ xs) d h = by (nat_eq x y) refl h (own_place x xs d.1)
  where
    Rest : Bool → ℕ
    Rest c = cond (not c) (1 + place_in xs x) 0

    by : (c : Bool) → nat_eq x y ≡ c → (c || has xs x) ≡ true →
        (has xs x ≡ true → (insert (without x xs) (place_in xs x) x ≡ xs) × (place_in xs x < length xs)) →
        (insert (cond (not c) (y ∷ without x xs) (without x xs)) (Rest c) x ≡ y ∷ xs) × (Rest c < length (y ∷ xs))
    by true e k r =
        let s = eqb-true x y e in
        (ap (λ zs. x ∷ zs) (without_absent x xs (ap (has xs) s ∙ absent_from_apart y xs d.0)) ∙ ap (λ v. v ∷ xs) s, omega arith)
    by false e k r =
        let is = r k in
        (ap (λ i. insert (y ∷ without x xs) i x) (one-add (place_in xs x)) ∙ ap (λ zs. y ∷ zs) is.0, omega arith)

distinct_insert : (x : ℕ) (us vs : List ℕ) → IsDistinct nat_eq (us ++ vs) → has (us ++ vs) x ≡ false → IsDistinct nat_eq (us ++ x ∷ vs)
unfolding IsDistinct
distinct_insert x [] vs d h = (apart_from_absent x vs h, d)
distinct_insert x (a ∷ us) vs d h =
    let parts = or_parts (nat_eq x a) (has (us ++ vs) x) h in
    let apart = or_parts (has us a) (has vs a) (sym (has_append us vs a) ∙ (absent_from_apart a (us ++ vs) d.0)) in
    grind (arith, apart_from_absent, has_append, distinct_insert x us vs d.1 parts.1)

-- each placement of a variable is an order
placement_order : (n : ℕ) (order : List ℕ) (x i : ℕ) → IsOrder n order → has order x ≡ true → IsOrder n (insert (without x order) i x)
placement_order n order x i o h =
    record {
      all =
          λ y. (λ k. (o.all y).0 (sym (same y) ∙ k), λ lt. same y ∙ (o.all y).1 lt);
      once =
          distinct_insert x (take i zs) (drop i zs) apart none;
    }
  where
    zs : List ℕ
    zs = without x order

    whole : take i zs ++ drop i zs ≡ without x order
    whole = take-append-drop i zs

    apart : IsDistinct nat_eq (take i zs ++ drop i zs)
    apart = subst (IsDistinct nat_eq) (sym whole) (distinct_without x order o.once)

    none : has (take i zs ++ drop i zs) x ≡ false
    none = ap (λ ys. has ys x) whole ∙ absent_without x order

    same : (y : ℕ) → has (insert (without x order) i x) y ≡ has order y
    same y =
        has_append (take i zs) (x ∷ drop i zs) y ∙ turn (has (take i zs) y) (nat_eq y x) (has (drop i zs) y)
        ∙ ap (λ b. nat_eq y x || b) (sym (has_append (take i zs) (drop i zs) y) ∙ ap (λ ys. has ys y) whole) ∙ has_again x order h y
      where
        turn : (a b c : Bool) → (a || (b || c)) ≡ (b || (a || c))
        turn true true c = refl
        turn true false c = refl
        turn false b c = refl

-- ---- one variable, and all

pub best_lem : (n : ℕ) (F : List Function) (P : List Pair) (order : List ℕ) (x : ℕ) → IsOrder n order → Keeps P order → x < n →
    IsOrder n (best n F P order x) × Keeps P (best n F P order x) × (size_under n F (best n F P order x) ≤ size_under n F order)
unfolding best placements
best_lem n F P order x o k lt =
    let there = (o.all x).1 lt in
    let place = λ (i : ℕ). insert (without x order) i x in
    let all = map place (range_with_len 0 (length order)) in
    let own = own_place x order o.once there in
    let among : Among order all =
    subst (λ xs. Among xs all) own.0
    (among_map place (place_in order x) (range_with_len 0 (length order))
    (has_among (range_with_len 0 (length order)) (place_in order x)
    ((has_range (length order) 0 (place_in order x)).1 (omega arith, omega arith)))) in
    let got = smallest_of_lem n F order order (filter (keeps P) all) (among_filter (keeps P) order all among k) in
    let parts = among_from_filter (keeps P) (smallest_of n F order (filter (keeps P) all)) all got.0 in
    let from = among_from_map place (smallest_of n F order (filter (keeps P) all)) (range_with_len 0 (length order)) parts.0 in
    (subst (IsOrder n) (sym from.2) (placement_order n order x from.0 o there), parts.1, got.1)

-- the list by which sifting goes has only variables
pub inserted_has : (count : ℕ → ℕ) (x : ℕ) (ys : List ℕ) (z : ℕ) → has (insert_by_count count x ys) z ≡ true → (z ≡ x) ⊎ (has ys z ≡ true)
unfolding insert_by_count
inserted_has count x [] z h = elim (or_cases (nat_eq z x) false h) [ inl e ↦ inl (eqb-true z x e) | inr f ↦ absurd (false≢true f) ]
inserted_has count x (y ∷ ys) z h = grind (arith, inserted_has count x ys z)

pub all_inserted : (count : ℕ → ℕ) (n : ℕ) (xs ys : List ℕ) → ((z : ℕ) → has xs z ≡ true → z < n) → ((z : ℕ) → has ys z ≡ true → z < n) →
    (z : ℕ) → has (fold (λ zs x. insert_by_count count x zs) ys xs) z ≡ true → z < n
all_inserted count n [] ys a b z h = b z h
all_inserted count n (x ∷ xs) ys a b z h =
    all_inserted count n xs (insert_by_count count x ys) (λ v m. a v (or_right _ _ m))
    (λ v m. elim (inserted_has count x ys v m) [ inl e ↦ subst (λ w. w < n) (sym e) (a x (or_left _ _ (eq-eqb x x refl))) | inr k ↦ b v k ]) z h

pub sifting_variables : (n : ℕ) (F : List Function) (order : List ℕ) (z : ℕ) → has (sifting_order n F order) z ≡ true → z < n
unfolding sifting_order
sifting_variables n F order = all_inserted (count_at n F order) n (variables n) [] (λ z m. (has_variables n z).0 m) (λ z m. absurd (false≢true m))

sift_list : (n : ℕ) (F : List Function) (P : List Pair) (xs order : List ℕ) → ((z : ℕ) → has xs z ≡ true → z < n) → IsOrder n order → Keeps P order →
    IsOrder n (fold (best n F P) order xs) × Keeps P (fold (best n F P) order xs) × (size_under n F (fold (best n F P) order xs) ≤ size_under n F order)
sift_list n F P [] order a o k = (o, k, omega arith)
sift_list n F P (x ∷ xs) order a o k =
    let one = best_lem n F P order x o k (a x (or_left _ _ (eq-eqb x x refl))) in
    let rest = sift_list n F P xs (best n F P order x) (λ z m. a z (or_right _ _ m)) one.0 one.1 in
    (rest.0, rest.1, omega arith)

pub sifted_lem : (n : ℕ) (F : List Function) (P : List Pair) (order : List ℕ) → IsOrder n order → Keeps P order →
    IsOrder n (sifted n F P order) × Keeps P (sifted n F P order) × (size_under n F (sifted n F P order) ≤ size_under n F order)
unfolding sifted
sifted_lem n F P order o k = sift_list n F P (sifting_order n F order) order (sifting_variables n F order) o k
