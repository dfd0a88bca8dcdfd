-- The variables by falling count, ties by smaller index.
--     sifting_order_lem      each variable stands once, after those of larger count and those of the same count that are smaller
use Rattle.std.proofs.Common.{◌≡◌, ℕ, zero, suc, ◌+◌, ◌<◌, ◌≤◌, Bool, true, false, cond, ◌||◌, ◌⊎◌, inl, inr, List, [], ◌∷◌, refl, sym, ap, ◌∙◌, subst, arith, nat_eq, eqb-true, eq-eqb, ltb}
use Rattle.std.specs.List.{fold, range_with_len, IsDistinct}
use Rattle.std.proofs.lemmas.Bool.{false≢true, or_cases, or_left, or_right, ltb-true, ltb-false}
use Rattle.definitions.specs.Functions.{Function}
use Rattle.definitions.specs.Orders.{has, variables, place_in}
use Rattle.definitions.specs.Pairs.{is_above}
use Rattle.definitions.specs.Sifting.{count_at, insert_by_count, sifting_order, IsSiftingOrder}
use Rattle.definitions.proofs.Lists.Orders.{has_variables}
use Rattle.definitions.proofs.Precedence.Lists.{above_places}
use Rattle.definitions.proofs.Widths.Recurrence.{apart_from_absent}
use Rattle.definitions.proofs.Sifting.Placements.{inserted_has, sifting_variables}

module _ (count : ℕ → ℕ) where
  -- u goes in front of v
  abbrev Before : ℕ → ℕ → Type 0
  Before u v = (count v < count u) ⊎ ((count u ≡ count v) × (u < v))

  before_differs : (u v : ℕ) → Before u v → Before v u → ⊥
  before_differs u v h k = grind arith

  -- each goes in front of those after it
  unfoldable IsSorted : List ℕ → Type 0
  IsSorted [] = Unit {0}
  IsSorted (y ∷ ys) = ((z : ℕ) → has ys z ≡ true → Before y z) × IsSorted ys

  nothing_sorted : IsSorted []
  unfolding IsSorted
  nothing_sorted = tt

  insert_has : (x : ℕ) (ys : List ℕ) (z : ℕ) → (z ≡ x) ⊎ (has ys z ≡ true) → has (insert_by_count count x ys) z ≡ true
  unfolding insert_by_count
  insert_has x [] z h = elim h [ inl e ↦ or_left _ _ (eq-eqb z x e) | inr m ↦ absurd (false≢true m) ]
  insert_has x (y ∷ ys) z h = grind (arith, insert_has x ys z)

  insert_sorted : (x : ℕ) (ys : List ℕ) → ((z : ℕ) → has ys z ≡ true → z < x) → IsSorted ys → IsSorted (insert_by_count count x ys)
  unfolding IsSorted insert_by_count
  insert_sorted x [] a s = (λ z m. absurd (false≢true m), tt)
  insert_sorted x (y ∷ ys) a s = by (ltb (count y) (count x)) refl (insert_sorted x ys (λ z m. a z (or_right _ _ m)) s.1)
    where
      front : count y < count x → (z : ℕ) → has (y ∷ ys) z ≡ true → Before x z
      front lt z m = elim (or_cases (nat_eq z y) (has ys z) m) [
        | inl e ↦ inl (omega (arith, ap count (eqb-true z y e)))
        | inr k ↦ elim (s.0 z k) [ inl l ↦ inl (omega arith) | inr l ↦ inl (omega arith) ]
      ]

      behind : count x ≤ count y → (z : ℕ) → has (insert_by_count count x ys) z ≡ true → Before y z
      behind le z m = elim (inserted_has count x ys z m) [
        | inl e ↦
            grind arith
        | inr k ↦ s.0 z k
      ]

      by : (b : Bool) → ltb (count y) (count x) ≡ b → IsSorted (insert_by_count count x ys) → IsSorted (cond b (x ∷ y ∷ ys) (y ∷ insert_by_count count x ys))
      by true e r = (front (ltb-true (count y) (count x) e), s)
      by false e r = (behind (ltb-false (count y) (count x) e), r)

  all_sorted : (k a : ℕ) (ys : List ℕ) → ((z : ℕ) → has ys z ≡ true → z < a) → IsSorted ys →
      IsSorted (fold (λ zs x. insert_by_count count x zs) ys (range_with_len a k))
  all_sorted zero a ys h s = s
  all_sorted (suc k) a ys h s =
      all_sorted k (a + 1) (insert_by_count count a ys)
      (λ z m. elim (inserted_has count a ys z m) [ inl e ↦ omega arith | inr q ↦ omega (arith, h z q) ])
      (insert_sorted a ys h s)

  all_has : (xs ys : List ℕ) (z : ℕ) → (has xs z ≡ true) ⊎ (has ys z ≡ true) → has (fold (λ zs x. insert_by_count count x zs) ys xs) z ≡ true
  all_has [] ys z h = elim h [ inl m ↦ absurd (false≢true m) | inr m ↦ m ]
  all_has (x ∷ xs) ys z h =
      all_has xs (insert_by_count count x ys) z
      (elim h [
        | inl m ↦ elim (or_cases (nat_eq z x) (has xs z) m) [ inl e ↦ inr (insert_has x ys z (inl (eqb-true z x e))) | inr k ↦ inl k ]
        | inr m ↦ inr (insert_has x ys z (inr m))
      ])

  sorted_distinct : (xs : List ℕ) → IsSorted xs → IsDistinct nat_eq xs
  unfolding IsSorted IsDistinct
  sorted_distinct [] s = tt
  sorted_distinct (y ∷ ys) s = grind (arith, apart_from_absent, sorted_distinct ys s.1)

  sorted_above : (u v : ℕ) (xs : List ℕ) → IsSorted xs → has xs u ≡ true → has xs v ≡ true → Before u v → is_above u v xs ≡ true
  unfolding IsSorted is_above
  sorted_above u v [] s h k b = absurd (false≢true h)
  sorted_above u v (y ∷ ys) s h k b = by (nat_eq u y) refl h (λ m l. sorted_above u v ys s.1 m l b)
    where
      there : (c : Bool) → nat_eq v y ≡ c → (nat_eq v y ≡ true → ⊥) → (c || has ys v) ≡ true → has ys v ≡ true
      there true e other m = absurd (other e)
      there false e other m = m

      by : (c : Bool) → nat_eq u y ≡ c → (c || has ys u) ≡ true → (has ys u ≡ true → has ys v ≡ true → is_above u v ys ≡ true) →
          cond c (has ys v) (is_above u v ys) ≡ true
      by true e m r =
          there (nat_eq v y) refl (λ t. let b' : Before u u = subst (λ w. Before u w) (eqb-true v y t ∙ sym (eqb-true u y e)) b in before_differs u u b' b') k
      by false e m r =
          r m (there (nat_eq v y) refl (λ t. before_differs u y (subst (λ w. Before u w) (eqb-true v y t) b) (s.0 u m)) k)

pub sifting_order_lem : (n : ℕ) (F : List Function) (order : List ℕ) → IsSiftingOrder n F order (sifting_order n F order)
unfolding sifting_order
sifting_order_lem n F order = record {
  each = record { all = λ y. (λ h. sifting_variables n F order y h, λ l. here y l); once = once };
  falling = λ a b g h l. places a b g h (inl l);
  ties = λ a b l h e. places a b (omega arith) h (inr (e, l));
}
  where
    xs : List ℕ
    xs = fold (λ ys x. insert_by_count (count_at n F order) x ys) [] (variables n)

    sorted : IsSorted (count_at n F order) xs
    sorted = all_sorted (count_at n F order) n 0 [] (λ z m. absurd (false≢true m)) (nothing_sorted (count_at n F order))

    once : IsDistinct nat_eq xs
    once = sorted_distinct (count_at n F order) xs sorted

    here : (y : ℕ) → y < n → has xs y ≡ true
    here y l = all_has (count_at n F order) (variables n) [] y (inl ((has_variables n y).1 l))

    places : (a b : ℕ) → a < n → b < n → Before (count_at n F order) a b → place_in xs a < place_in xs b
    places a b g h k =
        ltb-true (place_in xs a) (place_in xs b)
        (sym (above_places a b xs once (here a g) (here b h)) ∙ sorted_above (count_at n F order) a b xs sorted (here a g) (here b h) k)
