-- Lists of variables: membership, and the parts of an order.
--     same_bool      two tests are equal where each passes if the other does
--     has_append, has_filter, has_variables, has_outside      membership in lists that are made of others
--     above_lem      the variables above a level are those outside the level's own and the ones below
use Rattle.std.proofs.Common.{◌≡◌, ◌↔◌, ℕ, zero, suc, ◌+◌, ◌<◌, ◌≤◌, Bool, true, false, not, cond, ◌&&◌, ◌||◌, inl, inr, List, [], ◌∷◌, ◌++◌, length, refl, sym, ap, ◌∙◌, subst, arith, nat_eq, eqb-true, eq-eqb, one-add, get_or}
use Rattle.std.specs.List.{filter, range_with_len, IsDistinct, AllByRecursion}
use Rattle.std.proofs.lemmas.Bool.{false≢true, true≢false, cases_Bool, or_cases, or_left, or_right, and_parts, and_from, not-true, not_from_false}
use Rattle.definitions.specs.Orders.{has, IsOrder, variables, place_in}
use Rattle.definitions.specs.Widths.{outside}

pub same_bool : (a b : Bool) → (a ≡ true → b ≡ true) → (b ≡ true → a ≡ true) → a ≡ b
same_bool a b h k = grind arith

pub has_append : (xs ys : List ℕ) (y : ℕ) → has (xs ++ ys) y ≡ (has xs y || has ys y)
has_append [] ys y = refl
has_append (x ∷ xs) ys y = grind (arith, has_append xs ys y)

pub has_filter : (p : ℕ → Bool) (xs : List ℕ) (y : ℕ) → has (filter p xs) y ≡ (has xs y && p y)
has_filter p [] y = refl
has_filter p (x ∷ xs) y = grind (arith, has_filter p xs y)

pub has_range : (k a y : ℕ) → (has (range_with_len a k) y ≡ true → (a ≤ y) × (y < a + k)) × ((a ≤ y) × (y < a + k) → has (range_with_len a k) y ≡ true)
has_range zero a y = (λ h. absurd (false≢true h), λ h. absurd (omega arith))
has_range (suc k) a y = grind (arith, has_range k (a + 1) y)

pub has_variables : (n y : ℕ) → (has (variables n) y ≡ true) ↔ (y < n)
has_variables n y = (λ h. omega (arith, ((has_range n 0 y).0 h).1), λ h. (has_range n 0 y).1 (omega arith, omega arith))

pub has_outside : (n : ℕ) (T : List ℕ) (y : ℕ) → has (outside n T) y ≡ (has (variables n) y && not (has T y))
unfolding outside
has_outside n T y = has_filter (λ z. not (has T z)) (variables n) y

-- no later element is one that differs from all
pub absent_from_apart : (z : ℕ) (xs : List ℕ) → AllByRecursion (λ w. nat_eq z w ≡ false) xs → has xs z ≡ false
absent_from_apart z [] h = refl
absent_from_apart z (x ∷ xs) h = ap (λ b. b || has xs z) h.0 ∙ absent_from_apart z xs h.1

-- a list with no two equal elements has none both before and after
pub apart_parts : (xs ys : List ℕ) (y : ℕ) → IsDistinct nat_eq (xs ++ ys) → has xs y ≡ true → has ys y ≡ true → ⊥
unfolding IsDistinct
apart_parts [] ys y d h k = false≢true h
apart_parts (x ∷ xs) ys y d h k =
    elim (or_cases (nat_eq y x) (has xs y) h) [
      | inl e ↦
          let s : y ≡ x = eqb-true y x e in
          let there : has (xs ++ ys) x ≡ true = subst (λ z. has (xs ++ ys) z ≡ true) s (has_append xs ys y ∙ or_right (has xs y) (has ys y) k) in
          true≢false (sym there ∙ (absent_from_apart x (xs ++ ys) d.0))
      | inr r ↦ apart_parts xs ys y d.1 r k
    ]

-- the variables above a level are those outside the level's own and the ones below
pub above_lem : (n : ℕ) (above : List ℕ) (x : ℕ) (below : List ℕ) → IsOrder n (above ++ x ∷ below) → (y : ℕ) → has above y ≡ has (outside n (x ∷ below)) y
above_lem n above x below o y =
    same_bool (has above y) (has (outside n (x ∷ below)) y)
    (λ h. has_outside n (x ∷ below) y
    ∙ and_from _ _ ((has_variables n y).1 ((o.all y).0 (has_append above (x ∷ below) y ∙ or_left _ _ h))) (not_from_false _ (gone h)))
    (λ h.
    let parts = and_parts (has (variables n) y) (not (has (x ∷ below) y)) (sym (has_outside n (x ∷ below) y) ∙ h) in
    elim (or_cases (has above y) (has (x ∷ below) y) (sym (has_append above (x ∷ below) y) ∙ (o.all y).1 ((has_variables n y).0 parts.0))) [
      | inl a ↦ a
      | inr b ↦ absurd (true≢false (sym b ∙ not-true _ parts.1))
    ])
  where
    gone : has above y ≡ true → has (x ∷ below) y ≡ false
    gone h = elim (cases_Bool (has (x ∷ below) y)) [ inl t ↦ absurd (apart_parts above (x ∷ below) y o.once h t) | inr e ↦ e ]

-- the element at a place is among them
pub has_at : (xs : List ℕ) (k : ℕ) → k < length xs → has xs (get_or xs k 0) ≡ true
has_at [] k h = absurd (omega arith)
has_at (x ∷ xs) zero h = or_left _ _ (eq-eqb x x refl)
has_at (x ∷ xs) (suc k) h = or_right _ _ (has_at xs k (omega arith))

-- ---- places

-- the variable at the place of v is v
pub place_at : (xs : List ℕ) (v : ℕ) → place_in xs v < length xs → get_or xs (place_in xs v) 0 ≡ v
unfolding place_in
place_at [] v h = absurd (omega arith)
place_at (x ∷ xs) v h = grind (arith, place_at xs v)

-- the place of the variable at place k is k
pub place_get : (xs : List ℕ) (k : ℕ) → IsDistinct nat_eq xs → k < length xs → place_in xs (get_or xs k 0) ≡ k
unfolding place_in IsDistinct
place_get [] k d h = absurd (omega arith)
place_get (x ∷ xs) zero d h = ap (λ c. cond (not c) (1 + place_in xs x) 0) (eq-eqb x x refl)
place_get (x ∷ xs) (suc k) d h =
    let e : nat_eq (get_or xs k 0) x ≡ false = differs (get_or xs k 0) xs d.0 (has_at xs k (omega arith)) in
    ap (λ c. cond (not c) (1 + place_in xs (get_or xs k 0)) 0) e ∙ ap (λ m. 1 + m) (place_get xs k d.1 (omega arith)) ∙ one-add k
  where
    differs : (v : ℕ) (ys : List ℕ) → AllByRecursion (λ w. nat_eq x w ≡ false) ys → has ys v ≡ true → nat_eq v x ≡ false
    differs v ys a h =
        elim (cases_Bool (nat_eq v x)) [
          | inl t ↦ absurd (true≢false (sym h ∙ ap (has ys) (eqb-true v x t) ∙ absent_from_apart x ys a))
          | inr e ↦ e
        ]

-- what is in a list has a place there
pub place_small : (xs : List ℕ) (v : ℕ) → has xs v ≡ true → place_in xs v < length xs
unfolding place_in
place_small [] v h = absurd (false≢true h)
place_small (x ∷ xs) v h = grind (arith, place_small xs v)
