-- The place that sifting chooses: the uppermost of those of least size.
--     best_at_best_place      the best order has the variable at its best place
--     best_from_place      and there is one such place only
use Rattle.std.proofs.Common.{◌≡◌, ℕ, zero, suc, ◌+◌, ◌<◌, ◌≤◌, Bool, true, false, cond, ◌⊎◌, inl, inr, List, ◌∷◌, map, length, refl, sym, ap, ◌∙◌, arith, ltb}
use Rattle.std.specs.List.{filter, range_with_len}
use Rattle.std.proofs.lemmas.Bool.{true≢false, cases_Bool, ltb-true, ltb-false}
use Rattle.definitions.specs.Functions.{Function}
use Rattle.definitions.specs.Orders.{IsOrder}
use Rattle.definitions.specs.Pairs.{Pair, keeps, Keeps}
use Rattle.definitions.specs.Levels.{size_under}
use Rattle.definitions.specs.Sifting.{moved, placements, smallest_order, smallest_of, best, IsBestPlace}
use Rattle.definitions.proofs.Sifting.Placements.{own_place}
use Rattle.definitions.specs.Orders.{place_in}

-- the orders f a, f (a + 1), .. that pass a test
module _ (n : ℕ) (F : List Function) (p : List ℕ → Bool) (f : ℕ → List ℕ) where
  abbrev size : List ℕ → ℕ
  size xs = size_under n F xs

  abbrev passing : ℕ → ℕ → List (List ℕ)
  passing a k = filter p (map f (range_with_len a k))

  -- place i passes and has the least size, and each above that passes has a larger one
  pub record IsFirstLeast (a k i : ℕ) : Type 0 where
    pub from : a ≤ i
    pub to : i < a + k
    pub passes : p (f i) ≡ true
    pub least : (j : ℕ) → a ≤ j → j < a + k → p (f j) ≡ true → size (f i) ≤ size (f j)
    pub above : (j : ℕ) → a ≤ j → j < i → p (f j) ≡ true → size (f i) < size (f j)

  -- one place more in front, at which the test fails or the size is larger
  extend : (a k i : ℕ) → IsFirstLeast (a + 1) k i → (p (f a) ≡ true → size (f i) < size (f a)) → IsFirstLeast a (suc k) i
  extend a k i w h = grind arith

  -- what the smallest order is: the one in hand, which no other is below, or the first of the least size
  abbrev Outcome : List ℕ → ℕ → ℕ → List ℕ → Type 0
  Outcome held a k r =
      ((r ≡ held) × ((j : ℕ) → a ≤ j → j < a + k → p (f j) ≡ true → size held ≤ size (f j)))
      ⊎ ((i : ℕ) × IsFirstLeast a k i × (r ≡ f i) × (size (f i) < size held))

  -- one place more in front, at which the test fails or the size is not below the one in hand
  later : (held : List ℕ) (a k : ℕ) (r : List ℕ) → (p (f a) ≡ true → size held ≤ size (f a)) → Outcome held (a + 1) k r → Outcome held a (suc k) r
  later held a k r h o = grind arith

  walk : (held : List ℕ) (k a : ℕ) → Outcome held a k (smallest_order n F held (passing a k))
  unfolding smallest_order
  walk held zero a = inl (refl, λ j g h t. absurd (omega arith))
  walk held (suc k) a = by (p (f a)) refl (walk (f a) k (a + 1)) (walk held k (a + 1))
    where
      taken : (c : Bool) → ltb (size (f a)) (size held) ≡ c → p (f a) ≡ true → Outcome (f a) (a + 1) k (smallest_order n F (f a) (passing (a + 1) k)) →
          Outcome held (a + 1) k (smallest_order n F held (passing (a + 1) k)) →
          Outcome held a (suc k) (smallest_order n F (cond c (f a) held) (passing (a + 1) k))
      taken true e t here kept =
          let lt = ltb-true (size (f a)) (size held) e in
          elim here [
            | inl s ↦ grind arith
            | inr s ↦ inr (s.0, extend a k s.0 s.1 (λ u. s.3), s.2, omega arith)
          ]
      taken false e t here kept = let le = ltb-false (size (f a)) (size held) e in later held a k _ (λ u. le) kept

      by : (b : Bool) → p (f a) ≡ b → Outcome (f a) (a + 1) k (smallest_order n F (f a) (passing (a + 1) k)) →
          Outcome held (a + 1) k (smallest_order n F held (passing (a + 1) k)) →
          Outcome held a (suc k) (smallest_order n F held (cond b (f a ∷ passing (a + 1) k) (passing (a + 1) k)))
      by true e here kept = taken (ltb (size (f a)) (size held)) refl e here kept
      by false e here kept = later held a k _ (λ t. absurd (true≢false (sym t ∙ e))) kept

  -- where some place passes, the smallest order is at the first of the least size
  first_least : (order : List ℕ) (k a own : ℕ) → a ≤ own → own < a + k → p (f own) ≡ true →
      (i : ℕ) × IsFirstLeast a k i × (smallest_of n F order (passing a k) ≡ f i)
  unfolding smallest_of
  first_least order zero a own g h t = absurd (omega arith)
  first_least order (suc k) a own g h t = by (p (f a)) refl (λ q. first_least order k (a + 1) own q (omega arith) t)
    where
      by : (b : Bool) → p (f a) ≡ b →
          (a + 1 ≤ own → (i : ℕ) × IsFirstLeast (a + 1) k i × (smallest_of n F order (passing (a + 1) k) ≡ f i)) →
          (i : ℕ) × IsFirstLeast a (suc k) i × (smallest_of n F order (cond b (f a ∷ passing (a + 1) k) (passing (a + 1) k)) ≡ f i)
      by true e rest =
          elim (walk (f a) k (a + 1)) [
            | inl s ↦ grind arith
            | inr s ↦ (s.0, extend a k s.0 s.1 (λ u. s.3), s.2)
          ]
      by false e rest = grind arith

pub best_at_best_place : (n : ℕ) (F : List Function) (P : List Pair) (order : List ℕ) (x : ℕ) → IsOrder n order → Keeps P order → x < n →
    (i : ℕ) × IsBestPlace n F P order x i × (best n F P order x ≡ moved order x i)
unfolding best placements
best_at_best_place n F P order x o k lt =
    let own = own_place x order o.once ((o.all x).1 lt) in
    let s = first_least n F (keeps P) (λ i. moved order x i) order (length order) 0 (place_in order x) (omega arith)
    (omega arith) (ap (keeps P) own.0 ∙ k) in grind arith

-- and there is one such place only
pub best_from_place : (n : ℕ) (F : List Function) (P : List Pair) (order : List ℕ) (x i : ℕ) → IsOrder n order → Keeps P order → x < n →
    IsBestPlace n F P order x i →
    best n F P order x ≡ moved order x i
best_from_place n F P order x i o k lt w =
    let s = best_at_best_place n F P order x o k lt in
    s.2 ∙ ap (moved order x) (same s.0 s.1)
  where
    same : (j : ℕ) → IsBestPlace n F P order x j → j ≡ i
    same j v = elim (cases_Bool (ltb i j)) [
      | inl e ↦ let l = ltb-true i j e in let a = v.uppermost i l w.kept in absurd (omega arith)
      | inr e ↦ grind arith
    ]
