-- Lists of variables that are orders.
--     index_of      where a member stands
--     accepts_variables, accepts_distinct      the file order, and distinct variables below their number, are orders
use Rattle.std.proofs.Common.{◌≡◌, ◌≢◌, ℕ, zero, suc, ◌+◌, ◌<◌, ◌≤◌, Bool, true, false, List, [], ◌∷◌, length, get_or, refl, sym, ap, ◌∙◌, arith, inl, inr, eqb, eqb-true, subst, ◌++◌, add-one, zero-add, ◌||◌}
use Rattle.std.specs.List.{All, IsDistinct}
use Rattle.std.proofs.lemmas.Bool.{cases_eq, ne_eqb, false≢true}
use Rattle.std.proofs.lemmas.List.{get_or_default}
use Rattle.std.proofs.lemmas.Map.Keys.{IsDistinct-from_apart}
use Rattle.std.proofs.lemmas.Nat.Bits.{bit_at-zero}
use Rattle.std.specs.Int.{bit_at}
use Rattle.std.proofs.lemmas.List.FromFn.{length-range_with_len}
use Rattle.std.proofs.lemmas.Map.Steps.{length-le_from_distinct_below}
use Rattle.definitions.specs.Orders.{IsOrder, has, variables}
use Rattle.definitions.specs.OrderFaults.{Accepts, IsInRange}
use Rattle.definitions.proofs.Lists.Orders.{has_variables, has_at, place_get}
use Rattle.definitions.proofs.Widths.Recurrence.{distinct_variables, apart_from_absent}
use Rattle.definitions.proofs.Lists.Ranges.{range_last}

-- a member stands somewhere
pub index_of : (xs : List ℕ) (y : ℕ) → has xs y ≡ true → (k : ℕ) × (k < length xs) × (get_or xs k 0 ≡ y)
index_of [] y h = absurd (false≢true h)
index_of (x ∷ xs) y h = by (eqb y x) refl (index_of xs y) h
  where
    by : (b : Bool) → eqb y x ≡ b → (has xs y ≡ true → (k : ℕ) × (k < length xs) × (get_or xs k 0 ≡ y)) → (b || has xs y) ≡ true →
        (k : ℕ) × (k < length (x ∷ xs)) × (get_or (x ∷ xs) k 0 ≡ y)
    by true e r k = (0, omega arith, sym (eqb-true y x e))
    by false e r k = let s = r k in (suc s.0, omega arith, s.2)

-- the file order is an order
pub order_variables : (n : ℕ) → IsOrder n (variables n)
order_variables n = record { all = has_variables n; once = distinct_variables n }

pub accepts_variables : (n : ℕ) → 1 ≤ n → n ≤ 16 → Accepts (variables n)
accepts_variables n a b = search (length-range_with_len, order_variables)

-- distinct variables, each below their number, are an order
module _ (xs : List ℕ) (below : All (λ x. x < length xs) xs) (once : IsDistinct eqb xs) where
  member_below : (y : ℕ) → has xs y ≡ true → y < length xs
  member_below y h = grind (arith, index_of)

  with_one : (y : ℕ) → has xs y ≡ false → IsDistinct eqb (y ∷ xs)
  unfolding IsDistinct
  with_one y e = (apart_from_absent y xs e, once)

  is_member : (y : ℕ) → y < length xs → (b : Bool) → has xs y ≡ b → has xs y ≡ true
  is_member y h true e = e
  is_member y h false e = absurd (too_many (length-le_from_distinct_below (y ∷ xs) (length xs) (with_one y e) within))
    where
      within : (q : ℕ) → has (y ∷ xs) q ≡ true → q < length xs
      within q k = by (eqb q y) refl k
        where
          by : (b : Bool) → eqb q y ≡ b → (b || has xs q) ≡ true → q < length xs
          by true f g = omega (arith, eqb-true q y f)
          by false f g = member_below q g

      too_many : suc (length xs) ≤ length xs → ⊥
      too_many k = omega arith

  pub distinct_is_order : IsOrder (length xs) xs
  distinct_is_order = record { all = λ y. (member_below y, λ h. is_member y h (has xs y) refl); once = once }

pub accepts_distinct : (xs : List ℕ) → IsInRange xs → IsDistinct eqb xs → Accepts xs
accepts_distinct xs r once = record { some = r.some; few = r.few; order = distinct_is_order xs r.below once }

-- in a list where a variable stands twice, the first place is not the second
pub repeat_refutes : (xs : List ℕ) (j k : ℕ) → j < k → k < length xs → get_or xs j 0 ≡ get_or xs k 0 → IsDistinct eqb xs → ⊥
repeat_refutes xs j k a b e once =
    let q = place_get xs k once b in
    grind (arith, place_get)

-- the first i variables are apart, and the mask has just their bits
pub record Seen (xs : List ℕ) (i mask : ℕ) : Type 0 where
  pub apart : (j k : ℕ) → j < k → k < i → get_or xs j 0 ≢ get_or xs k 0
  pub found : (y : ℕ) → bit_at mask y ≡ 1 → (k : ℕ) × (k < i) × (get_or xs k 0 ≡ y)
  pub kept : (k : ℕ) → k < i → bit_at mask (get_or xs k 0) ≡ 1

pub seen_none : (xs : List ℕ) → Seen xs 0 0
seen_none xs = record {
  apart = λ j k a b. absurd (omega arith);
  found = λ y e. absurd (zero_one (sym (bit_at-zero y) ∙ e));
  kept = λ k h. absurd (omega arith);
}
  where
    zero_one : zero ≡ suc zero → ⊥
    zero_one e = omega arith

module _ (xs : List ℕ) (i mask : ℕ) (s : Seen xs i mask) where
  -- a variable whose bit is there stands before
  pub seen_repeated : i < length xs → bit_at mask (get_or xs i 0) ≡ 1 → IsDistinct eqb xs → ⊥
  seen_repeated l e once = let f = s.found (get_or xs i 0) e in repeat_refutes xs f.0 i f.1 l f.2 once

  -- one more variable, whose bit is not there
  pub seen_more : (later : ℕ) → (bit_at mask (get_or xs i 0) ≡ 1 → ⊥) → bit_at later (get_or xs i 0) ≡ 1 →
      ((y : ℕ) → y ≢ get_or xs i 0 → bit_at later y ≡ bit_at mask y) → Seen xs (i + 1) later
  seen_more later new here others = record {
    apart = λ j k a b. elim (cases_eq k i) [
      | inl e ↦ (λ f. new (subst (λ (v : ℕ). bit_at mask v ≡ 1) (f ∙ ap (λ z. get_or xs z 0) e) (s.kept j (omega arith))))
      | inr ne ↦
          s.apart j k a (omega arith)
    ];
    found = λ y e. elim (cases_eq y (get_or xs i 0))
        [ inl f ↦ (i, omega arith, sym f) | inr ne ↦ let r = s.found y (sym (others y ne) ∙ e) in (r.0, omega arith, r.2) ];
    kept = λ k h. elim (cases_eq k i) [ inl e ↦ subst (λ (z : ℕ). bit_at later (get_or xs z 0) ≡ 1) (sym e) here | inr ne ↦ kept_before k (omega arith) ];
  }
    where
      kept_before : (k : ℕ) → k < i → bit_at later (get_or xs k 0) ≡ 1
      kept_before k h = others (get_or xs k 0) (λ e. new (subst (λ (v : ℕ). bit_at mask v ≡ 1) e (s.kept k h))) ∙ s.kept k h

-- where all have been seen, the list is distinct
pub seen_all : (xs : List ℕ) (mask : ℕ) → Seen xs (length xs) mask → IsDistinct eqb xs
seen_all xs mask s =
    IsDistinct-from_apart eqb xs
    (λ i j d a b. ne_eqb _ _ (λ e. s.apart i j a b (get_or_default xs i 0 d (omega arith) ∙ e ∙ get_or_default xs j d 0 b)))

-- one variable more
pub variables_more : (n : ℕ) → variables (n + 1) ≡ variables n ++ n ∷ []
variables_more n = ap variables (add-one n) ∙ range_last n 0 ∙ ap (λ z. variables n ++ z ∷ []) (zero-add n)

-- each variable of an order is below its length
pub member_at : (n : ℕ) (order : List ℕ) (k d : ℕ) → IsOrder n order → k < length order → get_or order k d < n
member_at n order k d o h =
    subst (λ v. v < n) (get_or_default order k 0 d h) ((o.all (get_or order k 0)).0 (has_at order k h))

-- and below 16
pub member_small : (order : List ℕ) → Accepts order → All (λ x. x < 16) order
member_small order a k d h = omega (arith, member_at (length order) order k d a.order h)
