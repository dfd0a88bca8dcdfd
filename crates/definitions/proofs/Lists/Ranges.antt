-- Runs of rising numbers, and what filters keep.
--     range_append, range_last, range_at      a run of m + k numbers; a run of one more; its numbers
--     filter_at_most, filter_same, filter_twice      a filter keeps at most all; two that agree on a list; one after another
use Rattle.std.proofs.Common.{◌≡◌, ℕ, zero, suc, ◌+◌, ◌<◌, ◌≤◌, zero-add, ◌&&◌, Bool, true, cond, List, [], ◌∷◌, ◌++◌, length, get_or, refl, ap, ap₂, ◌∙◌, eq-eqb, arith}
use Rattle.std.specs.List.{filter, range_with_len}
use Rattle.std.proofs.lemmas.Bool.{or_left, or_right}
use Rattle.std.proofs.lemmas.List.FromFn.{get_or-range_with_len}
use Rattle.definitions.specs.Orders.{has}

pub range_append : (a m k : ℕ) → range_with_len a (m + k) ≡ range_with_len a m ++ range_with_len (a + m) k
range_append a zero k = ap₂ range_with_len (omega arith) (omega arith)
range_append a (suc m) k =
    let e : suc m + k ≡ suc (m + k) = omega arith in
    grind (arith, range_append (a + 1) m k)

pub range_last : (k a : ℕ) → range_with_len a (suc k) ≡ range_with_len a k ++ (a + k) ∷ []
range_last zero a = ap (λ u. u ∷ []) (omega arith)
range_last (suc k) a = grind (arith, range_last k (a + 1))

pub range_at : (n i : ℕ) → i < n → get_or (range_with_len 0 n) i 0 ≡ i
range_at n i lt = get_or-range_with_len 0 n i 0 lt ∙ zero-add i

pub filter_at_most : {X : Type 0} (p : X → Bool) (xs : List X) → length (filter p xs) ≤ length xs
filter_at_most p [] = omega arith
filter_at_most p (x ∷ xs) = grind (arith, filter_at_most p xs)

pub filter_same : (p q : ℕ → Bool) (xs : List ℕ) → ((y : ℕ) → has xs y ≡ true → p y ≡ q y) → filter p xs ≡ filter q xs
filter_same p q [] h = refl
filter_same p q (x ∷ xs) h = ap₂ (λ b zs. cond b (x ∷ zs) zs) (h x (or_left _ _ (eq-eqb x x refl))) (filter_same p q xs (λ y m. h y (or_right _ _ m)))

pub filter_twice : {X : Type 0} (p q : X → Bool) (xs : List X) → filter q (filter p xs) ≡ filter (λ x. p x && q x) xs
filter_twice p q [] = refl
filter_twice p q (x ∷ xs) = grind (arith, filter_twice p q xs)
