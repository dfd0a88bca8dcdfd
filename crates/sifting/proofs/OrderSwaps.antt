-- Pairs that an order keeps, two of whose neighbours are swapped.
--     keeps_crossed      the pairs are kept still, where the two are no pair
use Rattle.std.proofs.Common.{◌≡◌, ℕ, zero, suc, ◌<◌, Bool, true, false, cond, ◌&&◌, List, [], ◌∷◌, length, get_or, refl, sym, ◌∙◌, arith, nat_eq, eqb-true, eq-eqb}
use Rattle.std.specs.List.{list_all}
use Rattle.std.proofs.lemmas.Bool.{true≢false, or_right, or_parts, and_parts, and_from, false_from_ne_true}
use Rattle.definitions.proofs.Lists.Swaps.{crossed, has_crossed}
use Rattle.definitions.specs.Orders.{has}
use Rattle.definitions.specs.Pairs.{Pair, has_pair, is_above, keeps, Keeps}

-- a pair that is kept, and isn't the two, is kept still
above_crossed : (a b : ℕ) (order : List ℕ) (i : ℕ) → suc i < length order → ((a ≡ get_or order i 0) → (b ≡ get_or order (suc i) 0) → ⊥) →
    is_above a b order ≡ true → is_above a b (crossed order i) ≡ true
unfolding is_above
above_crossed a b [] i h ne k = absurd (omega arith)
above_crossed a b (x ∷ []) i h ne k = absurd (omega arith)
above_crossed a b (x ∷ y ∷ order) zero h ne k = grind (arith, false_from_ne_true, eqb-true, or_right)
above_crossed a b (x ∷ y ∷ order) (suc i) h ne k = by (nat_eq a x) k (above_crossed a b (y ∷ order) i (omega arith) ne)
  where
    by : (c : Bool) → cond c (has (y ∷ order) b) (is_above a b (y ∷ order)) ≡ true →
        (is_above a b (y ∷ order) ≡ true → is_above a b (crossed (y ∷ order) i) ≡ true) →
        cond c (has (crossed (y ∷ order) i) b) (is_above a b (crossed (y ∷ order) i)) ≡ true
    by true k' r = has_crossed (y ∷ order) i b ∙ k'
    by false k' r = r k'

pub keeps_crossed : (P : List Pair) (order : List ℕ) (i : ℕ) → suc i < length order →
    has_pair P (get_or order i 0) (get_or order (suc i) 0) ≡ false → Keeps P order → Keeps P (crossed order i)
unfolding keeps
keeps_crossed [] order i h none k = refl
keeps_crossed (p ∷ P) order i h none k =
    let parts = and_parts (is_above p.0 p.1 order) (list_all (λ (q : Pair). is_above q.0 q.1 order) P) k in
    let out = or_parts (nat_eq (get_or order i 0) p.0 && nat_eq (get_or order (suc i) 0) p.1) (has_pair P (get_or order i 0) (get_or order (suc i) 0)) none in
    and_from _ _
    (above_crossed p.0 p.1 order i h
    (λ e f. true≢false
    (sym (and_from _ _ (eq-eqb (get_or order i 0) p.0 (sym e)) (eq-eqb (get_or order (suc i) 0) p.1 (sym f))) ∙ out.0))
    parts.0)
    (keeps_crossed P order i h out.1 parts.1)
