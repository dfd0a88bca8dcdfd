-- Two neighbours of a list of variables exchanged.
--     crossed_is      what a swap makes
--     has_crossed, length_crossed      it has the same members, and as many
--     order_crossed, accepts_swap      it is an order again
use Rattle.std.proofs.Common.{◌≡◌, ℕ, zero, suc, ◌+◌, ◌<◌, false, ◌||◌, List, [], ◌∷◌, length, set, get_or, swap, refl, sym, ap, ◌∙◌, arith, nat_eq, eq-eqb, ne_eqb, add-one}
use Rattle.std.specs.List.{IsDistinct, AllByRecursion}
use Rattle.std.proofs.lemmas.Bool.{true≢false}
use Rattle.std.proofs.lemmas.List.Edits.{swap_is}
use Rattle.definitions.specs.OrderFaults.{Accepts}
use Rattle.definitions.specs.Orders.{has, IsOrder}

-- the variables at i and the next place, exchanged
abbrev pub crossed : List ℕ → ℕ → List ℕ
crossed [] i = []
crossed (x ∷ []) i = x ∷ []
crossed (x ∷ y ∷ order) zero = y ∷ x ∷ order
crossed (x ∷ y ∷ order) (suc i) = x ∷ crossed (y ∷ order) i

set_crossed : (order : List ℕ) (i : ℕ) → suc i < length order → set (set order i (get_or order (suc i) 0)) (suc i) (get_or order i 0) ≡ crossed order i
set_crossed [] i h = absurd (omega arith)
set_crossed (x ∷ []) i h = absurd (omega arith)
set_crossed (x ∷ y ∷ order) zero h = refl
set_crossed (x ∷ y ∷ order) (suc i) h = ap (λ zs. x ∷ zs) (set_crossed (y ∷ order) i (omega arith))

pub crossed_is : (order : List ℕ) (i : ℕ) → i + 1 < length order → swap order i (i + 1) ≡ crossed order i
crossed_is order i h =
    sym (swap_is order i (i + 1) 0 (omega arith) h) ∙ ap (λ j. set (set order i (get_or order j 0)) j (get_or order i 0)) (add-one i)
    ∙ set_crossed order i (omega arith)

pub has_crossed : (order : List ℕ) (i z : ℕ) → has (crossed order i) z ≡ has order z
has_crossed [] i z = refl
has_crossed (x ∷ []) i z = refl
has_crossed (x ∷ y ∷ order) zero z = grind arith
has_crossed (x ∷ y ∷ order) (suc i) z = ap (λ b. nat_eq z x || b) (has_crossed (y ∷ order) i z)

pub length_crossed : (order : List ℕ) (i : ℕ) → length (crossed order i) ≡ length order
length_crossed [] i = refl
length_crossed (x ∷ []) i = refl
length_crossed (x ∷ y ∷ order) zero = refl
length_crossed (x ∷ y ∷ order) (suc i) = ap suc (length_crossed (y ∷ order) i)

all_crossed : (P : ℕ → Type 0) (order : List ℕ) (i : ℕ) → AllByRecursion P order → AllByRecursion P (crossed order i)
all_crossed P [] i a = a
all_crossed P (x ∷ []) i a = a
all_crossed P (x ∷ y ∷ order) zero a = (a.1.0, (a.0, a.1.1))
all_crossed P (x ∷ y ∷ order) (suc i) a = (a.0, all_crossed P (y ∷ order) i a.1)

other_way : (x y : ℕ) → nat_eq x y ≡ false → nat_eq y x ≡ false
other_way x y e = ne_eqb y x (λ s. true≢false (sym (eq-eqb x y (sym s)) ∙ e))

distinct_crossed : (order : List ℕ) (i : ℕ) → IsDistinct nat_eq order → IsDistinct nat_eq (crossed order i)
unfolding IsDistinct
distinct_crossed [] i d = d
distinct_crossed (x ∷ []) i d = d
distinct_crossed (x ∷ y ∷ order) zero d = ((other_way x y d.0.0, d.1.0), (d.0.1, d.1.1))
distinct_crossed (x ∷ y ∷ order) (suc i) d = (all_crossed (λ w. nat_eq x w ≡ false) (y ∷ order) i d.0, distinct_crossed (y ∷ order) i d.1)

pub order_crossed : (n : ℕ) (order : List ℕ) (i : ℕ) → IsOrder n order → IsOrder n (crossed order i)
order_crossed n order i o = grind (arith, has_crossed, distinct_crossed)

pub accepts_swap : (order : List ℕ) (i : ℕ) → i + 1 < length order → Accepts order → Accepts (swap order i (i + 1))
accepts_swap order i h a = search (length_crossed, order_crossed, crossed_is)
