-- Functions with the variables on top of an order fixed to the bits of a path.
--     fixed_step      a function is made of the two in which one more variable is fixed
--     laid xs v p      a point with variables set to the bits of a path
--     fixed_point      with all variables fixed a function is the value at a point
use Rattle.std.proofs.Common.{◌≡◌, ◌≢◌, ℕ, zero, suc, ◌+◌, ◌/◌, ◌^◌, ◌<◌, Bool, true, false, cond, nat_eq, List, [], ◌∷◌, ◌++◌, length, take, get_or, set, refl, sym, ap, ◌∙◌, arith, subst, eqb}
use Rattle.std.specs.Int.{bit_at}
use Rattle.std.specs.List.{IsDistinct}
use Rattle.std.proofs.lemmas.List.{set-get_or, length-set, get_or-set_same, get_or-set_other, take_more, length-take}
use Rattle.std.proofs.lemmas.Nat.Bits.{bit_at-lt, bit_at-suc, bit_at_lowest, same_from_bits_below}
use Rattle.definitions.specs.Functions.{Point, Function, bit, weight, number, from_table, restrict}
use Rattle.definitions.specs.Orders.{place_in, IsOrder}
use Rattle.definitions.proofs.Lists.Orders.{has_at, place_at, place_get}
use Rattle.definitions.proofs.Bits.PointNumbers.{weight_bit, number-small, bit-number}
use Rattle.definitions.proofs.Sifting.Placements.{own_place}
use Rattle.node_words.specs.Meaning.{branch}
use Rattle.unique_table.specs.Plans.{fixed}
use Rattle.dd_builder.specs.Paths.{IsPointOf}

-- the variable is none of the list
abbrev pub IsApart : ℕ → List ℕ → Type 0
IsApart x [] = Unit {0}
IsApart x (y ∷ ys) = (x ≢ y) × IsApart x ys

-- a function is made of its restrictions by a variable
expanded : (x : ℕ) (f : Function) (p : Point) → branch x (restrict x false f) (restrict x true f) p ≡ f p
unfolding branch restrict
expanded x f p = grind (arith, set, set-get_or)

-- the lowest bit, and the others, of a path with one more bit on top
low_bit : (v k : ℕ) → bit_at (v + 2 ^ suc k) 0 ≡ bit_at v 0
low_bit v k = bit_at_lowest (v + 2 ^ suc k) ∙ (omega arith ∙ sym (bit_at_lowest v))

half : (v k : ℕ) → (v + 2 ^ suc k) / 2 ≡ v / 2 + 2 ^ k
half v k = omega arith

fixed_last : (xs : List ℕ) (x v : ℕ) (f : Function) (p : Point) → IsApart x xs → v < 2 ^ length xs
    → branch x (fixed (xs ++ x ∷ []) v f) (fixed (xs ++ x ∷ []) (v + 2 ^ length xs) f) p ≡ fixed xs v f p
unfolding fixed branch restrict
fixed_last [] x zero f p apart small = expanded x f p
fixed_last [] x (suc v) f p apart small = absurd (omega arith)
fixed_last (y ∷ ys) x v f p apart small =
    let q : Point = set p y (eqb (bit_at v 0) 1) in
    let there : bit q x ≡ bit p x = get_or-set_other p y x (eqb (bit_at v 0) 1) false apart.0 in
    let high : fixed (y ∷ (ys ++ x ∷ [])) (v + 2 ^ suc (length ys)) f p ≡ fixed (ys ++ x ∷ []) (v / 2 + 2 ^ length ys) f q =
    (λ i. fixed (ys ++ x ∷ []) (half v (length ys) i) f (set p y (eqb (low_bit v (length ys) i) 1))) in
    let small' : v < 2 ^ suc (length ys) = small in
    (λ i. cond (sym there i) (high i) (fixed (ys ++ x ∷ []) (v / 2) f q)) ∙ fixed_last ys x (v / 2) f q apart.1 (omega arith)

-- ---- orders

apart_places : (xs : List ℕ) (x : ℕ) → ((i : ℕ) → i < length xs → x ≢ get_or xs i 0) → IsApart x xs
apart_places [] x h = tt
apart_places (y ∷ ys) x h = (h 0 (omega arith), apart_places ys x (λ i l. h (suc i) (omega arith)))

pub get_or_take : (xs : List ℕ) (k i : ℕ) → i < k → get_or (take k xs) i 0 ≡ get_or xs i 0
get_or_take [] zero i l = refl
get_or_take [] (suc k) i l = refl
get_or_take (x ∷ xs) zero i l = absurd (omega arith)
get_or_take (x ∷ xs) (suc k) zero l = refl
get_or_take (x ∷ xs) (suc k) (suc i) l = get_or_take xs k i (omega arith)

-- a variable is none of those above it
pub above_apart : (order : List ℕ) (level : ℕ) → IsDistinct nat_eq order → level < length order → IsApart (get_or order level 0) (take level order)
above_apart order level once inside = apart_places (take level order) (get_or order level 0) (λ i l e.
    let n = length-take level order in
    let same : get_or order level 0 ≡ get_or order i 0 = e ∙ get_or_take order level i (omega arith) in
    omega (arith, sym (place_get order level once inside) ∙ (ap (place_in order) same ∙ place_get order i once (omega arith))))

-- a function with the variables above a level fixed is made of the two in which the level's variable is fixed, too
pub fixed_step : (order : List ℕ) (level v : ℕ) (f : Function) (p : Point) → IsDistinct nat_eq order → level < length order → v < 2 ^ level
    → branch (get_or order level 0) (fixed (take (level + 1) order) v f) (fixed (take (level + 1) order) (v + 2 ^ level) f) p ≡ fixed (take level order) v f p
fixed_step order level v f p once inside small =
    let x : ℕ = get_or order level 0 in
    let size : length (take level order) ≡ level = length-take level order ∙ omega arith in
    let more : take (level + 1) order ≡ take level order ++ x ∷ [] = take_more order level 0 inside in
    (λ i. branch x (fixed (more i) v f) (fixed (more i) (v + 2 ^ sym size i) f) p)
    ∙ fixed_last (take level order) x v f p (above_apart order level once inside) (subst (λ k. v < 2 ^ k) (sym size) small)

-- ---- all variables fixed

-- a point with variables set to the bits of a path
abbrev pub laid : List ℕ → ℕ → Point → Point
laid [] v p = p
laid (x ∷ xs) v p = laid xs (v / 2) (set p x (eqb (bit_at v 0) 1))

pub fixed_laid : (xs : List ℕ) (v : ℕ) (f : Function) (p : Point) → fixed xs v f p ≡ f (laid xs v p)
unfolding fixed restrict
fixed_laid [] v f p = refl
fixed_laid (x ∷ xs) v f p = fixed_laid xs (v / 2) f (set p x (eqb (bit_at v 0) 1))

pub length-laid : (xs : List ℕ) (v : ℕ) (p : Point) → length (laid xs v p) ≡ length p
length-laid [] v p = refl
length-laid (x ∷ xs) v p = length-laid xs (v / 2) (set p x (eqb (bit_at v 0) 1)) ∙ length-set p x (eqb (bit_at v 0) 1)

pub laid_apart : (xs : List ℕ) (v y : ℕ) (p : Point) → IsApart y xs → bit (laid xs v p) y ≡ bit p y
laid_apart [] v y p h = refl
laid_apart (x ∷ xs) v y p h = laid_apart xs (v / 2) y (set p x (eqb (bit_at v 0) 1)) h.1 ∙ get_or-set_other p x y (eqb (bit_at v 0) 1) false h.0

rest_distinct : (y : ℕ) (ys : List ℕ) → IsDistinct nat_eq (y ∷ ys) → IsDistinct nat_eq ys
unfolding IsDistinct
rest_distinct y ys o = o.1

bit-laid : (xs : List ℕ) (v i : ℕ) (p : Point) → IsDistinct nat_eq xs → i < length xs →
    ((j : ℕ) → j < length xs → get_or xs j 0 < length p) → bit (laid xs v p) (get_or xs i 0) ≡ eqb (bit_at v i) 1
bit-laid [] v i p once l inside = absurd (omega arith)
bit-laid (x ∷ xs) v zero p once l inside =
    laid_apart xs (v / 2) x (set p x (eqb (bit_at v 0) 1))
    (apart_places xs x
    (λ j k e. let s : 0 ≡ suc j = sym (place_get (x ∷ xs) 0 once (omega arith))
    ∙ (ap (place_in (x ∷ xs)) e ∙ place_get (x ∷ xs) (suc j) once (omega arith)) in
    omega arith))
    ∙ get_or-set_same p x (eqb (bit_at v 0) 1) false (inside 0 (omega arith))
bit-laid (x ∷ xs) v (suc i) p once l inside =
    bit-laid xs (v / 2) i (set p x (eqb (bit_at v 0) 1)) (rest_distinct x xs once) (omega arith)
    (λ j k. let e = length-set p x (eqb (bit_at v 0) 1) in omega (arith, inside (suc j) (omega arith)))
    ∙ ap (λ b. eqb b 1) (sym (bit_at-suc v i))

module _ (order : List ℕ) (is : IsOrder (length order) order) where
  variable_inside : (i : ℕ) → i < length order → get_or order i 0 < length order
  variable_inside i l = (is.all (get_or order i 0)).0 (has_at order i l)

  number-laid : (path point : ℕ) (p : Point) → IsPointOf order path point → length p ≡ length order → number (laid order path p) ≡ point
  number-laid path point p h l =
      let n : ℕ = length order in
      let long = length-laid order path p ∙ l in
      same_from_bits_below n (number (laid order path p)) point
      (subst (λ (z : ℕ). number (laid order path p) < 2 ^ z) long (number-small (laid order path p))) h.small
      (λ y few.
      let i : ℕ = place_in order y in
      let there = place_inside y few in
      let at : get_or order i 0 ≡ y = place_at order y there in
      bit-number (laid order path p) y (omega arith) ∙ (ap (λ z. weight (bit (laid order path p) z)) (sym at)
      ∙ (ap weight (bit-laid order path i p is.once there (λ j k. omega (arith, variable_inside j k)))
      ∙ (weight_bit (bit_at path i) (bit_at-lt path i) ∙ (sym (h.bits i there) ∙ ap (bit_at point) at)))))
    where
      place_inside : (y : ℕ) → y < length order → place_in order y < length order
      place_inside y few = (own_place y order is.once ((is.all y).1 few)).1

  -- with all variables fixed to the bits of a path a function is its value at the path's point
  pub fixed_point : (path point : ℕ) (t : List Bool) (p : Point) → IsPointOf order path point → length p ≡ length order →
      fixed order path (from_table t) p ≡ get_or t point false
  unfolding from_table
  fixed_point path point t p h l = fixed_laid order path (from_table t) p ∙ ap (λ z. get_or t z false) (number-laid path point p h l)
