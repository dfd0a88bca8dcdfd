-- The masks of the variables on which functions depend, and the most that the members of a mask ask for.
--     bit-support, support_has      the bits of one function's mask
--     supports_next, supports_all      the masks of a problem's functions, one after another
--     count_is, union_of_all, union_without_is      how many of them have a variable; what some has, and what some has that doesn't have a variable
--     entry_written      one more entry of a row
--     most_none, most_with      the most that the members of a mask ask for, one after another
--     members_gap      no members from a variable on
use Rattle.std.proofs.Common.{◌≡◌, ℕ, zero, suc, ◌+◌, ◌<◌, ◌≤◌, max, Bool, true, false, not, cond, ◌&&◌, ◌||◌, List, [], ◌∷◌, ◌++◌, length, map, slice_index, get_or, set, take, get_or-set_same, get_or-set_other, refl, sym, ap, ap₂, ◌∙◌, arith, eqb, eq-eqb, ne_eqb, bit_or, IsTrue}
use Rattle.std.specs.Int.{bit_at}
use Rattle.std.specs.List.{filter, fold, list_any, range_with_len}
use Rattle.std.proofs.lemmas.List.{append-nil, take_more, take_more_set, take_all, map-append, length-map}
use Rattle.std.proofs.lemmas.List.Elements.{filter-append}
use Rattle.std.proofs.lemmas.List.Sums.{fold-append}
use Rattle.std.proofs.lemmas.Simd.{map-map}
use Rattle.std.proofs.Math.Nat.{zero-max}
use Rattle.std.proofs.lemmas.Nat.Bits.{bit_at_or, bit_at-zero, same_from_bits}
use Rattle.definitions.specs.Functions.{Function, depends, from_table}
use Rattle.definitions.specs.Orders.{has, members, variables}
use Rattle.definitions.specs.Problems.{TruthTables, functions, outputs_of}
use Rattle.definitions.specs.LowerBounds.{support, functions_with, functions_without}
use Rattle.definitions.specs.Widths.{essential, essential_mask}
use Rattle.definitions.proofs.Lists.Orders.{has_filter, has_variables}
use Rattle.definitions.proofs.Lists.Ranges.{range_last}
use Rattle.definitions.proofs.Bits.Masks.{bit-mask_of}
use Rattle.definitions.proofs.Widths.Essential.{distinct_essential}
use Rattle.definitions.proofs.Widths.Outside.{bit_has}
use Rattle.definitions.proofs.Widths.Recurrence.{distinct_filter, distinct_variables}

-- ---- the variables on which functions depend

pub bit-support : (n : ℕ) (f : Function) (y : ℕ) → bit_at (support n f) y ≡ cond (has (variables n) y && depends n f y) 1 0
bit-support n f y = search (bit-mask_of, distinct_filter, distinct_variables, has_filter)

is_one : (b : Bool) → eqb (cond b 1 0) 1 ≡ b
is_one true = refl
is_one false = refl

-- a variable is in the mask of a function if the function depends on it
pub support_has : (n x : ℕ) → x < n → (f : Function) → eqb (bit_at (support n f) x) 1 ≡ depends n f x
support_has n x h f =
    ap (λ k. eqb k 1) (bit-support n f x ∙ ap (λ b. cond (b && depends n f x) 1 0) ((has_variables n x).1 h)) ∙ is_one (depends n f x)

-- one more function's mask
pub supports_next : (t : TruthTables) (found : List ℕ) (i v : ℕ) → i < length found → i < outputs_of t →
    v ≡ support t.inputs (from_table (get_or t.tables i [])) →
    take i found ≡ map (λ u. support t.inputs (from_table u)) (take i t.tables) →
    take (i + 1) (set found i v) ≡ map (λ u. support t.inputs (from_table u)) (take (i + 1) t.tables)
supports_next t found i v room lt e h =
    take_more_set found i v room ∙ ap₂ (λ ys y. ys ++ y ∷ []) h e
    ∙ sym (ap (map (λ u. support t.inputs (from_table u))) (take_more t.tables i [] lt)
    ∙ map-append (λ u. support t.inputs (from_table u)) (take i t.tables) (get_or t.tables i [] ∷ []))

pub supports_all : (t : TruthTables) (found : List ℕ) (i : ℕ) → i ≡ outputs_of t →
    take i found ≡ map (λ u. support t.inputs (from_table u)) (take i t.tables) → take (outputs_of t) found ≡ map (support t.inputs) (functions t)
supports_all t found i e h = grind (arith, take_all, map-map)

filter_mapped : {X Y : Type 0} (p : Y → Bool) (g : X → Y) (xs : List X) → filter p (map g xs) ≡ map g (filter (λ x. p (g x)) xs)
filter_mapped p g [] = refl
filter_mapped p g (x ∷ xs) = grind (arith, filter_mapped p g xs)

-- as many masks have a variable as functions depend on it
pub count_is : (n : ℕ) (F : List Function) (x : ℕ) (sets : List ℕ) → x < n → sets ≡ map (support n) F →
    length (filter (λ s. eqb (bit_at s x) 1) sets) ≡ length (functions_with n F x)
unfolding functions_with
count_is n F x sets h e = grind (arith, filter_mapped, length-map, support_has)

abbrev one_if : Bool → ℕ
one_if b = cond b 1 0

nowhere : (v : Bool) → one_if (v && false) ≡ 0
nowhere true = refl
nowhere false = refl

joined : (k : ℕ) (v d l : Bool) → max (max k (one_if (v && d))) (one_if (v && l)) ≡ max k (one_if (v && (d || l)))
joined k v d l = grind arith

union_bit : (n y : ℕ) (F : List Function) (a : ℕ) →
    bit_at (fold bit_or a (map (support n) F)) y ≡ max (bit_at a y) (one_if (has (variables n) y && list_any (λ f. depends n f y) F))
union_bit n y [] a = omega (arith, nowhere (has (variables n) y))
union_bit n y (f ∷ F) a = grind (arith, bit_at_or, bit-support, union_bit n y F (bit_or a (support n f)))

pub union_of_all : (n : ℕ) (F : List Function) → fold bit_or 0 (map (support n) F) ≡ essential_mask n F
unfolding essential_mask essential
union_of_all n F = search (same_from_bits, union_bit, bit_at-zero, zero-max, bit-mask_of, distinct_essential, has_filter)

pub union_without_is : (n : ℕ) (F : List Function) (x : ℕ) (sets : List ℕ) → x < n → sets ≡ map (support n) F →
    fold bit_or 0 (filter (λ s. not (eqb (bit_at s x) 1)) sets) ≡ essential_mask n (functions_without n F x)
unfolding functions_without
union_without_is n F x sets h e = grind (arith, filter_mapped, support_has, union_of_all)

-- ---- rows, one entry after another

pub entry_written : (f : ℕ → ℕ) (row : List ℕ) (k v : ℕ) → k < length row → v ≡ f k → ((y : ℕ) → y < k → slice_index row y ≡ f y) →
    (y : ℕ) → y < k + 1 → slice_index (set row k v) y ≡ f y
entry_written f row k v lt e h y m = grind (arith, get_or-set_same, get_or-set_other)

-- ---- the most that the members of a mask ask for, one variable after another

members_next : (x mask : ℕ) → members (x + 1) mask ≡ members x mask ++ filter (λ y. eqb (bit_at mask y) 1) (x ∷ [])
unfolding members
members_next x mask =
    ap (filter (λ y. eqb (bit_at mask y) 1))
    (ap (range_with_len 0) (let s : x + 1 ≡ suc x = omega arith in s) ∙ range_last x 0
    ∙ ap (λ y. range_with_len 0 x ++ y ∷ []) (let z : 0 + x ≡ x = omega arith in z))
    ∙ filter-append (λ y. eqb (bit_at mask y) 1) (range_with_len 0 x) (x ∷ [])

pub most_none : (f : ℕ → ℕ) (a mask : ℕ) → fold max a (map f (members 0 mask)) ≡ a
unfolding members
most_none f a mask = refl

most_next : (f : ℕ → ℕ) (a x mask : ℕ) (b : Bool) → eqb (bit_at mask x) 1 ≡ b →
    fold max a (map f (members (x + 1) mask)) ≡ fold max (fold max a (map f (members x mask))) (map f (cond b (x ∷ []) []))
most_next f a x mask b e = grind (arith, members_next, map-append, fold-append)

pub most_with : (f : ℕ → ℕ) (a x mask : ℕ) → bit_at mask x ≡ 1 →
    fold max a (map f (members (x + 1) mask)) ≡ max (fold max a (map f (members x mask))) (f x)
most_with f a x mask e = most_next f a x mask true (eq-eqb (bit_at mask x) 1 e)

-- no members from a variable on
pub members_gap : (mask x gap : ℕ) → ((y : ℕ) → x ≤ y → y < x + gap → bit_at mask y ≡ 0) → members (x + gap) mask ≡ members x mask
members_gap mask x zero none = ap (λ n. members n mask) (let e : x + 0 ≡ x = omega arith in e)
members_gap mask x (suc gap) none =
    let here = none (x + gap) (omega arith) (omega arith) in
    ap (λ n. members n mask) (let e : x + suc gap ≡ x + gap + 1 = omega arith in e)
    ∙ members_next (x + gap) mask
    ∙ ap (λ b. members (x + gap) mask ++ cond b ((x + gap) ∷ []) []) (ne_eqb (bit_at mask (x + gap)) 1 (λ e. absurd (omega arith)))
    ∙ append-nil (members (x + gap) mask) ∙ members_gap mask x gap (λ y h lt. none y h (omega arith))

pub member_has : (n mask x : ℕ) → x < n → bit_at mask x ≡ 1 → IsTrue (has (members n mask) x)
member_has n mask x lt e = bit_has n mask x lt ∙ eq-eqb (bit_at mask x) 1 e
