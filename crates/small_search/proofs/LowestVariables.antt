-- A set and its lowest variable, by masks.
--     IsLowest set x, lowest      x is the lowest variable of a set; the trailing zeros of a mask tell it
--     parent_is, parent_free, size_more      the set without it, and the sizes of both
--     sets_are, within      how many sets there are, and that a mask is one of theirs
--     way_own, way_above      the part of a set from a bound on: all of it, or that of the mask before
use Rattle.std.proofs.Common.{◌≡◌, ℕ, zero, suc, ◌+◌, ◌-◌, ◌*◌, ◌/◌, ◌%◌, ◌^◌, ◌<◌, ◌≤◌, inl, inr, count_ones, refl, sym, ap, ◌∙◌, arith, w16, zero-mul, subst, pow_mono}
use lib.Count.{ones}
use Rattle.std.specs.Int.{bit_at, trailing_zeros}
use Rattle.std.proofs.Math.Nat.{mod-lt}
use Rattle.std.proofs.lemmas.Bool.{cases_lt}
use Rattle.std.proofs.lemmas.Nat.{pow_pos, pow-add, div-add-mod', div-mul-add, ones_cat, zero_from_ones, one_shl}
use Rattle.std.proofs.lemmas.Nat.Bits.{bit_at-trailing_zeros}
use Rattle.subfunction_classes.proofs.HighSets.{low_bits, multiple}

pub sets_are : (n m : ℕ) → n ≡ m → n ≤ 16 → (1 * 2 ^ n % 2 ^ 32 ≡ 2 ^ m) × (2 ^ m ≤ 65536)
sets_are n m e few =
    let s = one_shl n 32 (omega (arith, few)) in
    (s ∙ ap (λ k. 2 ^ k) e, let b : m ≤ 16 = omega (arith, e, few) in pow_mono b)

pub within : (number n m : ℕ) → number < 1 * 2 ^ n % 2 ^ 32 → n ≡ m → n ≤ 16 → number < 2 ^ m
within number n m lt e few = subst (λ k. number < k) (sets_are n m e few).0 lt

pub record IsLowest (set x : ℕ) : Type 0 where
  pub below : set % 2 ^ x ≡ 0
  pub bit : bit_at set x ≡ 1

below_none : (set x : ℕ) → ((i : ℕ) → i < x → bit_at set i ≡ 0) → set % 2 ^ x ≡ 0
below_none set zero h = omega (arith, mod-lt set (pow_pos 0))
below_none set (suc x) h =
    let e : suc x ≡ x + 1 = omega arith in
    let b = ap (λ k. k * 2 ^ x) (h x (omega arith)) ∙ zero-mul (2 ^ x) in
    ap (λ k. set % 2 ^ k) e ∙ low_bits set x ∙ omega (arith, b, below_none set x (λ i l. h i (omega arith)))

pub lowest : (set : ℕ) → 0 < set → set < 65536 → IsLowest set (trailing_zeros w16 set)
lowest set some small =
    let z = bit_at-trailing_zeros w16 set some small in
    record { below = below_none set (trailing_zeros w16 set) z.2; bit = z.1 }

pub no_ones : count_ones 0 ≡ 0
unfolding ones
no_ones = refl

one_one : count_ones 1 ≡ 1
unfolding ones
one_one = refl

-- a multiple, divided
quotient : (a w : ℕ) → 0 < w → (a * w) / w ≡ a
quotient a w some = ap (λ k. k / w) (let e : a * w ≡ a * w + 0 = omega arith in e) ∙ div-mul-add a w 0 some

module _ (set x : ℕ) (low : IsLowest set x) where
  abbrev high : ℕ
  high = set / 2 ^ x

  abbrev rest : ℕ
  rest = high / 2

  set_is : set ≡ high * 2 ^ x
  set_is = omega (arith, div-add-mod' set (2 ^ x), low.below)

  high_is : high ≡ rest * 2 + 1
  high_is = omega (arith, div-add-mod' high 2, low.bit)

  before : set - 1 ≡ (rest * 2) * 2 ^ x + (2 ^ x - 1)
  before =
      let p = pow_pos x in
      let e = set_is ∙ ap (λ k. k * 2 ^ x) high_is in
      omega (arith, e, p)

  before_high : (set - 1) / 2 ^ x ≡ rest * 2
  before_high = let p = pow_pos x in ap (λ k. k / 2 ^ x) before ∙ div-mul-add (rest * 2) (2 ^ x) (2 ^ x - 1) (omega arith)

  pub parent_is : (set - 1) / 2 ^ x * 2 ^ x ≡ set - 2 ^ x
  parent_is =
      let e = set_is ∙ ap (λ k. k * 2 ^ x) high_is in
      let b = ap (λ k. k * 2 ^ x) before_high in
      omega (arith, e, b)

  pub parent_free : (set - 2 ^ x) % 2 ^ (x + 1) ≡ 0
  parent_free =
      let e = set_is ∙ ap (λ k. k * 2 ^ x) high_is in
      let w : 2 ^ (x + 1) ≡ 2 ^ x * 2 = pow-add 2 x 1 in
      ap (λ k. k % 2 ^ (x + 1)) (let f : set - 2 ^ x ≡ rest * (2 ^ x * 2) = omega (arith, e) in f ∙ ap (λ k. rest * k) (sym w))
      ∙ multiple rest (2 ^ (x + 1)) (pow_pos (x + 1))

  pub parent_back : (set - 2 ^ x) + 2 ^ x ≡ set
  parent_back = let e = set_is ∙ ap (λ k. k * 2 ^ x) high_is in omega (arith, e)

  size_high : count_ones set ≡ count_ones high
  size_high =
      ap count_ones (let e = set_is in let f : set ≡ high * 2 ^ x + 0 = omega arith in f)
      ∙ ones_cat x high 0 (pow_pos x) ∙ omega (arith, no_ones)

  pub size_more : count_ones ((set - 1) / 2 ^ x) + 1 ≡ count_ones set
  size_more =
      let a = ap count_ones (high_is ∙ (let f : rest * 2 + 1 ≡ rest * 2 ^ 1 + 1 = omega arith in f)) ∙ ones_cat 1 rest 1 (omega arith) in
      let b = ap count_ones (before_high ∙ (let f : rest * 2 ≡ rest * 2 ^ 1 + 0 = omega arith in f)) ∙ ones_cat 1 rest 0 (omega arith) in
      omega (arith, a, b, size_high, no_ones, one_one)

  -- the set, divided by a smaller power of two
  abbrev more : ℕ → ℕ
  more k = high * 2 ^ (x - k)

  whole : (k : ℕ) → k ≤ x → set ≡ more k * 2 ^ k
  whole k le =
      let w : 2 ^ x ≡ 2 ^ (x - k) * 2 ^ k = ap (λ i. 2 ^ i) (let e : x ≡ (x - k) + k = omega arith in e) ∙ pow-add 2 (x - k) k in
      set_is ∙ ap (λ i. high * i) w ∙ omega arith

  part : (k : ℕ) → k ≤ x → set / 2 ^ k ≡ more k
  part k le = ap (λ a. a / 2 ^ k) (whole k le) ∙ quotient (more k) (2 ^ k) (pow_pos k)

  pub way_own : (k : ℕ) → k ≤ x → (set / 2 ^ k * 2 ^ k ≡ set) × (count_ones (set / 2 ^ k) ≡ count_ones set)
  way_own k le =
      let zero_more : more k * 2 ^ k ≡ more k * 2 ^ k + 0 = omega arith in
      let o = ap count_ones (whole k le ∙ zero_more) ∙ ones_cat k (more k) 0 (pow_pos k) in (
        ap (λ a. a * 2 ^ k) (part k le) ∙ sym (whole k le),
        ap count_ones (part k le) ∙ omega (arith, o, no_ones),
      )

  -- beyond its lowest variable a set is no multiple
  left : (k : ℕ) → x < k → 0 < set % 2 ^ k
  left k lt = elim (cases_lt 0 (set % 2 ^ k)) [ inl some ↦ some | inr none ↦ absurd (never (omega arith)) ]
    where
      never : set % 2 ^ k ≡ 0 → ⊥
      never e =
          let a = set / 2 ^ k in
          let s : set ≡ a * 2 ^ k = omega (arith, div-add-mod' set (2 ^ k), e) in
          let w : 2 ^ k ≡ 2 ^ (k - x - 1) * (2 * 2 ^ x) =
          ap (λ i. 2 ^ i) (let i : k ≡ (k - x - 1) + (1 + x) = omega arith in i)
          ∙ pow-add 2 (k - x - 1) (1 + x)
          ∙ ap (λ i. 2 ^ (k - x - 1) * i) (pow-add 2 1 x) in
          let whole : set ≡ ((a * 2 ^ (k - x - 1)) * 2) * 2 ^ x = s ∙ ap (λ i. a * i) w ∙ omega arith in
          let even : high ≡ (a * 2 ^ (k - x - 1)) * 2 = ap (λ i. i / 2 ^ x) whole ∙ quotient ((a * 2 ^ (k - x - 1)) * 2) (2 ^ x) (pow_pos x) in
          let r = ap (λ i. i % 2) even ∙ multiple (a * 2 ^ (k - x - 1)) 2 (omega arith) in
          omega (arith, r, low.bit)

  pub way_above : (k : ℕ) → x < k → (set / 2 ^ k ≡ (set - 1) / 2 ^ k) × (count_ones (set / 2 ^ k) < count_ones set)
  way_above k lt =
      let a = set / 2 ^ k in
      let r = set % 2 ^ k in
      let some = left k lt in
      let small = mod-lt set (pow_pos k) in
      let s : set ≡ a * 2 ^ k + r = omega (arith, div-add-mod' set (2 ^ k)) in
      let b : set - 1 ≡ a * 2 ^ k + (r - 1) = omega (arith, s, some) in
      let o : count_ones set ≡ count_ones a + count_ones r = ap count_ones s ∙ ones_cat k a r small in
      let one : 0 < count_ones r = elim (cases_lt 0 (count_ones r)) [ inl l ↦ l | inr l ↦ absurd (omega (arith, some, zero_from_ones r (omega arith))) ] in
      (sym (ap (λ i. i / 2 ^ k) b ∙ div-mul-add a (2 ^ k) (r - 1) (omega arith)), omega (arith, o, one))
