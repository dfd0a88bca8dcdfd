-- All sets together take at most n * 2 ^ (n - 1) widths; and the mask of the essential variables.
--     widths_bound      twice the number of widths is at most n * 2 ^ n
--     essential_members      the members of the mask of the essential variables are these
use Rattle.std.proofs.Common.{◌≡◌, ℕ, zero, suc, ◌+◌, ◌*◌, ◌^◌, ◌<◌, ◌≤◌, Bool, true, false, cond, List, [], ◌∷◌, ◌++◌, map, length, refl, ap, ◌∙◌, subst, arith, eqb, lit≤}
use Rattle.std.specs.Int.{bit_at}
use Rattle.std.specs.List.{filter, list_any, sum, range_with_len}
use Rattle.std.proofs.Math.Nat.{two-pow-succ}
use Rattle.std.proofs.lemmas.List.Sums.{sum_by-cons}
use Rattle.std.proofs.lemmas.Nat.Bits.{bit_at_above, bit_at_cat_low}
use Rattle.definitions.specs.Functions.{Function, depends}
use Rattle.definitions.specs.Orders.{has, variables, members, mask_of}
use Rattle.definitions.specs.Pairs.{Pair}
use Rattle.definitions.specs.Widths.{essential, essential_mask}
use Rattle.definitions.specs.declared.limits.LowerBound.{LowerBound}
use Rattle.definitions.specs.Cells.{open_tops, wanted, widths_taken}
use Rattle.definitions.proofs.Lists.Orders.{has_variables, has_filter}
use Rattle.definitions.proofs.Bits.Masks.{bit-mask_of}
use Rattle.definitions.proofs.Widths.Essential.{distinct_essential}
use Rattle.definitions.proofs.Lists.Ranges.{range_last, filter_at_most, filter_same}

-- ---- sums over ranges

total : (ℕ → ℕ) → ℕ → ℕ → ℕ
total f a zero = 0
total f a (suc k) = f a + total f (a + 1) k

sum_total : (f : ℕ → ℕ) (k a : ℕ) → sum (map f (range_with_len a k)) ≡ total f a k
unfolding total
sum_total f zero a = refl
sum_total f (suc k) a = sum_by-cons (λ z. z) (f a) (map f (range_with_len (a + 1) k)) ∙ ap (λ s. f a + s) (sum_total f k (a + 1))

total_le : (f g : ℕ → ℕ) (k a b : ℕ) → ((i : ℕ) → i < k → f (a + i) ≤ g (b + i)) → total f a k ≤ total g b k
unfolding total
total_le f g zero a b h = omega arith
total_le f g (suc k) a b h =
    let e : f (a + 0) ≡ f a = ap f (omega arith) in
    let e' : g (b + 0) ≡ g b = ap g (omega arith) in
    let rest = total_le f g k (a + 1) (b + 1)
    (λ i lt. subst (λ u. f u ≤ g (b + 1 + i)) (shift a i) (subst (λ u. f (a + (i + 1)) ≤ g u) (shift b i) (h (i + 1) (omega arith)))) in
    omega arith
  where
    shift : (c i : ℕ) → c + (i + 1) ≡ c + 1 + i
    shift c i = omega arith

total_split : (f : ℕ → ℕ) (k l m a : ℕ) → m ≡ k + l → total f a m ≡ total f a k + total f (a + k) l
unfolding total
total_split f zero l m a e = grind arith
total_split f (suc k) l zero a e = absurd (omega arith)
total_split f (suc k) l (suc m) a e = grind (arith, total_split f k l m (a + 1) (omega arith))

total_plus : (f : ℕ → ℕ) (c k a : ℕ) → total (λ i. f i + c) a k ≡ total f a k + k * c
unfolding total
total_plus f c zero a = omega arith
total_plus f c (suc k) a = omega (arith, total_plus f c k (a + 1))

-- ---- how many members all masks have

filter_append : (p : ℕ → Bool) (xs ys : List ℕ) → filter p (xs ++ ys) ≡ filter p xs ++ filter p ys
filter_append p [] ys = refl
filter_append p (x ∷ xs) ys = grind (arith, filter_append p xs ys)

length_append : (xs ys : List ℕ) → length (xs ++ ys) ≡ length xs + length ys
length_append [] ys = omega arith
length_append (x ∷ xs) ys = omega (arith, length_append xs ys)

how_many : ℕ → ℕ → ℕ
how_many n mask = length (members n mask)

-- one more variable is one more member where the mask has it
members_more : (n mask : ℕ) → length (members (suc n) mask) ≡ length (members n mask) + cond (eqb (bit_at mask n) 1) 1 0
unfolding members
members_more n mask =
    ap length (ap (filter (λ x. eqb (bit_at mask x) 1)) (range_last n 0) ∙ filter_append (λ x. eqb (bit_at mask x) 1) (variables n) ((0 + n) ∷ []))
    ∙ length_append (filter (λ x. eqb (bit_at mask x) 1) (variables n)) (filter (λ x. eqb (bit_at mask x) 1) ((0 + n) ∷ []))
    ∙ ap (λ k. length (filter (λ x. eqb (bit_at mask x) 1) (variables n)) + k)
    (by (eqb (bit_at mask (0 + n)) 1) ∙ ap (λ u. cond (eqb (bit_at mask u) 1) 1 0) (let s : 0 + n ≡ n = omega arith in s))
  where
    by : (b : Bool) → length (cond b ((0 + n) ∷ []) []) ≡ cond b 1 0
    by true = refl
    by false = refl

low_half : (n m : ℕ) → m < 2 ^ n → length (members (suc n) m) ≡ length (members n m)
low_half n m lt = grind (arith, bit_at_above, members_more)

high_half : (n m : ℕ) → m < 2 ^ n → length (members (suc n) (2 ^ n + m)) ≡ length (members n m) + 1
unfolding members
high_half n m lt =
    let shape : 2 ^ n + m ≡ 1 * 2 ^ n + m = omega arith in
    grind (arith, filter_same, bit_at_cat_low, has_variables, members_more)

-- all masks together have n * 2 ^ (n - 1) members
all_members : (n : ℕ) → 2 * total (how_many n) 0 (2 ^ n) ≤ n * 2 ^ n
unfolding total how_many members
all_members zero = lit≤ tt
all_members (suc n) =
    let rest = all_members n in
    let double : 2 ^ suc n ≡ 2 ^ n + 2 ^ n = two-pow-succ n in
    let halves = total_split (how_many (suc n)) (2 ^ n) (2 ^ n) (2 ^ suc n) 0 double in
    let low = total_le (how_many (suc n)) (how_many n) (2 ^ n) 0 0
    (λ i lt. let e = low_half n i lt in grind arith) in
    let high = total_le (how_many (suc n)) (λ i. how_many n i + 1) (2 ^ n) (0 + 2 ^ n) 0
    (λ i lt. let e = high_half n i lt in grind arith) in
    let plus = total_plus (how_many n) 1 (2 ^ n) 0 in
    omega (arith, ap (λ k. suc n * k) double ∙ spread (2 ^ n))
  where
    spread : (m : ℕ) → suc n * (m + m) ≡ 2 * (n * m) + 2 * m
    spread m = omega arith

-- a cell takes no more widths than its set has members
pub wanted_few : (n : ℕ) (F : List Function) (P : List Pair) (r : LowerBound) (bound mask : ℕ) → length (wanted n F P r bound mask) ≤ length (members n mask)
unfolding wanted open_tops
wanted_few n F P r bound mask = grind (arith, filter_at_most)

-- a solve takes at most n * 2 ^ (n - 1) widths
pub widths_bound : (n : ℕ) (F : List Function) (P : List Pair) (r : LowerBound) (bound : ℕ) → 2 * widths_taken n F P r bound ≤ n * 2 ^ n
unfolding widths_taken how_many
widths_bound n F P r bound =
    omega (
      arith,
      sum_total (λ mask. length (wanted n F P r bound mask)) (2 ^ n) 0,
      total_le (λ mask. length (wanted n F P r bound mask)) (how_many n) (2 ^ n) 0 0 (λ i lt. few (0 + i)),
      all_members n,
    )
  where
    few : (mask : ℕ) → length (wanted n F P r bound mask) ≤ length (members n mask)
    few mask = wanted_few n F P r bound mask

pub essential_members : (n : ℕ) (F : List Function) → members n (essential_mask n F) ≡ essential n F
unfolding members essential_mask essential
essential_members n F = filter_same (λ x. eqb (bit_at (mask_of (essential n F)) x) 1) (λ x. list_any (λ f. depends n f x) F) (variables n) at
  where
    at : (y : ℕ) → has (variables n) y ≡ true → eqb (bit_at (mask_of (essential n F)) y) 1 ≡ list_any (λ f. depends n f y) F
    at y h = grind (arith, bit-mask_of, distinct_essential, has_filter)
      where
        bit : (b : Bool) → eqb (cond b 1 0) 1 ≡ b
        bit true = refl
        bit false = refl
