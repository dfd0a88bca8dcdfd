-- The masks of a layer and of a block.
--     has_masks, has_low_bytes      which masks a layer has, and which low bytes
--     has_slice_get, slice_get_at, position_none      a member and its place
--     block_masks_are      the masks of a block, by what stands above the low byte
use Rattle.std.proofs.Common.{◌≡◌, ◌≢◌, ℕ, zero, suc, ◌+◌, ◌-◌, ◌*◌, ◌/◌, ◌%◌, ◌^◌, ◌<◌, ◌≤◌, Bool, true, false, cond, ◌⊎◌, inl, inr, List, [], ◌∷◌, ◌++◌, map, length, get_or, refl, sym, ap, ap₂, ◌∙◌, arith, nat_eq, eqb-true, eq-eqb, ne_eqb, zero-add, pow_mono, take, set, slice_get, Option, Some, None, IfSome, IsNone, IsFalse, ◌↔◌, rules}
use Rattle.std.specs.List.{filter, list_any, range_with_len}
use Rattle.std.proofs.lemmas.Bool.{false≢true, true≢false, cases_lt, cases_eq, or_cases, or_left, or_right, and_parts, and_from, false_from_ne_true}
use Rattle.std.proofs.lemmas.Nat.{pow-add}
use Rattle.std.proofs.lemmas.List.{take_more_set, append-nil}
use Rattle.std.proofs.lemmas.List.Elements.{filter-append}
use Rattle.std.proofs.lemmas.List.FromFn.{map-range_with_len_more, filter_of_map_range_with_len_more}
use Rattle.definitions.specs.Orders.{has, members, place_in}
use Rattle.definitions.proofs.Lists.Orders.{has_filter, has_range, has_at, place_at, place_small}
use Rattle.subset_layers.specs.Layers.{LayerOf, masks_of, BlockOf, block_of, blocks_of, block_masks, low_bytes, layer_with}
use Rattle.subset_layers.specs.Selections.{ArePlaced, chosen}
use Rattle.subset_layers.proofs.ChosenNumbers.{chosen-map}
use Rattle.definitions.proofs.Lists.Accepted.{index_of}

-- a layer has the masks below 2 ^ n with the layer's number of members
pub has_masks : (n k mask : ℕ) → has (masks_of (layer_with n k)) mask ≡ true → (mask < 2 ^ n) × (length (members n mask) ≡ k)
unfolding masks_of
has_masks n k mask h = grind (arith, and_parts, has_filter, has_range, eqb-true)

pub masks_has : (n k mask : ℕ) → mask < 2 ^ n → length (members n mask) ≡ k → has (masks_of (layer_with n k)) mask ≡ true
unfolding masks_of
masks_has n k mask lt e =
    has_filter (λ m. nat_eq (length (members n m)) k) (range_with_len 0 (2 ^ n)) mask
    ∙ and_from _ _ ((has_range (2 ^ n) 0 mask).1 (omega arith, omega arith)) (eq-eqb _ _ e)

any_low : (masks : List ℕ) (low : ℕ) → list_any (λ mask. nat_eq (mask % 256) low) masks ≡ true → (mask : ℕ) × (has masks mask ≡ true) × (mask % 256 ≡ low)
any_low [] low h = absurd (false≢true h)
any_low (m ∷ masks) low h = elim (or_cases (nat_eq (m % 256) low) (list_any (λ mask. nat_eq (mask % 256) low) masks) h) [
  | inl e ↦ (m, or_left _ _ (eq-eqb m m refl), eqb-true _ _ e)
  | inr r ↦ let z = any_low masks low r in (z.0, or_right (nat_eq z.0 m) _ z.1, z.2)
]

low_any : (masks : List ℕ) (mask low : ℕ) → has masks mask ≡ true → mask % 256 ≡ low → list_any (λ m. nat_eq (m % 256) low) masks ≡ true
low_any [] mask low h e = absurd (false≢true h)
low_any (m ∷ masks) mask low h e = elim (or_cases (nat_eq mask m) (has masks mask) h) [
  | inl s ↦ or_left _ _ (eq-eqb (m % 256) low (ap (λ k. k % 256) (sym (eqb-true mask m s)) ∙ e))
  | inr r ↦ or_right (nat_eq (m % 256) low) _ (low_any masks mask low r e)
]

-- a low byte is below 256, and that of a mask of the layer
pub has_low_bytes : (n k low : ℕ) → has (low_bytes (layer_with n k)) low ≡ true →
    (low < 256) × ((mask : ℕ) × (has (masks_of (layer_with n k)) mask ≡ true) × (mask % 256 ≡ low))
unfolding low_bytes
has_low_bytes n k low h =
    let parts = and_parts (has (range_with_len 0 256) low) (list_any (λ mask. nat_eq (mask % 256) low) (masks_of (layer_with n k)))
    (sym (has_filter (λ l. list_any (λ mask. nat_eq (mask % 256) l) (masks_of (layer_with n k))) (range_with_len 0 256) low) ∙ h) in
    let r = (has_range 256 0 low).0 parts.0 in
    (omega (arith, r.1), any_low (masks_of (layer_with n k)) low parts.1)

pub low_bytes_has : (n k mask : ℕ) → has (masks_of (layer_with n k)) mask ≡ true → has (low_bytes (layer_with n k)) (mask % 256) ≡ true
unfolding low_bytes
low_bytes_has n k mask h =
    has_filter (λ l. list_any (λ m. nat_eq (m % 256) l) (masks_of (layer_with n k))) (range_with_len 0 256) (mask % 256)
    ∙ and_from _ _ ((has_range 256 0 (mask % 256)).1 (omega arith, omega arith)) (low_any (masks_of (layer_with n k)) mask (mask % 256) h refl)

-- ---- the masks of a block

-- no number of a range passes
none_in : (p : ℕ → Bool) (k a : ℕ) → ((i : ℕ) → a ≤ i → i < a + k → p i ≡ false) → filter p (range_with_len a k) ≡ []
none_in p zero a h = refl
none_in p (suc k) a h = ap₂ (λ b zs. cond b (a ∷ zs) zs) (h a (omega arith) (omega arith)) (none_in p k (a + 1) (λ i l g. h i (omega arith) (omega arith)))

-- one number of a range passes
one_in : (p : ℕ → Bool) (k a z : ℕ) → a ≤ z → z < a + k → p z ≡ true → ((i : ℕ) → a ≤ i → i < a + k → i ≢ z → p i ≡ false) →
    filter p (range_with_len a k) ≡ z ∷ []
one_in p zero a z low high here others = absurd (omega arith)
one_in p (suc k) a z low high here others = elim (cases_eq a z) [
  | inl e ↦
      ap₂ (λ b zs. cond b (a ∷ zs) zs) (ap p e ∙ here)
      (none_in p k (a + 1) (λ i l g. others i (omega arith) (omega arith) (λ s. absurd (omega arith))))
      ∙ ap (λ u. u ∷ []) e
  | inr ne ↦
      ap₂ (λ b zs. cond b (a ∷ zs) zs) (others a (omega arith) (omega arith) ne)
      (one_in p k (a + 1) z (omega arith) (omega arith) here (λ i l g. others i (omega arith) (omega arith)))
]

range_split : (k l a : ℕ) → range_with_len a (k + l) ≡ range_with_len a k ++ range_with_len (a + k) l
range_split zero l a = ap₂ range_with_len (let s : a ≡ a + 0 = omega arith in s) (let s : 0 + l ≡ l = omega arith in s)
range_split (suc k) l a =
    ap (range_with_len a) (let s : suc k + l ≡ suc (k + l) = omega arith in s)
    ∙ ap (λ zs. a ∷ zs) (range_split k l (a + 1) ∙ ap (λ u. range_with_len (a + 1) k ++ range_with_len u l) (let s : a + 1 + k ≡ a + suc k = omega arith in s))

-- the numbers with a low byte, below a multiple of 256
low_multiples : (low high : ℕ) → low < 256 →
    filter (λ m. nat_eq (m % 256) low) (range_with_len 0 (high * 256)) ≡ map (λ h. h * 256 + low) (range_with_len 0 high)
low_multiples low zero h = refl
low_multiples low (suc high) h =
    ap (λ k. filter p (range_with_len 0 k)) (let s : suc high * 256 ≡ high * 256 + 256 = omega arith in s)
    ∙ ap (filter p) (range_split (high * 256) 256 0) ∙ filter-append p (range_with_len 0 (high * 256)) (range_with_len (0 + high * 256) 256)
    ∙ ap₂ (λ xs ys. xs ++ ys) (low_multiples low high h) one
    ∙ sym (map-range_with_len_more (λ k. k * 256 + low) 0 high high (omega arith))
    ∙ ap (λ k. map (λ k. k * 256 + low) (range_with_len 0 k)) (let s : high + 1 ≡ suc high = omega arith in s)
  where
    p : ℕ → Bool
    p m = nat_eq (m % 256) low

    one : filter (λ m. nat_eq (m % 256) low) (range_with_len (0 + high * 256) 256) ≡ (high * 256 + low) ∷ []
    one = one_in (λ m. nat_eq (m % 256) low) 256 (0 + high * 256) (high * 256 + low) (omega arith) (omega arith) (eq-eqb _ _ (omega arith))
        (λ i l g ne. ne_eqb (i % 256) low (λ e. ne (omega arith)))

-- two filters commute
filter_swap : (p q : ℕ → Bool) (xs : List ℕ) → filter p (filter q xs) ≡ filter q (filter p xs)
filter_swap p q [] = refl
filter_swap p q (x ∷ xs) = grind (arith, filter_swap p q xs)

-- the numbers below 2 ^ n are all low bytes, or they are whole ranges of 256
whole_or_low : (n : ℕ) → (2 ^ n ≤ 256) ⊎ (2 ^ n ≡ (2 ^ n + 255) / 256 * 256)
whole_or_low n = elim (cases_lt n 9) [
  | inl few ↦ let s : 2 ^ n ≤ 2 ^ 8 = pow_mono {j = 8} (omega arith) in inl (omega arith)
  | inr many ↦ inr (
      let e : 2 ^ n ≡ 2 ^ (n - 8 + 8) = ap (λ k. 2 ^ k) (let t : n ≡ n - 8 + 8 = omega arith in t) in
      let p = pow-add 2 (n - 8) 8 in
      omega arith
      )
]

low_numbers : (n low : ℕ) → low < 256 → low < 2 ^ n →
    filter (λ m. nat_eq (m % 256) low) (range_with_len 0 (2 ^ n)) ≡ map (λ high. high * 256 + low) (range_with_len 0 ((2 ^ n + 255) / 256))
low_numbers n low h lt = elim (whole_or_low n) [
  | inl few ↦
      let one : (2 ^ n + 255) / 256 ≡ suc zero = omega arith in
      one_in (λ m. nat_eq (m % 256) low) (2 ^ n) 0 low (omega arith) (omega arith) (eq-eqb _ _ (omega arith))
      (λ i l g ne. ne_eqb (i % 256) low (λ e. ne (omega arith)))
      ∙ ap (λ k. k ∷ []) (let s : low ≡ 0 * 256 + low = omega arith in s) ∙ ap (λ k. map (λ high. high * 256 + low) (range_with_len 0 k)) (sym one)
  | inr whole ↦ ap (λ k. filter (λ m. nat_eq (m % 256) low) (range_with_len 0 k)) whole ∙ low_multiples low ((2 ^ n + 255) / 256) h
]

pub block_masks_are : (n k low : ℕ) → low < 256 → low < 2 ^ n →
    block_masks (block_of n k low) ≡ filter (λ mask. nat_eq (length (members n mask)) k)
    (map (λ high. high * 256 + low) (range_with_len 0 ((2 ^ n + 255) / 256)))
unfolding block_masks masks_of
block_masks_are n k low h lt =
    filter_swap (λ m. nat_eq (m % 256) low) (λ m. nat_eq (length (members n m)) k) (range_with_len 0 (2 ^ n))
    ∙ ap (filter (λ m. nat_eq (length (members n m)) k)) (low_numbers n low h lt)

-- ---- places

-- a table of places gives a member's
pub table_place : (numbers places : List ℕ) (v : ℕ) → ArePlaced numbers places → has numbers v ≡ true →
    (v < length places) × (get_or places v 0 ≡ place_in numbers v) × (place_in numbers v < length numbers)
table_place numbers places v t h =
    let below = place_small numbers v h in
    let at = place_at numbers v below in
    (omega arith, ap (λ k. get_or places k 0) (sym at) ∙ t.placed (place_in numbers v) below, below)

-- a read number does not rest on the default
pub default_free : (xs : List ℕ) (i v : ℕ) → i < length xs → v ≡ get_or xs i v → v ≡ get_or xs i 0
default_free xs i v h e = e ∙ any xs i h
  where
    any : (ys : List ℕ) (j : ℕ) → j < length ys → get_or ys j v ≡ get_or ys j 0
    any [] j h = absurd (omega arith)
    any (y ∷ ys) zero h = refl
    any (y ∷ ys) (suc j) h = any ys j (omega arith)

pub low_of_mask : (n k i : ℕ) → i < length (masks_of (layer_with n k)) → has (low_bytes (layer_with n k)) (get_or (masks_of (layer_with n k)) i 0 % 256) ≡ true
low_of_mask n k i h = low_bytes_has n k (get_or (masks_of (layer_with n k)) i 0) (has_at (masks_of (layer_with n k)) i h)

-- the low bytes of a layer fit
pub low_fits : (n k i : ℕ) → i < length (low_bytes (layer_with n k)) →
    (get_or (low_bytes (layer_with n k)) i 0 < 256) × (get_or (low_bytes (layer_with n k)) i 0 < 2 ^ n)
low_fits n k i h =
    let low = has_low_bytes n k (get_or (low_bytes (layer_with n k)) i 0) (has_at (low_bytes (layer_with n k)) i h) in
    let m = has_masks n k low.1.0 low.1.1 in
    (low.0, omega arith)

-- ---- the loop over what stands above the low byte

pub mask_small : (n low high : ℕ) → low < 256 → low < 2 ^ n → high < (2 ^ n + 255) / 256 → high * 256 + low < 2 ^ n
mask_small n low high a b h = elim (whole_or_low n) [ inl few ↦ omega arith | inr whole ↦ omega arith ]

pub high_mask : (n k low high count : ℕ) (masks : List ℕ) → length masks ≡ 256 → high < 256 → length (members n (high * 256 + low)) ≡ k →
    (count ≤ high) × (take count masks ≡ filter (λ mask. nat_eq (length (members n mask)) k) (map (λ h. h * 256 + low) (range_with_len 0 high))) →
    (count + 1 ≤ high + 1)
    × (take (count + 1) (set masks count (high * 256 + low)) ≡ filter (λ mask. nat_eq (length (members n mask)) k)
    (map (λ h. h * 256 + low) (range_with_len 0 (high + 1))))
high_mask n k low high count masks l lt e h = (
  (omega arith),
  take_more_set masks count (high * 256 + low) (omega arith)
      ∙ ap₂ (λ xs b. xs ++ cond b ((high * 256 + low) ∷ []) []) h.1 (sym (eq-eqb (length (members n (high * 256 + low))) k e))
      ∙ sym (filter_of_map_range_with_len_more (λ mask. nat_eq (length (members n mask)) k) (λ h. h * 256 + low) 0 high high (zero-add high)),
)

pub high_no_mask : (n k low high count : ℕ) (masks : List ℕ) → length (members n (high * 256 + low)) ≢ k →
    (count ≤ high) × (take count masks ≡ filter (λ mask. nat_eq (length (members n mask)) k) (map (λ h. h * 256 + low) (range_with_len 0 high))) →
    (count ≤ high + 1) × (take count masks ≡ filter (λ mask. nat_eq (length (members n mask)) k) (map (λ h. h * 256 + low) (range_with_len 0 (high + 1))))
high_no_mask n k low high count masks ne h = (
  (omega arith),
  h.1 ∙ sym (append-nil _)
      ∙ ap (λ b. filter (λ mask. nat_eq (length (members n mask)) k) (map (λ h. h * 256 + low) (range_with_len 0 high))
      ++ cond b ((high * 256 + low) ∷ []) [])
      (sym (ne_eqb (length (members n (high * 256 + low))) k ne))
      ∙ sym (filter_of_map_range_with_len_more (λ mask. nat_eq (length (members n mask)) k) (λ h. h * 256 + low) 0 high high (zero-add high)),
)

-- ---- a look-up

pub has_slice_get : (xs : List ℕ) (i v : ℕ) → slice_get xs i ≡ Some v → has xs v ≡ true
has_slice_get [] i v h = absurd (cc)
has_slice_get (x ∷ xs) zero v h = let e : v ≡ x = cc in or_left _ _ (eq-eqb v x e)
has_slice_get (x ∷ xs) (suc i) v h = or_right (nat_eq v x) _ (has_slice_get xs i v h)

pub position_none : (r : Option ℕ) (xs : List ℕ) (v : ℕ) → IfSome r (λ i. slice_get xs i ≡ Some v) →
    (IsNone r → (i : ℕ) → i < length xs → get_or xs i 0 ≢ v) → IsNone r ↔ IsFalse (has xs v)
position_none None xs v some none = (λ h. false_from_ne_true (has xs v) (λ t. let z = index_of xs v t in none h z.0 z.1 z.2), λ h. search rules)
position_none (Some i) xs v some none = (λ h. absurd (search rules), λ h. absurd (true≢false (sym (has_slice_get xs i v some) ∙ h)))

pub blocks_length : (l : LayerOf) → length (blocks_of l) ≡ length (low_bytes l)
unfolding blocks_of
blocks_length l = mapped (low_bytes l)
  where
    mapped : (xs : List ℕ) → length (map (block_of l.inputs l.size) xs) ≡ length xs
    mapped [] = refl
    mapped (x ∷ xs) = ap suc (mapped xs)

-- a place of a block is one of the low bytes
pub block_inside : (l m : LayerOf) (lows : List ℕ) (i : ℕ) → l ≡ m → lows ≡ low_bytes l → i < length (blocks_of m) → i < length lows
block_inside l m lows i e f h = omega (arith, blocks_length m, ap (λ k. length (low_bytes k)) e, ap length f)

pub slice_get_at : (xs : List ℕ) (i : ℕ) → i < length xs → slice_get xs i ≡ Some (get_or xs i 0)
slice_get_at [] i h = absurd (omega arith)
slice_get_at (x ∷ xs) zero h = refl
slice_get_at (x ∷ xs) (suc i) h = slice_get_at xs i (omega arith)

pub block_at : (l : LayerOf) (i v : ℕ) → slice_get (low_bytes l) i ≡ Some v → slice_get (blocks_of l) i ≡ Some (block_of l.inputs l.size v)
unfolding blocks_of
block_at l i v h = mapped (low_bytes l) i h
  where
    mapped : (xs : List ℕ) (j : ℕ) → slice_get xs j ≡ Some v → slice_get (map (block_of l.inputs l.size) xs) j ≡ Some (block_of l.inputs l.size v)
    mapped [] j e = absurd (cc)
    mapped (x ∷ xs) zero e = let s : x ≡ v = cc in ap (λ k. Some (block_of l.inputs l.size k)) s
    mapped (x ∷ xs) (suc j) e = mapped xs j e

-- ---- the tables of a layer

pub masks_chosen : (n k : ℕ) (flags : List Bool) (numbers : List ℕ) →
    flags ≡ map (λ mask. nat_eq (length (members n mask)) k) (range_with_len 0 (2 ^ n)) → numbers ≡ chosen flags →
    numbers ≡ masks_of (layer_with n k)
unfolding masks_of
masks_chosen n k flags numbers e f = f ∙ ap chosen e ∙ chosen-map (λ mask. nat_eq (length (members n mask)) k) (2 ^ n)

pub lows_chosen : (n k : ℕ) (flags : List Bool) (masks numbers : List ℕ) → masks ≡ masks_of (layer_with n k) →
    flags ≡ map (λ low. list_any (λ mask. nat_eq (mask % 256) low) masks) (range_with_len 0 256) →
    numbers ≡ chosen flags → numbers ≡ low_bytes (layer_with n k)
unfolding low_bytes
lows_chosen n k flags masks numbers m e f =
    f ∙ ap chosen e ∙ chosen-map (λ low. list_any (λ mask. nat_eq (mask % 256) low) masks) 256
    ∙ ap (λ ms. filter (λ low. list_any (λ mask. nat_eq (mask % 256) low) ms) (range_with_len 0 256)) m

-- a mask of a block is one of all variables, and has the low byte
pub in_block : (b : BlockOf) (mask : ℕ) → has (block_masks b) mask ≡ true → (mask < 2 ^ b.inputs) × (mask % 256 ≡ b.low)
unfolding block_masks
in_block b mask h = grind (arith, and_parts, has_filter, has_masks, eqb-true)
