-- The cell of a set, from the best sum of cost and width.
--     first_member, first_has_mask      the smallest member of a mask
--     some_member      a set of a layer after that of the empty set has a member
--     members_widths      the widths of all members, if the bound is by widths
--     cell_found, cell_clipped      the cell where the best sum leaves room, and where none does
use Rattle.std.proofs.Common.{◌≡◌, ℕ, ◌+◌, ◌^◌, ◌<◌, ◌≤◌, true, inl, inr, IsTrue, List, length, ap, ◌∙◌, arith, eq-eqb, w16}
use Rattle.std.specs.Int.{bit_at, trailing_zeros}
use Rattle.std.proofs.lemmas.Bool.{cases_lt}
use Rattle.std.proofs.lemmas.Nat.Bits.{bit_at-trailing_zeros, bit_at_above}
use Rattle.definitions.specs.Functions.{Function}
use Rattle.definitions.specs.Orders.{has, IsOrder, members, without}
use Rattle.definitions.specs.Widths.{width}
use Rattle.definitions.specs.Pairs.{Pair, Keeps, is_lawful}
use Rattle.definitions.specs.LowerBounds.{nodes_above}
use Rattle.definitions.specs.declared.limits.LowerBound.{LowerBound}
use Rattle.definitions.specs.declared.limits.LowerBound.TheVariants.{Widths}
use Rattle.definitions.specs.Cells.{first_of, cell_of, AreForCell}
use Rattle.definitions.proofs.Precedence.MaskLaws.{member_bit}
use Rattle.definitions.proofs.Widths.Cells.{rising_members, first_has, first_le, all_asked, found, clipped, members_zero}
use Rattle.subset_layers.specs.Layers.{masks_of, layer_with}
use Rattle.subset_layers.specs.Sums.{IsBest}
use Rattle.subset_layers.proofs.BlockLists.{has_masks}
use Rattle.definitions.proofs.Widths.Outside.{bit_has}

abbrev pub pair_of : ℕ → ℕ → ℕ × ℕ
pair_of a b = (a, b)

-- the lowest bit of a mask is its smallest member
pub first_member : (n mask : ℕ) → 0 < mask → mask < 65536 → mask < 2 ^ n → trailing_zeros w16 mask ≡ first_of (members n mask)
first_member n mask pos small lt =
    let z = bit_at-trailing_zeros w16 mask pos small in
    let t = trailing_zeros w16 mask in
    let below : t < n = elim (cases_lt t n) [ inl l ↦ l | inr g ↦ absurd (omega (arith, bit_at_above mask n t lt g)) ] in
    let member : has (members n mask) t ≡ true = bit_has n mask t below ∙ eq-eqb (bit_at mask t) 1 z.1 in
    let le = first_le (members n mask) t (rising_members n mask) member in
    let one = (member_bit n mask (first_of (members n mask)) (first_has (members n mask) t member)).1 in
    elim (cases_lt (first_of (members n mask)) t) [
      | inl l ↦ absurd (omega (arith, z.2 (first_of (members n mask)) l))
      | inr g ↦ omega arith
    ]

-- a mask that is not 0 has its smallest member
pub first_has_mask : (n mask : ℕ) → 0 < mask → mask < 65536 → mask < 2 ^ n → has (members n mask) (first_of (members n mask)) ≡ true
first_has_mask n mask pos small lt =
    let z = bit_at-trailing_zeros w16 mask pos small in
    let t = trailing_zeros w16 mask in
    let below : t < n = elim (cases_lt t n) [ inl l ↦ l | inr g ↦ absurd (omega (arith, bit_at_above mask n t lt g)) ] in
    first_has (members n mask) t (bit_has n mask t below ∙ eq-eqb (bit_at mask t) 1 z.1)

-- ---- the cell

module _ (n : ℕ) (r : LowerBound) (mask bound : ℕ) (costs widths : ℕ → ℕ) (F : List Function) (P : List Pair) (order : List ℕ) (o : IsOrder n order)
    (k : Keeps P order) (given : AreForCell n F P r bound mask costs widths) where
  -- if the bound is by widths and some member is a candidate, the widths of all members are taken
  pub members_widths : (y : ℕ) → is_lawful P (members n mask) ≡ true → has (members n mask) y ≡ true → costs y ≤ bound →
      r ≡ Widths → (x : ℕ) → has (members n mask) x ≡ true → widths x ≡ width n F (without x (members n mask)) x
  members_widths y l m le is x h = given.are_widths l x (all_asked n bound mask costs r y is m le x h)

  pub cell_found : (left sum x : ℕ) → is_lawful P (members n mask) ≡ true → left ≡ nodes_above n F r (members n mask) →
      IsBest (λ y. IsTrue (has (members n mask) y)) bound costs widths sum x → sum + left ≤ bound → pair_of sum x ≡ cell_of n F P r bound mask
  cell_found left sum x l e b room = grind (arith, pair_of, found, given)

  pub cell_clipped : (left z : ℕ) → has (members n mask) z ≡ true → left ≡ nodes_above n F r (members n mask) →
      (is_lawful P (members n mask) ≡ true → (y : ℕ) → has (members n mask) y ≡ true → costs y ≤ bound → bound < costs y + widths y + left) →
      pair_of (bound + 1) (first_of (members n mask)) ≡ cell_of n F P r bound mask
  cell_clipped left z m e none = grind (arith, clipped, given)

-- a set of a layer after that of the empty set has a member
pub some_member : (n size mask : ℕ) → 0 < size → has (masks_of (layer_with n size)) mask ≡ true → 0 < mask
some_member n size mask some h = elim (cases_lt 0 mask) [
  | inl lt ↦ lt
  | inr le ↦
      let z : mask ≡ 0 = omega arith in
      let e = (has_masks n size mask h).1 in
      absurd (omega (arith, e, ap length (ap (members n) z ∙ members_zero n)))
]
