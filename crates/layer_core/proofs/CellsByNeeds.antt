-- The cell of a set, from what it needs.
--     some_order      some order keeps pairs that can be kept
--     needed_lawful_set, some_needed      a set whose cell takes widths is lawful, and not empty
--     pruned_is      the cell of a set that takes none is clipped
--     cell_is      the cell of a set that takes some
use Rattle.std.proofs.Common.{◌≡◌, ◌≢◌, ℕ, ◌+◌, ◌-◌, ◌^◌, ◌<◌, ◌≤◌, true, false, cond, inl, inr, List, slice_index, refl, sym, ap, ◌∙◌, subst, arith}
use Rattle.std.specs.Int.{bit_at}
use Rattle.std.proofs.lemmas.Bool.{cases_Bool, cases_lt}
use Rattle.std.proofs.lemmas.Nat.Bits.{bit_at-zero}
use Rattle.definitions.specs.Orders.{has, IsOrder, mask_of, members, without}
use Rattle.definitions.specs.Pairs.{Pair, Keeps, is_lawful}
use Rattle.definitions.specs.KeptPairs.{CanBeKept}
use Rattle.definitions.specs.Problems.{functions}
use Rattle.definitions.specs.LowerBounds.{LowerBoundsOf, lower_bounds_with}
use Rattle.definitions.specs.Widths.{width}
use Rattle.definitions.specs.declared.limits.Limit.{Limit}
use Rattle.definitions.specs.Cells.{AreForCell, asked, cell_cost, first_of, wanted}
use Rattle.definitions.proofs.Precedence.Cycles.{acyclic_kept}
use Rattle.definitions.proofs.Widths.Cells.{candidate_asked}
use Rattle.subset_layers.specs.Costs.{IsCellFrom}
use Rattle.subset_layers.proofs.CellSteps.{cell_clipped, first_has_mask, pair_of}
use Rattle.layer_core.specs.Instances.{InstanceOf, cell_for}
use Rattle.layer_core.specs.Needs.{AreNeedsOf, HasNeeded, needed}
use Rattle.layer_core.specs.declared.needs.SetNeeds.{SetNeeds}
use Rattle.layer_core.proofs.WantedMembers.{needed_unlawful, wanted_bit, wanted_lawful, wanted_none}

-- some order keeps the pairs
pub some_order : (n m : ℕ) (P : List Pair) → n ≡ m → CanBeKept n P → (order : List ℕ) × IsOrder m order × Keeps P order
some_order n m P e k =
    let o = acyclic_kept n P k.below k.acyclic in
    (o.0, subst (λ i. IsOrder i o.0) e o.2.is_order, o.2.kept)

-- a set whose cell takes widths is lawful
pub needed_lawful_set : (t : InstanceOf) (mask : ℕ) → needed t mask ≢ 0 → is_lawful t.pairs.pairs (members t.problem.inputs mask) ≡ true
needed_lawful_set t mask some = elim (cases_Bool (is_lawful t.pairs.pairs (members t.problem.inputs mask))) [
  | inl low ↦ low
  | inr not_low ↦ absurd (some (sym (needed_unlawful t mask not_low)))
]

-- nor is it empty
pub some_needed : (t : InstanceOf) (mask : ℕ) → needed t mask ≢ 0 → 0 < mask
unfolding needed mask_of
some_needed t mask some = elim (cases_lt 0 mask) [
  | inl lt ↦ lt
  | inr le ↦
      let n = t.problem.inputs in
      let F = functions t.problem in
      let P = t.pairs.pairs in
      let empty : mask ≡ 0 = omega arith in
      absurd (some (ap (λ m. mask_of (wanted n F P t.lower_bound t.bound m)) empty ∙ ap mask_of (wanted_none n F P t.lower_bound t.bound)))
]

module _ (t : InstanceOf) (mask : ℕ) (order : List ℕ) (o : IsOrder t.problem.inputs order) (k : Keeps t.pairs.pairs order) where
  -- the costs without one member, and the widths
  costs : ℕ → ℕ
  costs x = cell_cost t.problem.inputs (functions t.problem) t.pairs.pairs t.lower_bound t.bound (mask - 2 ^ x)

  widths : ℕ → ℕ
  widths x = width t.problem.inputs (functions t.problem) (without x (members t.problem.inputs mask)) x

  own : AreForCell t.problem.inputs (functions t.problem) t.pairs.pairs t.lower_bound t.bound mask costs widths
  unfolding costs widths
  own = record { are_costs = λ x m. refl; are_widths = λ low x m. refl }

  -- no member is affordable
  all_dear : needed t mask ≡ 0 → is_lawful t.pairs.pairs (members t.problem.inputs mask) ≡ true → (y : ℕ) →
      has (members t.problem.inputs mask) y ≡ true → costs y ≤ t.bound → ⊥
  unfolding costs needed
  all_dear none low y m le =
      let n = t.problem.inputs in
      let F = functions t.problem in
      let P = t.pairs.pairs in
      let there : has (wanted n F P t.lower_bound t.bound mask) y ≡ true =
      ap (λ xs. has xs y) (wanted_lawful n costs F P t.lower_bound t.bound mask (λ x h. refl) low)
      ∙ candidate_asked n t.bound mask costs t.lower_bound y m le in
      let one : bit_at (mask_of (wanted n F P t.lower_bound t.bound mask)) y ≡ 1 =
      wanted_bit n F P t.lower_bound t.bound mask y ∙ ap (λ b. cond b 1 0) there in
      let zero : bit_at (mask_of (wanted n F P t.lower_bound t.bound mask)) y ≡ 0 = ap (λ z. bit_at z y) none ∙ bit_at-zero y in
      omega (arith, one, zero)

  pub pruned_is : 0 < mask → mask < 65536 → mask < 2 ^ t.problem.inputs → needed t mask ≡ 0 →
      pair_of (t.bound + 1) (first_of (members t.problem.inputs mask)) ≡ cell_for t mask
  pruned_is some small within none =
      let n = t.problem.inputs in
      cell_clipped n t.lower_bound mask t.bound costs widths (functions t.problem) t.pairs.pairs order o k own _ (first_of (members n mask))
      (first_has_mask n mask some small within) refl
      (λ low y m le. absurd (all_dear none low y m le))

-- what is needed, and the widths, are what the cell is computed from
needs_for_cell : (t : InstanceOf) (mask : ℕ) (needs : SetNeeds) (row : List ℕ) → AreNeedsOf t mask needs →
    is_lawful t.pairs.pairs (members t.problem.inputs mask) ≡ true → HasNeeded t mask row →
    AreForCell t.problem.inputs (functions t.problem) t.pairs.pairs t.lower_bound t.bound mask (slice_index needs.below) (slice_index row)
needs_for_cell t mask needs row are low there = record {
  are_costs = are.below_are low;
  are_widths = λ l x m. there x
      (ap (λ xs. has xs x)
      (wanted_lawful t.problem.inputs (slice_index needs.below) (functions t.problem) t.pairs.pairs t.lower_bound t.bound mask (are.below_are low) low)
      ∙ m);
}

-- a cell that is right if the costs of smaller sets and the widths are
module _ (t : InstanceOf) (mask : ℕ) (needs : SetNeeds) (row : List ℕ) (cell : ℕ × ℕ) where
  abbrev pub IsExact : LowerBoundsOf → ℕ → Type 0
  IsExact v bound = (P : List Pair) (order : List ℕ) → IsOrder v.problem.inputs order → Keeps P order →
      is_lawful P (members v.problem.inputs mask) ≡ true → IsCellFrom v P bound mask needs.below row cell

  pub cell_is : (v : LowerBoundsOf) (l : Limit) → v ≡ lower_bounds_with t.problem t.lower_bound →
      l ≡ record { bound = t.bound; lower_bound = t.lower_bound } → (order : List ℕ) → IsOrder t.problem.inputs order → Keeps t.pairs.pairs order →
      AreNeedsOf t mask needs → needed t mask ≢ 0 → HasNeeded t mask row → IsExact v l.bound → cell ≡ cell_for t mask
  cell_is v l v_is l_is order o k are some there exact =
      let low = needed_lawful_set t mask some in
      subst (λ (u : LowerBoundsOf). IsExact u t.bound) v_is (subst (λ (z : Limit). IsExact v z.bound) l_is exact)
      t.pairs.pairs order o k low (needs_for_cell t mask needs row are low there)
