-- The certificate that the tool writes is good.
use Rattle.std.proofs.Common.{◌≡◌, ◌≢◌, ℕ, ◌+◌, ◌-◌, ◌^◌, ◌<◌, ◌≤◌, true, false, eq-eqb, inl, inr, List, [], ◌∷◌, refl, sym, ap, ◌∙◌, subst, arith, nat_eq, pow_pos, IsFalse}
use Rattle.std.specs.List.{AllByRecursion}
use Rattle.std.proofs.lemmas.Bool.{cases_lt, or_left}
use Rattle.std.proofs.lemmas.List.Elements.{All-from_recursion}
use Rattle.definitions.specs.Functions.{Function}
use Rattle.definitions.specs.Orders.{has, IsOrder, members, without}
use Rattle.definitions.specs.Pairs.{Pair, Keeps, is_lawful, sorted_pairs}
use Rattle.definitions.specs.Levels.{size_under}
use Rattle.definitions.specs.Widths.{width, least, essentials_outside}
use Rattle.definitions.specs.Diagrams.{HasFewestKeeping}
use Rattle.definitions.specs.Certificates.{Certificate, Cell, IsGood, IsCertOf, lower_bound, set_value, AreBothLawful, listed_masks, least_listed, certificate_of}
use Rattle.definitions.proofs.Lists.Sets.{Among, among_map, among_from_map}
use Rattle.definitions.proofs.Lists.Orders.{has_filter, has_range}
use Rattle.definitions.proofs.Precedence.Lists.{lawful_same, lawful_whole, are_lawful_nil}
use Rattle.definitions.proofs.Precedence.Sets.{has_sorted, keeps_same, lawful_same_pairs}
use Rattle.definitions.proofs.Functions.Exchange.{size_is_cost, width_same}
use Rattle.definitions.proofs.Bits.Masks.{members_full, mask_with}
use Rattle.definitions.proofs.Widths.Recurrence.{among_has, has_among, least_same, recurrence_le, least-nil, has_without, without_top}
use Rattle.definitions.proofs.Widths.Fewest.{ground, all_lawful, has_fewest_lem}
use Rattle.definitions.proofs.Widths.Cells.{lawful_members, members_zero}
use Rattle.definitions.proofs.Certificates.Potential.{value_cases}

mask_listed : (n : ℕ) (F : List Function) (P : List Pair) (m : ℕ) → (least_listed n F P m).mask ≡ m
unfolding least_listed
mask_listed n F P m = refl

-- a set, got from the set with x
back : (x : ℕ) (S T : List ℕ) → has S x ≡ false → ((y : ℕ) → has (x ∷ S) y ≡ has T y) → (y : ℕ) → has S y ≡ has (without x T) y
back x S T out h y = grind (arith, has_without)

all_from_among : {X : Type 0} (Q : X → Type 0) (xs : List X) → ((x : X) → Among x xs → Q x) → AllByRecursion Q xs
all_from_among Q [] h = tt
all_from_among Q (x ∷ xs) h = (h x (inl refl), all_from_among Q xs (λ y m. h y (inr m)))

module _ (n : ℕ) (F : List Function) (P : List Pair) (order : List ℕ) (best : HasFewestKeeping n F P order) where
  o : IsOrder n order
  o = best.is_order

  k : Keeps P order
  k = best.kept

  N : ℕ
  N = size_under n F order

  S : ℕ → List ℕ
  S m = members n m

  -- whether the tool lists a set
  Listed : ℕ → Type 0
  Listed m = (m < 2 ^ n - 1) × (is_lawful P (members n m) ≡ true) × (least n F P (members n m) + essentials_outside n F (members n m) < size_under n F order)

  listed_parts : (m : ℕ) → has (listed_masks n F P (size_under n F order)) m ≡ true → Listed m
  unfolding listed_masks Listed
  listed_parts m h = grind (arith, has_filter, has_range)

  listed_from : (m : ℕ) → Listed m → has (listed_masks n F P (size_under n F order)) m ≡ true
  unfolding listed_masks Listed
  listed_from m h = grind (arith, has_filter, has_range)

  -- the size of the order is the least cost of all variables
  total_least : size_under n F order ≡ least n F P (members n (2 ^ n - 1))
  total_least =
      let is = (has_fewest_lem n F P order).0 best in
      grind (arith, all_lawful, lawful_same, members_full, size_is_cost, least_same, lawful_members)

  cert : Certificate
  cert = certificate_of n F P order

  cell_parts : (c : Cell) → Among c cert.cells → Listed c.mask × (c.cost ≡ least n F P (members n c.mask))
  unfolding cert certificate_of least_listed
  cell_parts c m = grind (arith, among_from_map, listed_parts, among_has)

  cell_from_listed : (m : ℕ) → Listed m → Among (least_listed n F P m) cert.cells
  unfolding cert certificate_of
  cell_from_listed m h = grind (arith, among_map, has_among, listed_from)

  lower_bound_is : (m : ℕ) → lower_bound n F cert m ≡ essentials_outside n F (members n m)
  unfolding cert certificate_of lower_bound
  lower_bound_is m = refl

  total_is : cert.total ≡ size_under n F order
  unfolding cert certificate_of
  total_is = refl

  inputs_is : cert.inputs ≡ n
  unfolding cert certificate_of
  inputs_is = refl

  -- the value of a lawful set is at most its least cost
  value_at : (m : ℕ) → m < 2 ^ n → is_lawful P (members n m) ≡ true → set_value n F cert m ≤ least n F P (members n m)
  unfolding Listed
  value_at m lt l =
      elim (value_cases n F cert m) [
        | inl full ↦
            omega (arith, full.1 ∙ total_is ∙ total_least ∙ ap (λ j. least n F P (members n j)) (sym (full.0 ∙ ap (λ j. 2 ^ j - 1) inputs_is)))
        | inr r ↦ elim r [
          | inl s ↦ let c = cell_parts s.0 s.1 in omega (arith, s.3 ∙ c.1 ∙ ap (λ j. least n F P (members n j)) s.2)
          | inr u ↦
              let t = total_is in
              let v = lower_bound_is m in
              elim (cases_lt (least n F P (members n m) + essentials_outside n F (members n m)) (size_under n F order)) [
                | inl low ↦
                    let ne : m ≢ 2 ^ n - 1 = λ f. u.1 (f ∙ ap (λ j. 2 ^ j - 1) (sym inputs_is)) in
                    absurd (u.0 (least_listed n F P m) (cell_from_listed m (omega arith, l, low)) (mask_listed n F P m))
                | inr ge ↦ omega arith
              ]
        ]
      ]

  value_listed : (m : ℕ) → Listed m → set_value n F cert m ≡ least n F P (members n m)
  unfolding Listed
  value_listed m h =
      elim (value_cases n F cert m) [
        | inl full ↦ absurd (omega (arith, full.0 ∙ ap (λ j. 2 ^ j - 1) inputs_is))
        | inr r ↦ elim r [
          | inl s ↦ s.3 ∙ (cell_parts s.0 s.1).1 ∙ ap (λ j. least n F P (members n j)) s.2
          | inr u ↦ absurd (u.0 (least_listed n F P m) (cell_from_listed m h) (mask_listed n F P m))
        ]
      ]

  -- the empty set is lawful, and has the least cost 0
  start_value : set_value n F cert 0 ≡ 0
  start_value = grind (arith, members_zero, value_at, pow_pos, lawful_whole, are_lawful_nil, least-nil)

  small_cells : (c : Cell) → Among c cert.cells → c.cost + lower_bound n F cert c.mask ≤ cert.total
  unfolding Listed
  small_cells c m = let h = cell_parts c m in omega (arith, lower_bound_is c.mask, total_is)

  pairs_is : (T : List ℕ) → is_lawful cert.pairs T ≡ is_lawful P T
  unfolding cert certificate_of o k
  pairs_is T = lawful_same_pairs (sorted_pairs n P) P (has_sorted n P order o k) T

  edges_hold : (c : Cell) → Among c cert.cells → (x : ℕ) → x < n → IsFalse (has (members n c.mask) x) → AreBothLawful n cert.pairs c.mask x →
      set_value n F cert (c.mask + 2 ^ x) ≤ set_value n F cert c.mask + width n F (members n c.mask) x
  unfolding Listed
  edges_hold c m x small out lawful =
      let h = (cell_parts c m).0 in
      let lt : c.mask < 2 ^ n = omega arith in
      let with' = mask_with n c.mask x lt small out in
      let high = lawful_same P (members n (c.mask + 2 ^ x)) (x ∷ members n c.mask) with'.1 ∙ sym (pairs_is (x ∷ members n c.mask)) ∙ lawful.1 in
      omega (arith, value_at (c.mask + 2 ^ x) with'.0 high, value_listed c.mask h, grown c.mask x lt small out h.1 high)
    where
      grown : (mask x : ℕ) → mask < 2 ^ n → x < n → has (members n mask) x ≡ false → is_lawful P (members n mask) ≡ true →
          is_lawful P (members n (mask + 2 ^ x)) ≡ true →
          least n F P (members n (mask + 2 ^ x)) ≤ least n F P (members n mask) + width n F (members n mask) x
      grown mask x lt small out low high =
          let with' = mask_with n mask x lt small out in
          let T = members n (mask + 2 ^ x) in
          let there : has T x ≡ true = with'.1 x ∙ (or_left (nat_eq x x) (has (members n mask) x) (eq-eqb x x refl)) in
          let same : (y : ℕ) → has (without x T) y ≡ has (members n mask) y = λ y. sym (back x (members n mask) T out (λ z. sym (with'.1 z)) y) in
          let l = lawful_same P (without x T) (members n mask) same ∙ low in
          let set = lawful_members n F P order o k (mask + 2 ^ x) high in
          let a = least_same n F P order (ground n P order o k) (without x T) (members n mask)
          (without_top n F P order (ground n P order o k) T x set l) (lawful_members n F P order o k mask low) same in
          omega (arith, recurrence_le n F P order (ground n P order o k) T x set there l, width_same n F (without x T) (members n mask) x same)

  -- the certificate that the tool writes is good
  pub written_is_good : IsGood n F (certificate_of n F P order)
  unfolding certificate_of size_under o k cert
  written_is_good = record {
    inputs = refl;
    outputs = refl;
    order = o;
    pairs = keeps_same (sorted_pairs n P) P (has_sorted n P order o k) order ∙ k;
    levels = refl;
    total = refl;
    start = start_value;
    cells = All-from_recursion (λ (c : Cell). c.cost + lower_bound n F cert c.mask ≤ cert.total) cert.cells
        (all_from_among (λ (c : Cell). c.cost + lower_bound n F cert c.mask ≤ cert.total) cert.cells small_cells);
    edges = All-from_recursion Edges cert.cells (all_from_among Edges cert.cells edges_hold);
  }
    where
      Edges : Cell → Type 0
      Edges c = (x : ℕ) → x < n → IsFalse (has (members n c.mask) x) → AreBothLawful n cert.pairs c.mask x →
          set_value n F cert (c.mask + 2 ^ x) ≤ set_value n F cert c.mask + width n F (members n c.mask) x

-- so is each certificate that is the tool's
pub cert_of_is_good : (n : ℕ) (F : List Function) (P : List Pair) (cert : Certificate) → IsCertOf n F P cert → IsGood n F cert
cert_of_is_good n F P cert h = subst (IsGood n F) (sym h.parts) (written_is_good n F P cert.order h.first.fewest)
