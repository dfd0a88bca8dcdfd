-- A good certificate bounds the size of each order that keeps its pairs from below.
--     value_cases      the value of a set, by whether it is listed
--     climb      the value of a set is at most the cost of any lawful list of its variables
--     no_order_is_smaller, good_is_fewest      the total of a good certificate is at most the size of each order, and the fewest nodes
use Rattle.std.proofs.Common.{◌≡◌, ◌≢◌, ℕ, ◌+◌, ◌-◌, ◌^◌, ◌<◌, ◌≤◌, Bool, true, false, cond, ◌||◌, ◌⊎◌, inl, inr, List, [], ◌∷◌, length, refl, sym, ap, ◌∙◌, subst, arith, nat_eq, eqb-true, eq-eqb, Option, Some, None, IsFalse}
use Rattle.std.specs.List.{find, sum, IsDistinct, AllByRecursion}
use Rattle.std.specs.Option.{option_map_or}
use Rattle.std.proofs.lemmas.Bool.{true≢false, or_left, or_right}
use Rattle.std.proofs.lemmas.List.Elements.{recursion_from_All}
use Rattle.definitions.specs.Functions.{Function}
use Rattle.definitions.specs.Orders.{has, IsOrder, members, mask_of}
use Rattle.definitions.specs.Pairs.{Keeps, is_lawful, are_lawful}
use Rattle.definitions.specs.Levels.{size_under}
use Rattle.definitions.specs.Widths.{width, cost, essentials_outside}
use Rattle.definitions.specs.Diagrams.{Graph, Represents, FewestKeeping}
use Rattle.definitions.specs.Certificates.{Certificate, Cell, IsGood, lower_bound, set_value, AreBothLawful, Reason, Applies}
use Rattle.definitions.proofs.Lists.Sets.{Among}
use Rattle.definitions.proofs.Lists.Orders.{absent_from_apart, has_variables}
use Rattle.definitions.proofs.Precedence.Lists.{lawful_same, lawful_whole, are_lawful_parts}
use Rattle.definitions.proofs.Functions.Exchange.{width_same, size_is_cost}
use Rattle.definitions.proofs.Nodes.LevelBound.{size_bound}
use Rattle.definitions.proofs.Bits.Masks.{members_mask_of, members_full, full_mask}
use Rattle.definitions.proofs.Widths.Essential.{essentials_same, essentials_step, essentials_all}
use Rattle.definitions.proofs.Nodes.Construction.{exact_diagram}
use Rattle.definitions.proofs.Widths.Fewest.{lawful_from_order}

-- ---- the value of a set

pub all_among : {X : Type 0} (P : X → Type 0) (xs : List X) (x : X) → AllByRecursion P xs → Among x xs → P x
all_among P [] x a h = absurd h
all_among P (y ∷ xs) x a h = elim h [ inl e ↦ subst P (sym e) a.0 | inr r ↦ all_among P xs x a.1 r ]

find_cases : {X : Type 0} (p : X → Bool) (xs : List X) →
    ((find p xs ≡ None) × ((x : X) → Among x xs → p x ≡ false)) ⊎ ((x : X) × Among x xs × (p x ≡ true) × (find p xs ≡ Some x))
find_cases p [] = inl (refl, λ x m. absurd m)
find_cases {X} p (x ∷ xs) = grind (arith, find_cases p xs)

-- a set is that of all variables, or listed, or it has the total without the nodes above it
pub value_cases : (n : ℕ) (F : List Function) (cert : Certificate) (m : ℕ) →
    ((m ≡ 2 ^ cert.inputs - 1) × (set_value n F cert m ≡ cert.total)) ⊎ ((c : Cell) × Among c cert.cells × (c.mask ≡ m) × (set_value n F cert m ≡ c.cost))
    ⊎ (((c : Cell) → Among c cert.cells → c.mask ≢ m) × (m ≢ 2 ^ cert.inputs - 1) × (set_value n F cert m ≡ cert.total - lower_bound n F cert m))
unfolding set_value
value_cases n F cert m = by (nat_eq m (2 ^ cert.inputs - 1)) refl (find_cases (λ (c : Cell). nat_eq c.mask m) cert.cells)
  where
    cost_of : Option Cell → ℕ
    cost_of o = option_map_or (λ (c : Cell). c.cost) o (cert.total - lower_bound n F cert m)

    found : Option Cell
    found = find (λ (c : Cell). nat_eq c.mask m) cert.cells

    by : (b : Bool) → nat_eq m (2 ^ cert.inputs - 1) ≡ b →
        ((found ≡ None) × ((c : Cell) → Among c cert.cells → nat_eq c.mask m ≡ false)) ⊎
        ((c : Cell) × Among c cert.cells × (nat_eq c.mask m ≡ true) × (found ≡ Some c)) →
        ((m ≡ 2 ^ cert.inputs - 1) × (cond b cert.total (cost_of found) ≡ cert.total)) ⊎
        ((c : Cell) × Among c cert.cells × (c.mask ≡ m) × (cond b cert.total (cost_of found) ≡ c.cost))
        ⊎ (((c : Cell) → Among c cert.cells → c.mask ≢ m) × (m ≢ 2 ^ cert.inputs - 1) ×
        (cond b cert.total (cost_of found) ≡ cert.total - lower_bound n F cert m))
    by true f r = inl (eqb-true m (2 ^ cert.inputs - 1) f, refl)
    by false f r =
        elim r [
          | inl e ↦ inr
              (inr (
                λ c k s. true≢false (sym (eq-eqb c.mask m s) ∙ e.1 c k),
                λ s. true≢false (sym (eq-eqb m (2 ^ cert.inputs - 1) s) ∙ f),
                ap cost_of e.0,
              ))
          | inr s ↦ inr (inl (s.0, s.1, eqb-true s.0.mask m s.2, ap cost_of s.3))
        ]

-- the nodes above a set of variables
lower_bound_mask : (n : ℕ) (F : List Function) (cert : Certificate) (xs : List ℕ) → IsDistinct nat_eq xs → ((y : ℕ) → has xs y ≡ true → y < n) →
    lower_bound n F cert (mask_of xs) ≡ cond (nat_eq cert.format 1) 0 (essentials_outside n F xs)
unfolding lower_bound
lower_bound_mask n F cert xs d small = ap (cond (nat_eq cert.format 1) 0) (essentials_same n F (members n (mask_of xs)) xs (members_mask_of n xs d small))

-- one more variable takes at most its width from the nodes above
lower_bound_step : (n : ℕ) (F : List Function) (cert : Certificate) (x : ℕ) (xs : List ℕ) → IsDistinct nat_eq (x ∷ xs) →
    ((y : ℕ) → has (x ∷ xs) y ≡ true → y < n) →
    lower_bound n F cert (mask_of xs) ≤ lower_bound n F cert (mask_of (x ∷ xs)) + width n F xs x
unfolding IsDistinct
lower_bound_step n F cert x xs d small = grind (arith, lower_bound_mask, essentials_step, absent_from_apart)

-- no nodes stand above all variables
pub lower_bound_full : (n : ℕ) (F : List Function) (cert : Certificate) → lower_bound n F cert (2 ^ n - 1) ≡ 0
unfolding lower_bound
lower_bound_full n F cert = grind (arith, essentials_all, members_full, has_variables)

module _ (n : ℕ) (F : List Function) (cert : Certificate) (good : IsGood n F cert) where
  Small : Cell → Type 0
  Small c = c.cost + lower_bound n F cert c.mask ≤ cert.total

  -- the value of a set is at most the total without the nodes above it
  value_le : (m : ℕ) → set_value n F cert m ≤ cert.total - lower_bound n F cert m
  unfolding Small
  value_le m =
      elim (value_cases n F cert m) [
        | inl full ↦ grind (arith, lower_bound_full)
        | inr r ↦ elim r [
          | inl s ↦
              let c = s.0 in
              omega (arith, all_among Small cert.cells c (recursion_from_All Small cert.cells good.cells) s.1, ap (lower_bound n F cert) s.2)
          | inr e ↦ omega arith
        ]
      ]

  -- one more variable costs at most its width, listed or not
  edge : (below : List ℕ) (x : ℕ) → IsDistinct nat_eq (x ∷ below) → ((y : ℕ) → has (x ∷ below) y ≡ true → y < n) →
      is_lawful cert.pairs below ≡ true → is_lawful cert.pairs (x ∷ below) ≡ true →
      set_value n F cert (mask_of (x ∷ below)) ≤ set_value n F cert (mask_of below) + width n F below x
  unfolding mask_of IsDistinct
  edge below x d small low high =
      elim (value_cases n F cert (mask_of below)) [
        | inl full ↦ omega (arith, value_le (mask_of (x ∷ below)))
        | inr r ↦ elim r [
          | inl s ↦
              let c = s.0 in
              let same : (y : ℕ) → has (members n c.mask) y ≡ has below y = λ y. ap (λ m. has (members n m) y) s.2
              ∙ members_mask_of n below d.1 (λ z h. small z (or_right _ _ h)) y in
              let lawful = lawful_same cert.pairs (members n c.mask) below same ∙ low in
              let lawful' = lawful_same cert.pairs (x ∷ members n c.mask) (x ∷ below) (λ y. ap (λ b. nat_eq y x || b) (same y)) ∙ high in
              let step = all_among Edges cert.cells c (recursion_from_All Edges cert.cells good.edges) s.1 x
              (small x (or_left _ _ (eq-eqb x x refl))) (same x ∙ absent_from_apart x below d.0) (lawful, lawful') in
              omega (arith, width_same n F (members n c.mask) below x same, ap (λ m. set_value n F cert (m + 2 ^ x)) s.2, ap (set_value n F cert) s.2)
          | inr e ↦ omega (arith, value_le (mask_of (x ∷ below)), lower_bound_step n F cert x below d small)
        ]
      ]
    where
      Edges : Cell → Type 0
      Edges c = (x : ℕ) → x < n → IsFalse (has (members n c.mask) x) → AreBothLawful n cert.pairs c.mask x →
          set_value n F cert (c.mask + 2 ^ x) ≤ set_value n F cert c.mask + width n F (members n c.mask) x

  empty_value : set_value n F cert (mask_of []) ≡ 0
  unfolding mask_of
  empty_value = good.start

  -- the value of a set is at most the cost of any lawful list of its variables
  climb : (xs : List ℕ) → IsDistinct nat_eq xs → ((y : ℕ) → has xs y ≡ true → y < n) → are_lawful cert.pairs xs ≡ true →
      set_value n F cert (mask_of xs) ≤ cost n F xs
  unfolding cost IsDistinct
  climb [] d small l = omega (arith, empty_value)
  climb (x ∷ xs) d small l =
      let parts = are_lawful_parts cert.pairs x xs l in
      omega (arith, climb xs d.1 (λ y h. small y (or_right _ _ h)) parts.1, edge xs x d small (lawful_whole cert.pairs xs parts.1) parts.0)

-- the total of a good certificate is at most the size of each order that keeps its pairs
pub no_order_is_smaller : (n : ℕ) (F : List Function) (cert : Certificate) → IsGood n F cert → (order : List ℕ) → IsOrder n order →
    Keeps cert.pairs order → cert.total ≤ size_under n F order
unfolding set_value
no_order_is_smaller n F cert good order o k =
    let total : set_value n F cert (mask_of order) ≡ cert.total =
    grind (arith, full_mask) in
    omega (arith, climb n F cert good order o.once (λ y h. (o.all y).0 h) (lawful_from_order n cert.pairs order o k).lawful, size_is_cost n F order o)

-- nor has any diagram of F fewer nodes, under any such order
pub no_diagram_is_smaller : (n : ℕ) (F : List Function) (cert : Certificate) → IsGood n F cert → (order : List ℕ) (d : Graph) →
    IsOrder n order → Keeps cert.pairs order → Represents n F order d →
    cert.total ≤ length d.nodes
no_diagram_is_smaller n F cert good order d o k rep =
    omega (arith, no_order_is_smaller n F cert good order o k, size_bound n F order d o rep)

-- a good certificate's total is the fewest nodes under the orders that keep its pairs
pub good_is_fewest : (n : ℕ) (F : List Function) (cert : Certificate) → IsGood n F cert → FewestKeeping n F cert.pairs cert.total
unfolding size_under
good_is_fewest n F cert good =
    let exact = exact_diagram n F cert.order good.order in
    record {
      some = (cert.order, exact.0, good.order, good.pairs, exact.1.represents, exact.1.size ∙ (ap sum (sym good.levels) ∙ sym good.total));
      no_fewer = λ other d o k rep. no_diagram_is_smaller n F cert good other d o k rep;
    }

pub good_has_no_reason : (n : ℕ) (F : List Function) (cert : Certificate) → IsGood n F cert → (reason : Reason) → Applies n F cert reason → ⊥
good_has_no_reason n F cert h reason k = grind arith

pub good_order : (n : ℕ) (F : List Function) (cert : Certificate) → IsGood n F cert →
    IsOrder n cert.order × Keeps cert.pairs cert.order × (size_under n F cert.order ≡ cert.total)
unfolding size_under
good_order n F cert good = (good.order, good.pairs, ap sum (sym good.levels) ∙ sym good.total)
