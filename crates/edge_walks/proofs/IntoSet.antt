-- Edges into one set.
--     bit_needs      a member's bit is in the mask
--     edge_into, edge_kept      the edge into a set by one of its members fails, or does not
--     first_found      with no failing edge by a larger variable it is the first
use Rattle.std.proofs.Common.{◌≡◌, ℕ, ◌+◌, ◌-◌, ◌^◌, ◌<◌, ◌≤◌, inl, inr, true, false, List, length, slice_index, Some, eqb-true, eq-eqb, arith}
use Rattle.std.specs.Int.{bit_at}
use Rattle.std.proofs.Math.Pow.{pow_mono}
use Rattle.std.proofs.lemmas.Bool.{cases_lt, and_parts}
use Rattle.std.proofs.lemmas.Nat.{pow-add}
use Rattle.std.proofs.lemmas.Nat.Bits.{bit_at_above}
use Rattle.definitions.specs.Functions.{Function}
use Rattle.definitions.specs.Orders.{has, members, without}
use Rattle.definitions.specs.Widths.{width}
use Rattle.definitions.proofs.Functions.Exchange.{width_same}
use Rattle.definitions.proofs.Bits.Masks.{has_members, members_without}
use Rattle.definitions.proofs.Widths.Recurrence.{has_without}
use Rattle.edge_walks.specs.Edges.{EdgeFails, FailsWithin, IsEdgeBefore, IsFirstEdge}
use Rattle.edge_walks.proofs.FirstEdges.{into_own}

pub bit_needs : (n mask x : ℕ) → has (members n mask) x ≡ true → 2 ^ x ≤ mask
bit_needs n mask x h = grind (arith, cases_lt, bit_at_above, eqb-true, and_parts, has_members)

module _ (n : ℕ) (F : List Function) (values judged : List ℕ) (T x : ℕ) (there : has (members n T) x ≡ true) where
  back : (T - 2 ^ x) + 2 ^ x ≡ T
  back = omega (arith, bit_needs n T x there)

  same : width n F (members n (T - 2 ^ x)) x ≡ width n F (without x (members n T)) x
  same = width_same n F (members n (T - 2 ^ x)) (without x (members n T)) x (members_without n T x there)

  gone : has (members n (T - 2 ^ x)) x ≡ false
  gone = grind (arith, members_without, has_without, eq-eqb)

  pub edge_into : x < n → bit_at (slice_index judged T) x ≡ 1 →
      slice_index values (T - 2 ^ x) + width n F (without x (members n T)) x < slice_index values T → EdgeFails n F values judged (T - 2 ^ x) x
  edge_into small j f = search (gone, slice_index, back, same)

  pub edge_kept : slice_index values T ≤ slice_index values (T - 2 ^ x) + width n F (without x (members n T)) x → (S : ℕ) →
      EdgeFails n F values judged S x → S + 2 ^ x ≡ T → ⊥
  edge_kept kept S f e = grind (arith, same, slice_index)

module _ (n : ℕ) (F : List Function) (values judged : List ℕ) (long : length judged ≡ 2 ^ n) (T : ℕ) where
  pub first_found : (x : ℕ) → has (members n T) x ≡ true → EdgeFails n F values judged (T - 2 ^ x) x →
      ((S y : ℕ) → x + 1 ≤ y → FailsWithin n F values judged T 0 S y → ⊥) →
      IsFirstEdge (FailsWithin n F values judged T 0) (Some (T - 2 ^ x, x))
  first_found x there f later =
      ((f, omega (arith, own), omega (arith, own)), λ S y g b. by S y (into_own n F values judged long T S y g) g b)
    where
      own : (T - 2 ^ x) + 2 ^ x ≡ T
      own = omega (arith, bit_needs n T x there)

      by : (S y : ℕ) → S + 2 ^ y ≡ T → FailsWithin n F values judged T 0 S y → IsEdgeBefore (S, y) (T - 2 ^ x, x) → ⊥
      by S y e g (inl l) =
          elim (cases_lt x y) [
            | inl more ↦ later S y (omega arith) g
            | inr less ↦ omega (arith, pow_mono {i = y} {j = x} less, own)
          ]
      by S y e g (inr k) =
          let d = pow-add 2 y 1 in
          let o = own in
          omega (arith, pow_mono {i = y + 1} {j = x} (omega arith))
