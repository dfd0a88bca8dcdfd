use Rattle.std.proofs.Common.{◌≡◌, ◌+◌, ◌-◌, ◌/◌, ◌^◌, ◌≤◌, ℕ, List, take, set, replicate, refl, sym, ap, ◌∙◌, subst, arith}
use Rattle.std.proofs.lemmas.Nat.{one_shl}
use Rattle.definitions.specs.OrderFaults.{Accepts}
use Rattle.definitions.specs.Pairs.{IsFirstOrder}
use Rattle.definitions.specs.KeptPairs.{KeptPairs, CanBeKept}
use Rattle.definitions.proofs.Precedence.MaskLaws.{member_bit}
use Rattle.definitions.proofs.Precedence.Greedy.{GreedyTo, top_parts, greedy_start, greedy_some, greedy_step, greedy_end, first_accepted}
use Rattle.definitions.proofs.Bits.Masks.{all_ones}
use Rattle.order_model.proofs.pairs.Pairs.first_order.Goals as goal

same : (v w : KeptPairs) → v ≡ w → v.inputs ≡ w.inputs
same v w e = ap (λ (u : KeptPairs). u.inputs) e

kept_of : (v w : KeptPairs) → v ≡ w → CanBeKept v.inputs v.pairs → CanBeKept w.inputs w.pairs
kept_of v w e k = subst (λ (u : KeptPairs). CanBeKept u.inputs u.pairs) e k

pub loop-place-init : goal.loop-place-init
loop-place-init c =
    let kept = kept_of _ _ c.self.view_is c.self.invariant.kept in
    subst (λ (m : ℕ). GreedyTo c.args.self.now.inputs c.args.self.now.pairs (replicate 16 0) 0 m)
    (sym (all_ones c.args.self.now.inputs kept.few) ∙ ap (λ (k : ℕ). 65535 / 2 ^ (16 - k)) (sym (same _ _ c.self.view_is)))
    (greedy_start c.args.self.now.inputs c.args.self.now.pairs (replicate 16 0) kept refl)

pub smallest_top-x-requires-clause-some : goal.smallest_top-x-requires-clause-some
smallest_top-x-requires-clause-some c =
    greedy_some c.args.self.now.inputs c.args.self.now.pairs c.loop-place.variables c.loop-place.place c.loop-place.remaining c.loop-place.invariant
    (omega (arith, same _ _ c.self.view_is))

pub overflow_shl-remaining : goal.overflow_shl-remaining
overflow_shl-remaining c =
    let n = c.args.self.now.inputs in
    let there = (top_parts n c.args.self.now.pairs c.loop-place.remaining c.smallest_top-x.result c.smallest_top-x.ensures.top).0 in
    grind (arith, member_bit)

pub overflow_sub-remaining-in-loop-place : goal.overflow_sub-remaining-in-loop-place
overflow_sub-remaining-in-loop-place c =
    let n = c.args.self.now.inputs in
    let there = (top_parts n c.args.self.now.pairs c.loop-place.remaining c.smallest_top-x.result c.smallest_top-x.ensures.top).0 in
    grind (arith, member_bit)

pub loop-place-preserved : goal.loop-place-preserved
loop-place-preserved c =
    let n = c.args.self.now.inputs in
    let P = c.args.self.now.pairs in
    let x = c.smallest_top-x.result in
    let bit = member_bit n c.loop-place.remaining x ((top_parts n P c.loop-place.remaining x c.smallest_top-x.ensures.top).0) in
    let e = same _ _ c.self.view_is in
    let low = one_shl x 16 (omega arith) in
    subst (λ (m : ℕ). GreedyTo n P (set c.loop-place.variables c.loop-place.place x) (c.loop-place.place + 1) (c.loop-place.remaining - m)) (sym low)
    (greedy_step n P c.loop-place.variables c.loop-place.place c.loop-place.remaining x c.loop-place.invariant (omega arith)
    c.smallest_top-x.ensures.top c.smallest_top-x.ensures.smallest)

-- after the last step
module _ (fields value : KeptPairs) (is : fields ≡ value) (k : CanBeKept fields.inputs fields.pairs) (xs : List ℕ) (place remaining : ℕ)
    (g : GreedyTo value.inputs value.pairs xs place remaining) (h : fields.inputs ≤ place) (j : place ≤ fields.inputs) where
  first : IsFirstOrder value.inputs value.pairs (take fields.inputs xs)
  first =
      let e = same fields value is in
      subst (λ (i : ℕ). IsFirstOrder value.inputs value.pairs (take i xs)) (sym e)
      (greedy_end value.inputs value.pairs xs place remaining (kept_of fields value is k) g (omega arith) (omega arith))

  accepted : Accepts (take fields.inputs xs)
  accepted =
      let e = same fields value is in
      subst (λ (i : ℕ). Accepts (take i xs)) (sym e)
      (first_accepted value.inputs value.pairs xs (kept_of fields value is k) g.long
      (greedy_end value.inputs value.pairs xs place remaining (kept_of fields value is k) g (omega arith) (omega arith)))

pub from_variables-requires : goal.from_variables-requires
from_variables-requires c = grind (arith, accepted)

pub returns : goal.returns
returns c = grind (arith, first)
