use Rattle.std.proofs.Common.{◌≡◌, ◌+◌, ◌*◌, ◌-◌, ◌%◌, ◌^◌, ◌<◌, get_or, set, max, refl, sym, ap, ◌∙◌, subst, arith}
use Rattle.std.proofs.lemmas.Bool.{iff_false}
use Rattle.std.proofs.lemmas.Nat.{one_shl}
use Rattle.order_counts.proofs.PassedOn.{IsPassedOn, passed_by, passed_on}
use Rattle.order_counts.proofs.limits.pass_on.Goals as goal
use Rattle.order_counts.proofs.limits.pass_on.Goals.{then-contains, else-contains}

pub loop-x-init : goal.loop-x-init
loop-x-init c = record {
  rise = λ y lt one. absurd (omega arith);
  more = λ m. omega arith;
  above = λ m le. refl;
  small = λ limit all m. all m;
}

pub loop-x-preserved : goal.loop-x-preserved
loop-x-preserved c =
    let old = c.args.limits.now in
    let row = c.args.row.now in
    let mask = c.args.set in
    let x = c.loop-x.x in
    let small : c.loop-x.x < 16 = omega (arith, c.loop-x-test.true, c.requires.few) in
    let power : 1 * 2 ^ c.loop-x.x % 65536 ≡ 2 ^ c.loop-x.x = one_shl c.loop-x.x 16 small in
    elim c.if-contains.branch [
      | then-contains w ↦
          let one = c.contains.ensures.0 w.if-contains.true in
          let place = ap (λ k. mask - k) power in
          let v = w.max.result in
          let is = w.max.ensures ∙ ap (λ k. max (get_or c.loop-x.limits k 0) w.saturating_sub.result) place
          ∙ ap (λ k. max (get_or c.loop-x.limits (mask - 2 ^ x) 0) k) w.saturating_sub.ensures in
          subst (λ ls. IsPassedOn old ls row mask (x + 1)) (ap (λ k. set c.loop-x.limits k v) (sym place) ∙ sym w.limits-is)
          (passed_on old c.loop-x.limits row mask x c.loop-x.invariant one (omega (arith, c.loop-x.auto.limits, c.requires.within)) v is)
      | else-contains w ↦
          subst (λ ls. IsPassedOn old ls row mask (x + 1)) (sym w.limits-is)
          (passed_by old c.loop-x.limits row mask x c.loop-x.invariant (iff_false c.contains.ensures w.if-contains.false))
    ]

pub returns : goal.returns
returns c =
    let all : c.loop-x.x ≡ c.args.inputs = omega (arith, c.loop-x-test.false, c.loop-x.auto.x-end) in
    let h = subst (IsPassedOn c.args.limits.now c.loop-x.limits c.args.row.now c.args.set) all c.loop-x.invariant in
    record { long = c.loop-x.auto.limits; rise = h.rise; more = h.more; above = h.above; small = h.small }
