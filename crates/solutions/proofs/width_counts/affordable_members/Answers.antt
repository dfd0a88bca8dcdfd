use Rattle.std.proofs.Common.{◌≡◌, ℕ, ◌+◌, ◌-◌, ◌<◌, sym, ap, ◌∙◌, subst, arith}
use Rattle.std.proofs.lemmas.Bool.{iff_false}
use Rattle.std.proofs.lemmas.Nat.{one_shl}
use Rattle.definitions.specs.declared.limits.Limit.{Limit}
use Rattle.definitions.proofs.Bits.Problems.{MaskOfFirst, mask_with_next, mask_without_next}
use Rattle.layer_core.specs.Instances.{InstanceOf}
use Rattle.solutions.specs.Solutions.{cost_for, cost_for_without}
use Rattle.layer_core.proofs.WantedMembers.{is_affordable, affordable_is, affordable_yes, affordable_dear, affordable_absent}
use Rattle.solutions.proofs.width_counts.affordable_members.Goals as goal
use Rattle.solutions.proofs.width_counts.affordable_members.Goals.{then-contains+then-cost-bound, else-contains, else-contains-via-then-contains+else-cost-bound, else-contains-via-else-contains}

pub loop-x-preserved : goal.loop-x-preserved
loop-x-preserved c =
    let t = c.args.cells.now in
    let costs = cost_for_without t c.args.mask in
    let x = c.loop-x.x in
    let test = is_affordable costs t.bound c.args.mask in
    let small : x < 16 = omega arith in
    let e = one_shl x 16 small in
    let bound : c.limit-bound.result.bound ≡ t.bound =
    ap (λ (l : Limit). l.bound) c.limit-bound.ensures.value ∙ ap (λ (z : InstanceOf). z.bound) c.instance.ensures in
    elim c.if-contains.branch [
      | then-contains+then-cost-bound w ↦
          let is : costs x ≡ w.cost.result = ap (λ k. cost_for t (c.args.mask - k)) (sym e) ∙ sym w.cost.ensures in
          subst (λ (m : ℕ). MaskOfFirst test (x + 1) m) (sym w.found-is)
          (mask_with_next test x c.loop-x.found small c.loop-x.invariant
          (affordable_yes costs t.bound c.args.mask x w.cost.result (c.contains.ensures.0 w.if-contains.true) is
          (let le = w.if-cost-bound.true in omega (arith, le, bound))))
      | else-contains w ↦
          subst (λ (m : ℕ). MaskOfFirst test (x + 1) m) (sym w.found-is)
          (mask_without_next test x c.loop-x.found small c.loop-x.invariant
          (elim w.else-contains.branch [
            | else-contains-via-then-contains+else-cost-bound w' ↦
                let is : costs x ≡ w'.cost.result = ap (λ k. cost_for t (c.args.mask - k)) (sym e) ∙ sym w'.cost.ensures in
                affordable_dear costs t.bound c.args.mask x w'.cost.result is (let lt = w'.if-cost-bound.false in omega (arith, lt, bound))
            | else-contains-via-else-contains w' ↦
                affordable_absent costs t.bound c.args.mask x (iff_false c.contains.ensures w'.if-contains.false)
          ]))
    ]

pub returns : goal.returns
returns c =
    let t = c.args.cells.now in
    let test = is_affordable (cost_for_without t c.args.mask) t.bound c.args.mask in
    let f = c.loop-x-test.false in
    let e : c.loop-x.x ≡ t.problem.inputs = omega arith in
    affordable_is t.problem.inputs (cost_for_without t c.args.mask) t.bound c.args.mask c.loop-x.found
    (subst (λ (k : ℕ). MaskOfFirst test k c.loop-x.found) e c.loop-x.invariant)
