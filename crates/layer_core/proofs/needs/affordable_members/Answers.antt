use Rattle.std.proofs.Common.{◌≡◌, ℕ, ◌+◌, refl, slice_index, sym, subst, arith}
use Rattle.definitions.proofs.Bits.Problems.{MaskOfFirst, mask_none, mask_with_next, mask_without_gap, mask_without_next}
use Rattle.definitions.proofs.Precedence.Masks.{bit_inside}
use Rattle.layer_core.proofs.WantedMembers.{is_affordable, affordable_is, affordable_yes, affordable_dear, affordable_absent}
use Rattle.layer_core.proofs.needs.affordable_members.Goals.{then-below-x, else-below-x}
use Rattle.layer_core.proofs.needs.affordable_members.Goals as goal

pub loop-x-init : goal.loop-x-init
loop-x-init c = record {
  small = omega arith;
  inside = omega arith;
  found = mask_none (is_affordable (slice_index c.args.below.now) c.args.bound c.args.mask);
}

pub loop-x-preserved : goal.loop-x-preserved
loop-x-preserved c =
    let costs : ℕ → ℕ = slice_index c.args.below.now in
    let mask = c.args.mask in
    let x = c.in-Some.x in
    let m = c.in-Some.ensures.member in
    let small = m.1 in
    let inside = bit_inside c.args.inputs mask x c.requires.within m.2 in
    let test = is_affordable costs c.args.bound mask in
    let before = mask_without_gap test c.loop-x.from x c.loop-x.found m.0
    (λ y h lt. affordable_absent costs c.args.bound mask y (λ e. let z = c.in-Some.ensures.first y h lt in absurd (omega arith)))
    c.loop-x.invariant.found in
    record {
      small = omega arith;
      inside = omega arith;
      found = elim c.if-below-x.branch [
        | then-below-x w ↦
            subst (λ (k : ℕ). MaskOfFirst test (x + 1) k) (sym w.found-is)
            (mask_with_next test x c.loop-x.found small before
            (affordable_yes costs c.args.bound mask x (costs x) m.2 refl (let t = w.if-below-x.true in omega arith)))
        | else-below-x w ↦
            subst (λ (k : ℕ). MaskOfFirst test (x + 1) k) (sym w.found-is)
            (mask_without_next test x c.loop-x.found small before
            (affordable_dear costs c.args.bound mask x (costs x) refl (let t = w.if-below-x.false in omega arith)))
      ];
    }

pub returns : goal.returns
returns c =
    let costs : ℕ → ℕ = slice_index c.args.below.now in
    let test = is_affordable costs c.args.bound c.args.mask in
    affordable_is c.args.inputs costs c.args.bound c.args.mask c.loop-x.found
    (mask_without_gap test c.loop-x.from c.args.inputs c.loop-x.found c.loop-x.invariant.inside
    (λ y h lt. affordable_absent costs c.args.bound c.args.mask y (λ e. let z = c.in_default.ensures.none refl y h in absurd (omega arith)))
    c.loop-x.invariant.found)
