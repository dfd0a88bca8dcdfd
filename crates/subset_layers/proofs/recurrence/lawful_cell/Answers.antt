use Rattle.std.proofs.Common.{ℕ, ◌^◌, ◌<◌, IsTrue, slice_index, refl, sym, ◌∙◌, subst, arith}
use Rattle.definitions.specs.Orders.{has, members}
use Rattle.definitions.specs.Problems.{functions}
use Rattle.definitions.specs.Cells.{first_of}
use Rattle.subset_layers.specs.Sums.{IsBest}
use Rattle.subset_layers.proofs.CellSteps.{members_widths, cell_found, cell_clipped, first_has_mask}
use Rattle.subset_layers.proofs.recurrence.lawful_cell.Goals as goal

pub above-requires : goal.above-requires
above-requires c = subst (λ (n : ℕ). c.args.mask < 2 ^ n) (sym c.requires.functions) c.requires.within

pub returns-in-None : goal.returns-in-None
returns-in-None c = λ P order o k l given.
    let v = c.args.lower_bounds.now in
    let n = v.problem.inputs in
    let within : c.args.mask < 2 ^ n = subst (λ (i : ℕ). c.args.mask < 2 ^ i) (sym c.requires.functions) c.requires.within in
    c.clipped_cell.ensures n within
    ∙ cell_clipped n v.lower_bound c.args.mask c.args.bound (slice_index c.args.below.now) (slice_index c.args.widths.now)
    (functions v.problem) P order o k given _ (first_of (members n c.args.mask)) (first_has_mask n c.args.mask c.requires.some (omega arith) within) refl
    (λ low y m le. absurd (omega (
      arith,
      c.in-None.ensures.none refl y (subst (λ (i : ℕ). IsTrue (has (members i c.args.mask) y)) c.requires.functions m),
    )))

pub returns-then-best-above : goal.returns-then-best-above
returns-then-best-above c = λ P order o k l given.
    let v = c.args.lower_bounds.now in
    let n = v.problem.inputs in
    let F = functions v.problem in
    let costs : ℕ → ℕ = slice_index c.args.below.now in
    let widths : ℕ → ℕ = slice_index c.args.widths.now in
    let x = c.in-Some.best.variable in
    let best = subst (λ (i : ℕ). IsBest (λ y. IsTrue (has (members i c.args.mask) y)) c.args.bound costs widths c.in-Some.best.sum x)
    (sym c.requires.functions) c.in-Some.ensures.best in
    let is = c.above.ensures.nodes
    (members_widths n v.lower_bound c.args.mask c.args.bound costs widths F P order o k given x l best.member best.within) in
    cell_found n v.lower_bound c.args.mask c.args.bound costs widths F P order o k given c.above.result c.in-Some.best.sum x l is best
    (omega (arith, c.if-best-above.true, c.from.ensures))

pub returns-else-best-above : goal.returns-else-best-above
returns-else-best-above c = λ P order o k l given.
    let v = c.args.lower_bounds.now in
    let n = v.problem.inputs in
    let F = functions v.problem in
    let costs : ℕ → ℕ = slice_index c.args.below.now in
    let widths : ℕ → ℕ = slice_index c.args.widths.now in
    let x = c.in-Some.best.variable in
    let within : c.args.mask < 2 ^ n = subst (λ (i : ℕ). c.args.mask < 2 ^ i) (sym c.requires.functions) c.requires.within in
    let best = subst (λ (i : ℕ). IsBest (λ y. IsTrue (has (members i c.args.mask) y)) c.args.bound costs widths c.in-Some.best.sum x)
    (sym c.requires.functions) c.in-Some.ensures.best in
    let is = c.above.ensures.nodes
    (members_widths n v.lower_bound c.args.mask c.args.bound costs widths F P order o k given x l best.member best.within) in
    c.clipped_cell-else-best-above.ensures n within
    ∙ cell_clipped n v.lower_bound c.args.mask c.args.bound costs widths F P order o k given c.above.result
    (first_of (members n c.args.mask)) (first_has_mask n c.args.mask c.requires.some (omega arith) within) is
    (λ low y m le. let b = best.least y m le in omega (arith, b, c.if-best-above.false, c.from.ensures))
