use Rattle.std.proofs.Common.{◌≡◌, ◌+◌, true, false, length-set, refl, arith}
use Rattle.std.specs.Vec.{with_item}
use Rattle.layer_core.specs.Machine.{Claim, Claimed, NoMore}
use Rattle.layer_core.specs.declared.machine.WorkerMarks.{WorkerMarks}
use Rattle.layer_core.specs.Shown.{shown}
use Rattle.layer_core.proofs.CoreSteps.{has_marks, small_counter, claims_wide, still_told, drawn, ended, same_there, sound_step, shown_with}
use Rattle.layer_core.proofs.machine.Core.claim.Goals as goal

pub returns-then-index : goal.returns-then-index
returns-then-index c =
    let x = c.self.inside in let low = has_marks x c.args.self.now c.args.worker c.self.view_is c.requires in
    grind (arith, still_told)

pub overflow_add-self : goal.overflow_add-self
overflow_add-self c = omega (arith, small_counter c.self.inside c.self.invariant)

pub index_mut-requires-then-block-blocks : goal.index_mut-requires-then-block-blocks
index_mut-requires-then-block-blocks c =
    let x = c.self.inside in let low = has_marks x c.args.self.now c.args.worker c.self.view_is c.requires in grind (arith, claims_wide)

pub invariant_of-self : goal.invariant_of-self
invariant_of-self c =
    let x = c.self.inside in let low = has_marks x c.args.self.now c.args.worker c.self.view_is c.requires in let m : WorkerMarks = c.index_mut.result.now in
    let untold : m.ended ≡ false =
    grind (arith, same_there) in
    let after : WorkerMarks = record { claims = with_item m.claims x.counter true; known = m.known; ended = m.ended } in (
      sound_step (shown x) (shown_with x (x.counter + 1) x.cells.items c.args.worker after) (Claimed x.counter) (Claim c.args.worker)
          (drawn x c.self.invariant c.args.worker m low c.index_mut.ensures.value after refl untold
          (omega arith))
          c.self.invariant.0,
      omega (arith, length-set x.workers.items c.args.worker after),
    )

pub returns-then-block-blocks : goal.returns-then-block-blocks
returns-then-block-blocks c =
    let x = c.self.inside in let low = has_marks x c.args.self.now c.args.worker c.self.view_is c.requires in grind (arith, same_there, drawn)

pub invariant_of-self-else-block-blocks : goal.invariant_of-self-else-block-blocks
invariant_of-self-else-block-blocks c =
    let x = c.self.inside in let low = has_marks x c.args.self.now c.args.worker c.self.view_is c.requires in
    let m : WorkerMarks = c.index_mut-else-block-blocks.result.now in
    let untold : m.ended ≡ false =
    grind (arith, same_there) in
    let after : WorkerMarks = record { claims = m.claims; known = m.known; ended = true } in (
      sound_step (shown x) (shown_with x (x.counter + 1) x.cells.items c.args.worker after) NoMore (Claim c.args.worker)
          (ended x c.self.invariant c.args.worker m low c.index_mut-else-block-blocks.ensures.value after refl untold
          (omega arith))
          c.self.invariant.0,
      omega (arith, length-set x.workers.items c.args.worker after),
    )

pub returns-else-block-blocks : goal.returns-else-block-blocks
returns-else-block-blocks c =
    let x = c.self.inside in let low = has_marks x c.args.self.now c.args.worker c.self.view_is c.requires in
    grind (arith, same_there, ended)
