use Rattle.std.proofs.Common.{◌≡◌, ℕ, true, length-set, Some, None, refl, subst, arith}
use Rattle.std.specs.Vec.{with_item}
use Rattle.std.proofs.lemmas.Option.{slice_get_within}
use Rattle.subset_layers.specs.Layers.{masks_of}
use Rattle.layer_core.specs.Machine.{World, Read, Seen, Empty, step}
use Rattle.layer_core.specs.declared.machine.WorkerMarks.{WorkerMarks}
use Rattle.layer_core.specs.Pairing.{pair_of}
use Rattle.layer_core.specs.Shown.{shown}
use Rattle.layer_core.proofs.Layouts.{place_found, missing_if}
use Rattle.layer_core.proofs.CoreSteps.{has_marks, cells_wide, known_wide, read_outside, read_none, read_one, is_there, sound_step, shown_with}
use Rattle.layer_core.proofs.machine.Core.read.Goals as goal

pub index-requires : goal.index-requires
index-requires c = grind (arith, cells_wide, slice_get_within)

pub returns-in_default : goal.returns-in_default
returns-in_default c =
    subst (λ (s : World). (Empty, s) ≡ step s (Read c.args.worker c.args.mask)) c.self.view_is
    (read_outside c.self.inside c.self.invariant c.args.worker c.args.mask
    (missing_if c.self.inside.layer c.args.mask c.position.result c.in_default.is c.position.ensures.none))

pub returns-in_default-index : goal.returns-in_default-index
returns-in_default-index c =
    let x = c.self.inside in let p : ℕ = c.in-Some.place in
    subst (λ (s : World). (Empty, s) ≡ step s (Read c.args.worker c.args.mask)) c.self.view_is
    (read_none x c.self.invariant c.args.worker c.args.mask p (place_found x.layer p c.args.mask c.in-Some.ensures.found)
    (slice_get_within (masks_of x.layer) p c.args.mask c.in-Some.ensures.found)
    (is_there x.cells.items p c.index.result.now None c.index.ensures c.in_default-index.is))

pub index_mut-requires-2 : goal.index_mut-requires-2
index_mut-requires-2 c =
    let x = c.self.inside in let low = has_marks x c.args.self.now c.args.worker c.self.view_is c.requires in omega (
      arith,
      known_wide x c.self.invariant c.args.worker c.index_mut.result.now low c.index_mut.ensures.value,
      slice_get_within (masks_of x.layer) c.in-Some.place c.args.mask c.in-Some.ensures.found,
    )

pub invariant_of-self : goal.invariant_of-self
invariant_of-self c =
    let x = c.self.inside in let low = has_marks x c.args.self.now c.args.worker c.self.view_is c.requires in let m : WorkerMarks = c.index_mut.result.now in
    let p : ℕ = c.in-Some.place in let there = place_found x.layer p c.args.mask c.in-Some.ensures.found in
    let after : WorkerMarks = record { claims = m.claims; known = with_item m.known p true; ended = m.ended } in (
      sound_step (shown x) (shown_with x x.counter x.cells.items c.args.worker after) (Seen (pair_of c.in-Some-index.cell)) (Read c.args.worker c.args.mask)
          (read_one x c.self.invariant c.args.worker m low c.index_mut.ensures.value c.args.mask p there
          (slice_get_within (masks_of x.layer) p c.args.mask c.in-Some.ensures.found) c.in-Some-index.cell after refl
          (is_there x.cells.items p c.index.result.now (Some c.in-Some-index.cell) c.index.ensures c.in-Some-index.is))
          c.self.invariant.0,
      omega (arith, length-set x.workers.items c.args.worker after),
    )

pub returns : goal.returns
returns c =
    let x = c.self.inside in let low = has_marks x c.args.self.now c.args.worker c.self.view_is c.requires in let m : WorkerMarks = c.index_mut.result.now in
    let p : ℕ = c.in-Some.place in let there = place_found x.layer p c.args.mask c.in-Some.ensures.found in
    grind (arith, read_one)
