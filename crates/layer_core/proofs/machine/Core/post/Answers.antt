use Rattle.std.proofs.Common.{◌≡◌, ℕ, ◌<◌, true, false, get_or, set, length, length-set, Some, None, sym, ◌∙◌, subst, arith}
use Rattle.std.specs.Vec.{with_item}
use Rattle.std.proofs.lemmas.Option.{slice_get_within}
use Rattle.subset_layers.specs.Layers.{masks_of}
use Rattle.layer_core.specs.Machine.{World, Post, Posted, Stranger, learns, step}
use Rattle.layer_core.specs.declared.machine.WorkerMarks.{WorkerMarks}
use Rattle.layer_core.specs.Instances.{layout_of}
use Rattle.layer_core.specs.Pairing.{pair_of}
use Rattle.layer_core.specs.Marked.{marks_of}
use Rattle.layer_core.specs.Shown.{shown}
use Rattle.layer_core.proofs.Layouts.{place_found, missing_if, block_at}
use Rattle.layer_core.proofs.CoreSteps.{has_marks, cells_wide, claims_wide, known_wide, post_outside, post_not_mine, post_again, post_first, is_there, same_there, sound_step, shown_with, mark_at}
use Rattle.layer_core.proofs.machine.Core.post.Goals as goal

pub returns-in_default : goal.returns-in_default
returns-in_default c =
    subst (λ (s : World). (Stranger, s) ≡ step s (Post c.args.worker c.args.mask (pair_of c.args.cell))) c.self.view_is
    (post_outside c.self.inside c.self.invariant c.args.worker c.args.mask c.args.cell
    (missing_if c.self.inside.layer c.args.mask c.position.result c.in_default.is c.position.ensures.none))

pub block_place-requires : goal.block_place-requires
block_place-requires c = slice_get_within (masks_of c.self.inside.layer) c.in-Some.place c.args.mask c.in-Some.ensures.found

pub index-requires-2 : goal.index-requires-2
index-requires-2 c =
    let x = c.self.inside in let low = has_marks x c.args.self.now c.args.worker c.self.view_is c.requires in grind (arith, claims_wide)

pub returns-then-not-index : goal.returns-then-not-index
returns-then-not-index c =
    let x = c.self.inside in let low = has_marks x c.args.self.now c.args.worker c.self.view_is c.requires in let m : WorkerMarks = c.index.result.now in
    let p : ℕ = c.in-Some.place in let within = slice_get_within (masks_of x.layer) p c.args.mask c.in-Some.ensures.found in
    let there = place_found x.layer p c.args.mask c.in-Some.ensures.found in
    let block : get_or (layout_of x.layer).block_of p 0 ≡ c.block_place.result = block_at x.layer p within ∙ sym c.block_place.ensures.place in
    let marked : c.block_place.result < length m.claims.items =
    omega (arith, claims_wide x c.self.invariant c.args.worker m low c.index.ensures) in
    subst (λ (s : World). (Stranger, s) ≡ step s (Post c.args.worker c.args.mask (pair_of c.args.cell))) c.self.view_is
    (post_not_mine x c.self.invariant c.args.worker m low c.index.ensures c.args.mask p there within c.args.cell
    (mark_at m.claims.items (get_or (layout_of x.layer).block_of p 0) c.block_place.result c.index-2.result.now false block marked
    c.index-2.ensures c.if-not-index.true))

pub index-requires-3 : goal.index-requires-3
index-requires-3 c = grind (arith, cells_wide, slice_get_within)

pub returns-in_default-index : goal.returns-in_default-index
returns-in_default-index c =
    let x = c.self.inside in let low = has_marks x c.args.self.now c.args.worker c.self.view_is c.requires in let m : WorkerMarks = c.index.result.now in
    let p : ℕ = c.in-Some.place in let within = slice_get_within (masks_of x.layer) p c.args.mask c.in-Some.ensures.found in
    let there = place_found x.layer p c.args.mask c.in-Some.ensures.found in
    let block : get_or (layout_of x.layer).block_of p 0 ≡ c.block_place.result = block_at x.layer p within ∙ sym c.block_place.ensures.place in
    let marked : c.block_place.result < length m.claims.items =
    omega (arith, claims_wide x c.self.invariant c.args.worker m low c.index.ensures) in
    let mine = mark_at m.claims.items (get_or (layout_of x.layer).block_of p 0) c.block_place.result c.index-2.result.now true block marked
    c.index-2.ensures c.if-not-index.false in
    grind (arith, post_again)

pub index_mut-requires-3 : goal.index_mut-requires-3
index_mut-requires-3 c =
    let x = c.self.inside in let low = has_marks x c.args.self.now c.args.worker c.self.view_is c.requires in omega (
      arith,
      known_wide x c.self.invariant c.args.worker c.index_mut-2.result.now low c.index_mut-2.ensures.value,
      slice_get_within (masks_of x.layer) c.in-Some.place c.args.mask c.in-Some.ensures.found,
    )

pub invariant_of-self : goal.invariant_of-self
invariant_of-self c =
    let x = c.self.inside in let low = has_marks x c.args.self.now c.args.worker c.self.view_is c.requires in let m : WorkerMarks = c.index.result.now in
    let p : ℕ = c.in-Some.place in let within = slice_get_within (masks_of x.layer) p c.args.mask c.in-Some.ensures.found in
    let there = place_found x.layer p c.args.mask c.in-Some.ensures.found in
    let block : get_or (layout_of x.layer).block_of p 0 ≡ c.block_place.result = block_at x.layer p within ∙ sym c.block_place.ensures.place in
    let marked : c.block_place.result < length m.claims.items =
    omega (arith, claims_wide x c.self.invariant c.args.worker m low c.index.ensures) in
    let mine = mark_at m.claims.items (get_or (layout_of x.layer).block_of p 0) c.block_place.result c.index-2.result.now true block marked
    c.index-2.ensures c.if-not-index.false in
    let m2 : WorkerMarks = c.index_mut-2.result.now in
    let same : m ≡ m2 = search same_there in
    let after : WorkerMarks = record { claims = m2.claims; known = with_item m2.known p true; ended = m2.ended } in
    let new : marks_of after ≡ learns (marks_of m) p = λ i. learns (marks_of (sym same i)) p in
    let empty = is_there x.cells.items p c.index-3.result.now None c.index-3.ensures c.in-None.is in (
      sound_step (shown x) (shown_with x x.counter (set x.cells.items p (Some c.args.cell)) c.args.worker after) Posted
          (Post c.args.worker c.args.mask (pair_of c.args.cell))
          (post_first x c.self.invariant c.args.worker m low c.index.ensures c.args.mask p there within c.args.cell mine after new empty) c.self.invariant.0,
      omega (arith, length-set x.workers.items c.args.worker after),
    )

pub returns : goal.returns
returns c =
    let x = c.self.inside in let low = has_marks x c.args.self.now c.args.worker c.self.view_is c.requires in let m : WorkerMarks = c.index.result.now in
    let p : ℕ = c.in-Some.place in let within = slice_get_within (masks_of x.layer) p c.args.mask c.in-Some.ensures.found in
    let there = place_found x.layer p c.args.mask c.in-Some.ensures.found in
    grind (arith, block_at, claims_wide, mark_at, same_there, post_first)
