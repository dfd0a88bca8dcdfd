use Rattle.std.proofs.Common.{rules, ◌≡◌, ℕ, ◌+◌, ◌*◌, ◌^◌, ◌<◌, ◌≤◌, List, Some, true, inl, inr, length, get_or, slice_get, slice_index, sym, ap, ◌∙◌, subst, arith}
use Rattle.std.proofs.lemmas.Bool.{cases_eq}
use Rattle.std.proofs.lemmas.List.{take_all}
use Rattle.std.proofs.lemmas.Option.{slice_get-get_or}
use Rattle.definitions.specs.Orders.{has}
use Rattle.definitions.proofs.Lists.Accepted.{index_of}
use Rattle.subset_layers.specs.Layers.{LayerOf, BlockOf, block_masks, masks_of}
use Rattle.layer_board.specs.Views.{BoardId}
use Rattle.layer_core.specs.Instances.{ResultOf}
use Rattle.layer_core.specs.Needs.{widths_for}
use Rattle.layer_core.proofs.BlockPlaces.{block_has, block_layer}
use Rattle.layer_work.specs.Gains.{IsPosted}
use Rattle.layer_work.specs.LayerContexts.{ContextOf}
use Rattle.layer_work.proofs.ClaimedSets.{few_gained}
use Rattle.layer_work.proofs.Posts.{no_more_stays, posted_stays, stays_same, stays_trans}
use Rattle.layer_work.proofs.Rounds.{Working, claims_at, count_more, round_closes, round_gains, round_room, widths_none, working_none, working_round, working_stays}
use Rattle.layer_work.proofs.worker.work_layer.Goals as goal

pub loop-claim-init : goal.loop-claim-init
loop-claim-init g c = grind (arith, working_none)

pub loop-mask-init : goal.loop-mask-init
loop-mask-init g c =
    let z = widths_none c.args.context.now.instance in
    record { stays = stays_same c.claim.new.seat; posted = λ j lt. absurd (omega (arith, lt)); count = omega (arith, z) }

pub cell_of_set-requires-clause-there : goal.cell_of_set-requires-clause-there
cell_of_set-requires-clause-there g c =
    let items = c.masks-mask-items.result.now in
    let i = c.loop-mask.mask-index in
    let mask = get_or items i 0 in
    let b = c.in-Some.claim.block in
    let is = c.masks-mask-items.ensures ∙ ap (λ (z : BlockOf). block_masks z) c.block.ensures in
    subst (λ (l : LayerOf). has (masks_of l) mask ≡ true)
    (block_layer c.args.board.now.brief.layer c.in-Some.claim.place b c.in-Some.ensures.block ∙ c.requires.layer)
    (block_has b i mask (subst (λ (xs : List ℕ). slice_get xs i ≡ Some mask) is (slice_get-get_or items i 0 (omega arith))))

pub cell_of_set-requires-clause-room : goal.cell_of_set-requires-clause-room
cell_of_set-requires-clause-room g c =
    let t = c.args.context.now.instance in
    let s = c.loop-claim.seat in
    let s1 = c.claim.new.seat in
    let p = c.in-Some.claim.place in
    let b = c.in-Some.claim.block in
    let w = c.loop-claim.invariant in
    let e = c.in-Some.ensures in
    let h = claims_at c.args.board.now s s1 p b (w.board ∙ c.requires.seat) e.block e.gained e.claimed e.later in
    let gains = round_gains t c.args.seat s s1 s1 c.loop-claim.tally p b w h in
    let small : t.problem.inputs ≤ 16 =
    (let f = c.inputs.ensures.few in
    let v = c.inputs.ensures.value ∙ ap (λ (z : ContextOf). z.instance.problem.inputs) c.context.view_is in omega (arith, f, v)) in
    let few = few_gained t c.args.seat s1 t.problem.inputs small
    (ap (λ (z : BoardId). z.brief.layer.inputs) c.requires.seat ∙ ap (λ (l : LayerOf). l.inputs) c.requires.layer
    ∙ ap (λ (z : ContextOf). z.layer.inputs) (sym c.context.view_is) ∙ c.context.invariant.context.inputs
    ∙ ap (λ (z : ContextOf). z.instance.problem.inputs) c.context.view_is)
    small in
    let is = c.masks-mask-items.ensures ∙ ap (λ (z : BlockOf). block_masks z) c.block.ensures in
    let same = ap (widths_for t) is in
    round_room t c.masks-mask-items.result.now c.loop-mask.mask-index c.loop-claim.tally c.loop-mask.tally (omega arith) c.loop-mask.invariant.count
    (omega (arith, gains, few, same))

pub loop-mask-preserved : goal.loop-mask-preserved
loop-mask-preserved g c =
    let items = c.masks-mask-items.result.now in
    let i = c.loop-mask.mask-index in
    let s = c.loop-mask.seat in
    let s' = c.post_cell.new.seat in
    let w = c.loop-mask.invariant in
    let stays = c.post_cell.ensures.stays in
    record {
      stays = stays_trans c.claim.new.seat s s' w.stays stays;
      posted = λ j lt. elim (cases_eq j i) [
        | inl e ↦ subst (λ (m : ℕ). IsPosted s' m) (ap (λ (r : ResultOf). r.mask) c.result.ensures ∙ sym (ap (slice_index items) e))
            c.post_cell.ensures.posted
        | inr ne ↦ posted_stays s s' stays (slice_index items j) (w.posted j (omega (arith, lt, ne)))
      ];
      count = count_more c.args.context.now.instance items i c.loop-claim.tally c.loop-mask.tally c.cell_of_set.new.tally (omega arith) w.count
          c.in_ok-cell.ensures.counts;
    }

pub loop-claim-smaller : goal.loop-claim-smaller
loop-claim-smaller g c =
    let s = c.loop-claim.seat in
    let s1 = c.claim.new.seat in
    let w = c.loop-claim.invariant in
    let e = c.in-Some.ensures in
    round_closes s s1 c.loop-mask.seat c.in-Some.claim.place c.in-Some.claim.block
    (claims_at c.args.board.now s s1 c.in-Some.claim.place c.in-Some.claim.block (w.board ∙ c.requires.seat) e.block e.gained e.claimed
    e.later)
    c.loop-mask.invariant.stays

pub loop-claim-preserved : goal.loop-claim-preserved
loop-claim-preserved g c =
    let t = c.args.context.now.instance in
    let items = c.masks-mask-items.result.now in
    let s = c.loop-claim.seat in
    let s1 = c.claim.new.seat in
    let s2 = c.loop-mask.seat in
    let p = c.in-Some.claim.place in
    let b = c.in-Some.claim.block in
    let w = c.loop-claim.invariant in
    let e = c.in-Some.ensures in
    let h = claims_at c.args.board.now s s1 p b (w.board ∙ c.requires.seat) e.block e.gained e.claimed e.later in
    let v = c.loop-mask.invariant in
    let is = c.masks-mask-items.ensures ∙ ap (λ (z : BlockOf). block_masks z) c.block.ensures in
    let over = c.loop-mask-test.false in
    let end : length items ≤ c.loop-mask.mask-index = omega (arith, over) in
    let all : (mask : ℕ) → has (block_masks b) mask ≡ true → IsPosted s2 mask = λ mask m.
    (let k = index_of items mask (subst (λ (xs : List ℕ). has xs mask ≡ true) (sym is) m) in
    subst (λ (z : ℕ). IsPosted s2 z) k.2 (v.posted k.0 (omega (arith, k.1, end)))) in
    let count = v.count ∙ ap (λ (xs : List ℕ). c.loop-claim.tally + widths_for t xs) (take_all c.loop-mask.mask-index items end ∙ is) in
    subst (λ (n : ℕ). Working t c.args.seat s2 n) (sym count) (working_round t c.args.seat s s1 s2 c.loop-claim.tally p b w h v.stays all)

pub returns-clause-tally : goal.returns-clause-tally
returns-clause-tally g c = grind (arith, working_stays, no_more_stays)
