use Rattle.std.proofs.Common.{◌-◌, ◌<◌, Some, get_or, length, rules, arith, ap, sym, ◌∙◌, subst}
use Rattle.std.proofs.lemmas.Option.{slice_get_within, slice_get-get_or, get_or_from_slice_get}
use Rattle.dd_builder.specs.Parts.{IsEndOf, Continues, session_of}
use Rattle.dd_builder.proofs.SharedStakes.{shares_of}
use Rattle.dd_builder.proofs.builders.ends_of_workers.Goals as goal

pub returns-clause-ends : goal.returns-clause-ends
returns-clause-ends g c = λ k end at.
    let ended = c.in_ok-ended.ended in let jobs = c.in_ok-jobs.jobs in
    let size = ended.ok in let count = jobs.ok in let same = c.in_ok-ended.ensures.len in
    let low : k < length jobs.items = omega (arith, slice_get_within ended.items k end at, size, count, same) in
    let h = (c.in_ok-ended.ensures.each k end low).1 in
    let number = c.in_ok-jobs.ensures.jobs.numbers k h.job (slice_get-get_or jobs.items k h.job low ∙ ap Some (sym h.job_read)) in
    let made : IsEndOf c.args.store.now c.args.count (h.job.worker - 1) (get_or ended.items k end) = search (rules, h.call.met) in
    subst (IsEndOf c.args.store.now c.args.count k) (get_or_from_slice_get ended.items k end end at)
    (subst (λ z. IsEndOf c.args.store.now c.args.count z (get_or ended.items k end)) (omega (arith, number)) made)

pub returns-clause-shares : goal.returns-clause-shares
returns-clause-shares g c = shares_of c.args.source c.args.session c.args.count c.in_ok-jobs.jobs.items c.in_ok-ended.ended.items c.in_ok-jobs.ensures.halves
    (λ k end at.
    let ended = c.in_ok-ended.ended in let jobs = c.in_ok-jobs.jobs in
    let size = ended.ok in let count = jobs.ok in let same = c.in_ok-ended.ensures.len in
    let low : k < length jobs.items = omega (arith, slice_get_within ended.items k end at, size, count, same) in
    let h = (c.in_ok-ended.ensures.each k end low).1 in
    let on : Continues c.args.source h.job.session (session_of (get_or ended.items k end)) = search (rules, h.call.met) in (
      h.job,
      slice_get-get_or jobs.items k h.job low ∙ ap Some (sym h.job_read),
      subst (λ z. Continues c.args.source h.job.session (session_of z)) (get_or_from_slice_get ended.items k end end at) on,
    ))

pub map_vec-requires-after_bounds : goal.map_vec-requires-after_bounds
map_vec-requires-after_bounds g c = λ κs bounds i job low is.
    let made = c.in_ok-jobs.ensures.jobs in
    let at = slice_get-get_or c.in_ok-jobs.jobs.items i job low ∙ ap Some (sym is) in
    let number = made.numbers i job at in
    let count = made.count in (
      (search rules, made.sessions i job at, c.requires.source, omega (arith, number), omega (arith, number, count, low)),
      search rules,
    )
