use Rattle.std.proofs.Common.{◌≡◌, ◌+◌, ◌-◌, ◌<◌, ◌≤◌, ap, sym, ◌∙◌, subst, arith}
use Rattle.unique_table.specs.Sessions.{Knowledge}
use Rattle.dd_builder.specs.Parts.{AreJobsOf, HasHalf}
use Rattle.dd_builder.proofs.SharedStakes.{half_first, halvings_first, halvings_last, jobs_more, halves_more}
use Rattle.dd_builder.proofs.workers.jobs.Goals as goal

pub loop-worker-preserved : goal.loop-worker-preserved
loop-worker-preserved c =
    let worker = c.loop-worker.worker in let i = c.loop-worker.invariant in let some = c.loop-worker.auto.worker in
    let first = c.split-mine.ensures.first in let second = c.split-mine.ensures.second in
    let up : worker - 1 + 1 ≡ worker + 1 - 1 = omega (arith, some) in
    let less : worker - 1 + 1 < c.args.workers = (let t = c.loop-worker-test.true in omega (arith, some, t)) in
    record {
      store = ap (λ (z : Knowledge). z.store) first ∙ i.store;
      made = subst (λ z. AreJobsOf c.args.store.now z c.push.new.self.items) up
          (jobs_more c.loop-worker.jobs.items c.push.new.self.items _ c.in_ok-push.ensures.items c.args.store.now (worker - 1) i.made
          (ap (λ (z : Knowledge). z.store) second ∙ i.store) (omega (arith, some)));
      rest = subst (λ z. HasHalf c.args.session z c.split-mine.result.0) up
          (half_first c.args.session c.loop-worker.rest c.split-mine.result.0 (worker - 1) i.rest (ap (λ (z : Knowledge). z.store) first)
          (ap (λ (z : Knowledge). z.stake) first) (ap (λ (z : Knowledge). z.seen) first) (ap (λ (z : Knowledge). z.made) first));
      halves = halves_more c.loop-worker.jobs.items c.push.new.self.items _ c.in_ok-push.ensures.items c.args.session c.args.workers (worker - 1) i.halves
          i.made.count
          (subst (λ z. HasHalf c.args.session z c.split-mine.result.1) (sym (halvings_first c.args.workers (worker - 1) less))
          (half_first c.args.session c.loop-worker.rest c.split-mine.result.1 (worker - 1) i.rest (ap (λ (z : Knowledge). z.store) second)
          (ap (λ (z : Knowledge). z.stake) second) (ap (λ (z : Knowledge). z.seen) second) (ap (λ (z : Knowledge). z.made) second)));
    }

pub returns-clause-jobs : goal.returns-clause-jobs
returns-clause-jobs c =
    let worker = c.loop-worker.worker in let i = c.loop-worker.invariant in let some = c.loop-worker.auto.worker in
    let end = c.loop-worker-test.false in let last = c.loop-worker.auto.worker-end in let one = c.requires.some in
    let all : worker - 1 + 1 ≡ c.args.workers = omega (arith, some, end, last, one) in
    subst (λ z. AreJobsOf c.args.store.now z c.push-2.new.self.items) all
    (jobs_more c.loop-worker.jobs.items c.push-2.new.self.items _ c.in_ok-push-2.ensures.items c.args.store.now (worker - 1) i.made i.store (sym all))

pub returns-clause-halves : goal.returns-clause-halves
returns-clause-halves c =
    let worker = c.loop-worker.worker in let i = c.loop-worker.invariant in let some = c.loop-worker.auto.worker in
    let end = c.loop-worker-test.false in let last = c.loop-worker.auto.worker-end in let one = c.requires.some in
    let past : c.args.workers ≤ worker - 1 + 1 = omega (arith, some, end, last, one) in
    halves_more c.loop-worker.jobs.items c.push-2.new.self.items _ c.in_ok-push-2.ensures.items c.args.session c.args.workers (worker - 1) i.halves
    i.made.count (subst (λ z. HasHalf c.args.session z c.loop-worker.rest) (sym (halvings_last c.args.workers (worker - 1) past)) i.rest)
