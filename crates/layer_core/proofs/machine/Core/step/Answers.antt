use Rattle.std.proofs.Common.{◌-◌, length, ap, ◌∙◌, sym}
use Rattle.layer_core.specs.Machine.{World, Reply, Claim, Post, Read, step}
use Rattle.layer_core.proofs.Runs.{same_workers}
use Rattle.layer_core.specs.Pairing.{pair_of}
use Rattle.layer_core.specs.declared.events.Event.{Event}
use Rattle.layer_core.specs.Events.{event_of}
use Rattle.layer_core.proofs.machine.Core.step.Goals as goal

pub returns-in-Post-clause-step : goal.returns-in-Post-clause-step
returns-in-Post-clause-step c =
    (c.post.ensures ∙ λ i. step c.args.self.now (Post (c.from-in-Post.ensures i - 1) (c.mask.ensures i) (c.cell.ensures.value i)))
    ∙ ap (λ (e : Event). step c.args.self.now (event_of e)) (sym c.in-Post.is)

pub returns-in-Claim-clause-workers : goal.returns-in-Claim-clause-workers
returns-in-Claim-clause-workers c = ap (λ (z : Reply × World). length z.1.workers) c.claim.ensures ∙ same_workers c.args.self.now (Claim (c.from.result - 1))

pub returns-in-Post-clause-workers : goal.returns-in-Post-clause-workers
returns-in-Post-clause-workers c = ap (λ (z : Reply × World). length z.1.workers) c.post.ensures
    ∙ same_workers c.args.self.now (Post (c.from-in-Post.result - 1) c.mask.result (pair_of c.cell.result))

pub returns-in-Read-clause-workers : goal.returns-in-Read-clause-workers
returns-in-Read-clause-workers c = ap (λ (z : Reply × World). length z.1.workers) c.read.ensures
    ∙ same_workers c.args.self.now (Read (c.from-in-Read.result - 1) c.in-Read.mask)
