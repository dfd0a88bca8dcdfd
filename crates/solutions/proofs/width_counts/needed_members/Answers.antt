use Rattle.std.proofs.Common.{refl, sym, ap, ◌∙◌}
use Rattle.definitions.specs.Orders.{mask_of, members}
use Rattle.definitions.specs.Pairs.{is_lawful}
use Rattle.definitions.specs.Cells.{asked}
use Rattle.definitions.specs.declared.limits.Limit.{Limit}
use Rattle.layer_core.specs.Instances.{InstanceOf}
use Rattle.layer_core.proofs.WantedMembers.{needed_lawful, needed_unlawful}
use Rattle.solutions.specs.Solutions.{cost_for_without}
use Rattle.solutions.proofs.width_counts.needed_members.Goals as goal

pub returns-then-lawful : goal.returns-then-lawful
returns-then-lawful c =
    let t = c.args.cells.now in
    let mask = c.args.mask in
    let costs = cost_for_without t mask in
    let low = ap (λ (z : InstanceOf). is_lawful z.pairs.pairs (members z.problem.inputs mask)) (sym c.instance-instance.ensures) ∙ sym c.lawful.ensures
    ∙ c.if-lawful.true in
    c.asked_members.ensures t.problem.inputs t.bound costs c.affordable_members-known.ensures c.requires
    ∙ ap (λ (l : Limit). mask_of (asked t.problem.inputs l.lower_bound t.bound mask costs)) c.limit.ensures.value
    ∙ ap (λ (z : InstanceOf). mask_of (asked t.problem.inputs z.lower_bound t.bound mask costs)) c.instance-instance.ensures
    ∙ needed_lawful t costs mask (λ x m. refl) low

pub returns-else-lawful : goal.returns-else-lawful
returns-else-lawful c =
    needed_unlawful c.args.cells.now c.args.mask
    (ap (λ (z : InstanceOf). is_lawful z.pairs.pairs (members z.problem.inputs c.args.mask)) (sym c.instance-instance.ensures) ∙ sym c.lawful.ensures
    ∙ c.if-lawful.false)
