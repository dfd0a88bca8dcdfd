use Rattle.std.proofs.Common.{ap, ◌∙◌}
use Rattle.definitions.specs.Orders.{members}
use Rattle.definitions.specs.Pairs.{is_lawful}
use Rattle.layer_core.specs.Instances.{InstanceOf}
use Rattle.small_search.proofs.instance.SmallSearch.lawful.Goals as goal

pub returns : goal.returns
returns c =
    let t = c.self.inside in
    c.lawful.ensures
    ∙ ap (λ n. is_lawful t.pairs.now.pairs (members n c.args.set)) c.self.invariant.plain.pairs_are
    ∙ ap (λ (s : InstanceOf). is_lawful s.pairs.pairs (members s.problem.inputs c.args.set)) c.self.view_is
