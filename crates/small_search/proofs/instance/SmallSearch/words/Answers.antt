use Rattle.std.proofs.Common.{length, ap, ◌∙◌}
use Rattle.definitions.specs.Problems.{table_in}
use Rattle.layer_core.specs.Instances.{InstanceOf}
use Rattle.small_search.proofs.PackedWords.{words_facts}
use Rattle.small_search.proofs.instance.SmallSearch.words.Goals as goal

pub block-requires : goal.block-requires
block-requires c =
    (words_facts _ _ c.self.inside.words.now c.self.invariant.packed _ _ c.args.output c.words_per_table.ensures.value
    (ap (λ (t : InstanceOf). t.problem) c.self.view_is) c.requires).0

pub returns-clause-long : goal.returns-clause-long
returns-clause-long c =
    ap length c.block.ensures
    ∙ (words_facts _ _ c.self.inside.words.now c.self.invariant.packed _ _ c.args.output c.words_per_table.ensures.value
    (ap (λ (t : InstanceOf). t.problem) c.self.view_is) c.requires).2

pub returns-clause-table : goal.returns-clause-table
returns-clause-table c =
    ap (table_in c.args.self.now.problem.inputs) c.block.ensures
    ∙ (words_facts _ _ c.self.inside.words.now c.self.invariant.packed _ _ c.args.output c.words_per_table.ensures.value
    (ap (λ (t : InstanceOf). t.problem) c.self.view_is) c.requires).1
