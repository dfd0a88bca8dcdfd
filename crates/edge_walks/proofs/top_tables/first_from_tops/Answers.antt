use Rattle.std.proofs.Common.{sym, ◌∙◌}
use Rattle.edge_walks.proofs.WalkTables.{whole_part}
use Rattle.edge_walks.proofs.top_tables.first_from_tops.Goals as goal

pub first_in_part-requires-2-clause-set : goal.first_in_part-requires-2-clause-set
first_in_part-requires-2-clause-set c =
    c.requires.root.0 ∙ sym (whole_part c.args.root.edges.problem.now.inputs c.args.part c.args.end c.args.root.free c.requires.root.1 c.requires.part)
