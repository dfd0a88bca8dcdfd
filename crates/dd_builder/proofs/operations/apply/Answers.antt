use Rattle.std.proofs.Common.{arith}
use Rattle.unique_table.specs.Sessions.{Means, combined_in}
use Rattle.dd_builder.specs.Operating.{AreCombined}
use Rattle.dd_builder.proofs.SessionSteps.{ok_same}
use Rattle.dd_builder.proofs.LevelOperations.{combined_no_higher}
use Rattle.dd_builder.proofs.operations.apply.Goals as goal

pub returns-clause-level : goal.returns-clause-level
returns-clause-level c = search (ok_same, combined_no_higher)

pub returns-clause-made : goal.returns-clause-made
returns-clause-made c = record {
  follows = c.apply_from-made.ensures.follows;
  function = ok_same (AreCombined c.args.session.now c.apply_from-made.new.session c.args.operation c.args.first c.args.second)
      (λ id. Means c.apply_from-made.new.session id
      (combined_in c.apply_from-made.new.session c.args.operation c.args.first c.args.second))
      c.apply_from-made.result c.apply_from-made.ensures.combined
      (λ id all. (all 0 (omega arith) record { known = c.requires.known.0; level = omega arith }
      record { known = c.requires.known.1; level = omega arith }).means);
  full = c.apply_from-made.ensures.full;
}
