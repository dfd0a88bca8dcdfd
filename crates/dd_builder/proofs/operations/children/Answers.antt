use Rattle.std.proofs.Common.{ap, refl, arith}
use Rattle.unique_table.specs.Plans.{levels_of}
use Rattle.unique_table.specs.Sessions.{StoreId}
use Rattle.dd_builder.proofs.LevelOperations.{same_cut}
use Rattle.dd_builder.proofs.SessionSteps.{terminal_depth}
use Rattle.dd_builder.proofs.operations.children.Goals as goal

pub returns-in_default-clause-cut : goal.returns-in_default-clause-cut
returns-in_default-clause-cut c =
    let f = c.node.ensures.goes_on.follows in let d = f.depths c.args.id c.requires.known in
    same_cut c.node.new.session c.args.level c.args.id (f.knows c.args.id c.requires.known) (omega (arith, c.in-Some.ensures.parts.level))

pub returns-in_default-2-clause-cut : goal.returns-in_default-2-clause-cut
returns-in_default-2-clause-cut c =
    let f = c.node.ensures.goes_on.follows in let low = c.in_default.ensures.terminal.0 refl in
    same_cut c.node.new.session c.args.level c.args.id (f.knows c.args.id c.requires.known) (omega (
      arith,
      terminal_depth c.args.session.now c.args.id low,
      ap (λ (z : StoreId). levels_of z.plan) c.requires.session,
    ))
