use Rattle.std.proofs.Common.{arith}
use Rattle.truth_table.proofs.Literals.{literals_above}
use Rattle.truth_table.proofs.term_points.holds_above.Goals as goal

pub returns : goal.returns
returns c = literals_above c.args.term.now (omega arith) c.args.term.now.within c.args.place
