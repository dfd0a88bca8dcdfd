use Rattle.std.proofs.Common.{arith}
use Rattle.truth_table.proofs.Literals.{group_without}
use Rattle.truth_table.proofs.term_points.may_hold.Goals as goal

pub returns : goal.returns
returns c = λ none place low. group_without c.args.term.now (omega arith) c.args.term.now.within c.args.group place low none
