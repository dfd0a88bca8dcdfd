use Rattle.std.proofs.Common.{arith}
use Rattle.std.proofs.lemmas.Bool.{iff_false}
use Rattle.truth_table.proofs.TermWords.{literal_points_none, literal_points_one, literal_points_zero}
use Rattle.truth_table.proofs.term_points.literal_points.Goals as goal

pub returns-then-not-contains : goal.returns-then-not-contains
returns-then-not-contains c = λ b h.
    literal_points_none c.args.term c.args.x b (omega (arith, iff_false c.contains.ensures c.if-not-contains.true)) h

pub returns-then-contains : goal.returns-then-contains
returns-then-contains c = grind (arith, literal_points_one)

pub returns-else-contains : goal.returns-else-contains
returns-else-contains c = grind (arith, literal_points_zero)
