use Rattle.std.proofs.Common.{arith, rules}
use Rattle.std.proofs.lemmas.Grind.{common_steps}
use Rattle.definitions.proofs.packed.rows_differ.Goals as goal

pub returns-clause-alike : goal.returns-clause-alike
returns-clause-alike c = omega arith

pub returns-then-words-i-clause-alike : goal.returns-then-words-i-clause-alike
returns-then-words-i-clause-alike c = search rules

pub bounds-words-i-then-i-r-eq0 : goal.bounds-words-i-then-i-r-eq0
bounds-words-i-then-i-r-eq0 c = grind (arith, common_steps)

pub returns-then-words-i-clause-differ : goal.returns-then-words-i-clause-differ
returns-then-words-i-clause-differ c = grind (arith, common_steps)
