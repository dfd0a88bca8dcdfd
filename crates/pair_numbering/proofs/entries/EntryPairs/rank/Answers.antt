use Rattle.std.proofs.Common.{subst}
use Rattle.subfunction_classes.specs.PairTables.{IsPaired}
use Rattle.pair_numbering.proofs.EntryPlaces.{laid_paired}
use Rattle.pair_numbering.proofs.entries.EntryPairs.rank.Goals as goal

pub returns-clause-paired : goal.returns-clause-paired
returns-clause-paired c =
    subst (λ t. IsPaired t.numbers t.rank) c.self.view_is
    (laid_paired (λ r. r.now) c.self.inside.names c.self.inside.numbers.now c.self.inside.rank c.self.invariant.0)
