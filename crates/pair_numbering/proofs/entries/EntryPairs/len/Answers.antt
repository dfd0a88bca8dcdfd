use Rattle.std.proofs.Common.{◌<◌, ◌^◌, length, subst, arith}
use Rattle.pair_numbering.proofs.EntryPlaces.{laid_half, laid_paired, laid_rank}
use Rattle.pair_numbering.proofs.entries.EntryPairs.len.Goals as goal

pub returns-in-None-clause-few : goal.returns-in-None-clause-few
returns-in-None-clause-few c =
    let p = laid_paired (λ r. r.now) c.self.inside.names c.self.inside.numbers.now c.self.inside.rank c.self.invariant.0 in
    subst (λ t. length t.numbers < 2 ^ 32) c.self.view_is p.short

pub returns-in-Some-clause-few : goal.returns-in-Some-clause-few
returns-in-Some-clause-few c =
    let p = laid_paired (λ r. r.now) c.self.inside.names c.self.inside.numbers.now c.self.inside.rank c.self.invariant.0 in
    subst (λ t. length t.numbers < 2 ^ 32) c.self.view_is p.short

pub overflow_shl-result : goal.overflow_shl-result
overflow_shl-result c =
    omega (arith, laid_rank (λ r. r.now) c.self.inside.names c.self.inside.numbers.now c.self.inside.rank c.self.invariant.0)

pub returns-in-Some-clause-count : goal.returns-in-Some-clause-count
returns-in-Some-clause-count c = grind (arith, laid_half, laid_paired)
