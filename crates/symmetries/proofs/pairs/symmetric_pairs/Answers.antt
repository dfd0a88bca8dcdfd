use Rattle.std.proofs.Common.{◌≡◌, true, List, ap, ap₂, ◌∙◌, subst}
use Rattle.definitions.specs.KeptPairs.{KeptPairs}
use Rattle.definitions.specs.Pairs.{Pair, has_pair, sorted_pairs}
use Rattle.definitions.proofs.Precedence.Sets.{pair_among, sorted_from}
use Rattle.symmetries.proofs.pairs.symmetric_pairs.Goals as goal

pub returns-in-Ok-clause-pairs : goal.returns-in-Ok-clause-pairs
returns-in-Ok-clause-pairs c a b h =
    let n = c.inputs-inputs.result in
    let listed = c.deref.result.now in
    let sorted = ap (λ (k : KeptPairs). k.pairs) c.in-Ok.ensures.2 in
    let from = pair_among (sorted_pairs n listed) a b (subst (λ (P : List Pair). has_pair P a b ≡ true) sorted h) in
    let there : has_pair listed a b ≡ true = ap₂ (has_pair listed) from.2 from.3 ∙ sorted_from n listed from.0 from.1 in
    c.loop-a.invariant a b (subst (λ (P : List Pair). has_pair P a b ≡ true) c.deref.ensures.value there)
