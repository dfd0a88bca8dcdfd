use Rattle.std.proofs.Common.{Some, refl}
use Rattle.std.proofs.lemmas.Bool.{false≢true}
use Rattle.definitions.specs.KeptPairs.{pairs_in}
use Rattle.definitions.proofs.Precedence.Masks.{same_at, same_in}
use Rattle.definitions.proofs.Precedence.Texts.{out_of_range, cycle, accepted, holds}
use Rattle.order_model.proofs.pairs.of_masks.Goals as goal

pub returns-then-not-are_within : goal.returns-then-not-are_within
returns-then-not-are_within c = λ P m. out_of_range P c.args.below c.args.n m (λ w. false≢true (c.if-not-are_within.ensures.1 w))

pub invariant_of-result : goal.invariant_of-result
invariant_of-result c =
    let w = c.if-not-are_within.ensures.0 refl in
    holds (Some (pairs_in c.args.n c.args.below)) c.args.below c.args.n c.requires.some c.requires.few
    (same_at (pairs_in c.args.n c.args.below) c.args.below (same_in c.args.n c.args.below w)) w c.in-None.ensures.none

pub returns-in-Some : goal.returns-in-Some
returns-in-Some c = λ P m. cycle P c.args.below c.args.n c.in-Some.v c.requires.few m (c.if-not-are_within.ensures.0 refl) c.in-Some.ensures.found

pub returns-in-None : goal.returns-in-None
returns-in-None c = λ P m. accepted P c.args.below c.args.n c.requires.few m (c.if-not-are_within.ensures.0 refl) c.in-None.ensures.none
