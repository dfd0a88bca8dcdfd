use Rattle.std.proofs.Common.{[], refl}
use Rattle.std.proofs.lemmas.Bool.{false≢true}
use Rattle.definitions.proofs.Precedence.Masks.{nothing_in, zeros_empty, no_masks, holds_masks, same_from, nowhere}
use Rattle.order_model.proofs.pairs.Pairs.none.Goals as goal

pub returns-clause-pairs : goal.returns-clause-pairs
returns-clause-pairs c = nothing_in c.args.n no_masks (zeros_empty no_masks refl)

pub invariant_of-result : goal.invariant_of-result
invariant_of-result c =
    holds_masks c.args.n [] no_masks c.requires.some c.requires.few (λ a b e. absurd (zeros_empty no_masks refl a b e))
    (same_from [] no_masks (λ a b. (λ h. absurd (false≢true h), λ e. absurd (zeros_empty no_masks refl a b e)))) (λ v. nowhere v v)
