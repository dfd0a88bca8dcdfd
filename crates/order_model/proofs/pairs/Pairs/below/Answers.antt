use Rattle.std.proofs.Common.{◌≡◌, ◌↔◌, ℕ, ◌^◌, ◌<◌, get_or, subst, IsTrue}
use Rattle.std.specs.Int.{bit_at}
use Rattle.definitions.specs.Pairs.{has_pair}
use Rattle.definitions.specs.KeptPairs.{KeptPairs}
use Rattle.definitions.proofs.Precedence.Masks.{same_in, same_at, small_mask}
use Rattle.definitions.specs.KeptPairs.{pairs_in}
use Rattle.order_model.proofs.pairs.Pairs.below.Goals as goal

pub returns-clause-pairs : goal.returns-clause-pairs
returns-clause-pairs c =
    let n = c.self.inside.inputs in
    let below = c.self.inside.below in
    subst (λ (v : KeptPairs). (b : ℕ) → (bit_at (get_or below c.args.a 0) b ≡ 1) ↔ IsTrue (has_pair v.pairs c.args.a b)) c.self.view_is
    (λ b. let s = same_at (pairs_in n below) below (same_in n below c.self.invariant.within) c.args.a b in (s.1, s.0))

pub returns-clause-within : goal.returns-clause-within
returns-clause-within c =
    subst (λ (v : KeptPairs). get_or c.self.inside.below c.args.a 0 < 2 ^ v.inputs) c.self.view_is
    (small_mask c.self.inside.inputs (get_or c.self.inside.below c.args.a 0) (λ b h. (c.self.invariant.within c.args.a b h).1))
