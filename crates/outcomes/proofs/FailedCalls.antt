-- How many calls of devices have failed.
--     first_stays      a device whose count stays, before the others
use Rattle.std.proofs.Common.{◌≡◌, inr, ℕ, List, ◌∷◌, ap₂}
use Rattle.outcomes.specs.declared.outcome.Fault.TheVariants.{Line, TooLong, OutOfMemory, Device, StoreFull, Pairs, CertificateLine, CertificateTooLong}
use Rattle.outcomes.specs.declared.outcome.Outcome.{Outcome}
use Rattle.outcomes.specs.declared.outcome.Outcome.TheVariants.{Done, Invalid, Refused}
use Rattle.outcomes.specs.Statuses.{FailsOnlyByDevice}

pub first_stays : (failed now : ℕ) (before after : List ℕ) (outcome : Outcome) → now ≡ failed → FailsOnlyByDevice before after outcome →
    FailsOnlyByDevice (failed ∷ before) (now ∷ after) outcome
first_stays failed now before after Done same others = ap₂ (λ n ns. n ∷ ns) same others
first_stays failed now before after Invalid same others = ap₂ (λ n ns. n ∷ ns) same others
first_stays failed now before after (Refused (Line line fault)) same others = ap₂ (λ n ns. n ∷ ns) same others
first_stays failed now before after (Refused TooLong) same others = ap₂ (λ n ns. n ∷ ns) same others
first_stays failed now before after (Refused OutOfMemory) same others = ap₂ (λ n ns. n ∷ ns) same others
first_stays failed now before after (Refused Device) same others = inr (same, others)
first_stays failed now before after (Refused StoreFull) same others = ap₂ (λ n ns. n ∷ ns) same others
first_stays failed now before after (Refused (Pairs fault)) same others = ap₂ (λ n ns. n ∷ ns) same others
first_stays failed now before after (Refused (CertificateLine line fault)) same others = ap₂ (λ n ns. n ∷ ns) same others
first_stays failed now before after (Refused CertificateTooLong) same others = ap₂ (λ n ns. n ∷ ns) same others
