-- Words that ask for a run, and the faults that may end it.
use Rattle.std.proofs.Common.{◌≡◌, ◌⊎◌, inl, inr, ℕ, List, Option}
use Rattle.command_line.specs.Lines.{AreAtOdds, HasNoLine, IsLineOf, IsOutputBy, minorder, read_of, value_of}
use Rattle.command_line.specs.declared.line.Output.{Output}
use Rattle.command_line.specs.declared.line.Output.TheVariants.{Report, Count, Orders, Sizes}
use Rattle.command_line.specs.declared.line.Line.{Line as CommandLine}
use Rattle.command_line.specs.Usages.{AreFaulty}
use Rattle.command_line.specs.declared.line.RunPlan.{RunPlan}
use Rattle.pla_reader.specs.Covers.{IsCover}
use Rattle.outcomes.specs.declared.outcome.Fault.{Fault}
use Rattle.outcomes.specs.declared.outcome.Fault.TheVariants.{Line, TooLong, OutOfMemory, Device, StoreFull, Pairs, CertificateLine, CertificateTooLong}
use Rattle.outcomes.specs.declared.outcome.Outcome.{Outcome}
use Rattle.outcomes.specs.declared.outcome.Outcome.TheVariants.{Done, Invalid, Refused}
use Rattle.report_texts.specs.Runs.{DeliversReport, IsHindered, MayEndRun}

apart : (output : Output) → (output ≡ Report) ⊎ (output ≡ Count) → (output ≡ Orders) ⊎ (output ≡ Sizes) → ⊥
apart output (inl a) (inl b) = absurd (cc)
apart output (inl a) (inr b) = absurd (cc)
apart output (inr a) (inl b) = absurd (cc)
apart output (inr a) (inr b) = absurd (cc)

-- one text is asked for, and a certificate beside a report or a count alone
at_odds : (value read : List ℕ → Option (List ℕ)) (output : Output) → IsOutputBy value read output → AreAtOdds value read → ⊥
at_odds value read output is (inl (a, b)) = let count = is.count.1 a in let orders = is.orders.1 b in absurd (cc)
at_odds value read output is (inr (inl (a, b))) = let count = is.count.1 a in let sizes = is.sizes.1 b in absurd (cc)
at_odds value read output is (inr (inr (inl (a, b)))) = let orders = is.orders.1 a in let sizes = is.sizes.1 b in absurd (cc)
at_odds value read output is (inr (inr (inr (some, inl g)))) = let orders = is.orders.1 g in apart output (is.certifies some) (inl orders)
at_odds value read output is (inr (inr (inr (some, inr g)))) = let sizes = is.sizes.1 g in apart output (is.certifies some) (inr sizes)

-- words that have a line are not faulty
pub not_faulty : (words : List (List ℕ)) (line : CommandLine) → IsLineOf words line → AreFaulty minorder HasNoLine words → ⊥
not_faulty words line is (inl faults) = faults is.taken
not_faulty words line is (inr (inl (inl none))) = let some = is.values.file in absurd (cc)
not_faulty words line is (inr (inl (inr lacks))) = lacks line.plan.workers is.values.workers is.values.some_workers is.values.most_workers
not_faulty words line is (inr (inr odds)) = at_odds (value_of minorder words) (read_of minorder words) line.plan.output is.values.output odds

-- the fault that a run of the words is refused with is one that may end it
pub ends : (words : List (List ℕ)) (line : CommandLine) (before after : Option (List ℕ)) (fault : Fault) → IsLineOf words line →
    DeliversReport line.plan IsCover before after (Refused fault) → IsHindered line.plan IsCover (Refused fault) → MayEndRun words fault
ends words line before after (Line number fault) is delivers hindered = record {}
ends words line before after TooLong is delivers hindered = record {}
ends words line before after OutOfMemory is delivers hindered = record {}
ends words line before after Device is delivers hindered = record {}
ends words line before after StoreFull is delivers hindered = hindered
ends words line before after (Pairs fault) is delivers hindered = (line, is, hindered.0, hindered.1, hindered.2.1)
ends words line before after (CertificateLine number fault) is delivers hindered = delivers
ends words line before after CertificateTooLong is delivers hindered = delivers

-- a run without a fault is done
pub ends_done : (plan : RunPlan) (before after : Option (List ℕ)) (outcome : Outcome) → (outcome ≡ Done) ⊎ (outcome ≡ Invalid) →
    DeliversReport plan IsCover before after outcome → outcome ≡ Done
ends_done plan before after outcome (inl done) delivers = done
ends_done plan before after outcome (inr invalid) delivers = absurd (rw invalid at delivers)
