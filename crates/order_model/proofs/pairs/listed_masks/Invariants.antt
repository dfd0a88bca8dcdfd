use Rattle.std.proofs.Common.{length, eqb}
use Rattle.std.specs.List.{slice_split}
use Rattle.definitions.proofs.Precedence.Texts.{ReadTo}
use Rattle.order_model.proofs.pairs.listed_masks.Given as goal

abbrev pub invariant-loop-part : goal.invariant-loop-part
invariant-loop-part l = ReadTo (slice_split (λ b. eqb b 58) l.text) (length l.yielded) l.below
