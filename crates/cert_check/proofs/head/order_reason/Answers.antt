use Rattle.std.proofs.Common.{arith, rules}
use Rattle.definitions.proofs.Precedence.MaskLaws.{order_of}
use Rattle.cert_check.proofs.Reasons.{order_first, pairs_first}
use Rattle.cert_check.proofs.head.order_reason.Goals as goal

pub returns-in_default : goal.returns-in_default
returns-in_default c = grind (arith, order_first, order_of)

pub returns-then-not-keeps_pairs : goal.returns-then-not-keeps_pairs
returns-then-not-keeps_pairs c = grind (arith, order_of, pairs_first)

pub counts_reason-requires-clause-is_order : goal.counts_reason-requires-clause-is_order
counts_reason-requires-clause-is_order c = search rules
