use Rattle.std.proofs.Common.{pow_pos, arith}
use Rattle.cert_check.proofs.Reasons.{start_first, big_first, decided}
use Rattle.std.proofs.lemmas.List.{get_or_default}
use Rattle.cert_check.proofs.decision.judge_cells.Goals as goal

pub returns-then-index-ne0 : goal.returns-then-index-ne0
returns-then-index-ne0 c = grind (arith, pow_pos, get_or_default, start_first)

pub returns-then-has_big_cell : goal.returns-then-has_big_cell
returns-then-has_big_cell c = grind (arith, pow_pos, get_or_default, big_first)

pub returns : goal.returns
returns c = grind (arith, pow_pos, get_or_default, decided)
