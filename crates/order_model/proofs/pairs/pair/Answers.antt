use Rattle.std.proofs.Common.{sym, ◌∙◌, arith}
use Rattle.std.proofs.lemmas.List.{take_rest}
use Rattle.definitions.proofs.Precedence.Texts.{pair_without_comma}
use Rattle.order_model.proofs.pairs.pair.Goals as goal

pub returns-in_err-comma : goal.returns-in_err-comma
returns-in_err-comma c = c.from_residual.ensures ∙ sym (pair_without_comma c.args.part.now c.in_err-comma.ensures.first)

pub returns-in_err-above : goal.returns-in_err-above
returns-in_err-above c = grind arith

pub returns-in_err-below : goal.returns-in_err-below
returns-in_err-below c = grind (arith, take_rest)

pub returns : goal.returns
returns c = grind (arith, take_rest)
