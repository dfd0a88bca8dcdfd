use Rattle.std.proofs.Common.{◌*◌, ◌/◌, ◌%◌, ◌^◌, ap, arith}
use Rattle.pair_numbering.specs.Slots.{home_of}
use Rattle.pair_numbering.proofs.slots.home.Goals as goal

pub returns-clause-place : goal.returns-clause-place
unfolding home_of
returns-clause-place c = ap (λ z. z * 11400714819323198485 % 2 ^ 64 / 2 ^ 32 * c.args.homes / 2 ^ 32) (omega arith)
