use Rattle.std.proofs.Common.{◌≡◌, ◌-◌, sym, ap, arith}
use Rattle.truth_table.specs.Levels.{ref_named}
use Rattle.truth_table.proofs.LevelDiagrams.{named_place}
use Rattle.truth_table.proofs.levels.ref_of.Goals as goal

pub returns-in-0 : goal.returns-in-0
unfolding ref_named
returns-in-0 c = let f : 0 ≡ c.args.number = omega arith in ap ref_named f

pub returns-in-1 : goal.returns-in-1
unfolding ref_named
returns-in-1 c = let f : 1 ≡ c.args.number = omega arith in ap ref_named f

pub returns-in_default : goal.returns-in_default
returns-in_default c = sym (named_place (c.args.number - 2) c.args.number (omega arith))
