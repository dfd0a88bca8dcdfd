use Rattle.std.proofs.Common.{[]}
use Rattle.symmetries.proofs.FirstSorted.{first_harmless, harmless_symmetric}
use Rattle.symmetries.proofs.laws.symmetric_pairs_may_be_kept.Goals as goal

pub returns : goal.returns
returns c n F P order pairs first = first_harmless n F [] P order (harmless_symmetric n F P pairs) first
