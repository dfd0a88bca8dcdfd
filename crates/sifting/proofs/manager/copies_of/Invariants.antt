use Rattle.std.proofs.Common.{◌≡◌, take}
use Rattle.sifting.specs.LevelLists.{nodes_of}
use Rattle.sifting.proofs.manager.copies_of.Given as goal

abbrev pub invariant-loop-level : goal.invariant-loop-level
invariant-loop-level l = nodes_of l.copies.items ≡ nodes_of (take l.level-index l.fn.levels)
