use Rattle.std.proofs.Common.{◌≡◌, take}
use Rattle.std.specs.List.{sum_by}
use Rattle.sifting.specs.declared.levels.Level.{Level}
use Rattle.sifting.proofs.manager.Manager.size.Given as goal

abbrev pub invariant-loop-level : goal.invariant-loop-level
invariant-loop-level l = l.size ≡ sum_by (λ (v : Level). v.count) (take l.level-index l.level-items)
