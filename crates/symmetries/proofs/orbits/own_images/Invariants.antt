use Rattle.std.proofs.Common.{◌≡◌, ◌≤◌, length}
use Rattle.definitions.specs.Problems.{TruthTables}
use Rattle.symmetries.specs.Orbits.{AreKept}
use Rattle.symmetries.proofs.orbits.own_images.Given as goal

abbrev pub invariant-loop-set : goal.invariant-loop-set
invariant-loop-set l = record {
  long : length l.images.items ≡ l.set;
  kept : (p : TruthTables) → p.inputs ≤ 16 → AreKept p l.images.items;
}
