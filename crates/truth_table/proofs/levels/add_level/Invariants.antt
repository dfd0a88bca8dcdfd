use Rattle.std.proofs.Common.{◌≡◌, ◌+◌, ◌*◌, ◌≤◌, ℕ, get_or, length, map, take, IsTrue}
use Rattle.truth_table.specs.Numberings.{pairs_of}
use Rattle.truth_table.specs.Levels.{IsNumbered, children_from, node_named}
use Rattle.truth_table.proofs.levels.add_level.Given as goal

abbrev pub invariant-loop-j : goal.invariant-loop-j
invariant-loop-j l = record {
  numbered : IsNumbered l.x (map node_named l.fn.nodes.items) (take l.j (pairs_of l.fn.numbers.items)) (children_from l.base l.nodes.items)
      (map node_named l.nodes.items) (take l.j l.numbers.items);
  base : l.base ≡ length l.fn.nodes.items;
  within : l.base ≤ length l.nodes.items;
  few : length l.nodes.items ≤ l.base + l.j;
  long : length l.numbers.items ≡ length l.fn.numbers.items;
  rest : (k : ℕ) → 2 * l.j ≤ k → get_or l.numbers.items k 0 ≡ get_or l.fn.numbers.items k 0;
  pairs : IsTrue l.hashes → l.pairs.keys ≡ children_from l.base l.nodes.items;
}
