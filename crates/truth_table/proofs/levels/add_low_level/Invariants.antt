use Rattle.std.proofs.Common.{◌≡◌, ◌+◌, ◌*◌, ◌≤◌, ℕ, get_or, length, map, take}
use Rattle.truth_table.specs.Numberings.{pairs_of}
use Rattle.truth_table.specs.Levels.{IsNumbered, IsTabled, children_from, node_named}
use Rattle.truth_table.proofs.levels.add_low_level.Given as goal

abbrev pub invariant-loop-j : goal.invariant-loop-j
invariant-loop-j l = record {
  numbered : IsNumbered l.x (map node_named l.fn.nodes.items) (take l.j (pairs_of l.fn.numbers.items))
      (children_from (length l.fn.nodes.items) l.nodes.items) (map node_named l.nodes.items) (take l.j l.numbers.items);
  within : length l.fn.nodes.items ≤ length l.nodes.items;
  few : length l.nodes.items ≤ length l.fn.nodes.items + l.j;
  long : length l.numbers.items ≡ length l.fn.numbers.items;
  rest : (k : ℕ) → 2 * l.j ≤ k → get_or l.numbers.items k 0 ≡ get_or l.fn.numbers.items k 0;
  tabled : IsTabled (length l.fn.nodes.items) (children_from (length l.fn.nodes.items) l.nodes.items) l.table;
}
