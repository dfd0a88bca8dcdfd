use Rattle.std.proofs.Common.{◌≡◌, ◌^◌, length}
use Rattle.subfunction_classes.specs.Places as places
use Rattle.edge_walks.specs.LowerClasses.{AreLowerMasks}
use Rattle.edge_walks.proofs.lower_classes.lower_masks.Given as goal

abbrev pub invariant-loop-j : goal.invariant-loop-j
invariant-loop-j l = record {
  long : length l.labels.items ≡ length l.masks;
  labels : AreLowerMasks l.masks l.x (places.pairs l.numbers (2 ^ l.x)) l.labels.items;
}
