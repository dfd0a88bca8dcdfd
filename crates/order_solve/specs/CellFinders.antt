-- Functions that give the cells of a layer.
--     FindsCells returns      a function gives these cells, where `returns c r` says that r may be its result for the context c
use Rattle.std.specs.Prelude.{Result, Vec, IfOk}
use Rattle.std.specs.Global.{Global}
use Rattle.std.specs.declared.alloc.AllocError.{AllocError}
use Rattle.subset_layers.specs.declared.costs.Cell.{Cell}
use Rattle.subset_layers.specs.Layers.{masks_of}
use Rattle.layer_core.specs.LayerCosts.{AreCells}
use Rattle.layer_work.specs.LayerContexts.{ContextOf}

abbrev pub FindsCells : (ContextOf → Result (Vec Cell Global) AllocError → Type 0) → Type 0
FindsCells returns = (c : ContextOf) (r : Result (Vec Cell Global) AllocError) → returns c r → IfOk r (λ v. AreCells c.instance (masks_of c.layer) v.items)
