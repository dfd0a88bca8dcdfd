use Rattle.std.proofs.Common.{◌∙◌, ap}
use Rattle.definitions.specs.Cells.{cell_of}
use Rattle.layer_core.specs.Machine.{Layout, World, opening, run}
use Rattle.layer_core.specs.Rights.{IsCellFor, all_cells}
use Rattle.layer_core.proofs.Runs.{right_after, layout_stays, cells_are}
use Rattle.layer_core.proofs.laws.filled_cells_are_the_definitions.Goals as goal

pub returns : goal.returns
returns c = λ n F P r bound l workers events laid posts full.
    let s : World = run (opening l workers) events in
    let right = right_after (IsCellFor n F P r bound) l workers events laid posts in
    cells_are (λ mask. cell_of n F P r bound mask) s.layout.masks s.cells right.size right.true_cells full
    ∙ ap (λ (k : Layout). all_cells n F P r bound k.masks) (layout_stays (opening l workers) events)
