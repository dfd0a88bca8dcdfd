use Rattle.std.proofs.Common.{◌≡◌, None, List, slice_get, vec_len, length, sym, ap, ◌∙◌, subst, arith}
use Rattle.std.proofs.lemmas.Option.{slice_get_read, slice_get_past}
use Rattle.subset_layers.specs.declared.costs.Cell.{Cell}
use Rattle.subset_layers.specs.Costs.{CostsOf, HaveCells, costs_with, cell_at}
use Rattle.subset_layers.proofs.CostLists.{cell_at_place, cell_absent, cell_some, IsSome_along, true_cell}
use Rattle.subset_layers.proofs.costs.Costs.cell_of.Goals as goal

abbrev cells_of : CostsOf → List Cell
cells_of v = v.cells

pub returns-in_err-place-clause-value : goal.returns-in_err-place-clause-value
returns-in_err-place-clause-value c = grind (arith, cell_absent)

pub returns-then-place-len-clause-value : goal.returns-then-place-len-clause-value
returns-then-place-len-clause-value c =
    let e : vec_len c.self.inside.cells ≡ length c.self.inside.cells.items = omega arith in
    sym (slice_get_read c.self.inside.cells.items (vec_len c.self.inside.cells) c.in_ok-place.place c.index.result.now e (omega arith) c.index.ensures)
    ∙ sym (cell_at_place (costs_with c.self.inside.layer c.self.inside.cells.items) c.args.mask c.in_ok-place.place c.in_ok-place.ensures.found)
    ∙ ap (λ v. cell_at v c.args.mask) c.self.view_is

pub returns-then-place-len-clause-exact : goal.returns-then-place-len-clause-exact
returns-then-place-len-clause-exact c = grind (arith, vec_len, slice_get_read, true_cell, slice_get, cells_of)

pub returns-else-place-len-clause-value : goal.returns-else-place-len-clause-value
returns-else-place-len-clause-value c =
    sym (slice_get_past c.self.inside.cells.items c.in_ok-place.place (omega arith))
    ∙ sym (cell_at_place (costs_with c.self.inside.layer c.self.inside.cells.items) c.args.mask c.in_ok-place.place c.in_ok-place.ensures.found)
    ∙ ap (λ v. cell_at v c.args.mask) c.self.view_is

pub returns-else-place-len-clause-some : goal.returns-else-place-len-clause-some
returns-else-place-len-clause-some c =
    let h : HaveCells c.args.self.now = subst (λ (v : CostsOf). HaveCells v) c.self.view_is c.self.invariant in
    IsSome_along None (cell_at c.args.self.now c.args.mask) (returns-else-place-len-clause-value c) (cell_some c.args.self.now h c.args.mask)
