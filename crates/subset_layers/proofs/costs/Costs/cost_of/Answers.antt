use Rattle.std.proofs.Common.{◌≡◌, Some, vec_len, length, sym, ap, ◌∙◌, arith}
use Rattle.std.specs.Option.{option_map_or}
use Rattle.std.proofs.lemmas.Option.{slice_get_read, slice_get_past}
use Rattle.subset_layers.specs.declared.costs.Cell.{Cell}
use Rattle.subset_layers.specs.Costs.{costs_with, cost_at}
use Rattle.subset_layers.proofs.CostLists.{cost_at_place, cost_absent}
use Rattle.subset_layers.proofs.costs.Costs.cost_of.Goals as goal

pub returns-in_err-place-clause-value : goal.returns-in_err-place-clause-value
returns-in_err-place-clause-value c = grind (arith, cost_absent)

pub returns-then-place-len-clause-value : goal.returns-then-place-len-clause-value
returns-then-place-len-clause-value c =
    let e : vec_len c.self.inside.cells ≡ length c.self.inside.cells.items = omega arith in
    let read = slice_get_read c.self.inside.cells.items (vec_len c.self.inside.cells) c.in_ok-place.place c.index.result.now e (omega arith) c.index.ensures in
    ap (λ o. Some (option_map_or (λ (cell : Cell). cell.cost) o 0)) (sym read)
    ∙ sym (cost_at_place (costs_with c.self.inside.layer c.self.inside.cells.items) c.args.mask c.in_ok-place.place c.in_ok-place.ensures.found)
    ∙ ap (λ v. cost_at v c.args.mask) c.self.view_is

pub returns-else-place-len-clause-value : goal.returns-else-place-len-clause-value
returns-else-place-len-clause-value c =
    ap (λ o. Some (option_map_or (λ (cell : Cell). cell.cost) o 0)) (sym (slice_get_past c.self.inside.cells.items c.in_ok-place.place (omega arith)))
    ∙ sym (cost_at_place (costs_with c.self.inside.layer c.self.inside.cells.items) c.args.mask c.in_ok-place.place c.in_ok-place.ensures.found)
    ∙ ap (λ v. cost_at v c.args.mask) c.self.view_is
