-- The cells of the first sets, and of all sets, in one list.
--     first_cost, flat_cost      the cost of a set is that of the cell at its mask
--     first_more      one cell more
use Rattle.std.proofs.Common.{◌≡◌, ℕ, ◌+◌, ◌^◌, ◌<◌, ◌≤◌, inl, inr, List, [], ◌∷◌, ◌++◌, get_or, cond, sym, ap, ◌∙◌, arith, eq-eqb, ne_eqb}
use Rattle.std.proofs.lemmas.Bool.{cases_eq, cases_lt}
use Rattle.std.proofs.lemmas.List.{length-append, get_or_append_left, get_or_push}
use Rattle.std.proofs.lemmas.Option.{slice_get-get_or, get_or_from_slice_get}
use Rattle.definitions.specs.Cells.{cell_cost}
use Rattle.subset_layers.specs.declared.costs.Cell.{Cell}
use Rattle.layer_core.specs.Instances.{InstanceOf, cell_for}
use Rattle.layer_core.specs.Pairing.{no_cell, pair_of}
use Rattle.solutions.specs.Bounded.{AreFirstCells, AreFlatCells}
use Rattle.solutions.specs.Solutions.{cost_for}

module _ (t : InstanceOf) (count : ℕ) (cells : List Cell) (h : AreFirstCells t count cells) where
  -- the cell at a mask, whatever stands for one that is not there
  there : (mask : ℕ) (d : Cell) → mask < count → get_or cells mask d ≡ get_or cells mask no_cell
  there mask d small =
      sym (get_or_from_slice_get cells mask (get_or cells mask d) no_cell (slice_get-get_or cells mask d (let m = h.many in omega (arith, m, small))))

  pub first_cost : (mask : ℕ) (d : Cell) → mask < count → (get_or cells mask d).cost ≡ cost_for t mask
  unfolding cell_cost
  first_cost mask d small = ap (λ (c : Cell). c.cost) (there mask d small) ∙ elim (cases_eq mask 0) [
    | inl e ↦ ap (λ k. (get_or cells k no_cell).cost) e ∙ h.none ∙ sym (ap (λ b. cond b 0 (cell_for t mask).0) (eq-eqb mask 0 e))
    | inr ne ↦ ap (λ (p : ℕ × ℕ). p.0) (h.each mask (omega arith) small) ∙ sym (ap (λ b. cond b 0 (cell_for t mask).0) (ne_eqb mask 0 ne))
  ]

  pub first_more : (cell : Cell) → 1 ≤ count → pair_of cell ≡ cell_for t count → AreFirstCells t (count + 1) (cells ++ cell ∷ [])
  first_more cell some is = record {
    many = (let l = length-append cells (cell ∷ []) in let m = h.many in omega (arith, l, m));
    none = ap (λ (c : Cell). c.cost) (get_or_append_left cells (cell ∷ []) no_cell 0 (let m = h.many in omega (arith, m, some))) ∙ h.none;
    each = λ mask low lt.
        elim (cases_lt mask count) [
          | inl old ↦ ap pair_of (get_or_append_left cells (cell ∷ []) no_cell mask (let m = h.many in omega (arith, m, old))) ∙ h.each mask low old
          | inr new ↦
              let e : mask ≡ count = omega (arith, new, lt) in
              ap pair_of (get_or_push cells cell no_cell mask (let m = h.many in omega (arith, m, e))) ∙ is ∙ ap (cell_for t) (sym e)
        ];
  }

pub flat_cost : (t : InstanceOf) (cells : List Cell) (mask : ℕ) (d : Cell) → AreFlatCells t cells → mask < 2 ^ t.problem.inputs →
    (get_or cells mask d).cost ≡ cost_for t mask
flat_cost t cells mask d h small = first_cost t (2 ^ t.problem.inputs) cells h mask d small
