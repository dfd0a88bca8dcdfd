use Rattle.small_search.proofs.LowestVariables.{sets_are, within}
use Rattle.std.proofs.Common.{◌≡◌, ℕ, ◌+◌, ◌-◌, ◌^◌, ◌≤◌, true, refl, inl, inr, List, [], ◌∷◌, ◌++◌, sym, ap, ◌∙◌, subst, arith}
use Rattle.std.proofs.lemmas.Bool.{cases_lt}
use Rattle.std.proofs.lemmas.List.{get_or_append_left, get_or_push}
use Rattle.std.proofs.lemmas.Nat.{pow_pos}
use Rattle.definitions.specs.Orders.{members}
use Rattle.definitions.specs.Pairs.{Pair, is_lawful}
use Rattle.subset_layers.specs.declared.costs.Cell.{Cell}
use Rattle.layer_core.specs.Pairing.{no_cell, pair_of}
use Rattle.layer_core.specs.Instances.{InstanceOf, cell_for}
use Rattle.solutions.proofs.FlatLists.{first_more}
use Rattle.small_search.specs.FirstCells.{AreFewCells, IsFew}
use Rattle.small_search.specs.Paths.{HoldPath}
use Rattle.small_search.proofs.search.find_cells.Goals as goal
use Rattle.small_search.proofs.search.find_cells.Goals.{then-all_lawful, else-all_lawful}

pub overflow_cast-set : goal.overflow_cast-set
overflow_cast-set c =
    let i = c.inputs.ensures in
    let s = sets_are _ _ i.value i.few in
    let t = c.loop-number-test.true in
    record { fits = omega (arith, s.0, s.1, t) }

-- no pairs are kept by all sets
all : (S : List ℕ) → is_lawful [] S ≡ true
unfolding is_lawful
all S = refl

pub cell_of_set-cell-requires-clause-lawful : goal.cell_of_set-cell-requires-clause-lawful
cell_of_set-cell-requires-clause-lawful c =
    let t = c.args.search.now in
    let S = members t.problem.inputs c.loop-number.number in
    elim c.if-all_lawful.branch [
      | then-all_lawful w ↦
          w.lawful-is ∙ w.if-all_lawful.true
          ∙ sym (ap (λ (P : List Pair). is_lawful P S) (c.has_no_pairs-all_lawful.ensures w.if-all_lawful.true) ∙ all S)
      | else-all_lawful w ↦ w.lawful-is ∙ w.lawful-lawful.ensures
    ]

-- one cell more
cells_more : (t : InstanceOf) (number : ℕ) (cells : List Cell) (cell : Cell) → 1 ≤ number → AreFewCells t number cells → pair_of cell ≡ cell_for t number →
    IsFew t number cell.cost → AreFewCells t (number + 1) (cells ++ cell ∷ [])
cells_more t number cells cell some h is few = record {
  first = first_more t number cells h.first cell some is;
  few = λ mask lt.
      let m = h.first.many in
      elim (cases_lt mask number) [
        | inl old ↦ subst (λ (u : Cell). IsFew t mask u.cost) (sym (get_or_append_left cells (cell ∷ []) no_cell mask (omega (arith, m, old)))) (h.few mask old)
        | inr new ↦
            let e : mask ≡ number = omega (arith, new, lt) in
            subst (λ (u : Cell). IsFew t mask u.cost) (sym (get_or_push cells cell no_cell mask (omega (arith, m, e))))
            (subst (λ (k : ℕ). IsFew t k cell.cost) (sym e) few)
      ];
}

pub loop-number-preserved : goal.loop-number-preserved
loop-number-preserved c =
    let t = c.args.search.now in
    let number = c.loop-number.number in
    let h = c.cell_of_set-cell.ensures in
    let more = cells_more t number c.loop-number.cells.items c.cell_of_set-cell.result c.loop-number.auto.number c.loop-number.invariant.cells h.cell h.few in
    record {
      path = subst (λ (k : ℕ). HoldPath t.problem k c.add_lowest.new.self) (let e : number ≡ number + 1 - 1 = omega arith in e) c.in_ok-add_lowest.ensures;
      cells = subst (λ (us : List Cell). AreFewCells t (number + 1) us) (sym c.in_ok-push-2.ensures.items) more;
    }

pub returns : goal.returns
returns c =
    let h = c.loop-number.invariant.cells.first in
    let i = c.inputs.ensures in
    let s = sets_are _ _ i.value i.few in
    let f = c.loop-number-test.false in
    let a = c.loop-number.auto.number-end in
    let m = h.many in
    let p = pow_pos c.args.search.now.problem.inputs in
    let all : c.loop-number.number ≡ 2 ^ c.args.search.now.problem.inputs = omega (arith, s.0, f, a, p) in
    record {
      many = m ∙ all;
      none = h.none;
      each = λ mask low lt. h.each mask low (omega (arith, lt, all));
    }

pub cell_of_set-cell-requires-clause-within : goal.cell_of_set-cell-requires-clause-within
cell_of_set-cell-requires-clause-within c = within _ _ _ c.loop-number-test.true c.inputs.ensures.value c.inputs.ensures.few

pub add_lowest-requires-clause-within : goal.add_lowest-requires-clause-within
add_lowest-requires-clause-within c = within _ _ _ c.loop-number-test.true c.inputs.ensures.value c.inputs.ensures.few

pub subfunctions_in-subfunctions-requires-clause-within : goal.subfunctions_in-subfunctions-requires-clause-within
subfunctions_in-subfunctions-requires-clause-within c = within _ _ _ c.loop-number-test.true c.inputs.ensures.value c.inputs.ensures.few
