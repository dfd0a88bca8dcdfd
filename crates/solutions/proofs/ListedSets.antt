-- The listed sets.
--     ListedTo, listed_start, listed_yes, listed_no, listed_whole      the sets in turn
use Rattle.std.proofs.Common.{◌≡◌, ℕ, ◌+◌, ◌-◌, ◌^◌, ◌<◌, ◌≤◌, Bool, true, false, cond, List, [], ◌∷◌, ◌++◌, map, ltb, refl, sym, ap, ap₂, ◌∙◌, arith}
use Rattle.std.specs.List.{filter, range_with_len}
use Rattle.std.proofs.lemmas.Bool.{lt-ltb, le-ltb}
use Rattle.std.proofs.lemmas.List.{map-append, append-nil}
use Rattle.definitions.specs.Functions.{Function}
use Rattle.definitions.specs.Orders.{members}
use Rattle.definitions.specs.Pairs.{Pair}
use Rattle.definitions.specs.Problems.{functions}
use Rattle.definitions.specs.Widths.{essentials_outside}
use Rattle.definitions.specs.declared.limits.LowerBound.{LowerBound}
use Rattle.definitions.specs.declared.limits.LowerBound.TheVariants.{Variables}
use Rattle.definitions.specs.Cells.{cell_cost}
use Rattle.definitions.specs.Certificates.{Cell, least_listed, listed_masks}
use Rattle.definitions.proofs.Widths.Cells.{cost_known}
use Rattle.definitions.proofs.Certificates.Listed.{listed_by_cells}
use Rattle.subset_layers.proofs.ChosenNumbers.{filter_range_more}
use Rattle.layer_core.specs.Instances.{InstanceOf}
use Rattle.definitions.specs.declared.listed_cells.ListedCell.{ListedCell}
use Rattle.definitions.specs.Listed.{listed}

module _ (t : InstanceOf) where
  abbrev n : ℕ
  n = t.problem.inputs

  abbrev F : List Function
  F = functions t.problem

  abbrev P : List Pair
  P = t.pairs.pairs

  -- whether a set is listed, by its cell
  abbrev is_listed : ℕ → ℕ → Bool
  is_listed total mask = ltb (cell_cost n F P t.lower_bound t.bound mask + essentials_outside n F (members n mask)) total

  -- the listed ones of the first sets
  pub ListedTo : ℕ → ℕ → List ListedCell → Type 0
  ListedTo total number found = map listed found ≡ map (least_listed n F P) (filter (is_listed total) (range_with_len 0 number))

  pub listed_start : (total : ℕ) → ListedTo total 0 []
  unfolding ListedTo
  listed_start total = refl

  module _ (total number : ℕ) (found : List ListedCell) (h : ListedTo total number found) (cost outside : ℕ)
      (is : cost ≡ cell_cost n F P t.lower_bound t.bound number) (out : outside ≡ essentials_outside n F (members n number)) where
    pub listed_yes : total ≤ t.bound → cost + outside < total → ListedTo total (number + 1) (found ++ record { mask = number; cost = cost } ∷ [])
    unfolding ListedTo least_listed
    listed_yes le lt =
        let known = cost_known n F P t.lower_bound t.bound number (omega (arith, is, lt, le)) in
        let cell : listed (record { mask = number; cost = cost }) ≡ least_listed n F P number =
        ap (λ (k : ℕ). record { mask = number; cost = k }) (is ∙ known.1) in
        let yes : is_listed total number ≡ true =
        lt-ltb (cell_cost n F P t.lower_bound t.bound number + essentials_outside n F (members n number)) total (omega (arith, is, out, lt)) in
        map-append listed found (record { mask = number; cost = cost } ∷ [])
        ∙ ap₂ (λ (xs : List Cell) (c : Cell). xs ++ c ∷ []) h cell
        ∙ sym (map-append (least_listed n F P) (filter (is_listed total) (range_with_len 0 number)) (number ∷ []))
        ∙ ap (λ b. map (least_listed n F P) (filter (is_listed total) (range_with_len 0 number) ++ cond b (number ∷ []) [])) (sym yes)
        ∙ ap (map (least_listed n F P)) (sym (filter_range_more (is_listed total) number))

    pub listed_no : total ≤ cost + outside → ListedTo total (number + 1) found
    unfolding ListedTo
    listed_no le =
        let no : is_listed total number ≡ false =
        le-ltb (cell_cost n F P t.lower_bound t.bound number + essentials_outside n F (members n number)) total (omega (arith, is, out, le)) in
        h ∙ ap (map (least_listed n F P)) (sym (append-nil (filter (is_listed total) (range_with_len 0 number)))
        ∙ ap (λ b. filter (is_listed total) (range_with_len 0 number) ++ cond b (number ∷ []) []) (sym no)
        ∙ sym (filter_range_more (is_listed total) number))

  pub listed_whole : (total number : ℕ) (found : List ListedCell) → ListedTo total number found → number ≡ 2 ^ n - 1 → total ≤ t.bound →
      t.lower_bound ≡ Variables → map listed found ≡ map (least_listed n F P) (listed_masks n F P total)
  unfolding ListedTo
  listed_whole total number found h e le one = h ∙ ap (λ k. map (least_listed n F P) (filter (is_listed total) (range_with_len 0 k))) e
      ∙ ap (λ (r : LowerBound). map (least_listed n F P)
      (filter (λ mask. ltb (cell_cost n F P r t.bound mask + essentials_outside n F (members n mask)) total) (range_with_len 0 (2 ^ n - 1)))) one
      ∙ ap (map (least_listed n F P)) (sym (listed_by_cells n F P t.bound total le))
