-- What sifting makes: the definition's order, of a size that is no larger.
use Rattle.std.proofs.Common.{◌≡◌, ℕ, ◌<◌, ◌≤◌, List, length, take, get_or, slice_index, sym, ap, ap₂, ◌∙◌, subst, arith}
use Rattle.std.specs.List.{fold}
use Rattle.std.proofs.lemmas.List.{take_all}
use Rattle.definitions.specs.Orders.{IsOrder, place_in}
use Rattle.definitions.specs.Problems.{functions}
use Rattle.definitions.specs.Levels.{size_under}
use Rattle.definitions.specs.Sifting.{best, sifting_order, sifted}
use Rattle.definitions.proofs.Sifting.Placements.{sifted_lem, own_place}
use Rattle.sifting.specs.Managed.{Managed, IsManagedOrder, size_of, count_of}
use Rattle.sifting.specs.Moves.{by_falling_count}
use Rattle.sifting.proofs.FallingCounts.{falling_is, falling_below}

module _ (self : Managed) (ok : IsManagedOrder self) (n : ℕ) (e : n ≡ length self.order) (counts levels : List ℕ)
    (a : (x : ℕ) → x < length self.order → slice_index counts x ≡ slice_index levels (place_in self.order x))
    (b : (i : ℕ) → i < length self.order → slice_index levels i ≡ count_of self i) where
  same_inputs : n ≡ self.problem.inputs
  same_inputs = e ∙ sym ok.inputs

  pub sifts_by : by_falling_count counts n ≡ sifting_order self.problem.inputs (functions self.problem) self.order
  sifts_by =
      ap (by_falling_count counts) same_inputs
      ∙ falling_is self.problem.inputs (functions self.problem) self.order counts levels
      (λ x h. a x (let i = ok.inputs in omega arith))
      (λ x h. let i = ok.inputs in let small : x < length self.order = omega arith in
      b (place_in self.order x) (own_place x self.order ok.is_order.once ((ok.is_order.all x).1 small)).1)

  pub variable_below : (items : List ℕ) (k : ℕ) → items ≡ by_falling_count counts n → k < length items → get_or items k 0 < length self.order
  variable_below items k s h = grind (arith, falling_below)

-- all variables are put at their best places
module _ (self last : Managed) (ok : IsManagedOrder self) (items : List ℕ) (k : ℕ) (past : length items ≤ k)
    (order : items ≡ sifting_order self.problem.inputs (functions self.problem) self.order)
    (puts : last.order ≡ fold (best self.problem.inputs (functions self.problem) self.pairs) self.order (take k items)) where
  pub sifts : last.order ≡ sifted self.problem.inputs (functions self.problem) self.pairs self.order
  unfolding sifted
  sifts = puts ∙ ap (fold (best self.problem.inputs (functions self.problem) self.pairs) self.order) (take_all k items past ∙ order)

  pub no_larger : last.problem ≡ self.problem → size_of last ≤ size_of self
  no_larger f =
      let i = ok.inputs in
      let o = subst (λ m. IsOrder m self.order) (sym i) ok.is_order in
      let le = (sifted_lem self.problem.inputs (functions self.problem) self.pairs self.order o ok.kept).2 in
      let s : size_of last ≡ size_under self.problem.inputs (functions self.problem)
      (sifted self.problem.inputs (functions self.problem) self.pairs self.order) =
      ap₂ (λ t x. size_under t.inputs (functions t) x) f sifts in
      omega arith
