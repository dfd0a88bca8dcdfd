-- The figures of all orders, from those of the set of all variables; those of the empty set; and those of a set that isn't lawful.
use Rattle.std.proofs.Common.{◌≡◌, true, false, ◌≢◌, ℕ, zero, suc, ◌<◌, inl, inr, List, [], ◌∷◌, length, refl, sym, ap, ◌∙◌, arith}
use Rattle.std.proofs.lemmas.Bool.{cases_lt}
use Rattle.definitions.specs.Functions.{Function}
use Rattle.definitions.specs.Orders.{IsOrder, members, variables}
use Rattle.definitions.specs.Pairs.{Pair, Keeps, is_lawful}
use Rattle.definitions.specs.Widths.{least}
use Rattle.definitions.specs.AllOrders.{most, ways}
use Rattle.definitions.proofs.Bits.Masks.{distinct_members}
use Rattle.definitions.proofs.Widths.AllOrders.{lists_empty, number_none, total_empty, total_none, ways_empty_more, ways_empty_zero, ways_none}
use Rattle.definitions.proofs.Widths.OrderSizes.{orders_are_lists, size_total_is_cost_total, sizes_are_ways}
use Rattle.definitions.proofs.Widths.SizeCounts.{fewest_is_counted, most_is_counted, none_above_most, none_below_fewest}
use Rattle.order_counts.specs.declared.figures.Figures.{Figures}
use Rattle.order_counts.specs.Figures.{AreFiguresOf, AreFiguresOfOrders, IsTidy}

-- one order of no variable, without nodes
pub figures_empty : (n : ℕ) (F : List Function) (P : List Pair) (s : Figures) → s.count ≡ 1 → s.total ≡ 0 →
    s.fewest ≡ record { nodes = 0; orders = 1 } → s.most ≡ record { nodes = 0; orders = 1 } → AreFiguresOf n F P [] s
figures_empty n F P s count total fewest most =
    let a = ap (λ t. t.orders) fewest in
    let b = ap (λ t. t.orders) most in
    let d : s.fewest.nodes ≡ 0 = ap (λ t. t.nodes) fewest in
    let e : s.most.nodes ≡ 0 = ap (λ t. t.nodes) most in
    record {
      count = count ∙ sym (ap length (lists_empty P));
      total = total ∙ sym (total_empty n F P);
      costs = record {
        none = λ z c. absurd (omega arith);
        fewest = λ some. record {
          orders = a ∙ sym (ap (ways n F P []) d ∙ ways_empty_zero n F P);
          some = omega arith;
          none_below = λ c lt. absurd (omega arith);
        };
        most = λ some. record {
          orders = b ∙ sym (ap (ways n F P []) e ∙ ways_empty_zero n F P);
          some = omega arith;
          none_above = λ c lt. more c (omega arith);
        };
      };
      tidy = record { fewest = omega arith; most = omega arith; ordered = omega arith };
    }
  where
    more : (c : ℕ) → 0 < c → ways n F P [] c ≡ 0
    more zero lt = absurd (omega arith)
    more (suc c) lt = ways_empty_more n F P c

-- no orders
pub tidy_none : (s : Figures) → s.count ≡ 0 → s.fewest ≡ record { nodes = 0; orders = 0 } → s.most ≡ record { nodes = 0; orders = 0 } → IsTidy s
tidy_none s count fewest most =
    let a = ap (λ t. t.orders) fewest in
    let b = ap (λ t. t.orders) most in
    let d = ap (λ t. t.nodes) fewest in
    record { fewest = omega arith; most = omega arith; ordered = omega arith }

pub figures_unlawful : (n : ℕ) (F : List Function) (P : List Pair) (set : ℕ) (s : Figures) → is_lawful P (members n set) ≡ false → s.count ≡ 0 →
    s.total ≡ 0 → s.fewest ≡ record { nodes = 0; orders = 0 } → s.most ≡ record { nodes = 0; orders = 0 } → AreFiguresOf n F P (members n set) s
figures_unlawful n F P set s not_lawful count total fewest most =
    let once = distinct_members n set in
    record {
      count = count ∙ sym (number_none P (members n set) once not_lawful);
      total = total ∙ sym (total_none n F P (members n set) once not_lawful);
      costs = record {
        none = λ z k. ways_none n F P (members n set) once not_lawful k;
        fewest = λ some. absurd (some count);
        most = λ some. absurd (some count);
      };
      tidy = tidy_none s count fewest most;
    }

-- without pairs each set is lawful
pub lawful_without : (P : List Pair) (S : List ℕ) → length P ≡ 0 → is_lawful P S ≡ true
unfolding is_lawful
lawful_without [] S none = refl
lawful_without (p ∷ P) S none = absurd (omega (arith, none))

module _ (n : ℕ) (F : List Function) (P : List Pair) (base : List ℕ) (o : IsOrder n base) (k : Keeps P base) where
  pub figures_of_all : (s : Figures) → AreFiguresOf n F P (variables n) s → AreFiguresOfOrders n F P s
  figures_of_all s h =
      let least_is = h.costs.fewest counted in
      let most_is = h.costs.most counted in
      let low = sizes_are_ways n P base o k F in
      record {
        count = h.count ∙ ap length (sym (orders_are_lists n P base o k));
        fewest_nodes =
            let some = fewest_is_counted n F P base o k in
            elim (cases_lt s.fewest.nodes (least n F P (variables n))) [
              | inl lt ↦ absurd (let none = none_below_fewest n F P base o k s.fewest.nodes lt in let a = least_is.some in let b = least_is.orders in
                  let e = low s.fewest.nodes in omega arith)
              | inr ge ↦ elim (cases_lt (least n F P (variables n)) s.fewest.nodes) [
                | inl lt ↦ absurd (let none = least_is.none_below (least n F P (variables n)) lt in let e = low (least n F P (variables n)) in omega arith)
                | inr le ↦ omega arith
              ]
            ];
        optimal_orders = least_is.orders ∙ sym (low s.fewest.nodes);
        most_nodes =
            let some = most_is_counted n F P base o k in
            elim (cases_lt (most n F P) s.most.nodes) [
              | inl lt ↦ absurd (let none = none_above_most n F P s.most.nodes lt in let a = most_is.some in let b = most_is.orders in let e = low
                  s.most.nodes in omega arith)
              | inr ge ↦ elim (cases_lt s.most.nodes (most n F P)) [
                | inl lt ↦ absurd (let none = most_is.none_above (most n F P) lt in let e = low (most n F P) in omega arith)
                | inr le ↦ omega arith
              ]
            ];
        worst_orders = most_is.orders ∙ sym (low s.most.nodes);
        total = h.total ∙ sym (size_total_is_cost_total n P base o k F);
      }
    where
      counted : s.count ≢ 0
      counted z =
          let some = fewest_is_counted n F P base o k in
          let none = h.costs.none z (least n F P (variables n)) in
          let e = sizes_are_ways n P base o k F (least n F P (variables n)) in
          omega arith
