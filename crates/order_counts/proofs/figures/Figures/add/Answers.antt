use Rattle.std.proofs.Common.{◌≡◌, arith, sym, ap, subst}
use Rattle.order_counts.specs.Figures.{IsGreatestOf, IsLeastOf, both, raised}
use Rattle.order_counts.specs.declared.figures.Figures.{Figures}
use Rattle.order_counts.proofs.Counts.{added_both, added_first, added_none, raised_greatest, raised_least}
use Rattle.order_counts.proofs.figures.Figures.add.Goals as goal
use Rattle.order_counts.proofs.figures.Figures.add.Goals.{then-below-gt0+then-self-eq0, then-below-gt0+else-self-eq0, else-below-gt0}

fewest_of : (s t : Figures) → s ≡ t → s.fewest ≡ t.fewest
fewest_of s t e = ap (λ u. u.fewest) e

most_of : (s t : Figures) → s ≡ t → s.most ≡ t.most
most_of s t e = ap (λ u. u.most) e

count_of : (s t : Figures) → s ≡ t → s.count ≡ t.count
count_of s t e = ap (λ u. u.count) e

pub returns-clause-figures : goal.returns-clause-figures
returns-clause-figures c = λ f g old below. elim c.if-below-gt0.branch [
  | then-below-gt0+then-self-eq0 w ↦
      let some = w.if-below-gt0.true in
      let least = raised_least g c.args.width c.args.below.now.fewest w.raised-fewest.result w.raised-fewest.ensures.nodes
      w.raised-fewest.ensures.orders (below.fewest (λ z. omega arith)) in
      let greatest = raised_greatest g c.args.width c.args.below.now.most w.raised-most.result w.raised-most.ensures.nodes
      w.raised-most.ensures.orders (below.most (λ z. omega arith)) in
      added_first f g c.args.width c.args.self.now c.args.below.now _ old below (let e = count_of _ _ w.self-is in omega arith) w.if-self-eq0.true some
      (subst (IsLeastOf (raised g c.args.width)) (sym (fewest_of _ _ w.self-is)) least)
      (subst (IsGreatestOf (raised g c.args.width)) (sym (most_of _ _ w.self-is)) greatest)
  | then-below-gt0+else-self-eq0 w ↦
      let some = w.if-below-gt0.true in
      let least = raised_least g c.args.width c.args.below.now.fewest w.raised-fewest.result w.raised-fewest.ensures.nodes
      w.raised-fewest.ensures.orders (below.fewest (λ z. omega arith)) in
      let greatest = raised_greatest g c.args.width c.args.below.now.most w.raised-most.result w.raised-most.ensures.nodes
      w.raised-most.ensures.orders (below.most (λ z. omega arith)) in
      added_both f g c.args.width c.args.self.now c.args.below.now _ old below (let e = count_of _ _ w.self-is in omega arith) some
      (subst (IsLeastOf (both f (raised g c.args.width))) (sym (fewest_of _ _ w.self-is))
      (w.fewer-self.ensures.least f (raised g c.args.width) (old.fewest w.if-self-eq0.false) least))
      (subst (IsGreatestOf (both f (raised g c.args.width))) (sym (most_of _ _ w.self-is))
      (w.more-self.ensures.greatest f (raised g c.args.width) (old.most w.if-self-eq0.false) greatest))
  | else-below-gt0 w ↦
      added_none f g c.args.width c.args.self.now c.args.below.now _ old below (let e = count_of _ _ w.self-is in omega arith)
      (let no = w.if-below-gt0.false in omega arith) (fewest_of _ _ w.self-is) (most_of _ _ w.self-is)
]
