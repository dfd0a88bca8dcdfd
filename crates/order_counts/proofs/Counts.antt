-- So many orders of each cost: their least and greatest costs.
--     raised_at, raised_low      the counts with a width added to each cost
--     raised_least, raised_greatest      the least and the greatest cost, raised
--     with_none, figures_same      beside orders of which there are none; counts that agree
use Rattle.std.proofs.Common.{◌≡◌, ℕ, ◌+◌, ◌-◌, ◌<◌, ◌≤◌, cond, inl, inr, sym, ap, ◌∙◌, subst, arith}
use Rattle.std.proofs.lemmas.Bool.{cases_lt, le-leb, lt-leb}
use Rattle.order_counts.specs.declared.figures.Figures.{Figures}
use Rattle.order_counts.specs.declared.figures.SizeCount.{SizeCount}
use Rattle.order_counts.specs.Figures.{AreFigures, IsGreatestOf, IsLeastOf, both, raised}

module _ (g : ℕ → ℕ) (w : ℕ) where
  pub raised_at : (c : ℕ) → raised g w (c + w) ≡ g c
  raised_at c = ap (λ b. cond b (g (c + w - w)) 0) (le-leb w (c + w) (omega arith)) ∙ ap g (omega arith)

  pub raised_low : (c : ℕ) → c < w → raised g w c ≡ 0
  raised_low c lt = ap (λ b. cond b (g (c - w)) 0) (lt-leb w c lt)

  pub raised_high : (c : ℕ) → w ≤ c → raised g w c ≡ g (c - w)
  raised_high c le = ap (λ b. cond b (g (c - w)) 0) (le-leb w c le)

  -- the same of orders that none has
  pub raised_none : ((c : ℕ) → g c ≡ 0) → (c : ℕ) → raised g w c ≡ 0
  raised_none none c = elim (cases_lt c w) [ inl lt ↦ raised_low c lt | inr le ↦ raised_high c le ∙ none (c - w) ]

  module _ (s t : SizeCount) (nodes : t.nodes ≡ s.nodes + w) (orders : t.orders ≡ s.orders) where
    at_nodes : raised g w t.nodes ≡ g s.nodes
    at_nodes = ap (raised g w) nodes ∙ raised_at s.nodes

    pub raised_least : IsLeastOf g s → IsLeastOf (raised g w) t
    raised_least h = record {
      orders = orders ∙ h.orders ∙ sym at_nodes;
      some = let some = h.some in omega arith;
      none_below = λ c lt. elim (cases_lt c w) [
        | inl low ↦ raised_low c low
        | inr le ↦ raised_high c le ∙ h.none_below (c - w) (omega arith)
      ];
    }

    pub raised_greatest : IsGreatestOf g s → IsGreatestOf (raised g w) t
    raised_greatest h = record {
      orders = orders ∙ h.orders ∙ sym at_nodes;
      some = let some = h.some in omega arith;
      none_above = λ c lt. elim (cases_lt c w) [
        | inl low ↦ raised_low c low
        | inr le ↦ raised_high c le ∙ h.none_above (c - w) (omega arith)
      ];
    }

-- counts that agree have one least and one greatest cost
module _ (f g : ℕ → ℕ) (same : (c : ℕ) → f c ≡ g c) where
  pub least_same : (s : SizeCount) → IsLeastOf f s → IsLeastOf g s
  least_same s h = record { orders = h.orders ∙ same s.nodes; some = h.some; none_below = λ c lt. sym (same c) ∙ h.none_below c lt }

  pub greatest_same : (s : SizeCount) → IsGreatestOf f s → IsGreatestOf g s
  greatest_same s h = record { orders = h.orders ∙ same s.nodes; some = h.some; none_above = λ c lt. sym (same c) ∙ h.none_above c lt }

  pub figures_same : (s : Figures) → AreFigures f s → AreFigures g s
  figures_same s h = record {
    none = λ z c. sym (same c) ∙ h.none z c;
    fewest = λ some. least_same s.fewest (h.fewest some);
    most = λ some. greatest_same s.most (h.most some);
  }

-- the figures of orders of two kinds, of which the second is raised
module _ (f g : ℕ → ℕ) (w : ℕ) (s below t : Figures) (old : AreFigures f s) (more : AreFigures g below) (count : t.count ≡ s.count + below.count) where
  -- there are none of the first kind
  pub added_first : s.count ≡ 0 → 0 < below.count → IsLeastOf (raised g w) t.fewest → IsGreatestOf (raised g w) t.most → AreFigures (both f (raised g w)) t
  added_first zero some least greatest = record {
    none = λ z c. absurd (omega arith);
    fewest = λ _. least_same (raised g w) (both f (raised g w)) alone t.fewest least;
    most = λ _. greatest_same (raised g w) (both f (raised g w)) alone t.most greatest;
  }
    where
      alone : (c : ℕ) → raised g w c ≡ both f (raised g w) c
      alone c = let z = old.none zero c in omega arith

  -- or of the second
  pub added_none : below.count ≡ 0 → t.fewest ≡ s.fewest → t.most ≡ s.most → AreFigures (both f (raised g w)) t
  added_none zero fewest most = record {
    none = λ z c. let a = old.none (omega arith) c in let b = raised_none g w (more.none zero) c in omega arith;
    fewest = λ some. least_same f (both f (raised g w)) alone t.fewest (subst (IsLeastOf f) (sym fewest) (old.fewest (λ z. some (omega arith))));
    most = λ some. greatest_same f (both f (raised g w)) alone t.most (subst (IsGreatestOf f) (sym most) (old.most (λ z. some (omega arith))));
  }
    where
      alone : (c : ℕ) → f c ≡ both f (raised g w) c
      alone c = let z = raised_none g w (more.none zero) c in omega arith

  pub added_both : 0 < below.count → IsLeastOf (both f (raised g w)) t.fewest → IsGreatestOf (both f (raised g w)) t.most → AreFigures (both f (raised g w)) t
  added_both some least greatest = record { none = λ z c. absurd (omega arith); fewest = λ _. least; most = λ _. greatest }
