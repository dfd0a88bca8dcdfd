-- The texts of --orders and --sizes, piece by piece.
--     mean_pushed, lines_pushed      the line of the mean; all eight lines
--     line_pushed      one more line of sizes
use Rattle.std.proofs.Common.{◌≡◌, ℕ, ◌+◌, ◌-◌, ◌/◌, ◌%◌, List, [], ◌∷◌, ◌++◌, get_or, sym, ap, ◌∙◌, decimal, codes, append_assoc, append-nil, arith}
use Rattle.std.specs.List.{flat_map, range_with_len}
use Rattle.std.proofs.lemmas.Grind.{flat_map-append}
use Rattle.std.proofs.lemmas.List.Concat.{flat_map-cons}
use Rattle.definitions.proofs.Lists.Ranges.{range_append}
use Rattle.order_counts.specs.declared.cost_counts.CostCounts.{CostCounts}
use Rattle.order_counts.specs.Sizes.{counts_at}
use Rattle.order_counts.proofs.Entries.{at_entry}
use Rattle.outcomes.specs.Texts.{labelled}
use Rattle.report_texts.specs.OrderTexts.{mean_hundredths, orders_lines, size_line, with_decimals}

pub mean_pushed : (s₀ s₁ : List ℕ) (h h' : ℕ) → h ≡ h' →
    s₁ ≡ s₀ ++ (codes "mean nodes: " ++ (decimal (h / 100) ++ (codes "." ++ (decimal (h / 10 % 10) ++ (decimal (h % 10) ++ codes "\n"))))) →
    s₁ ≡ s₀ ++ labelled (codes "mean nodes: ") (with_decimals h')
mean_pushed s₀ s₁ h h' e g =
    let a = decimal (h' / 100) in
    let p = codes "." in
    let b = decimal (h' / 10 % 10) in
    let c = decimal (h' % 10) in
    let end : List ℕ = 10 ∷ [] in
    g ∙ ap (λ k. s₀ ++ (codes "mean nodes: " ++ (decimal (k / 100) ++ (codes "." ++ (decimal (k / 10 % 10) ++ (decimal (k % 10) ++ codes "\n")))))) e
    ∙ ap (λ r. s₀ ++ (codes "mean nodes: " ++ r))
    (sym (append_assoc (a ++ p ++ b) c end ∙ append_assoc (a ++ p) b (c ++ end) ∙ append_assoc a p (b ++ (c ++ end))))

pub lines_pushed : (s₀ s₁ s₂ s₃ s₄ s₅ s₆ s₇ s₈ : List ℕ) (count fewest optimal most worst total sifted better : ℕ) → s₀ ≡ [] →
    s₁ ≡ s₀ ++ labelled (codes "orders: ") (decimal count) → s₂ ≡ s₁ ++ labelled (codes "nodes: ") (decimal fewest) →
    s₃ ≡ s₂ ++ labelled (codes "optimal orders: ") (decimal optimal) → s₄ ≡ s₃ ++ labelled (codes "most nodes: ") (decimal most) →
    s₅ ≡ s₄ ++ labelled (codes "worst orders: ") (decimal worst) →
    s₆ ≡ s₅ ++ labelled (codes "mean nodes: ") (with_decimals (mean_hundredths total count)) →
    s₇ ≡ s₆ ++ labelled (codes "sifted nodes: ") (decimal sifted) → s₈ ≡ s₇ ++ labelled (codes "orders below sifted: ") (decimal better) →
    s₈ ≡ orders_lines count fewest optimal most worst total sifted better
unfolding orders_lines
lines_pushed s₀ s₁ s₂ s₃ s₄ s₅ s₆ s₇ s₈ count fewest optimal most worst total sifted better e a b c d f g h k =
    let one = a ∙ ap (λ s. s ++ labelled (codes "orders: ") (decimal count)) e in
    let two = b ∙ ap (λ s. s ++ labelled (codes "nodes: ") (decimal fewest)) one in
    let three = c ∙ ap (λ s. s ++ labelled (codes "optimal orders: ") (decimal optimal)) two in
    let four = d ∙ ap (λ s. s ++ labelled (codes "most nodes: ") (decimal most)) three in
    let five = f ∙ ap (λ s. s ++ labelled (codes "worst orders: ") (decimal worst)) four in
    let six = g ∙ ap (λ s. s ++ labelled (codes "mean nodes: ") (with_decimals (mean_hundredths total count))) five in
    let seven = h ∙ ap (λ s. s ++ labelled (codes "sifted nodes: ") (decimal sifted)) six in
    k ∙ ap (λ s. s ++ labelled (codes "orders below sifted: ") (decimal better)) seven

module _ (s : CostCounts) where
  pub line_pushed : (i count size : ℕ) (old new : List ℕ) → count ≡ get_or s.orders.items i 0 → size ≡ s.least + i →
      old ≡ flat_map (size_line (counts_at s)) (range_with_len s.least i) → new ≡ old ++ size_line (λ _. count) size →
      new ≡ flat_map (size_line (counts_at s)) (range_with_len s.least (i + 1))
  line_pushed i count size old new of at before more =
      let f : ℕ → List ℕ = size_line (counts_at s) in
      let here : counts_at s size ≡ count =
      at_entry s size (omega (arith, at)) ∙ ap (λ k. get_or s.orders.items k 0) (let e : size - s.least ≡ i = omega (arith, at) in e) ∙ sym of in
      more ∙ ap (λ t. t ++ size_line (λ _. count) size) before
      ∙ ap (λ k. flat_map f (range_with_len s.least i) ++ size_line (λ _. k) size) (sym here)
      ∙ ap (λ t. flat_map f (range_with_len s.least i) ++ f t) at
      ∙ ap (λ t. flat_map f (range_with_len s.least i) ++ t) (sym (flat_map-cons f (s.least + i) [] ∙ append-nil (f (s.least + i))))
      ∙ sym (ap (flat_map f) (range_append s.least i 1) ∙ flat_map-append f (range_with_len s.least i) (range_with_len (s.least + i) 1))
