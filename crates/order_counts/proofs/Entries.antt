-- The entries of counts of orders by cost.
--     none      entries that are all 0
--     at_entry      the count at a cost that has an entry
--     raised_entry, raised_below, raised_beyond      the counts with a width added to each cost
--     taken      as many entries as are needed, or all
--     sums_fit, added      entries of other counts added to the last ones
use Rattle.std.proofs.Common.{◌≡◌, ℕ, ◌+◌, ◌-◌, ◌<◌, ◌≤◌, inl, inr, ◌^◌, ◌++◌, List, length, length-append, take, get_or, min, refl, sym, ap, ◌∙◌, arith, replicate}
use Rattle.std.proofs.lemmas.Bool.{cases_lt}
use Rattle.std.proofs.lemmas.List.{get_or-append_right, get_or-take, get_or_append_left, get_or_past, length-take, get_or-replicate, length-replicate}
use Rattle.order_counts.specs.declared.cost_counts.CostCounts.{CostCounts}
use Rattle.order_counts.specs.Figures.{raised}
use Rattle.order_counts.specs.Sizes.{counts_at}
use Rattle.order_counts.proofs.Counts.{raised_high, raised_low}

pub none : (n i : ℕ) → get_or {A = ℕ} (replicate n 0) i 0 ≡ 0
none n i =
    elim (cases_lt i n) [
      | inl lt ↦ get_or-replicate n i 0 0 lt
      | inr le ↦ get_or_past (replicate n 0) i 0 (omega (arith, length-replicate {A = ℕ} n 0))
    ]

module _ (s : CostCounts) where
  pub at_entry : (c : ℕ) → s.least ≤ c → counts_at s c ≡ get_or s.orders.items (c - s.least) 0
  at_entry c le = raised_high (λ i. get_or s.orders.items i 0) s.least c le

  module _ (w : ℕ) where
    pub raised_entry : (c : ℕ) → s.least + w ≤ c → raised (counts_at s) w c ≡ get_or s.orders.items (c - (s.least + w)) 0
    raised_entry c le =
        raised_high (counts_at s) w c (omega arith) ∙ at_entry (c - w) (omega arith) ∙ ap (λ k. get_or s.orders.items k 0) (omega arith)

    pub raised_below : (c : ℕ) → c < s.least + w → raised (counts_at s) w c ≡ 0
    raised_below c lt =
        elim (cases_lt c w) [
          | inl low ↦ raised_low (counts_at s) w c low
          | inr le ↦ raised_high (counts_at s) w c le ∙ raised_low (λ i. get_or s.orders.items i 0) s.least (c - w) (omega arith)
        ]

    -- none beyond the last entry
    pub raised_beyond : (c : ℕ) → s.least + w + length s.orders.items ≤ c → raised (counts_at s) w c ≡ 0
    raised_beyond c le = raised_entry c (omega arith) ∙ get_or_past s.orders.items (c - (s.least + w)) 0 (omega arith)

-- as many entries as are needed, or all
pub taken : (xs : List ℕ) (n i long : ℕ) → n ≡ min long (length xs) → i < long → get_or (take n xs) i 0 ≡ get_or xs i 0
taken xs n i long is lt =
    elim (cases_lt i n) [
      | inl below ↦ get_or-take n xs i 0 below
      | inr le ↦
          let past : length xs ≤ i = omega (arith, is) in
          get_or_past (take n xs) i 0 (omega (arith, length-take n xs)) ∙ sym (get_or_past xs i 0 past)
    ]

-- the entries from the first raised cost on are `back`, and `more` is added to them
module _ (own more : CostCounts) (w n : ℕ) (front back : List ℕ) (le : own.least ≤ more.least + w) (joined : own.orders.items ≡ front ++ back)
    (start : length front ≡ more.least + w - own.least) (is : n ≡ min (length back) (length more.orders.items)) where
  in_back : (xs : List ℕ) (t : CostCounts) → t.least ≡ own.least → t.orders.items ≡ front ++ xs → (c : ℕ) → more.least + w ≤ c →
      counts_at t c ≡ get_or xs (c - (more.least + w)) 0
  in_back xs t least e c low =
      at_entry t c (omega (arith, least)) ∙ ap (λ ys. get_or ys (c - t.least) 0) e
      ∙ get_or-append_right front xs (length front) (c - t.least) 0 refl (omega (arith, least))
      ∙ ap (λ k. get_or xs k 0) (omega (arith, least, start))

  in_front : (xs : List ℕ) (t : CostCounts) → t.least ≡ own.least → t.orders.items ≡ front ++ xs → (c : ℕ) → own.least ≤ c → c < more.least + w →
      counts_at t c ≡ get_or front (c - own.least) 0
  in_front xs t least e c low high =
      at_entry t c (omega (arith, least)) ∙ ap (λ ys. get_or ys (c - t.least) 0) e ∙ get_or_append_left front xs 0 (c - t.least) (omega (arith, least, start))
      ∙ ap (λ k. get_or front (c - k) 0) least

  pub sums_fit : ((c : ℕ) → own.least ≤ c → c < own.least + length own.orders.items → counts_at own c + raised (counts_at more) w c < 2 ^ 64) →
      (i : ℕ) → i < length (take n more.orders.items) → get_or back i 0 + get_or (take n more.orders.items) i 0 < 2 ^ 64
  sums_fit fits i lt =
      let short : i < length back = omega (arith, lt, length-take n more.orders.items, is) in
      let c = more.least + w + i in
      let inside : c < own.least + length own.orders.items = omega (arith, ap length joined, length-append front back, start, short, le) in
      let a = in_back back own refl joined c (omega arith) in
      let b = raised_entry more w c (omega arith) in
      let d = taken more.orders.items n i (length back) is short in
      let e : c - (more.least + w) ≡ i = omega arith in
      omega (arith, fits c (omega (arith, le)) inside, a, b, d, ap (λ k. get_or back k 0) e, ap (λ k. get_or more.orders.items k 0) e)

  pub added : (new : List ℕ) → length new ≡ length back → ((i : ℕ) → get_or new i 0 ≡ get_or back i 0 + get_or (take n more.orders.items) i 0) →
      (t : CostCounts) → t.least ≡ own.least → t.orders.items ≡ front ++ new → (c : ℕ) → own.least ≤ c →
      c < own.least + length own.orders.items → counts_at t c ≡ counts_at own c + raised (counts_at more) w c
  added new long each t least e c low high =
      elim (cases_lt c (more.least + w)) [
        | inl lt ↦
            omega (arith, in_front new t least e c low lt, in_front back own refl joined c low lt, raised_below more w c lt)
        | inr ge ↦
            let i = c - (more.least + w) in
            let short : i < length back = omega (arith, ap length joined, length-append front back, start, high, le) in
            omega (
              arith,
              in_back new t least e c ge,
              in_back back own refl joined c ge,
              raised_entry more w c ge,
              each i,
              taken more.orders.items n i (length back) is short,
            )
      ]
