-- What is counted of a cover's truth tables answers --orders and --sizes for the cover.
--     sizes_answered      the counts of all sizes make the text of --sizes
--     some_orders      some order keeps the pairs
--     orders_answered      the figures make that of --orders
use Rattle.std.proofs.Common.{◌≡◌, ℕ, zero, suc, ◌+◌, ◌-◌, ◌^◌, ◌<◌, ◌≤◌, max, inl, inr, List, [], ◌++◌, length, map, get_or, nat_eq, nat_lt, refl, sym, ap, ◌∙◌, subst, append-nil, arith}
use Rattle.std.specs.List.{count_by, flat_map, fold, range_with_len, sum_by}
use Rattle.std.proofs.lemmas.Bool.{cases_lt}
use Rattle.std.proofs.lemmas.Grind.{flat_map-append}
use Rattle.std.proofs.lemmas.List.{get_or_past}
use Rattle.std.proofs.lemmas.List.Concat.{flat_map-cons}
use Rattle.std.proofs.lemmas.List.Sums.{count_by-le-length}
use Rattle.definitions.specs.Functions.{Function}
use Rattle.definitions.specs.Orders.{IsOrder, variables}
use Rattle.definitions.specs.Pairs.{IsFirstOrder, Keeps, Pair}
use Rattle.definitions.specs.Levels.{size_under}
use Rattle.definitions.specs.Problems.{TruthTables, functions}
use Rattle.definitions.specs.Sifting.{sifted}
use Rattle.definitions.specs.AllOrders.{all_orders, most, most_of, orders_of_size, size_total, ways}
use Rattle.definitions.proofs.Certificates.Same.{least_same}
use Rattle.definitions.proofs.Functions.Same.{AllSame, size_same}
use Rattle.definitions.proofs.Lists.Ranges.{range_append}
use Rattle.definitions.proofs.Widths.AllOrders.{members_all}
use Rattle.definitions.proofs.Widths.OrderSizes.{sizes_are_ways}
use Rattle.definitions.proofs.Widths.SizeCounts.{most_is_counted, none_above_most}
use Rattle.order_counts.specs.declared.cost_counts.CostCounts.{CostCounts}
use Rattle.order_counts.specs.declared.figures.Figures.{Figures}
use Rattle.order_counts.specs.Figures.{AreFiguresOfOrders}
use Rattle.order_counts.specs.Sizes.{AreSizesOfOrders, counts_at, orders_below}
use Rattle.order_counts.proofs.Counts.{raised_low}
use Rattle.order_counts.proofs.Entries.{at_entry}
use Rattle.order_counts.proofs.Rows.{costs_small}
use Rattle.pla_reader.specs.Covers.{NamedCover, functions_of}
use Rattle.truth_table.specs.OfCovers.{AreTablesOf}
use Rattle.truth_table.proofs.OfCovers.{tables_keep}
use Rattle.report_texts.specs.Answers.{IsOrdersAnswer}
use Rattle.report_texts.specs.OrderTexts.{orders_lines, size_line, sizes_text}
use Rattle.report_texts.proofs.SameAnswers.{sifted_same}

-- ---- lines of sizes

-- sizes without orders have no line
none_line : (f : ℕ → ℕ) (s : ℕ) → f s ≡ 0 → size_line f s ≡ []
none_line f s none = ap (λ k. size_line (λ _. k) s) none

no_lines : (f : ℕ → ℕ) (a k : ℕ) → ((s : ℕ) → a ≤ s → s < a + k → f s ≡ 0) → flat_map (size_line f) (range_with_len a k) ≡ []
no_lines f a zero h = refl
no_lines f a (suc k) h =
    flat_map-cons (size_line f) a (range_with_len (a + 1) k)
    ∙ ap (λ t. t ++ flat_map (size_line f) (range_with_len (a + 1) k)) (none_line f a (h a (omega arith) (omega arith)))
    ∙ no_lines f (a + 1) k (λ s le lt. h s (omega arith) (omega (arith, lt)))

same_lines : (f g : ℕ → ℕ) (a k : ℕ) → ((s : ℕ) → a ≤ s → s < a + k → f s ≡ g s) →
    flat_map (size_line f) (range_with_len a k) ≡ flat_map (size_line g) (range_with_len a k)
same_lines f g a zero h = refl
same_lines f g a (suc k) h =
    flat_map-cons (size_line f) a (range_with_len (a + 1) k)
    ∙ ap (λ c. size_line (λ _. c) a ++ flat_map (size_line f) (range_with_len (a + 1) k)) (h a (omega arith) (omega arith))
    ∙ ap (λ t. size_line g a ++ t) (same_lines f g (a + 1) k (λ s le lt. h s (omega arith) (omega (arith, lt))))
    ∙ sym (flat_map-cons (size_line g) a (range_with_len (a + 1) k))

-- lines up to a number are those up to a later one, if no size between them has orders
longer : (f : ℕ → ℕ) (a k : ℕ) → ((s : ℕ) → a ≤ s → s < a + k → f s ≡ 0) →
    flat_map (size_line f) (range_with_len 0 (a + k)) ≡ flat_map (size_line f) (range_with_len 0 a)
longer f a k h =
    ap (flat_map (size_line f)) (range_append 0 a k)
    ∙ flat_map-append (size_line f) (range_with_len 0 a) (range_with_len (0 + a) k)
    ∙ ap (λ t. flat_map (size_line f) (range_with_len 0 a) ++ t)
    (ap (λ b. flat_map (size_line f) (range_with_len b k)) (let z : 0 + a ≡ a = omega arith in z) ∙ no_lines f a k h)
    ∙ append-nil (flat_map (size_line f) (range_with_len 0 a))

-- and those from a number on are all, if no size before it has orders
later : (f : ℕ → ℕ) (a k : ℕ) → ((s : ℕ) → s < a → f s ≡ 0) →
    flat_map (size_line f) (range_with_len 0 (a + k)) ≡ flat_map (size_line f) (range_with_len a k)
later f a k h =
    ap (flat_map (size_line f)) (range_append 0 a k)
    ∙ flat_map-append (size_line f) (range_with_len 0 a) (range_with_len (0 + a) k)
    ∙ ap (λ t. t ++ flat_map (size_line f) (range_with_len (0 + a) k)) (no_lines f 0 a (λ s le lt. h s (omega (arith, lt))))
    ∙ ap (λ b. flat_map (size_line f) (range_with_len b k)) (let z : 0 + a ≡ a = omega arith in z)

-- ---- functions

module _ (n : ℕ) (F : List Function) (P : List Pair) (base : List ℕ) (o : IsOrder n base) (k : Keeps P base) (few : n ≤ 16)
    (outputs : length F ≤ 16) where
  most_small : most n F P ≤ 262148
  most_small =
      let there = most_is_counted n F P base o k in
      let all = sizes_are_ways n P base o k F (most n F P) ∙ ap (λ S. ways n F P S (most n F P)) (sym (members_all n)) in
      costs_small n F few outputs P (2 ^ n - 1) (most n F P) (omega (arith, there, all))

  -- some order keeps the pairs
  pub some_orders : 0 < length (all_orders n P)
  unfolding orders_of_size
  some_orders =
      let there = most_is_counted n F P base o k in
      let all = count_by-le-length (λ order. nat_eq (size_under n F order) (most n F P)) (all_orders n P) in
      omega (arith, there, all)

  counted_lines : (s : CostCounts) (last : ℕ) → 262148 ≤ last → AreSizesOfOrders n F P last s.least s.orders.items →
      flat_map (size_line (counts_at s)) (range_with_len s.least (length s.orders.items))
      ≡ flat_map (size_line (orders_of_size n F P)) (range_with_len 0 (most n F P + 1))
  counted_lines s last large h =
      let f = orders_of_size n F P in
      let long = length s.orders.items in
      let end = s.least + long in
      let top = most n F P + 1 in
      let exact : (c : ℕ) → c ≤ last → f c ≡ counts_at s c = λ c le. sym (h.exact c le) in
      let past : (c : ℕ) → end ≤ c → c < end + top → f c ≡ 0 =
      λ c le lt. elim (cases_lt last c) [
        | inl beyond ↦ none_above_most n F P c (let small = most_small in omega (arith, small, beyond))
        | inr within ↦
            exact c within ∙ at_entry s c (omega (arith, le)) ∙ get_or_past s.orders.items (c - s.least) 0 (omega (arith, le))
      ] in
      let before : (c : ℕ) → c < s.least → f c ≡ 0 =
      λ c lt. exact c (let w = h.within in omega (arith, lt, w)) ∙ raised_low (λ x. get_or s.orders.items x 0) s.least c lt in
      let within = h.within in
      same_lines (counts_at s) f s.least long (λ c le lt. h.exact c (omega (arith, lt, within)))
      ∙ sym (later f s.least long before) ∙ sym (longer f end top past)
      ∙ ap (λ m. flat_map (size_line f) (range_with_len 0 m)) (let z : end + top ≡ top + end = omega arith in z)
      ∙ longer f top end (λ c le lt. none_above_most n F P c (omega (arith, le)))

-- ---- other functions that are the same

module _ (n : ℕ) (F G : List Function) (P : List Pair) (s : AllSame n F G) where
  counts_same : (c : ℕ) → orders_of_size n F P c ≡ orders_of_size n G P c
  unfolding orders_of_size
  counts_same c = λ i. count_by (λ order. nat_eq (size_same n F G s order i) c) (all_orders n P)

  most_same : most n F P ≡ most n G P
  unfolding most most_of
  most_same = λ i. fold max 0 (map (λ order. size_same n F G s order i) (all_orders n P))

  total_same : size_total n F P ≡ size_total n G P
  unfolding size_total
  total_same = λ i. sum_by (λ order. size_same n F G s order i) (all_orders n P)

  below_same : (c : ℕ) → orders_below n F P c ≡ orders_below n G P c
  unfolding orders_below
  below_same c = λ i. count_by (λ order. nat_lt (size_same n F G s order i) c) (all_orders n P)

  lines_same : flat_map (size_line (orders_of_size n F P)) (range_with_len 0 (most n F P + 1))
      ≡ flat_map (size_line (orders_of_size n G P)) (range_with_len 0 (most n G P + 1))
  lines_same = λ i. flat_map (size_line (λ c. counts_same c i)) (range_with_len 0 (most_same i + 1))

-- ---- covers

module _ (cover : NamedCover) (t : TruthTables) (P : List Pair) (h : AreTablesOf cover t) where
  pub sizes_answered : (s : CostCounts) (last : ℕ) (base text : List ℕ) → IsOrder t.inputs base → Keeps P base → t.inputs ≤ 16 →
      length (functions t) ≤ 16 → 262148 ≤ last → AreSizesOfOrders t.inputs (functions t) P last s.least s.orders.items →
      text ≡ flat_map (size_line (counts_at s)) (range_with_len s.least (length s.orders.items)) → text ≡ sizes_text cover P
  unfolding sizes_text
  sizes_answered s last base text o k few outputs large counts is =
      is ∙ counted_lines t.inputs (functions t) P base o k few outputs s last large counts
      ∙ ap (λ n. flat_map (size_line (orders_of_size n (functions t) P)) (range_with_len 0 (most n (functions t) P + 1))) h.inputs
      ∙ lines_same cover.inputs (functions t) (functions_of cover) P (tables_keep cover t h)

  pub orders_answered : (f : Figures) (size better : ℕ) (start order text : List ℕ) → IsFirstOrder cover.inputs P start →
      AreFiguresOfOrders t.inputs (functions t) P f → order ≡ sifted t.inputs (functions t) P start →
      size ≡ size_under t.inputs (functions t) order → better ≡ orders_below t.inputs (functions t) P size →
      text ≡ orders_lines f.count f.fewest.nodes f.fewest.orders f.most.nodes f.most.orders f.total size better →
      IsOrdersAnswer cover P text
  orders_answered f size better start order text starts figures order_is size_is better_is is =
      let n = cover.inputs in
      let F = functions t in
      let G = functions_of cover in
      let same = tables_keep cover t h in
      let f' = subst (λ k. AreFiguresOfOrders k F P f) h.inputs figures in
      let fewest = f'.fewest_nodes ∙ least_same n F G same P (variables n) in
      let most_is = f'.most_nodes ∙ most_same n F G P same in
      let order_of = order_is ∙ ap (λ k. sifted k F P start) h.inputs ∙ sifted_same n F G P same start in
      let size_of = size_is ∙ ap (λ k. size_under k F order) h.inputs ∙ size_same n F G same order ∙ ap (size_under n G) order_of in
      let better_of = better_is ∙ ap (λ k. orders_below k F P size) h.inputs ∙ below_same n F G P same size ∙ ap (orders_below n G P) size_of in
      let optimal = f'.optimal_orders ∙ counts_same n F G P same f.fewest.nodes ∙ ap (orders_of_size n G P) fewest in
      let worst = f'.worst_orders ∙ counts_same n F G P same f.most.nodes ∙ ap (orders_of_size n G P) most_is in
      let total = f'.total ∙ total_same n F G P same in
      record {
        start = start;
        starts = starts;
        is = is ∙ (λ i. orders_lines (f'.count i) (fewest i) (optimal i) (most_is i) (worst i) (total i) (size_of i) (better_of i));
      }
