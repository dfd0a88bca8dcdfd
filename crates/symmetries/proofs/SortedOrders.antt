-- Orders with exchanged variables, and orders sorted by pairs of symmetric variables.
--     order_exchanged, size_exchanged      an order with exchanged variables is one, and of symmetric functions it has at most as many nodes
--     sorted_order      each order may be sorted by pairs of symmetric variables, with as many nodes, and does not come later for it
use Rattle.std.proofs.Common.{◌≡◌, ◌≢◌, ℕ, zero, suc, ◌+◌, ◌<◌, ◌≤◌, Bool, true, false, cond, ◌||◌, ◌&&◌, inl, inr, List, [], ◌∷◌, map, slice_index, refl, sym, ap, ap₂, ◌∙◌, subst, arith, nat_eq, eqb-true, eq-eqb, ne_eqb, nat_cmp, Ordering, Less, Equal, Greater}
use Rattle.std.specs.Ordering.{is_gt}
use Rattle.std.specs.Cmp.Lexicographic.{slice_cmp}
use Rattle.std.specs.List.{IsDistinct, list_all}
use Rattle.std.proofs.lemmas.Bool.{false≢true, true≢false, cases_Bool, cases_eq, or_cases, or_parts, eqb-false}
use Rattle.std.proofs.lemmas.Cmp.{nat_list_cmp_total}
use Rattle.definitions.specs.Functions.{Function}
use Rattle.definitions.specs.Orders.{has, IsOrder}
use Rattle.definitions.specs.Pairs.{Pair, is_above, keeps, Keeps}
use Rattle.definitions.specs.Levels.{size_under}
use Rattle.definitions.specs.Widths.{cost}
use Rattle.definitions.proofs.Functions.Exchange.{Below, below_from_has, size_is_cost}
use Rattle.definitions.proofs.Lists.Maps.{map_same}
use Rattle.definitions.proofs.Lists.Orders.{absent_from_apart}
use Rattle.definitions.proofs.Lists.Sets.{Among, among_from_map}
use Rattle.definitions.proofs.Precedence.Sets.{among_pair}
use Rattle.definitions.proofs.Widths.Recurrence.{among_has, apart_from_absent, has_among}
use Rattle.symmetries.specs.Exchanges.{AreSymmetric, IsExchange}
use Rattle.symmetries.specs.SymmetricPairs.{AreSymmetricPairs, IsSymmetricPair, exchange_of}
use Rattle.symmetries.proofs.Partners.{same_partner}
use Rattle.symmetries.proofs.SymmetricWidths.{width_exchanged}
use Rattle.symmetries.proofs.PairExchanges.{exchange_pair, partner_of}

-- ---- two variables exchanged

-- b for a, a for b, and each other variable for itself
abbrev swapped : ℕ → ℕ → ℕ → ℕ
swapped a b y = cond (nat_eq y a) b (cond (nat_eq y b) a y)

-- the first of two exchanged variables becomes the second
swapped_first : (a b : ℕ) → swapped a b a ≡ b
swapped_first a b = ap (λ c. cond c b (cond (nat_eq a b) a a)) (eq-eqb a a refl)

-- and the second the first
swapped_second : (a b : ℕ) → swapped a b b ≡ a
swapped_second a b = grind arith

-- the others stay
swapped_other : (a b y : ℕ) → y ≢ a → y ≢ b → swapped a b y ≡ y
swapped_other a b y p q = ap₂ (λ c d. cond c b (cond d a y)) (ne_eqb y a p) (ne_eqb y b q)

-- ---- orders with exchanged variables

-- an order's variables are variables
below_order : (n : ℕ) (order : List ℕ) → IsOrder n order → Below n order
below_order n order o = below_from_has n order (λ y h. (o.all y).0 h)

module _ (n : ℕ) (partners : List ℕ) (e : IsExchange n partners) where
  -- a list has a variable where the list of partners has its partner
  has_partner : (xs : List ℕ) → Below n xs → (y : ℕ) → y < n → has (map (slice_index partners) xs) (slice_index partners y) ≡ has xs y
  has_partner [] b y lt = refl
  has_partner (x ∷ xs) b y lt = ap₂ (λ c d. c || d) (same_partner n partners e y x lt b.0) (has_partner xs b.1 y lt)

  -- no variable is the partner of two
  distinct_partners : (xs : List ℕ) → Below n xs → IsDistinct nat_eq xs → IsDistinct nat_eq (map (slice_index partners) xs)
  unfolding IsDistinct
  distinct_partners [] b d = tt
  distinct_partners (x ∷ xs) b d = grind (arith, apart_from_absent, has_partner, absent_from_apart, distinct_partners xs b.1 d.1)

  -- the partners' partners are the variables
  partners_back : (xs : List ℕ) → Below n xs → map (slice_index partners) (map (slice_index partners) xs) ≡ xs
  partners_back [] b = refl
  partners_back (x ∷ xs) b = λ i. e.back x b.0 i ∷ partners_back xs b.1 i

  -- the cost of the partners is at most that of the variables
  cost_exchanged : (F : List Function) → AreSymmetric n F partners → (xs : List ℕ) → Below n xs →
      cost n F (map (slice_index partners) xs) ≤ cost n F xs
  unfolding cost
  cost_exchanged F symmetric [] b = omega arith
  cost_exchanged F symmetric (x ∷ xs) b = grind (arith, width_exchanged, has_partner, cost_exchanged F symmetric xs b.1)

-- an order with exchanged variables is one
pub order_exchanged : (n : ℕ) (partners order : List ℕ) → IsExchange n partners → IsOrder n order → IsOrder n (map (slice_index partners) order)
order_exchanged n partners order e o = record {
  all = λ y. (within y, there y);
  once = distinct_partners n partners e order (below_order n order o) o.once;
}
  where
    within : (y : ℕ) → has (map (slice_index partners) order) y ≡ true → y < n
    within y h =
        let from = among_from_map (slice_index partners) y order (has_among (map (slice_index partners) order) y h) in
        subst (λ (v : ℕ). v < n) (sym from.2) (e.inside from.0 ((o.all from.0).0 (among_has order from.0 from.1)))

    there : (y : ℕ) → y < n → has (map (slice_index partners) order) y ≡ true
    there y lt =
        ap (has (map (slice_index partners) order)) (sym (e.back y lt))
        ∙ has_partner n partners e order (below_order n order o) (slice_index partners y) (e.inside y lt) ∙ (o.all (slice_index partners y)).1 (e.inside y lt)

-- and of symmetric functions it has at most as many nodes
pub size_exchanged : (n : ℕ) (F : List Function) (partners order : List ℕ) → IsExchange n partners → AreSymmetric n F partners → IsOrder n order →
    size_under n F (map (slice_index partners) order) ≤ size_under n F order
size_exchanged n F partners order e symmetric o = search (size_is_cost, order_exchanged, cost_exchanged, below_order)

-- in fact it has as many
same_size_exchanged : (n : ℕ) (F : List Function) (partners order : List ℕ) → IsExchange n partners → AreSymmetric n F partners → IsOrder n order →
    size_under n F (map (slice_index partners) order) ≡ size_under n F order
same_size_exchanged n F partners order e symmetric o =
    omega (
      arith,
      size_exchanged n F partners order e symmetric o,
      size_exchanged n F partners (map (slice_index partners) order) e symmetric (order_exchanged n partners order e o),
      ap (size_under n F) (partners_back n partners e order (below_order n order o)),
    )

-- ---- the smaller of two variables moved above the other

-- the sum of all partial sums of a list, with k added to each
sums : ℕ → List ℕ → ℕ
sums k [] = 0
sums k (x ∷ xs) = k + x + sums (k + x) xs

module _ (a b : ℕ) (less : a < b) where
  -- an exchange of variables of which a list has none changes nothing
  none_swapped : (xs : List ℕ) → has xs a ≡ false → has xs b ≡ false → map (swapped a b) xs ≡ xs
  none_swapped [] h k = refl
  none_swapped (x ∷ xs) h k =
      let p = or_parts (nat_eq a x) (has xs a) h in
      let q = or_parts (nat_eq b x) (has xs b) k in
      grind (arith, none_swapped xs p.1 q.1)

  -- below b, partial sums of the exchanged list are not larger
  sums_below : (k m : ℕ) → k + b ≡ m + a → (xs : List ℕ) → IsDistinct nat_eq xs → has xs b ≡ false → sums k (map (swapped a b) xs) ≤ sums m xs
  unfolding IsDistinct sums
  sums_below k m s [] d h = omega arith
  sums_below k m s (x ∷ xs) d h =
      elim (cases_eq x a) [
        | inl e ↦
            let same : swapped a b x ≡ b = ap (swapped a b) e ∙ swapped_first a b in
            let now : k + swapped a b x ≡ m + x = omega arith in
            omega (arith, ap₂ sums now (none_swapped xs (ap (has xs) (sym e) ∙ absent_from_apart x xs d.0) parts.1))
        | inr ne ↦
            let same : swapped a b x ≡ x = swapped_other a b x ne (λ t. eqb-false b x parts.0 (sym t)) in
            omega (arith, sums_below (k + swapped a b x) (m + x) (omega arith) xs d.1 parts.1)
      ]
    where
      parts : (nat_eq b x ≡ false) × (has xs b ≡ false)
      parts = or_parts (nat_eq b x) (has xs b) h

  -- where b stands above a, the exchanged list has smaller partial sums, and comes before
  exchange_falls : (k : ℕ) (xs : List ℕ) → IsDistinct nat_eq xs → has xs a ≡ true → has xs b ≡ true → is_above a b xs ≡ false →
      (sums k (map (swapped a b) xs) < sums k xs) × (slice_cmp nat_cmp (map (swapped a b) xs) xs ≡ Less)
  unfolding IsDistinct sums is_above
  exchange_falls k [] d ha hb h = absurd (false≢true ha)
  exchange_falls k (x ∷ xs) d ha hb h =
      elim (cases_eq x b) [
        | inl e ↦
            let same : swapped a b x ≡ a = ap (swapped a b) e ∙ swapped_second a b in
            let rest = sums_below (k + swapped a b x) (k + x) (omega arith) xs d.1 (ap (has xs) (sym e) ∙ absent_from_apart x xs d.0) in
            grind arith
        | inr p ↦ elim (cases_eq x a) [
          | inl e ↦ absurd (no_a p e)
          | inr q ↦
              let same : swapped a b x ≡ x = swapped_other a b x q p in
              let rest = exchange_falls (k + x) xs d.1 (later a ha (λ s. q (sym s))) (later b hb (λ s. p (sym s)))
              (ap (λ c. cond c (has xs b) (is_above a b xs)) (sym (ne_eqb a x (λ s. q (sym s)))) ∙ h) in grind arith
        ]
      ]
    where
      later : (y : ℕ) → has (x ∷ xs) y ≡ true → y ≢ x → has xs y ≡ true
      later y t ne = elim (or_cases (nat_eq y x) (has xs y) t) [ inl s ↦ absurd (ne (eqb-true y x s)) | inr r ↦ r ]

      no_a : x ≢ b → x ≡ a → ⊥
      no_a p e =
          true≢false (sym (later b hb (λ s. p (sym s))) ∙ ap (λ c. cond c (has xs b) (is_above a b xs)) (sym (eq-eqb a x (sym e))) ∙ h)

-- ---- sorted orders

-- where a test of all elements fails, it fails at one
fails_at : {X : Type 0} (p : X → Bool) (xs : List X) → list_all p xs ≡ false → (x : X) × Among x xs × (p x ≡ false)
fails_at p [] h = absurd (true≢false h)
fails_at p (y ∷ xs) h =
    elim (cases_Bool (p y)) [
      | inl t ↦ let r = fails_at p xs (ap (λ c. c && list_all p xs) (sym t) ∙ h) in (r.0, inr r.1, r.2)
      | inr f ↦ (y, inl refl, f)
    ]

-- an order that keeps the pairs, has as many nodes as another, and does not come later
abbrev Sorted : ℕ → List Function → List Pair → List ℕ → Type 0
Sorted n F P order =
    (o : List ℕ) × IsOrder n o × Keeps P o × (size_under n F o ≡ size_under n F order) × (slice_cmp nat_cmp o order ≢ Greater)

-- an order sorted by one pair that it does not keep
record Step (n : ℕ) (F : List Function) (order : List ℕ) : Type 0 where
  pub next : List ℕ
  pub is_order : IsOrder n next
  pub as_large : size_under n F next ≡ size_under n F order
  pub falls : sums 0 next < sums 0 order
  pub before : slice_cmp nat_cmp next order ≡ Less

-- where two symmetric variables stand the wrong way round, they are exchanged
step_at : (n : ℕ) (F : List Function) (a b : ℕ) → IsSymmetricPair n F a b → (order : List ℕ) → IsOrder n order → is_above a b order ≡ false → Step n F order
step_at n F a b s order o h =
    let e = exchange_pair n a b (omega arith) s.inside in
    let same : map (slice_index (exchange_of n a b)) order ≡ map (swapped a b) order =
    grind (arith, map_same, partner_of, among_has) in
    let falls = exchange_falls a b s.first 0 order o.once ((o.all a).1 (omega arith)) ((o.all b).1 s.inside) h in
    record {
      next = map (slice_index (exchange_of n a b)) order;
      is_order = order_exchanged n (exchange_of n a b) order e o;
      as_large = same_size_exchanged n F (exchange_of n a b) order e s.symmetric o;
      falls = subst (λ (xs : List ℕ). sums 0 xs < sums 0 order) (sym same) falls.0;
      before = ap (λ xs. slice_cmp nat_cmp xs order) same ∙ falls.1;
    }

-- a list that does not come later passes the test of that
pub not_greater : (r : Ordering) → r ≢ Greater → is_gt r ≡ false
not_greater Less h = refl
not_greater Equal h = refl
not_greater Greater h = absurd (h refl)

-- an order whose partial sums add up to less than k may be sorted: by induction on k
sorted_within : (n : ℕ) (F : List Function) (P : List Pair) → AreSymmetricPairs n F P → (k : ℕ) (order : List ℕ) → IsOrder n order → sums 0 order < k →
    Sorted n F P order
unfolding keeps
sorted_within n F P pairs zero order o lt = absurd (omega arith)
sorted_within n F P pairs (suc k) order o lt =
    elim (cases_Bool (keeps P order)) [
      | inl t ↦ grind (arith, nat_list_cmp_total)
      | inr f ↦
          let miss = fails_at (λ (p : Pair). is_above p.0 p.1 order) P f in
          let step = step_at n F miss.0.0 miss.0.1 (pairs miss.0.0 miss.0.1 (among_pair P miss.0 miss.1)) order o miss.2 in
          grind (arith, nat_list_cmp_total, sorted_within n F P pairs k step.next step.is_order (omega arith))
    ]

-- each order may be sorted by pairs of symmetric variables: the result keeps the pairs, has as many nodes, and does not come later
pub sorted_order : (n : ℕ) (F : List Function) (P : List Pair) → AreSymmetricPairs n F P → (order : List ℕ) → IsOrder n order →
    (o : List ℕ) × IsOrder n o × Keeps P o × (size_under n F o ≡ size_under n F order) × (slice_cmp nat_cmp o order ≢ Greater)
sorted_order n F P pairs order o = sorted_within n F P pairs (suc (sums 0 order)) order o (omega arith)
