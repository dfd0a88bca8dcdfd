-- Pairs that lead nowhere back are kept by some order, and no order keeps others.
--     kept_acyclic      where an order keeps the pairs, they lead from no variable back to itself
--     some_top      each set that is not empty has a member without which it is lawful, still
--     acyclic_kept      so the smallest tops, from all variables downward, make an order that keeps the pairs
--     greedy_is_first      and it is the first such order
use Rattle.std.proofs.Common.{◌≡◌, ◌≢◌, ℕ, zero, suc, ◌-◌, ◌^◌, ◌<◌, ◌≤◌, true, cond, ◌⊎◌, inl, inr, List, [], ◌∷◌, length, refl, sym, ap, ap₂, ◌∙◌, arith, nat_eq, eq-eqb, ne_eqb, lt-ltb, le-ltb, nat_cmp, Less, Equal, Greater, pow_pos}
use Rattle.std.specs.Ordering.{ordering_then}
use Rattle.std.specs.Cmp.Lexicographic.{slice_cmp}
use Rattle.std.specs.List.{IsDistinct}
use Rattle.std.proofs.lemmas.Bool.{false≢true, true≢false, cases_Bool, cases_eq, cases_order, or_left, and_parts, and_from}
use Rattle.std.proofs.lemmas.List.{nil_from_length}
use Rattle.std.proofs.lemmas.List.Elements.{recursion_from_All}
use Rattle.definitions.specs.Orders.{has, IsOrder, variables, members, mask_of, without}
use Rattle.definitions.specs.Pairs.{Pair, has_pair, is_above, Keeps, keeps, is_lawful, tops, IsGreedy, IsFirstOrder, Leads, AreBelow}
use Rattle.definitions.specs.Pairs.Leads.{by_one, by_more}
use Rattle.definitions.specs.Cells.{first_of}
use Rattle.std.proofs.lemmas.Cmp.{nat_eq_equiv}
use Rattle.std.proofs.lemmas.Map.Made.{length-from_same_keys}
use Rattle.definitions.proofs.Lists.Sets.{Among}
use Rattle.definitions.proofs.Lists.Orders.{absent_from_apart, has_variables}
use Rattle.definitions.proofs.Precedence.Lists.{lawful_at, lawful_from, lawful_same, keeps_at, keeps_from, above_has, above_differs, above_from_lawful, are_lawful_nil}
use Rattle.definitions.proofs.Precedence.Sets.{pair_among, among_pair}
use Rattle.definitions.proofs.Widths.Recurrence.{IsLawfulList, has_without, distinct_without, length_without, lawful_cons, lawful_tail, lawful_behind, first_member}
use Rattle.definitions.proofs.Bits.Masks.{distinct_members, members_without, members_full, mask_of_members}
use Rattle.definitions.proofs.Widths.Fewest.{order_from_arrangement, lawful_from_order}
use Rattle.definitions.proofs.Widths.Cells.{rising_filter, rising_members, first_has, first_le, has_tops, members_zero}
use Rattle.definitions.proofs.Widths.Clipped.{moved}
use Rattle.definitions.proofs.Certificates.Potential.{all_among}
use Rattle.definitions.proofs.Precedence.Closure.{leads_on}

-- ---- no order keeps pairs that lead back

above_cons : (a b x : ℕ) (xs : List ℕ) → a ≢ x → is_above a b (x ∷ xs) ≡ is_above a b xs
unfolding is_above
above_cons a b x xs ne = ap (λ c. cond c (has xs b) (is_above a b xs)) (ne_eqb a x ne)

above_head : (b x : ℕ) (xs : List ℕ) → is_above x b (x ∷ xs) ≡ has xs b
unfolding is_above
above_head b x xs = ap (λ c. cond c (has xs b) (is_above x b xs)) (eq-eqb x x refl)

-- what stands above something else stands in front of it
above_trans : (a b c : ℕ) (xs : List ℕ) → IsDistinct nat_eq xs → is_above a b xs ≡ true → is_above b c xs ≡ true → is_above a c xs ≡ true
unfolding IsDistinct is_above
above_trans a b c [] d h k = absurd (false≢true h)
above_trans a b c (x ∷ xs) d h k = elim (cases_eq b x) [
  | inl e ↦ absurd (true≢false (sym (below e) ∙ absent_from_apart x xs d.0))
  | inr ne ↦
      let k' = sym (above_cons b c x xs ne) ∙ k in
      elim (cases_eq a x) [
        | inl e ↦ ap (λ v. is_above v c (x ∷ xs)) e ∙ above_head c x xs ∙ (above_has b c xs k').1
        | inr na ↦ above_cons a c x xs na ∙ above_trans a b c xs d.1 (sym (above_cons a b x xs na) ∙ h) k'
      ]
]
  where
    -- b at the front has nothing above it
    below : b ≡ x → has xs x ≡ true
    below e = elim (cases_eq a x) [
      | inl f ↦ ap (has xs) (sym e) ∙ sym (above_head b x xs) ∙ ap (λ v. is_above v b (x ∷ xs)) (sym f) ∙ h
      | inr na ↦ ap (has xs) (sym e) ∙ (above_has a b xs (sym (above_cons a b x xs na) ∙ h)).1
    ]

leads_above : (P : List Pair) (xs : List ℕ) → IsDistinct nat_eq xs → keeps P xs ≡ true → {a b : ℕ} → Leads P a b → is_above a b xs ≡ true
leads_above P xs d k (by_one {a} {b} h) = grind (arith, pair_among, keeps_at)
leads_above P xs d k (by_more {a} {b} {c} h r) =
    let s = pair_among P a b h in
    above_trans a b c xs d (ap₂ (λ u v. is_above u v xs) s.2 s.3 ∙ keeps_at P xs k s.0 s.1) (leads_above P xs d k r)

pub kept_acyclic : (n : ℕ) (P : List Pair) (order : List ℕ) → IsOrder n order → Keeps P order → (v : ℕ) → Leads P v v → ⊥
kept_acyclic n P order o k v l = above_differs v v order o.once (leads_above P order o.once k l) refl

mask_of_nil : mask_of [] ≡ 0
unfolding mask_of
mask_of_nil = refl

some_member : (xs : List ℕ) → 0 < length xs → (z : ℕ) × (has xs z ≡ true)
some_member [] h = absurd (omega arith)
some_member (x ∷ xs) h = (x, or_left _ _ (eq-eqb x x refl))

-- ---- a top of each set

-- a pair from a member of S down to v
pair_above : (P : List Pair) (S : List ℕ) (v : ℕ) →
    ((p : Pair) × Among p P × (p.1 ≡ v) × (has S p.0 ≡ true)) ⊎ ((p : Pair) → Among p P → p.1 ≡ v → has S p.0 ≡ true → ⊥)
pair_above [] S v = inr (λ p m. absurd m)
pair_above (p ∷ P) S v =
    elim (pair_above P S v) [
      | inl s ↦ inl (s.0, inr s.1, s.2, s.3)
      | inr none ↦ elim (cases_eq p.1 v) [
        | inl e ↦ elim (cases_Bool (has S p.0)) [
          | inl t ↦ inl (p, inl refl, e, t)
          | inr f ↦ inr (λ q m eq h. elim m [ inl s ↦ true≢false (sym h ∙ ap (λ (r : Pair). has S r.0) s ∙ f) | inr r ↦ none q r eq h ])
        ]
        | inr ne ↦ inr (λ q m eq h. elim m [ inl s ↦ ne (ap (λ (r : Pair). r.1) (sym s) ∙ eq) | inr r ↦ none q r eq h ])
      ]
    ]

module _ (P : List Pair) (acyclic : (v : ℕ) → Leads P v v → ⊥) where
  -- a member below none of the members
  Top : List ℕ → Type 0
  Top S = (x : ℕ) × (has S x ≡ true) × ((p : Pair) → Among p P → p.1 ≡ x → has S p.0 ≡ true → ⊥)

  -- one step up from v, where the variables that v leads to are passed and the others are left
  step_up : (S left : List ℕ) (v : ℕ) → has S v ≡ true → ((u : ℕ) → has S u ≡ true → (u ≡ v) ⊎ Leads P v u ⊎ (has left u ≡ true)) →
      ((a : ℕ) → has S a ≡ true → Leads P a v → has left a ≡ true → Top S) → Top S
  unfolding Top
  step_up S left v h passed next = elim (pair_above P S v) [
    | inr none ↦ (v, h, none)
    | inl s ↦
        let step : Leads P s.0.0 v = by_one (ap (has_pair P s.0.0) (sym s.2) ∙ among_pair P s.0 s.1) in
        grind (arith, leads_on)
  ]

  walk : (k : ℕ) (S left : List ℕ) (v : ℕ) → IsDistinct nat_eq left → length left ≤ k → has S v ≡ true →
      ((u : ℕ) → has S u ≡ true → (u ≡ v) ⊎ Leads P v u ⊎ (has left u ≡ true)) → Top S
  walk zero S left v d le h passed =
      step_up S left v h passed
      (λ a m step there. absurd (false≢true (ap (λ xs. has xs a) (sym (nil_from_length left (omega arith))) ∙ there)))
  walk (suc k) S left v d le h passed =
      step_up S left v h passed (λ a m step there.
      walk k S (without a left) a (distinct_without a left d) (omega (arith, length_without a left d there)) m (λ u hu. elim (cases_eq u a) [
        | inl e ↦ inl e
        | inr ne ↦ grind (arith, leads_on, has_without)
      ]))

  -- each set that is not empty has a member without which it is lawful, still
  pub some_top : (S : List ℕ) (z : ℕ) → IsDistinct nat_eq S → has S z ≡ true → is_lawful P S ≡ true → (x : ℕ) × (has (tops P S) x ≡ true)
  unfolding Top
  some_top S z d h l =
      let top = walk (length S) S S z d (omega arith) h (λ u hu. inr (inr hu)) in
      grind (arith, lawful_from, has_without, lawful_at, has_tops)

  -- the smallest tops, one after the other
  greedy : (n k mask : ℕ) → mask < 2 ^ n → length (members n mask) ≡ k → is_lawful P (members n mask) ≡ true →
      (order : List ℕ) × IsGreedy n P mask order × IsLawfulList P (members n mask) order
  unfolding IsGreedy IsDistinct
  greedy n zero mask lt e l = grind (arith, nil_from_length, mask_of_members, mask_of_nil, are_lawful_nil)
  greedy n (suc k) mask lt e l =
      let z = some_member (members n mask) (omega arith) in
      let top = some_top (members n mask) z.0 (distinct_members n mask) z.1 l in
      let x = first_of (tops P (members n mask)) in
      let there = first_has (tops P (members n mask)) top.0 top.1 in
      let parts = and_parts (has (members n mask) x) (is_lawful P (without x (members n mask))) (sym (has_tops P (members n mask) x) ∙ there) in
      let same = members_without n mask x parts.0 in
      let low = lawful_same P (members n (mask - 2 ^ x)) (without x (members n mask)) same ∙ parts.1 in
      let long = length_without x (members n mask) (distinct_members n mask) parts.0 in
      let long' =
      length-from_same_keys nat_eq_equiv (members n (mask - 2 ^ x)) (without x (members n mask)) (distinct_members n (mask - 2 ^ x))
      (distinct_without x (members n mask) (distinct_members n mask)) same in
      let rest = greedy n k (mask - 2 ^ x) (omega arith) (omega arith) low in (
        x ∷ rest.0,
        (
          there,
          λ y h. first_le (tops P (members n mask)) y
              (rising_filter (λ u. is_lawful P (without u (members n mask))) (members n mask) (rising_members n mask)) h,
          rest.1,
        ),
        lawful_cons P x rest.0 (members n mask) l parts.0 (moved P (members n (mask - 2 ^ x)) (without x (members n mask)) rest.0 same rest.2),
      )

-- ---- the first order

-- a lawful list of a set, and no other such list comes before it
record FirstList (n : ℕ) (P : List Pair) (mask : ℕ) (order : List ℕ) : Type 0 where
  is_lawful_list : IsLawfulList P (members n mask) order
  first : (other : List ℕ) → IsLawfulList P (members n mask) other → slice_cmp nat_cmp order other ≢ Greater

module _ (n : ℕ) (P : List Pair) (mask x : ℕ) (low : is_lawful P (members n mask) ≡ true) (top : has (tops P (members n mask)) x ≡ true)
    (smallest : (y : ℕ) → has (tops P (members n mask)) y ≡ true → x ≤ y) (order : List ℕ) (rest : FirstList n P (mask - 2 ^ x) order) where
  parts : (has (members n mask) x ≡ true) × (is_lawful P (without x (members n mask)) ≡ true)
  parts = and_parts (has (members n mask) x) (is_lawful P (without x (members n mask))) (sym (has_tops P (members n mask) x) ∙ top)

  none_before : (other : List ℕ) → IsLawfulList P (members n mask) other → slice_cmp nat_cmp (x ∷ order) other ≢ Greater
  none_before [] a = λ f. false≢true (a.arrangement.members x ∙ parts.0)
  none_before (y ∷ ys) a = elim (cases_order x y) [ inl s ↦ same_top s | inr d ↦ elim d [ inl lt ↦ above lt | inr gt ↦ absurd (below gt) ] ]
    where
      below : y < x → ⊥
      below lt =
          let le = smallest y
          (has_tops P (members n mask) y
          ∙ and_from _ _ (first_member y ys (members n mask) a.arrangement) (lawful_behind P y ys (members n mask) a)) in
          omega arith

      above : x < y → slice_cmp nat_cmp (x ∷ order) (y ∷ ys) ≢ Greater
      above lt f =
          by (ap (λ r. ordering_then r (slice_cmp nat_cmp order ys))
          (ap (λ b. cond b Less (cond (nat_eq x y) Equal Greater)) (sym (lt-ltb x y lt))) ∙ f)
        where
          by : Less ≡ Greater → ⊥
          by g = cc

      same_top : x ≡ y → slice_cmp nat_cmp (x ∷ order) (y ∷ ys) ≢ Greater
      same_top s f =
          let is_equal : Equal ≡ nat_cmp x y =
          ap₂ (λ b d. cond b Less (cond d Equal Greater)) (sym (le-ltb x y (omega arith))) (sym (eq-eqb x y s)) in
          let tail = lawful_tail P y ys (members n mask) a in
          grind (arith, members_without)

  with_first : FirstList n P mask (x ∷ order)
  with_first = record {
    is_lawful_list =
        lawful_cons P x order (members n mask) low parts.0
        (moved P (members n (mask - 2 ^ x)) (without x (members n mask)) order (members_without n mask x parts.0) rest.is_lawful_list);
    first = none_before;
  }

greedy_first : (n : ℕ) (P : List Pair) (order : List ℕ) (mask : ℕ) → IsGreedy n P mask order → is_lawful P (members n mask) ≡ true → FirstList n P mask order
unfolding IsGreedy IsDistinct
greedy_first n P [] mask e l = record {
  is_lawful_list =
      record {
        arrangement =
            record { members = λ y. ap (λ xs. has xs y) (sym (ap (members n) e ∙ members_zero n)); once = tt };
        lawful = are_lawful_nil P;
      };
  first = start;
}
  where
    start : (other : List ℕ) → IsLawfulList P (members n mask) other → slice_cmp nat_cmp [] other ≢ Greater
    start [] a = λ f. cc
    start (x ∷ xs) a = λ f. cc
greedy_first n P (x ∷ order) mask (top, smallest, rest) l = by (greedy_first n P order (mask - 2 ^ x) rest)
  where
    parts' : (has (members n mask) x ≡ true) × (is_lawful P (without x (members n mask)) ≡ true)
    parts' = and_parts (has (members n mask) x) (is_lawful P (without x (members n mask))) (sym (has_tops P (members n mask) x) ∙ top)

    by : (is_lawful P (members n (mask - 2 ^ x)) ≡ true → FirstList n P (mask - 2 ^ x) order) → FirstList n P mask (x ∷ order)
    by r = with_first n P mask x l top smallest order
        (r (lawful_same P (members n (mask - 2 ^ x)) (without x (members n mask)) (members_without n mask x parts'.0) ∙ parts'.1))

-- a lawful list of all variables is an order that keeps the pairs, where these are below n and lead nowhere back
lawful_order : (n : ℕ) (P : List Pair) → ((p : Pair) → Among p P → (p.0 < n) × (p.1 < n) × (p.0 ≢ p.1)) → (order : List ℕ) →
    IsLawfulList P (variables n) order → IsOrder n order × Keeps P order
lawful_order n P each order a =
    let is = order_from_arrangement n order a.arrangement in
    (is, keeps_from P order (λ p m. let e = each p m in above_from_lawful P order a.lawful p m e.2 ((is.all p.0).1 e.0)))

full_lawful : (n : ℕ) (P : List Pair) → ((p : Pair) → Among p P → p.1 < n) → is_lawful P (members n (2 ^ n - 1)) ≡ true
full_lawful n P each = lawful_from P (members n (2 ^ n - 1)) (λ p m h. members_full n p.1 ∙ (has_variables n p.1).1 (each p m))

-- where some order keeps the pairs, the greedy order is the first such order
pub greedy_is_first : (n : ℕ) (P : List Pair) (base order : List ℕ) → IsOrder n base → Keeps P base → IsGreedy n P (2 ^ n - 1) order → IsFirstOrder n P order
greedy_is_first n P base order o k g =
    let each : (p : Pair) → Among p P → (p.0 < n) × (p.1 < n) × (p.0 ≢ p.1) = λ p m.
    let up = keeps_at P base k p m in
    grind (arith, above_has, above_differs) in
    let got = greedy_first n P order (2 ^ n - 1) g (full_lawful n P (λ p m. (each p m).1)) in
    let is = lawful_order n P each order (moved P (members n (2 ^ n - 1)) (variables n) order (members_full n) got.is_lawful_list) in
    record {
      is_order = is.0;
      kept = is.1;
      first = λ other p q. got.first other
          (moved P (variables n) (members n (2 ^ n - 1)) other (λ y. sym (members_full n y)) (lawful_from_order n P other p q));
    }

-- pairs of variables below n that lead nowhere back are kept by a first order
pub acyclic_kept : (n : ℕ) (P : List Pair) → AreBelow n P → ((v : ℕ) → Leads P v v → ⊥) →
    (order : List ℕ) × IsGreedy n P (2 ^ n - 1) order × IsFirstOrder n P order
acyclic_kept n P small acyclic =
    let each : (p : Pair) → Among p P → (p.0 < n) × (p.1 < n) × (p.0 ≢ p.1) = λ p m.
    let s = all_among (λ (q : Pair). (q.0 < n) × (q.1 < n)) P p (recursion_from_All (λ (q : Pair). (q.0 < n) × (q.1 < n)) P small) m in
    (s.0, s.1, λ e. acyclic p.0 (by_one (ap (has_pair P p.0) e ∙ among_pair P p m))) in
    let got = greedy P acyclic n (length (members n (2 ^ n - 1))) (2 ^ n - 1) (omega (
      arith,
      pow_pos n,
    )) refl (full_lawful n P (λ p m. (each p m).1)) in
    let is = lawful_order n P each got.0 (moved P (members n (2 ^ n - 1)) (variables n) got.0 (members_full n) got.2) in
    (got.0, got.1, greedy_is_first n P got.0 got.0 is.0 is.1 got.1)
