-- The edges that are judged, from the marks of sets.
--     marked_start, marked_more, marked_same, marked_next, marked_all      one edge more is marked, or none, up to all
--     edges_member      a judged variable is a member
--     first_same      the first edge with one fact is the first with another that holds of the same edges
--     fails_applies, applies_fails      a judged edge fails where the reason applies
use Rattle.std.proofs.Common.{◌≡◌, ◌≢◌, ℕ, zero, suc, ◌+◌, ◌-◌, ◌*◌, ◌%◌, ◌^◌, ◌<◌, ◌⊎◌, Bool, true, false, inl, inr, List, [], ◌∷◌, length, get_or, set, slice_index, Option, Some, None, nat_eq, eq-eqb, eqb-true, bit_or, w16, refl, sym, ap, ◌∙◌, subst, arith}
use Rattle.std.specs.Int.{bit_at}
use Rattle.std.specs.List.{Contains, list_any}
use Rattle.std.proofs.lemmas.Bool.{cases_eq, cases_lt, and_parts, and_from, or_cases, or_left, or_right}
use Rattle.std.proofs.lemmas.Nat.Bits.{bit_at-zero, bit_at_set_same, bit_at_set_other}
use Rattle.std.proofs.lemmas.List.{get_or-set_same, get_or-set_other, length-set}
use Rattle.definitions.specs.Functions.{Function}
use Rattle.definitions.specs.Orders.{has, members}
use Rattle.definitions.specs.Pairs.{Pair, is_lawful}
use Rattle.definitions.specs.Certificates.{Certificate, Cell, Applies}
use Rattle.definitions.specs.Certificates.Reason.{Edge}
use Rattle.definitions.proofs.Bits.Masks.{mask_with, members_small, members_without}
use Rattle.definitions.proofs.Widths.Recurrence.{absent_without}
use Rattle.definitions.proofs.Precedence.Lists.{lawful_same}
use Rattle.edge_walks.specs.Edges.{EdgeFails, IsFirstEdge, AreJudged}
use Rattle.edge_walks.specs.Marks.{AreValues, AreSources, AreEdges, AreMarked, IsEdgeInto}
use Rattle.edge_walks.proofs.FirstEdges.{past_end}
use Rattle.edge_walks.proofs.IntoSet.{bit_needs}

module _ (n : ℕ) (P : List Pair) (values : List ℕ) (sources : List Bool) where
  -- an edge leads into a set with one more variable
  from_with : (T x : ℕ) → IsEdgeInto n P values sources T x → T - 2 ^ x + 2 ^ x ≡ T
  from_with T x e = omega (arith, bit_needs n T x e.member)

  module _ (S x : ℕ) where
    -- an edge from a set by a variable that it lacks
    pub edge_from : S < 2 ^ n → x < n → has (members n S) x ≡ false → slice_index values S < slice_index values (S + 2 ^ x) →
        is_lawful P (members n (S + 2 ^ x)) ≡ true → get_or sources S false ≡ true → IsEdgeInto n P values sources (S + 2 ^ x) x
    edge_from less small lacks rises lawful listed =
        let w = mask_with n S x less small lacks in
        let back : S + 2 ^ x - 2 ^ x ≡ S = omega arith in
        record {
          member = w.1 x ∙ or_left (nat_eq x x) (has (members n S) x) (eq-eqb x x refl);
          lawful = lawful;
          from = ap (λ k. get_or sources k false) back ∙ listed;
          rises = subst (λ k. slice_index values k < slice_index values (S + 2 ^ x)) (sym back) rises;
        }

    -- none if it is not listed and lawful
    pub no_listing : get_or sources S false ≡ false → (T : ℕ) → IsEdgeInto n P values sources T x → T - 2 ^ x ≡ S → ⊥
    no_listing unlisted T e at = let z : true ≡ false = sym e.from ∙ ap (λ k. get_or sources k false) at ∙ unlisted in cc

    -- none by one that it has
    pub no_edge_by : has (members n S) x ≡ true → (T : ℕ) → IsEdgeInto n P values sources T x → T - 2 ^ x ≡ S → ⊥
    no_edge_by there T e at =
        let z : false ≡ true = sym (sym (ap (λ k. has (members n k) x) at) ∙ members_without n T x e.member x ∙ absent_without x (members n T)) ∙ there in
        cc

    -- none to a set of no greater value, or an unlawful one
    pub no_rise : (slice_index values S < slice_index values (S + 2 ^ x) → ⊥) → (T : ℕ) → IsEdgeInto n P values sources T x → T - 2 ^ x ≡ S → ⊥
    no_rise flat T e at = flat (subst (λ k. slice_index values S < slice_index values k) (sym (from_with T x e) ∙ ap (λ k. k + 2 ^ x) at)
        (subst (λ k. slice_index values k < slice_index values T) at e.rises))

    pub no_law : is_lawful P (members n (S + 2 ^ x)) ≡ false → (T : ℕ) → IsEdgeInto n P values sources T x → T - 2 ^ x ≡ S → ⊥
    no_law unlawful T e at =
        let z : true ≡ false = sym (sym (ap (λ k. is_lawful P (members n k)) (sym (from_with T x e) ∙ ap (λ k. k + 2 ^ x) at)) ∙ e.lawful) ∙ unlawful in
        cc

  pub marked_start : (judged : List ℕ) → length judged ≡ 2 ^ n → ((T : ℕ) → slice_index judged T ≡ 0) → AreMarked n P values sources 0 0 judged
  marked_start judged long none = record {
    long = long;
    only = λ T y o. absurd (omega (arith, ap (λ k. bit_at k y) (none T) ∙ bit_at-zero y));
    all = λ T y l e before. absurd (elim before [ inl less ↦ let z : ⊥ = omega (arith, less) in z | inr at ↦ let z : ⊥ = omega (arith, at.1) in z ]);
  }

  module _ (x S : ℕ) (judged : List ℕ) (are : AreMarked n P values sources x S judged) where
    pub marked_more : x < 16 → S + 2 ^ x < 2 ^ n → IsEdgeInto n P values sources (S + 2 ^ x) x →
        AreMarked n P values sources x (S + 1) (set judged (S + 2 ^ x) (bit_or (slice_index judged (S + 2 ^ x)) (1 * 2 ^ x % 65536)))
    marked_more small inside edge = record {
      long = length-set judged U mask ∙ are.long;
      only = λ T y o. elim (cases_eq T U) [
        | inl here ↦ elim (cases_eq y x) [
          | inl by ↦ subst (λ t. IsEdgeInto n P values sources t y) (sym here) (subst (IsEdgeInto n P values sources U) (sym by) edge)
          | inr by ↦ are.only T y (ap (λ t. bit_at (slice_index judged t) y) here ∙ sym (bit_at_set_other w16 (slice_index judged U) x small y by)
              ∙ sym (ap (λ k. bit_at k y) own) ∙ sym (ap (λ t. bit_at (slice_index (set judged U mask) t) y) here) ∙ o)
        ]
        | inr other ↦ are.only T y (sym (ap (λ k. bit_at k y) (get_or-set_other judged U T mask 0 other)) ∙ o)
      ];
      all = λ T y less e before. elim (cases_eq T U) [
        | inl here ↦ ap (λ t. bit_at (slice_index (set judged U mask) t) y) here ∙ ap (λ k. bit_at k y) own ∙ elim (cases_eq y x) [
          | inl by ↦ ap (bit_at mask) by ∙ bit_at_set_same w16 (slice_index judged U) x small
          | inr by ↦ bit_at_set_other w16 (slice_index judged U) x small y by ∙ ap (λ t. bit_at (slice_index judged t) y) (sym here)
              ∙ are.all T y less e (earlier T y before by)
        ]
        | inr other ↦ ap (λ k. bit_at k y) (get_or-set_other judged U T mask 0 other) ∙ elim (cases_eq y x) [
          | inl by ↦ are.all T y less e (sooner T y e before by other)
          | inr by ↦ are.all T y less e (earlier T y before by)
        ]
      ];
    }
      where
        U : ℕ
        U = S + 2 ^ x

        mask : ℕ
        mask = bit_or (slice_index judged U) (1 * 2 ^ x % 65536)

        own : slice_index (set judged U mask) U ≡ mask
        own = get_or-set_same judged U mask 0 (omega (arith, are.long))

        earlier : (T y : ℕ) → (y < x) ⊎ ((y ≡ x) × (T - 2 ^ y < S + 1)) → y ≢ x → (y < x) ⊎ ((y ≡ x) × (T - 2 ^ y < S))
        earlier T y before by = grind arith

        sooner : (T y : ℕ) → IsEdgeInto n P values sources T y → (y < x) ⊎ ((y ≡ x) × (T - 2 ^ y < S + 1)) → y ≡ x → T ≢ U →
            (y < x) ⊎ ((y ≡ x) × (T - 2 ^ y < S))
        sooner T y e before by other = elim before [
          | inl less ↦ inl less
          | inr at ↦ elim (cases_eq (T - 2 ^ y) S) [
            | inl is ↦ absurd (other (sym (from_with T y e) ∙ ap (λ k. k + 2 ^ y) is ∙ ap (λ k. S + 2 ^ k) by))
            | inr ne ↦ inr (by, omega (arith, at.1))
          ]
        ]

    -- no edge from the set
    pub marked_same : ((T : ℕ) → IsEdgeInto n P values sources T x → T - 2 ^ x ≡ S → ⊥) → AreMarked n P values sources x (S + 1) judged
    marked_same never = grind (arith, cases_eq)

  -- all edges by a variable
  pub marked_next : (x : ℕ) (judged : List ℕ) → AreMarked n P values sources x (2 ^ n) judged → AreMarked n P values sources (x + 1) 0 judged
  marked_next x judged are = record {
    long = are.long;
    only = are.only;
    all = λ T y less e before. are.all T y less e (grind (arith, cases_eq));
  }

  pub marked_all : (judged : List ℕ) → AreMarked n P values sources n 0 judged → AreEdges n P values sources judged
  marked_all judged are = record {
    long = are.long;
    each = λ T l. record { only = are.only T; all = λ y e. are.all T y l e (inl (members_small n T y e.member)) };
  }

-- a judged variable is a member
pub edges_member : (n : ℕ) (P : List Pair) (values : List ℕ) (sources : List Bool) (edges : List ℕ) → AreEdges n P values sources edges → AreJudged n edges
edges_member n P values sources edges h T x o = grind (arith, cases_lt, past_end, bit_at-zero)

-- the first edge with one fact is the first with another that holds of the same edges
pub first_same : (P Q : ℕ → ℕ → Type 0) (a : Option (ℕ × ℕ)) → ((S x : ℕ) → P S x → Q S x) → ((S x : ℕ) → Q S x → P S x) → IsFirstEdge P a → IsFirstEdge Q a
first_same P Q None f g h = λ S x q. h S x (g S x q)
first_same P Q (Some a) f g h = (f a.0 a.1 h.0, λ S x q. h.1 S x (g S x q))

-- whether some listed set has a mask
listed_some : (cells : List Cell) (S : ℕ) → list_any (λ (c : Cell). nat_eq c.mask S) cells ≡ true → (c : Cell) × Contains cells c × (c.mask ≡ S)
listed_some [] S h = absurd cc
listed_some (d ∷ cells) S h = elim (or_cases (nat_eq d.mask S) (list_any (λ (c : Cell). nat_eq c.mask S) cells) h) [
  | inl e ↦ (d, (0, omega arith, refl), eqb-true d.mask S e)
  | inr r ↦ let s = listed_some cells S r in (s.0, Contains-cons d cells s.0 s.1, s.2)
]
  where
    Contains-cons : (d : Cell) (cells : List Cell) (c : Cell) → Contains cells c → Contains (d ∷ cells) c
    Contains-cons d cells c at = (suc at.0, omega arith, at.2)

listed_from : (cells : List Cell) (k : ℕ) (c : Cell) → k < length cells → get_or cells k c ≡ c → list_any (λ (d : Cell). nat_eq d.mask c.mask) cells ≡ true
listed_from [] k c l e = absurd (omega arith)
listed_from (d ∷ cells) zero c l e = grind (arith, or_left, eq-eqb)
listed_from (d ∷ cells) (suc k) c l e =
    or_right (nat_eq d.mask c.mask) (list_any (λ (d : Cell). nat_eq d.mask c.mask) cells) (listed_from cells k c (omega arith) e)

module _ (n : ℕ) (F : List Function) (cert : Certificate) (values : List ℕ) (sources : List Bool) (edges : List ℕ)
    (are : AreValues n F cert values) (open_sets : AreSources n cert sources) (into : AreEdges n cert.pairs values sources edges)
    (small : (c : Cell) → Contains cert.cells c → c.mask < 2 ^ n) where
  -- a judged edge that fails is a reason
  pub fails_applies : (S x : ℕ) → EdgeFails n F values edges S x → Applies n F cert (Edge S x)
  fails_applies S x f =
      let T = S + 2 ^ x in
      let inside : T < 2 ^ n = (elim (cases_lt T (2 ^ n)) [
        | inl l ↦ l
        | inr ge ↦ absurd (omega (arith, ap (λ k. bit_at k x) (past_end edges T (omega arith)) ∙ bit_at-zero x))
      ]) in
      let e = (into.each T inside).only x f.is_judged in
      let both = and_parts (list_any (λ (c : Cell). nat_eq c.mask S) cert.cells) (is_lawful cert.pairs (members n S))
      (sym (open_sets.each S (omega arith)) ∙ ap (λ k. get_or sources k false) (sym (omega arith)) ∙ e.from) in
      let s = listed_some cert.cells S both.0 in
      let w = mask_with n S x (omega arith) f.small f.new in
      (s.0, s.1, s.2, f.small, f.new, (both.1, sym (lawful_same cert.pairs (members n T) (x ∷ members n S) w.1) ∙ e.lawful), omega arith)

  -- a reason is a judged edge that fails
  pub applies_fails : (S x : ℕ) → Applies n F cert (Edge S x) → EdgeFails n F values edges S x
  applies_fails S x (c, at, is, less, new, lawful, lt) =
      let T = S + 2 ^ x in
      let w = mask_with n S x (omega arith) less new in
      let back : T - 2 ^ x ≡ S = omega arith in
      let there : list_any (λ (d : Cell). nat_eq d.mask S) cert.cells ≡ true =
      subst (λ k. list_any (λ (d : Cell). nat_eq d.mask k) cert.cells ≡ true) is (listed_from cert.cells at.0 c at.1 at.2) in
      let from : get_or sources (T - 2 ^ x) false ≡ true = ap (λ k. get_or sources k false) back ∙ open_sets.each S (omega arith)
      ∙ and_from _ _ there lawful.0 in
      let member : has (members n T) x ≡ true = w.1 x ∙ or_left (nat_eq x x) (has (members n S) x) (eq-eqb x x refl) in
      let v = ap (slice_index values) back in
      record {
        small = less;
        new = new;
        is_judged =
            (into.each T w.0).all x
            (record {
              member = member;
              lawful = lawful_same cert.pairs (members n T) (x ∷ members n S) w.1
                  ∙ lawful.1;
              from = from;
              rises = omega arith;
            });
        fails = omega arith;
      }
