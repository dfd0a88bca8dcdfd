-- Numbers of the refs for pairs of children, in a table.
--     tabled_none      no pair has a node
--     known_number, new_number      a pair has one, or gets it
--     values_small, refs_small      the numbers of a level's refs
use Rattle.std.proofs.Common.{◌≡◌, ◌≢◌, ℕ, ◌+◌, ◌*◌, ◌/◌, ◌%◌, ◌<◌, ◌≤◌, inl, inr, false, cond, nat_eq, List, [], ◌∷◌, ◌++◌, length, map, get_or, set, refl, sym, ap, ap₂, ◌∙◌, arith, subst, eq-eqb, ne_eqb, length-append}
use Rattle.std.specs.List.{All, range_with_len}
use Rattle.std.proofs.lemmas.Bool.{cases_eq, cases_lt, false_from_ne_true}
use Rattle.std.proofs.lemmas.List.{get_or-set_same, get_or-set_other, get_or_append_left, get_or_at, length-map}
use Rattle.std.proofs.lemmas.List.Elements.{All-from_get_or}
use Rattle.std.proofs.lemmas.List.FromFn.{get_or-map-range_with_len}
use Rattle.std.proofs.lemmas.Option.{slice_get_within}
use Rattle.definitions.specs.Functions.{from_table}
use Rattle.definitions.specs.Levels.{reach}
use Rattle.definitions.specs.Widths.{same_pair}
use Rattle.definitions.specs.declared.refs.Node.{Node}
use Rattle.definitions.proofs.Nodes.Appended.{get_left}
use Rattle.definitions.proofs.Widths.ClassPairs.{pair_decides}
use Rattle.truth_table.specs.declared.levels.NumberedNode.{NumberedNode}
use Rattle.truth_table.specs.Assignments.{AreValuesUnder, assignments, values_at}
use Rattle.definitions.specs.Problems.{TruthTables}
use Rattle.truth_table.specs.Levels.{IsLevelAbove, IsNumberOf, IsTabled, SeeksAmong, children_from, node_over}
use Rattle.truth_table.proofs.LeafClasses.{IsLeaf, leaves_are}
use Rattle.truth_table.proofs.Lists.{zip_at}
use Rattle.truth_table.proofs.NumberedNodes.{children_long, children_push, made, node_past, place_past}
use Rattle.truth_table.proofs.PairNumbers.{get_or-pairs_of, length-pairs_of}

-- the table while no pair has a node: a pair of equal children has the child's number
abbrev pub none_at : ℕ → ℕ
none_at k = cond (nat_eq (k / 4) (k % 4)) (k / 4) 4294967295

none_of : (i j : ℕ) → i < 4 → j < 4 → none_at (4 * i + j) ≡ cond (nat_eq i j) i 4294967295
none_of i j a b =
    let row : (4 * i + j) / 4 ≡ i = omega arith in
    let place : (4 * i + j) % 4 ≡ j = omega arith in
    ap₂ (λ (p q : ℕ). cond (nat_eq p q) p 4294967295) row place

pub tabled_none : (base : ℕ) (keys : List (ℕ × ℕ)) (table : List ℕ) → keys ≡ [] → table ≡ map none_at (range_with_len 0 16) → IsTabled base keys table
tabled_none base keys table none is = record { numbered = numbered; missing = missing }
  where
    at : (i j : ℕ) → i < 4 → j < 4 → get_or table (4 * i + j) 0 ≡ cond (nat_eq i j) i 4294967295
    at i j a b = ap (λ (xs : List ℕ). get_or xs (4 * i + j) 0) is
        ∙ get_or-map-range_with_len none_at 0 16 (4 * i + j) (4 * i + j) 0 (omega arith) (omega arith) ∙ none_of i j a b

    numbered : (u : ℕ × ℕ) → u.0 < 4 → u.1 < 4 → get_or table (4 * u.0 + u.1) 0 ≢ 4294967295 → IsNumberOf base keys u (get_or table (4 * u.0 + u.1) 0)
    numbered u a b ne = elim (cases_eq u.0 u.1) [
      | inl e ↦ inl (e, at u.0 u.1 a b ∙ ap (λ z. cond z u.0 4294967295) (eq-eqb u.0 u.1 e))
      | inr d ↦ absurd (ne (at u.0 u.1 a b ∙ ap (λ z. cond z u.0 4294967295) (ne_eqb u.0 u.1 d)))
    ]

    missing : (u : ℕ × ℕ) → u.0 < 4 → u.1 < 4 → get_or table (4 * u.0 + u.1) 0 ≡ 4294967295 →
        (u.0 ≢ u.1) × ((k : ℕ) → k < length keys → same_pair u (get_or keys k (0, 0)) ≡ false)
    missing u a b gone = elim (cases_eq u.0 u.1) [
      | inl e ↦ absurd (omega (arith, a, gone, at u.0 u.1 a b ∙ ap (λ z. cond z u.0 4294967295) (eq-eqb u.0 u.1 e)))
      | inr d ↦ (d, λ k h. absurd (omega (arith, h, ap length none)))
    ]

-- the table with another number for a pair
put : (base : ℕ) (keys keys' : List (ℕ × ℕ)) (u : ℕ × ℕ) (table : List ℕ) (c : ℕ) → u.0 < 4 → u.1 < 4 → length table ≡ 16 → IsTabled base keys table →
    c ≢ 4294967295 → IsNumberOf base keys' u c → ((v : ℕ × ℕ) (b : ℕ) → IsNumberOf base keys v b → IsNumberOf base keys' v b) →
    ((v : ℕ × ℕ) → (v ≡ u → ⊥) → ((k : ℕ) → k < length keys → same_pair v (get_or keys k (0, 0)) ≡ false) →
    (k : ℕ) → k < length keys' → same_pair v (get_or keys' k (0, 0)) ≡ false) → IsTabled base keys' (set table (4 * u.0 + u.1) c)
put base keys keys' u table c low high long t some own more still = record {
  numbered = λ v a b ne. elim (cases_eq (4 * v.0 + v.1) (4 * u.0 + u.1)) [
    | inl e ↦ subst (IsNumberOf base keys' v) (sym (here v e)) (subst (λ w. IsNumberOf base keys' w c) (sym (same v a b e)) own)
    | inr d ↦ subst (IsNumberOf base keys' v) (sym (there v d)) (more v _ (t.numbered v a b (λ f. ne (there v d ∙ f))))
  ];
  missing = λ v a b gone. elim (cases_eq (4 * v.0 + v.1) (4 * u.0 + u.1)) [
    | inl e ↦ absurd (some (sym (here v e) ∙ gone))
    | inr d ↦
        let before = t.missing v a b (sym (there v d) ∙ gone) in
        (before.0, still v (λ e. d (ap (λ (w : ℕ × ℕ). 4 * w.0 + w.1) e)) before.1)
  ];
}
  where
    here : (v : ℕ × ℕ) → 4 * v.0 + v.1 ≡ 4 * u.0 + u.1 → get_or (set table (4 * u.0 + u.1) c) (4 * v.0 + v.1) 0 ≡ c
    here v e = ap (λ (k : ℕ). get_or (set table (4 * u.0 + u.1) c) k 0) e ∙ get_or-set_same table (4 * u.0 + u.1) c 0 (omega arith)

    there : (v : ℕ × ℕ) → (4 * v.0 + v.1 ≡ 4 * u.0 + u.1 → ⊥) →
        get_or (set table (4 * u.0 + u.1) c) (4 * v.0 + v.1) 0 ≡ get_or table (4 * v.0 + v.1) 0
    there v d = get_or-set_other table (4 * u.0 + u.1) (4 * v.0 + v.1) c 0 d

    same : (v : ℕ × ℕ) → v.0 < 4 → v.1 < 4 → 4 * v.0 + v.1 ≡ 4 * u.0 + u.1 → v ≡ u
    same v a b e =
        let first : v.0 ≡ u.0 = omega arith in
        let second : v.1 ≡ u.1 = omega arith in
        λ i. (first i, second i)

-- the pair has a number
pub known_number : (base x : ℕ) (u : ℕ × ℕ) (nodes : List NumberedNode) (table : List ℕ) (c : ℕ) → u.0 < 4 → u.1 < 4 → length table ≡ 16 →
    IsTabled base (children_from base nodes) table → c ≡ get_or table (4 * u.0 + u.1) 0 → c ≢ 4294967295 →
    SeeksAmong base x u nodes nodes c × IsTabled base (children_from base nodes) (set table (4 * u.0 + u.1) c)
known_number base x u nodes table c low high long t at some =
    let own : IsNumberOf base (children_from base nodes) u c =
    subst (IsNumberOf base (children_from base nodes) u) (sym at) (t.numbered u low high (λ e. some (at ∙ e))) in (
      record { number = own; once = λ d. d; more = inl (refl, refl) },
      put base (children_from base nodes) (children_from base nodes) u table c low high long t some own (λ v b h. h) (λ v d h. h),
    )

-- the pair gets the number of a new node
pub new_number : (base x : ℕ) (u : ℕ × ℕ) (nodes : List NumberedNode) (table : List ℕ) → u.0 < 4 → u.1 < 4 → length table ≡ 16 → base ≤ length nodes →
    length nodes < 2147483648 → IsTabled base (children_from base nodes) table → get_or table (4 * u.0 + u.1) 0 ≡ 4294967295 →
    SeeksAmong base x u nodes (nodes ++ made x u ∷ []) (length nodes + 2)
    × IsTabled base (children_from base (nodes ++ made x u ∷ [])) (set table (4 * u.0 + u.1) (length nodes + 2))
new_number base x u nodes table low high long h few t gone = (seeks, tabled)
  where
    keys : List (ℕ × ℕ)
    keys = children_from base nodes

    apart : (u.0 ≢ u.1) × ((k : ℕ) → k < length (children_from base nodes) → same_pair u (get_or (children_from base nodes) k (0, 0)) ≡ false)
    apart = t.missing u low high gone

    seeks : SeeksAmong base x u nodes (nodes ++ made x u ∷ []) (length nodes + 2)
    seeks =
        let e = children_long base nodes in
        node_past base x u nodes (length nodes) apart.0 h
        (place_past base (length nodes) u nodes h (omega arith) (λ k m. apart.1 k (omega (arith, e, m)))) (omega arith)

    push : children_from base (nodes ++ made x u ∷ []) ≡ children_from base nodes ++ u ∷ []
    push = children_push base nodes (made x u) h

    grown : (v : ℕ × ℕ) (b : ℕ) → IsNumberOf base (children_from base nodes) v b → IsNumberOf base (children_from base nodes ++ u ∷ []) v b
    grown v b n = elim n [
      | inl e ↦ inl e
      | inr d ↦ inr (
        d.0,
        (
          d.1.0,
          get_left (children_from base nodes) (u ∷ []) d.1.0 (slice_get_within (children_from base nodes) d.1.0 v d.1.1) ∙ d.1.1,
          d.1.2,
        ),
      )
    ]

    still : (v : ℕ × ℕ) → (v ≡ u → ⊥) →
        ((k : ℕ) → k < length (children_from base nodes) → same_pair v (get_or (children_from base nodes) k (0, 0)) ≡ false) →
        (k : ℕ) → k < length (children_from base nodes ++ u ∷ []) → same_pair v (get_or (children_from base nodes ++ u ∷ []) k (0, 0)) ≡ false
    still v d before k m = elim (cases_lt k (length (children_from base nodes))) [
      | inl lt ↦ ap (same_pair v) (get_or_append_left (children_from base nodes) (u ∷ []) (0, 0) k lt) ∙ before k lt
      | inr ge ↦
          let l = length-append (children_from base nodes) (u ∷ []) in
          ap (same_pair v) (get_or_at (children_from base nodes) u [] (0, 0) k (omega (arith, l, m, ge)))
          ∙ false_from_ne_true _ (λ e. d ((pair_decides v u).0 e))
    ]

    tabled : IsTabled base (children_from base (nodes ++ made x u ∷ [])) (set table (4 * u.0 + u.1) (length nodes + 2))
    tabled =
        let some : length nodes + 2 ≢ 4294967295 = omega (arith, few) in
        subst (λ (ks : List (ℕ × ℕ)). IsTabled base ks (set table (4 * u.0 + u.1) (length nodes + 2))) (sym push)
        (put base (children_from base nodes) (children_from base nodes ++ u ∷ []) u table (length nodes + 2) low high long t some
        (subst (λ (ks : List (ℕ × ℕ)). IsNumberOf base ks u (length nodes + 2)) push seeks.number) grown still)

-- ---- the numbers of a level

pub values_small : (t : TruthTables) (order values : List ℕ) → AreValuesUnder t order values → All (λ c. c < 2) values
values_small t order values v =
    let fs = reach (map from_table t.tables) order in
    let z = leaves_are t.inputs order v.is_order t.tables in
    subst (λ (cs : List ℕ). All (λ c. c < 2) cs) (sym v.values_are)
    (All-from_get_or (λ c. c < 2) (values_at (assignments order) t.tables) 0
    (λ k h. (zip_at (IsLeaf t.inputs) fs (values_at (assignments order) t.tables) z k (λ p. false) 0 h).1))

pub refs_small : (x : ℕ) (old : List Node) (below : List ℕ) (new : List Node) (above : List ℕ) → IsLevelAbove x old below new above →
    All (λ c. c < length old + 2) below → All (λ c. c < length new + 2) above
refs_small x old below new above m small = All-from_get_or (λ c. c < length new + 2) above 0 at
  where
    more : length new ≡ length old + length m.keys
    more = ap length m.numbered.nodes_are ∙ length-append old (map (node_over x) m.keys) ∙ ap (λ k. length old + k) (length-map m.keys (node_over x))

    at : (k : ℕ) → k < length above → get_or above k 0 < length new + 2
    at k h =
        let pairs = length-pairs_of below in
        let long = m.numbered.long in
        let inside : k < length below / 2 = omega (arith, h, pairs, long) in
        let pair = get_or-pairs_of below k inside in
        elim (m.numbered.named k (omega (arith, h, long))) [
          | inl e ↦
              let child = small (2 * k) 0 (omega (arith, inside)) in
              omega (arith, e.1, ap (λ (u : ℕ × ℕ). u.0) pair, child, more)
          | inr d ↦ omega (arith, d.1.2, more, slice_get_within m.keys d.1.0 _ d.1.1)
        ]
