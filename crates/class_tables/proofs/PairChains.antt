-- Chains of pairs by lower class, and the first pair equal to each.
use Rattle.std.proofs.Common.{◌≡◌, ◌≢◌, ℕ, suc, ◌+◌, ◌<◌, ◌≤◌, inl, inr, List, length, get_or, set, refl, sym, ap, ◌∙◌, subst, arith}
use Rattle.std.proofs.lemmas.Bool.{cases_eq, cases_lt}
use Rattle.std.proofs.lemmas.List.{length-set, get_or-set_same, get_or-set_other}
use Rattle.subfunction_classes.specs.Numbering.{IsFirstOccurrence}
use Rattle.class_tables.specs.Chains.{IsNext, lower_at, upper_at}
use Rattle.subfunction_classes.specs.Places.{pair_at}

-- ---- chains

module _ (value : ℕ → ℕ) (len : ℕ) where
  -- the chains of all classes, with one more pair in front
  pub heads_more : (heads : List ℕ) (k : ℕ) → k < len → value k < length heads → ((c : ℕ) → c < length heads → IsNext value len c (suc k) (get_or heads c 0)) →
      (c : ℕ) → c < length (set heads (value k) k) → IsNext value len c k (get_or (set heads (value k) k) c 0)
  heads_more heads k small lt h c l = grind (arith, cases_eq, set, get_or-set_same, length-set, get_or-set_other)

  pub next_more : (heads next : List ℕ) (k : ℕ) → k < length next → value k < length heads →
      ((c : ℕ) → c < length heads → IsNext value len c (suc k) (get_or heads c 0)) →
      ((i : ℕ) → suc k ≤ i → i < len → IsNext value len (value i) (i + 1) (get_or next i 0)) →
      (i : ℕ) → k ≤ i → i < len → IsNext value len (value i) (i + 1) (get_or (set next k (get_or heads (value k) 0)) i 0)
  next_more heads next k small lt h n i l m = grind (arith, cases_eq, set, get_or-set_same, get_or-set_other)

-- ---- a walk along the chain of one lower class

module _ (cs : List ℕ) (step half c : ℕ) where
  -- the walk stands at place j
  pub record Walk (stamps marks first : List ℕ) (j : ℕ) : Type 0 where
    pub within : j ≤ half
    pub here : j < half → lower_at cs step j ≡ c
    pub own : (i : ℕ) → i < j → lower_at cs step i ≡ c → IsFirstOccurrence (pair_at cs step) i (get_or first i 0)
    pub stamped : (h : ℕ) → h < length stamps → get_or stamps h 0 ≤ c + 1
    pub marked : (h : ℕ) → h < length stamps → get_or stamps h 0 ≡ c + 1 →
        (get_or marks h 0 < j) × (pair_at cs step (get_or marks h 0) ≡ (c, h))
        × ((i : ℕ) → i < get_or marks h 0 → pair_at cs step i ≢ (c, h))
    pub unmarked : (h : ℕ) → h < length stamps → get_or stamps h 0 ≢ c + 1 → (i : ℕ) → i < j → pair_at cs step i ≢ (c, h)

  own_more : (first : List ℕ) (j k f : ℕ) → j < length first → IsNext (lower_at cs step) half c (j + 1) k →
      ((i : ℕ) → i < j → lower_at cs step i ≡ c → IsFirstOccurrence (pair_at cs step) i (get_or first i 0)) → IsFirstOccurrence (pair_at cs step) j f →
      (i : ℕ) → i < k → lower_at cs step i ≡ c → IsFirstOccurrence (pair_at cs step) i (get_or (set first j f) i 0)
  own_more first j k f fl n o now i l v =
      elim (cases_eq i j) [
        | inl e ↦ subst (λ z. IsFirstOccurrence (pair_at cs step) z (get_or (set first j f) z 0)) (sym e)
            (subst (IsFirstOccurrence (pair_at cs step) j) (sym (get_or-set_same first j f 0 fl)) now)
        | inr ne ↦ elim (cases_lt i j) [
          | inl a ↦ subst (IsFirstOccurrence (pair_at cs step) i) (sym (get_or-set_other first j i f 0 ne)) (o i a v)
          | inr a ↦ absurd (n.none i (omega arith) l v)
        ]
      ]

  -- where the upper class has its mark, the pair's first place is the marked one
  pub walk_again : (stamps marks first : List ℕ) (j k : ℕ) → j < half → j < length first → upper_at cs step j < length stamps →
      Walk stamps marks first j → get_or stamps (upper_at cs step j) 0 ≡ c + 1 →
      IsNext (lower_at cs step) half c (j + 1) k → Walk stamps marks (set first j (get_or marks (upper_at cs step j) 0)) k
  walk_again stamps marks first j k small fl ul w e n =
      let m = w.marked (upper_at cs step j) ul e in
      let key : pair_at cs step j ≡ (c, upper_at cs step j) = λ i. (w.here small i, upper_at cs step j) in
      let now : IsFirstOccurrence (pair_at cs step) j (get_or marks (upper_at cs step j) 0) =
      record { before = omega arith; same = m.1 ∙ sym key; none = λ i l q. m.2 i l (q ∙ key) } in
      record {
        within = n.within;
        here = n.here;
        own = own_more first j k (get_or marks (upper_at cs step j) 0) fl n w.own now;
        stamped = w.stamped;
        marked = λ h l s. let o = w.marked h l s in ((omega arith), o.1, o.2);
        unmarked = λ h l s i q. elim (cases_lt i j) [
          | inl a ↦ w.unmarked h l s i a
          | inr a ↦ elim (cases_eq i j) [
            | inl d ↦ λ t. s (subst (λ z. get_or stamps z 0 ≡ c + 1) (ap (λ u. u.1) (sym (ap (pair_at cs step) d) ∙ t)) e)
            | inr d ↦ λ t. n.none i (omega arith) q (ap (λ u. u.0) t)
          ]
        ];
      }

  -- else it is the first of its kind, and gets the mark
  pub walk_new : (stamps marks first : List ℕ) (j k : ℕ) → j < half → j < length first → upper_at cs step j < length stamps →
      length marks ≡ length stamps → Walk stamps marks first j → get_or stamps (upper_at cs step j) 0 ≢ c + 1 →
      IsNext (lower_at cs step) half c (j + 1) k → Walk (set stamps (upper_at cs step j) (c + 1)) (set marks (upper_at cs step j) j) (set first j j) k
  walk_new stamps marks first j k small fl ul ml w e n =
      let u = upper_at cs step j in
      let sl = length-set stamps u (c + 1) in
      let key : pair_at cs step j ≡ (c, u) = λ i. (w.here small i, u) in
      let now : IsFirstOccurrence (pair_at cs step) j j = record { before = omega arith; same = refl; none = λ i l q. w.unmarked u ul e i l (q ∙ key) } in
      let here_stamp : get_or (set stamps u (c + 1)) u 0 ≡ c + 1 = get_or-set_same stamps u (c + 1) 0 ul in
      let here_mark : get_or (set marks u j) u 0 ≡ j = get_or-set_same marks u j 0 (omega arith) in
      record {
        within = n.within;
        here = n.here;
        own = own_more first j k j fl n w.own now;
        stamped = λ h l. elim (cases_eq h u) [
          | inl d ↦ omega (arith, ap (λ z. get_or (set stamps u (c + 1)) z 0) d ∙ here_stamp)
          | inr d ↦ let t = get_or-set_other stamps u h (c + 1) 0 d in omega arith
        ];
        marked = λ h l s. elim (cases_eq h u) [
          | inl d ↦
              let P : ℕ → Type 0 =
              λ z. (get_or (set marks u j) z 0 < k) × (pair_at cs step (get_or (set marks u j) z 0) ≡ (c, z))
              × ((i : ℕ) → i < get_or (set marks u j) z 0 → pair_at cs step i ≢ (c, z)) in
              let Q : ℕ → Type 0 = λ z. (z < k) × (pair_at cs step z ≡ (c, u)) × ((i : ℕ) → i < z → pair_at cs step i ≢ (c, u)) in
              subst P (sym d) (subst Q (sym here_mark) ((omega arith), key, λ i q. w.unmarked u ul e i q))
          | inr d ↦
              let Q : ℕ → Type 0 = λ z. (z < k) × (pair_at cs step z ≡ (c, h)) × ((i : ℕ) → i < z → pair_at cs step i ≢ (c, h)) in
              let o = w.marked h (omega arith) (sym (get_or-set_other stamps u h (c + 1) 0 d) ∙ s) in
              subst Q (sym (get_or-set_other marks u h j 0 d)) ((omega arith), o.1, o.2)
        ];
        unmarked = λ h l s i q. elim (cases_eq h u) [
          | inl d ↦ absurd (s (ap (λ z. get_or (set stamps u (c + 1)) z 0) d ∙ here_stamp))
          | inr d ↦ elim (cases_lt i j) [
            | inl a ↦ w.unmarked h (omega arith) (λ t. s (get_or-set_other stamps u h (c + 1) 0 d ∙ t)) i a
            | inr a ↦ elim (cases_eq i j) [
              | inl g ↦ λ t. d (ap (λ z. z.1) (sym t ∙ ap (pair_at cs step) g))
              | inr g ↦ λ t. n.none i (omega arith) q (ap (λ z. z.0) t)
            ]
          ]
        ];
      }
