-- Two adjacent levels with their variables swapped.
--     upper_level, lower_level      both are levels again
--     path_placed      a path comes to the same place below them
use Rattle.std.proofs.Common.{◌≡◌, ℕ, zero, suc, ◌*◌, ◌<◌, Bool, ◌⊎◌, inl, inr, List, [], ◌∷◌, length, set, get_or, sym, ap, ◌∙◌, subst, arith}
use Rattle.definitions.specs.Functions.{Point, bit}
use Rattle.definitions.proofs.Lists.Swaps.{crossed}
use Rattle.sifting.specs.Leveled.{Children, child, at, place_below, places, HasChildren, IsLevel, AreLevels, SwapsLevels}
use Rattle.sifting.proofs.Paths.{child_has, same_children}

module _ (upper lower upper' lower' : List Children) (below : ℕ) (ex : SwapsLevels upper lower upper' lower')
    (u : IsLevel (length lower) upper) (l : IsLevel below lower) where
  -- which of the upper level's nodes have equal children
  apart : (j k : ℕ) → j < length upper → k < length upper → at upper' j ≡ at upper' k → j ≡ k
  apart j k a b e = grind (arith, same_children)

  long : (k : ℕ) → k < length upper' → k < length upper
  long k h = let e = ex.many in omega arith

  short : (k : ℕ) → k < length upper → k < length upper'
  short k h = let e = ex.many in omega arith

  pub upper_level : IsLevel (length lower') upper'
  upper_level = record {
    inside = λ k h. ex.inside k (long k h);
    once = λ j k a b e. apart j k (long j a) (long k b) e;
    reached = λ j h. let r = ex.reached j h in (r.0, short r.0 r.1, r.2);
  }

  pub lower_level : IsLevel below lower'
  lower_level = record { inside = inside; once = ex.once; reached = λ r h. by r (l.reached r h) }
    where
      -- the children of a lower node are grandchildren of an upper one
      inside : HasChildren below lower'
      inside j h =
          let r = ex.reached j h in
          let k = r.0 in
          let i = u.inside k r.1 in
          let a = l.inside (at upper k).0 i.0 in
          let b = l.inside (at upper k).1 i.1 in
          elim r.2 [
            | inl e ↦ subst (λ (c : Children). (c.0 < below) × (c.1 < below)) (sym (ex.off k r.1) ∙ ap (at lower') e) (a.0, b.0)
            | inr e ↦ subst (λ (c : Children). (c.0 < below) × (c.1 < below)) (sym (ex.on k r.1) ∙ ap (at lower') e) (a.1, b.1)
          ]

      by : (r : ℕ) → (m : ℕ) × (m < length lower) × (((at lower m).0 ≡ r) ⊎ ((at lower m).1 ≡ r)) →
          (k : ℕ) × (k < length lower') × (((at lower' k).0 ≡ r) ⊎ ((at lower' k).1 ≡ r))
      by r f =
          let up = u.reached f.0 f.1 in
          let k = up.0 in
          let i = ex.inside k up.1 in
          let off = ex.off k up.1 in
          let on = ex.on k up.1 in
          elim f.2 [
            | inl e ↦
                elim up.2 [
                  | inl s ↦ ((at upper' k).0, i.0, inl (ap (λ (c : Children). c.0) off ∙ ap (λ m. (at lower m).0) s ∙ e))
                  | inr s ↦ ((at upper' k).0, i.0, inr (ap (λ (c : Children). c.1) off ∙ ap (λ m. (at lower m).0) s ∙ e))
                ]
            | inr e ↦
                elim up.2 [
                  | inl s ↦ ((at upper' k).1, i.1, inl (ap (λ (c : Children). c.0) on ∙ ap (λ m. (at lower m).1) s ∙ e))
                  | inr s ↦ ((at upper' k).1, i.1, inr (ap (λ (c : Children). c.1) on ∙ ap (λ m. (at lower m).1) s ∙ e))
                ]
          ]

-- the grandchild that two values of the variables take
grandchild : (upper lower upper' lower' : List Children) → SwapsLevels upper lower upper' lower' → (k : ℕ) → k < length upper → (b c : Bool) →
    child b (at lower' (child c (at upper' k))) ≡ child c (at lower (child b (at upper k)))
grandchild upper lower upper' lower' h k l b c = grind arith

-- the levels with those at i and i + 1 swapped
pub record At (levels : List (List Children)) (i : ℕ) (upper lower : List Children) : Type 0 where
  pub upper_is : get_or levels i [] ≡ upper
  pub lower_is : get_or levels (suc i) [] ≡ lower
  pub inside : suc i < length levels

abbrev pub placed : List (List Children) → ℕ → List Children → List Children → List (List Children)
placed levels i upper' lower' = set (set levels i upper') (suc i) lower'

module _ (T : List Bool) (upper lower upper' lower' : List Children) (ex : SwapsLevels upper lower upper' lower') where
  pub places_placed : (levels : List (List Children)) (i : ℕ) → At levels i upper lower → places (placed levels i upper' lower') T ≡ places levels T
  places_placed levels i h = grind arith

  pub levels_placed : (most : ℕ) (levels : List (List Children)) (i : ℕ) → At levels i upper lower → AreLevels most T levels →
      AreLevels most T (placed levels i upper' lower')
  levels_placed most [] i a ok = ok
  levels_placed most (L ∷ []) i a ok = absurd (let h = a.inside in omega arith)
  levels_placed most (L ∷ M ∷ levels) zero a ok =
      let u = subst (λ N. IsLevel (length N) upper) a.lower_is (subst (IsLevel (length M)) a.upper_is ok.0) in
      let l = subst (IsLevel (places levels T)) a.lower_is ok.2.0 in
      let e = ex.many in
      let s = ap length a.upper_is in
      let f = ex.few in
      let m = ok.1 in (
        upper_level upper lower upper' lower' (places levels T) ex u l,
        omega arith,
        (lower_level upper lower upper' lower' (places levels T) ex u l, omega arith, ok.2.2),
      )
  levels_placed most (L ∷ M ∷ levels) (suc i) a ok =
      let below : At (M ∷ levels) i upper lower = record { upper_is = a.upper_is; lower_is = a.lower_is; inside = let h = a.inside in omega arith } in
      (subst (λ m. IsLevel m L) (sym (places_placed (M ∷ levels) i below)) ok.0, ok.1, levels_placed (2 * most) (M ∷ levels) i below ok.2)

  pub path_placed : (most : ℕ) (levels : List (List Children)) (i : ℕ) (order : List ℕ) (k : ℕ) (p : Point) → At levels i upper lower →
      AreLevels most T levels → length levels ≡ length order → k < places levels T →
      place_below (placed levels i upper' lower') (crossed order i) k p ≡ place_below levels order k p
  unfolding place_below
  path_placed most [] i order k p a ok e h = absurd (let h = a.inside in omega arith)
  path_placed most (L ∷ []) i order k p a ok e h = absurd (let h = a.inside in omega arith)
  path_placed most (L ∷ M ∷ levels) i [] k p a ok e h = absurd (omega arith)
  path_placed most (L ∷ M ∷ levels) i (x ∷ []) k p a ok e h = absurd (omega arith)
  path_placed most (L ∷ M ∷ levels) zero (x ∷ y ∷ order) k p a ok e h = grind (arith, grandchild)
  path_placed most (L ∷ M ∷ levels) (suc i) (x ∷ y ∷ order) k p a ok e h =
      let below : At (M ∷ levels) i upper lower = record { upper_is = a.upper_is; lower_is = a.lower_is; inside = let h = a.inside in omega arith } in
      let c = ok.0.inside k h in
      path_placed (2 * most) (M ∷ levels) i (y ∷ order) (child (bit p x) (at L k)) p below ok.2 (omega arith)
      (child_has (λ j. j < length M) (bit p x) (at L k) c.0 c.1)
