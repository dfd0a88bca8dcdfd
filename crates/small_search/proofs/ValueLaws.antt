-- Laws of values.
--     AreFresh n S      each variable of S is below n and not among those behind it
--     value_small      a value is below the number of all values
--     joined, joined_apart      two values as one, and that it tells them
--     joined_small, low_half, high_half      a joined value is below the number of all; its two halves of a joined value
--     values_more      the values with one more variable are the joined pairs of values
--     pair_among      the values of a pair are among the values
--     length_values      they are as many as the class numbers
--     AreTold n F S, told      classes are told apart by values, and what functions depend on is told by them
use Rattle.std.proofs.Common.{◌≡◌, ℕ, zero, suc, ◌+◌, ◌*◌, ◌/◌, ◌%◌, ◌^◌, ◌<◌, Bool, true, false, not, cond, inl, inr, List, [], ◌∷◌, map, length, reverse, get_or, set, refl, sym, ap, ap₂, ◌∙◌, subst, arith, nat_eq, bit_or, eqb-true, eq-eqb}
use Rattle.std.specs.List.{filter, range_with_len}
use Rattle.std.proofs.lemmas.Nat.{pow_pos, pow-add, div-mul-add, mod-mul-add}
use Rattle.std.proofs.lemmas.List.{length-map, length-set}
use Rattle.definitions.specs.Functions.{Function, SameFunction, restrict, table, same_table, depends, point_of, weight}
use Rattle.definitions.specs.Orders.{has, mask_of, variables}
use Rattle.definitions.specs.Levels.{reach}
use Rattle.definitions.specs.Widths.{outside, entries, class_of, class_numbers, class_pair}
use Rattle.definitions.proofs.Functions.Tables.{same_table_decides, depends_same, depends_false}
use Rattle.definitions.proofs.Lists.Maps.{map_same}
use Rattle.definitions.proofs.Lists.Orders.{same_bool}
use Rattle.definitions.proofs.Lists.Sets.{Among, among_map, among_from_map, nat_decides}
use Rattle.definitions.proofs.Widths.ClassPairs.{depends_by_classes, rank_apart}
use Rattle.subfunction_classes.specs.Dependence.{dependence, support}
use Rattle.subfunction_classes.specs.Numbering.{rank, ranks}
use Rattle.subfunction_classes.specs.Places.{pairs, pair_at, low_place}
use Rattle.subfunction_classes.proofs.Compaction.{step_of, pairs_told, pairs_of_classes, numbers_told, tell_class, counted, lows, class_pair_same, told_apart, tops, length_numbers}
use Rattle.subfunction_classes.proofs.Constants.{reached_constant, tables_as_values, outside_none}
use Rattle.subfunction_classes.proofs.CountedWidths.{same_at}
use Rattle.subfunction_classes.proofs.DependenceMasks.{dependence_joined}
use Rattle.subfunction_classes.proofs.Index.{pair_within}
use Rattle.subfunction_classes.proofs.RankLaws.{ranks_alike}
use mathlib.Core.List.{map-map}
use Rattle.small_search.specs.Values.{size_of, value_over, values, mask_over}

abbrev pub AreFresh : ℕ → List ℕ → Type 0
AreFresh n [] = Unit {0}
AreFresh n (x ∷ S) = (x < n) × (has S x ≡ false) × AreFresh n S

weight_small : (b : Bool) → weight b < 2
weight_small true = omega arith
weight_small false = omega arith

-- as many values over one more variable as pairs of values
pub size_more : (x : ℕ) (S : List ℕ) → size_of (x ∷ S) ≡ size_of S * size_of S
size_more x S =
    ap (λ k. 2 ^ k) (ap (λ k. 2 ^ k) (let e : suc (length S) ≡ 1 + length S = omega arith in e) ∙ pow-add 2 1 (length S)
    ∙ (let e : 2 ^ 1 * 2 ^ length S ≡ 2 ^ length S + 2 ^ length S = omega arith in e))
    ∙ pow-add 2 (2 ^ length S) (2 ^ length S)

pub joined_small : (a b c : ℕ) → a < c → b < c → a + b * c < c * c
joined_small a b c l m = grind arith

pub value_small : (n : ℕ) (S : List ℕ) (g : Function) → value_over n S g < size_of S
unfolding value_over
value_small n [] g = weight_small (g (point_of n 0))
value_small n (x ∷ S) g =
    subst (λ s. value_over n S (restrict x false g) + value_over n S (restrict x true g) * size_of S < s) (sym (size_more x S))
    (joined_small _ _ (size_of S) (value_small n S (restrict x false g)) (value_small n S (restrict x true g)))

pub low_half : (a b c : ℕ) → a < c → (a + b * c) % c ≡ a
low_half a b c l = ap (λ k. k % c) (let e : a + b * c ≡ b * c + a = omega arith in e) ∙ mod-mul-add b c a l

pub high_half : (a b c : ℕ) → a < c → (a + b * c) / c ≡ b
high_half a b c l = ap (λ k. k / c) (let e : a + b * c ≡ b * c + a = omega arith in e) ∙ div-mul-add b c a l

pub joined_apart : (a b d e c : ℕ) → a < c → d < c → a + b * c ≡ d + e * c → (a ≡ d) × (b ≡ e)
joined_apart a b d e c l m h = (
  sym (low_half a b c l) ∙ ap (λ k. k % c) h ∙ low_half d e c m,
  sym (high_half a b c l) ∙ ap (λ k. k / c) h ∙ high_half d e c m,
)

-- both values of a pair, joined
abbrev pub joined : ℕ → ℕ × ℕ → ℕ
joined c p = p.0 + p.1 * c

module _ (n : ℕ) (F : List Function) (S : List ℕ) (x : ℕ) (small : x < n) (new : has S x ≡ false) where
  pub values_more : values n F (x ∷ S) ≡ map (joined (size_of S)) (pairs (values n F S) (step_of S x))
  unfolding values value_over
  values_more =
      sym (ap (map (joined (size_of S))) (pairs_told n S x small new F (value_over n S))
      ∙ map-map (joined (size_of S)) (λ g. (value_over n S (restrict x false g), value_over n S (restrict x true g))) (reach F (reverse (outside n (x ∷ S)))))

  pub length_values : length (values n F S) ≡ length (tops n S x small new F) * (2 * step_of S x)
  unfolding values
  length_values =
      length-map (reach F (reverse (outside n S))) (value_over n S)
      ∙ sym (length-map (reach F (reverse (outside n S))) (tell_class n S x small new F))
      ∙ ap length (sym (numbers_told n S x small new F))
      ∙ length_numbers n S x small new F

pub record AreTold (n : ℕ) (F : List Function) (S : List ℕ) : Type 0 where
  pub classes : class_numbers n F S ≡ ranks nat_eq (values n F S)
  pub masks : map (mask_over S) (values n F S) ≡ map (dependence n) (reach F (reverse (outside n S)))
  pub apart : (g h : Function) → Among g (reach F (reverse (outside n S))) → Among h (reach F (reverse (outside n S))) →
      (value_over n S g ≡ value_over n S h → table n g ≡ table n h) × (table n g ≡ table n h → value_over n S g ≡ value_over n S h)

-- classes are told apart if functions are
numbered_alike : (n : ℕ) (F : List Function) (S : List ℕ) →
    ((g h : Function) → Among g (reach F (reverse (outside n S))) → Among h (reach F (reverse (outside n S))) →
    (value_over n S g ≡ value_over n S h → table n g ≡ table n h) × (table n g ≡ table n h → value_over n S g ≡ value_over n S h)) →
    class_numbers n F S ≡ ranks nat_eq (values n F S)
unfolding class_numbers class_of entries ranks rank values
numbered_alike n F S apart =
    sym (ranks_alike nat_eq nat_decides same_table same_table_decides (value_over n S) (table n) (reach F (reverse (outside n S))) apart)

-- ---- the empty set

weight_apart : (a b : Bool) → weight a ≡ weight b → a ≡ b
weight_apart true true e = refl
weight_apart true false e = absurd (omega arith)
weight_apart false true e = absurd (omega arith)
weight_apart false false e = refl

-- a constant depends on nothing
constant_mask : (n : ℕ) (F : List Function) (g : Function) → Among g (reach F (reverse (variables n))) → dependence n g ≡ 0
unfolding dependence support mask_of SameFunction restrict
constant_mask n F g a = ap mask_of (none (variables n))
  where
    same : (x : ℕ) → SameFunction n (restrict x false g) (restrict x true g)
    same x p l = reached_constant n F g a (set p x false) (length-set p x false ∙ l) ∙ sym (reached_constant n F g a (set p x true) (length-set p x true ∙ l))

    none : (xs : List ℕ) → filter (λ y. depends n g y) xs ≡ []
    none [] = refl
    none (x ∷ xs) = ap₂ (λ b zs. cond b (x ∷ zs) zs) (depends_false n g x (same x)) (none xs)

module _ (n : ℕ) (F : List Function) where
  at_none : (g : Function) → Among g (reach F (reverse (outside n []))) → Among g (reach F (reverse (variables n)))
  at_none g a = subst (λ o. Among g (reach F (reverse o))) (outside_none n) a

  apart_none : (g h : Function) → Among g (reach F (reverse (outside n []))) → Among h (reach F (reverse (outside n []))) →
      (value_over n [] g ≡ value_over n [] h → table n g ≡ table n h) × (table n g ≡ table n h → value_over n [] g ≡ value_over n [] h)
  unfolding value_over
  apart_none g h a b =
      let t = tables_as_values n F g h (at_none g a) (at_none h b) in (
        λ e. t.1 (weight_apart _ _ e),
        λ e. ap weight (t.0 e),
      )

  masks_none : map (mask_over []) (values n F []) ≡ map (dependence n) (reach F (reverse (outside n [])))
  unfolding values mask_over
  masks_none = map-map (mask_over []) (value_over n []) (reach F (reverse (outside n []))) ∙ all (reach F (reverse (outside n []))) (λ g a. a)
    where
      all : (gs : List Function) → ((g : Function) → Among g gs → Among g (reach F (reverse (outside n [])))) →
          map (λ g. mask_over [] (value_over n [] g)) gs ≡ map (dependence n) gs
      all [] w = refl
      all (g ∷ gs) w = λ i. sym (constant_mask n F g (at_none g (w g (inl refl)))) i ∷ all gs (λ h b. w h (inr b)) i

  told_none : AreTold n F []
  told_none = record { classes = numbered_alike n F [] apart_none; masks = masks_none; apart = apart_none }

-- ---- one variable more

among_get : (xs : List ℕ) (j : ℕ) → j < length xs → Among (get_or xs j 0) xs
among_get [] j k = absurd (omega arith)
among_get (y ∷ xs) zero k = inl refl
among_get (y ∷ xs) (suc j) k = inr (among_get xs j (omega arith))

among_range : (a k j : ℕ) → Among j (range_with_len a k) → j < a + k
among_range a zero j h = absurd h
among_range a (suc k) j h = elim h [ inl e ↦ omega (arith, e) | inr r ↦ let l = among_range (a + 1) k j r in omega arith ]

-- both values of a pair are among the values
pub pair_among : (vs : List ℕ) (step blocks : ℕ) → 0 < step → length vs ≡ blocks * (2 * step) → (p : ℕ × ℕ) → Among p (pairs vs step) →
    Among p.0 vs × Among p.1 vs
unfolding pairs
pair_among vs step blocks some whole p a =
    let s = among_from_map (pair_at vs step) p (range_with_len 0 (length vs / 2)) a in
    let l = among_range 0 (length vs / 2) s.0 s.1 in
    let w = pair_within step blocks (length vs) s.0 some whole (omega arith) in (
      subst (λ (q : ℕ × ℕ). Among q.0 vs) (sym s.2) (among_get vs (low_place step s.0) (omega arith)),
      subst (λ (q : ℕ × ℕ). Among q.1 vs) (sym s.2) (among_get vs (low_place step s.0 + step) w),
    )

module _ (n : ℕ) (F : List Function) (S : List ℕ) (x : ℕ) (small : x < n) (new : has S x ≡ false) (told : AreTold n F S) where
  R : List Function
  R = reach F (reverse (outside n (x ∷ S)))

  vs : List ℕ
  vs = values n F S

  low : Function → ℕ
  low g = value_over n S (restrict x false g)

  high : Function → ℕ
  high g = value_over n S (restrict x true g)

  halves : Function → ℕ × ℕ
  halves g = (low g, high g)

  number : ℕ → ℕ
  number v = rank nat_eq vs v

  numbers : Function → ℕ × ℕ
  numbers g = (number (low g), number (high g))

  class_pairs : map (class_pair n F S x) R ≡ map numbers R
  unfolding R vs low high number numbers ranks values
  class_pairs =
      sym (pairs_of_classes n S x small new F)
      ∙ ap (λ us. pairs us (step_of S x)) (told.classes ∙ map-map (rank nat_eq (values n F S)) (value_over n S) (reach F (reverse (outside n S))))
      ∙ pairs_told n S x small new F (λ h. rank nat_eq (values n F S) (value_over n S h))

  class_at : (g : Function) → Among g R → class_pair n F S x g ≡ numbers g
  class_at g a = same_at (class_pair n F S x) numbers R class_pairs g a

  halves_among : (g : Function) → Among g R → Among (low g) vs × Among (high g) vs
  unfolding R vs low high halves values step_of
  halves_among g a =
      pair_among (values n F S) (step_of S x) (length (tops n S x small new F)) (pow_pos (length (reverse (lows S x))))
      (length_values n F S x small new) (halves g)
      (subst (Among (halves g)) (sym (pairs_told n S x small new F (value_over n S))) (among_map halves g (reach F (reverse (outside n (x ∷ S)))) a))

  number_apart : (u v : ℕ) → Among u vs → Among v vs → number u ≡ number v → u ≡ v
  unfolding number rank
  number_apart u v a b e = rank_apart nat_eq nat_decides vs u v a b e

  apart_more : (g h : Function) → Among g R → Among h R →
      (value_over n (x ∷ S) g ≡ value_over n (x ∷ S) h → table n g ≡ table n h) × (table n g ≡ table n h → value_over n (x ∷ S) g ≡ value_over n (x ∷ S) h)
  unfolding R low high numbers value_over
  apart_more g h a b =
      let t = told_apart n S x small new F g h a b in
      let c = class_at g a in
      let d = class_at h b in (
        λ e. let j = joined_apart (low g) (high g) (low h) (high h) (size_of S) (value_small n S (restrict x false g))
            (value_small n S (restrict x false h)) e in
            t.0 (c ∙ ap₂ (λ u v. (number u, number v)) j.0 j.1 ∙ sym d),
        λ e. let k = sym c ∙ t.1 e ∙ d in
            let p = halves_among g a in
            let q = halves_among h b in
            ap₂ (λ u v. u + v * size_of S) (number_apart (low g) (low h) p.0 q.0 (ap (λ r. r.0) k))
            (number_apart (high g) (high h) p.1 q.1 (ap (λ r. r.1) k)),
      )

  -- ---- masks

  told_masks : map (λ h. mask_over S (value_over n S h)) (reach F (reverse (outside n S))) ≡ map (dependence n) (reach F (reverse (outside n S)))
  unfolding values
  told_masks = sym (map-map (mask_over S) (value_over n S) (reach F (reverse (outside n S)))) ∙ told.masks

  mask_pair : Function → ℕ × ℕ
  mask_pair g = (mask_over S (low g), mask_over S (high g))

  dependence_pair : Function → ℕ × ℕ
  dependence_pair g = (dependence n (restrict x false g), dependence n (restrict x true g))

  half_masks : map mask_pair R ≡ map dependence_pair R
  unfolding R low high mask_pair dependence_pair
  half_masks =
      sym (pairs_told n S x small new F (λ h. mask_over S (value_over n S h))) ∙ ap (λ us. pairs us (step_of S x)) told_masks
      ∙ pairs_told n S x small new F (dependence n)

  depends_at : (g : Function) → Among g R → depends n g x ≡ not (nat_eq (low g) (high g))
  unfolding R numbers
  depends_at g a =
      let k = counted n S x small new F g a in
      let p = halves_among g a in
      depends_same n g k.0 x k.2 ∙ depends_by_classes n F S x small new k.0 k.1
      ∙ ap (λ q. not (nat_eq q.0 q.1)) (sym (class_pair_same n S x small new F g k.0 k.2) ∙ class_at g a)
      ∙ ap not (same_bool (nat_eq (number (low g)) (number (high g))) (nat_eq (low g) (high g))
      (λ e. eq-eqb (low g) (high g) (number_apart (low g) (high g) p.0 p.1 (eqb-true _ _ e)))
      (λ e. eq-eqb _ _ (ap number (eqb-true (low g) (high g) e))))

  mask_at : (g : Function) → Among g R → mask_over (x ∷ S) (value_over n (x ∷ S) g) ≡ dependence n g
  unfolding mask_over value_over low high mask_pair dependence_pair
  mask_at g a =
      let h = same_at mask_pair dependence_pair R half_masks g a in
      let l = low_half (low g) (high g) (size_of S) (value_small n S (restrict x false g)) in
      let u = high_half (low g) (high g) (size_of S) (value_small n S (restrict x false g)) in
      ap₂ (λ i j. bit_or (bit_or (mask_over S i) (mask_over S j)) (cond (nat_eq i j) 0 (2 ^ x))) l u
      ∙ ap₂ (λ i j. bit_or (bit_or i j) (cond (nat_eq (low g) (high g)) 0 (2 ^ x))) (ap (λ p. p.0) h) (ap (λ p. p.1) h)
      ∙ ap (bit_or (bit_or (dependence n (restrict x false g)) (dependence n (restrict x true g))))
      (turn (nat_eq (low g) (high g)) ∙ ap (λ b. cond b (2 ^ x) 0) (sym (depends_at g a)))
      ∙ sym (dependence_joined n x g small)
    where
      turn : (b : Bool) → cond b 0 (2 ^ x) ≡ cond (not b) (2 ^ x) 0
      turn true = refl
      turn false = refl

  masks_more : map (mask_over (x ∷ S)) (values n F (x ∷ S)) ≡ map (dependence n) R
  unfolding R values
  masks_more =
      map-map (mask_over (x ∷ S)) (value_over n (x ∷ S)) R
      ∙ map_same (λ g. mask_over (x ∷ S) (value_over n (x ∷ S) g)) (dependence n) R (λ g a. mask_at g a)

  pub told_more : AreTold n F (x ∷ S)
  unfolding R
  told_more = record { classes = numbered_alike n F (x ∷ S) apart_more; masks = masks_more; apart = apart_more }

pub told : (n : ℕ) (F : List Function) (S : List ℕ) → AreFresh n S → AreTold n F S
told n F [] fresh = told_none n F
told n F (x ∷ S) fresh = told_more n F S x fresh.0 fresh.1 (told n F S fresh.2)
