-- The masks of the classes over T with x, from those over T.
use Rattle.std.proofs.Common.{◌≡◌, ℕ, ◌^◌, ◌<◌, Bool, true, false, not, cond, inl, inr, List, [], ◌∷◌, map, length, reverse, get_or, refl, sym, ap, ap₂, ◌∙◌, nat_eq, bit_or}
use Rattle.std.specs.Set.{distinct_count}
use Rattle.definitions.specs.Functions.{Function, restrict, table, same_table, depends}
use Rattle.definitions.specs.Orders.{has}
use Rattle.definitions.specs.Levels.{reach}
use Rattle.definitions.specs.Widths.{outside, entries, class_of, class_numbers, same_pair, class_pair}
use Rattle.definitions.proofs.Lists.Sets.{Among}
use Rattle.definitions.proofs.Functions.Tables.{same_table_decides, depends_same}
use Rattle.definitions.proofs.Widths.ClassPairs.{count_alike, pair_decides, depends_by_classes}
use Rattle.subfunction_classes.specs.Numbering.{ranks}
use Rattle.subfunction_classes.specs.Places.{pairs}
use Rattle.subfunction_classes.specs.Dependence.{dependence, joined_mask, AreMasks}
use Rattle.subfunction_classes.proofs.DependenceMasks.{dependence_joined}
use Rattle.subfunction_classes.proofs.CountedWidths.{same_at}
use Rattle.subfunction_classes.proofs.Compaction.{step_of, pairs_told, pairs_of_classes, compacted, counted, told_apart, numbers_told, tell_class, class_pair_same}
use mathlib.Core.List.{map-map}

-- a subfunction depends on the variable if its two halves have different classes
pub depends_at : (n : ℕ) (F : List Function) (T : List ℕ) (x : ℕ) (small : x < n) (new : has T x ≡ false) (g : Function) →
    Among g (reach F (reverse (outside n (x ∷ T)))) → depends n g x ≡ not (nat_eq (class_pair n F T x g).0 (class_pair n F T x g).1)
depends_at n F T x small new g a =
    let k = counted n T x small new F g a in
    depends_same n g k.0 x k.2 ∙ depends_by_classes n F T x small new k.0 k.1
    ∙ ap (λ p. not (nat_eq p.0 p.1)) (sym (class_pair_same n T x small new F g k.0 k.2))

module _ (n : ℕ) (F : List Function) (T : List ℕ) (x : ℕ) (small : x < n) (new : has T x ≡ false) (masks : List ℕ) (are : AreMasks n F T masks) where
  R : List Function
  R = reach F (reverse (outside n (x ∷ T)))

  mask_of_class : Function → ℕ
  mask_of_class g = get_or masks (class_of (entries n F T) (table n g)) 0

  told_alike : map mask_of_class (reach F (reverse (outside n T))) ≡ map (dependence n) (reach F (reverse (outside n T)))
  unfolding mask_of_class tell_class
  told_alike =
      sym (ap (map (λ c. get_or masks c 0)) (numbers_told n T x small new F)
      ∙ map-map (λ c. get_or masks c 0) (tell_class n T x small new F) (reach F (reverse (outside n T))))
      ∙ are.labels

  own : Function → ℕ × ℕ
  own g = (mask_of_class (restrict x false g), mask_of_class (restrict x true g))

  true_own : Function → ℕ × ℕ
  true_own g = (dependence n (restrict x false g), dependence n (restrict x true g))

  halves : map own R ≡ map true_own R
  unfolding R own true_own
  halves = sym (pairs_told n T x small new F mask_of_class) ∙ ap (λ us. pairs us (step_of T x)) told_alike ∙ pairs_told n T x small new F (dependence n)

  half_at : (g : Function) → Among g R → own g ≡ true_own g
  half_at g a = same_at own true_own R halves g a

  joined_at : (g : Function) → Among g R → joined_mask masks x (class_pair n F T x g) ≡ dependence n g
  unfolding R mask_of_class class_pair own true_own
  joined_at g a =
      let h = half_at g a in
      ap₂ (λ u v. bit_or u v) (ap₂ (λ u v. bit_or u v) (ap (λ p. p.0) h) (ap (λ p. p.1) h))
      (turn (nat_eq (class_pair n F T x g).0 (class_pair n F T x g).1) ∙ ap (λ b. cond b (2 ^ x) 0) (sym (depends_at n F T x small new g a)))
      ∙ sym (dependence_joined n x g small)
    where
      turn : (b : Bool) → cond b 0 (2 ^ x) ≡ cond (not b) (2 ^ x) 0
      turn true = refl
      turn false = refl

  each_at : (gs : List Function) → ((g : Function) → Among g gs → Among g R) → map (λ g. joined_mask masks x (class_pair n F T x g)) gs ≡ map (dependence n) gs
  each_at [] w = refl
  each_at (g ∷ gs) w = λ i. joined_at g (w g (inl refl)) i ∷ each_at gs (λ k b. w k (inr b)) i

  -- what the numbering has to give
  pub masks_more : (masks' : List ℕ) → length masks' ≡ distinct_count same_pair (pairs (class_numbers n F T) (step_of T x)) →
      map (λ c. get_or masks' c 0) (ranks same_pair (pairs (class_numbers n F T) (step_of T x))) ≡ map (joined_mask masks x)
      (pairs (class_numbers n F T) (step_of T x)) →
      AreMasks n F (x ∷ T) masks'
  unfolding R entries
  masks_more masks' l m = record {
    many = l ∙ ap (distinct_count same_pair) (pairs_of_classes n T x small new F)
        ∙ count_alike same_pair pair_decides same_table same_table_decides (class_pair n F T x) (table n) R (told_apart n T x small new F);
    labels = ap (map (λ c. get_or masks' c 0)) (compacted n T x small new F) ∙ m
        ∙ ap (map (joined_mask masks x)) (pairs_of_classes n T x small new F) ∙ map-map (joined_mask masks x) (class_pair n F T x) R
        ∙ each_at R (λ g a. a);
  }
