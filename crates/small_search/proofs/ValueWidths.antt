-- Widths by the values that occur.
--     width_reached      the width into a set is how many functions reached over it depend on the variable
--     width_by_values      it is how many values below a bound occur and depend on it
use Rattle.std.proofs.Common.{◌≡◌, ℕ, ◌<◌, ◌≤◌, Bool, true, false, not, cond, ◌&&◌, ◌||◌, inl, inr, List, ◌∷◌, map, length, reverse, refl, sym, ap, ap₂, ◌∙◌, subst, arith, nat_eq, eqb, eq-eqb}
use Rattle.std.specs.List.{filter, range_with_len}
use Rattle.std.specs.Int.{bit_at}
use Rattle.std.proofs.lemmas.Bool.{cases_eq, and_parts}
use Rattle.std.proofs.lemmas.Cmp.{nat_eq_equiv}
use Rattle.std.proofs.lemmas.Map.Made.{distinct_count-from_IsDistinct}
use Rattle.definitions.specs.Functions.{Function, table, same_table, depends}
use Rattle.definitions.specs.Orders.{has, variables, without}
use Rattle.definitions.specs.Levels.{reach, dependents}
use Rattle.definitions.specs.Widths.{outside, width}
use Rattle.definitions.proofs.Lists.Sets.{Among, Within, among_filter, among_from_filter, among_map, among_from_map, among_from_member, member_from_among, count_same, nat_decides}
use Rattle.definitions.proofs.Functions.Tables.{same_table_decides}
use Rattle.definitions.proofs.Functions.Exchange.{dependents_same, below_from_has}
use Rattle.definitions.proofs.Lists.Orders.{has_variables, has_outside}
use Rattle.definitions.proofs.Widths.Recurrence.{distinct_filter, distinct_variables, has_without}
use Rattle.definitions.proofs.Widths.ClassPairs.{count_alike, has_reverse}
use Rattle.subfunction_classes.specs.Dependence.{dependence}
use Rattle.subfunction_classes.proofs.CountedWidths.{among_variables, same_at}
use Rattle.subfunction_classes.proofs.DependenceMasks.{bit-dependence}
use mathlib.Core.List.{map-map}
use Rattle.small_search.specs.Values.{size_of, value_over, values, mask_over}
use Rattle.small_search.proofs.ValueLaws.{AreTold, value_small}

pub width_reached : (n : ℕ) (F : List Function) (S : List ℕ) (x : ℕ) → has S x ≡ true →
    width n F (without x S) x ≡ dependents n (reach F (reverse (outside n S))) x
unfolding width
width_reached n F S x in_set =
    dependents_same n F (outside n (x ∷ without x S)) (reverse (outside n S)) x (below_from_has n _ inside)
    (below_from_has n _ (λ y h. inside' y (sym (has_reverse (outside n S) y) ∙ h))) same
  where
    inside : (y : ℕ) → has (outside n (x ∷ without x S)) y ≡ true → y < n
    inside y h = (has_variables n y).0 (and_parts (has (variables n) y) (not (has (x ∷ without x S) y)) (sym (has_outside n (x ∷ without x S) y) ∙ h)).0

    inside' : (y : ℕ) → has (outside n S) y ≡ true → y < n
    inside' y h = (has_variables n y).0 (and_parts (has (variables n) y) (not (has S y)) (sym (has_outside n S y) ∙ h)).0

    same : (y : ℕ) → has (outside n (x ∷ without x S)) y ≡ has (reverse (outside n S)) y
    same y = has_outside n (x ∷ without x S) y ∙ ap (λ b. has (variables n) y && not b) members ∙ sym (has_reverse (outside n S) y ∙ has_outside n S y)
      where
        kept : (b : Bool) → (b && true) ≡ b
        kept true = refl
        kept false = refl

        members : has (x ∷ without x S) y ≡ has S y
        members =
            elim (cases_eq y x) [
              | inl e ↦ ap (λ b. b || has (without x S) y) (eq-eqb y x e) ∙ sym (ap (has S) e ∙ in_set)
              | inr ne ↦ grind (arith, has_without)
            ]

-- whether a value occurs, and depends on a variable
abbrev pub is_counted : List ℕ → List ℕ → ℕ → ℕ → Bool
is_counted S vs x v = has vs v && eqb (bit_at (mask_over S v) x) 1

module _ (n : ℕ) (F : List Function) (S : List ℕ) (x most : ℕ) (small : x < n) (told : AreTold n F S) (few : size_of S ≤ most) where
  R : List Function
  R = reach F (reverse (outside n S))

  test : ℕ → Bool
  test = is_counted S (values n F S) x

  mask_told : (g : Function) → Among g R → mask_over S (value_over n S g) ≡ dependence n g
  unfolding R values
  mask_told g a =
      same_at (λ h. mask_over S (value_over n S h)) (dependence n) (reach F (reverse (outside n S)))
      (sym (map-map (mask_over S) (value_over n S) (reach F (reverse (outside n S)))) ∙ told.masks) g a

  occurs : (g : Function) → Among g R → has (values n F S) (value_over n S g) ≡ true
  unfolding R values
  occurs g a = member_from_among nat_eq nat_decides (values n F S) (value_over n S g) (among_map (value_over n S) g (reach F (reverse (outside n S))) a)

  test_told : (g : Function) → Among g R → test (value_over n S g) ≡ depends n g x
  unfolding test
  test_told g a =
      ap₂ (λ b m. b && eqb (bit_at m x) 1) (occurs g a) (mask_told g a)
      ∙ ap (λ m. eqb m 1) (bit-dependence n g x ∙ ap (λ b. cond (b && depends n g x) 1 0) ((has_variables n x).1 small))
      ∙ by (depends n g x)
    where
      by : (b : Bool) → eqb (cond b 1 0) 1 ≡ b
      by true = refl
      by false = refl

  into : Within (map (value_over n S) (filter (λ g. depends n g x) R)) (filter test (variables most))
  into v h =
      let s = among_from_map (value_over n S) v (filter (λ g. depends n g x) R) h in
      let k = among_from_filter (λ g. depends n g x) s.0 R s.1 in
      let l = value_small n S s.0 in
      subst (λ z. Among z (filter test (variables most))) (sym s.2)
      (among_filter test (value_over n S s.0) (variables most) (among_variables most (value_over n S s.0) (omega arith)) (test_told s.0 k.0 ∙ k.1))

  onto : Within (filter test (variables most)) (map (value_over n S) (filter (λ g. depends n g x) R))
  unfolding test R values
  onto v h =
      let k = among_from_filter test v (variables most) h in
      let p = and_parts (has (values n F S) v) (eqb (bit_at (mask_over S v) x) 1) k.1 in
      let s = among_from_map (value_over n S) v (reach F (reverse (outside n S))) (among_from_member nat_eq nat_decides (values n F S) v p.0) in
      subst (λ z. Among z (map (value_over n S) (filter (λ g. depends n g x) R))) (sym s.2)
      (among_map (value_over n S) s.0 (filter (λ g. depends n g x) R)
      (among_filter (λ g. depends n g x) s.0 R s.1 (sym (test_told s.0 s.1) ∙ ap test (sym s.2) ∙ k.1)))

  pub width_by_values : has S x ≡ true → width n F (without x S) x ≡ length (filter (is_counted S (values n F S) x) (range_with_len 0 most))
  unfolding R test dependents
  width_by_values in_set =
      width_reached n F S x in_set
      ∙ count_alike same_table same_table_decides nat_eq nat_decides (table n) (value_over n S) (filter (λ g. depends n g x) R)
      (λ g h a b. let t = told.apart g h (among_from_filter (λ k. depends n k x) g R a).0 (among_from_filter (λ k. depends n k x) h R b).0 in (t.1, t.0))
      ∙ count_same nat_eq nat_decides (map (value_over n S) (filter (λ g. depends n g x) R)) (filter test (variables most)) into onto
      ∙ distinct_count-from_IsDistinct nat_eq_equiv (filter test (variables most)) (distinct_filter test (variables most) (distinct_variables most))
