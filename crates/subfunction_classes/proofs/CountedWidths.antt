-- One numbering of a set gives the widths into it: w(S without x, x) is the number of classes of S that depend on x.
--     distinct_by_numbers      the distinct elements that pass a test are as many as the numbers whose element passes
--     width_is_dependent_classes      a width is the number of classes whose mask has the variable
use Rattle.std.proofs.Common.{◌≡◌, ℕ, ◌<◌, Bool, true, false, not, cond, eqb, ◌&&◌, ◌||◌, inl, inr, List, [], ◌∷◌, map, length, reverse, get_or, refl, sym, ap, ◌∙◌, subst, arith, nat_eq, eq-eqb}
use Rattle.std.specs.List.{filter}
use Rattle.std.specs.Int.{bit_at}
use Rattle.std.specs.Set.{distinct_count}
use Rattle.std.proofs.lemmas.Bool.{cases_eq, and_parts}
use Rattle.std.proofs.lemmas.List.FromFn.{fill_by_all}
use Rattle.std.proofs.lemmas.Map.Made.{distinct_count-from_IsDistinct}
use Rattle.std.proofs.lemmas.Cmp.{nat_eq_equiv}
use Rattle.definitions.specs.Functions.{Function, table, same_table, depends}
use Rattle.definitions.specs.Orders.{has, variables, without}
use Rattle.definitions.specs.Levels.{reach, dependents}
use Rattle.definitions.specs.Widths.{outside, width, entries, class_of, class_numbers}
use Rattle.definitions.proofs.Lists.Sets.{Among, Within, among_filter, among_from_filter, among_map, among_from_map, among_from_member, member_from_among, count_same, nat_decides}
use Rattle.definitions.proofs.Functions.Tables.{same_table_decides}
use Rattle.definitions.proofs.Functions.Exchange.{dependents_same, below_from_has}
use Rattle.definitions.proofs.Lists.Orders.{has_variables, has_outside}
use Rattle.definitions.proofs.Widths.Recurrence.{distinct_filter, distinct_variables, has_without}
use Rattle.definitions.proofs.Widths.ClassPairs.{count_alike, rank_apart, has_reverse}
use Rattle.subfunction_classes.specs.Numbering.{rank}
use Rattle.subfunction_classes.specs.Dependence.{dependence, AreMasks}
use Rattle.subfunction_classes.proofs.RankLaws.{rank_below, rank_reached}
use Rattle.subfunction_classes.proofs.DependenceMasks.{bit-dependence}
use mathlib.Core.List.{map-map}

pub among_variables : (n y : ℕ) → y < n → Among y (variables n)
among_variables n y h = among_from_member nat_eq nat_decides (variables n) y ((has_variables n y).1 h)

variables_below : (n y : ℕ) → Among y (variables n) → y < n
variables_below n y h = (has_variables n y).0 (member_from_among nat_eq nat_decides (variables n) y h)

module _ {X K : Type 0} (eq : K → K → Bool) (decides : (x y : K) → (eq x y ≡ true → x ≡ y) × (x ≡ y → eq x y ≡ true)) (f : X → K)
    (p : X → Bool) (xs : List X) (q : ℕ → Bool) where
  number_of : X → ℕ
  number_of y = rank eq (map f xs) (f y)

  many : ℕ
  many = distinct_count eq (map f xs)

  pub distinct_by_numbers : ((y : X) → Among y xs → q (rank eq (map f xs) (f y)) ≡ p y) →
      distinct_count eq (map f (filter p xs)) ≡ length (filter q (variables (distinct_count eq (map f xs))))
  unfolding number_of many rank
  distinct_by_numbers agree =
      count_alike eq decides nat_eq nat_decides f number_of (filter p xs) tells
      ∙ count_same nat_eq nat_decides (map number_of (filter p xs)) (filter q (variables many)) into onto
      ∙ distinct_count-from_IsDistinct nat_eq_equiv (filter q (variables many)) (distinct_filter q (variables many) (distinct_variables many))
    where
      tells : (y z : X) → Among y (filter p xs) → Among z (filter p xs) → (f y ≡ f z → number_of y ≡ number_of z) × (number_of y ≡ number_of z → f y ≡ f z)
      tells y z a b = (
        ap (rank eq (map f xs)),
        rank_apart eq decides (map f xs) (f y) (f z) (among_map f y xs (among_from_filter p y xs a).0) (among_map f z xs (among_from_filter p z xs b).0),
      )

      into : Within (map number_of (filter p xs)) (filter q (variables many))
      into m h =
          let s = among_from_map number_of m (filter p xs) h in
          let k = among_from_filter p s.0 xs s.1 in
          let small = rank_below eq decides (map f xs) (f s.0) (among_map f s.0 xs k.0) in
          subst (λ z. Among z (filter q (variables many))) (sym s.2)
          (among_filter q (number_of s.0) (variables many) (among_variables many (number_of s.0) small) (agree s.0 k.0 ∙ k.1))

      onto : Within (filter q (variables many)) (map number_of (filter p xs))
      onto c h =
          let k = among_from_filter q c (variables many) h in
          let t = rank_reached eq decides (map f xs) c (variables_below many c k.0) in
          grind (arith, among_from_map, among_map, among_filter)

pub length_filter_map : {A B : Type 0} (q : B → Bool) (g : A → B) (xs : List A) → length (filter q (map g xs)) ≡ length (filter (λ x. q (g x)) xs)
length_filter_map q g [] = refl
length_filter_map q g (x ∷ xs) = grind (arith, length_filter_map q g xs)

pub same_at : {X Y : Type 0} (f g : X → Y) (xs : List X) → map f xs ≡ map g xs → (y : X) → Among y xs → f y ≡ g y
same_at f g [] e y h = absurd h
same_at f g (x ∷ xs) e y h =
    elim h [
      | inl s ↦ let here : f x ≡ g x = cc in ap f s ∙ here ∙ sym (ap g s)
      | inr a ↦ same_at f g xs (cc) y a
    ]

pub width_is_dependent_classes : (n : ℕ) (F : List Function) (S masks : List ℕ) (x : ℕ) → x < n → has S x ≡ true → AreMasks n F S masks →
    width n F (without x S) x ≡ length (filter (λ m. eqb (bit_at m x) 1) masks)
unfolding width dependents entries class_numbers class_of rank
width_is_dependent_classes n F S masks x small in_set are =
    dependents_same n F (outside n (x ∷ without x S)) (reverse (outside n S)) x (below_from_has n _ inside)
    (below_from_has n _ (λ y h. inside' y (sym (has_reverse (outside n S) y) ∙ h))) same
    ∙ counted
    ∙ sym (ap (λ ms. length (filter (λ m. eqb (bit_at m x) 1) ms)) listed
    ∙ length_filter_map (λ m. eqb (bit_at m x) 1) (λ c. get_or masks c 0) (variables (distinct_count same_table (entries n F S))))
  where
    inside : (y : ℕ) → has (outside n (x ∷ without x S)) y ≡ true → y < n
    inside y h = (has_variables n y).0 (and_parts (has (variables n) y) (not (has (x ∷ without x S) y)) (sym (has_outside n (x ∷ without x S) y) ∙ h)).0

    inside' : (y : ℕ) → has (outside n S) y ≡ true → y < n
    inside' y h = (has_variables n y).0 (and_parts (has (variables n) y) (not (has S y)) (sym (has_outside n S y) ∙ h)).0

    same : (y : ℕ) → has (outside n (x ∷ without x S)) y ≡ has (reverse (outside n S)) y
    same y = has_outside n (x ∷ without x S) y ∙ ap (λ b. has (variables n) y && not b) members ∙ sym (has_reverse (outside n S) y ∙ has_outside n S y)
      where
        kept : (b : Bool) → (b && true) ≡ b
        kept true = refl
        kept false = refl

        members : has (x ∷ without x S) y ≡ has S y
        members =
            elim (cases_eq y x) [
              | inl e ↦ ap (λ b. b || has (without x S) y) (eq-eqb y x e) ∙ sym (ap (has S) e ∙ in_set)
              | inr ne ↦ grind (arith, has_without)
            ]

    listed : masks ≡ map (λ c. get_or masks c 0) (variables (distinct_count same_table (entries n F S)))
    listed = fill_by_all (λ c. get_or masks c 0) masks (distinct_count same_table (entries n F S)) 0 are.many (λ k h. refl)

    test : ℕ → Bool
    test c = eqb (bit_at (get_or masks c 0) x) 1

    masks_told : (g : Function) → Among g (reach F (reverse (outside n S))) → get_or masks (class_of (entries n F S) (table n g)) 0 ≡ dependence n g
    masks_told g a =
        same_at (λ h. get_or masks (class_of (entries n F S) (table n h)) 0) (dependence n) (reach F (reverse (outside n S)))
        (sym (ap (map (λ c. get_or masks c 0)) (map-map (class_of (entries n F S)) (table n) (reach F (reverse (outside n S))))
        ∙ map-map (λ c. get_or masks c 0) (λ h. class_of (entries n F S) (table n h)) (reach F (reverse (outside n S))))
        ∙ are.labels) g a

    counted : dependents n (reach F (reverse (outside n S))) x ≡ length (filter test (variables (distinct_count same_table (entries n F S))))
    counted = distinct_by_numbers same_table same_table_decides (table n) (λ f. depends n f x) (reach F (reverse (outside n S))) test
        (λ g a. ap (λ m. eqb (bit_at m x) 1) (masks_told g a)
        ∙ ap (λ m. eqb m 1) (bit-dependence n g x ∙ ap (λ b. cond (b && depends n g x) 1 0) ((has_variables n x).1 small))
        ∙ by (depends n g x))
      where
        by : (b : Bool) → eqb (cond b 1 0) 1 ≡ b
        by true = refl
        by false = refl

-- the masks depend on the members of the set alone
pub masks_same : (n : ℕ) (F : List Function) (S T : List ℕ) → ((y : ℕ) → has S y ≡ has T y) → (masks : List ℕ) → AreMasks n F S masks → AreMasks n F T masks
unfolding outside class_numbers entries
masks_same n F S T h masks are = grind arith
