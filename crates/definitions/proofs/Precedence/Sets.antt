-- Which pairs are listed is all that counts: neither their order nor repetitions do.
--     keeps_same, lawful_same_pairs, least_same_pairs      two lists of the same pairs say the same
--     has_sorted      the sorted list has just the pairs of variables below n
use Rattle.std.proofs.Common.{◌≡◌, ℕ, ◌<◌, true, ◌&&◌, inl, inr, List, [], ◌∷◌, map, length, refl, sym, ap, ap₂, ◌∙◌, nat_eq, eqb-true, eq-eqb}
use Rattle.std.specs.List.{filter, flat_map}
use Rattle.std.proofs.lemmas.Bool.{false≢true, or_cases, or_left, or_right, and_parts, and_from}
use Rattle.definitions.specs.Functions.{Function}
use Rattle.definitions.specs.Orders.{has, IsOrder, variables}
use Rattle.definitions.specs.Pairs.{Pair, has_pair, is_above, keeps, Keeps, is_lawful, are_lawful, sorted_pairs}
use Rattle.definitions.specs.Widths.{cost, arrangements, least_of, least}
use Rattle.definitions.proofs.Lists.Sets.{Among, among_map, among_from_map, among_flat_map, among_from_flat_map}
use Rattle.definitions.proofs.Lists.Orders.{same_bool, has_filter, has_variables}
use Rattle.definitions.proofs.Widths.Recurrence.{among_has, has_among}
use Rattle.definitions.proofs.Precedence.Lists.{lawful_at, lawful_from, keeps_at, keeps_from, above_has}

-- a pair that the test finds, and the other way round
pub pair_among : (P : List Pair) (a b : ℕ) → has_pair P a b ≡ true → (p : Pair) × Among p P × (a ≡ p.0) × (b ≡ p.1)
pair_among [] a b h = absurd (false≢true h)
pair_among (p ∷ P) a b h =
    elim (or_cases (nat_eq a p.0 && nat_eq b p.1) (has_pair P a b) h) [
      | inl e ↦ let parts = and_parts (nat_eq a p.0) (nat_eq b p.1) e in (p, inl refl, eqb-true a p.0 parts.0, eqb-true b p.1 parts.1)
      | inr r ↦ let s = pair_among P a b r in (s.0, inr s.1, s.2, s.3)
    ]

pub among_pair : (P : List Pair) (p : Pair) → Among p P → has_pair P p.0 p.1 ≡ true
among_pair [] p m = absurd m
among_pair (q ∷ P) p m =
    elim m [
      | inl e ↦ or_left _ _ (and_from _ _ (eq-eqb p.0 q.0 (ap (λ (r : Pair). r.0) e)) (eq-eqb p.1 q.1 (ap (λ (r : Pair). r.1) e)))
      | inr r ↦ or_right (nat_eq p.0 q.0 && nat_eq p.1 q.1) _ (among_pair P p r)
    ]

-- where each pair of P is one of Q, what Q allows P allows, too
module _ (P Q : List Pair) (each : (p : Pair) → Among p P → has_pair Q p.0 p.1 ≡ true) where
  pub fewer_keep : (xs : List ℕ) → keeps Q xs ≡ true → keeps P xs ≡ true
  fewer_keep xs h = keeps_from P xs (λ p m. let s = pair_among Q p.0 p.1 (each p m) in ap₂ (λ a b. is_above a b xs) s.2 s.3 ∙ keeps_at Q xs h s.0 s.1)

  pub fewer_lawful : (S : List ℕ) → is_lawful Q S ≡ true → is_lawful P S ≡ true
  fewer_lawful S h =
      lawful_from P S (λ p m a. let s = pair_among Q p.0 p.1 (each p m) in ap (has S) s.3 ∙ lawful_at Q S h s.0 s.1 (sym (ap (has S) s.2) ∙ a))

-- where two tests of sets agree, so do the lists and the least costs
pub are_lawful_same : (P Q : List Pair) → ((S : List ℕ) → is_lawful P S ≡ is_lawful Q S) → (xs : List ℕ) → are_lawful P xs ≡ are_lawful Q xs
unfolding are_lawful
are_lawful_same P Q h [] = refl
are_lawful_same P Q h (x ∷ xs) = ap₂ (λ a b. a && b) (h (x ∷ xs)) (are_lawful_same P Q h xs)

pub least_same_lawful : (n : ℕ) (F : List Function) (P Q : List Pair) → ((S : List ℕ) → is_lawful P S ≡ is_lawful Q S) → (S : List ℕ) →
    least n F P S ≡ least n F Q S
unfolding least
least_same_lawful n F P Q h S = λ i. least_of (map (cost n F) (filter (λ xs. are_lawful_same P Q h xs i) (arrangements (length S) S)))

module _ (P Q : List Pair) (same : (a b : ℕ) → has_pair P a b ≡ has_pair Q a b) where
  left_in : (p : Pair) → Among p P → has_pair Q p.0 p.1 ≡ true
  left_in p m = sym (same p.0 p.1) ∙ among_pair P p m

  right_in : (p : Pair) → Among p Q → has_pair P p.0 p.1 ≡ true
  right_in p m = same p.0 p.1 ∙ among_pair Q p m

  pub keeps_same : (xs : List ℕ) → keeps P xs ≡ keeps Q xs
  keeps_same xs = same_bool _ _ (fewer_keep Q P right_in xs) (fewer_keep P Q left_in xs)

  pub lawful_same_pairs : (S : List ℕ) → is_lawful P S ≡ is_lawful Q S
  lawful_same_pairs S = same_bool _ _ (fewer_lawful Q P right_in S) (fewer_lawful P Q left_in S)

  pub least_same_pairs : (n : ℕ) (F : List Function) (S : List ℕ) → least n F P S ≡ least n F Q S
  least_same_pairs n F S = least_same_lawful n F P Q lawful_same_pairs S

-- ---- the sorted list

pub sorted_from : (n : ℕ) (P : List Pair) (p : Pair) → Among p (sorted_pairs n P) → has_pair P p.0 p.1 ≡ true
unfolding sorted_pairs
sorted_from n P p m =
    let row = among_from_flat_map (λ (a : ℕ). map (λ (b : ℕ). (a, b)) (filter (has_pair P a) (variables n))) p (variables n) m in
    let at = among_from_map (λ (b : ℕ). (row.0, b)) p (filter (has_pair P row.0) (variables n)) row.2 in
    let there =
    (and_parts (has (variables n) at.0) (has_pair P row.0 at.0)
    (sym (has_filter (has_pair P row.0) (variables n) at.0) ∙ among_has (filter (has_pair P row.0) (variables n)) at.0 at.1)).1 in
    ap (λ (q : Pair). has_pair P q.0 q.1) at.2 ∙ there

pub sorted_to : (n : ℕ) (P : List Pair) (a b : ℕ) → a < n → b < n → has_pair P a b ≡ true → has_pair (sorted_pairs n P) a b ≡ true
unfolding sorted_pairs
sorted_to n P a b s t h =
    among_pair (flat_map (λ (c : ℕ). map (λ (d : ℕ). (c, d)) (filter (has_pair P c) (variables n))) (variables n)) (a, b)
    (among_flat_map (λ (c : ℕ). map (λ (d : ℕ). (c, d)) (filter (has_pair P c) (variables n))) a (variables n) (a, b)
    (has_among (variables n) a ((has_variables n a).1 s))
    (among_map (λ (d : ℕ). (a, d)) b (filter (has_pair P a) (variables n))
    (has_among (filter (has_pair P a) (variables n)) b (has_filter (has_pair P a) (variables n) b ∙ and_from _ _ ((has_variables n b).1 t) h))))

-- where some order keeps the pairs, the sorted list has them all
module _ (n : ℕ) (P : List Pair) (base : List ℕ) (o : IsOrder n base) (k : Keeps P base) where
  pub has_sorted : (a b : ℕ) → has_pair (sorted_pairs n P) a b ≡ has_pair P a b
  has_sorted a b =
      same_bool _ _
      (λ h. let s = pair_among (sorted_pairs n P) a b h in ap₂ (has_pair P) s.2 s.3 ∙ sorted_from n P s.0 s.1)
      (λ h.
      let s = pair_among P a b h in
      let up = above_has s.0.0 s.0.1 base (keeps_at P base k s.0 s.1) in
      sorted_to n P a b ((o.all a).0 (ap (has base) s.2 ∙ up.0)) ((o.all b).0 (ap (has base) s.3 ∙ up.1)) h)
