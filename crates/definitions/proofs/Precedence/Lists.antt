-- Pairs, lawful sets and lawful lists.
--     lawful_at, lawful_from, keeps_at, keeps_from      the tests, pair by pair
--     lawful_below      a list that has each a above its b has lawful bottom parts only
--     above_from_lawful      and the other way round
--     above_places      a stands above b where its place is the smaller one
use Rattle.std.proofs.Common.{◌≡◌, ◌≢◌, ℕ, Bool, true, false, not, cond, ◌||◌, inl, inr, List, [], ◌∷◌, refl, sym, ap, ◌∙◌, nat_eq, eqb-true, ltb, lt-ltb, le-ltb, ◌+◌, arith}
use Rattle.std.specs.List.{filter, list_all, IsDistinct}
use Rattle.std.proofs.lemmas.Bool.{false≢true, true≢false, cases_Bool, or_cases, or_right, and_parts, and_from}
use Rattle.definitions.specs.Orders.{has, place_in}
use Rattle.definitions.specs.Pairs.{Pair, is_above, keeps, is_lawful, are_lawful}
use Rattle.definitions.proofs.Lists.Sets.{Among}
use Rattle.definitions.proofs.Lists.Orders.{has_filter, absent_from_apart}

module _ {X : Type 0} where
  pub each_from_all : (p : X → Bool) (xs : List X) → list_all p xs ≡ true → (x : X) → Among x xs → p x ≡ true
  each_from_all p [] h x m = absurd m
  each_from_all p (y ∷ xs) h x m =
      let parts = and_parts (p y) (list_all p xs) h in
      elim m [ inl e ↦ ap p e ∙ parts.0 | inr r ↦ each_from_all p xs parts.1 x r ]

  pub all_from_each : (p : X → Bool) (xs : List X) → ((x : X) → Among x xs → p x ≡ true) → list_all p xs ≡ true
  all_from_each p [] h = refl
  all_from_each p (y ∷ xs) h = and_from _ _ (h y (inl refl)) (all_from_each p xs (λ x m. h x (inr m)))

-- a lawful set with a has b
pub lawful_at : (P : List Pair) (S : List ℕ) → is_lawful P S ≡ true → (p : Pair) → Among p P → has S p.0 ≡ true → has S p.1 ≡ true
unfolding is_lawful
lawful_at P S h p m a = grind (arith, each_from_all)

pub lawful_from : (P : List Pair) (S : List ℕ) → ((p : Pair) → Among p P → has S p.0 ≡ true → has S p.1 ≡ true) → is_lawful P S ≡ true
unfolding is_lawful
lawful_from P S h = grind (arith, all_from_each)

-- whether a set is lawful depends on its members alone
pub lawful_same : (P : List Pair) (S T : List ℕ) → ((y : ℕ) → has S y ≡ has T y) → is_lawful P S ≡ is_lawful P T
unfolding is_lawful
lawful_same P S T h = λ i. list_all (λ (p : Pair). not (h p.0 i) || h p.1 i) P

pub keeps_at : (P : List Pair) (xs : List ℕ) → keeps P xs ≡ true → (p : Pair) → Among p P → is_above p.0 p.1 xs ≡ true
unfolding keeps
keeps_at P xs h p m = each_from_all (λ (q : Pair). is_above q.0 q.1 xs) P h p m

pub keeps_from : (P : List Pair) (xs : List ℕ) → ((p : Pair) → Among p P → is_above p.0 p.1 xs ≡ true) → keeps P xs ≡ true
unfolding keeps
keeps_from P xs h = all_from_each (λ (q : Pair). is_above q.0 q.1 xs) P h

-- what stands above something is in the list, and so is what it stands above
pub above_has : (a b : ℕ) (xs : List ℕ) → is_above a b xs ≡ true → (has xs a ≡ true) × (has xs b ≡ true)
unfolding is_above
above_has a b [] h = absurd (false≢true h)
above_has a b (x ∷ xs) h = grind (arith, above_has a b xs)

-- in a list with no two equal, nothing stands above itself
pub above_differs : (a b : ℕ) (xs : List ℕ) → IsDistinct nat_eq xs → is_above a b xs ≡ true → a ≢ b
unfolding is_above IsDistinct
above_differs a b [] d h = λ e. false≢true h
above_differs a b (x ∷ xs) d h = by (nat_eq a x) refl h (above_differs a b xs d.1)
  where
    by : (c : Bool) → nat_eq a x ≡ c → cond c (has xs b) (is_above a b xs) ≡ true → (is_above a b xs ≡ true → a ≢ b) → a ≢ b
    by true e k r = λ s. true≢false (sym k ∙ ap (has xs) (sym s ∙ eqb-true a x e) ∙ absent_from_apart x xs d.0)
    by false e k r = r k

-- a list that has each a above its b has lawful bottom parts only
pub lawful_below : (P : List Pair) (xs : List ℕ) → IsDistinct nat_eq xs →
    ((p : Pair) → Among p P → has xs p.0 ≡ true → is_above p.0 p.1 xs ≡ true) → are_lawful P xs ≡ true
unfolding are_lawful IsDistinct is_above
lawful_below P [] d h = refl
lawful_below P (x ∷ xs) d h =
    and_from _ _ (lawful_from P (x ∷ xs) (λ p m a. (above_has p.0 p.1 (x ∷ xs) (h p m a)).1))
    (lawful_below P xs d.1 (λ p m a. behind p.0 p.1 a (h p m (or_right _ _ a))))
  where
    behind : (a b : ℕ) → has xs a ≡ true → cond (nat_eq a x) (has xs b) (is_above a b xs) ≡ true → is_above a b xs ≡ true
    behind a b m k = by (nat_eq a x) refl k
      where
        by : (c : Bool) → nat_eq a x ≡ c → cond c (has xs b) (is_above a b xs) ≡ true → is_above a b xs ≡ true
        by true e k = absurd (true≢false (sym m ∙ ap (has xs) (eqb-true a x e) ∙ absent_from_apart x xs d.0))
        by false e k = k

-- in a lawful list a stands above b, where the two differ
pub above_from_lawful : (P : List Pair) (xs : List ℕ) → are_lawful P xs ≡ true → (p : Pair) → Among p P → p.0 ≢ p.1 → has xs p.0 ≡ true →
    is_above p.0 p.1 xs ≡ true
unfolding are_lawful is_above
above_from_lawful P [] l p m ne h = absurd (false≢true h)
above_from_lawful P (x ∷ xs) l p m ne h = by (nat_eq p.0 x) refl h (λ k. above_from_lawful P xs parts.1 p m ne k)
  where
    parts : (is_lawful P (x ∷ xs) ≡ true) × (are_lawful P xs ≡ true)
    parts = and_parts (is_lawful P (x ∷ xs)) (are_lawful P xs) l

    there : has (x ∷ xs) p.1 ≡ true
    there = lawful_at P (x ∷ xs) parts.0 p m h

    by : (c : Bool) → nat_eq p.0 x ≡ c → (c || has xs p.0) ≡ true → (has xs p.0 ≡ true → is_above p.0 p.1 xs ≡ true) →
        cond c (has xs p.1) (is_above p.0 p.1 xs) ≡ true
    by true e k r =
        elim (or_cases (nat_eq p.1 x) (has xs p.1) there) [
          | inl f ↦ absurd (ne (eqb-true p.0 x e ∙ sym (eqb-true p.1 x f)))
          | inr f ↦ f
        ]
    by false e k r = r k

-- a part of a list keeps what stands above what
pub above_filter : (q : ℕ → Bool) (a b : ℕ) (xs : List ℕ) → is_above a b xs ≡ true → q a ≡ true → q b ≡ true → is_above a b (filter q xs) ≡ true
unfolding is_above
above_filter q a b [] h qa qb = h
above_filter q a b (x ∷ xs) h qa qb = by (q x) (nat_eq a x) refl refl h (λ k. above_filter q a b xs k qa qb)
  where
    by : (k c : Bool) → q x ≡ k → nat_eq a x ≡ c → cond c (has xs b) (is_above a b xs) ≡ true → (is_above a b xs ≡ true → is_above a b (filter q xs) ≡ true) →
        is_above a b (cond k (x ∷ filter q xs) (filter q xs)) ≡ true
    by true true e f l r = ap (λ c. cond c (has (filter q xs) b) (is_above a b (filter q xs))) f ∙ has_filter q xs b ∙ and_from _ _ l qb
    by true false e f l r = ap (λ c. cond c (has (filter q xs) b) (is_above a b (filter q xs))) f ∙ r l
    by false true e f l r = absurd (true≢false (sym qa ∙ ap q (eqb-true a x f) ∙ e))
    by false false e f l r = r l

-- the test pair by pair
pub are_lawful_parts : (P : List Pair) (x : ℕ) (xs : List ℕ) → are_lawful P (x ∷ xs) ≡ true → (is_lawful P (x ∷ xs) ≡ true) × (are_lawful P xs ≡ true)
unfolding are_lawful
are_lawful_parts P x xs h = and_parts (is_lawful P (x ∷ xs)) (are_lawful P xs) h

pub are_lawful_from : (P : List Pair) (x : ℕ) (xs : List ℕ) → is_lawful P (x ∷ xs) ≡ true → are_lawful P xs ≡ true → are_lawful P (x ∷ xs) ≡ true
unfolding are_lawful
are_lawful_from P x xs a b = and_from _ _ a b

pub are_lawful_nil : (P : List Pair) → are_lawful P [] ≡ true
unfolding are_lawful
are_lawful_nil P = refl

pub lawful_whole : (P : List Pair) (xs : List ℕ) → are_lawful P xs ≡ true → is_lawful P xs ≡ true
lawful_whole P [] h = lawful_from P [] (λ p m a. absurd (false≢true a))
lawful_whole P (x ∷ xs) h = (are_lawful_parts P x xs h).0

-- without pairs every order keeps them, and every set and list is lawful
pub nothing_to_keep : (xs : List ℕ) → (keeps [] xs ≡ true) × (is_lawful [] xs ≡ true) × (are_lawful [] xs ≡ true)
unfolding keeps is_lawful are_lawful
nothing_to_keep [] = (refl, refl, refl)
nothing_to_keep (x ∷ xs) = (refl, refl, (nothing_to_keep xs).2)

-- a list with no two equal in which each a stands above its b
pub record Ground (P : List Pair) (whole : List ℕ) : Type 0 where
  pub once : IsDistinct nat_eq whole
  pub keeps : keeps P whole ≡ true

-- in an order, a stands above b where its place is the smaller one
pub above_places : (a b : ℕ) (xs : List ℕ) → IsDistinct nat_eq xs → has xs a ≡ true → has xs b ≡ true → is_above a b xs ≡ ltb (place_in xs a) (place_in xs b)
unfolding is_above place_in IsDistinct
above_places a b [] d h k = absurd (false≢true h)
above_places a b (x ∷ xs) d h k = by (nat_eq a x) (nat_eq b x) refl refl h k (above_places a b xs d.1)
  where
    Rest : Bool → ℕ → ℕ
    Rest c v = cond (not c) (1 + place_in xs v) 0

    by : (c e : Bool) → nat_eq a x ≡ c → nat_eq b x ≡ e → (c || has xs a) ≡ true → (e || has xs b) ≡ true →
        (has xs a ≡ true → has xs b ≡ true → is_above a b xs ≡ ltb (place_in xs a) (place_in xs b)) →
        cond c (has xs b) (is_above a b xs) ≡ ltb (Rest c a) (Rest e b)
    by true true f g p q r = ap (has xs) (eqb-true b x g) ∙ absent_from_apart x xs d.0
    by true false f g p q r = q ∙ sym (lt-ltb 0 (1 + place_in xs b) (omega arith))
    by false true f g p q r =
        elim (cases_Bool (is_above a b xs)) [
          | inl t ↦ absurd (true≢false (sym (above_has a b xs t).1 ∙ ap (has xs) (eqb-true b x g) ∙ absent_from_apart x xs d.0))
          | inr n ↦ n ∙ sym (le-ltb (1 + place_in xs a) 0 (omega arith))
        ]
    by false false f g p q r = grind arith
