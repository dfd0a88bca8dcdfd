-- Sums, counts and the greatest over lists that are made of others, and lists with no repetition.
--     filter_flat_map, filter_map_through, filter_among, filter_none      what a filter keeps of such lists
--     sum_flat_map, sum_through, sum_among, sum_plus, sum_nothing      sums over them
--     greatest_is      the greatest of some numbers is the one that is among them and that none exceeds
--     Once xs      no element of xs is one of the later ones
use Rattle.std.proofs.Common.{◌≡◌, ◌≢◌, ℕ, zero, suc, ◌+◌, ◌*◌, ◌<◌, ◌≤◌, max, Bool, true, false, cond, ◌⊎◌, inl, inr, List, [], ◌∷◌, ◌++◌, map, length, get_or, refl, sym, ap, ap₂, ◌∙◌, subst, arith}
use Rattle.std.specs.List.{flat_map, filter, fold, sum_by, AllPairs, Contains}
use Rattle.std.proofs.lemmas.Bool.{cases_lt}
use Rattle.std.proofs.lemmas.List.Elements.{filter-append}
use Rattle.std.proofs.lemmas.List.Sums.{sum_by-cons, sum_by-append}
use Rattle.definitions.proofs.Lists.Sets.{Among, among_cases, among_from_filter, among_from_map, among_from_flat_map}

module _ {X : Type 0} where
  pub filter_among : (p q : X → Bool) (xs : List X) → ((x : X) → Among x xs → p x ≡ q x) → filter p xs ≡ filter q xs
  filter_among p q [] h = refl
  filter_among p q (x ∷ xs) h = ap₂ (λ b zs. cond b (x ∷ zs) zs) (h x (inl refl)) (filter_among p q xs (λ y m. h y (inr m)))

  pub filter_none : (p : X → Bool) (xs : List X) → ((x : X) → Among x xs → p x ≡ false) → filter p xs ≡ []
  filter_none p [] h = refl
  filter_none p (x ∷ xs) h = ap (λ b. cond b (x ∷ filter p xs) (filter p xs)) (h x (inl refl)) ∙ filter_none p xs (λ y m. h y (inr m))

  pub sum_among : (f g : X → ℕ) (xs : List X) → ((x : X) → Among x xs → f x ≡ g x) → sum_by f xs ≡ sum_by g xs
  sum_among f g [] h = refl
  sum_among f g (x ∷ xs) h =
      sum_by-cons f x xs ∙ ap₂ (λ a b. a + b) (h x (inl refl)) (sum_among f g xs (λ y m. h y (inr m))) ∙ sym (sum_by-cons g x xs)

  pub sum_nothing : (f : X → ℕ) (xs : List X) → ((x : X) → Among x xs → f x ≡ 0) → sum_by f xs ≡ 0
  sum_nothing f [] h = refl
  sum_nothing f (x ∷ xs) h = omega (arith, sum_by-cons f x xs, h x (inl refl), sum_nothing f xs (λ y m. h y (inr m)))

  -- a number more in each term
  pub sum_plus : (w : ℕ) (f : X → ℕ) (xs : List X) → sum_by (λ x. w + f x) xs ≡ sum_by f xs + w * length xs
  sum_plus w f [] = omega arith
  sum_plus w f (x ∷ xs) = omega (arith, sum_by-cons (λ y. w + f y) x xs, sum_by-cons f x xs, sum_plus w f xs)

  -- what a filter leaves out adds nothing
  pub sum_filter : (p : X → Bool) (f : X → ℕ) (xs : List X) → ((x : X) → Among x xs → p x ≡ false → f x ≡ 0) → sum_by f (filter p xs) ≡ sum_by f xs
  sum_filter p f [] h = refl
  sum_filter p f (x ∷ xs) h = by (p x) refl (sum_filter p f xs (λ y m. h y (inr m)))
    where
      by : (b : Bool) → p x ≡ b → sum_by f (filter p xs) ≡ sum_by f xs → sum_by f (cond b (x ∷ filter p xs) (filter p xs)) ≡ sum_by f (x ∷ xs)
      by true e r = omega (arith, sum_by-cons f x (filter p xs), sum_by-cons f x xs)
      by false e r = omega (arith, sum_by-cons f x xs, h x (inl refl) e)

module _ {X Y : Type 0} where
  pub filter_flat_map : (p : Y → Bool) (f : X → List Y) (xs : List X) → filter p (flat_map f xs) ≡ flat_map (λ x. filter p (f x)) xs
  filter_flat_map p f [] = refl
  filter_flat_map p f (x ∷ xs) = filter-append p (f x) (flat_map f xs) ∙ ap (λ zs. filter p (f x) ++ zs) (filter_flat_map p f xs)

  pub filter_map_through : (p : Y → Bool) (f : X → Y) (xs : List X) → filter p (map f xs) ≡ map f (filter (λ x. p (f x)) xs)
  filter_map_through p f [] = refl
  filter_map_through p f (x ∷ xs) = by (p (f x)) (filter_map_through p f xs)
    where
      by : (b : Bool) → filter p (map f xs) ≡ map f (filter (λ y. p (f y)) xs) →
          cond b (f x ∷ filter p (map f xs)) (filter p (map f xs)) ≡ map f (cond b (x ∷ filter (λ y. p (f y)) xs) (filter (λ y. p (f y)) xs))
      by true r = ap (λ zs. f x ∷ zs) r
      by false r = r

  pub flat_map_among : (f g : X → List Y) (xs : List X) → ((x : X) → Among x xs → f x ≡ g x) → flat_map f xs ≡ flat_map g xs
  flat_map_among f g [] h = refl
  flat_map_among f g (x ∷ xs) h = ap₂ (λ a b. a ++ b) (h x (inl refl)) (flat_map_among f g xs (λ y m. h y (inr m)))

  -- what a filter leaves out gives nothing
  pub flat_map_filter : (p : X → Bool) (f : X → List Y) (xs : List X) → ((x : X) → Among x xs → p x ≡ false → f x ≡ []) →
      flat_map f (filter p xs) ≡ flat_map f xs
  flat_map_filter p f [] h = refl
  flat_map_filter p f (x ∷ xs) h = by (p x) refl (flat_map_filter p f xs (λ y m. h y (inr m)))
    where
      by : (b : Bool) → p x ≡ b → flat_map f (filter p xs) ≡ flat_map f xs → flat_map f (cond b (x ∷ filter p xs) (filter p xs)) ≡ f x ++ flat_map f xs
      by true e r = ap (λ zs. f x ++ zs) r
      by false e r = r ∙ ap (λ zs. zs ++ flat_map f xs) (sym (h x (inl refl) e))

  pub sum_flat_map : (g : Y → ℕ) (f : X → List Y) (xs : List X) → sum_by g (flat_map f xs) ≡ sum_by (λ x. sum_by g (f x)) xs
  sum_flat_map g f [] = refl
  sum_flat_map g f (x ∷ xs) =
      sum_by-append g (f x) (flat_map f xs) ∙ ap (λ k. sum_by g (f x) + k) (sum_flat_map g f xs) ∙ sym (sum_by-cons (λ y. sum_by g (f y)) x xs)

  pub sum_through : (g : Y → ℕ) (f : X → Y) (xs : List X) → sum_by g (map f xs) ≡ sum_by (λ x. g (f x)) xs
  sum_through g f [] = refl
  sum_through g f (x ∷ xs) =
      sum_by-cons g (f x) (map f xs) ∙ ap (λ k. g (f x) + k) (sum_through g f xs) ∙ sym (sum_by-cons (λ y. g (f y)) x xs)

-- ---- the greatest of some numbers

fold_max_cases : (a : ℕ) (xs : List ℕ) → ((fold max a xs ≡ a) ⊎ Among (fold max a xs) xs) × (a ≤ fold max a xs) × ((b : ℕ) → Among b xs → b ≤ fold max a xs)
fold_max_cases a [] = (inl refl, omega arith, λ b m. absurd m)
fold_max_cases a (x ∷ xs) =
    let rest = fold_max_cases (max a x) xs in (
      elim rest.0 [ inl e ↦ pick e (cases_lt a x) | inr m ↦ inr (inr m) ],
      omega (arith, rest.1),
      λ b m. elim m [ inl e ↦ omega (arith, rest.1) | inr k ↦ rest.2 b k ],
    )
  where
    pick : fold max (max a x) xs ≡ max a x → (a < x) ⊎ (x ≤ a) → (fold max (max a x) xs ≡ a) ⊎ Among (fold max (max a x) xs) (x ∷ xs)
    pick e k = elim k [ inl lt ↦ inr (inl (let m : max a x ≡ x = omega arith in e ∙ m)) | inr le ↦ inl (let m : max a x ≡ a = omega arith in e ∙ m) ]

-- of numbers of which one is there: the greatest is among them, and none exceeds it
pub greatest_among : (xs : List ℕ) (c : ℕ) → Among c xs → Among (fold max 0 xs) xs
greatest_among xs c m =
    let all = fold_max_cases 0 xs in
    elim all.0 [
      | inl e ↦ let z : c ≡ fold max 0 xs = omega (arith, all.2 c m, e) in subst (λ k. Among k xs) z m
      | inr k ↦ k
    ]

pub greatest_over : (xs : List ℕ) (b : ℕ) → Among b xs → b ≤ fold max 0 xs
greatest_over xs b m = (fold_max_cases 0 xs).2 b m

-- and only one number is so
pub greatest_is : (xs : List ℕ) (g : ℕ) → Among g xs → ((b : ℕ) → Among b xs → b ≤ g) → fold max 0 xs ≡ g
greatest_is xs g m h = omega (arith, greatest_over xs g m, h (fold max 0 xs) (greatest_among xs g m))

-- ---- no repetition

-- no element is one of the later ones
abbrev pub Once : {X : Type 0} → List X → Type 0
Once [] = Unit {0}
Once (x ∷ xs) = (Among x xs → ⊥) × Once xs

module _ {X : Type 0} where
  pub once_append : (xs ys : List X) → Once xs → Once ys → ((x : X) → Among x xs → Among x ys → ⊥) → Once (xs ++ ys)
  once_append [] ys a b h = b
  once_append (x ∷ xs) ys a b h = (
    λ m. elim (among_cases x xs ys m) [ inl k ↦ a.0 k | inr k ↦ h x (inl refl) k ],
    once_append xs ys a.1 b (λ y m k. h y (inr m) k),
  )

  pub once_filter : (p : X → Bool) (xs : List X) → Once xs → Once (filter p xs)
  once_filter p [] o = tt
  once_filter p (x ∷ xs) o = by (p x) (once_filter p xs o.1)
    where
      by : (b : Bool) → Once (filter p xs) → Once (cond b (x ∷ filter p xs) (filter p xs))
      by true r = (λ m. o.0 (among_from_filter p x xs m).0, r)
      by false r = r

  -- as std says it, by places
  pub among_at : (xs : List X) (k : ℕ) (d : X) → k < length xs → Among (get_or xs k d) xs
  among_at [] k d h = absurd (omega arith)
  among_at (x ∷ xs) zero d h = inl refl
  among_at (x ∷ xs) (suc k) d h = inr (among_at xs k d (omega arith))

  pub place_of_among : (xs : List X) (x : X) → Among x xs → Contains xs x
  place_of_among [] x m = absurd m
  place_of_among (y ∷ xs) x m =
      elim m [
        | inl e ↦ (0, omega arith, sym e)
        | inr r ↦ let s = place_of_among xs x r in (suc s.0, omega (arith, s.1), s.2)
      ]

  pub among_of_place : (xs : List X) (x : X) → Contains xs x → Among x xs
  among_of_place xs x c = subst (λ y. Among y xs) c.2 (among_at xs c.0 x c.1)

  pub apart_by_places : (xs : List X) → Once xs → AllPairs (λ x y. x ≢ y) xs
  apart_by_places [] o i j d a b = absurd (omega arith)
  apart_by_places (x ∷ xs) o zero zero d a b = absurd (omega arith)
  apart_by_places (x ∷ xs) o zero (suc j) d a b = λ e. o.0 (subst (λ y. Among y xs) (sym e) (among_at xs j d (omega arith)))
  apart_by_places (x ∷ xs) o (suc i) zero d a b = absurd (omega arith)
  apart_by_places (x ∷ xs) o (suc i) (suc j) d a b = apart_by_places xs o.1 i j d (omega arith) (omega arith)

module _ {X Y : Type 0} where
  pub once_map : (f : X → Y) (xs : List X) → ((x y : X) → f x ≡ f y → x ≡ y) → Once xs → Once (map f xs)
  once_map f [] h o = tt
  once_map f (x ∷ xs) h o = (
    λ m. let s = among_from_map f (f x) xs m in o.0 (subst (λ y. Among y xs) (sym (h x s.0 s.2)) s.1),
    once_map f xs h o.1,
  )

  -- pieces with no repetition, no two of which have an element in common
  pub once_flat_map : (f : X → List Y) (xs : List X) → Once xs → ((x : X) → Among x xs → Once (f x)) →
      ((x y : X) (z : Y) → Among z (f x) → Among z (f y) → x ≡ y) → Once (flat_map f xs)
  once_flat_map f [] o each apart = tt
  once_flat_map f (x ∷ xs) o each apart =
      once_append (f x) (flat_map f xs) (each x (inl refl)) (once_flat_map f xs o.1 (λ y m. each y (inr m)) apart)
      (λ z m k. let s = among_from_flat_map f z xs k in o.0 (subst (λ y. Among y xs) (sym (apart x s.0 z m s.2)) s.1))
