-- Lists of which one element is replaced or one is added at the end.
use Rattle.std.proofs.Common.{◌≡◌, ◌≢◌, ℕ, zero, suc, ◌<◌, ◌⊎◌, Bool, true, false, List, [], ◌∷◌, ◌++◌, map, replicate, set, get_or, length, get_or-set_same, get_or-set_other, sym, refl, ap, ◌∙◌, subst, inl, inr, ⊎_elim, arith}
use mathlib.Core.Option.{some, some-injective, some-ne-none}
use mathlib.Core.Logic.{dite}
use native.Mathlib.Decide.{ℕ_discrete}
use lib.ListN.{get_elem?}

module _ {A : Type 0} where
  at_set : (l : List A) (i j : ℕ) (a b : A) → get_elem? (set l i a) j ≡ some b → ((j ≡ i) × (a ≡ b)) ⊎ ((j ≢ i) × (get_elem? l j ≡ some b))
  at_set [] i j a b e = absurd (some-ne-none b (sym e))
  at_set (x ∷ xs) zero zero a b e = inl (refl, some-injective a b e)
  at_set (x ∷ xs) zero (suc j) a b e = inr ((λ h. omega arith), e)
  at_set (x ∷ xs) (suc i) zero a b e = inr ((λ h. omega arith), e)
  at_set (x ∷ xs) (suc i) (suc j) a b e = ⊎_elim (λ t. inl (ap suc t.0, t.1)) (λ t. let n = t.0 in inr ((λ h. n (omega arith)), t.1)) (at_set xs i j a b e)

  pub set_here : (l : List A) (i : ℕ) (a : A) → i < length l → get_elem? (set l i a) i ≡ some a
  set_here [] i a h = absurd (omega arith)
  set_here (x ∷ xs) zero a h = refl
  set_here (x ∷ xs) (suc i) a h = set_here xs i a (omega arith)

  pub at_index : (l : List A) (i : ℕ) (a : A) → i < length l → a ≡ get_or l i a → get_elem? l i ≡ some a
  at_index [] i a h e = absurd (omega arith)
  at_index (x ∷ xs) zero a h e = ap some (sym e)
  at_index (x ∷ xs) (suc i) a h e = at_index xs i a (omega arith) e

  pub at_map : {B : Type 0} (f : A → B) (l : List A) (i : ℕ) (a : A) → get_elem? l i ≡ some a → get_elem? (map f l) i ≡ some (f a)
  at_map f [] i a e = absurd (some-ne-none a (sym e))
  at_map f (x ∷ xs) zero a e = ap (λ (y : A). some (f y)) (some-injective x a e)
  at_map f (x ∷ xs) (suc i) a e = at_map f xs i a e

  set_else : (l : List A) (i j : ℕ) (a : A) → j ≢ i → get_elem? (set l i a) j ≡ get_elem? l j
  set_else [] i j a n = refl
  set_else (x ∷ xs) zero zero a n = absurd (n refl)
  set_else (x ∷ xs) zero (suc j) a n = refl
  set_else (x ∷ xs) (suc i) zero a n = refl
  set_else (x ∷ xs) (suc i) (suc j) a n = set_else xs i j a (λ e. n (ap suc e))

  at_snoc : (l : List A) (a b : A) (j : ℕ) → get_elem? (l ++ a ∷ []) j ≡ some b → (get_elem? l j ≡ some b) ⊎ (a ≡ b)
  at_snoc [] a b zero e = inr (some-injective a b e)
  at_snoc [] a b (suc j) e = absurd (some-ne-none b (sym e))
  at_snoc (x ∷ xs) a b zero e = inl e
  at_snoc (x ∷ xs) a b (suc j) e = at_snoc xs a b j e

  pub at_longer : (l m : List A) (i : ℕ) (a : A) → get_elem? l i ≡ some a → get_elem? (l ++ m) i ≡ some a
  at_longer [] m i a e = absurd (some-ne-none a (sym e))
  at_longer (x ∷ xs) m zero a e = e
  at_longer (x ∷ xs) m (suc i) a e = at_longer xs m i a e

  pub bounded : (l : List A) (i : ℕ) (v : A) → get_elem? l i ≡ some v → i < length l
  bounded [] i v e = absurd (some-ne-none v (sym e))
  bounded (x ∷ xs) zero v e = omega arith
  bounded (x ∷ xs) (suc i) v e = omega (arith, bounded xs i v e)

  -- a fact of each element, after one is replaced
  pub each_set : (P : ℕ → A → Type 0) (l : List A) (i : ℕ) (w : A) → ((j : ℕ) (u : A) → get_elem? l j ≡ some u → P j u) → P i w
      → (j : ℕ) (u : A) → get_elem? (set l i w) j ≡ some u → P j u
  each_set P l i w all it j u e = grind (arith, at_set)

  pub each_snoc : (P : A → Type 0) (l : List A) (x : A) → ((j : ℕ) (u : A) → get_elem? l j ≡ some u → P u) → P x → (j : ℕ) (u : A) →
      get_elem? (l ++ x ∷ []) j ≡ some u → P u
  each_snoc P l x all it j u e = ⊎_elim (λ (t : get_elem? l j ≡ some u). all j u t) (λ (t : x ≡ u). subst (λ (z : A). P z) t it) (at_snoc l x u j e)

  -- the element at a place, after one is replaced: itself, or what it became
  pub found_set : (P : A → Type 0) (l : List A) (i j : ℕ) (v w u : A) → get_elem? l i ≡ some v → get_elem? l j ≡ some u → P u → (P v → P w)
      → (k : ℕ) × (x : A) × (get_elem? (set l i w) k ≡ some x) × P x
  found_set P l i j v w u at there it more = dite (ℕ_discrete j i)
      (λ same. let is : u ≡ v = some-injective u v (sym there ∙ ap (λ (z : ℕ). get_elem? l z) same ∙ at) in
      (i, w, set_here l i w (bounded l i v at), more (subst P is it)))
      (λ other. (j, u, set_else l i j w other ∙ there, it))

  pub length-same : (n : ℕ) (x : A) → length (replicate n x) ≡ n
  length-same zero x = refl
  length-same (suc n) x = omega (arith, length-same n x)

  pub all_same : (n p : ℕ) (x : A) → get_or (replicate n x) p x ≡ x
  all_same zero p x = refl
  all_same (suc n) zero x = refl
  all_same (suc n) (suc p) x = all_same n p x

  pub found_same : (n i : ℕ) (x w : A) → get_elem? (replicate n x) i ≡ some w → x ≡ w
  found_same zero i x w e = absurd (some-ne-none w (sym e))
  found_same (suc n) zero x w e = some-injective x w e
  found_same (suc n) (suc i) x w e = found_same n i x w e

  -- what is not the default lies in the list
  pub inside : (xs : List A) (p : ℕ) (d : A) → get_or xs p d ≢ d → p < length xs
  inside [] p d h = absurd (h refl)
  inside (x ∷ xs) zero d h = omega arith
  inside (x ∷ xs) (suc p) d h = omega (arith, inside xs p d h)

pub marked_more : (xs : List Bool) (n p : ℕ) → n < length xs → get_or xs p false ≡ true → get_or (set xs n true) p false ≡ true
marked_more xs n p h e = grind (arith, get_or-set_same, get_or-set_other)

pub marked_less : (xs : List Bool) (n p : ℕ) → get_or (set xs n true) p false ≡ true → (p ≡ n) ⊎ (get_or xs p false ≡ true)
marked_less xs n p e = dite (ℕ_discrete p n) (λ same. inl same) (λ other. inr (sym (get_or-set_other xs n p true false other) ∙ e))

pub marked_inside : (xs : List Bool) (p : ℕ) → get_or xs p false ≡ true → p < length xs
marked_inside [] p h = cc
marked_inside (x ∷ xs) zero h = omega arith
marked_inside (x ∷ xs) (suc p) h = omega (arith, marked_inside xs p h)
