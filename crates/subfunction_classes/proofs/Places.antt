-- Where the pairs of restrictions stand in a class table.
--     subfunctions_restrict      restricting by another variable first is restricting by it last
--     pairs_are      the pairs of entries, where a table is made of blocks of equal length with the variable 0 and 1 by turns
use Rattle.std.proofs.Common.{◌≡◌, ℕ, zero, suc, ◌+◌, ◌-◌, ◌*◌, ◌<◌, Bool, true, false, inl, inr, List, [], ◌∷◌, ◌++◌, map, length, get_or, refl, sym, ap, ap₂, ◌∙◌, arith}
use Rattle.std.specs.List.{flat_map, range_with_len}
use Rattle.std.proofs.lemmas.Bool.{cases_lt}
use Rattle.std.proofs.lemmas.List.{map-append, length-append, length-map, get_or_append_left, get_or-append-add}
use Rattle.std.proofs.lemmas.List.FromFn.{fill_by_all}
use Rattle.std.proofs.Math.Nat.{div-eq_of_lt, mod-eq_of_lt}
use Rattle.definitions.specs.Functions.{Function, restrict}
use Rattle.definitions.specs.Levels.{subfunctions}
use Rattle.definitions.proofs.Functions.Tables.{restrict_comm}
use Rattle.subfunction_classes.specs.Places.{low_place, pair_at, pairs}

-- each variable of the list is another one than x
abbrev pub Apart : ℕ → List ℕ → Type 0
Apart x [] = Unit {0}
Apart x (y ∷ ys) = (x ≡ y → ⊥) × Apart x ys

pub subfunctions_restrict : (x : ℕ) (b : Bool) (ys : List ℕ) → Apart x ys → (f : Function) →
    subfunctions ys (restrict x b f) ≡ map (restrict x b) (subfunctions ys f)
unfolding subfunctions
subfunctions_restrict x b [] a f = refl
subfunctions_restrict x b (y ∷ ys) a f =
    grind (
      arith,
      restrict_comm,
      map-append,
      subfunctions_restrict x b ys a.1 (restrict y false f),
      subfunctions_restrict x b ys a.1 (restrict y true f),
    )

-- ---- blocks

-- the first pairs stand in the first two blocks
low_first : (step j : ℕ) → j < step → low_place step j ≡ j
low_first step j h = let e = div-eq_of_lt h in let m = mod-eq_of_lt h in ap₂ (λ q r. q * (2 * step) + r) e m ∙ omega arith

-- the later ones stand two blocks further on
low_later : (step j : ℕ) → 0 < step → low_place step (step + j) ≡ (step + step) + low_place step j
low_later step j h = grind arith

module _ {X Y : Type 0} (low high : Y → ℕ) (block : X → List Y) (step : ℕ) (long : (x : X) → length (block x) ≡ step) (some : 0 < step) where
  both : X → List ℕ
  both x = map low (block x) ++ map high (block x)

  values : Y → ℕ × ℕ
  values y = (low y, high y)

  length-both : (x : X) → length (both x) ≡ step + step
  unfolding both
  length-both x = grind (arith, length-append, length-map)

  length-all : (xs : List X) → length (flat_map both xs) ≡ 2 * length (flat_map block xs)
  length-all [] = refl
  length-all (x ∷ xs) = grind (arith, length-append, length-both, length-all xs)

  values_at : (ys : List Y) (j : ℕ) (d : ℕ × ℕ) → j < length ys → get_or (map values ys) j d ≡ (get_or (map low ys) j 0, get_or (map high ys) j 0)
  unfolding values
  values_at [] j d h = absurd (omega arith)
  values_at (y ∷ ys) zero d h = refl
  values_at (y ∷ ys) (suc j) d h = values_at ys j d (omega arith)

  length-values : (ys : List Y) → length (map values ys) ≡ length ys
  length-values ys = length-map ys values

  -- the element at a place of the second part
  behind : {A : Type 0} (us vs : List A) (i k : ℕ) (d : A) → i ≡ length us + k → get_or (us ++ vs) i d ≡ get_or vs k d
  behind us vs i k d e = ap (λ z. get_or (us ++ vs) z d) e ∙ get_or-append-add us vs k d

  pair_is : (xs : List X) (j : ℕ) (d : ℕ × ℕ) → j < length (flat_map block xs) → get_or (map values (flat_map block xs)) j d ≡ pair_at (flat_map both xs) step j
  unfolding both
  pair_is [] j d h = absurd (omega arith)
  pair_is (x ∷ xs) j d h =
      elim (cases_lt j step) [
        | inl lt ↦ ap (λ us. get_or us j d) front ∙ first lt
        | inr ge ↦ ap (λ us. get_or us j d) front
            ∙ later (j - step) (omega arith)
            (pair_is xs (j - step) d (omega (arith, length-append (block x) (flat_map block xs))))
      ]
    where
      front : map values (flat_map block (x ∷ xs)) ≡ map values (block x) ++ map values (flat_map block xs)
      front = map-append values (block x) (flat_map block xs)

      long_low : length (map low (block x)) ≡ step
      long_low = length-map (block x) low ∙ long x

      long_high : length (map high (block x)) ≡ step
      long_high = length-map (block x) high ∙ long x

      first : j < step → get_or (map values (block x) ++ map values (flat_map block xs)) j d ≡ pair_at (both x ++ flat_map both xs) step j
      first lt =
          let lv = length-values (block x) in
          let ll = long_low in
          let lh = long_high in
          let lb = length-append (map low (block x)) (map high (block x)) in
          let rest = flat_map both xs in
          let low_here : get_or (both x ++ rest) j 0 ≡ get_or (map low (block x)) j 0 =
          grind (arith, get_or_append_left) in
          let high_here : get_or (both x ++ rest) (j + step) 0 ≡ get_or (map high (block x)) j 0 =
          grind (arith, get_or_append_left, behind) in
          get_or_append_left (map values (block x)) (map values (flat_map block xs)) d j (omega arith) ∙ values_at (block x) j d (omega arith)
          ∙ sym (ap (λ z. (get_or (both x ++ rest) z 0, get_or (both x ++ rest) (z + step) 0)) (low_first step j lt) ∙ (λ i. (low_here i, high_here i)))

      later : (k : ℕ) → j ≡ step + k → get_or (map values (flat_map block xs)) k d ≡ pair_at (flat_map both xs) step k →
          get_or (map values (block x) ++ map values (flat_map block xs)) j d ≡ pair_at (both x ++ flat_map both xs) step j
      later k e r =
          let lv = length-values (block x) in
          grind (arith, length-both, low_later, behind)

  -- the pairs of entries, where a table is made of blocks of equal length with the variable 0 and 1 by turns
  pub pairs_are : (xs : List X) → pairs (flat_map (λ x. map low (block x) ++ map high (block x)) xs) step ≡ map (λ y. (low y, high y)) (flat_map block xs)
  unfolding pairs values both
  pairs_are xs =
      ap (λ h. map (pair_at (flat_map both xs) step) (range_with_len 0 h)) (omega (arith, length-all xs))
      ∙ sym (fill_by_all (pair_at (flat_map both xs) step) (map values (flat_map block xs)) (length (flat_map block xs)) (0, 0)
      (length-values (flat_map block xs)) (λ k h. pair_is xs k (0, 0) h))
