-- Entries whose keys rise.
use Rattle.std.proofs.Common.{ℕ, ◌<◌, suc, List, [], ◌∷◌, Option, None, Some, arith}
use Rattle.std.specs.List.{AllByRecursion, AllPairs}
use Rattle.std.proofs.lemmas.List.Kept.{AllPairs-cons}
use Rattle.std.proofs.lemmas.List.Elements.{All-from_recursion}

-- a key above one that may have come before
abbrev pub IsAbove : Option ℕ → ℕ → Type 0
IsAbove None k = Unit {0}
IsAbove (Some j) k = j < k

module _ {E : Type 0} (key_of : E → ℕ) where
  abbrev Rise : E → E → Type 0
  Rise a b = key_of a < key_of b

  -- keys that rise from one that may have come before
  abbrev pub RiseFrom : Option ℕ → List E → Type 0
  RiseFrom before [] = Unit {0}
  RiseFrom before (e ∷ es) = IsAbove before (key_of e) × RiseFrom (Some (key_of e)) es

  pub rise_pairs : (before : Option ℕ) (es : List E) → RiseFrom before es → AllPairs Rise es
  rise_pairs before [] rise = grind arith
  rise_pairs before (e ∷ es) (above, rise) =
      AllPairs-cons Rise e es (All-from_recursion _ es (later (key_of e) es rise)) (rise_pairs (Some (key_of e)) es rise) where
        lower : (j k : ℕ) (xs : List E) → j < k → AllByRecursion (λ x. k < key_of x) xs → AllByRecursion (λ x. j < key_of x) xs
        lower j k [] less all = tt
        lower j k (x ∷ xs) less (here, all) = (omega arith, lower j k xs less all)

        later : (k : ℕ) (xs : List E) → RiseFrom (Some k) xs → AllByRecursion (λ x. k < key_of x) xs
        later k [] more = tt
        later k (x ∷ xs) (first, more) = (first, lower k (key_of x) xs first (later (key_of x) xs more))

  pub pairs_rise : (es : List E) → AllPairs Rise es → RiseFrom None es
  pairs_rise [] all = tt
  pairs_rise (e ∷ es) all = (tt, from e es all) where
    tail : (x : E) (xs : List E) → AllPairs Rise (x ∷ xs) → AllPairs Rise xs
    tail x xs h i j d less within = h (suc i) (suc j) d (omega arith) (omega arith)

    from : (x : E) (xs : List E) → AllPairs Rise (x ∷ xs) → RiseFrom (Some (key_of x)) xs
    from x [] h = tt
    from x (y ∷ ys) h = (h 0 1 x (omega arith) (omega arith), from y ys (tail x (y ∷ ys) h))
