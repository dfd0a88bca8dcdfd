-- The functions reached by restricting some variables and then others.
--     subfunctions_parts, reach_parts      of one function; of some
use Rattle.std.proofs.Common.{◌≡◌, ℕ, true, false, List, [], ◌∷◌, ◌++◌, ap, refl}
use Rattle.std.specs.List.{flat_map}
use Rattle.std.proofs.lemmas.List.Concat.{flat_map-append}
use Rattle.definitions.specs.Functions.{Function, restrict}
use Rattle.definitions.specs.Levels.{subfunctions, reach}
use Rattle.definitions.proofs.Lists.Maps.{flat_map_same, flat_map_parts}

pub subfunctions_parts : (xs ys : List ℕ) (f : Function) → subfunctions (xs ++ ys) f ≡ flat_map (subfunctions ys) (subfunctions xs f)
unfolding subfunctions
subfunctions_parts [] ys f = append_nil (subfunctions ys f)
  where
    append_nil : (zs : List Function) → zs ≡ zs ++ []
    append_nil [] = refl
    append_nil (z ∷ zs) = ap (λ us. z ∷ us) (append_nil zs)
subfunctions_parts (x ∷ xs) ys f =
    search (flat_map-append, subfunctions_parts xs ys (restrict x false f), subfunctions_parts xs ys (restrict x true f))

pub reach_parts : (F : List Function) (xs ys : List ℕ) → reach F (xs ++ ys) ≡ flat_map (subfunctions ys) (reach F xs)
unfolding reach
reach_parts F xs ys = search (flat_map_same, subfunctions_parts, flat_map_parts)
