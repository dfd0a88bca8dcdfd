use Rattle.std.proofs.Common.{◌≡◌, ℕ, ◌<◌, List, map, get_or, refl, ap, ◌∙◌, arith}
use Rattle.std.specs.List.{range_with_len}
use Rattle.std.proofs.lemmas.List.FromFn.{get_or-map-range_with_len}
use Rattle.small_search.specs.Values.{places}
use Rattle.small_search.proofs.ValuePlaces.{places_below}
use Rattle.small_search.proofs.classes.places_of.Goals as goal

listed : (xs : List ℕ) → xs ≡ map (places 3) (range_with_len 0 256) → (v : ℕ) → v < 256 → get_or xs v 0 ≡ places 3 v
listed xs e v l = ap (λ us. get_or us v 0) e ∙ get_or-map-range_with_len (places 3) 0 256 v v 0 l (omega arith)

pub returns-clause-places : goal.returns-clause-places
unfolding places
returns-clause-places c = listed _ refl c.args.value c.requires

pub returns-clause-few : goal.returns-clause-few
returns-clause-few c =
    let e = returns-clause-places c in
    let b = places_below 3 c.args.value in
    omega (arith, e, b)
