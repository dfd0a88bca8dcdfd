use Rattle.definitions.proofs.Sifting.BestPlaces.{best_at_best_place, best_from_place}
use Rattle.order_model.proofs.laws.best_places_are_uppermost_and_least.Goals as goal

pub returns-clause-some : goal.returns-clause-some
returns-clause-some c = best_at_best_place

pub returns-clause-only : goal.returns-clause-only
returns-clause-only c = best_from_place
