-- Values of pairs, joined.
--     AreJoined before x count values      each of `values` is the entry of `before` where x is 0, plus `count` times the one where x is 1
--     IsJoinedAt entries old new x size      the values over `size` variables are those over one variable less, joined; the others stay
use Rattle.std.specs.Prelude.{◌≡◌, ◌≢◌, ℕ, ◌+◌, ◌-◌, ◌*◌, ◌/◌, ◌^◌, ◌<◌, ◌≤◌, List, length, slice_index}
use Rattle.subfunction_classes.specs.Places.{pair_at}
use Rattle.small_search.specs.ValuePlaces.{values_at}

pub record AreJoined (before : List ℕ) (x count : ℕ) (values : List ℕ) : Type 0 where
  pub long : length values ≡ length before / 2
  pub each : (j : ℕ) → j < length values →
      let p = pair_at before (2 ^ x) j in
      slice_index values j ≡ p.0 + p.1 * count

pub record IsJoinedAt (entries : ℕ) (old new : List ℕ) (x size : ℕ) : Type 0 where
  pub joined : AreJoined (values_at entries old (size - 1)) x (2 ^ 2 ^ (size - 1)) (values_at entries new size)
  pub others : (k : ℕ) → k ≤ 3 → k ≢ size → values_at entries new k ≡ values_at entries old k
  pub long : length new ≡ length old
