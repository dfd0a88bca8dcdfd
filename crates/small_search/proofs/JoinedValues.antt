-- Values joined pair by pair.
--     AreJoinedTo before x count values k      those of the first k pairs are
--     joined_one      one pair more
use Rattle.std.proofs.Common.{◌≡◌, ℕ, ◌+◌, ◌*◌, ◌/◌, ◌^◌, ◌<◌, inl, inr, List, length, get_or, set, sym, ap, ◌∙◌, arith, get_or-set_same, get_or-set_other}
use Rattle.std.proofs.lemmas.Bool.{cases_eq}
use Rattle.std.proofs.lemmas.List.{length-set}
use Rattle.subfunction_classes.specs.Places.{pair_at}

pub record AreJoinedTo (before : List ℕ) (x count : ℕ) (values : List ℕ) (k : ℕ) : Type 0 where
  pub long : length values ≡ length before / 2
  pub each : (j : ℕ) → j < k → get_or values j 0 ≡ (pair_at before (2 ^ x) j).0 + (pair_at before (2 ^ x) j).1 * count

pub joined_one : (before : List ℕ) (x count : ℕ) (values : List ℕ) (k v : ℕ) → k < length before / 2 →
    v ≡ (pair_at before (2 ^ x) k).0 + (pair_at before (2 ^ x) k).1 * count → AreJoinedTo before x count values k →
    AreJoinedTo before x count (set values k v) (k + 1)
joined_one before x count values k v small is h = record {
  long = length-set values k v ∙ h.long;
  each = λ j l. elim (cases_eq j k) [
    | inl e ↦ ap (λ i. get_or (set values k v) i 0) e ∙ get_or-set_same values k v 0 (let m = h.long in omega arith) ∙ is
        ∙ ap (λ i. (pair_at before (2 ^ x) i).0 + (pair_at before (2 ^ x) i).1 * count) (sym e)
    | inr ne ↦ get_or-set_other values k j v 0 ne ∙ h.each j (omega (arith, ne))
  ];
}
