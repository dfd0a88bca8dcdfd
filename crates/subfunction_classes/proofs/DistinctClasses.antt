-- Where no class occurs twice, no pair does.
--     low_rises      lower entries rise with the pairs
--     distinct_first      each pair is the first of its kind
use Rattle.std.proofs.Common.{◌≡◌, ◌≢◌, ℕ, ◌+◌, ◌*◌, ◌/◌, ◌^◌, ◌<◌, ◌≤◌, List, length, get_or, refl, ap, arith}
use Rattle.std.proofs.lemmas.Nat.{pow_pos}
use Rattle.subfunction_classes.specs.Numbering.{IsFirstOccurrence}
use Rattle.subfunction_classes.specs.Places.{low_place, pairs}
use Rattle.subfunction_classes.proofs.Index.{pair_within, first_listed}

low_is : (step j : ℕ) → low_place step j ≡ j + j / step * step
low_is step j = omega arith

quotient_rises : (step i j : ℕ) → 0 < step → i < j → i / step * step ≤ j / step * step
quotient_rises step i j some lt = grind arith

pub low_rises : (step i j : ℕ) → 0 < step → i < j → low_place step i < low_place step j
low_rises step i j some lt = omega (arith, quotient_rises step i j some lt)

pub distinct_first : (cs : List ℕ) (r : ℕ) → ((blocks : ℕ) × (length cs ≡ blocks * (2 * 2 ^ r))) →
    ((i j : ℕ) → i < j → j < length cs → get_or cs i 0 ≢ get_or cs j 0) → (j : ℕ) → j < length cs / 2 →
    IsFirstOccurrence (λ i. get_or (pairs cs (2 ^ r)) i (0, 0)) j j
distinct_first cs r whole apart j h = first_listed cs (2 ^ r) j j h (record {
  before = omega arith;
  same = refl;
  none = λ i lt e.
      let w = pair_within (2 ^ r) whole.0 (length cs) j (pow_pos r) whole.1 h in
      apart (low_place (2 ^ r) i) (low_place (2 ^ r) j) (low_rises (2 ^ r) i j (pow_pos r) lt) (omega arith) (ap (λ (p : ℕ × ℕ). p.0) e);
})
