-- Strips that are named in order: their entries are all entries.
--     ordered_whole      whole pairs of entries
--     ordered_strips, ordered_tells      one more variable above the strips
use Rattle.std.proofs.Common.{◌≡◌, ℕ, ◌*◌, ◌/◌, ◌<◌, List, length, get_or, sym, ap, ◌∙◌, subst, arith}
use Rattle.subfunction_classes.specs.Places.{pairs}
use Rattle.subfunction_classes.specs.Strips.{unrolled}
use Rattle.compaction.specs.ValueStrips.{AreStrips}
use Rattle.pair_numbering.specs.Keys.{TellsPairs}
use Rattle.compaction.proofs.AllDistinct.{own_count}
use Rattle.compaction.proofs.StripNumbers.{whole_are, whole_values}
use Rattle.subfunction_classes.proofs.Index.{length-pairs}
use Rattle.pair_numbering.proofs.Names.{length_names}

module _ (outer numbers : List ℕ) (len s : ℕ) (strips : AreStrips outer numbers len) (some : 0 < len)
    (own : (i : ℕ) → i < length outer → get_or outer i 0 ≡ i) (whole : (blocks : ℕ) × (length outer ≡ blocks * (2 * s))) where
  numbers_long : length numbers ≡ length outer * len
  numbers_long = strips.whole ∙ ap (λ k. k * len) (own_count outer numbers len strips own)

  pub ordered_whole : (blocks : ℕ) × (length numbers ≡ blocks * (2 * (len * s)))
  ordered_whole = (whole.0, numbers_long ∙ ap (λ k. k * len) whole.1 ∙ grind arith)

  module _ (masks : List ℕ) (x : ℕ) (labels joined : List ℕ) (names : TellsPairs masks x (pairs numbers (len * s)) labels joined)
      (outer' : List ℕ) (long : length outer' ≡ length outer / 2)
      (own' : (i : ℕ) → i < length outer / 2 → get_or outer' i 0 ≡ i) where
    told_long : length labels ≡ length outer' * len
    told_long =
        let n = length_names masks x (pairs numbers (len * s)) labels joined names in
        let m = length-pairs numbers (len * s) in
        let l = numbers_long in
        let w = whole.1 in
        let even : length outer ≡ 2 * (length outer / 2) = (let z : whole.0 * (2 * s) ≡ 2 * (whole.0 * s) = grind arith in omega arith) in
        let e = ap (λ k. k * len) even in
        let z : 2 * (length outer / 2) * len ≡ 2 * (length outer / 2 * len) = grind arith in
        let h : length labels ≡ length outer / 2 * len = omega arith in
        h ∙ ap (λ k. k * len) (sym long)

    named : (i : ℕ) → i < length outer' → get_or outer' i 0 ≡ i
    named i h = own' i (omega arith)

    pub ordered_strips : AreStrips outer' labels len
    ordered_strips = whole_are outer' labels len told_long named

    pub ordered_tells : TellsPairs masks x (pairs (unrolled outer numbers len) (len * s)) (unrolled outer' labels len) joined
    ordered_tells =
        subst (λ us. TellsPairs masks x (pairs us (len * s)) (unrolled outer' labels len) joined) (sym (whole_values outer numbers len some numbers_long own))
        (subst (λ us. TellsPairs masks x (pairs numbers (len * s)) us joined) (sym (whole_values outer' labels len some told_long named)) names)
