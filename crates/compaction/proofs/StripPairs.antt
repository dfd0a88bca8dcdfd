-- Pairs of strips: the two strips of each distinct pair, one behind the other.
--     names_of_below      the names in pairs of names are names
--     paired_named, paired_long, paired_few, paired_lower, paired_upper      the strips of the pairs of names
use Rattle.std.proofs.Common.{◌≡◌, ℕ, zero, suc, ◌+◌, ◌*◌, ◌/◌, ◌^◌, ◌<◌, ◌≤◌, List, [], ◌∷◌, length, get_or, ap, ◌∙◌, arith}
use Rattle.std.specs.Set.{distinct_count}
use Rattle.std.proofs.Math.Nat.{mul-le-mul_right}
use Rattle.std.proofs.lemmas.Map.Made.{distinct_count-le}
use Rattle.definitions.specs.Widths.{same_pair}
use Rattle.pair_numbering.specs.Numbers.{ArePairsNumbered}
use Rattle.subfunction_classes.specs.Places as places
use Rattle.subfunction_classes.specs.Strips.{AreNamed, names_of, unrolled}
use Rattle.compaction.specs.ValueStrips.{AreStrips}
use Rattle.subfunction_classes.proofs.DistinctPairs.{met_classes, number_below, pair_numbered}
use Rattle.subfunction_classes.proofs.Index.{length-pairs, pair_listed}
use Rattle.subfunction_classes.proofs.StripLengths.{length_named, length_names_of, name_high, name_low, named_at}

pub names_of_below : (count : ℕ) (pairs : List (ℕ × ℕ)) →
    ((k : ℕ) → k < length pairs → ((get_or pairs k (0, 0)).0 < count) × ((get_or pairs k (0, 0)).1 < count)) → (i : ℕ) →
    i < length (names_of pairs) → get_or (names_of pairs) i 0 < count
unfolding names_of
names_of_below count [] h i l = absurd (omega arith)
names_of_below count (p ∷ ps) h zero l = (h 0 (omega arith)).0
names_of_below count (p ∷ ps) h (suc zero) l = (h 0 (omega arith)).1
names_of_below count (p ∷ ps) h (suc (suc i)) l = names_of_below count ps (λ k m. h (suc k) (omega arith)) i (omega arith)

module _ (outer numbers : List ℕ) (len r : ℕ) (strips : AreStrips outer numbers len)
    (whole : (blocks : ℕ) × (length outer ≡ blocks * (2 * 2 ^ r))) (numbered : List ℕ) (pairs : List (ℕ × ℕ))
    (h : ArePairsNumbered outer r numbered pairs) where
  pub paired_named : AreNamed (names_of pairs) numbers len
  paired_named =
      record {
        count =
            strips.count;
        whole =
            strips.whole;
        within =
            names_of_below strips.count pairs
            (met_classes outer r strips.count whole strips.within numbered pairs h.numbered_are h.many h.labels);
      }

  module _ (paired : List ℕ) (are : paired ≡ unrolled (names_of pairs) numbers len) where
    pub paired_long : length paired ≡ distinct_count same_pair (places.pairs outer (2 ^ r)) * (2 * len)
    paired_long =
        ap length are ∙ length_named (names_of pairs) numbers len paired_named ∙ ap (λ k. k * len) (length_names_of pairs ∙ ap (λ k. k * 2) h.many)
        ∙ (let e : distinct_count same_pair (places.pairs outer (2 ^ r)) * 2 * len ≡ distinct_count same_pair (places.pairs outer (2 ^ r)) *
        (2 * len) =
        grind arith in e)

    pub paired_lower : (j a : ℕ) → j < length outer / 2 → a < len →
        get_or paired (get_or numbered j 0 * (2 * len) + a) 0 ≡ get_or numbers (get_or outer (places.low_place (2 ^ r) j) 0 * len + a) 0
    paired_lower j a l i =
        let s = length-pairs outer (2 ^ r) in
        let n = length_names_of pairs in
        let k = get_or numbered j 0 in
        let b = number_below (places.pairs outer (2 ^ r)) numbered pairs h.numbered_are h.many h.labels j (omega arith) in
        let p = pair_numbered (places.pairs outer (2 ^ r)) numbered pairs h.numbered_are h.many h.labels j (omega arith) ∙ pair_listed outer (2 ^ r) j l in
        ap (λ us. get_or us (k * (2 * len) + a) 0) are
        ∙ ap (λ z. get_or (unrolled (names_of pairs) numbers len) z 0) (let e : k * (2 * len) + a ≡ k * 2 * len + a = grind arith in e)
        ∙ named_at (names_of pairs) numbers len paired_named (k * 2) a (omega arith) i
        ∙ ap (λ z. get_or numbers (z * len + a) 0) (name_low pairs k b ∙ ap (λ (q : ℕ × ℕ). q.0) p)

    pub paired_upper : (j a : ℕ) → j < length outer / 2 → a < len →
        get_or paired (get_or numbered j 0 * (2 * len) + len + a) 0 ≡ get_or numbers (get_or outer (places.low_place (2 ^ r) j + 2 ^ r) 0 * len + a) 0
    paired_upper j a l i =
        let s = length-pairs outer (2 ^ r) in
        let n = length_names_of pairs in
        let k = get_or numbered j 0 in
        let b = number_below (places.pairs outer (2 ^ r)) numbered pairs h.numbered_are h.many h.labels j (omega arith) in
        let p = pair_numbered (places.pairs outer (2 ^ r)) numbered pairs h.numbered_are h.many h.labels j (omega arith) ∙ pair_listed outer (2 ^ r) j l in
        ap (λ us. get_or us (k * (2 * len) + len + a) 0) are
        ∙ ap (λ z. get_or (unrolled (names_of pairs) numbers len) z 0) (let e : k * (2 * len) + len + a ≡ (k * 2 + 1) * len + a = grind arith in e)
        ∙ named_at (names_of pairs) numbers len paired_named (k * 2 + 1) a (omega arith) i
        ∙ ap (λ z. get_or numbers (z * len + a) 0) (name_high pairs k b ∙ ap (λ (q : ℕ × ℕ). q.1) p)

    -- there are no more of them than entries
    pub paired_few : length paired ≤ length outer * len
    paired_few =
        let d = distinct_count-le same_pair (places.pairs outer (2 ^ r)) in
        let l = length-pairs outer (2 ^ r) in
        let w = whole.1 in
        let m = paired_long in
        let z : whole.0 * (2 * 2 ^ r) ≡ 2 * (whole.0 * 2 ^ r) = grind arith in
        let p = mul-le-mul_right len (let q : 2 * distinct_count same_pair (places.pairs outer (2 ^ r)) ≤ length outer = omega arith in q) in
        let e : 2 * distinct_count same_pair (places.pairs outer (2 ^ r)) * len ≡ distinct_count same_pair (places.pairs outer (2 ^ r)) *
        (2 * len) =
        grind arith in
        omega arith
