-- One more variable in a table kept in strips.
--     low_place_parts      the place of a pair, from its parts
--     high_strips, high_tells      a variable above the strips: pairs of strips are told apart entry by entry
--     low_strips, low_tells      a variable inside the strips
use Rattle.std.proofs.Common.{◌≡◌, ℕ, suc, ◌+◌, ◌*◌, ◌/◌, ◌%◌, ◌<◌, ◌≤◌, List, map, length, get_or, refl, sym, ap, ◌∙◌, subst, arith}
use Rattle.std.specs.Set.{distinct_count}
use Rattle.std.proofs.Math.Nat.{mul-le-mul_right, add-mul-mod_self_right, add-mul-div_right, mod-eq_of_lt, div-eq_of_lt, mod-lt, div-lt_iff_lt-mul}
use Rattle.std.proofs.lemmas.List.{get_or-map, length-map}
use Rattle.definitions.specs.Widths.{same_pair}
use Rattle.definitions.proofs.Widths.ClassPairs.{pair_decides}
use Rattle.subfunction_classes.specs.Numbering.{rank, ranks}
use Rattle.subfunction_classes.specs.Places.{low_place, pair_at, pairs}
use Rattle.subfunction_classes.specs.Strips.{AreNamed, unrolled}
use Rattle.compaction.specs.ValueStrips.{AreStrips}
use Rattle.pair_numbering.specs.Keys.{TellsPairs}
use Rattle.subfunction_classes.proofs.Index.{length-pairs, pair_listed, pair_within}
use Rattle.subfunction_classes.proofs.JoinedMasks.{number_at, length-ranks}
use Rattle.pair_numbering.proofs.Names.{names_among, length_names}
use Rattle.subfunction_classes.proofs.Lists.{place_of}
use Rattle.definitions.proofs.Precedence.Masks.{among_at}
use Rattle.subfunction_classes.proofs.RankLaws.{rank_below, rank_reached}
use Rattle.subfunction_classes.proofs.StripLengths.{length_named, named_at}
use Rattle.compaction.proofs.UnrolledTables.{named_of, same_by_places, length_unrolled, unrolled_at}

-- ---- places

pub low_place_parts : (step q t : ℕ) → t < step → low_place step (q * step + t) ≡ q * (2 * step) + t
low_place_parts step q t h = grind (arith, add-mul-div_right, div-eq_of_lt, add-mul-mod_self_right, mod-eq_of_lt)

pub parts_of : (i s : ℕ) → 0 < s → i ≡ i / s * s + i % s
parts_of i s some = (let m = mod-lt i some in grind arith)

pub below_product : (u k b a : ℕ) → u < k → a < b → u * b + a < k * b
below_product u k b a l h = (let q = mul-le-mul_right b (let s : suc u ≤ k = omega arith in s) in let z : suc u * b ≡ u * b + b = grind arith in omega arith)

-- a place in a longer table
high_place : (len s i a : ℕ) → 0 < s → a < len → low_place (len * s) (i * len + a) ≡ low_place s i * len + a
high_place len s i a some h =
    let q = i / s in
    let t = i % s in
    let m : t < s = mod-lt i some in
    let e : i ≡ q * s + t = parts_of i s some in
    let w : i * len + a ≡ q * (len * s) + (t * len + a) = ap (λ k. k * len + a) e ∙ grind arith in
    let b : t * len + a < len * s = (let p = below_product t s len a m h in let z : s * len ≡ len * s = grind arith in omega arith) in
    ap (low_place (len * s)) w ∙ low_place_parts (len * s) q (t * len + a) b ∙ grind arith

inner_place : (c s i b : ℕ) → 0 < s → low_place s (i * (c * s) + b) ≡ i * (c * (2 * s)) + low_place s b
inner_place c s i b some =
    let q = b / s in
    let t = b % s in
    let m : t < s = mod-lt b some in
    let e : b ≡ q * s + t = parts_of b s some in
    let w : i * (c * s) + b ≡ (i * c + q) * s + t = ap (λ k. i * (c * s) + k) e ∙ grind arith in
    ap (low_place s) w ∙ low_place_parts s (i * c + q) t m ∙ grind arith

half : (c b : ℕ) → c * (2 * b) / 2 ≡ c * b
half c b = (let z : c * (2 * b) ≡ c * b + c * b = grind arith in omega arith)

-- ---- a variable above the strips

module _ (outer numbers : List ℕ) (len s : ℕ) (strips : AreStrips outer numbers len) (some : 0 < len) (some_s : 0 < s)
    (whole : (blocks : ℕ) × (length outer ≡ blocks * (2 * s)))
    (numbered paired : List ℕ) (ranked : numbered ≡ ranks same_pair (pairs outer s))
    (long : length paired ≡ distinct_count same_pair (pairs outer s) * (2 * len))
    (lower : (j a : ℕ) → j < length outer / 2 → a < len →
    get_or paired (get_or numbered j 0 * (2 * len) + a) 0 ≡ get_or numbers (get_or outer (low_place s j) 0 * len + a) 0)
    (upper : (j a : ℕ) → j < length outer / 2 → a < len →
    get_or paired (get_or numbered j 0 * (2 * len) + len + a) 0 ≡ get_or numbers (get_or outer (low_place s j + s) 0 * len + a) 0)
    (masks : List ℕ) (x : ℕ) (labels joined : List ℕ) (names : TellsPairs masks x (pairs paired len) labels joined) where
  ps : List (ℕ × ℕ)
  ps = pairs outer s

  many_numbered : length numbered ≡ length outer / 2
  many_numbered = length-ranks (pairs outer s) numbered ranked ∙ length-pairs outer s

  many_told : length labels ≡ distinct_count same_pair (pairs outer s) * len
  many_told = length_names masks x (pairs paired len) labels joined names ∙ length-pairs paired len ∙ ap (λ k. k / 2) long
      ∙ half (distinct_count same_pair (pairs outer s)) len

  numbered_small : (i : ℕ) → i < length numbered → get_or numbered i 0 < distinct_count same_pair (pairs outer s)
  numbered_small i h =
      let m = many_numbered in
      let l = length-pairs outer s in
      let n = number_at (pairs outer s) numbered i ranked (omega arith) in
      let b = rank_below same_pair pair_decides (pairs outer s) (get_or (pairs outer s) i (0, 0)) (among_at (pairs outer s) i (0, 0) (omega arith)) in
      omega arith

  pub high_strips : AreStrips numbered labels len
  high_strips = record {
    count = distinct_count same_pair (pairs outer s);
    whole = many_told;
    within = numbered_small;
    used = λ k h.
        let r = rank_reached same_pair pair_decides (pairs outer s) k h in
        let i = place_of (0, 0) (pairs outer s) r.0 r.1 in
        let m = many_numbered in
        let l = length-pairs outer s in
        let small = i.1.0 in
        (i.0, (omega arith, number_at (pairs outer s) numbered i.0 ranked small ∙ ap (rank same_pair (pairs outer s)) i.1.1 ∙ r.2));
  }

  U : List ℕ
  U = unrolled outer numbers len

  even : length outer ≡ 2 * (length outer / 2)
  even = (let w = whole.1 in let z : whole.0 * (2 * s) ≡ 2 * (whole.0 * s) = grind arith in omega arith)

  -- the place of a run's entry among the pairs of the longer table, and the place of its name
  entry_pair : (i a : ℕ) → i < length outer / 2 → a < len →
      pair_at (unrolled outer numbers len) (len * s) (i * len + a) ≡
      (get_or numbers (get_or outer (low_place s i) 0 * len + a) 0, get_or numbers (get_or outer (low_place s i + s) 0 * len + a) 0)
  entry_pair i a h k = grind (arith, pair_within, high_place, unrolled_at)

  name_place : (i a : ℕ) → i < length outer / 2 → a < len → get_or numbered i 0 * len + a < length paired / 2
  name_place i a h k =
      let m = many_numbered in
      let b = below_product (get_or numbered i 0) (distinct_count same_pair (pairs outer s)) len a (numbered_small i (omega arith)) k in
      let l = ap (λ z. z / 2) long ∙ half (distinct_count same_pair (pairs outer s)) len in
      omega arith

  name_pair : (i a : ℕ) → i < length outer / 2 → a < len →
      get_or (pairs paired len) (get_or numbered i 0 * len + a) (0, 0) ≡
      (get_or numbers (get_or outer (low_place s i) 0 * len + a) 0, get_or numbers (get_or outer (low_place s i + s) 0 * len + a) 0)
  name_pair i a h k =
      let p = low_place_parts len (get_or numbered i 0) a k in
      let l = ap (λ z. get_or paired z 0) p ∙ lower i a h k in
      let q : low_place len (get_or numbered i 0 * len + a) + len ≡ get_or numbered i 0 * (2 * len) + len + a = ap (λ z. z + len) p ∙ omega arith in
      let u = ap (λ z. get_or paired z 0) q ∙ upper i a h k in
      pair_listed paired len (get_or numbered i 0 * len + a) (name_place i a h k) ∙ (λ z. (l z, u z))

  long_pairs : length (pairs (unrolled outer numbers len) (len * s)) ≡ length outer / 2 * len
  long_pairs =
      (let l = length-pairs (unrolled outer numbers len) (len * s) in
      let u = length_unrolled outer numbers len strips in
      let e = ap (λ z. z * len) even in
      let z : 2 * (length outer / 2) * len ≡ 2 * (length outer / 2 * len) = grind arith in
      omega arith)

  -- the pair of a place
  place_pair : (j : ℕ) → j < length (pairs (unrolled outer numbers len) (len * s)) →
      (get_or (pairs paired len) (get_or numbered (j / len) 0 * len + j % len) (0, 0) ≡ get_or
      (pairs (unrolled outer numbers len) (len * s)) j (0, 0))
  place_pair j h =
      let l = long_pairs in
      let i : j / len < length outer / 2 = (div-lt_iff_lt-mul some).1 (omega arith) in
      let a = mod-lt j some in
      let e = parts_of j len some in
      let m = length-pairs (unrolled outer numbers len) (len * s) in
      name_pair (j / len) (j % len) i a ∙ sym (entry_pair (j / len) (j % len) i a)
      ∙ ap (pair_at (unrolled outer numbers len) (len * s)) (sym e)
      ∙ sym (pair_listed (unrolled outer numbers len) (len * s) j (omega arith))

  pub high_tells : TellsPairs masks x (pairs (unrolled outer numbers len) (len * s)) (unrolled numbered labels len) joined
  high_tells =
      subst (λ us. TellsPairs masks x (pairs (unrolled outer numbers len) (len * s)) us joined) (sym same)
      (names_among masks x (pairs paired len) labels joined names (pairs (unrolled outer numbers len) (len * s)) (λ j h.
      let l = long_pairs in
      let i : j / len < length outer / 2 = (div-lt_iff_lt-mul some).1 (omega arith) in
      let n = name_place (j / len) (j % len) i (mod-lt j some) in
      let k = length-pairs paired len in
      (get_or numbered (j / len) 0 * len + j % len, (omega arith, place_pair j h))))
    where
      qs : List (ℕ × ℕ)
      qs = pairs (unrolled outer numbers len) (len * s)

      same : unrolled numbered labels len ≡ map names.name (pairs (unrolled outer numbers len) (len * s))
      same =
          same_by_places (unrolled numbered labels len) (map names.name (pairs (unrolled outer numbers len) (len * s)))
          (length_unrolled numbered labels len high_strips ∙ ap (λ z. z * len) many_numbered ∙ sym long_pairs
          ∙ sym (length-map (pairs (unrolled outer numbers len) (len * s)) names.name)) (λ j h.
          let u = length_unrolled numbered labels len high_strips in
          let m = many_numbered in
          let v = ap (λ z. z * len) many_numbered in
          let l = long_pairs in
          let i : j / len < length outer / 2 = (div-lt_iff_lt-mul some).1 (omega arith) in
          let a = mod-lt j some in
          let e = parts_of j len some in
          let n = name_place (j / len) (j % len) i a in
          let k = length-pairs paired len in
          ap (λ z. get_or (unrolled numbered labels len) z 0) e ∙ unrolled_at numbered labels len high_strips (j / len) (j % len) (omega arith) a
          ∙ ap (λ us. get_or us (get_or numbered (j / len) 0 * len + j % len) 0) names.numbers_are
          ∙ get_or-map names.name (pairs paired len) (get_or numbered (j / len) 0 * len + j % len) (0, 0) 0 (omega arith)
          ∙ ap names.name (place_pair j (omega arith)) ∙ sym (get_or-map names.name (pairs (unrolled outer numbers len) (len * s)) j (0, 0) 0 (omega arith)))

-- ---- a variable inside the strips

module _ (outer numbers : List ℕ) (c s : ℕ) (strips : AreNamed outer numbers (c * (2 * s))) (some : 0 < c) (some_s : 0 < s)
    (masks : List ℕ) (x : ℕ) (labels joined : List ℕ) (names : TellsPairs masks x (pairs numbers s) labels joined) where
  whole_numbers : length numbers ≡ strips.count * c * (2 * s)
  whole_numbers = strips.whole ∙ grind arith

  pub low_whole : length labels ≡ strips.count * (c * s)
  low_whole = length_names masks x (pairs numbers s) labels joined names ∙ length-pairs numbers s ∙ ap (λ k. k / 2) whole_numbers
      ∙ half (strips.count * c) s ∙ grind arith

  pub low_named : AreNamed outer labels (c * s)
  low_named = search low_whole

  some_strip : 0 < c * s
  some_strip = (let p = below_product 0 c s 0 some some_s in let z : 0 * s + 0 ≡ 0 = grind arith in omega arith)

  long_pairs' : length (pairs (unrolled outer numbers (c * (2 * s))) s) ≡ length outer * (c * s)
  long_pairs' =
      length-pairs (unrolled outer numbers (c * (2 * s))) s ∙ ap (λ k. k / 2) (length_named outer numbers (c * (2 * s)) strips)
      ∙ (let z : length outer * (c * (2 * s)) ≡ length outer * (c * s) + length outer * (c * s) = grind arith in omega arith)

  inner_pair : (i b : ℕ) → i < length outer → b < c * s →
      pair_at (unrolled outer numbers (c * (2 * s))) s (i * (c * s) + b) ≡ pair_at numbers s (get_or outer i 0 * (c * s) + b)
  inner_pair i b h k =
      let w = pair_within s c (c * (2 * s)) b some_s refl (let z = half c s in omega arith) in
      let p = inner_place c s i b some_s in
      let q = inner_place c s (get_or outer i 0) b some_s in
      let l = ap (λ z. get_or (unrolled outer numbers (c * (2 * s))) z 0) p
      ∙ named_at outer numbers (c * (2 * s)) strips i (low_place s b) h (omega arith) ∙ ap (λ z. get_or numbers z 0) (sym q) in
      let u = ap (λ z. get_or (unrolled outer numbers (c * (2 * s))) z 0) (ap (λ z. z + s) p ∙ omega arith)
      ∙ named_at outer numbers (c * (2 * s)) strips i (low_place s b + s) h w
      ∙ ap (λ z. get_or numbers z 0)
      (let e : get_or outer i 0 * (c * (2 * s)) + (low_place s b + s) ≡ low_place s (get_or outer i 0 * (c * s) + b) + s =
      omega arith in e) in
      λ z. (l z, u z)

  inner_small : (i b : ℕ) → i < length outer → b < c * s → get_or outer i 0 * (c * s) + b < length numbers / 2
  inner_small i b h k =
      let p = below_product (get_or outer i 0) strips.count (c * s) b (strips.within i h) k in
      let z = ap (λ k. k / 2) whole_numbers ∙ half (strips.count * c) s in
      let e : strips.count * c * s ≡ strips.count * (c * s) = grind arith in
      omega arith

  place_pair' : (j : ℕ) → j < length (pairs (unrolled outer numbers (c * (2 * s))) s) →
      get_or (pairs numbers s) (get_or outer (j / (c * s)) 0 * (c * s) + j % (c * s)) (0, 0) ≡ get_or (pairs (unrolled outer numbers (c * (2 * s))) s) j (0, 0)
  place_pair' j h =
      let l = long_pairs' in
      let i : j / (c * s) < length outer = (div-lt_iff_lt-mul some_strip).1 (omega arith) in
      let a = mod-lt j some_strip in
      let e = parts_of j (c * s) some_strip in
      let m = length-pairs (unrolled outer numbers (c * (2 * s))) s in
      pair_listed numbers s (get_or outer (j / (c * s)) 0 * (c * s) + j % (c * s)) (inner_small (j / (c * s)) (j % (c * s)) i a)
      ∙ sym (inner_pair (j / (c * s)) (j % (c * s)) i a)
      ∙ ap (pair_at (unrolled outer numbers (c * (2 * s))) s) (sym e) ∙ sym (pair_listed (unrolled outer numbers (c * (2 * s))) s j (omega arith))

  pub low_tells : TellsPairs masks x (pairs (unrolled outer numbers (c * (2 * s))) s) (unrolled outer labels (c * s)) joined
  low_tells =
      subst (λ us. TellsPairs masks x (pairs (unrolled outer numbers (c * (2 * s))) s) us joined) (sym same)
      (names_among masks x (pairs numbers s) labels joined names (pairs (unrolled outer numbers (c * (2 * s))) s) (λ j h.
      let l = long_pairs' in
      let i : j / (c * s) < length outer = (div-lt_iff_lt-mul some_strip).1 (omega arith) in
      let n = inner_small (j / (c * s)) (j % (c * s)) i (mod-lt j some_strip) in
      let k = length-pairs numbers s in
      (get_or outer (j / (c * s)) 0 * (c * s) + j % (c * s), (omega arith, place_pair' j h))))
    where
      same : unrolled outer labels (c * s) ≡ map names.name (pairs (unrolled outer numbers (c * (2 * s))) s)
      same =
          same_by_places (unrolled outer labels (c * s)) (map names.name (pairs (unrolled outer numbers (c * (2 * s))) s))
          (length_named outer labels (c * s) low_named ∙ sym long_pairs' ∙ sym (length-map (pairs (unrolled outer numbers (c * (2 * s))) s) names.name)) (λ j h.
          let u = length_named outer labels (c * s) low_named in
          let l = long_pairs' in
          let i : j / (c * s) < length outer = (div-lt_iff_lt-mul some_strip).1 (omega arith) in
          let a = mod-lt j some_strip in
          let e = parts_of j (c * s) some_strip in
          let n = inner_small (j / (c * s)) (j % (c * s)) i a in
          let k = length-pairs numbers s in
          ap (λ z. get_or (unrolled outer labels (c * s)) z 0) e ∙ named_at outer labels (c * s) low_named (j / (c * s)) (j % (c * s)) i a
          ∙ ap (λ us. get_or us (get_or outer (j / (c * s)) 0 * (c * s) + j % (c * s)) 0) names.numbers_are
          ∙ get_or-map names.name (pairs numbers s) (get_or outer (j / (c * s)) 0 * (c * s) + j % (c * s)) (0, 0) 0 (omega arith)
          ∙ ap names.name (place_pair' j (omega arith)) ∙ sym (get_or-map names.name (pairs (unrolled outer numbers (c * (2 * s))) s) j (0, 0) 0 (omega arith)))

pub low_strips : (outer numbers : List ℕ) (c s : ℕ) → AreStrips outer numbers (c * (2 * s)) → 0 < c → 0 < s →
    (masks : List ℕ) (x : ℕ) (labels joined : List ℕ) → TellsPairs masks x (pairs numbers s) labels joined → AreStrips outer labels (c * s)
low_strips outer numbers c s strips some some_s masks x labels joined names =
    let w = low_whole outer numbers c s (named_of outer numbers (c * (2 * s)) strips) some some_s masks x labels joined names in
    record { count = strips.count; whole = w; within = strips.within; used = strips.used }
