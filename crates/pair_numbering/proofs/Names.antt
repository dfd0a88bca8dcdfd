-- Names of pairs: numbers that tell them apart, in any order.
--     names_apart, names_ranked, names_masks, names_below, length_names      what the names tell
--     names_among      names of some pairs are names of pairs that are all found among them
--     names_joined, names_numbered      joined keys and numbers by first occurrence are names
--     ranks_used      each number by first occurrence is one that occurs
use Rattle.std.proofs.Common.{◌≡◌, ℕ, suc, ◌+◌, ◌*◌, ◌/◌, ◌%◌, ◌^◌, ◌<◌, ◌≤◌, List, map, length, get_or, nat_eq, refl, sym, ap, ◌∙◌, subst, arith}
use Rattle.std.specs.List.{range_with_len}
use Rattle.std.proofs.Math.Nat.{mul-le-mul_left, mul-le-mul_right, add-mul-mod_self_right, add-mul-div_right, mod-eq_of_lt, div-eq_of_lt}
use Rattle.std.proofs.lemmas.List.{length-map, get_or-map, map-id}
use Rattle.std.proofs.lemmas.List.FromFn.{get_or-map-range_with_len, length-map-range_with_len}
use Rattle.std.proofs.lemmas.Map.Made.{distinct_count-le}
use Rattle.definitions.specs.Widths.{same_pair}
use Rattle.definitions.proofs.Lists.Sets.{Among, among_map, member_from_among, nat_decides}
use Rattle.definitions.proofs.Widths.ClassPairs.{pair_decides, rank_apart}
use Rattle.subfunction_classes.specs.Dependence.{joined_mask}
use Rattle.subfunction_classes.specs.Numbering.{rank, ranks}
use Rattle.subfunction_classes.specs.PairTables.{IsPairTable, NumbersPairs}
use Rattle.subfunction_classes.specs.Places.{pairs}
use Rattle.pair_numbering.specs.Keys.{AreUsed, TellsPairs, joined_key, joined_key_mask}
use Rattle.subfunction_classes.proofs.RankLaws.{ranks_alike, rank_below, rank_reached}
use Rattle.subfunction_classes.proofs.Index.{length-pairs, pair_listed}
use Rattle.subfunction_classes.proofs.JoinedMasks.{pair_classes}
use Rattle.definitions.proofs.Lists.Maps.{map_same}
use Rattle.subfunction_classes.proofs.Lists.{place_of}
use Rattle.definitions.proofs.Precedence.Masks.{among_at}
use mathlib.Core.List.{map-map}

module _ (masks : List ℕ) (x : ℕ) (ps : List (ℕ × ℕ)) (numbers joined : List ℕ) (t : TellsPairs masks x ps numbers joined) where
  -- equal names, equal pairs
  names_apart : (p q : ℕ × ℕ) → Among p ps → Among q ps → (t.name p ≡ t.name q → p ≡ q) × (p ≡ q → t.name p ≡ t.name q)
  names_apart p q a b =
      let i = place_of (0, 0) ps p a in
      let j = place_of (0, 0) ps q b in
      (λ e. sym i.1.1 ∙ t.apart i.0 j.0 i.1.0 j.1.0 (ap t.name i.1.1 ∙ e ∙ sym (ap t.name j.1.1)) ∙ j.1.1, ap t.name)

  pub names_ranked : ranks nat_eq numbers ≡ ranks same_pair ps
  names_ranked = ap (ranks nat_eq) t.numbers_are ∙ ranks_alike nat_eq nat_decides same_pair pair_decides t.name (λ p. p) ps names_apart
      ∙ ap (ranks same_pair) (map-id ps)

  pub names_masks : map (λ k. get_or joined k 0) numbers ≡ map (joined_mask masks x) ps
  names_masks =
      ap (map (λ k. get_or joined k 0)) t.numbers_are ∙ map-map (λ k. get_or joined k 0) t.name ps
      ∙ map_same (λ p. get_or joined (t.name p) 0) (joined_mask masks x) ps
      (λ p a. let i = place_of (0, 0) ps p a in
      subst (λ q. get_or joined (t.name q) 0 ≡ joined_mask masks x q) i.1.1 (t.labels i.0 i.1.0))

  pub names_below : (i : ℕ) → i < length numbers → get_or numbers i 0 < length joined
  names_below i lt =
      let l = ap length t.numbers_are ∙ length-map ps t.name in
      let v = ap (λ us. get_or us i 0) t.numbers_are ∙ get_or-map t.name ps i (0, 0) 0 (omega arith) in
      omega arith

  pub length_names : length numbers ≡ length ps
  length_names = ap length t.numbers_are ∙ length-map ps t.name

  -- the same names for other pairs that are all among these
  pub names_among : (qs : List (ℕ × ℕ)) →
      ((j : ℕ) → j < length qs → (i : ℕ) × ((i < length ps) × (get_or ps i (0, 0) ≡ get_or qs j (0, 0)))) →
      TellsPairs masks x qs (map t.name qs) joined
  names_among qs at = record {
    name = t.name;
    numbers_are = refl;
    apart = λ i j a b e.
        let k = at i a in
        let l = at j b in
        sym k.1.1 ∙ t.apart k.0 l.0 k.1.0 l.1.0 (ap t.name k.1.1 ∙ e ∙ sym (ap t.name l.1.1)) ∙ l.1.1;
    below = λ i a. let k = at i a in subst (λ q. t.name q < length joined) k.1.1 (t.below k.0 k.1.0);
    labels = λ i a. let k = at i a in subst (λ q. get_or joined (t.name q) 0 ≡ joined_mask masks x q) k.1.1 (t.labels k.0 k.1.0);
    few = t.few;
  }

-- numbers by first occurrence are names
pub names_numbered : (masks : List ℕ) (x : ℕ) (ps : List (ℕ × ℕ)) (numbers joined : List ℕ) → length ps ≤ 2 ^ 20 →
    NumbersPairs masks x ps numbers joined → TellsPairs masks x ps numbers joined
unfolding ranks rank
names_numbered masks x ps numbers joined small h = record {
  name = rank same_pair ps;
  numbers_are = h.numbers_are;
  apart = λ i j a b. rank_apart same_pair pair_decides ps (get_or ps i (0, 0)) (get_or ps j (0, 0)) (among_at ps i (0, 0) a) (among_at ps j (0, 0) b);
  below = λ i a. omega (arith, rank_below same_pair pair_decides ps (get_or ps i (0, 0)) (among_at ps i (0, 0) a));
  labels = λ i a.
      sym (ap (λ c. get_or joined c 0) (ap (λ us. get_or us i 0) h.numbers_are ∙ get_or-map (rank same_pair ps) ps i (0, 0) 0 a))
      ∙ sym (get_or-map (λ c. get_or joined c 0) numbers i 0 0 (omega (arith, ap length h.numbers_are ∙ length-map ps (rank same_pair ps))))
      ∙ ap (λ us. get_or us i 0) h.labels ∙ get_or-map (joined_mask masks x) ps i (0, 0) 0 a;
  few = omega (arith, distinct_count-le same_pair ps);
}

pub names_joined : (masks : List ℕ) (x : ℕ) (cs : List ℕ) (r : ℕ) → IsPairTable cs r (length masks) → length masks ≤ 256 → (numbers joined : List ℕ) →
    numbers ≡ map (joined_key (length masks)) (pairs cs (2 ^ r)) →
    joined ≡ map (joined_key_mask masks x) (range_with_len 0 (length masks * length masks)) →
    TellsPairs masks x (pairs cs (2 ^ r)) numbers joined
names_joined masks x cs r table narrow numbers joined e d = record {
  name = joined_key (length masks);
  numbers_are = e;
  apart = λ i j a b q.
      let p = parts i a in
      let u = parts j b in
      let lower = sym (mod-eq_of_lt p.0) ∙ sym (add-mul-mod_self_right (at i).0 (at i).1 (length masks)) ∙ ap (λ z. z % length masks) q
      ∙ add-mul-mod_self_right (at j).0 (at j).1 (length masks) ∙ mod-eq_of_lt u.0 in
      let upper = sym (high (at i) p.0 (omega arith)) ∙ ap (λ z. z / length masks) q ∙ high (at j) u.0 (omega arith) in
      λ k. (lower k, upper k);
  below = λ i a. let k = ap length d ∙ length-map-range_with_len (joined_key_mask masks x) 0 (length masks * length masks) in
      let s = key_small i a in omega arith;
  labels = λ i a.
      let low = (parts i a).0 in
      let q = high (at i) low (omega arith) in
      ap (λ us. get_or us (joined_key (length masks) (at i)) 0) d
      ∙ get_or-map-range_with_len (joined_key_mask masks x) 0 (length masks * length masks) (joined_key (length masks) (at i))
      (joined_key (length masks) (at i)) 0 (key_small i a) (omega arith)
      ∙ (λ k. joined_mask masks x ((add-mul-mod_self_right (at i).0 (at i).1 (length masks) ∙ mod-eq_of_lt low) k, q k));
  few = (let k = ap length d ∙ length-map-range_with_len (joined_key_mask masks x) 0 (length masks * length masks) in
      let a = mul-le-mul_left (length masks) narrow in omega arith);
}
  where
    at : ℕ → ℕ × ℕ
    at i = get_or (pairs cs (2 ^ r)) i (0, 0)

    parts : (i : ℕ) → i < length (pairs cs (2 ^ r)) → ((at i).0 < length masks) × ((at i).1 < length masks)
    parts i a =
        let l = length-pairs cs (2 ^ r) in
        subst (λ (p : ℕ × ℕ). (p.0 < length masks) × (p.1 < length masks)) (sym (pair_listed cs (2 ^ r) i (omega arith)))
        (pair_classes cs r (length masks) i table.paired.whole table.below (omega arith))

    high : (u : ℕ × ℕ) → u.0 < length masks → 0 < length masks → (u.0 + u.1 * length masks) / length masks ≡ u.1
    high u l some = let d = add-mul-div_right u.0 u.1 some in let z = div-eq_of_lt l in omega arith

    key_small : (i : ℕ) → i < length (pairs cs (2 ^ r)) → joined_key (length masks) (at i) < length masks * length masks
    key_small i a =
        let low = (parts i a).0 in
        omega (arith, product_below (at i).1 (length masks) (length masks) (parts i a).1)
      where
        product_below : (u k b : ℕ) → u < k → u * b + b ≤ k * b
        product_below u k b l = (let q = mul-le-mul_right b (let s : suc u ≤ k = omega arith in s) in omega arith)

-- numbers by first occurrence occur, all of them
pub ranks_used : (masks : List ℕ) (x : ℕ) (ps : List (ℕ × ℕ)) (numbers joined : List ℕ) → NumbersPairs masks x ps numbers joined → AreUsed numbers joined
unfolding ranks
ranks_used masks x ps numbers joined h k l =
    let t = rank_reached same_pair pair_decides ps k (omega arith) in
    member_from_among nat_eq nat_decides numbers k
    (subst (Among k) (sym h.numbers_are)
    (subst (λ z. Among z (map (rank same_pair ps) ps)) t.2 (among_map (rank same_pair ps) t.0 ps t.1)))
