-- What follows from the numbers of pairs and the pair of each number.
--     pair_told, pair_numbered      a pair's number is that of the pair
--     pair_met, number_below      each of the pairs is one of those numbered; the numbers are those of the pairs
--     met_classes      where they are of the entries of a table, both classes are among those numbered
--     masks_many, masks_told      the masks of the pairs are those of the numbers
use Rattle.std.proofs.Common.{◌≡◌, ℕ, ◌*◌, ◌^◌, ◌<◌, List, map, length, get_or, sym, ap, ◌∙◌, subst, arith}
use Rattle.std.specs.Set.{distinct_count}
use Rattle.std.proofs.lemmas.List.{get_or-map, length-map, map-id, take_all}
use Rattle.definitions.specs.Widths.{same_pair}
use Rattle.definitions.proofs.Widths.ClassPairs.{pair_decides}
use Rattle.definitions.proofs.Lists.Sets.{Among}
use Rattle.subfunction_classes.specs.Numbering.{rank, ranks}
use Rattle.subfunction_classes.specs.Places.{pairs}
use Rattle.subfunction_classes.proofs.BlockPlaces.{listed_classes}
use Rattle.subfunction_classes.proofs.Progress.{among_take, take_among}
use Rattle.subfunction_classes.proofs.CountedWidths.{same_at}
use Rattle.subfunction_classes.proofs.JoinedMasks.{length-ranks, number_at}
use Rattle.definitions.proofs.Lists.Maps.{map_same}
use Rattle.subfunction_classes.proofs.RankLaws.{rank_below, rank_reached}
use mathlib.Core.List.{map-map}

module _ (ps : List (ℕ × ℕ)) (numbers : List ℕ) (met : List (ℕ × ℕ)) (numbered : numbers ≡ ranks same_pair ps) (many : length met ≡ distinct_count same_pair ps)
    (labels : map (λ c. get_or met c (0, 0)) numbers ≡ ps) where
  pub pair_told : (p : ℕ × ℕ) → Among p ps → get_or met (rank same_pair ps p) (0, 0) ≡ p
  unfolding ranks
  pair_told p a =
      same_at (λ q. get_or met (rank same_pair ps q) (0, 0)) (λ q. q) ps
      (sym (map-map (λ c. get_or met c (0, 0)) (rank same_pair ps) ps) ∙ ap (map (λ c. get_or met c (0, 0))) (sym numbered) ∙ labels ∙ sym (map-id ps)) p a

  pub pair_numbered : (j : ℕ) → j < length ps → get_or met (get_or numbers j 0) (0, 0) ≡ get_or ps j (0, 0)
  pair_numbered j l = grind (arith, get_or-map, length-ranks)

  pub pair_met : (k : ℕ) → k < length met → (i : ℕ) × (i < length ps) × (get_or ps i (0, 0) ≡ get_or met k (0, 0))
  pair_met k l =
      let t = rank_reached same_pair pair_decides ps k (omega arith) in
      let s = among_take ps ps (length ps) t.0 (subst (Among t.0) (sym (take_all (length ps) ps (omega arith))) t.1) in
      (s.0, s.1, s.3 ∙ sym (pair_told t.0 t.1) ∙ ap (λ c. get_or met c (0, 0)) t.2)

  pub number_below : (j : ℕ) → j < length ps → get_or numbers j 0 < length met
  number_below j l =
      let a = subst (Among (get_or ps j (0, 0))) (take_all (length ps) ps (omega arith)) (take_among ps ps (length ps) j l l) in
      omega (arith, rank_below same_pair pair_decides ps (get_or ps j (0, 0)) a, number_at ps numbers j numbered l)

  pub masks_many : (join : ℕ × ℕ → ℕ) → length (map join met) ≡ distinct_count same_pair ps
  masks_many join = length-map met join ∙ many

  pub masks_told : (join : ℕ × ℕ → ℕ) → map (λ c. get_or (map join met) c 0) numbers ≡ map join ps
  unfolding ranks
  masks_told join =
      ap (map (λ c. get_or (map join met) c 0)) numbered ∙ map-map (λ c. get_or (map join met) c 0) (rank same_pair ps) ps
      ∙ map_same (λ p. get_or (map join met) (rank same_pair ps p) 0) join ps
      (λ p a. get_or-map join met (rank same_pair ps p) (0, 0) 0 (omega (arith, rank_below same_pair pair_decides ps p a)) ∙ ap join (pair_told p a))

-- the pairs of a table's entries are pairs of its classes
pub met_classes : (cs : List ℕ) (r classes : ℕ) → ((blocks : ℕ) × (length cs ≡ blocks * (2 * 2 ^ r))) →
    ((i : ℕ) → i < length cs → get_or cs i 0 < classes) → (numbers : List ℕ) (met : List (ℕ × ℕ)) →
    numbers ≡ ranks same_pair (pairs cs (2 ^ r)) → length met ≡ distinct_count same_pair (pairs cs (2 ^ r)) →
    map (λ c. get_or met c (0, 0)) numbers ≡ pairs cs (2 ^ r) →
    (k : ℕ) → k < length met → ((get_or met k (0, 0)).0 < classes) × ((get_or met k (0, 0)).1 < classes)
met_classes cs r classes whole small numbers met n m t k l =
    let q = pair_met (pairs cs (2 ^ r)) numbers met n m t k l in
    subst (λ (p : ℕ × ℕ). (p.0 < classes) × (p.1 < classes)) q.2 (listed_classes cs r classes q.0 whole small q.1)
