-- Keys that are numbered one after another, and what their numbers tell.
--     position_at      what stands where a pair is first met
--     numbers_told      the numbers of the pairs lead back to them
use Rattle.std.proofs.Common.{◌≡◌, ℕ, suc, ◌+◌, ◌<◌, not, cond, inl, inr, List, [], ◌∷◌, map, length, get_or, sym, ap, ◌∙◌, arith}
use Rattle.std.specs.List.{position_or_len}
use Rattle.std.proofs.lemmas.Bool.{cases_Bool}
use Rattle.std.proofs.lemmas.List.{map-id}
use Rattle.definitions.specs.Widths.{same_pair}
use Rattle.definitions.proofs.Widths.ClassPairs.{pair_decides}
use Rattle.subfunction_classes.specs.Numbering.{rank, ranks}
use Rattle.definitions.proofs.Lists.Maps.{map_same}
use Rattle.subfunction_classes.proofs.RankLaws.{Numbers, rank_below}
use mathlib.Core.List.{map-map}

pub position_at : (p : ℕ × ℕ) (xs : List (ℕ × ℕ)) → position_or_len (same_pair p) xs < length xs → get_or xs (position_or_len (same_pair p) xs) (0, 0) ≡ p
position_at p [] l = absurd (omega arith)
position_at p (x ∷ xs) l = elim (cases_Bool (same_pair p x)) [
  | inl t ↦ grind arith
  | inr f ↦
      let e : cond (not (same_pair p x)) (1 + position_or_len (same_pair p) xs) 0 ≡ suc (position_or_len (same_pair p) xs) =
      grind arith in
      ap (λ k. get_or (x ∷ xs) k (0, 0)) e ∙ position_at p xs (omega arith)
]

pub numbers_told : (keys ps : List (ℕ × ℕ)) → Numbers same_pair pair_decides keys ps → map (λ c. get_or keys c (0, 0)) (ranks same_pair ps) ≡ ps
unfolding ranks
numbers_told keys ps n =
    map-map (λ c. get_or keys c (0, 0)) (rank same_pair ps) ps
    ∙ map_same (λ p. get_or keys (rank same_pair ps p) (0, 0)) (λ p. p) ps (λ p a.
    ap (λ k. get_or keys k (0, 0)) (sym (n.places p)) ∙ position_at p keys (omega (arith, rank_below same_pair pair_decides ps p a)))
    ∙ map-id ps
