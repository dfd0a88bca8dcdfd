-- Numbers of pairs, and something told of them, as a mask, made together: at the first pair of each kind it is added.
--     made_none, made_first, made_again      no pair yet; one more, the first of its kind; one that has come before
--     made_numbers, made_many, made_told      the end
use Rattle.std.proofs.Common.{◌≡◌, ℕ, ◌+◌, ◌<◌, ◌≤◌, List, [], ◌∷◌, ◌++◌, map, length, get_or, set, take, refl, sym, ap, ◌∙◌, subst, arith}
use Rattle.std.specs.Set.{distinct_count}
use Rattle.std.proofs.lemmas.List.{take_more_set, length-set, length-append, take_all, get_or-take}
use Rattle.definitions.specs.Widths.{same_pair}
use Rattle.definitions.proofs.Widths.ClassPairs.{pair_decides}
use Rattle.definitions.proofs.Lists.Sets.{Among}
use Rattle.subfunction_classes.specs.Made.{Progress, Joined, Made}
use Rattle.subfunction_classes.specs.Numbering.{IsFirstOccurrence, rank, ranks}
use Rattle.subfunction_classes.proofs.RankLaws.{rank_absent, rank_below}
use Rattle.subfunction_classes.proofs.Progress.{progress_none, progress_new, progress_old, progress_all, among_take, take_among}
use Rattle.subfunction_classes.proofs.JoinedMasks.{joined_none, joined_new, joined_old, joined_many, joined_told, rank_is}

module _ {M : Type 0} (none : M) (ps : List (ℕ × ℕ)) (join : ℕ × ℕ → M) where
  -- the masks with one more pair, which is the first of its kind
  pub joined_first : (masks : List M) (j : ℕ) (mask : M) → j < length ps → IsFirstOccurrence (λ i. get_or ps i (0, 0)) j j →
      mask ≡ join (get_or ps j (0, 0)) → Joined none ps join masks j → Joined none ps join (masks ++ mask ∷ []) (j + 1)
  joined_first masks j mask l f m h =
      joined_new none ps join masks j (rank same_pair ps (get_or ps j (0, 0))) mask l h refl
      (rank_is ps j l
      ∙ rank_absent same_pair pair_decides (take j ps) (get_or ps j (0, 0))
      (λ a. let s = among_take ps ps j (get_or ps j (0, 0)) a in f.none s.0 s.1 s.3)
      ∙ sym h.many) m

  -- with one that has come before
  pub joined_again : (masks : List M) (j first : ℕ) → j < length ps → IsFirstOccurrence (λ i. get_or ps i (0, 0)) j first → first < j →
      Joined none ps join masks j → Joined none ps join masks (j + 1)
  joined_again masks j first l f lt h =
      let there : Among (get_or ps j (0, 0)) (take j ps) = subst (λ t. Among t (take j ps)) f.same (take_among ps ps j first lt (omega arith)) in
      joined_old none ps join masks j (rank same_pair ps (get_or ps j (0, 0))) l h refl
      (λ e. omega (arith, rank_is ps j l, rank_below same_pair pair_decides (take j ps) (get_or ps j (0, 0)) there))

  pub made_none : (out : List ℕ) → length out ≡ length ps → Made none ps join out [] 0
  made_none out l = record { long = l; few = omega arith; within = omega arith; progress = progress_none ps; joined = joined_none none ps join }

  pub made_first : (out : List ℕ) (masks : List M) (j : ℕ) (mask : M) → j < length ps → IsFirstOccurrence (λ i. get_or ps i (0, 0)) j j →
      mask ≡ join (get_or ps j (0, 0)) → Made none ps join out masks j → Made none ps join (set out j (length masks)) (masks ++ mask ∷ []) (j + 1)
  made_first out masks j mask l f m h =
      let e = length-append masks (mask ∷ []) in
      let more : length (masks ++ mask ∷ []) ≡ length masks + 1 = omega arith in
      record {
        long = length-set out j (length masks) ∙ h.long;
        few = omega arith;
        within = omega arith;
        progress = subst (λ us. Progress ps us (length (masks ++ mask ∷ [])) (j + 1)) (sym (take_more_set out j (length masks) (omega arith)))
            (subst (λ k. Progress ps (take j out ++ length masks ∷ []) k (j + 1)) (sym more) (progress_new ps (take j out) (length masks) j l h.progress f));
        joined = joined_first masks j mask l f m h.joined;
      }

  pub made_again : (out : List ℕ) (masks : List M) (j first : ℕ) → j < length ps → IsFirstOccurrence (λ i. get_or ps i (0, 0)) j first → first < j →
      Made none ps join out masks j → Made none ps join (set out j (get_or out first 0)) masks (j + 1)
  made_again out masks j first l f lt h =
      record {
        long = length-set out j (get_or out first 0) ∙ h.long;
        few = omega arith;
        within = omega arith;
        progress = subst (λ us. Progress ps us (length masks) (j + 1)) (sym (take_more_set out j (get_or out first 0) (omega arith)))
            (subst (λ k. Progress ps (take j out ++ k ∷ []) (length masks) (j + 1)) (get_or-take j out first 0 lt)
            (progress_old ps (take j out) (length masks) j first l h.progress lt f));
        joined = joined_again masks j first l f lt h.joined;
      }

  pub made_numbers : (out : List ℕ) (masks : List M) (j : ℕ) → length ps ≤ j → Made none ps join out masks j → out ≡ ranks same_pair ps
  made_numbers out masks j l h = sym (take_all j out (omega arith)) ∙ progress_all ps (take j out) (length masks) j l h.progress

  pub made_many : (out : List ℕ) (masks : List M) (j : ℕ) → length ps ≤ j → Made none ps join out masks j → length masks ≡ distinct_count same_pair ps
  made_many out masks j l h = joined_many none ps join masks j l h.joined

  pub made_told : (out : List ℕ) (masks : List M) (j : ℕ) → length ps ≤ j → Made none ps join out masks j → map (λ c. get_or masks c none) out ≡ map join ps
  made_told out masks j l h = ap (map (λ c. get_or masks c none)) (made_numbers out masks j l h) ∙ joined_told none ps join masks j l h.joined
