-- Numbers of pairs, found one after another from the first place of each.
--     among_take, take_among      an element of a list's beginning, and its place
--     progress_none, progress_new, progress_old      no pair yet; with one more pair, which none before equals; which has come before
use Rattle.std.proofs.Common.{◌≡◌, ℕ, zero, suc, ◌+◌, ◌<◌, ◌≤◌, inl, inr, List, [], ◌∷◌, ◌++◌, map, length, get_or, take, drop, refl, sym, ap, ◌∙◌, subst, arith}
use Rattle.std.specs.Set.{distinct_count}
use Rattle.std.proofs.lemmas.List.{append_assoc, map-append, take-append-drop, length-take, take_all, get_or-map, take_more, get_or-take}
use Rattle.definitions.specs.Widths.{same_pair}
use Rattle.definitions.proofs.Widths.ClassPairs.{pair_decides}
use Rattle.definitions.proofs.Lists.Sets.{Among}
use Rattle.subfunction_classes.specs.Made.{Progress}
use Rattle.subfunction_classes.specs.Numbering.{IsFirstOccurrence, rank, ranks}
use Rattle.subfunction_classes.proofs.RankLaws.{count_new, count_old, count_end, rank_here}

module _ (ps : List (ℕ × ℕ)) where
  key : ℕ → ℕ × ℕ
  key i = get_or ps i (0, 0)

  pub among_take : (qs : List (ℕ × ℕ)) (j : ℕ) (t : ℕ × ℕ) → Among t (take j qs) → (i : ℕ) × (i < j) × (i < length qs) × (get_or qs i (0, 0) ≡ t)
  among_take qs zero t h = absurd h
  among_take [] (suc j) t h = absurd h
  among_take (q ∷ qs) (suc j) t h =
      elim h [
        | inl e ↦ (0, omega arith, omega arith, sym e)
        | inr a ↦ let s = among_take qs j t a in
            (suc s.0, omega arith, omega arith, s.3)
      ]

  pub take_among : (qs : List (ℕ × ℕ)) (j i : ℕ) → i < j → i < length qs → Among (get_or qs i (0, 0)) (take j qs)
  take_among [] j i l m = absurd (omega arith)
  take_among (q ∷ qs) zero i l m = absurd (omega arith)
  take_among (q ∷ qs) (suc j) zero l m = inl refl
  take_among (q ∷ qs) (suc j) (suc i) l m = inr (take_among qs j i (omega arith) (omega arith))

  pub progress_none : Progress ps [] 0 0
  progress_none = record { done = refl; many = refl }

  one_more : (j : ℕ) → j < length ps → take (j + 1) ps ≡ take j ps ++ key j ∷ []
  unfolding key
  one_more j l = take_more ps j (0, 0) l

  parts : (j : ℕ) → j < length ps → ps ≡ take j ps ++ key j ∷ drop (j + 1) ps
  parts j l = sym (take-append-drop (j + 1) ps) ∙ ap (λ us. us ++ drop (j + 1) ps) (one_more j l) ∙ append_assoc (take j ps) (key j ∷ []) (drop (j + 1) ps)

  out_more : (out : List ℕ) (number j : ℕ) → j < length ps → out ≡ map (rank same_pair ps) (take j ps) →
      number ≡ rank same_pair ps (key j) → out ++ number ∷ [] ≡ map (rank same_pair ps) (take (j + 1) ps)
  out_more out number j l o e = grind (arith, one_more, map-append)

  -- a pair that none before equals has the next number
  pub progress_new : (out : List ℕ) (count j : ℕ) → j < length ps → Progress ps out count j → IsFirstOccurrence (λ i. get_or ps i (0, 0)) j j →
      Progress ps (out ++ count ∷ []) (count + 1) (j + 1)
  unfolding key
  progress_new out count j l p f = record {
    done = out_more out count j l p.done
        (p.many ∙ sym (ap (λ us. rank same_pair us (key j)) (parts j l)
        ∙ rank_here same_pair pair_decides (take j ps) (drop (j + 1) ps) (key j) absent));
    many = let n = ap (distinct_count same_pair) (one_more j l) ∙ count_end same_pair pair_decides (key j) (take j ps)
        ∙ count_new same_pair pair_decides (key j) (take j ps) absent in
        omega arith;
  }
    where
      absent : Among (get_or ps j (0, 0)) (take j ps) → ⊥
      absent a = let s = among_take ps j (get_or ps j (0, 0)) a in f.none s.0 s.1 s.3

  -- another one has the number of its first place
  pub progress_old : (out : List ℕ) (count j first : ℕ) → j < length ps → Progress ps out count j → first < j →
      IsFirstOccurrence (λ i. get_or ps i (0, 0)) j first → Progress ps (out ++ get_or out first 0 ∷ []) count (j + 1)
  unfolding key
  progress_old out count j first l p lt f = record {
    done = grind (arith, out_more, get_or-map, length-take, get_or-take);
    many = p.many
        ∙ sym (ap (distinct_count same_pair) (one_more j l) ∙ count_end same_pair pair_decides (key j) (take j ps)
        ∙ count_old same_pair pair_decides (key j) (take j ps) there);
  }
    where
      there : Among (get_or ps j (0, 0)) (take j ps)
      there = subst (λ t. Among t (take j ps)) f.same (take_among ps j first lt (omega arith))

  pub progress_all : (out : List ℕ) (count j : ℕ) → length ps ≤ j → Progress ps out count j → out ≡ ranks same_pair ps
  unfolding ranks
  progress_all out count j l p = p.done ∙ ap (map (rank same_pair ps)) (take_all j ps l)
