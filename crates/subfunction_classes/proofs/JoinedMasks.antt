-- Something told of numbered pairs, as a mask: one for each class, made at its first pair.
--     joined_none, joined_new, joined_old      no pair yet; one more, the first of its kind; one that has come before
--     joined_many, joined_told      the end
--     rank_is, number_at, length-ranks, numbered_place      a pair's number, as a rank and in the list of numbers
--     pair_classes      the classes of a pair are among those numbered
use Rattle.std.proofs.Common.{◌≡◌, ◌≢◌, ℕ, suc, ◌+◌, ◌*◌, ◌/◌, ◌^◌, ◌<◌, ◌≤◌, inl, inr, List, [], ◌∷◌, ◌++◌, map, length, get_or, take, drop, refl, sym, ap, ◌∙◌, arith}
use Rattle.std.specs.Set.{distinct_count}
use Rattle.std.proofs.lemmas.Bool.{cases_lt}
use Rattle.std.proofs.lemmas.List.{append_assoc, take-append-drop, take_more, take_all, get_or-map, get_or_append_left, get_or_push, length-append}
use Rattle.definitions.specs.Widths.{same_pair}
use Rattle.definitions.proofs.Widths.ClassPairs.{pair_decides}
use Rattle.definitions.proofs.Lists.Sets.{Among}
use Rattle.subfunction_classes.specs.Made.{Joined}
use Rattle.subfunction_classes.specs.Numbering.{rank, ranks}
use Rattle.subfunction_classes.proofs.RankLaws.{count_new, count_old, count_end, rank_next, rank_found, rank_absent, rank_below, among_or_not}
use Rattle.subfunction_classes.specs.Places.{pair_at, pairs}
use Rattle.subfunction_classes.proofs.Progress.{among_take, take_among}
use Rattle.subfunction_classes.proofs.Index.{length-pairs}

module _ (ps : List (ℕ × ℕ)) where
  parts : (j : ℕ) → j < length ps → ps ≡ take j ps ++ get_or ps j (0, 0) ∷ drop (j + 1) ps
  parts j l = sym (take-append-drop (j + 1) ps) ∙ ap (λ us. us ++ drop (j + 1) ps) (take_more ps j (0, 0) l)
      ∙ append_assoc (take j ps) (get_or ps j (0, 0) ∷ []) (drop (j + 1) ps)

  -- a pair's number is that among those before
  pub rank_is : (j : ℕ) → j < length ps → rank same_pair ps (get_or ps j (0, 0)) ≡ rank same_pair (take j ps) (get_or ps j (0, 0))
  rank_is j l = ap (λ us. rank same_pair us (get_or ps j (0, 0))) (parts j l)
      ∙ rank_next same_pair pair_decides (take j ps) (drop (j + 1) ps) (get_or ps j (0, 0))

  pub rank_before : (i j : ℕ) → i < j → j < length ps → rank same_pair ps (get_or ps i (0, 0)) < distinct_count same_pair (take j ps)
  rank_before i j l m =
      let a = take_among ps ps j i l (omega arith) in
      let e = ap (λ us. rank same_pair us (get_or ps i (0, 0))) (parts j m)
      ∙ rank_found same_pair pair_decides (take j ps) (get_or ps j (0, 0) ∷ drop (j + 1) ps) (get_or ps i (0, 0)) a in
      omega (arith, rank_below same_pair pair_decides (take j ps) (get_or ps i (0, 0)) a)

  pub count_is : (j : ℕ) → j < length ps → distinct_count same_pair (take (j + 1) ps) ≡ distinct_count same_pair (get_or ps j (0, 0) ∷ take j ps)
  count_is j l = ap (distinct_count same_pair) (take_more ps j (0, 0) l) ∙ count_end same_pair pair_decides (get_or ps j (0, 0)) (take j ps)

module _ {M : Type 0} (none : M) (ps : List (ℕ × ℕ)) (join : ℕ × ℕ → M) where
  pub joined_none : Joined none ps join [] 0
  joined_none = record { many = refl; labels = λ i l. absurd (omega arith) }

  -- a pair with the next number
  pub joined_new : (out : List M) (j number : ℕ) (mask : M) → j < length ps → Joined none ps join out j →
      number ≡ rank same_pair ps (get_or ps j (0, 0)) → number ≡ length out → mask ≡ join (get_or ps j (0, 0)) →
      Joined none ps join (out ++ mask ∷ []) (j + 1)
  joined_new out j number mask l h e f m = record {
    many = omega (arith, count_is ps j l ∙ count_new same_pair pair_decides (get_or ps j (0, 0)) (take j ps) absent, length-append out (mask ∷ []));
    labels = λ i lt. elim (cases_lt i j) [
      | inl before ↦
          grind (arith, get_or_append_left, rank_before)
      | inr here ↦
          grind (arith, get_or_push)
    ];
  }
    where
      absent : Among (get_or ps j (0, 0)) (take j ps) → ⊥
      absent a = omega (arith, rank_is ps j l, rank_below same_pair pair_decides (take j ps) (get_or ps j (0, 0)) a)

  -- a pair with an older number
  pub joined_old : (out : List M) (j number : ℕ) → j < length ps → Joined none ps join out j → number ≡ rank same_pair ps (get_or ps j (0, 0)) →
      number ≢ length out → Joined none ps join out (j + 1)
  joined_old out j number l h e f = elim (among_or_not same_pair pair_decides (get_or ps j (0, 0)) (take j ps)) [
    | inl a ↦ record {
      many = search (count_is, count_old, pair_decides);
      labels = λ i lt. elim (cases_lt i j) [
        | inl before ↦ h.labels i before
        | inr here ↦
            let older = among_take ps ps j (get_or ps j (0, 0)) a in
            grind arith
      ];
    }
    | inr n ↦ grind (arith, rank_is, rank_absent)
  ]

  pub joined_many : (out : List M) (j : ℕ) → length ps ≤ j → Joined none ps join out j → length out ≡ distinct_count same_pair ps
  joined_many out j l h = h.many ∙ ap (distinct_count same_pair) (take_all j ps l)

  pub joined_told : (out : List M) (j : ℕ) → length ps ≤ j → Joined none ps join out j → map (λ c. get_or out c none) (ranks same_pair ps) ≡ map join ps
  unfolding ranks
  joined_told out j l h = alike ps (λ i lt. h.labels i (omega arith))
    where
      alike : (qs : List (ℕ × ℕ)) →
          ((i : ℕ) → i < length qs → get_or out (rank same_pair ps (get_or qs i (0, 0))) none ≡ join (get_or qs i (0, 0))) →
          map (λ c. get_or out c none) (map (rank same_pair ps) qs) ≡ map join qs
      alike [] g = refl
      alike (q ∷ qs) g = λ i. g 0 (omega arith) i ∷ alike qs (λ k lt. g (suc k) (omega arith)) i

pub number_at : (ps : List (ℕ × ℕ)) (numbered : List ℕ) (j : ℕ) → numbered ≡ ranks same_pair ps → j < length ps →
    get_or numbered j 0 ≡ rank same_pair ps (get_or ps j (0, 0))
unfolding ranks
number_at ps numbered j e l = ap (λ us. get_or us j 0) e ∙ get_or-map (rank same_pair ps) ps j (0, 0) 0 l

pub length-ranks : (ps : List (ℕ × ℕ)) (numbered : List ℕ) → numbered ≡ ranks same_pair ps → length numbered ≡ length ps
unfolding ranks
length-ranks ps numbered e = ap length e ∙ mapped ps
  where
    mapped : (qs : List (ℕ × ℕ)) → length (map (rank same_pair ps) qs) ≡ length qs
    mapped [] = refl
    mapped (q ∷ qs) = ap suc (mapped qs)

-- both classes of a pair are among those numbered
pub pair_classes : (cs : List ℕ) (rank classes j : ℕ) → ((blocks : ℕ) × (length cs ≡ blocks * (2 * 2 ^ rank))) →
    ((i : ℕ) → i < length cs → get_or cs i 0 < classes) → j < length cs / 2 →
    ((pair_at cs (2 ^ rank) j).0 < classes) × ((pair_at cs (2 ^ rank) j).1 < classes)
pair_classes cs rank classes j whole small h = grind arith

pub numbered_place : (cs numbered : List ℕ) (rank : ℕ) → numbered ≡ ranks same_pair (pairs cs (2 ^ rank)) → length numbered ≡ length cs / 2
numbered_place cs numbered rank e = length-ranks (pairs cs (2 ^ rank)) numbered e ∙ length-pairs cs (2 ^ rank)
