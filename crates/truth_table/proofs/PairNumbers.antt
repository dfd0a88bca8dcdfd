-- The numbering of pairs, one pair after the other.
--     pairs_more, length-pairs_of      the pairs, one after the other
--     Merging keys done out unequal      the state after some pairs: the set's keys, the numbers given, the count of unequal pairs
--     merging_none, merging_push      at the start, and with one more pair
--     merging_numbers      the numbers tell the pairs apart
use Rattle.std.proofs.Common.{◌≡◌, ℕ, zero, suc, ◌+◌, ◌/◌, ◌<◌, ◌≤◌, Bool, true, false, cond, not, ◌&&◌, ◌||◌, inl, inr, List, [], ◌∷◌, ◌++◌, length, map, take, get_or, refl, sym, ap, ◌∙◌, arith, subst, if◌then◌else◌, zero-add}
use Rattle.std.specs.List.{filter, list_any, position_or_len}
use Rattle.std.specs.Set.{is_member, unique_keys, distinct_count}
use Rattle.std.proofs.lemmas.Bool.{false≢true, false_from_ne_true}
use Rattle.std.proofs.lemmas.List.{map-append, length-append, length-map, take_all}
use Rattle.std.proofs.lemmas.List.Folds.{position_or_len_push}
use Rattle.std.proofs.lemmas.List.FromFn.{take-map-range_with_len, map-range_with_len_more, length-map-range_with_len, get_or-map-range_with_len}
use Rattle.definitions.specs.Widths.{same_pair}
use Rattle.definitions.proofs.Widths.ClassPairs.{pair_decides}
use Rattle.definitions.proofs.Lists.Sets.{Among, among_left, among_right, among_cases, among_filter, among_from_filter, among_from_member, member_from_among, count_same}
use Rattle.truth_table.specs.Numberings.{IsNumbering, is_unequal, pair_at, pairs_of, unequal_count}
use Rattle.definitions.proofs.Lists.Maps.{map_same}
use Rattle.definitions.proofs.Precedence.Masks.{among_at}

-- ---- the pairs

pub pairs_more : (cs : List ℕ) (j : ℕ) → j < length cs / 2 → take (j + 1) (pairs_of cs) ≡ take j (pairs_of cs) ++ pair_at cs j ∷ []
unfolding pairs_of
pairs_more cs j h =
    take-map-range_with_len (pair_at cs) 0 (length cs / 2) (j + 1) (omega arith) ∙ map-range_with_len_more (pair_at cs) 0 j j (omega arith)
    ∙ ap (λ us. us ++ pair_at cs j ∷ []) (sym (take-map-range_with_len (pair_at cs) 0 (length cs / 2) j (omega arith)))

pub length-pairs_of : (cs : List ℕ) → length (pairs_of cs) ≡ length cs / 2
unfolding pairs_of
length-pairs_of cs = length-map-range_with_len (pair_at cs) 0 (length cs / 2)

pub get_or-pairs_of : (cs : List ℕ) (j : ℕ) → j < length cs / 2 → get_or (pairs_of cs) j (0, 0) ≡ pair_at cs j
unfolding pairs_of
get_or-pairs_of cs j h = get_or-map-range_with_len (pair_at cs) 0 (length cs / 2) j j (0, 0) h (zero-add j)

-- ---- keys

abbrev Pair : Type 0
Pair = ℕ × ℕ

any_among : (u : Pair) (ks : List Pair) → list_any (same_pair u) ks ≡ true → Among u ks
any_among u [] e = absurd (false≢true e)
any_among u (k ∷ ks) e = grind (arith, any_among u ks)

among_any : (u : Pair) (ks : List Pair) → Among u ks → list_any (same_pair u) ks ≡ true
among_any u [] h = absurd h
among_any u (k ∷ ks) h = elim h [
  | inl e ↦ ap (λ b. b || list_any (same_pair u) ks) ((pair_decides u k).1 e)
  | inr a ↦ by (same_pair u k) (among_any u ks a)
]
  where
    by : (b : Bool) → list_any (same_pair u) ks ≡ true → (b || list_any (same_pair u) ks) ≡ true
    by true e = refl
    by false e = e

place : List Pair → Pair → ℕ
place keys u = position_or_len (same_pair u) keys

place_inside : (u : Pair) (ks : List Pair) → Among u ks → place ks u < length ks
unfolding place
place_inside u [] h = absurd h
place_inside u (k ∷ ks) h = grind (arith, place_inside u ks)

place_holds : (u : Pair) (ks : List Pair) → Among u ks → get_or ks (place ks u) (0, 0) ≡ u
unfolding place
place_holds u [] h = absurd h
place_holds u (k ∷ ks) h = grind (arith, place_holds u ks)

-- with one more key, the keys before keep their places
place_kept : (u k : Pair) (ks : List Pair) → Among u ks → place (ks ++ k ∷ []) u ≡ place ks u
unfolding place
place_kept u k ks h = grind (arith, place_inside, position_or_len_push)

-- and the new one comes last
place_new : (k : Pair) (ks : List Pair) → (Among k ks → ⊥) → place (ks ++ k ∷ []) k ≡ place ks k
unfolding place
place_new k ks h = grind (arith, position_or_len_push)

-- ---- counts

append_nil : {X : Type 0} (xs : List X) → xs ++ [] ≡ xs
append_nil [] = refl
append_nil (x ∷ xs) = ap (λ ys. x ∷ ys) (append_nil xs)

filter_push : (xs : List Pair) (k : Pair) → filter is_unequal (xs ++ k ∷ []) ≡ filter is_unequal xs ++ cond (is_unequal k) (k ∷ []) []
filter_push [] k = refl
filter_push (x ∷ xs) k = grind (arith, filter_push xs k)

count_turned : (k : Pair) (xs : List Pair) → distinct_count same_pair (xs ++ k ∷ []) ≡ distinct_count same_pair (k ∷ xs)
count_turned k xs =
    count_same same_pair pair_decides (xs ++ k ∷ []) (k ∷ xs)
    (λ u h. elim (among_cases u xs (k ∷ []) h) [ inl a ↦ inr a | inr b ↦ elim b [ inl s ↦ inl s | inr n ↦ absurd n ] ])
    (λ u h. elim h [ inl s ↦ among_right u xs (k ∷ []) (inl s) | inr a ↦ among_left u xs (k ∷ []) a ])

count_old : (k : Pair) (xs : List Pair) → Among k xs → distinct_count same_pair (k ∷ xs) ≡ distinct_count same_pair xs
count_old k xs h = ap (λ b. length (cond b (unique_keys same_pair xs) (k ∷ unique_keys same_pair xs))) (member_from_among same_pair pair_decides xs k h)

count_new : (k : Pair) (xs : List Pair) → (Among k xs → ⊥) → distinct_count same_pair (k ∷ xs) ≡ suc (distinct_count same_pair xs)
count_new k xs h =
    let new : is_member same_pair xs k ≡ false = false_from_ne_true _ (λ m. h (among_from_member same_pair pair_decides xs k m)) in
    ap (λ b. length (cond b (unique_keys same_pair xs) (k ∷ unique_keys same_pair xs))) new

unequal_old : (k : Pair) (done : List Pair) → Among k done → unequal_count (done ++ k ∷ []) ≡ unequal_count done
unfolding unequal_count
unequal_old k done h = grind (arith, filter_push, count_turned, count_old, among_filter, append_nil)

unequal_new : (k : Pair) (done : List Pair) → (Among k done → ⊥) →
    unequal_count (done ++ k ∷ []) ≡ cond (is_unequal k) (unequal_count done + 1) (unequal_count done)
unfolding unequal_count
unequal_new k done h = grind (arith, filter_push, count_turned, count_new, among_from_filter, append_nil)

-- ---- the state

-- after the pairs that are done
pub record Merging (keys done : List (ℕ × ℕ)) (out : List ℕ) (unequal : ℕ) : Type 0 where
  pub known : (u : ℕ × ℕ) → Among u done → Among u keys
  pub listed : (u : ℕ × ℕ) → Among u keys → Among u done
  pub numbers : out ≡ map (λ u. position_or_len (same_pair u) keys) done
  pub count : unequal ≡ unequal_count done
  pub few : length keys ≤ length done
  pub few_unequal : unequal ≤ length done

pub merging_none : Merging [] [] [] 0
unfolding unequal_count
merging_none = record { known = λ u h. h; listed = λ u h. h; numbers = refl; count = refl; few = omega arith; few_unequal = omega arith }

module _ (keys done : List (ℕ × ℕ)) (out : List ℕ) (unequal : ℕ) (m : Merging keys done out unequal) (k : ℕ × ℕ) where
  merging_old : Among k keys → Merging keys (done ++ k ∷ []) (out ++ position_or_len (same_pair k) keys ∷ []) unequal
  merging_old a =
      let l = length-append done (k ∷ []) in
      record {
        known = λ u h. elim (among_cases u done (k ∷ []) h)
            [ inl b ↦ m.known u b | inr b ↦ elim b [ inl s ↦ subst (λ (v : ℕ × ℕ). Among v keys) (sym s) a | inr n ↦ absurd n ] ];
        listed = λ u h. among_left u done (k ∷ []) (m.listed u h);
        numbers = grind (arith, map-append);
        count = m.count ∙ sym (unequal_old k done (m.listed k a));
        few = omega arith;
        few_unequal = omega arith;
      }

  merging_new : (Among k keys → ⊥) →
      Merging (keys ++ k ∷ []) (done ++ k ∷ []) (out ++ position_or_len (same_pair k) keys ∷ []) (cond (is_unequal k) (unequal + 1) unequal)
  unfolding place
  merging_new a =
      record {
        known = λ u h. elim (among_cases u done (k ∷ []) h) [ inl b ↦ among_left u keys (k ∷ []) (m.known u b) | inr b ↦ among_right u keys (k ∷ []) b ];
        listed = λ u h. elim (among_cases u keys (k ∷ []) h) [ inl b ↦ among_left u done (k ∷ []) (m.listed u b) | inr b ↦ among_right u done (k ∷ []) b ];
        numbers = grind (arith, map_same, place_kept, place_new, map-append);
        count = counted (is_unequal k) ∙ sym (unequal_new k done (λ b. a (m.known k b)));
        few = omega (arith, length-append done (k ∷ []), length-append keys (k ∷ []));
        few_unequal = bounded (is_unequal k);
      }
    where
      counted : (b : Bool) → cond b (unequal + 1) unequal ≡ cond b (unequal_count done + 1) (unequal_count done)
      counted b = ap (λ z. cond b (z + 1) z) m.count

      bounded : (b : Bool) → cond b (unequal + 1) unequal ≤ length (done ++ k ∷ [])
      bounded true = omega (arith, length-append done (k ∷ []))
      bounded false = omega (arith, length-append done (k ∷ []))

  -- with one more pair
  pub merging_push : Merging (if list_any (same_pair k) keys then keys else keys ++ k ∷ []) (done ++ k ∷ []) (out ++ position_or_len (same_pair k) keys ∷ [])
      (cond (not (list_any (same_pair k) keys) && is_unequal k) (unequal + 1) unequal)
  merging_push = grind (arith, merging_old, any_among, merging_new, among_any)

get_or_map : {X : Type 0} (f : X → ℕ) (xs : List X) (j : ℕ) (d : X) → j < length xs → get_or (map f xs) j 0 ≡ f (get_or xs j d)
get_or_map f [] j d h = absurd (omega arith)
get_or_map f (x ∷ xs) zero d h = refl
get_or_map f (x ∷ xs) (suc j) d h = get_or_map f xs j d (omega arith)

-- the numbers tell the pairs apart
pub merging_numbers : (keys done : List (ℕ × ℕ)) (out : List ℕ) (unequal : ℕ) → Merging keys done out unequal → IsNumbering done out
unfolding place
merging_numbers keys done out unequal m = record {
  long = ap length m.numbers ∙ length-map done (λ u. position_or_len (same_pair u) keys);
  apart = λ j k a b. (
    λ e.
        let u : ℕ × ℕ = get_or done j (0, 0) in
        let v : ℕ × ℕ = get_or done k (0, 0) in
        sym (place_holds u keys (m.known u (among_at done j (0, 0) a))) ∙ ap (λ z. get_or keys z (0, 0)) (sym (at j a) ∙ e ∙ at k b)
        ∙ place_holds v keys (m.known v (among_at done k (0, 0) b)),
    λ e. at j a ∙ ap (λ u. position_or_len (same_pair u) keys) e ∙ sym (at k b),
  );
}
  where
    at : (j : ℕ) → j < length done → get_or out j 0 ≡ position_or_len (same_pair (get_or done j (0, 0))) keys
    at j h = ap (λ us. get_or us j 0) m.numbers ∙ get_or_map (λ u. position_or_len (same_pair u) keys) done j (0, 0) h

-- one more pair of classes
pub merging_step : (cs : List ℕ) (j : ℕ) (keys keys' : List (ℕ × ℕ)) (out out' : List ℕ) (unequal unequal' : ℕ) → j < length cs / 2 →
    Merging keys (take j (pairs_of cs)) out unequal →
    keys' ≡ (if list_any (same_pair (pair_at cs j)) keys then keys else keys ++ pair_at cs j ∷ []) →
    out' ≡ out ++ position_or_len (same_pair (pair_at cs j)) keys ∷ [] →
    unequal' ≡ cond (not (list_any (same_pair (pair_at cs j)) keys) && is_unequal (pair_at cs j)) (unequal + 1) unequal →
    Merging keys' (take (j + 1) (pairs_of cs)) out' unequal'
merging_step cs j keys keys' out out' unequal unequal' h m k o u =
    subst (λ (z : List (ℕ × ℕ)). Merging z (take (j + 1) (pairs_of cs)) out' unequal') (sym k)
    (subst (λ (z : List (ℕ × ℕ)). Merging (if list_any (same_pair (pair_at cs j)) keys then keys else keys ++ pair_at cs j ∷ []) z out'
    unequal')
    (sym (pairs_more cs j h))
    (subst (λ (z : List ℕ). Merging (if list_any (same_pair (pair_at cs j)) keys then keys else keys ++ pair_at cs j ∷ [])
    (take j (pairs_of cs) ++ pair_at cs j ∷ []) z unequal') (sym o)
    (subst (λ (z : ℕ). Merging (if list_any (same_pair (pair_at cs j)) keys then keys else keys ++ pair_at cs j ∷ [])
    (take j (pairs_of cs) ++ pair_at cs j ∷ []) (out ++ position_or_len (same_pair (pair_at cs j)) keys ∷ []) z) (sym u)
    (merging_push keys (take j (pairs_of cs)) out unequal m (pair_at cs j)))))

-- after all pairs
pub merging_end : (cs : List ℕ) (j : ℕ) (keys : List (ℕ × ℕ)) (out : List ℕ) (unequal : ℕ) → length cs / 2 ≤ j →
    Merging keys (take j (pairs_of cs)) out unequal → IsNumbering (pairs_of cs) out × (unequal ≡ unequal_count (pairs_of cs))
merging_end cs j keys out unequal h m =
    let w = subst (λ (z : List (ℕ × ℕ)). Merging keys z out unequal) (take_all j (pairs_of cs) (omega (arith, length-pairs_of cs))) m in
    (merging_numbers keys (pairs_of cs) out unequal w, w.count)
