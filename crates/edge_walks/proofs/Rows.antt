-- Lists in rows, of which some that have come before are left out.
--     rows_append, rows_minus, rows_pairs      whole rows, one part after the other, less a part, and in pairs
--     rows_left, short_fewer      whole rows are left, and no more than there were
--     short_pairs, short_map      the pairs of entries, and what is made of each entry
--     short_rank, short_count, short_among, among_short      numbers by first occurrence, the number of distinct entries, and the entries stay
--     short_finer, short_then      shorter rows; one after the other
use Rattle.std.proofs.Common.{◌≡◌, ℕ, zero, suc, ◌+◌, ◌-◌, ◌*◌, ◌/◌, ◌%◌, ◌^◌, ◌<◌, ◌≤◌, Bool, true, not, cond, inl, inr, List, [], ◌∷◌, ◌++◌, map, length, get_or, refl, sym, ap, ap₂, ◌∙◌, subst, arith}
use Rattle.std.specs.List.{range_with_len, take_while}
use Rattle.std.proofs.lemmas.Bool.{false_from_ne_true}
use Rattle.std.proofs.lemmas.List.Sums.{take_while-cons}
use Rattle.std.specs.Set.{distinct_count}
use Rattle.std.proofs.lemmas.List.{map-append, length-append, length-map, get_or_append_left, get_or-append-add}
use Rattle.std.proofs.lemmas.Nat.{pow-add, div-mul-add, mod-mul-add, div-add-mod'}
use Rattle.std.proofs.Math.Nat.{mod-lt}
use Rattle.definitions.proofs.Lists.Sets.{Among, Within, among_left, among_right, among_cases, count_same}
use Rattle.definitions.proofs.Lists.Ranges.{range_append}
use Rattle.subfunction_classes.specs.Numbering.{rank}
use Rattle.subfunction_classes.specs.Places.{low_place, pair_at, pairs}
use Rattle.subfunction_classes.proofs.Index.{length-pairs, pair_within}
use Rattle.subfunction_classes.proofs.Lists.{map_ranges}
use Rattle.subfunction_classes.proofs.RankLaws.{among_or_not, rank_found}
use Rattle.edge_walks.specs.Rows.{AreWholeRows, IsShortened, IsWithout}

-- ---- whole rows

pub rows_append : {K : Type 0} (w : ℕ) (xs ys : List K) → AreWholeRows w xs → AreWholeRows w ys → AreWholeRows w (xs ++ ys)
rows_append w xs ys a b =
    let l = length-append xs ys in
    (a.0 + b.0, omega arith)

rows_finer : {K : Type 0} (m w : ℕ) (xs : List K) → AreWholeRows (m * w) xs → AreWholeRows w xs
rows_finer m w xs a = (a.0 * m, omega arith)

-- what is left of whole rows without some of them
pub rows_minus : (a b c w : ℕ) → a * w ≡ b * w + c → (rows : ℕ) × (c ≡ rows * w)
rows_minus a zero c w e = (a, omega arith)
rows_minus zero (suc b) c w e = (0, omega arith)
rows_minus (suc a) (suc b) c w e = grind (arith, rows_minus a b c w (omega arith))

rows_without : {K : Type 0} (w : ℕ) (long short : List K) → AreWholeRows w long → IsWithout w long short → AreWholeRows w short
rows_without w long short a h =
    let head = h.front ++ (h.part ++ h.between) in
    rows_minus a.0 h.part_rows.0 (length short) w (omega (
      arith,
      ap length h.long_is ∙ length-append head (h.part ++ h.rest),
      length-append h.part h.rest,
      ap length h.short_is ∙ length-append head h.rest,
    ))

pub rows_left : {K : Type 0} (w steps : ℕ) (long short : List K) → AreWholeRows w long → IsShortened w steps long short → AreWholeRows w short
rows_left w zero long short a h = subst (AreWholeRows w) h a
rows_left w (suc steps) long short a h = rows_without w h.0 short (rows_left w steps long h.0 a h.1) h.2

pub short_fewer : {K : Type 0} (w steps : ℕ) (long short : List K) → IsShortened w steps long short → length short ≤ length long
short_fewer w zero long short h = omega (arith, ap length h)
short_fewer w (suc steps) long short h = grind (arith, length-append, short_fewer w steps long h.0 h.1)

-- one after the other
pub short_then : {K : Type 0} (w s steps : ℕ) (long mid short : List K) → IsShortened w s long mid → IsShortened w steps mid short →
    (n : ℕ) × IsShortened w n long short
short_then w s zero long mid short h k = (s, subst (IsShortened w s long) k h)
short_then w s (suc steps) long mid short h k = let r = short_then w s steps long mid k.0 h k.1 in (suc r.0, (k.0, r.1, k.2))

-- ---- shorter rows, and one more part

finer : {K : Type 0} (m w : ℕ) (long short : List K) → IsWithout (m * w) long short → IsWithout w long short
finer m w long short h = search rows_finer

short_parts : {K : Type 0} (m w steps : ℕ) (long short : List K) → IsShortened (m * w) steps long short → IsShortened w steps long short
short_parts m w zero long short h = h
short_parts m w (suc steps) long short h = (h.0, short_parts m w steps long h.0 h.1, finer m w h.0 short h.2)

pub short_finer : {K : Type 0} (l y steps : ℕ) (long short : List K) → y ≤ l → IsShortened (2 ^ l) steps long short → IsShortened (2 ^ y) steps long short
short_finer l y steps long short le h =
    short_parts (2 ^ (l - y)) (2 ^ y) steps long short
    (subst (λ w. IsShortened w steps long short) (ap (λ k. 2 ^ k) (let s : l ≡ (l - y) + y = omega arith in s) ∙ pow-add 2 (l - y) y) h)

-- ---- what is made of each entry

module _ {K L : Type 0} (f : K → L) where
  rows_map : (w : ℕ) (xs : List K) → AreWholeRows w xs → AreWholeRows w (map f xs)
  rows_map w xs a = (a.0, length-map xs f ∙ a.1)

  head_map : (a b c : List K) → map f (a ++ (b ++ c)) ≡ map f a ++ (map f b ++ map f c)
  head_map a b c = map-append f a (b ++ c) ∙ ap (λ us. map f a ++ us) (map-append f b c)

  without_map : (w : ℕ) (long short : List K) → IsWithout w long short → IsWithout w (map f long) (map f short)
  without_map w long short h = grind (arith, map-append, head_map, rows_map)

  pub short_map : (w steps : ℕ) (long short : List K) → IsShortened w steps long short → IsShortened w steps (map f long) (map f short)
  short_map w zero long short h = ap (map f) h
  short_map w (suc steps) long short h = (map f h.0, short_map w steps long h.0 h.1, without_map w h.0 short h.2)

-- ---- pairs

module _ (step : ℕ) (some : 0 < step) where
  pairs_append : (xs ys : List ℕ) → AreWholeRows (2 * step) xs → pairs (xs ++ ys) step ≡ pairs xs step ++ pairs ys step
  unfolding pairs
  pairs_append xs ys a =
      let l = length-append xs ys in
      let p = a.1 in
      ap (λ k. map (pair_at (xs ++ ys) step) (range_with_len 0 k)) (omega arith)
      ∙ ap (map (pair_at (xs ++ ys) step)) (range_append 0 (length xs / 2) (length ys / 2))
      ∙ map-append (pair_at (xs ++ ys) step) (range_with_len 0 (length xs / 2)) (range_with_len (0 + length xs / 2) (length ys / 2))
      ∙ ap₂ (λ us vs. us ++ vs)
      (map_ranges (pair_at (xs ++ ys) step) (pair_at xs step) (length xs / 2) 0 0 left)
      (map_ranges (pair_at (xs ++ ys) step) (pair_at ys step) (length ys / 2) (0 + length xs / 2) 0 right)
    where
      left : (i : ℕ) → i < length xs / 2 → pair_at (xs ++ ys) step (0 + i) ≡ pair_at xs step (0 + i)
      left i h =
          ap₂ (λ (u v : ℕ). (u, v)) (get_or_append_left xs ys 0 (low_place step (0 + i)) (omega arith))
          (get_or_append_left xs ys 0 (low_place step (0 + i) + step) (pair_within step a.0 (length xs) (0 + i) some a.1 (omega arith)))

      right : (i : ℕ) → i < length ys / 2 → pair_at (xs ++ ys) step (0 + length xs / 2 + i) ≡ pair_at ys step (0 + i)
      right i h =
          let p = a.1 in
          let k = 0 + i in
          let v = div-add-mod' k step in
          let m = mod-lt k some in
          let e : 0 + length xs / 2 + i ≡ (a.0 + k / step) * step + k % step = omega arith in
          let q = ap (λ z. z / step) e ∙ div-mul-add (a.0 + k / step) step (k % step) m in
          let r = ap (λ z. z % step) e ∙ mod-mul-add (a.0 + k / step) step (k % step) m in
          let low : low_place step (0 + length xs / 2 + i) ≡ length xs + low_place step (0 + i) =
          ap₂ (λ (u v : ℕ). u * (2 * step) + v) q r ∙ grind arith ∙ ap (λ z. z + low_place step k) (sym p) in
          ap₂ (λ (u v : ℕ). (u, v))
          (ap (λ k. get_or (xs ++ ys) k 0) low ∙ get_or-append-add xs ys (low_place step (0 + i)) 0)
          (ap (λ k. get_or (xs ++ ys) k 0) (omega arith) ∙ get_or-append-add xs ys (low_place step (0 + i) + step) 0)

  pub rows_pairs : (xs : List ℕ) → AreWholeRows (2 * step) xs → AreWholeRows step (pairs xs step)
  rows_pairs xs a = grind (arith, length-pairs)

  head_pairs : (a b c : List ℕ) → AreWholeRows (2 * step) a → AreWholeRows (2 * step) b →
      pairs (a ++ (b ++ c)) step ≡ pairs a step ++ (pairs b step ++ pairs c step)
  head_pairs a b c p q = pairs_append a (b ++ c) p ∙ ap (λ us. pairs a step ++ us) (pairs_append b c q)

  without_pairs : (long short : List ℕ) → IsWithout (2 * step) long short → IsWithout step (pairs long step) (pairs short step)
  without_pairs long short h =
      let head = rows_append (2 * step) h.front (h.part ++ h.between) h.front_rows (rows_append (2 * step) h.part h.between h.part_rows h.between_rows) in
      record {
        front = pairs h.front step;
        part = pairs h.part step;
        between = pairs h.between step;
        rest = pairs h.rest step;
        long_is = ap (λ us. pairs us step) h.long_is ∙ pairs_append (h.front ++ (h.part ++ h.between)) (h.part ++ h.rest) head
            ∙ ap₂ (λ us vs. us ++ vs) (head_pairs h.front h.part h.between h.front_rows h.part_rows) (pairs_append h.part h.rest h.part_rows);
        short_is = ap (λ us. pairs us step) h.short_is ∙ pairs_append (h.front ++ (h.part ++ h.between)) h.rest head
            ∙ ap (λ us. us ++ pairs h.rest step) (head_pairs h.front h.part h.between h.front_rows h.part_rows);
        front_rows = rows_pairs h.front h.front_rows;
        part_rows = rows_pairs h.part h.part_rows;
        between_rows = rows_pairs h.between h.between_rows;
      }

  pub short_pairs : (steps : ℕ) (long short : List ℕ) → IsShortened (2 * step) steps long short → IsShortened step steps (pairs long step) (pairs short step)
  short_pairs zero long short h = ap (λ us. pairs us step) h
  short_pairs (suc steps) long short h = (pairs h.0 step, short_pairs steps long h.0 h.1, without_pairs h.0 short h.2)

-- ---- numbers by first occurrence

module _ {K : Type 0} (eq : K → K → Bool) (decides : (x y : K) → (eq x y ≡ true → x ≡ y) × (x ≡ y → eq x y ≡ true)) where
  -- a part that has come before may be left out
  part_within : (head part rest : List K) → Within part head → Within (head ++ (part ++ rest)) (head ++ rest)
  part_within head part rest w u a =
      elim (among_cases u head (part ++ rest) a) [
        | inl b ↦ among_left u head rest b
        | inr b ↦ elim (among_cases u part rest b) [ inl c ↦ among_left u head rest (w u c) | inr c ↦ among_right u head rest c ]
      ]

  part_without : (head part rest : List K) → Within (head ++ rest) (head ++ (part ++ rest))
  part_without head part rest u a =
      elim (among_cases u head rest a) [
        | inl b ↦ among_left u head (part ++ rest) b
        | inr b ↦ among_right u head (part ++ rest) (among_right u part rest b)
      ]

  count_part : (head part rest : List K) → Within part head → distinct_count eq (head ++ (part ++ rest)) ≡ distinct_count eq (head ++ rest)
  count_part head part rest w =
      count_same eq decides (head ++ (part ++ rest)) (head ++ rest) (part_within head part rest w) (part_without head part rest)

  ahead : K → List K → List K
  ahead t xs = take_while (λ u. not (eq t u)) xs

  ahead_absent : (xs ys : List K) (t : K) → (Among t xs → ⊥) → ahead t (xs ++ ys) ≡ xs ++ ahead t ys
  unfolding ahead
  ahead_absent [] ys t h = refl
  ahead_absent (w ∷ xs) ys t h =
      take_while-cons (λ u. not (eq t u)) w (xs ++ ys)
      ∙ ap (λ b. cond (not b) (w ∷ take_while (λ u. not (eq t u)) (xs ++ ys)) []) (false_from_ne_true (eq t w) (λ e. h (inl ((decides t w).0 e))))
      ∙ ap (λ us. w ∷ us) (ahead_absent xs ys t (λ a. h (inr a)))

  rank_part : (head part rest : List K) → Within part head → (t : K) → rank eq (head ++ (part ++ rest)) t ≡ rank eq (head ++ rest) t
  unfolding rank ahead
  rank_part head part rest w t = grind (arith, among_or_not, rank_found, ahead_absent, count_part, ahead)

  module _ (w : ℕ) (long short : List K) (h : IsWithout w long short) where
    head : List K
    head = h.front ++ (h.part ++ h.between)

    within : Within h.part head
    unfolding head
    within u a = among_right u h.front (h.part ++ h.between) (among_left u h.part h.between a)

    without_rank : (t : K) → rank eq long t ≡ rank eq short t
    unfolding head
    without_rank t = ap (λ us. rank eq us t) h.long_is ∙ rank_part head h.part h.rest within t ∙ ap (λ us. rank eq us t) (sym h.short_is)

    without_count : distinct_count eq long ≡ distinct_count eq short
    unfolding head
    without_count = ap (distinct_count eq) h.long_is ∙ count_part head h.part h.rest within ∙ ap (distinct_count eq) (sym h.short_is)

    without_among : Within long short
    unfolding head
    without_among u a = subst (Among u) (sym h.short_is) (part_within head h.part h.rest within u (subst (Among u) h.long_is a))

    among_without : Within short long
    unfolding head
    among_without u a = subst (Among u) (sym h.long_is) (part_without head h.part h.rest u (subst (Among u) h.short_is a))

  pub short_rank : (w steps : ℕ) (long short : List K) → IsShortened w steps long short → (t : K) → rank eq long t ≡ rank eq short t
  short_rank w zero long short h t = ap (λ us. rank eq us t) h
  short_rank w (suc steps) long short h t = short_rank w steps long h.0 h.1 t ∙ without_rank w h.0 short h.2 t

  pub short_count : (w steps : ℕ) (long short : List K) → IsShortened w steps long short → distinct_count eq long ≡ distinct_count eq short
  short_count w zero long short h = ap (distinct_count eq) h
  short_count w (suc steps) long short h = short_count w steps long h.0 h.1 ∙ without_count w h.0 short h.2

  pub short_among : (w steps : ℕ) (long short : List K) → IsShortened w steps long short → Within long short
  short_among w zero long short h u a = subst (Among u) h a
  short_among w (suc steps) long short h u a = without_among w h.0 short h.2 u (short_among w steps long h.0 h.1 u a)

  pub among_short : (w steps : ℕ) (long short : List K) → IsShortened w steps long short → Within short long
  among_short w zero long short h u a = subst (Among u) (sym h) a
  among_short w (suc steps) long short h u a = among_short w steps long h.0 h.1 u (among_without w h.0 short h.2 u a)
