-- Strips of 256 points of which equal ones are stored once.
--     strip_added, few_more, names_none      one more strip is named; at most one more is stored; no strips
--     strip_of, strip_bits      a strip of a function's words
--     values_at, table_bit, words_parted      where a function's values stand among all
--     stored_strips, stored_values      the numbers of the stored strips are strips of the values
use Rattle.std.proofs.Common.{◌≡◌, ◌==◌, ◌++◌, ◌∷◌, [], ℕ, zero, suc, ◌+◌, ◌*◌, ◌-◌, ◌/◌, ◌%◌, ◌^◌, ◌<◌, ◌≤◌, Bool, true, false, cond, List, length, map, get_or, zero-mul, refl, sym, ap, ◌∙◌, subst, arith, inl, inr, eqb}
use Rattle.std.proofs.Math.Nat.{div-add-mod, mod-lt, suc-mul, div-lt_iff_lt-mul}
use Rattle.std.proofs.lemmas.Nat.{pow-add, div-mul-add, mod-mul-add}
use Rattle.std.proofs.lemmas.Bool.{cases_lt, cases_Bool, true≢false}
use Rattle.std.proofs.lemmas.List.{get_or_append_left, get_or_push, length_push, get_or-append-add, get_or-map, length-map}
use Rattle.std.proofs.lemmas.List.FromFn.{get_or-map-range_with_len, length-map-range_with_len}
use Rattle.std.proofs.lemmas.List.Sums.{passes_at_first, position_or_len_is}
use Rattle.std.proofs.lemmas.List.Folds.{list_any_at}
use Rattle.std.specs.Cmp.Lexicographic.{pointwise, bytes_decides}
use Rattle.std.specs.Int.{bit_at}
use Rattle.std.specs.List.{flat_map, list_any, position_or_len, range_with_len}
use Rattle.definitions.specs.Problems.{TruthTables, packed_bit, table_in, words_per_table}
use Rattle.compaction.specs.NamedStrips.{NamesStrips, number_in}
use Rattle.subfunction_classes.specs.Strips.{unrolled}
use Rattle.compaction.specs.ValueStrips.{AreStrips}
use Rattle.subfunction_classes.specs.Values.{row, values_of, number_of}
use Rattle.subfunction_classes.proofs.StartClasses.{length_row}
use Rattle.compaction.proofs.StripNumbers.{place_parts}
use Rattle.compaction.proofs.UnrolledTables.{length_unrolled, unrolled_at, same_by_places}

-- equal strips
abbrev same : List ℕ → List ℕ → Bool
same = pointwise eqb

-- a strip that is met for the first time gets the next number
first_met : (strip : List ℕ) (strips : List (List ℕ)) → list_any (same strip) strips ≡ false → position_or_len (same strip) strips ≡ length strips
first_met strip strips none =
    position_or_len_is (same strip) strips (length strips) [] (omega arith)
    (λ k lt. elim (cases_Bool (same strip (get_or strips k []))) [
      | inl e ↦ absurd (true≢false (sym (list_any_at (same strip) strips k [] lt e) ∙ none))
      | inr e ↦ e
    ])
    (λ lt. absurd (omega arith))

module _ (values : List Bool) (outer : List ℕ) (strips : List (List ℕ)) (strip : List ℕ) (names : NamesStrips values outer strips)
    (here : (b : ℕ) → b < 256 → packed_bit strip b ≡ get_or values (length outer * 256 + b) false) where
  -- one more strip is named; `more` begins with the stored ones, and has no more than the new one behind them
  named_by : (more : List (List ℕ)) (name : ℕ) → name < length more → get_or more name [] ≡ strip → length more ≤ length strips + 1 →
      length strips ≤ length more →
      ((k : ℕ) → k < length strips → get_or more k [] ≡ get_or strips k []) → ((k : ℕ) → length strips ≤ k → k < length more → name ≡ k) →
      NamesStrips values (outer ++ name ∷ []) more
  named_by more name inside own short grown kept last = record {
    within = λ i h. at i h (λ n o. n < length more) (λ lt. (let w = names.within i lt in omega arith)) inside;
    used = λ k h. elim (cases_lt k (length strips)) [
      | inl lt ↦ let u = names.used k lt in
          (u.0, (let l = length_push outer name in let t = u.1.0 in omega arith, get_or_append_left outer (name ∷ []) 0 u.0 u.1.0 ∙ u.1.1))
      | inr le ↦ (length outer, (let l = length_push outer name in omega arith, get_or_push outer name 0 (length outer) refl ∙ last k le h))
    ];
    few = (let l = length_push outer name in let f = names.few in omega arith);
    labels = λ i b h small. at i h (λ n o. packed_bit (get_or more n []) b ≡ get_or values (o * 256 + b) false)
        (λ lt. ap (λ s. packed_bit s b) (kept (get_or outer i 0) (names.within i lt)) ∙ names.labels i b lt small)
        (ap (λ s. packed_bit s b) own ∙ here b small);
  }
    where
      at : (i : ℕ) → i < length (outer ++ name ∷ []) → (P : ℕ → ℕ → Type 0) → (i < length outer → P (get_or outer i 0) i) → P name (length outer) →
          P (get_or (outer ++ name ∷ []) i 0) i
      at i h P before there = elim (cases_lt i (length outer)) [
        | inl lt ↦ subst (λ n. P n i) (sym (get_or_append_left outer (name ∷ []) 0 i lt)) (before lt)
        | inr le ↦
            let l = length_push outer name in
            let e : length outer ≡ i = omega arith in
            subst (λ o. P (get_or (outer ++ name ∷ []) o 0) o) e (subst (λ n. P n (length outer)) (sym (get_or_push outer name 0 (length outer) refl)) there)
      ]

  -- a strip is named after an equal stored one, or else is stored
  pub strip_added : (name : ℕ) (more : List (List ℕ)) → name ≡ position_or_len (same strip) strips →
      more ≡ cond (list_any (same strip) strips) strips (strips ++ strip ∷ []) → name < length more → NamesStrips values (outer ++ name ∷ []) more
  strip_added name more n m inside = elim (cases_Bool (list_any (same strip) strips)) [
    | inl e ↦
        let s : more ≡ strips = m ∙ ap (λ b. cond b strips (strips ++ strip ∷ [])) e in
        let l = ap length s in
        let p = passes_at_first (same strip) strips [] (omega arith) in
        named_by more name inside
        (ap (λ z. get_or z name []) s ∙ ap (λ k. get_or strips k []) n
        ∙ sym ((bytes_decides strip (get_or strips (position_or_len (same strip) strips) [])).0 p))
        (omega arith) (omega arith) (λ k lt. ap (λ z. get_or z k []) s) (λ k le lt. absurd (omega arith))
    | inr e ↦
        let s : more ≡ strips ++ strip ∷ [] = m ∙ ap (λ b. cond b strips (strips ++ strip ∷ [])) e in
        let l = ap length s ∙ length_push strips strip in
        let f : name ≡ length strips = n ∙ first_met strip strips e in
        named_by more name inside (ap (λ z. get_or z name []) s ∙ get_or_push strips strip [] name (sym f)) (omega arith) (omega arith)
        (λ k lt. ap (λ z. get_or z k []) s ∙ get_or_append_left strips (strip ∷ []) [] k lt)
        (λ k le lt. f ∙ (let e : length strips ≡ k = omega arith in e))
  ]

-- at most one more is stored
pub few_more : (seen : Bool) (strips : List (List ℕ)) (strip : List ℕ) → length (cond seen strips (strips ++ strip ∷ [])) ≤ length strips + 1
few_more true strips strip = omega arith
few_more false strips strip = omega (arith, length_push strips strip)

pub names_none : (values : List Bool) → NamesStrips values [] []
names_none values = grind arith

-- a strip of a function's words
abbrev pub strip_of : List ℕ → ℕ → List ℕ
strip_of words at = get_or words (at * 4) 0 ∷ get_or words (at * 4 + 1) 0 ∷ get_or words (at * 4 + 2) 0 ∷ get_or words (at * 4 + 3) 0 ∷ []

pub strip_bits : (words : List ℕ) (at b : ℕ) → b < 256 → packed_bit (strip_of words at) b ≡ packed_bit words (at * 256 + b)
strip_bits words at b h = (λ k. bit_at (word (b / 64) small k) (bit k) == 1)
  where
    small : b / 64 < 4
    small = (div-lt_iff_lt-mul (omega arith)).1 h

    parts : (at * 4 + b / 64) * 64 + b % 64 ≡ at * 256 + b
    parts = let d = div-add-mod b 64 in omega arith

    bit : b % 64 ≡ (at * 256 + b) % 64
    bit = sym (ap (λ k. k % 64) (sym parts) ∙ mod-mul-add (at * 4 + b / 64) 64 (b % 64) (mod-lt b (omega arith)))

    place : at * 4 + b / 64 ≡ (at * 256 + b) / 64
    place = sym (ap (λ k. k / 64) (sym parts) ∙ div-mul-add (at * 4 + b / 64) 64 (b % 64) (mod-lt b (omega arith)))

    each : (w : ℕ) → w < 4 → get_or (strip_of words at) w 0 ≡ get_or words (at * 4 + w) 0
    each zero lt = ap (λ k. get_or words k 0) (let e : at * 4 ≡ at * 4 + 0 = omega arith in e)
    each (suc zero) lt = refl
    each (suc (suc zero)) lt = refl
    each (suc (suc (suc zero))) lt = refl
    each (suc (suc (suc (suc w)))) lt = absurd (omega arith)

    word : (w : ℕ) → w < 4 → get_or (strip_of words at) (b / 64) 0 ≡ get_or words ((at * 256 + b) / 64) 0
    word w lt = each (b / 64) small ∙ ap (λ k. get_or words k 0) place

-- ---- a function's values among all

pub values_at : (p : TruthTables) (j k : ℕ) → j < length p.tables → k < 2 ^ p.inputs →
    get_or (values_of p) (j * 2 ^ p.inputs + k) false ≡ get_or (get_or p.tables j []) k false
unfolding values_of row
values_at p j k small inside = each p.tables j small
  where
    n : ℕ
    n = 2 ^ p.inputs

    first : (t : List Bool) → get_or (row p.inputs t) k false ≡ get_or t k false
    first t = get_or-map-range_with_len (λ i. get_or t i false) 0 n k k false inside (omega arith)

    each : (ts : List (List Bool)) (i : ℕ) → i < length ts → get_or (flat_map (row p.inputs) ts) (i * n + k) false ≡ get_or (get_or ts i []) k false
    each [] i h = absurd (omega arith)
    each (t ∷ ts) zero h =
        let l = length_row p.inputs t in
        let z : 0 * n + k ≡ k = omega (arith, zero-mul n) in
        ap (λ m. get_or (row p.inputs t ++ flat_map (row p.inputs) ts) m false) z
        ∙ get_or_append_left (row p.inputs t) (flat_map (row p.inputs) ts) false k (omega arith) ∙ first t
    each (t ∷ ts) (suc i) h =
        let l = length_row p.inputs t in
        let m = suc-mul i n in
        let e : suc i * n + k ≡ length (row p.inputs t) + (i * n + k) = omega arith in
        ap (λ o. get_or (row p.inputs t ++ flat_map (row p.inputs) ts) o false) e
        ∙ get_or-append-add (row p.inputs t) (flat_map (row p.inputs) ts) (i * n + k) false ∙ each ts i (omega arith)

pub table_bit : (n : ℕ) (words : List ℕ) (k : ℕ) → k < 2 ^ n → packed_bit words k ≡ get_or (table_in n words) k false
unfolding table_in
table_bit n words k h = sym (get_or-map-range_with_len (packed_bit words) 0 (2 ^ n) k k false h (omega arith))

-- from 8 variables on a function has four words for each strip
pub words_parted : (n : ℕ) → 8 ≤ n → (words_per_table n ≡ 2 ^ (n - 8) * 4) × (2 ^ n ≡ 2 ^ (n - 8) * 256)
words_parted n h = grind (arith, pow-add)

-- ---- the numbers of the stored strips

module _ (values : List Bool) (first : Bool) (outer : List ℕ) (strips : List (List ℕ)) (names : NamesStrips values outer strips) where
  abbrev all : List ℕ
  all = map (number_in first strips) (range_with_len 0 (length strips * 256))

  pub stored_long : length (map (number_in first strips) (range_with_len 0 (length strips * 256))) ≡ length strips * 256
  stored_long = length-map-range_with_len (number_in first strips) 0 (length strips * 256)

  pub stored_strips : AreStrips outer (map (number_in first strips) (range_with_len 0 (length strips * 256))) 256
  stored_strips = record { count = length strips; whole = stored_long; within = names.within; used = names.used }

  number_at : (s b : ℕ) → s < length strips → b < 256 → get_or all (s * 256 + b) 0 ≡ number_of first (packed_bit (get_or strips s []) b)
  unfolding number_in
  number_at s b h small =
      get_or-map-range_with_len (number_in first strips) 0 (length strips * 256) (s * 256 + b) (s * 256 + b) 0 (omega arith) (omega arith)
      ∙ (λ i. number_of first (packed_bit (get_or strips (div-mul-add s 256 b small i) []) (mod-mul-add s 256 b small i)))

  pub stored_values : length outer * 256 ≡ length values →
      unrolled outer (map (number_in first strips) (range_with_len 0 (length strips * 256))) 256 ≡ map (number_of first) values
  stored_values whole = same_by_places (unrolled outer all 256) (map (number_of first) values) (long ∙ whole ∙ sym (length-map values (number_of first))) each
    where
      long : length (unrolled outer all 256) ≡ length outer * 256
      long = length_unrolled outer all 256 stored_strips

      at : (i b : ℕ) → i < length outer → b < 256 → get_or (unrolled outer all 256) (i * 256 + b) 0 ≡ get_or (map (number_of first) values) (i * 256 + b) 0
      at i b h small =
          unrolled_at outer all 256 stored_strips i b h small ∙ number_at (get_or outer i 0) b (names.within i h) small
          ∙ ap (number_of first) (names.labels i b h small) ∙ sym (get_or-map (number_of first) values (i * 256 + b) false 0 (omega arith))

      each : (k : ℕ) → k < length (unrolled outer all 256) → get_or (unrolled outer all 256) k 0 ≡ get_or (map (number_of first) values) k 0
      each k lt =
          let p = place_parts 256 k (omega arith) in
          subst (λ j. get_or (unrolled outer all 256) j 0 ≡ get_or (map (number_of first) values) j 0) p.0
          (at (k / 256) (k % 256) (let l = long in let a = p.0 in let b = p.1 in omega arith) p.1)
