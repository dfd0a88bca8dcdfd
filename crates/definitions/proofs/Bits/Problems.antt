-- Problems in packed words.
--     length-tables_of, table_of, length-table_in      how many tables; table j; its length
--     place_inside, block_inside      a word of table j lies in the words
--     value_of      a value is a bit of a word
--     tables_of_zeros, tables_of_set, packed_set      all zeros; one value made 1
use Rattle.std.proofs.Common.{◌≡◌, ◌≢◌, ℕ, zero, suc, ◌+◌, ◌*◌, ◌/◌, ◌%◌, ◌^◌, ◌<◌, ◌≤◌, Bool, true, false, cond, List, [], ◌∷◌, length, map, get_or, set, replicate, refl, sym, ap, ◌∙◌, arith, inl, inr, ◌⊎◌, subst, eqb, zero-add, bit_or, ◌||◌, ◌&&◌}
use Rattle.std.specs.Int.{bit_at, w16, w64}
use Rattle.std.specs.List.{list_any, filter}
use Rattle.std.proofs.lemmas.Bool.{cases_eq, cases_lt}
use Rattle.std.proofs.lemmas.List.{get_or-take, get_or-drop, get_or-replicate, get_or-set_same, get_or-set_other, length-set, length-replicate, length-take-le, length-drop, ext_get_or}
use Rattle.std.proofs.lemmas.List.FromFn.{get_or-map-range_with_len, length-map-range_with_len}
use Rattle.std.proofs.lemmas.Nat.Bits.{bit_at_set_same, bit_at_set_other, bit_at-zero, same_from_bits}
use Rattle.definitions.specs.Problems.{TruthTables, functions, IsClean, IsPacked, packed_bit, packed_tables, outputs_of, table_at, table_in, words_of, tables_of, words_per_table}
use Rattle.definitions.specs.Functions.{depends, from_table}
use Rattle.definitions.specs.Orders.{has, mask_of, variables}
use Rattle.definitions.specs.Widths.{essential, essential_mask}
use Rattle.definitions.proofs.Lists.Orders.{has_filter, has_variables}
use Rattle.definitions.proofs.Widths.Recurrence.{distinct_filter, distinct_variables}
use Rattle.definitions.proofs.Bits.Masks.{bit-mask_of}
use Rattle.definitions.proofs.Bits.Tables.{table_value}
use Rattle.std.proofs.Math.Bool.{or-true}

pub length-tables_of : (n m : ℕ) (words : List ℕ) → length (tables_of n m words) ≡ m
unfolding tables_of
length-tables_of n m words = length-map-range_with_len (λ j. table_in n (words_of (words_per_table n) words j)) 0 m

pub table_of : (n m : ℕ) (words : List ℕ) (j : ℕ) → j < m → get_or (tables_of n m words) j [] ≡ table_in n (words_of (words_per_table n) words j)
unfolding tables_of
table_of n m words j h = get_or-map-range_with_len (λ j. table_in n (words_of (words_per_table n) words j)) 0 m j j [] h (zero-add j)

pub length-table_in : (n : ℕ) (words : List ℕ) → length (table_in n words) ≡ 2 ^ n
unfolding table_in
length-table_in n words = length-map-range_with_len (packed_bit words) 0 (2 ^ n)

-- the next block of words begins within the words
pub block_inside : (W m j : ℕ) → j < m → j * W + W ≤ m * W
block_inside W m j h = grind arith

pub point_inside : (n k : ℕ) → k < 2 ^ n → k / 64 < words_per_table n
point_inside n k h = omega arith

pub value_of : (n m : ℕ) (words : List ℕ) (j k : ℕ) → j < m → k < 2 ^ n →
    get_or (get_or (tables_of n m words) j []) k false ≡ eqb (bit_at (get_or words (j * words_per_table n + k / 64) 0) (k % 64)) 1
value_of n m words j k h within = search (table_of, get_or-take, point_inside, get_or-drop, table_value)

-- tables with the values of others
pub same_tables : (n m : ℕ) (words : List ℕ) (ts : List (List Bool)) → length ts ≡ m → ((j : ℕ) → j < m → length (get_or ts j []) ≡ 2 ^ n) →
    ((j k : ℕ) → j < m → k < 2 ^ n →
    eqb (bit_at (get_or words (j * words_per_table n + k / 64) 0) (k % 64)) 1 ≡ get_or (get_or ts j []) k false) →
    tables_of n m words ≡ ts
same_tables n m words ts l ls h =
    ext_get_or [] (tables_of n m words) ts (length-tables_of n m words ∙ sym l)
    (λ j b. one j (subst (λ (z : ℕ). j < z) (length-tables_of n m words) b))
  where
    long : (j : ℕ) → j < m → length (get_or (tables_of n m words) j []) ≡ 2 ^ n
    long j b = ap length (table_of n m words j b) ∙ length-table_in n (words_of (words_per_table n) words j)

    one : (j : ℕ) → j < m → get_or (tables_of n m words) j [] ≡ get_or ts j []
    one j b = ext_get_or false _ _ (long j b ∙ sym (ls j b)) (λ k c. let c' = subst (λ (z : ℕ). k < z) (long j b) c in value_of n m words j k b c' ∙ h j k b c')

pub tables_of_zeros : (n m : ℕ) → tables_of n m (replicate (m * words_per_table n) 0) ≡ replicate m (replicate (2 ^ n) false)
tables_of_zeros n m =
    same_tables n m _ _ (length-replicate m _)
    (λ j b. ap length (get_or-replicate m j (replicate (2 ^ n) false) [] b) ∙ length-replicate (2 ^ n) false)
    (λ j k b c.
    ap (λ z. eqb (bit_at z (k % 64)) 1) (get_or-replicate (m * words_per_table n) (j * words_per_table n + k / 64) 0 0 (omega (
      arith,
      block_inside (words_per_table n) m j b,
    )))
    ∙ ap (λ z. eqb z 1) (bit_at-zero (k % 64))
    ∙ sym (ap (λ t. get_or t k false) (get_or-replicate m j (replicate (2 ^ n) false) [] b) ∙ get_or-replicate (2 ^ n) k false false c))

-- a place of words tells the table and the word in it
apart : (W i j a b : ℕ) → a < W → b < W → i * W + a ≡ j * W + b → i ≡ j
apart W i j a b h k e = grind arith

module _ (n m : ℕ) (words : List ℕ) (output point : ℕ) (inside : output < m) (within : point < 2 ^ n) (long : length words ≡ m * words_per_table n) where
  place : ℕ
  place = output * words_per_table n + point / 64

  pub place_inside : output * words_per_table n + point / 64 < length words
  place_inside = omega (arith, block_inside (words_per_table n) m output inside)

  abbrev pub changed : ℕ → List ℕ
  changed word = set words (output * words_per_table n + point / 64) (bit_or word (1 * 2 ^ (point % 64) % 18446744073709551616))

  here : (word : ℕ) → bit_at (bit_or word (1 * 2 ^ (point % 64) % 18446744073709551616)) (point % 64) ≡ 1
  here word = bit_at_set_same w64 word (point % 64) (omega arith)

  elsewhere : (word b : ℕ) → b ≢ point % 64 → bit_at (bit_or word (1 * 2 ^ (point % 64) % 18446744073709551616)) b ≡ bit_at word b
  elsewhere word b ne = bit_at_set_other w64 word (point % 64) (omega arith) b ne

  module _ (word : ℕ) (read : word ≡ get_or words (output * words_per_table n + point / 64) 0) where
    bit_changed : (j k : ℕ) → j < m → k < 2 ^ n → (j ≡ output → k ≢ point) →
        eqb (bit_at (get_or (changed word) (j * words_per_table n + k / 64) 0) (k % 64)) 1 ≡ eqb
        (bit_at (get_or words (j * words_per_table n + k / 64) 0) (k % 64)) 1
    bit_changed j k b c ne = elim (cases_eq (j * words_per_table n + k / 64) (output * words_per_table n + point / 64)) [
      | inr other ↦ ap (λ z. eqb (bit_at z (k % 64)) 1) (get_or-set_other words (output * words_per_table n + point / 64) _ _ 0 other)
      | inl e ↦
          let p = point_inside n k c in
          let q = point_inside n point within in
          let i : j ≡ output = apart (words_per_table n) j output (k / 64) (point / 64) p q e in
          let f : k / 64 ≡ point / 64 = omega (arith, ap (λ z. z * words_per_table n) i) in
          let d : k % 64 ≢ point % 64 = λ g. ne i (omega arith) in
          ap (λ z. eqb (bit_at z (k % 64)) 1)
          (ap (λ z. get_or (changed word) z 0) e ∙ get_or-set_same words (output * words_per_table n + point / 64) _ 0 place_inside)
          ∙ ap (λ z. eqb z 1) (elsewhere word (k % 64) d ∙ ap (λ z. bit_at z (k % 64)) (read ∙ ap (λ z. get_or words z 0) (sym e)))
    ]

    abbrev target : List (List Bool)
    target = set (tables_of n m words) output (set (get_or (tables_of n m words) output []) point true)

    row_other : (j : ℕ) → j ≢ output → get_or target j [] ≡ get_or (tables_of n m words) j []
    row_other j ne = get_or-set_other (tables_of n m words) output j _ [] ne

    row_same : get_or target output [] ≡ set (get_or (tables_of n m words) output []) point true
    row_same =
        let l = length-tables_of n m words in
        get_or-set_same (tables_of n m words) output _ [] (omega arith)

    row_long : (j : ℕ) → j < m → length (get_or (tables_of n m words) j []) ≡ 2 ^ n
    row_long j b = ap length (table_of n m words j b) ∙ length-table_in n (words_of (words_per_table n) words j)

    pub tables_of_set : tables_of n m (changed word) ≡ set (tables_of n m words) output (set (get_or (tables_of n m words) output []) point true)
    tables_of_set = same_tables n m (changed word) target (length-set (tables_of n m words) output _ ∙ length-tables_of n m words) lengths values
      where
        lengths : (j : ℕ) → j < m → length (get_or target j []) ≡ 2 ^ n
        lengths j b = elim (cases_eq j output) [
          | inl e ↦ ap (λ z. length (get_or target z [])) e ∙ ap length row_same
              ∙ length-set (get_or (tables_of n m words) output []) point true ∙ row_long output inside
          | inr ne ↦ ap length (row_other j ne) ∙ row_long j b
        ]

        values : (j k : ℕ) → j < m → k < 2 ^ n →
            eqb (bit_at (get_or (changed word) (j * words_per_table n + k / 64) 0) (k % 64)) 1 ≡ get_or (get_or target j []) k false
        values j k b c = elim (cases_eq j output) [
          | inr ne ↦ bit_changed j k b c (λ e _. ne e) ∙ sym (value_of n m words j k b c) ∙ sym (ap (λ t. get_or t k false) (row_other j ne))
          | inl e ↦ elim (cases_eq k point) [
            | inr other ↦
                bit_changed j k b c (λ _. other) ∙ sym (value_of n m words j k b c) ∙ ap (λ z. get_or (get_or (tables_of n m words) z []) k false) e
                ∙ sym (get_or-set_other (get_or (tables_of n m words) output []) point k true false other)
                ∙ sym (ap (λ t. get_or t k false) (ap (λ z. get_or target z []) e ∙ row_same))
            | inl f ↦
                ap (λ z. eqb (bit_at (get_or (changed word) (z * words_per_table n + k / 64) 0) (k % 64)) 1) e
                ∙ ap (λ z. eqb (bit_at (get_or (changed word) (output * words_per_table n + z / 64) 0) (z % 64)) 1) f
                ∙ ap (λ z. eqb (bit_at z (point % 64)) 1) (get_or-set_same words (output * words_per_table n + point / 64) _ 0 place_inside)
                ∙ ap (λ z. eqb z 1) (here word)
                ∙ sym (get_or-set_same (get_or (tables_of n m words) output []) point true false (omega (arith, row_long output inside)))
                ∙ ap (λ z. get_or (set (get_or (tables_of n m words) output []) point true) z false) (sym f)
                ∙ sym (ap (λ t. get_or t k false) (ap (λ z. get_or target z []) e ∙ row_same))
          ]
        ]

    pub clean_set : IsClean n words → IsClean n (changed word)
    clean_set clean i b h big = elim (cases_eq i (output * words_per_table n + point / 64)) [
      | inl e ↦
          ap (λ z. bit_at (get_or (changed word) z 0) b) e
          ∙ ap (λ z. bit_at z b) (get_or-set_same words (output * words_per_table n + point / 64) _ 0 place_inside)
          ∙ elsewhere word b (omega arith) ∙ ap (λ z. bit_at z b) read ∙ clean (output * words_per_table n + point / 64) b place_inside big
      | inr ne ↦
          let l = length-set words (output * words_per_table n + point / 64) (bit_or word (1 * 2 ^ (point % 64) % 18446744073709551616)) in
          ap (λ z. bit_at z b) (get_or-set_other words (output * words_per_table n + point / 64) i _ 0 ne) ∙ clean i b (omega arith) big
    ]

    pub packed_set : IsPacked n m words → IsPacked n m (changed word)
    packed_set p = record {
      some_inputs = p.some_inputs;
      few_inputs = p.few_inputs;
      some_outputs = p.some_outputs;
      few_outputs = p.few_outputs;
      long = length-set words (output * words_per_table n + point / 64) _ ∙ long;
      clean = clean_set p.clean;
    }

-- the same, with the words' number and the problem's value as the program has them
module _ (n m : ℕ) (words : List ℕ) (packed : IsPacked n m words) where
  -- table j is the block of its words
  abbrev BlockFacts : ℕ → TruthTables → ℕ → Type 0
  BlockFacts size t j =
      j < outputs_of t →
      (j * size + size ≤ length words) × (table_in t.inputs (words_of size words j) ≡ table_at t j)
      × (length (words_of size words j) ≡ words_per_table t.inputs)
      × IsClean t.inputs (words_of size words j)

  block_long : (j : ℕ) → j < m → length (words_of (words_per_table n) words j) ≡ words_per_table n
  block_long j h = grind (arith, length-take-le, length-drop, block_inside)

  block_here : (j : ℕ) → BlockFacts (words_per_table n) (packed_tables n m words) j
  block_here j h = grind (arith, length-tables_of, table_of, block_long, get_or-take, get_or-drop)

  pub block_facts : (size : ℕ) (t : TruthTables) (j : ℕ) → size ≡ words_per_table n → packed_tables n m words ≡ t → BlockFacts size t j
  block_facts size t j e v = subst (λ (s : ℕ). BlockFacts s t j) (sym e) (subst (λ (u : TruthTables). BlockFacts (words_per_table n) u j) v (block_here j))

  -- one value made 1
  abbrev SetFacts : ℕ → TruthTables → ℕ → ℕ → Type 0
  SetFacts size t output point =
      output < outputs_of t → point < 2 ^ t.inputs →
      (output * size + point / 64 < length words) × ((word : ℕ) → word ≡ get_or words (output * size + point / 64) 0 →
      IsPacked n m (set words (output * size + point / 64) (bit_or word (1 * 2 ^ (point % 64) % 18446744073709551616)))
      × (tables_of n m (set words (output * size + point / 64) (bit_or word (1 * 2 ^ (point % 64) % 18446744073709551616))) ≡ set t.tables
      output (set (table_at t output) point true)))

  set_here : (output point : ℕ) → SetFacts (words_per_table n) (packed_tables n m words) output point
  set_here output point h k =
      let o : output < m = omega (arith, length-tables_of n m words) in (
        place_inside n m words output point o k packed.long,
        λ word read.
            (packed_set n m words output point o k packed.long word read packed, tables_of_set n m words output point o k packed.long word read),
      )

  pub set_facts : (size : ℕ) (t : TruthTables) (output point : ℕ) → size ≡ words_per_table n → packed_tables n m words ≡ t → SetFacts size t output point
  set_facts size t output point e v = grind (arith, set_here)

-- ---- whether some function depends on a variable

pub some_depends : (t : TruthTables) (x j : ℕ) → j < outputs_of t → depends t.inputs (from_table (table_at t j)) x ≡ true →
    list_any (λ f. depends t.inputs f x) (functions t) ≡ true
some_depends t x j h e = go t.tables j h e
  where
    go : (ts : List (List Bool)) (i : ℕ) → i < length ts → depends t.inputs (from_table (get_or ts i [])) x ≡ true →
        list_any (λ f. depends t.inputs f x) (map from_table ts) ≡ true
    go [] i h e = absurd (omega arith)
    go (u ∷ ts) zero h e = ap (λ b. b || list_any (λ f. depends t.inputs f x) (map from_table ts)) e
    go (u ∷ ts) (suc i) h e = ap (λ b. depends t.inputs (from_table u) x || b) (go ts i (omega arith) e) ∙ or-true (depends t.inputs (from_table u) x)

pub none_depends : (t : TruthTables) (x : ℕ) → ((j : ℕ) → j < outputs_of t → depends t.inputs (from_table (table_at t j)) x ≡ false) →
    list_any (λ f. depends t.inputs f x) (functions t) ≡ false
none_depends t x h = go t.tables h
  where
    go : (ts : List (List Bool)) → ((j : ℕ) → j < length ts → depends t.inputs (from_table (get_or ts j [])) x ≡ false) →
        list_any (λ f. depends t.inputs f x) (map from_table ts) ≡ false
    go [] k = refl
    go (u ∷ ts) k = ap (λ b. b || list_any (λ f. depends t.inputs f x) (map from_table ts)) (k zero (omega arith)) ∙ go ts (λ j l. k (suc j) (omega arith))

-- ---- the mask of the essential variables, one variable after the other

-- the mask has just the bits of the first i variables that pass a test
pub record MaskOfFirst (test : ℕ → Bool) (i mask : ℕ) : Type 0 where
  pub below : (y : ℕ) → y < i → bit_at mask y ≡ cond (test y) 1 0
  pub above : (y : ℕ) → i ≤ y → bit_at mask y ≡ 0

pub mask_none : (test : ℕ → Bool) → MaskOfFirst test 0 0
mask_none test = record { below = λ y h. absurd (omega arith); above = λ y h. bit_at-zero y }

module _ (test : ℕ → Bool) (i mask : ℕ) (small : i < 16) (m : MaskOfFirst test i mask) where
  pub mask_with_next : test i ≡ true → MaskOfFirst test (i + 1) (bit_or mask (1 * 2 ^ i % 65536))
  mask_with_next e = record {
    below = λ y h. elim (cases_eq y i) [
      | inl f ↦ ap (λ z. bit_at (bit_or mask (1 * 2 ^ i % 65536)) z) f ∙ bit_at_set_same w16 mask i small
          ∙ sym (ap (λ z. cond (test z) 1 0) f ∙ ap (λ b. cond b 1 0) e)
      | inr ne ↦ bit_at_set_other w16 mask i small y ne ∙ m.below y (omega arith)
    ];
    above = λ y h. bit_at_set_other w16 mask i small y (omega arith) ∙ m.above y (omega arith);
  }

  pub mask_without_next : test i ≡ false → MaskOfFirst test (i + 1) mask
  mask_without_next e = record {
    below = λ y h. elim (cases_eq y i) [
      | inl f ↦ m.above y (omega arith) ∙ sym (ap (λ z. cond (test z) 1 0) f ∙ ap (λ b. cond b 1 0) e)
      | inr ne ↦ m.below y (omega arith)
    ];
    above = λ y h. m.above y (omega arith);
  }

-- once all variables have been tested, it is the mask of those that pass
pub mask_without_gap : (test : ℕ → Bool) (i j mask : ℕ) → i ≤ j → ((y : ℕ) → i ≤ y → y < j → test y ≡ false) → MaskOfFirst test i mask →
    MaskOfFirst test j mask
mask_without_gap test i j mask le none m = record {
  below = λ y h. elim (cases_lt y i) [
    | inl lt ↦ m.below y lt
    | inr g ↦ m.above y g ∙ sym (ap (λ b. cond b 1 0) (none y g h))
  ];
  above = λ y h. m.above y (omega arith);
}

pub mask_of_passing : (test : ℕ → Bool) (n mask : ℕ) → MaskOfFirst test n mask → mask ≡ mask_of (filter test (variables n))
mask_of_passing test n mask m = same_from_bits mask (mask_of (filter test (variables n))) (λ y. bits y (cases_lt y n))
  where
    absent : (y : ℕ) → (b : Bool) → n ≤ y → has (variables n) y ≡ b → b ≡ false
    absent y false h e = refl
    absent y true h e = absurd (let l = (has_variables n y).0 e in omega arith)

    bits_there : (y : ℕ) → (b : Bool) → has (filter test (variables n)) y ≡ b → bit_at (mask_of (filter test (variables n))) y ≡ cond b 1 0
    bits_there y b e = bit-mask_of (filter test (variables n)) (distinct_filter test (variables n) (distinct_variables n)) y ∙ ap (λ z. cond z 1 0) e

    bits : (y : ℕ) → (y < n) ⊎ (n ≤ y) → bit_at mask y ≡ bit_at (mask_of (filter test (variables n))) y
    bits y (inl h) = m.below y h ∙ sym (bits_there y (test y) (has_filter test (variables n) y ∙ ap (λ b. b && test y) ((has_variables n y).1 h)))
    bits y (inr h) = m.above y h ∙ sym (bits_there y false (has_filter test (variables n) y ∙ ap (λ b. b && test y) (absent y (has (variables n) y) h refl)))

-- whether some function depends on a variable
pub some_dependence : TruthTables → ℕ → Bool
some_dependence t x = list_any (λ f. depends t.inputs f x) (functions t)

pub dependence_is : (t : TruthTables) (x : ℕ) → some_dependence t x ≡ list_any (λ f. depends t.inputs f x) (functions t)
unfolding some_dependence
dependence_is t x = refl

pub essential_is : (t : TruthTables) (mask : ℕ) → MaskOfFirst (some_dependence t) t.inputs mask → mask ≡ essential_mask t.inputs (functions t)
unfolding some_dependence essential_mask essential
essential_is t mask m = mask_of_passing (some_dependence t) t.inputs mask m
