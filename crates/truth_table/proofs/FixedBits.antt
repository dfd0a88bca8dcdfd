-- Numbers, words and truth tables with one bit or variable fixed.
--     flip      a bit where its power is added
--     fixed_inside      a number below 2 ^ n stays below it
--     number-fixed      the number of a point with a variable set
--     upper_bit, lower_bit      the word that the masked halves make
--     table_by      a truth table from its values
--     fixed_table_low, fixed_table_high      the truth table in words that are fixed within, or whole
--     fixed_clean_low, fixed_clean_high      nothing stands behind the last point
use Rattle.std.proofs.Common.{◌≡◌, ℕ, zero, suc, ◌+◌, ◌-◌, ◌*◌, ◌/◌, ◌%◌, ◌^◌, ◌<◌, ◌≤◌, Bool, true, false, ◌⊎◌, inl, inr, List, length, get_or, set, refl, sym, ap, ◌∙◌, arith, subst, eqb, min, bit_and, bit_or}
use Rattle.std.specs.Int.{bit_at}
use Rattle.std.proofs.lemmas.Bool.{cases_lt}
use Rattle.std.proofs.lemmas.List.{set-get_or, get_or-set_same, get_or-set_other}
use Rattle.std.proofs.lemmas.Nat.{pow_pos}
use Rattle.std.proofs.lemmas.Nat.Bits.{bit_at-zero, bit_at_and, bit_at_or, bit_at_above, bit_at_cat_low, bit_at_cat_high}
use Rattle.definitions.specs.Functions.{Point, Function, weight, number, from_table, restrict, SameFunction, table}
use Rattle.definitions.specs.Problems.{IsClean, packed_bit, table_in, words_per_table}
use Rattle.definitions.proofs.Bits.Points.{table-from_table}
use Rattle.definitions.proofs.Bits.Problems.{length-table_in}
use Rattle.definitions.proofs.Bits.Tables.{table_value, value_at_word, whole_words}
use Rattle.definitions.proofs.Bits.Words.{shifted_bit}
use Rattle.definitions.proofs.Bits.PointNumbers.{number-small, bit-number, number-raised, room_above}
use Rattle.definitions.proofs.Functions.Tables.{table_same}
use Rattle.truth_table.specs.Fixing.{fixed_bit}
use Rattle.truth_table.proofs.Literals.{low_bit, high_bit}
use Rattle.definitions.proofs.Precedence.Masks.{zero_or_one}
use Rattle.definitions.proofs.Precedence.Greedy.{pow_le_bit}

-- ---- numbers

pub flip : (m x : ℕ) → bit_at (m + 2 ^ x) x ≡ 1 - bit_at m x
flip m x = grind (arith, pow_pos)

bit_without : (k x : ℕ) → bit_at k x ≡ 1 → bit_at (k - 2 ^ x) x ≡ 0
bit_without k x e = grind arith

-- the four cases
up_zero : (k x : ℕ) → bit_at k x ≡ 0 → fixed_bit x true k ≡ k + 2 ^ x
up_zero k x e = ap (λ z. k + (1 - z) * 2 ^ x) e ∙ omega arith

up_one : (k x : ℕ) → bit_at k x ≡ 1 → fixed_bit x true k ≡ k
up_one k x e = ap (λ z. k + (1 - z) * 2 ^ x) e ∙ omega arith

down_zero : (k x : ℕ) → bit_at k x ≡ 0 → fixed_bit x false k ≡ k
down_zero k x e = ap (λ z. k - z * 2 ^ x) e ∙ omega arith

down_one : (k x : ℕ) → bit_at k x ≡ 1 → fixed_bit x false k ≡ k - 2 ^ x
down_one k x e = ap (λ z. k - z * 2 ^ x) e ∙ omega arith

-- a step of few places
step_bound : (r : ℕ) → r < 10 → (1 ≤ 2 ^ r) × (2 ^ r ≤ 512)
step_bound zero h = (omega arith, omega arith)
step_bound (suc zero) h = (omega arith, omega arith)
step_bound (suc (suc zero)) h = (omega arith, omega arith)
step_bound (suc (suc (suc zero))) h = (omega arith, omega arith)
step_bound (suc (suc (suc (suc zero)))) h = (omega arith, omega arith)
step_bound (suc (suc (suc (suc (suc zero))))) h = (omega arith, omega arith)
step_bound (suc (suc (suc (suc (suc (suc zero)))))) h = (omega arith, omega arith)
step_bound (suc (suc (suc (suc (suc (suc (suc zero))))))) h = (omega arith, omega arith)
step_bound (suc (suc (suc (suc (suc (suc (suc (suc zero)))))))) h = (omega arith, omega arith)
step_bound (suc (suc (suc (suc (suc (suc (suc (suc (suc zero))))))))) h = (omega arith, omega arith)
step_bound (suc (suc (suc (suc (suc (suc (suc (suc (suc (suc r)))))))))) h = absurd (omega arith)

-- a number below 2 ^ n stays below it
pub fixed_inside : (n x : ℕ) (b : Bool) (k : ℕ) → x < n → k < 2 ^ n → fixed_bit x b k < 2 ^ n
fixed_inside n x true k small h = elim (zero_or_one k x) [
  | inl e ↦ omega (arith, room_above n k x h small e, up_zero k x e)
  | inr e ↦ omega (arith, up_one k x e)
]
fixed_inside n x false k small h = omega arith

fixed_twice : (x : ℕ) (b : Bool) (k : ℕ) → fixed_bit x b (fixed_bit x b k) ≡ fixed_bit x b k
fixed_twice x b k = grind (arith, up_zero, up_one, flip, down_zero, down_one)

-- where the program computes it
pub raised_step : (i r bit : ℕ) → r < 10 → i < 1024 → bit ≡ bit_at i r →
    (bit ≤ 1) × ((1 - bit) * 2 ^ r % 18446744073709551616 ≡ (1 - bit_at i r) * 2 ^ r) × ((1 - bit) * 2 ^ r ≤ 512)
raised_step i r bit h k e = grind (arith, step_bound)

pub lowered_step : (i r bit : ℕ) → r < 10 → i < 1024 → bit ≡ bit_at i r → (bit * 2 ^ r % 18446744073709551616 ≡ bit_at i r * 2 ^ r) × (bit * 2 ^ r ≤ i)
lowered_step i r bit h k e = grind arith

-- and one that isn't below it doesn't come below it
fixed_outside : (n x : ℕ) (b : Bool) (k : ℕ) → x < n → 2 ^ n ≤ k → 2 ^ n ≤ fixed_bit x b k
fixed_outside n x true k small h = omega arith
fixed_outside n x false k small h = elim (zero_or_one k x) [
  | inl e ↦ omega (arith, down_zero k x e)
  | inr e ↦
      let f = down_one k x e in
      elim (cases_lt (k - 2 ^ x) (2 ^ n)) [
        | inl lt ↦ (absurd (omega (arith, room_above n (k - 2 ^ x) x lt small (bit_without k x e))))
        | inr ge ↦ omega arith
      ]
]

-- one more place is given the word at its fixed place
pub row_done : (old now : List ℕ) (r : ℕ) (b : Bool) (i v : ℕ) → i < length now → v ≡ get_or now (fixed_bit r b i) 0 →
    ((j : ℕ) → j < i → get_or now j 0 ≡ get_or old (fixed_bit r b j) 0) → ((j : ℕ) → i ≤ j → get_or now j 0 ≡ get_or old j 0) →
    (j : ℕ) → j < i + 1 → get_or (set now i v) j 0 ≡ get_or old (fixed_bit r b j) 0
row_done old now r b i v h read done rest j l = grind (arith, get_or-set_same, get_or-set_other, fixed_twice)

pub row_rest : (old now : List ℕ) (i v : ℕ) → ((j : ℕ) → i ≤ j → get_or now j 0 ≡ get_or old j 0) → (j : ℕ) → i + 1 ≤ j →
    get_or (set now i v) j 0 ≡ get_or old j 0
row_rest old now i v rest j l = get_or-set_other now i j v 0 (omega arith) ∙ rest j (omega arith)

pub number-fixed : (p : Point) (x : ℕ) (b : Bool) → x < length p → number (set p x b) ≡ fixed_bit x b (number p)
number-fixed p x b h = by (get_or p x false) refl b
  where
    raised : number (set p x true) ≡ number (set p x false) + 2 ^ x
    raised = number-raised p x h

    by : (c : Bool) → get_or p x false ≡ c → (d : Bool) → number (set p x d) ≡ fixed_bit x d (number p)
    by true e d = pick d
      where
        pick : (d : Bool) → number (set p x d) ≡ fixed_bit x d (number p)
        pick true =
            let same : number (set p x true) ≡ number p = ap number (ap (set p x) (sym e) ∙ set-get_or p x false) in
            same ∙ sym (up_one (number p) x (bit-number p x h ∙ ap weight e))
        pick false =
            let same : number (set p x true) ≡ number p = ap number (ap (set p x) (sym e) ∙ set-get_or p x false) in
            omega (arith, raised, down_one (number p) x (bit-number p x h ∙ ap weight e))
    by false e d = pick d
      where
        pick : (d : Bool) → number (set p x d) ≡ fixed_bit x d (number p)
        pick true =
            let same : number (set p x false) ≡ number p = ap number (ap (set p x) (sym e) ∙ set-get_or p x false) in
            omega (arith, raised, up_zero (number p) x (bit-number p x h ∙ ap weight e))
        pick false =
            let same : number (set p x false) ≡ number p = ap number (ap (set p x) (sym e) ∙ set-get_or p x false) in
            same ∙ sym (down_zero (number p) x (bit-number p x h ∙ ap weight e))

-- a place of a table's words, with a bit of a variable from 6 on fixed
pub fixed_rows_room : (n x : ℕ) (b : Bool) (words : List ℕ) → 6 ≤ x → x < n → length words ≡ words_per_table n → (i : ℕ) →
    i < length words → fixed_bit (x - 6) b i < length words
fixed_rows_room n x b words high small long i h = elim (whole_words n) [
  | inl w ↦
      let size = long ∙ w.2 in
      subst (λ z. fixed_bit (x - 6) b i < z) (sym size) (fixed_inside (n - 6) (x - 6) b i (omega arith) (subst (λ z. i < z) size h))
  | inr w ↦ absurd (omega (arith, w.0))
]

-- ---- words

-- a word shifted up
raised_low : (h s k : ℕ) → k < 64 → k < s → bit_at (h * 2 ^ s % 2 ^ 64) k ≡ 0
raised_low h s k lt low =
    let z : h * 2 ^ s ≡ h * 2 ^ s + 0 = omega arith in
    sym (ap (λ w. bit_at w k) (omega arith) ∙ bit_at_cat_low (h * 2 ^ s / 2 ^ 64) 64 (h * 2 ^ s % 2 ^ 64) k lt) ∙ ap (λ w. bit_at w k) z
    ∙ bit_at_cat_low h s 0 k low ∙ bit_at-zero k

raised_high : (h s k : ℕ) → k < 64 → s ≤ k → bit_at (h * 2 ^ s % 2 ^ 64) k ≡ bit_at h (k - s)
raised_high h s k lt high =
    let z : h * 2 ^ s ≡ h * 2 ^ s + 0 = omega arith in
    sym (ap (λ w. bit_at w k) (omega arith) ∙ bit_at_cat_low (h * 2 ^ s / 2 ^ 64) 64 (h * 2 ^ s % 2 ^ 64) k lt) ∙ ap (λ w. bit_at w k) z
    ∙ bit_at_cat_high h s 0 k (pow_pos s) high

module _ (from lower x : ℕ) (small : x < 6) (low : (b : ℕ) → b < 64 → bit_at lower b ≡ 1 - bit_at b x) where
  half : ℕ
  half = bit_and from lower

  half_bit : (k : ℕ) → k < 64 → bit_at half k ≡ min (bit_at from k) (1 - bit_at k x)
  unfolding half
  half_bit k h = bit_at_and from lower k ∙ ap (min (bit_at from k)) (low k h)

  below_half : (k : ℕ) → k < 64 → bit_at k x ≡ 0 → bit_at (half * 2 ^ (2 ^ x) % 2 ^ 64) k ≡ 0
  below_half k h e = grind (arith, raised_low, flip, raised_high, half_bit)

  -- both halves of a word are the masked half
  pub doubled_zero : (k : ℕ) → k < 64 → bit_at k x ≡ 0 → bit_at (bit_or (bit_and from lower) (bit_and from lower * 2 ^ (2 ^ x) % 2 ^ 64)) k ≡ bit_at from k
  unfolding half
  doubled_zero k h e = bit_at_or half (half * 2 ^ (2 ^ x) % 2 ^ 64) k ∙ omega (arith, half_bit k h, below_half k h e)

  pub doubled_one : (k : ℕ) → k < 64 → bit_at k x ≡ 1 →
      bit_at (bit_or (bit_and from lower) (bit_and from lower * 2 ^ (2 ^ x) % 2 ^ 64)) k ≡ bit_at from (k - 2 ^ x)
  unfolding half
  doubled_one k h e = grind (arith, bit_without, half_bit, raised_high, pow_le_bit, bit_at_or)

module _ (word lower x : ℕ) (small : x < 6) (low : (b : ℕ) → b < 64 → bit_at lower b ≡ 1 - bit_at b x) where
  pub upper_bit : (k : ℕ) → k < 64 →
      bit_at (bit_or (bit_and (word / 2 ^ (2 ^ x)) lower) (bit_and (word / 2 ^ (2 ^ x)) lower * 2 ^ (2 ^ x) % 2 ^ 64)) k ≡ bit_at word
      (fixed_bit x true k)
  upper_bit k h = elim (zero_or_one k x) [
    | inl e ↦ search (doubled_zero, shifted_bit, up_zero)
    | inr e ↦
        grind (arith, pow_le_bit, doubled_one, shifted_bit)
  ]

  pub lower_bit : (k : ℕ) → k < 64 → bit_at (bit_or (bit_and word lower) (bit_and word lower * 2 ^ (2 ^ x) % 2 ^ 64)) k ≡ bit_at word (fixed_bit x false k)
  lower_bit k h = elim (zero_or_one k x) [
    | inl e ↦ doubled_zero word lower x small low k h e ∙ ap (bit_at word) (sym (down_zero k x e))
    | inr e ↦ doubled_one word lower x small low k h e ∙ ap (bit_at word) (sym (down_one k x e))
  ]

-- ---- truth tables

-- a truth table from its values
pub table_by : (n : ℕ) (t : List Bool) (g : Function) → length t ≡ 2 ^ n → ((p : Point) → length p ≡ n → get_or t (number p) false ≡ g p) → t ≡ table n g
unfolding SameFunction from_table
table_by n t g l h = sym (table-from_table n t l) ∙ table_same n (from_table t) g h

module _ (n x : ℕ) (b : Bool) (old new : List ℕ) (small : x < n) where
  -- where each point has the value of the point with the bit made b, the words hold the restriction
  pub fixed_table : ((k : ℕ) → k < 2 ^ n → packed_bit new k ≡ packed_bit old (fixed_bit x b k)) →
      table_in n new ≡ table n (restrict x b (from_table (table_in n old)))
  unfolding restrict from_table
  fixed_table h = table_by n (table_in n new) (restrict x b (from_table (table_in n old))) (length-table_in n new) (λ p l.
      let s : number p < 2 ^ n = subst (λ (z : ℕ). number p < 2 ^ z) l (number-small p) in
      let f = number-fixed p x b (omega arith) in
      let i = fixed_inside n x b (number p) small s in
      grind (arith, table_value))

  -- variables below 6: within each word
  module _ (low : x < 6) (same : (i c : ℕ) → i < length new → c < 64 → bit_at (get_or new i 0) c ≡ bit_at (get_or old i 0) (fixed_bit x b c)) where
    fixed_low : (i c : ℕ) → c < 64 → fixed_bit x b (64 * i + c) ≡ 64 * i + fixed_bit x b c
    fixed_low i c h = by b
      where
        by : (d : Bool) → fixed_bit x d (64 * i + c) ≡ 64 * i + fixed_bit x d c
        by true = ap (λ z. 64 * i + c + (1 - z) * 2 ^ x) (low_bit i c x low) ∙ omega arith
        by false = elim (zero_or_one c x) [
          | inl e ↦ down_zero (64 * i + c) x (low_bit i c x low ∙ e) ∙ sym (ap (λ z. 64 * i + z) (down_zero c x e))
          | inr e ↦ (let l = pow_le_bit c x e in down_one (64 * i + c) x (low_bit i c x low ∙ e) ∙ omega arith ∙ sym (ap (λ z. 64 * i + z) (down_one c x e)))
        ]

    value_low : (i c : ℕ) → i < length new → c < 64 → packed_bit new (64 * i + c) ≡ packed_bit old (fixed_bit x b (64 * i + c))
    value_low i c l h =
        value_at_word new i c h ∙ ap (λ z. eqb z 1) (same i c l h)
        ∙ sym (ap (packed_bit old) (fixed_low i c h) ∙ value_at_word old i (fixed_bit x b c) (fixed_inside 6 x b c low h))

    pub fixed_table_low : length new ≡ words_per_table n → table_in n new ≡ table n (restrict x b (from_table (table_in n old)))
    fixed_table_low long = fixed_table (λ k h.
        let e : 64 * (k / 64) + k % 64 ≡ k = omega arith in
        subst (λ (z : ℕ). packed_bit new z ≡ packed_bit old (fixed_bit x b z)) e (value_low (k / 64) (k % 64) (omega arith) (omega arith)))

    pub fixed_clean_low : length new ≡ length old → ((i : ℕ) → i < length new → get_or new i 0 < 2 ^ 64) → IsClean n old → IsClean n new
    fixed_clean_low long fits clean i c l big = elim (cases_lt c 64) [
      | inl lt ↦ same i c l lt ∙ clean i (fixed_bit x b c) (omega arith) (fixed_outside n x b c small big)
      | inr ge ↦ bit_at_above (get_or new i 0) 64 c (fits i l) ge
    ]

  -- variables from 6 on: whole words
  module _ (high : 6 ≤ x) (same : (i : ℕ) → i < length new → get_or new i 0 ≡ get_or old (fixed_bit (x - 6) b i) 0) where
    step_split : 2 ^ x ≡ 64 * 2 ^ (x - 6)
    step_split = elim (whole_words x) [ inl w ↦ w.1 | inr w ↦ absurd (omega (arith, w.0)) ]

    fixed_high : (i c : ℕ) → c < 64 → fixed_bit x b (64 * i + c) ≡ 64 * fixed_bit (x - 6) b i + c
    fixed_high i c h = by b (zero_or_one i (x - 6))
      where
        bits : bit_at (64 * i + c) x ≡ bit_at i (x - 6)
        bits = high_bit i c x h high

        by : (d : Bool) → (bit_at i (x - 6) ≡ 0) ⊎ (bit_at i (x - 6) ≡ 1) → fixed_bit x d (64 * i + c) ≡ 64 * fixed_bit (x - 6) d i + c
        by true (inl e) = let s = step_split in up_zero (64 * i + c) x (bits ∙ e) ∙ omega arith ∙ sym (ap (λ z. 64 * z + c) (up_zero i (x - 6) e))
        by true (inr e) = up_one (64 * i + c) x (bits ∙ e) ∙ sym (ap (λ z. 64 * z + c) (up_one i (x - 6) e))
        by false (inl e) = down_zero (64 * i + c) x (bits ∙ e) ∙ sym (ap (λ z. 64 * z + c) (down_zero i (x - 6) e))
        by false (inr e) =
            let s = step_split in
            let l = pow_le_bit i (x - 6) e in
            down_one (64 * i + c) x (bits ∙ e) ∙ omega arith ∙ sym (ap (λ z. 64 * z + c) (down_one i (x - 6) e))

    value_high : (i c : ℕ) → i < length new → c < 64 → packed_bit new (64 * i + c) ≡ packed_bit old (fixed_bit x b (64 * i + c))
    value_high i c l h =
        value_at_word new i c h ∙ ap (λ z. eqb (bit_at z c) 1) (same i l)
        ∙ sym (ap (packed_bit old) (fixed_high i c h) ∙ value_at_word old (fixed_bit (x - 6) b i) c h)

    pub fixed_table_high : length new ≡ words_per_table n → table_in n new ≡ table n (restrict x b (from_table (table_in n old)))
    fixed_table_high long = fixed_table (λ k h.
        let e : 64 * (k / 64) + k % 64 ≡ k = omega arith in
        subst (λ (z : ℕ). packed_bit new z ≡ packed_bit old (fixed_bit x b z)) e (value_high (k / 64) (k % 64) (omega arith) (omega arith)))

    pub fixed_clean_high : ((i : ℕ) → i < length new → get_or new i 0 < 2 ^ 64) → IsClean n new
    fixed_clean_high fits i c l big = elim (whole_words n) [
      | inl w ↦
          let s = w.1 in
          let p = pow_pos (n - 6) in
          bit_at_above (get_or new i 0) 64 c (fits i l) (omega arith)
      | inr w ↦ absurd (omega (arith, w.0))
    ]
