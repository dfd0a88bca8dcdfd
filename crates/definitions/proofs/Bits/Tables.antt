-- The dependence that a packed truth table shows.
--     table_value      the values of a table in words
--     rows_room, rows_depend, rows_alike      variables from 6 on: whole words are compared
--     halves_depend, halves_alike      variables below 6: each word is compared with itself shifted
use Rattle.std.proofs.Common.{◌≡◌, ℕ, zero, suc, ◌+◌, ◌-◌, ◌*◌, ◌/◌, ◌%◌, ◌^◌, ◌<◌, ◌≤◌, Bool, true, false, List, length, get_or, refl, sym, ap, ◌∙◌, arith, inl, inr, ◌⊎◌, eqb, zero-add}
use Rattle.std.specs.Int.{bit_at}
use Rattle.std.proofs.lemmas.Bool.{cases_lt}
use Rattle.std.proofs.lemmas.List.FromFn.{get_or-map-range_with_len}
use Rattle.std.proofs.lemmas.Nat.{pow-add}
use Rattle.std.proofs.lemmas.Nat.Bits.{bit_at_cat_high, bit_at_cat_low, bit_at-lt, same_from_bits_below}
use Rattle.definitions.specs.Functions.{depends, from_table}
use Rattle.definitions.specs.Problems.{IsClean, packed_bit, table_in, words_per_table}
use Rattle.definitions.proofs.Bits.PointNumbers.{room_above, table_depends, table_same_values, table_independent}

pub table_value : (n : ℕ) (words : List ℕ) (k : ℕ) → k < 2 ^ n → get_or (table_in n words) k false ≡ packed_bit words k
unfolding table_in
table_value n words k h = get_or-map-range_with_len (packed_bit words) 0 (2 ^ n) k k false h (zero-add k)

pub value_at_word : (words : List ℕ) (i b : ℕ) → b < 64 → packed_bit words (64 * i + b) ≡ eqb (bit_at (get_or words i 0) b) 1
value_at_word words i b h = grind arith

pub same_bit : (a b : ℕ) → a < 2 → b < 2 → eqb a 1 ≡ eqb b 1 → a ≡ b
same_bit a b h k l = grind arith

pub whole_words : (n : ℕ) → ((6 ≤ n) × (2 ^ n ≡ 64 * 2 ^ (n - 6)) × (words_per_table n ≡ 2 ^ (n - 6))) ⊎ ((n < 6) × (words_per_table n ≡ 1))
whole_words n = elim (cases_lt n 6) [ inl h ↦ inr (h, few n h) | inr h ↦ inl (h, whole h, fill h) ]
  where
    few : (k : ℕ) → k < 6 → words_per_table k ≡ 1
    few zero h = refl
    few (suc zero) h = refl
    few (suc (suc zero)) h = refl
    few (suc (suc (suc zero))) h = refl
    few (suc (suc (suc (suc zero)))) h = refl
    few (suc (suc (suc (suc (suc zero))))) h = refl
    few (suc (suc (suc (suc (suc (suc k)))))) h = absurd (omega arith)

    whole : 6 ≤ n → 2 ^ n ≡ 64 * 2 ^ (n - 6)
    whole h = sym (ap (λ z. 2 ^ z) (omega arith)) ∙ pow-add 2 6 (n - 6)

    fill : 6 ≤ n → words_per_table n ≡ 2 ^ (n - 6)
    fill h = omega (arith, whole h)

-- ---- variables from 6 on

module _ (n x : ℕ) (words : List ℕ) (high : 6 ≤ x) (small : x < n) (long : length words ≡ words_per_table n) where
  step_is : 2 ^ x ≡ 64 * 2 ^ (x - 6)
  step_is = sym (ap (λ z. 2 ^ z) (omega arith)) ∙ pow-add 2 6 (x - 6)

  rows : (length words ≡ 2 ^ (n - 6)) × (2 ^ n ≡ 64 * length words)
  rows = grind (arith, whole_words)

  pub rows_room : (i : ℕ) → i < length words → bit_at i (x - 6) ≡ 0 → i + 2 ^ (x - 6) < length words
  rows_room i h off =
      let l = rows.0 in
      omega (arith, room_above (n - 6) i (x - 6) (omega arith) (omega arith) off)

  place_bit : (i b : ℕ) → b < 64 → bit_at (64 * i + b) x ≡ bit_at i (x - 6)
  place_bit i b h = ap (λ z. bit_at z x) (omega arith) ∙ bit_at_cat_high i 6 b x h high

  -- the values at two places 2 ^ x apart
  above_value : (i b : ℕ) → b < 64 → packed_bit words (64 * i + b + 2 ^ x) ≡ eqb (bit_at (get_or words (i + 2 ^ (x - 6)) 0) b) 1
  above_value i b h = ap (packed_bit words) (omega (arith, step_is)) ∙ value_at_word words (i + 2 ^ (x - 6)) b h

  pub rows_depend : ((i : ℕ) → get_or words i 0 < 2 ^ 64) → (i : ℕ) → i + 2 ^ (x - 6) < length words → bit_at i (x - 6) ≡ 0 →
      (get_or words i 0 ≡ get_or words (i + 2 ^ (x - 6)) 0 → ⊥) → depends n (from_table (table_in n words)) x ≡ true
  rows_depend fits i room off ne = by (depends n (from_table (table_in n words)) x) refl
    where
      within : (b : ℕ) → b < 64 → 64 * i + b + 2 ^ x < 2 ^ n
      within b h = omega (arith, step_is, rows.1)

      same : depends n (from_table (table_in n words)) x ≡ false → (b : ℕ) → b < 64 → bit_at (get_or words i 0) b ≡ bit_at (get_or words (i + 2 ^ (x - 6)) 0) b
      same e b h =
          let w = within b h in
          same_bit _ _ (bit_at-lt _ b) (bit_at-lt _ b)
          (sym (value_at_word words i b h) ∙ sym (table_value n words (64 * i + b) (omega arith))
          ∙ table_same_values n (table_in n words) x (64 * i + b) small e (omega arith) (place_bit i b h ∙ off)
          ∙ table_value n words (64 * i + b + 2 ^ x) w ∙ above_value i b h)

      by : (d : Bool) → depends n (from_table (table_in n words)) x ≡ d → d ≡ true
      by true e = refl
      by false e = absurd (ne (same_from_bits_below 64 _ _ (fits i) (fits (i + 2 ^ (x - 6))) (same e)))

  pub rows_alike : ((i : ℕ) → i + 2 ^ (x - 6) < length words → bit_at i (x - 6) ≡ 0 → get_or words i 0 ≡ get_or words (i + 2 ^ (x - 6)) 0) →
      depends n (from_table (table_in n words)) x ≡ false
  rows_alike h = grind (arith, table_independent, table_value, step_is, place_bit, above_value)

-- ---- variables below 6

module _ (n x : ℕ) (words : List ℕ) (low : x < 6) (small : x < n) (long : length words ≡ words_per_table n) where
  place_low : (i b : ℕ) → bit_at (64 * i + b) x ≡ bit_at b x
  place_low i b = ap (λ z. bit_at z x) (omega arith) ∙ bit_at_cat_low i 6 b x low

  value_above : (i b : ℕ) → b + 2 ^ x < 64 → packed_bit words (64 * i + b + 2 ^ x) ≡ eqb (bit_at (get_or words i 0) (b + 2 ^ x)) 1
  value_above i b h = ap (packed_bit words) (omega arith) ∙ value_at_word words i (b + 2 ^ x) h

  -- a bit of a clean word that is not after the last point
  inside : IsClean n words → (i b : ℕ) → i < length words → b + 2 ^ x < 64 →
      (bit_at (get_or words i 0) b ≡ bit_at (get_or words i 0) (b + 2 ^ x) → ⊥) → 64 * i + b < 2 ^ n
  inside clean i b h room ne = grind (arith, whole_words)

  pub halves_depend : IsClean n words → (i b : ℕ) → i < length words → b + 2 ^ x < 64 → bit_at b x ≡ 0 →
      (bit_at (get_or words i 0) b ≡ bit_at (get_or words i 0) (b + 2 ^ x) → ⊥) →
      depends n (from_table (table_in n words)) x ≡ true
  halves_depend clean i b h room off ne =
      let k = inside clean i b h room ne in
      let o = place_low i b ∙ off in
      table_depends n (64 * i + b) x k small o (table_in n words) (λ e.
      ne (same_bit _ _ (bit_at-lt _ b) (bit_at-lt _ (b + 2 ^ x))
      (sym (value_at_word words i b (omega arith)) ∙ sym (table_value n words (64 * i + b) k) ∙ e
      ∙ table_value n words (64 * i + b + 2 ^ x) (room_above n (64 * i + b) x k small o) ∙ value_above i b room)))

  pub halves_alike : ((i b : ℕ) → i < length words → b + 2 ^ x < 64 → bit_at b x ≡ 0 → bit_at (get_or words i 0) b ≡ bit_at (get_or words i 0) (b + 2 ^ x)) →
      depends n (from_table (table_in n words)) x ≡ false
  halves_alike h = table_independent n (table_in n words) x small at
    where
      at : (k : ℕ) → k < 2 ^ n → bit_at k x ≡ zero → k + 2 ^ x < 2 ^ n → get_or (table_in n words) k false ≡ get_or (table_in n words) (k + 2 ^ x) false
      at k within off room =
          let e : 64 * (k / 64) + k % 64 ≡ k = omega arith in
          let b : k % 64 < 64 = omega arith in
          let o : bit_at (k % 64) x ≡ 0 = sym (place_low (k / 64) (k % 64)) ∙ ap (λ z. bit_at z x) e ∙ off in
          let r : k % 64 + 2 ^ x < 64 = room_above 6 (k % 64) x b low o in
          grind (arith, table_value, value_above)
