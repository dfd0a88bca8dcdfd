-- Packed truth tables of words whose points behind the last one are left out.
--     kept_packed, kept_tables      they are packed, and hold the same truth tables
use Rattle.std.proofs.Common.{◌≡◌, ℕ, zero, suc, ◌*◌, ◌^◌, ◌<◌, ◌≤◌, Bool, true, false, ◌&&◌, inl, inr, List, length, get_or, refl, sym, ap, ◌∙◌, arith, eqb, bit_and, ltb}
use Rattle.std.specs.Int.{bit_at}
use Rattle.std.proofs.lemmas.Bool.{cases_lt, false≢true, le-ltb}
use Rattle.std.proofs.lemmas.Nat.{and_le_r}
use Rattle.std.proofs.lemmas.Nat.Bits.{bit_at-lt, bit_at_above}
use Rattle.definitions.specs.Problems.{IsClean, IsPacked, tables_of, words_per_table}
use Rattle.definitions.proofs.Bits.Problems.{block_inside, same_tables, table_of, length-tables_of, length-table_in, value_of}
use Rattle.truth_table.proofs.TermWords.{masked_bits}

module _ (n m : ℕ) (words items : List ℕ) (mask : ℕ) (masks : (b : ℕ) → b < 64 → eqb (bit_at mask b) 1 ≡ ltb b (2 ^ n))
    (narrow : mask < 2 ^ 64) (long : length words ≡ m * words_per_table n)
    (same : length items ≡ length words) (laid : (i : ℕ) → i < length words → get_or items i 0 ≡ bit_and (get_or words i 0) mask) where
  kept_bit : (i b : ℕ) → i < length words → b < 64 → eqb (bit_at (get_or items i 0) b) 1 ≡ (eqb (bit_at (get_or words i 0) b) 1 && ltb b (2 ^ n))
  kept_bit i b h l = grind (arith, masked_bits)

  -- the truth tables are the same
  pub kept_tables : tables_of n m items ≡ tables_of n m words
  kept_tables = same_tables n m items (tables_of n m words) (length-tables_of n m words) (λ j h. ap length (table_of n m words j h) ∙ length-table_in n _)
      (λ j k h l.
      let q = block_inside (words_per_table n) m j h in
      grind (arith, kept_bit, value_of))
    where
      and_yes : (b : Bool) → (b && true) ≡ b
      and_yes true = refl
      and_yes false = refl

  clean : IsClean n items
  clean i b h big = elim (cases_lt b 64) [
    | inr ge ↦ bit_at_above (get_or items i 0) 64 b (omega (arith, and_le_r (get_or words i 0) mask)) ge
    | inl lt ↦ not_one (bit_at (get_or items i 0) b) (bit_at-lt (get_or items i 0) b)
        (kept_bit i b (omega arith) lt ∙ ap (λ c. eqb (bit_at (get_or words i 0) b) 1 && c) (le-ltb b (2 ^ n) big)
        ∙ and_no (eqb (bit_at (get_or words i 0) b) 1))
  ]
    where
      and_no : (b : Bool) → (b && false) ≡ false
      and_no true = refl
      and_no false = refl

      not_one : (c : ℕ) → c < 2 → eqb c 1 ≡ false → c ≡ 0
      not_one zero k e = refl
      not_one (suc zero) k e = absurd (false≢true (sym e))
      not_one (suc (suc c)) k e = absurd (omega arith)

  pub kept_packed : 1 ≤ n → n ≤ 16 → 1 ≤ m → m ≤ 16 → IsPacked n m items
  kept_packed a b c d = record { some_inputs = a; few_inputs = b; some_outputs = c; few_outputs = d; long = same ∙ long; clean = clean }
