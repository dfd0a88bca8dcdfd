-- Terms, character by character.
use Rattle.std.proofs.Common.{◌≡◌, ℕ, ◌+◌, ◌-◌, ◌*◌, ◌%◌, ◌^◌, ◌≤◌, ◌<◌, refl, ◌∙◌, ap, Bool, cond, ◌==◌, nat_lt, List, [], ◌∷◌, Option, Some, None, bit_or, bit_and, sym, min, max, pow_pos, arith}
use Rattle.std.specs.Int.{bit_at, w16}
use Rattle.std.proofs.lemmas.Bool.{cases_eq}
use Rattle.std.specs.List.{slice_index_or}
use Rattle.std.proofs.lemmas.Nat.Bits.{bit_at-zero, bit_at_set_same, bit_at_set_other, bit_at_or, bit_at_and, same_from_bits}
use Rattle.std.proofs.lemmas.Nat.{or_lt}
use Rattle.std.proofs.Math.Pow.{pow-lt}
use Rattle.std.proofs.Math.Nat.{one-mul, mod-eq_of_lt}
use Rattle.pla_reader.specs.declared.errors.LineFault.{LineFault}
use Rattle.pla_reader.specs.declared.errors.LineFault.TheVariants.{ShortTerm, LongTerm}
use Rattle.pla_reader.specs.declared.terms.Masks.{Masks}
use Rattle.pla_reader.specs.Covers.{literal_of}
use Rattle.pla_reader.specs.Faults.{input_fault, output_fault}
use Rattle.pla_reader.specs.Masks.{literal_at, output_at, ReadsInput, ReadsOutput}

-- a number with a bit set
abbrev with_bit : ℕ → ℕ → ℕ
with_bit n i = bit_or n (1 * 2 ^ i % 65536)

one_bit : (i : ℕ) → i < 16 → 1 * 2 ^ i % 65536 ≡ 2 ^ i
one_bit i small = rw (one-mul (2 ^ i)) (mod-eq_of_lt (pow-lt {i = i} {j = 16} small))

-- a set bit stays below a power above it
pub small_with_bit : (n i k : ℕ) → i < 16 → i < k → n < 2 ^ k → with_bit n i < 2 ^ k
small_with_bit n i k small below fits = or_lt k n (1 * 2 ^ i % 65536) fits (rw (one_bit i small) (pow-lt below))

-- the bits of a number with a bit set are those of both
bits_of_both : (n i k : ℕ) → bit_at (with_bit n i) k ≡ max (bit_at n k) (bit_at (1 * 2 ^ i % 65536) k)
bits_of_both n i k = bit_at_or n (1 * 2 ^ i % 65536) k

-- a value that lies in care still does with a bit of care more, or with the same bit more in both
within_bits : (value care : ℕ) → bit_and value care ≡ value → (k : ℕ) → min (bit_at value k) (bit_at care k) ≡ bit_at value k
within_bits value care e k = sym (bit_at_and value care k) ∙ ap (λ n. bit_at n k) e

pub within_care : (value care i : ℕ) → bit_and value care ≡ value → bit_and value (with_bit care i) ≡ value
within_care value care i e =
    same_from_bits _ _ (λ k. let both = bits_of_both care i k in bit_at_and value (with_bit care i) k ∙ rw both (omega (
      arith,
      within_bits value care e k,
    )))

pub within_both : (value care i : ℕ) → bit_and value care ≡ value → bit_and (with_bit value i) (with_bit care i) ≡ with_bit value i
within_both value care i e =
    same_from_bits _ _
    (λ k. let first = bits_of_both care i k in let second = bits_of_both value i k in
    bit_at_and (with_bit value i) (with_bit care i) k ∙ rw first (rw second (omega (arith, within_bits value care e k))))

pub reads_zero : (old : Masks) (i c : ℕ) → i < 16 → bit_at old.value i ≡ 0 → c ≡ 48 →
    ReadsInput old i c (record { care = with_bit old.care i; value = old.value; outs = old.outs })
reads_zero old i c small fresh e = rw e (record {
  here = rw (bit_at_set_same w16 old.care i small) (rw fresh refl);
  care = λ k apart. bit_at_set_other w16 old.care i small k apart;
  value = λ k apart. refl;
  outs = refl;
  within = λ lies. within_care old.value old.care i lies;
  small = λ n below fits. small_with_bit old.care i n small below fits;
})

pub reads_one : (old : Masks) (i c : ℕ) → i < 16 → c ≡ 49 →
    ReadsInput old i c (record { care = with_bit old.care i; value = with_bit old.value i; outs = old.outs })
reads_one old i c small e = rw e (record {
  here = rw (bit_at_set_same w16 old.care i small) (rw (bit_at_set_same w16 old.value i small) refl);
  care = λ k apart. bit_at_set_other w16 old.care i small k apart;
  value = λ k apart. bit_at_set_other w16 old.value i small k apart;
  outs = refl;
  within = λ lies. within_both old.value old.care i lies;
  small = λ n below fits. small_with_bit old.care i n small below fits;
})

pub writes_one : (old : Masks) (j c : ℕ) → j < 16 → c ≡ 49 →
    ReadsOutput old j c (record { care = old.care; value = old.value; outs = with_bit old.outs j })
writes_one old j c small e = rw e (record {
  here = rw (bit_at_set_same w16 old.outs j small) refl;
  others = λ k apart. bit_at_set_other w16 old.outs j small k apart;
  care = refl;
  value = refl;
  small = λ m below fits. small_with_bit old.outs j m small below fits;
})

-- a fault, or else another one
abbrev pub or_else : Option LineFault → Option LineFault → Option LineFault
or_else None other = other
or_else (Some fault) other = Some fault

-- the first fault of the positions from place k on
abbrev pub rest_fault : Bool → ℕ → ℕ → ℕ → List ℕ → Option LineFault
rest_fault taken n m k [] = cond (nat_lt k (n + m)) (Some ShortTerm) None
rest_fault taken n m k (c ∷ cs) = cond (nat_lt k n) (or_else (input_fault c) (rest_fault taken n m (k + 1) cs))
    (cond (nat_lt k (n + m)) (or_else (output_fault taken c) (rest_fault taken n m (k + 1) cs)) (Some LongTerm))

-- what masks hold of the first k positions: their literals and outputs, and no other bits
pub record HoldsFirst (n m k : ℕ) (bytes : List ℕ) (term : Masks) : Type 0 where
  pub literals : (i : ℕ) → i < k → i < n → literal_at term i ≡ literal_of (slice_index_or bytes i 0)
  pub fresh_care : (i : ℕ) → k ≤ i → bit_at term.care i ≡ 0
  pub fresh_value : (i : ℕ) → k ≤ i → bit_at term.value i ≡ 0
  pub outputs : (j : ℕ) → n + j < k → output_at term j ≡ (slice_index_or bytes (n + j) 0 == 49)
  pub fresh_outs : (j : ℕ) → k ≤ n + j → bit_at term.outs j ≡ 0
  pub within : bit_and term.value term.care ≡ term.value
  pub small_care : term.care < 2 ^ n
  pub small_outs : term.outs < 2 ^ m

pub holds_none : (n m : ℕ) (bytes : List ℕ) → HoldsFirst n m 0 bytes (record { care = 0; value = 0; outs = 0 })
holds_none n m bytes = grind (arith, bit_at-zero, pow_pos)

literal_same : (a b : Masks) (i : ℕ) → bit_at a.care i ≡ bit_at b.care i → bit_at a.value i ≡ bit_at b.value i → literal_at a i ≡ literal_at b i
literal_same a b i care value = rw care (rw value refl)

pub holds_input : (n m k : ℕ) (bytes : List ℕ) (old new : Masks) (c : ℕ) → HoldsFirst n m k bytes old → k < n →
    slice_index_or bytes k 0 ≡ c → ReadsInput old k c new →
    HoldsFirst n m (k + 1) bytes new
holds_input n m k bytes old new c held inside at reads = grind (arith, cases_eq, literal_same)

pub holds_output : (n m k : ℕ) (bytes : List ℕ) (old new : Masks) (c : ℕ) → HoldsFirst n m k bytes old → n ≤ k → k < n + m →
    slice_index_or bytes k 0 ≡ c → ReadsOutput old (k - n) c new →
    HoldsFirst n m (k + 1) bytes new
holds_output n m k bytes old new c held behind inside at reads = grind (arith, literal_same, cases_eq)
