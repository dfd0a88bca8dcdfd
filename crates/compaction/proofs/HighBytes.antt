-- Bytes among the bits of four words, and the sets whose high bytes they are.
--     byte_bit      a high variable of a set is a bit of its high byte
--     byte_kept, byte_added, byte_next      one more byte
--     byte_without, byte_with      a byte that lacks a bit, and one that has it, are kept among those
--     branch_without, branch_with      the wanted sets of a walk's two branches
use Rattle.std.proofs.Common.{◌≡◌, ◌≢◌, ℕ, ◌+◌, ◌*◌, ◌-◌, ◌/◌, ◌%◌, ◌^◌, ◌<◌, ◌≤◌, min, inl, inr, List, length, slice_index, set, get_or-set_same, get_or-set_other, sym, ap, ◌∙◌, subst, arith, bit_and, bit_or, bit_xor}
use Rattle.std.specs.Int.{bit_at}
use Rattle.std.proofs.lemmas.Bool.{cases_eq}
use Rattle.std.proofs.lemmas.Nat.Bits.{bit_at_and, bit_at_or, bit_at_xor, bit_at-lt, bit_at-pow_same, bit_at_cat_low, bit_at_cat_high}
use Rattle.compaction.specs.HighBytes.{HasByte}
use Rattle.compaction.proofs.DecidedVariables.{join_without, join_with}

pub byte_bit : (h low y : ℕ) → low < 256 → 8 ≤ y → bit_at (h * 256 + low) y ≡ bit_at h (y - 8)
byte_bit h low y small high = bit_at_cat_high h 8 low y small high

-- a byte's bit in a written word
byte_in : (words : List ℕ) (i v h : ℕ) → i < length words → (h / 64 ≡ i → bit_at v (h % 64) ≡ 1) → HasByte words h → HasByte (set words i v) h
byte_in words i v h lt own there = elim (cases_eq (h / 64) i) [
  | inl e ↦ ap (λ z. bit_at z (h % 64)) (ap (λ j. slice_index (set words i v) j) e ∙ get_or-set_same words i v 0 lt) ∙ own e
  | inr ne ↦ ap (λ z. bit_at z (h % 64)) (get_or-set_other words i (h / 64) v 0 ne) ∙ there
]

-- its bit before
own_bit : (words : List ℕ) (i h : ℕ) → h / 64 ≡ i → HasByte words h → bit_at (slice_index words i) (h % 64) ≡ 1
own_bit words i h e there = ap (λ j. bit_at (slice_index words j) (h % 64)) (sym e) ∙ there

pub byte_kept : (words : List ℕ) (i m h : ℕ) → i < length words → HasByte words h → HasByte (set words i (bit_or (slice_index words i) m)) h
byte_kept words i m h lt there = byte_in words i (bit_or (slice_index words i) m) h lt
    (λ e. let o = own_bit words i h e there in let l = bit_at-lt m (h % 64) in bit_at_or (slice_index words i) m (h % 64) ∙ omega arith)
    there

pub byte_added : (words : List ℕ) (h : ℕ) → h / 64 < length words →
    HasByte (set words (h / 64) (bit_or (slice_index words (h / 64)) (2 ^ (h % 64)))) h
byte_added words h lt =
    ap (λ z. bit_at z (h % 64)) (get_or-set_same words (h / 64) (bit_or (slice_index words (h / 64)) (2 ^ (h % 64))) 0 lt)
    ∙ bit_at_or (slice_index words (h / 64)) (2 ^ (h % 64)) (h % 64)
    ∙ (let p = bit_at-pow_same (h % 64) in let l = bit_at-lt (slice_index words (h / 64)) (h % 64) in omega arith)

-- the bytes of what is wanted of the first sets
pub byte_next : (needed words new : List ℕ) (h m : ℕ) → length words ≡ 4 → h < 256 → m ≡ 2 ^ (h % 64) →
    ((k : ℕ) → k < h → slice_index needed k ≢ 0 → HasByte words k) → new ≡ set words (h / 64) (bit_or (slice_index words (h / 64)) m) →
    (k : ℕ) → k < h + 1 → slice_index needed k ≢ 0 → HasByte new k
byte_next needed words new h m four few e so_far is k lt some =
    let v = bit_or (slice_index words (h / 64)) m in
    subst (λ (ws : List ℕ). HasByte ws k) (sym is) (elim (cases_eq k h) [
      | inl same ↦
          subst (λ j. HasByte (set words (h / 64) v) j) (sym same)
          (subst (λ z. HasByte (set words (h / 64) (bit_or (slice_index words (h / 64)) z)) h) (sym e) (byte_added words h (omega arith)))
      | inr other ↦ byte_kept words (h / 64) m k (omega arith) (so_far k (omega arith) some)
    ])

-- the bits of a word whose bytes lack a bit
Lacks : ℕ → ℕ → ℕ → Type 0
Lacks i y m = (b : ℕ) → b < 64 → bit_at m b ≡ 1 - bit_at (64 * i + b) y

own_lacks : (i y m h : ℕ) → Lacks i y m → h / 64 ≡ i → bit_at m (h % 64) ≡ 1 - bit_at h y
unfolding Lacks
own_lacks i y m h lacks e =
    let s : 64 * i + h % 64 ≡ h = omega arith in
    lacks (h % 64) (omega arith) ∙ ap (λ z. 1 - bit_at z y) s

pub byte_without : (words : List ℕ) (i y m h : ℕ) → i < length words → ((b : ℕ) → b < 64 → bit_at m b ≡ 1 - bit_at (64 * i + b) y) →
    bit_at h y ≡ 0 → HasByte words h → HasByte (set words i (bit_and (slice_index words i) m)) h
unfolding Lacks
byte_without words i y m h lt lacks bit there = byte_in words i (bit_and (slice_index words i) m) h lt
    (λ e. let o = own_bit words i h e there in let l = own_lacks i y m h lacks e in bit_at_and (slice_index words i) m (h % 64) ∙ omega arith)
    there

pub byte_with : (words : List ℕ) (i y m h : ℕ) → i < length words → ((b : ℕ) → b < 64 → bit_at m b ≡ 1 - bit_at (64 * i + b) y) →
    bit_at h y ≡ 1 → HasByte words h → HasByte (set words i (bit_xor (slice_index words i) (bit_and (slice_index words i) m))) h
unfolding Lacks
byte_with words i y m h lt lacks bit there = byte_in words i (bit_xor (slice_index words i) (bit_and (slice_index words i) m)) h lt
    (λ e.
    let w = slice_index words i in
    let o = own_bit words i h e there in
    let l = own_lacks i y m h lacks e in
    let a = bit_at_and w m (h % 64) in
    bit_at_xor w (bit_and w m) (h % 64) ∙ (let z : bit_at (bit_and w m) (h % 64) ≡ 0 = omega arith in omega arith))
    there

-- a word's bytes by the bits of its place and of theirs in it
pub place_low : (i b y : ℕ) → b < 64 → y < 6 → bit_at (64 * i + b) y ≡ bit_at b y
place_low i b y small low =
    let e : 64 * i + b ≡ i * 64 + b = omega arith in
    ap (λ z. bit_at z y) e ∙ bit_at_cat_low i 6 b y low

pub place_high : (i b y : ℕ) → b < 64 → 6 ≤ y → bit_at (64 * i + b) y ≡ bit_at i (y - 6)
place_high i b y small high =
    let e : 64 * i + b ≡ i * 64 + b = omega arith in
    ap (λ z. bit_at z y) e ∙ bit_at_cat_high i 6 b y small high

-- ---- the branches of a walk

module _ (low set decided y : ℕ) (needed words more : List ℕ) (small : low < 256) (high : 8 ≤ y) (few : length needed ≤ 256)
    (undecided : bit_at decided y ≡ 0) (within : bit_and set decided ≡ set)
    (wanted : (h : ℕ) → h < length needed → slice_index needed h ≢ 0 → bit_and (h * 256 + low) decided ≡ set → HasByte words h) where
  -- the variable of a set that is decided
  bit_of : (t h : ℕ) → bit_and (h * 256 + low) (bit_or decided (2 ^ y)) ≡ t → bit_at h (y - 8) ≡ bit_at t y
  bit_of t h e =
      let a = bit_at_and (h * 256 + low) (bit_or decided (2 ^ y)) y in
      let o = bit_at_or decided (2 ^ y) y in
      let p = bit_at-pow_same y in
      let l = bit_at-lt (h * 256 + low) y in
      let b = byte_bit h low y small high in
      let f = ap (λ z. bit_at z y) e in
      omega arith

  wanted_without : ((h : ℕ) → h < 256 → HasByte words h → bit_at h (y - 8) ≡ 0 → HasByte more h) → (h : ℕ) → h < length needed →
      slice_index needed h ≢ 0 → bit_and (h * 256 + low) (bit_or decided (2 ^ y)) ≡ set → HasByte more h
  wanted_without kept h lt some e =
      kept h (omega arith) (wanted h lt some (join_without (h * 256 + low) set decided y within e))
      (bit_of set h e ∙ (let s = ap (λ z. bit_at z y) (sym within) ∙ bit_at_and set decided y in omega arith))

  wanted_with : ((h : ℕ) → h < 256 → HasByte words h → bit_at h (y - 8) ≡ 1 → HasByte more h) → (h : ℕ) → h < length needed →
      slice_index needed h ≢ 0 → bit_and (h * 256 + low) (bit_or decided (2 ^ y)) ≡ bit_or set (2 ^ y) → HasByte more h
  wanted_with kept h lt some e =
      kept h (omega arith) (wanted h lt some (join_with (h * 256 + low) set decided y undecided within e))
      (bit_of (bit_or set (2 ^ y)) h e
      ∙ bit_at_or set (2 ^ y) y
      ∙ (let p = bit_at-pow_same y in let l = bit_at-lt set y in omega arith))

-- the bits of a high byte are counted from the first high variable
module _ (n low set decided more y : ℕ) (needed words halved : List ℕ) (few_inputs : n ≤ 16) (small : low < 256) (few : length needed ≤ 256) (inside : y < n)
    (high : min n 8 ≤ y) (is : more ≡ bit_or decided (2 ^ y)) (undecided : bit_at decided y ≡ 0) (within : bit_and set decided ≡ set)
    (wanted : (h : ℕ) → h < length needed → slice_index needed h ≢ 0 → bit_and (h * 256 + low) decided ≡ set → HasByte words h) where
  from_eight : 8 ≤ y
  from_eight = omega arith

  bit_place : y % 8 ≡ y - 8
  bit_place = omega arith

  pub branch_without : ((h : ℕ) → h < 256 → HasByte words h → bit_at h (y % 8) ≡ 0 → HasByte halved h) → (h : ℕ) → h < length needed →
      slice_index needed h ≢ 0 → bit_and (h * 256 + low) more ≡ set → HasByte halved h
  branch_without kept h lt some e =
      wanted_without low set decided y needed words halved small from_eight few undecided within wanted
      (λ k l there bit. kept k l there (ap (bit_at k) bit_place ∙ bit)) h lt some (ap (bit_and (h * 256 + low)) (sym is) ∙ e)

  pub branch_with : ((h : ℕ) → h < 256 → HasByte words h → bit_at h (y % 8) ≡ 1 → HasByte halved h) → (h : ℕ) → h < length needed →
      slice_index needed h ≢ 0 → bit_and (h * 256 + low) more ≡ bit_or set (2 ^ y) → HasByte halved h
  branch_with kept h lt some e =
      wanted_with low set decided y needed words halved small from_eight few undecided within wanted
      (λ k l there bit. kept k l there (ap (bit_at k) bit_place ∙ bit)) h lt some (ap (bit_and (h * 256 + low)) (sym is) ∙ e)
