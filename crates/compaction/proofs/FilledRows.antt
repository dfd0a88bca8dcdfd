-- Rows of sets with one low byte, filled one after another.
--     few_compactions, fewer_compactions, few_tables      how many tables a walk takes
--     row_filled      the row of one set, written
--     filled_unwanted, filled_own, filled_both      the rows of a walk's branch, from those of its parts
--     agree_low      the low byte is what a set has below the first high variable
--     whole_rows      all sets are filled where the low variables alone are decided
--     rows_of_none      nothing is wanted
use Rattle.std.proofs.Common.{◌≡◌, ◌≢◌, ℕ, zero, suc, ◌+◌, ◌*◌, ◌-◌, ◌%◌, ◌^◌, ◌<◌, ◌≤◌, inl, inr, List, [], length, slice_index, get_or, set as write, get_or-set_same, get_or-set_other, cond, eq-eqb, ◌/◌, refl, sym, ap, ◌∙◌, subst, arith, bit_and, bit_or, count_ones}
use Rattle.std.specs.Int.{bit_at}
use lib.Count.{ones-le}
use Rattle.std.proofs.lemmas.Bool.{cases_lt, cases_eq}
use Rattle.std.proofs.lemmas.Grind.{get_or_default_zero}
use Rattle.std.proofs.lemmas.List.{take_at}
use Rattle.std.proofs.Common.{◌++◌, min, take, drop, replicate, pow_mono}
use Rattle.std.proofs.Math.Nat.{mod-eq_of_lt, two-pow-succ}
use Rattle.std.proofs.lemmas.Nat.{and_mask}
use Rattle.std.proofs.lemmas.Nat.Bits.{bit_at-zero}
use Rattle.definitions.specs.Orders.{members, without}
use Rattle.definitions.specs.Widths.{width}
use Rattle.definitions.specs.Problems.{TruthTables, functions}
use Rattle.compaction.proofs.DecidedVariables.{split_decided, join_without, join_with, not_both}
use Rattle.compaction.specs.HighBytes.{HasByte}
use Rattle.compaction.specs.Rows.{width_wanted, AreByteRows, AreRowsFilled, HoldsWidths, IsRowFilled, most_compactions}

-- ---- the two halves of a walk

pub few_compactions : (undecided before after : ℕ) → before + 1 ≤ 2 ^ undecided → after + 1 ≤ 2 ^ undecided → before + after + 1 + 1 ≤ 2 ^ suc undecided
few_compactions undecided before after a b = let d = two-pow-succ undecided in omega arith

pub fewer_compactions : (undecided before : ℕ) → before + 1 ≤ 2 ^ undecided → before + 1 ≤ 2 ^ suc undecided
fewer_compactions undecided before a = let d = two-pow-succ undecided in omega arith

-- a low byte's table and those of a walk over at most eight high variables
pub few_tables : (n low walked : ℕ) → n ≤ 16 → low < 65536 → walked + 1 ≤ 2 ^ (n - min n 8) → count_ones low + walked ≤ most_compactions
few_tables n low walked few small h =
    let ones : count_ones low ≤ 16 = ones-le 16 low small in
    let tables : 2 ^ (n - min n 8) ≤ 2 ^ 8 = pow_mono {j = 8} (omega arith) in
    let sum : count_ones low + walked ≤ 2367 = omega (arith, ones, tables, h) in
    sum

-- ---- the rows of a walk, of the sets that some numbers stand for
module _ (p : TruthTables) (mask : ℕ → ℕ) (needed : List ℕ) where
  Row : ℕ → List (List ℕ) → Type 0
  Row h rows = HoldsWidths p (mask h) (slice_index needed h) (get_or rows h [])

  Fills : ℕ → ℕ → List (List ℕ) → List (List ℕ) → Type 0
  Fills set decided old new = (h : ℕ) → h < length needed → (bit_and (mask h) decided ≡ set → Row h new)
      × (bit_and (mask h) decided ≢ set → get_or new h [] ≡ get_or old h [])

  row_same : (h : ℕ) (old new : List (List ℕ)) → get_or new h [] ≡ get_or old h [] → Row h old → Row h new
  unfolding Row
  row_same h old new e r = subst (HoldsWidths p (mask h) (slice_index needed h)) (sym e) r

  -- the sets without a variable, and those with it
  fills_both : (set decided y : ℕ) (old mid new : List (List ℕ)) → bit_at decided y ≡ 0 → bit_and set decided ≡ set →
      Fills set (bit_or decided (2 ^ y)) old mid → Fills (bit_or set (2 ^ y)) (bit_or decided (2 ^ y)) mid new → Fills set decided old new
  unfolding Fills
  fills_both set decided y old mid new undecided within a b h lt = (
    λ e. elim (split_decided (mask h) set decided y e) [
      | inl without ↦
          row_same h mid new ((b h lt).1 (λ with. not_both set decided y undecided within (sym without ∙ with))) ((a h lt).0 without)
      | inr with ↦ (b h lt).0 with
    ],
    λ ne.
        (b h lt).1 (λ with. ne (join_with (mask h) set decided y undecided within with))
        ∙ (a h lt).1 (λ without. ne (join_without (mask h) set decided y within without)),
  )

  fills_unwanted : (set decided : ℕ) (words : List ℕ) (old : List (List ℕ)) → length needed ≤ 256 →
      ((h : ℕ) → h < length needed → slice_index needed h ≢ 0 → bit_and (mask h) decided ≡ set → HasByte words h) →
      ((h : ℕ) → h < 256 → HasByte words h → ⊥) → Fills set decided old old
  unfolding Fills Row
  fills_unwanted set decided words old few wanted absent h lt = (
    λ e x small one. elim (cases_eq (slice_index needed h) 0) [
      | inl none ↦ absurd (let z = sym one ∙ ap (λ w. bit_at w x) none ∙ bit_at-zero x in omega arith)
      | inr some ↦ absurd (absent h (omega arith) (wanted h lt some e))
    ],
    λ ne. refl,
  )

-- a row of widths and zeros holds the widths
wanted_widths : (p : TruthTables) (set wanted : ℕ) (row : List ℕ) → ((x : ℕ) → x < 16 → slice_index row x ≡ width_wanted p set wanted x) →
    HoldsWidths p set wanted row
unfolding width_wanted
wanted_widths p set wanted row each x few one =
    each x few ∙ ap (λ b. cond b (width p.inputs (functions p) (without x (members p.inputs set)) x) 0) (eq-eqb (bit_at wanted x) 1 one)

module _ (p : TruthTables) (low : ℕ) (needed : List ℕ) where
  -- nothing is wanted
  pub filled_unwanted : (set decided : ℕ) (words : List ℕ) (old : List (List ℕ)) → length needed ≤ 256 →
      ((h : ℕ) → h < length needed → slice_index needed h ≢ 0 → bit_and (h * 256 + low) decided ≡ set → HasByte words h) →
      ((h : ℕ) → h < 256 → HasByte words h → ⊥) → AreRowsFilled p low needed set decided old old
  unfolding Fills Row
  filled_unwanted = fills_unwanted p (λ h. h * 256 + low) needed

  -- the row of one set, written at its high byte
  pub row_filled : (set j wanted : ℕ) (old : List (List ℕ)) (row : List ℕ) → j ≡ set / 256 → set % 256 ≡ low → j < length old →
      length old ≡ length needed → wanted ≡ get_or needed j wanted →
      ((x : ℕ) → x < 16 → slice_index row x ≡ width_wanted p set wanted x) → IsRowFilled p low needed set old (write old j row)
  row_filled set j wanted old row place byte inside long is each h lt = elim (cases_eq h j) [
    | inl e ↦
        let whole : h * 256 + low ≡ set = omega arith in (
          λ own.
              subst (λ (r : List ℕ). HoldsWidths p (h * 256 + low) (slice_index needed h) r)
              (sym (ap (λ k. get_or (write old j row) k []) e ∙ get_or-set_same old j row [] inside))
              (subst (λ t. HoldsWidths p t (slice_index needed h) row) (sym whole)
              (subst (λ w. HoldsWidths p set w row) (is ∙ get_or_default_zero needed j wanted (omega arith) ∙ ap (slice_index needed) (sym e))
              (wanted_widths p set wanted row each))),
          λ other. absurd (other whole),
        )
    | inr ne ↦ (
      λ own. absurd (ne (omega arith)),
      λ other. get_or-set_other old j h row [] ne,
    )
  ]

  -- all variables are decided
  pub filled_own : (set decided : ℕ) (old new : List (List ℕ)) →
      ((h : ℕ) → h < length needed → bit_and (h * 256 + low) decided ≡ h * 256 + low) →
      IsRowFilled p low needed set old new → AreRowsFilled p low needed set decided old new
  filled_own set decided old new all own h lt = (
    λ e. (own h lt).0 (sym (all h lt) ∙ e),
    λ ne. (own h lt).1 (λ e. ne (all h lt ∙ e)),
  )

  -- the sets without a variable, and those with it
  pub filled_both : (set decided y : ℕ) (old mid new : List (List ℕ)) → bit_at decided y ≡ 0 → bit_and set decided ≡ set →
      AreRowsFilled p low needed set (bit_or decided (2 ^ y)) old mid →
      AreRowsFilled p low needed (bit_or set (2 ^ y)) (bit_or decided (2 ^ y)) mid new → AreRowsFilled p low needed set decided old new
  unfolding Fills Row
  filled_both = fills_both p (λ h. h * 256 + low) needed

-- ---- the whole byte

-- the low byte is what a mask has below the first high variable
pub agree_low : (n low mask k : ℕ) → k ≡ min n 8 → mask < 2 ^ n → mask % 256 ≡ low → bit_and mask (2 ^ k - 1) ≡ low
agree_low n low mask k e small h = and_mask mask k ∙ elim (cases_lt n 8) [
  | inl few ↦
      let s : k ≡ n = omega arith in
      let p : 2 ^ n ≤ 2 ^ 7 = pow_mono {j = 7} (omega arith) in
      ap (λ i. mask % 2 ^ i) s ∙ mod-eq_of_lt small ∙ (let t = h in omega arith)
  | inr many ↦ let s : k ≡ 8 = omega arith in ap (λ i. mask % 2 ^ i) s ∙ h
]

-- the rows that a written slice leaves in its vector
pub rows_back : (new old : List (List ℕ)) (n : ℕ) → length new ≡ n → take n (new ++ drop (length new) old) ≡ new
rows_back new old n e = take_at new (drop (length new) old) n e

pub zeros_at : (n x : ℕ) → slice_index (replicate n 0) x ≡ 0
zeros_at zero x = refl
zeros_at (suc n) zero = refl
zeros_at (suc n) (suc x) = zeros_at n x

-- all sets agree in the low variables
pub whole_rows : (p : TruthTables) (low decided : ℕ) (needed : List ℕ) (old new : List (List ℕ)) → length new ≡ length needed →
    ((h : ℕ) → h < length needed → bit_and (h * 256 + low) decided ≡ low) → AreRowsFilled p low needed low decided old new →
    AreByteRows p low needed new
whole_rows p low decided needed old new e agree filled = record { each = e; are = λ h lt. (filled h lt).0 (agree h lt) }

-- nothing is wanted
pub rows_of_none : (p : TruthTables) (low : ℕ) (needed words : List ℕ) (rows : List (List ℕ)) → length rows ≡ length needed → length needed ≤ 256 →
    ((h : ℕ) → h < length needed → slice_index needed h ≢ 0 → HasByte words h) → ((h : ℕ) → h < 256 → HasByte words h → ⊥) →
    AreByteRows p low needed rows
rows_of_none p low needed words rows long few wanted absent = record {
  each = long;
  are = λ h lt x small one. elim (cases_eq (slice_index needed h) 0) [
    | inl none ↦ absurd (let z = sym one ∙ ap (λ w. bit_at w x) none ∙ bit_at-zero x in omega arith)
    | inr some ↦ absurd (absent h (omega arith) (wanted h lt some))
  ];
}
