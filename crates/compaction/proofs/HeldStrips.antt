-- A table kept in strips holds the keys of a set, and with one more variable those of the set with it.
--     free_split, free_other, free_less      how many variables outside the set stand below
--     table_high, table_low      the strips are paired by a variable above them, or by one inside them
--     holds_high, holds_low      a variable above the strips, and one inside them
use Rattle.std.proofs.Common.{◌≡◌, ◌≢◌, ℕ, zero, suc, ◌+◌, ◌-◌, ◌*◌, ◌/◌, ◌%◌, ◌^◌, ◌<◌, ◌≤◌, false, not, cond, inl, inr, List, [], ◌∷◌, length, get_or, bit_or, eqb, eq-eqb, ne_eqb, refl, sym, ap, ◌∙◌, subst, arith}
use Rattle.std.specs.Int.{bit_at}
use Rattle.std.proofs.Math.Nat.{eq_of_mul-eq-mul_right, div-lt_iff_lt-mul, mod-lt}
use Rattle.std.proofs.lemmas.Bool.{cases_eq}
use Rattle.std.proofs.lemmas.Nat.{pow_pos, pow-add}
use Rattle.std.proofs.lemmas.Nat.Bits.{bit_at_or, bit_at-pow_same, bit_at-pow_other, bit_at-lt}
use Rattle.definitions.specs.Orders.{has}
use Rattle.definitions.proofs.Bits.Masks.{has_members}
use Rattle.definitions.proofs.Lists.Orders.{has_variables}
use Rattle.subfunction_classes.specs.PairTables.{IsPairTable}
use Rattle.subfunction_classes.specs.Places.{pairs}
use Rattle.subfunction_classes.specs.Strips.{unrolled}
use Rattle.compaction.specs.ValueStrips.{AreStrips, HoldsValues}
use Rattle.compaction.specs.Strips.{GrowsStrips, HoldsStrips, IsStripTable, HoldsKeys}
use Rattle.pair_numbering.specs.Keys.{TellsPairs}
use Rattle.subfunction_classes.specs.Table.{ClassesOf, classes_of, with_variable, set_of, free_below}
use Rattle.subfunction_classes.proofs.OneMoreVariable.{free_none, free_step, rank_small}
use Rattle.definitions.specs.Problems.{TruthTables}
use Rattle.compaction.proofs.KeyTables.{keys_ready, free_zero, value_keys, keys_by_names}
use Rattle.pair_numbering.proofs.Names.{names_below, length_names}
use Rattle.compaction.proofs.StripTables.{parts_of, below_product, low_strips, low_tells}
use Rattle.subfunction_classes.proofs.Index.{length-pairs}
use Rattle.compaction.proofs.UnrolledTables.{named_of, length_unrolled, unrolled_at}

-- one step of the count
step_of_bit : (set y : ℕ) → free_below set (suc y) ≡ free_below set y + cond (not (eqb (bit_at set y) 1)) 1 0
step_of_bit set y = ap (free_below set) (let e : suc y ≡ y + 1 = omega arith in e) ∙ free_step set y

pub free_split : (set low x : ℕ) → low ≤ x → free_below set low ≤ free_below set x
free_split set low zero h = let e : low ≡ 0 = omega arith in subst (λ k. free_below set low ≤ free_below set k) e (omega arith)
free_split set low (suc x) h = elim (cases_eq low (suc x)) [
  | inl e ↦ subst (λ k. free_below set low ≤ free_below set k) e (omega arith)
  | inr ne ↦ let r = free_split set low x (omega arith) in let s = step_of_bit set x in omega arith
]

-- a bit above changes nothing
pub free_other : (set x y : ℕ) → y ≤ x → free_below (bit_or set (2 ^ x)) y ≡ free_below set y
free_other set x zero h = free_none (bit_or set (2 ^ x)) ∙ sym (free_none set)
free_other set x (suc y) h = grind (arith, bit_at_or, bit_at-pow_other, bit_or, step_of_bit, free_other set x y (omega arith))

-- a new bit below takes one away
pub free_less : (set x low : ℕ) → x < low → bit_at set x ≢ 1 → free_below set low ≡ suc (free_below (bit_or set (2 ^ x)) low)
free_less set x zero h n = absurd (omega arith)
free_less set x (suc low) h n = elim (cases_eq x low) [
  | inl e ↦
      let o = bit_at_or set (2 ^ x) x in
      let p = bit_at-pow_same x in
      let l = bit_at-lt set x in
      let b : bit_at (bit_or set (2 ^ x)) x ≡ 1 = omega arith in
      subst (λ k. free_below set (suc k) ≡ suc (free_below (bit_or set (2 ^ x)) (suc k))) e
      (let new = step_of_bit (bit_or set (2 ^ x)) x
      ∙ ap (λ q. free_below (bit_or set (2 ^ x)) x + cond (not q) 1 0) (eq-eqb (bit_at (bit_or set (2 ^ x)) x) 1 b) in
      let old = step_of_bit set x ∙ ap (λ q. free_below set x + cond (not q) 1 0) (ne_eqb (bit_at set x) 1 n) in
      let same = free_other set x x (omega arith) in
      omega arith)
  | inr ne ↦
      let r = free_less set x low (omega arith) n in
      let o = bit_at_or set (2 ^ x) low in
      let p = bit_at-pow_other x low (λ e. ne (sym e)) in
      let b : bit_at (bit_or set (2 ^ x)) low ≡ bit_at set low = omega arith in
      let new = step_of_bit (bit_or set (2 ^ x)) low ∙ ap (λ m. free_below (bit_or set (2 ^ x)) low + cond (not (eqb m 1)) 1 0) b in
      let old = step_of_bit set low in
      omega arith
]

module _ (t : ClassesOf) (x : ℕ) (inside : x < t.problem.inputs) (new : has (set_of t) x ≡ false) where
  -- a variable that is not a member has no bit
  pub no_bit : bit_at t.set x ≢ 1
  no_bit e = grind (arith, has_members, has_variables, eq-eqb)

  -- how the variables below `low` part at x
  module _ (low : ℕ) (inner : x < low) where
    pub rest : ℕ
    rest = free_below t.set low - suc (free_below t.set x)

    split : free_below t.set low ≡ suc (free_below t.set x) + rest
    unfolding rest
    split =
        let s = step_of_bit t.set x ∙ ap (λ q. free_below t.set x + cond (not q) 1 0) (ne_eqb (bit_at t.set x) 1 no_bit) in
        let l = free_split t.set (suc x) low (omega arith) in
        omega arith

    pub parts : 2 ^ free_below t.set low ≡ 2 ^ rest * (2 * 2 ^ free_below t.set x)
    parts = ap (λ k. 2 ^ k) (let s = split in let e : free_below t.set low ≡ rest + (1 + free_below t.set x) = omega arith in e)
        ∙ pow-add 2 rest (1 + free_below t.set x) ∙ ap (λ k. 2 ^ rest * k) (pow-add 2 1 (free_below t.set x))

    pub less : 2 ^ free_below (with_variable t x).set low ≡ 2 ^ rest * 2 ^ free_below t.set x
    less = ap (λ k. 2 ^ k)
        (let s = split in let f = free_less t.set x low inner no_bit in
        let e : free_below (with_variable t x).set low ≡ rest + free_below t.set x = omega arith in e)
        ∙ pow-add 2 rest (free_below t.set x)

  module _ (low : ℕ) (outer numbers masks : List ℕ) (h : HoldsStrips t low outer numbers masks) where
    U : List ℕ
    U = unrolled outer numbers (2 ^ free_below t.set low)

    whole_keys : (blocks : ℕ) × (length (unrolled outer numbers (2 ^ free_below t.set low)) ≡ blocks * (2 * 2 ^ free_below t.set x))
    whole_keys = (keys_ready t x inside new (unrolled outer numbers (2 ^ free_below t.set low)) masks (free_below t.set x) h.keys refl).whole

    pub rank_few : free_below t.set x < 16
    rank_few = (let a = rank_small t x inside new in let n = h.keys.few_inputs in omega arith)

    few_runs : length outer * 2 ^ free_below t.set low ≤ 2 ^ 20
    few_runs = (let l = length_unrolled outer numbers (2 ^ free_below t.set low) h.strips in let f = h.keys.few in omega arith)

    -- ---- a variable above the strips
    module _ (high : low ≤ x) (rank : ℕ) (rank_is : free_below t.set x ≡ free_below t.set low + rank) where
      steps : 2 ^ free_below t.set x ≡ 2 ^ free_below t.set low * 2 ^ rank
      steps = ap (λ k. 2 ^ k) rank_is ∙ pow-add 2 (free_below t.set low) rank

      whole_outer : (blocks : ℕ) × (length outer ≡ blocks * (2 * 2 ^ rank))
      whole_outer =
          let w = whole_keys in (
            w.0,
            eq_of_mul-eq-mul_right (2 ^ free_below t.set low) (pow_pos (free_below t.set low)) (length outer) (w.0 * (2 * 2 ^ rank))
                (sym (length_unrolled outer numbers (2 ^ free_below t.set low) h.strips) ∙ w.1 ∙ ap (λ k. w.0 * (2 * k)) steps ∙ grind arith),
          )

      pub table_high : IsStripTable outer rank numbers (free_below t.set low) masks
      table_high =
          record {
            small_rank =
                (let r = rank_few in omega arith);
            len =
                few_runs;
            few = h.few_numbers;
            few_masks = h.keys.few_masks;
            whole = whole_outer;
            strips = h.strips;
            below = h.below;
          }

      pub holds_high : (grown labels joined : List ℕ) →
          GrowsStrips (record { outer = outer; rank = rank; numbers = numbers; bits = free_below t.set low; masks = masks }) x grown labels joined →
          HoldsStrips (with_variable t x) low grown labels joined
      holds_high grown labels joined g =
          let e : 2 ^ free_below (with_variable t x).set low ≡ 2 ^ free_below t.set low = ap (λ k. 2 ^ k) (free_other t.set x low high) in
          record {
            strips = subst (AreStrips grown labels) (sym e) g.strips;
            keys = subst (λ k. HoldsKeys (with_variable t x) (unrolled grown labels k) joined) (sym e)
                (keys_by_names t x inside new (unrolled outer numbers (2 ^ free_below t.set low)) masks h.keys whole_keys
                (unrolled grown labels (2 ^ free_below t.set low)) joined
                (subst (λ k. TellsPairs masks x (pairs (unrolled outer numbers (2 ^ free_below t.set low)) k)
                (unrolled grown labels (2 ^ free_below t.set low)) joined)
                (sym steps) g.tells));
            below = g.below;
            few_numbers = g.few;
          }

    -- ---- a variable inside the strips
    module _ (inner : x < low) where
      whole_numbers : (blocks : ℕ) × (length numbers ≡ blocks * (2 * 2 ^ free_below t.set x))
      whole_numbers = (h.strips.count * 2 ^ rest low inner, h.strips.whole ∙ ap (λ k. h.strips.count * k) (parts low inner) ∙ grind arith)

      pub table_low : IsPairTable numbers (free_below t.set x) (length masks)
      table_low =
          record {
            paired =
                record { small_rank = rank_few; short = (let f = h.few_numbers in omega arith); whole = whole_numbers };
            few =
                h.few_numbers;
            below = h.below;
          }

      pub holds_low : (numbers' masks' : List ℕ) → TellsPairs masks x (pairs numbers (2 ^ free_below t.set x)) numbers' masks' →
          HoldsStrips (with_variable t x) low outer numbers' masks'
      holds_low numbers' masks' names =
          let strips = subst (AreStrips outer numbers) (parts low inner) h.strips in
          record {
            strips = subst (AreStrips outer numbers') (sym (less low inner))
                (low_strips outer numbers (2 ^ rest low inner) (2 ^ free_below t.set x) strips (pow_pos (rest low inner))
                (pow_pos (free_below t.set x)) masks x numbers' masks' names);
            keys = subst (λ k. HoldsKeys (with_variable t x) (unrolled outer numbers' k) masks') (sym (less low inner))
                (keys_by_names t x inside new (unrolled outer numbers (2 ^ free_below t.set low)) masks h.keys whole_keys
                (unrolled outer numbers' (2 ^ rest low inner * 2 ^ free_below t.set x)) masks'
                (subst (λ k. TellsPairs masks x (pairs (unrolled outer numbers k) (2 ^ free_below t.set x))
                (unrolled outer numbers' (2 ^ rest low inner * 2 ^ free_below t.set x)) masks')
                (sym (parts low inner))
                (low_tells outer numbers (2 ^ rest low inner) (2 ^ free_below t.set x)
                (named_of outer numbers (2 ^ rest low inner * (2 * 2 ^ free_below t.set x)) strips) (pow_pos (rest low inner))
                (pow_pos (free_below t.set x)) masks x numbers' masks' names)));
            below = names_below masks x (pairs numbers (2 ^ free_below t.set x)) numbers' masks' names;
            few_numbers =
                (let l = length_names masks x (pairs numbers (2 ^ free_below t.set x)) numbers' masks' names in
                let m = length-pairs numbers (2 ^ free_below t.set x) in let f = h.few_numbers in omega arith);
          }

-- what holds of all entries holds of those in the strips
pub strips_below : (outer numbers : List ℕ) (len m : ℕ) → 0 < len → AreStrips outer numbers len →
    ((i : ℕ) → i < length (unrolled outer numbers len) → get_or (unrolled outer numbers len) i 0 < m) →
    (i : ℕ) → i < length numbers → get_or numbers i 0 < m
strips_below outer numbers len m some s h i lt =
    let k : i / len < s.count = (div-lt_iff_lt-mul some).1 (let w = s.whole in omega arith) in
    let u = s.used (i / len) k in
    let a = mod-lt i some in
    let e = parts_of i len some in
    let l = length_unrolled outer numbers len s in
    let b = h (u.0 * len + i % len) (let p = below_product u.0 (length outer) len (i % len) u.1.0 a in omega arith) in
    let v : get_or (unrolled outer numbers len) (u.0 * len + i % len) 0 ≡ get_or numbers i 0 =
    unrolled_at outer numbers len s u.0 (i % len) u.1.0 a
    ∙ ap (λ z. get_or numbers (z * len + i % len) 0) u.1.1 ∙ ap (λ z. get_or numbers z 0) (sym e) in
    omega arith

-- the values
pub holds_values : (p : TruthTables) → p.inputs ≤ 16 → length p.tables ≤ 16 → 0 < length p.tables → (low : ℕ) (outer numbers : List ℕ) →
    HoldsValues p outer numbers (2 ^ low) → HoldsStrips (classes_of p 0) low outer numbers (0 ∷ 0 ∷ [])
holds_values p inputs outputs some low outer numbers h =
    let e : 2 ^ free_below 0 low ≡ 2 ^ low = ap (λ k. 2 ^ k) (free_zero low) in
    let k = subst (λ us. HoldsKeys (classes_of p 0) us (0 ∷ 0 ∷ [])) (sym h.values) (value_keys p inputs outputs some) in
    record {
      strips = subst (AreStrips outer numbers) (sym e) h.strips;
      keys = subst (λ z. HoldsKeys (classes_of p 0) (unrolled outer numbers z) (0 ∷ 0 ∷ [])) (sym e) k;
      below = strips_below outer numbers (2 ^ low) 2 (pow_pos low) h.strips k.below;
      few_numbers = h.few;
    }
