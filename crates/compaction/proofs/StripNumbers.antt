-- The numbers of a problem's values in strips.
--     place_parts      a place parts into a strip and a place in it
--     whole_are, whole_values      strips that are all stored, in order
--     long_numbers, few_numbers      how many numbers there are
use Rattle.std.proofs.Common.{◌≡◌, ℕ, ◌+◌, ◌*◌, ◌/◌, ◌%◌, ◌^◌, ◌<◌, ◌≤◌, Bool, List, length, map, get_or, sym, ap, ◌∙◌, arith, pow_mono}
use Rattle.std.proofs.Math.Nat.{mul-le-mul_left, mul-le-mul_right, mul_comm, div-add-mod, mod-lt, div-lt_iff_lt-mul}
use Rattle.std.proofs.lemmas.List.{length-map}
use Rattle.definitions.specs.Problems.{TruthTables}
use Rattle.subfunction_classes.specs.Strips.{unrolled}
use Rattle.compaction.specs.ValueStrips.{AreStrips}
use Rattle.subfunction_classes.specs.Values.{values_of}
use Rattle.subfunction_classes.proofs.StartClasses.{length_values}
use Rattle.compaction.proofs.UnrolledTables.{length_unrolled, unrolled_at, same_by_places}

-- a place parts into a strip and a place in it
pub place_parts : (len k : ℕ) → 0 < len → (k / len * len + k % len ≡ k) × (k % len < len)
place_parts len k h = let e = div-add-mod k len in let c = mul_comm len (k / len) in (omega arith, mod-lt k h)

-- all strips are stored, in order
pub whole_are : (outer numbers : List ℕ) (len : ℕ) → length numbers ≡ length outer * len →
    ((i : ℕ) → i < length outer → get_or outer i 0 ≡ i) → AreStrips outer numbers len
whole_are outer numbers len l h = record {
  count = length outer;
  whole = l;
  within = λ i lt. omega (arith, h i lt);
  used = λ k lt. (k, (lt, h k lt));
}

pub whole_values : (outer numbers : List ℕ) (len : ℕ) → 0 < len → length numbers ≡ length outer * len →
    ((i : ℕ) → i < length outer → get_or outer i 0 ≡ i) → unrolled outer numbers len ≡ numbers
whole_values outer numbers len some l h = same_by_places (unrolled outer numbers len) numbers (long ∙ sym l) each
  where
    are : AreStrips outer numbers len
    are = whole_are outer numbers len l h

    long : length (unrolled outer numbers len) ≡ length outer * len
    long = length_unrolled outer numbers len are

    each : (k : ℕ) → k < length (unrolled outer numbers len) → get_or (unrolled outer numbers len) k 0 ≡ get_or numbers k 0
    each k lt =
        let p = place_parts len k some in
        let inside : k < length outer * len = omega (arith, long) in
        let i : k / len < length outer = (div-lt_iff_lt-mul some).1 inside in
        ap (λ j. get_or (unrolled outer numbers len) j 0) (sym p.0) ∙ unrolled_at outer numbers len are (k / len) (k % len) i p.1
        ∙ ap (λ j. get_or numbers (j * len + k % len) 0) (h (k / len) i) ∙ ap (λ j. get_or numbers j 0) p.0

-- a value for each point of each function
pub long_numbers : (p : TruthTables) (num : Bool → ℕ) → length (map num (values_of p)) ≡ length p.tables * 2 ^ p.inputs
long_numbers p num = length-map (values_of p) num ∙ length_values p

pub few_numbers : (p : TruthTables) (num : Bool → ℕ) → p.inputs ≤ 16 → length p.tables ≤ 16 → length (map num (values_of p)) ≤ 2 ^ 20
few_numbers p num inputs outputs = grind (arith, length-map, length_values, pow_mono, mul-le-mul_left, mul-le-mul_right)
