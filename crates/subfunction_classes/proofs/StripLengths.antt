-- Strips: how long they are, and what stands at a place.
--     named_inside, length_strip, strip_at      each strip that is named stands whole; how long it is, and its entries
--     length_named, named_at      a strip for each run; entry a of run i is entry a of the strip that is named there
--     length_names_of, name_low, name_high      the names in pairs
--     unrolled_below      what holds of all entries holds of those of named strips
use Rattle.std.proofs.Common.{◌≡◌, ℕ, zero, suc, ◌+◌, ◌*◌, ◌/◌, ◌%◌, ◌<◌, ◌≤◌, List, [], ◌∷◌, length, get_or, drop, zero-mul, refl, ap, ◌∙◌, sym, arith}
use Rattle.std.specs.List.{flat_map}
use Rattle.std.proofs.Math.Nat.{div-lt_iff_lt-mul, mod-lt, mul-le-mul_right}
use Rattle.std.proofs.lemmas.List.{length-append, length-drop, length-take-le, get_or_append_left, get_or-append-add, get_or-take, get_or-drop}
use Rattle.subfunction_classes.specs.Strips.{AreNamed, names_of, strip, unrolled}

-- each strip that is named stands whole
pub named_inside : (outer numbers : List ℕ) (len : ℕ) → AreNamed outer numbers len → (i : ℕ) → i < length outer → get_or outer i 0 * len + len ≤ length numbers
named_inside outer numbers len s i h =
    let m = mul-le-mul_right len (s.within i h) in
    omega arith

pub length_strip : (numbers : List ℕ) (len k : ℕ) → k * len + len ≤ length numbers → length (strip numbers len k) ≡ len
unfolding strip
length_strip numbers len k h =
    length-take-le len (drop (k * len) numbers) (omega (arith, length-drop (k * len) numbers))

pub strip_at : (numbers : List ℕ) (len k a : ℕ) → a < len → get_or (strip numbers len k) a 0 ≡ get_or numbers (k * len + a) 0
unfolding strip
strip_at numbers len k a h = get_or-take len (drop (k * len) numbers) a 0 h ∙ get_or-drop (k * len) numbers a 0

pub length_named : (outer numbers : List ℕ) (len : ℕ) → AreNamed outer numbers len → length (unrolled outer numbers len) ≡ length outer * len
unfolding unrolled
length_named outer numbers len s = each outer (named_inside outer numbers len s)
  where
    each : (os : List ℕ) → ((i : ℕ) → i < length os → get_or os i 0 * len + len ≤ length numbers) → length (flat_map (strip numbers len) os) ≡ length os * len
    each [] f = sym (zero-mul len)
    each (o ∷ os) f =
        let r = each os (λ i h. f (suc i) (omega arith)) in
        let l = length_strip numbers len o (f 0 (omega arith)) in
        length-append (strip numbers len o) (flat_map (strip numbers len) os) ∙ omega arith

pub named_at : (outer numbers : List ℕ) (len : ℕ) → AreNamed outer numbers len → (i a : ℕ) → i < length outer → a < len →
    get_or (unrolled outer numbers len) (i * len + a) 0 ≡ get_or numbers (get_or outer i 0 * len + a) 0
unfolding unrolled
named_at outer numbers len s i a small inside = each outer (named_inside outer numbers len s) i small
  where
    each : (os : List ℕ) → ((j : ℕ) → j < length os → get_or os j 0 * len + len ≤ length numbers) → (j : ℕ) → j < length os →
        get_or (flat_map (strip numbers len) os) (j * len + a) 0 ≡ get_or numbers (get_or os j 0 * len + a) 0
    each [] f j h = absurd (omega arith)
    each (o ∷ os) f zero h =
        let l = length_strip numbers len o (f 0 (omega arith)) in
        ap (λ k. get_or (flat_map (strip numbers len) (o ∷ os)) k 0) (omega (arith, zero-mul len))
        ∙ get_or_append_left (strip numbers len o) (flat_map (strip numbers len) os) 0 a (omega arith)
        ∙ strip_at numbers len o a inside
    each (o ∷ os) f (suc j) h =
        let l = length_strip numbers len o (f 0 (omega arith)) in
        ap (λ k. get_or (flat_map (strip numbers len) (o ∷ os)) k 0) (omega arith)
        ∙ get_or-append-add (strip numbers len o) (flat_map (strip numbers len) os) (j * len + a) 0
        ∙ each os (λ i k. f (suc i) (omega arith)) j (omega arith)

-- ---- the names in pairs

pub length_names_of : (pairs : List (ℕ × ℕ)) → length (names_of pairs) ≡ length pairs * 2
unfolding names_of
length_names_of [] = refl
length_names_of (p ∷ ps) = omega (arith, length_names_of ps)

pub name_low : (pairs : List (ℕ × ℕ)) (k : ℕ) → k < length pairs → get_or (names_of pairs) (k * 2) 0 ≡ (get_or pairs k (0, 0)).0
unfolding names_of
name_low [] k l = absurd (omega arith)
name_low (p ∷ ps) zero l = refl
name_low (p ∷ ps) (suc k) l = grind (arith, name_low ps k (omega arith))

pub name_high : (pairs : List (ℕ × ℕ)) (k : ℕ) → k < length pairs → get_or (names_of pairs) (k * 2 + 1) 0 ≡ (get_or pairs k (0, 0)).1
unfolding names_of
name_high [] k l = absurd (omega arith)
name_high (p ∷ ps) zero l = refl
name_high (p ∷ ps) (suc k) l = grind (arith, name_high ps k (omega arith))

-- ---- what named strips hold

-- entries of strips that are named are entries of the table
pub unrolled_below : (names numbers : List ℕ) (len m : ℕ) → 0 < len → AreNamed names numbers len →
    ((i : ℕ) → i < length numbers → get_or numbers i 0 < m) → (i : ℕ) → i < length (unrolled names numbers len) →
    get_or (unrolled names numbers len) i 0 < m
unrolled_below names numbers len m some s below i h =
    let l = length_named names numbers len s in
    let q : i / len < length names = (div-lt_iff_lt-mul some).1 (omega arith) in
    let e : i ≡ i / len * len + i % len = omega arith in
    let v = ap (λ z. get_or (unrolled names numbers len) z 0) e ∙ named_at names numbers len s (i / len) (i % len) q (mod-lt i some) in
    let w = named_inside names numbers len s (i / len) q in
    omega arith
