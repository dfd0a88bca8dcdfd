-- Sets by their variables from a bound on: the highest bits of a mask.
--     step_down      a set with no variable below the next bound
--     high_new, high_or, high_more, high_room      its next variable down is new; with it; the sets that differ below the bound
--     place_below      a set, by its variables from a bound on and those below
--     free_all      all variables below the bound are free
--     part_same, part_more, part_high      the part of a mask from a bound on, and from the next one down
--     multiple, double      a multiple has no rest; twice a power of two
use Rattle.std.proofs.Common.{◌≡◌, ℕ, zero, suc, ◌+◌, ◌-◌, ◌*◌, ◌/◌, ◌%◌, ◌^◌, ◌<◌, ◌≤◌, false, sym, ap, ◌∙◌, arith, bit_or, zero-mul}
use Rattle.std.specs.Int.{bit_at}
use Rattle.std.proofs.Math.Nat.{div-lt_iff_lt-mul, mul-le-mul_right}
use Rattle.std.proofs.lemmas.Bool.{cases_eq}
use Rattle.std.proofs.lemmas.Nat.{pow_pos, or_disjoint, mod-pow-add, mod-mul-add, div-add-mod', pow-add}
use Rattle.std.proofs.lemmas.Nat.Bits.{shr_and_one, and_pow, bit_at-lt}
use Rattle.definitions.specs.Orders.{has, members}
use Rattle.subfunction_classes.specs.Table.{free_below}
use Rattle.subfunction_classes.proofs.OneMoreVariable.{free_none, free_more}
use Rattle.subfunction_classes.proofs.LowSets.{bit_unset}

pub low_bits : (mask x : ℕ) → mask % 2 ^ (x + 1) ≡ (mask / 2 ^ x % 2) * 2 ^ x + mask % 2 ^ x
low_bits mask x = ap (λ k. mask % 2 ^ k) (let s : x + 1 ≡ 1 + x = omega arith in s) ∙ mod-pow-add mask 1 x

pub step_down : (set x : ℕ) → set % 2 ^ (x + 1) ≡ 0 → (set % 2 ^ x ≡ 0) × (set / 2 ^ x % 2 ≡ 0)
step_down set x e = grind (arith, bit_at-lt, pow_pos, cases_eq, low_bits, zero-mul)

pub high_new : (n set x : ℕ) → set % 2 ^ (x + 1) ≡ 0 → has (members n set) x ≡ false
high_new n set x e = bit_unset n set x (shr_and_one set x ∙ (step_down set x e).1)

pub high_or : (set x : ℕ) → set % 2 ^ (x + 1) ≡ 0 → bit_or set (2 ^ x) ≡ set + 2 ^ x
high_or set x e = or_disjoint set (2 ^ x) (and_pow set x ∙ ap (λ b. b * 2 ^ x) (step_down set x e).1 ∙ zero-mul (2 ^ x))

pub multiple : (q w : ℕ) → 0 < w → q * w % w ≡ 0
multiple q w some = ap (λ k. k % w) (let s : q * w ≡ q * w + 0 = omega arith in s) ∙ mod-mul-add q w 0 some

pub high_more : (set x : ℕ) → set % 2 ^ (x + 1) ≡ 0 → (set + 2 ^ x) % 2 ^ x ≡ 0
high_more set x e =
    let z = (step_down set x e).0 in
    ap (λ k. k % 2 ^ x) (let s : set + 2 ^ x ≡ (set / 2 ^ x + 1) * 2 ^ x = omega arith in s) ∙ multiple (set / 2 ^ x + 1) (2 ^ x) (pow_pos x)

-- a set, by its variables from y on and those below
pub place_below : (n y a s : ℕ) → y ≤ n → a < 2 ^ (n - y) → s < 2 ^ y → a * 2 ^ y + s < 2 ^ n
place_below n y a s le h l = grind (arith, pow-add, mul-le-mul_right)

pub high_room : (n set y : ℕ) → y ≤ n → set % 2 ^ y ≡ 0 → set < 2 ^ n → set + 2 ^ y ≤ 2 ^ n
high_room n set y le e small =
    let p = pow_pos y in
    let w : 2 ^ n ≡ 2 ^ (n - y) * 2 ^ y = ap (λ k. 2 ^ k) (let s : n ≡ (n - y) + y = omega arith in s) ∙ pow-add 2 (n - y) y in
    let b = place_below n y (set / 2 ^ y) (2 ^ y - 1) le ((div-lt_iff_lt-mul (pow_pos y)).1 (omega arith)) (omega arith) in
    omega arith

pub free_all : (set x : ℕ) → set % 2 ^ x ≡ 0 → free_below set x ≡ x
free_all set zero e = free_none set
free_all set (suc x) e =
    let s : suc x ≡ x + 1 = omega arith in
    let d = step_down set x (ap (λ k. set % 2 ^ k) (sym s) ∙ e) in
    ap (free_below set) s ∙ free_more set x (shr_and_one set x ∙ d.1) ∙ omega (arith, free_all set x d.0)

pub part_same : (mask x : ℕ) → bit_at mask x ≡ 0 → mask / 2 ^ (x + 1) * 2 ^ (x + 1) ≡ mask / 2 ^ x * 2 ^ x
part_same mask x e = grind (arith, low_bits, zero-mul, div-add-mod')

pub part_high : (mask y : ℕ) → mask / 2 ^ y * 2 ^ y % 2 ^ y ≡ 0
part_high mask y = multiple (mask / 2 ^ y) (2 ^ y) (pow_pos y)

pub part_more : (mask x : ℕ) → bit_at mask x ≡ 1 → bit_or (mask / 2 ^ (x + 1) * 2 ^ (x + 1)) (2 ^ x) ≡ mask / 2 ^ x * 2 ^ x
part_more mask x e = grind (arith, low_bits, div-add-mod', high_or, part_high)

pub double : (x y : ℕ) → y ≡ x + 1 → 2 ^ y ≡ 2 ^ x + 2 ^ x
double x y e = ap (λ k. 2 ^ k) e ∙ pow-add 2 x 1 ∙ omega arith
