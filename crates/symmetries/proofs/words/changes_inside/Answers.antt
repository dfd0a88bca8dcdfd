use Rattle.std.proofs.Common.{◌≡◌, ◌+◌, ◌-◌, ◌%◌, ◌*◌, ◌^◌, ◌≤◌, sym, ap, ap₂, ◌∙◌, arith, pow_mono, bit_and, bit_xor}
use Rattle.std.specs.Int.{bit_at}
use Rattle.definitions.proofs.Bits.Words.{step_is}
use Rattle.symmetries.proofs.SymmetricWords.{same_shifted, places_with, place_without}
use Rattle.symmetries.proofs.words.changes_inside.Goals as goal

pub overflow_sub-apart : goal.overflow_sub-apart
overflow_sub-apart c =
    let r = c.requires.first in
    let l = c.requires.low in
    let e = (step_is c.args.a (omega arith)).0 in
    let f = (step_is c.args.b l).0 in
    let m : 2 ^ c.args.a ≤ 2 ^ c.args.b = pow_mono {j = c.args.b} (omega arith) in
    omega arith

pub overflow_shr-result : goal.overflow_shr-result
overflow_shr-result c = grind (arith, step_is)

pub returns : goal.returns
returns c none k small one zero =
    let a = c.args.a in
    let b = c.args.b in
    let r = c.requires.first in
    let l = c.requires.low in
    let e = (step_is a (omega arith)).0 in
    let f = (step_is b l).0 in
    let m : 2 ^ a ≤ 2 ^ b = pow_mono {j = b} (omega arith) in
    let le = (place_without k a one).0 in
    let with_a = bit_xor c.lower_half-without_b.result (bit_and c.lower_half-without_b.result c.lower_half.result) in
    let there = places_with a b c.lower_half.result c.lower_half-without_b.result k
    (c.lower_half.ensures k small) (c.lower_half-without_b.ensures k small) one zero in
    let apart : 1 * 2 ^ b % 4294967296 - 1 * 2 ^ a % 4294967296 ≡ 2 ^ b - 2 ^ a = ap₂ (λ x y. x - y) f e in
    let up : k + (2 ^ b - 2 ^ a) ≡ k - 2 ^ a + 2 ^ b = omega arith in
    sym (ap (bit_at c.args.word) (sym up)
    ∙ same_shifted c.args.word c.args.word with_a (1 * 2 ^ b % 4294967296 - 1 * 2 ^ a % 4294967296) (2 ^ b - 2 ^ a) k apart none there)
