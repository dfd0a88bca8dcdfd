use Rattle.std.proofs.Common.{◌≡◌, ℕ, zero, suc, ◌+◌, ◌*◌, ◌/◌, ◌%◌, ◌^◌, ◌<◌, ◌≤◌, get_or, set, length, List, sym, ap, ◌∙◌, subst, arith}
use Rattle.std.proofs.Math.Nat.{mod-eq_of_lt}
use Rattle.std.proofs.lemmas.Nat.{pow_pos}
use Rattle.subfunction_classes.specs.PairTables.{AllBelow, IsPaired}
use Rattle.subfunction_classes.specs.Places.{low_place, pair_at}
use Rattle.subfunction_classes.proofs.BlockPlaces.{block_all, block_inside, block_low}
use Rattle.subfunction_classes.proofs.Index.{pair_within}
use Rattle.small_search.proofs.JoinedValues.{AreJoinedTo, joined_one}
use Rattle.small_search.proofs.ValueLaws.{joined_small}
use Rattle.small_search.proofs.values.join_blocks.Goals as goal

square_small : (s : ℕ) → s ≤ 4 → 2 ^ s * 2 ^ s ≤ 256
square_small zero l = omega arith
square_small (suc zero) l = omega arith
square_small (suc (suc zero)) l = omega arith
square_small (suc (suc (suc zero))) l = omega arith
square_small (suc (suc (suc (suc zero)))) l = omega arith
square_small (suc (suc (suc (suc (suc s))))) l = absurd (omega arith)

-- the joined value of a pair, and that a byte has room for it
record IsJoint (before : List ℕ) (x count b i : ℕ) : Type 0 where
  inside : b * 2 ^ x + i < length before / 2
  fits : get_or before (b * 2 * 2 ^ x + i) 0 + get_or before (b * 2 * 2 ^ x + i + 2 ^ x) 0 * count % 256 < 256
  is : get_or before (b * 2 * 2 ^ x + i) 0 + get_or before (b * 2 * 2 ^ x + i + 2 ^ x) 0 * count % 256
      ≡ (pair_at before (2 ^ x) (b * 2 ^ x + i)).0 + (pair_at before (2 ^ x) (b * 2 ^ x + i)).1 * count

joint : (before : List ℕ) (x s b i : ℕ) → IsPaired before x → s ≤ 4 → AllBelow before (2 ^ s) → b < length before / 2 / 2 ^ x → i < 2 ^ x →
    IsJoint before x (2 ^ s) b i
joint before x s b i paired few below lb li =
    let place = b * 2 * 2 ^ x + i in
    let c = 2 ^ s in
    let inside = block_inside (length before) x b i paired.whole lb li in
    let within = pair_within (2 ^ x) paired.whole.0 (length before) (b * 2 ^ x + i) (pow_pos x) paired.whole.1 inside in
    let at : low_place (2 ^ x) (b * 2 ^ x + i) ≡ place = block_low (2 ^ x) b i li ∙ omega arith in
    let high = below (place + 2 ^ x) (omega (arith, within, at)) in
    let low = below place (omega (arith, within, at)) in
    let small = joined_small (get_or before place 0) (get_or before (place + 2 ^ x) 0) c low high in
    let square = square_small s few in
    let m : get_or before (place + 2 ^ x) 0 * c % 256 ≡ get_or before (place + 2 ^ x) 0 * c = mod-eq_of_lt (omega (arith, small, square)) in
    record {
      inside = inside;
      fits = omega (arith, m, small, square);
      is = ap (λ k. get_or before place 0 + k) m ∙ sym (ap (λ k. get_or before k 0 + get_or before (k + 2 ^ x) 0 * c) at);
    }

the_joint : (c : goal.After-shared_slice_known-in-loop-i-1) → IsJoint c.args.before.now c.args.x (2 ^ c.args.shift) c.loop-block.block c.loop-i.i
the_joint c =
    let e = c.requires.step in
    let long = c.requires.long in
    let t = c.loop-block-test.true in
    joint c.args.before.now c.args.x c.args.shift c.loop-block.block c.loop-i.i c.requires.paired c.requires.shift c.requires.below
    (subst (λ (s : ℕ). c.loop-block.block < length c.args.before.now / 2 / s) e (subst (λ (l : ℕ). c.loop-block.block < l / c.args.step) long t))
    (subst (λ (s : ℕ). c.loop-i.i < s) e c.loop-i-test.true)

-- with the step as a power of two
abbrev value : List ℕ → ℕ → ℕ → ℕ → ℕ → ℕ
value before step count b i = get_or before (b * 2 * step + i) 0 + get_or before (b * 2 * step + i + step) 0 * count % 256

pub overflow_add-values : goal.overflow_add-values
overflow_add-values c =
    let f = subst (λ (s : ℕ). value c.args.before.now s (2 ^ c.args.shift) c.loop-block.block c.loop-i.i < 256) (sym c.requires.step) (the_joint c).fits in
    omega (arith, f)

pub loop-i-preserved : goal.loop-i-preserved
loop-i-preserved c =
    let before = c.args.before.now in
    let x = c.args.x in
    let b = c.loop-block.block in
    let i = c.loop-i.i in
    let j = the_joint c in
    let k : b * 2 ^ x + i + 1 ≡ b * 2 ^ x + (i + 1) = omega arith in
    subst (λ (s : ℕ). AreJoinedTo before x (2 ^ c.args.shift) (set c.loop-i.values (b * s + i) (value before s (2 ^ c.args.shift) b i))
    (b * 2 ^ x + (i + 1))) (sym c.requires.step)
    (subst (λ (m : ℕ). AreJoinedTo before x (2 ^ c.args.shift) (set c.loop-i.values (b * 2 ^ x + i) (value before (2 ^ x) (2 ^ c.args.shift) b i)) m) k
    (joined_one before x (2 ^ c.args.shift) c.loop-i.values (b * 2 ^ x + i) (value before (2 ^ x) (2 ^ c.args.shift) b i) j.inside j.is c.loop-i.invariant))

pub returns : goal.returns
returns c =
    let h = c.loop-block.invariant in
    let x = c.args.x in
    let long = c.requires.long in
    let end = subst (λ (s : ℕ). length c.args.before.now / 2 / s ≤ c.loop-block.block) c.requires.step
    (subst (λ (l : ℕ). l / c.args.step ≤ c.loop-block.block) long c.loop-block-test.false) in
    let all = block_all (length c.args.before.now) x c.loop-block.block c.requires.paired.whole end in
    let m = h.long in
    record { long = h.long; each = λ j l. h.each j (omega (arith, l, m, all)) }
