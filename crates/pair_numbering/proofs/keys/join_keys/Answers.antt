use Rattle.std.proofs.Common.{◌≡◌, ℕ, List, ◌≤◌, ◌+◌, ◌*◌, ◌^◌, ◌<◌, get_or, set, take, map, length, sym, ap, subst, ◌∙◌, arith}
use Rattle.std.proofs.lemmas.List.{take_more_set, take_all, length-set}
use Rattle.std.proofs.Math.Nat.{mul-le-mul}
use Rattle.subfunction_classes.specs.PairTables.{AllBelow, IsPaired}
use Rattle.subfunction_classes.specs.Places as places
use Rattle.pair_numbering.specs.Keys.{joined_key}
use Rattle.subfunction_classes.proofs.Index.{done_more, length-pairs, pair_listed}
use Rattle.subfunction_classes.proofs.BlockPlaces.{block_inside, block_next, listed_classes}
use Rattle.pair_numbering.proofs.InBlocks.{all_pairs, in_block, listed_inside, place_is}
use Rattle.pair_numbering.proofs.keys.join_keys.Goals as goal

pub loop-i-preserved : goal.loop-i-preserved
loop-i-preserved c =
    let cs = c.args.entries.now.numbers in
    let step = 2 ^ c.args.entries.now.rank in
    let ps = places.pairs cs step in
    let j = c.loop-block.block * step + c.loop-i.i in
    let out = c.loop-i.joined.items in
    let w = in_block c.rank-rank.ensures.paired c.len-half.ensures.count c.rank-rank.ensures.rank c.block.ensures.low_len
    c.loop-block-test.true c.loop-i-test.true in
    let small = block_inside (length cs) c.args.entries.now.rank c.loop-block.block c.loop-i.i c.rank-rank.ensures.paired.whole w.inside w.early in
    let key = joined_key c.args.base (get_or c.block.result.low.now c.loop-i.i 0, get_or c.block.result.high.now c.loop-i.i 0) in
    let value = ap (joined_key c.args.base) (c.block.ensures.pairs c.loop-i.i w.early ∙ pair_listed cs step j small) in
    let place = place_is c.rank-rank.ensures.paired c.loop-block.block c.loop-i.i c.rank-rank.ensures.rank in
    let k : j + 1 ≡ c.loop-block.block * step + (c.loop-i.i + 1) = omega arith in
    record {
      long = length-set out _ _ ∙ c.loop-i.invariant.long;
      done = subst (λ z. z) (λ t. take (k t) (set out (sym place t) key) ≡ map (joined_key c.args.base) (take (k t) ps))
          (take_more_set out j key (omega arith) ∙ done_more cs step j small (joined_key c.args.base) (take j out) key c.loop-i.invariant.done value);
    }

pub loop-block-init : goal.loop-block-init
loop-block-init c = record { long = grind arith; done = grind arith }

pub loop-i-init : goal.loop-i-init
loop-i-init c = grind arith

pub loop-block-preserved : goal.loop-block-preserved
loop-block-preserved c =
    let cs = c.args.entries.now.numbers in
    let step = 2 ^ c.args.entries.now.rank in
    let all : c.loop-block.block * step + c.loop-i.i ≡ (c.loop-block.block + 1) * step =
    ap (λ k. c.loop-block.block * step + k)
    (let e : c.loop-i.i ≡ step = omega (arith, c.block.ensures.low_len, c.loop-i.auto.i-end, c.loop-i-test.false) in e)
    ∙ block_next step c.loop-block.block in
    record {
      long = c.loop-i.invariant.long;
      done = subst (λ k. take k c.loop-i.joined.items ≡ map (joined_key c.args.base) (take k (places.pairs cs step))) all c.loop-i.invariant.done;
    }

pub returns : goal.returns
returns c =
    let all = all_pairs c.rank-rank.ensures.paired c.loop-block.block c.len-half.ensures.count c.rank-rank.ensures.rank c.loop-block-test.false in
    grind (arith, length-pairs, take_all, all)

-- both halves of a pair are below the base
keys_below : (cs : List ℕ) (rank base j : ℕ) → IsPaired cs rank → AllBelow cs base → j < length (places.pairs cs (2 ^ rank)) → (low high : ℕ) →
    (low, high) ≡ get_or (places.pairs cs (2 ^ rank)) j (0, 0) → (low < base) × (high < base)
keys_below cs rank base j paired below l low high e =
    subst (λ (p : ℕ × ℕ). (p.0 < base) × (p.1 < base)) (sym e) (listed_classes cs rank base j paired.whole below l)

key_fits : (low high base : ℕ) → low < base → high < base → base ≤ 256 → (high * base < 2 ^ 32) × (low + high * base < 2 ^ 32)
key_fits low high base l h b =
    let m = mul-le-mul (let s : high ≤ 256 = omega arith in s) b in
    (omega arith, omega arith)

pub overflow_mul-high : goal.overflow_mul-high
overflow_mul-high c =
    let w = in_block c.rank-rank.ensures.paired c.len-half.ensures.count c.rank-rank.ensures.rank c.block.ensures.low_len
    c.loop-block-test.true c.loop-i-test.true in
    let b = keys_below c.args.entries.now.numbers c.args.entries.now.rank c.args.base _ c.rank-rank.ensures.paired c.requires.below
    (listed_inside c.rank-rank.ensures.paired w) _ _ (c.block.ensures.pairs c.loop-i.i w.early) in
    let k = key_fits _ _ c.args.base b.0 b.1 c.requires.base in
    omega arith

pub overflow_add-low : goal.overflow_add-low
overflow_add-low c =
    let w = in_block c.rank-rank.ensures.paired c.len-half.ensures.count c.rank-rank.ensures.rank c.block.ensures.low_len
    c.loop-block-test.true c.loop-i-test.true in
    let b = keys_below c.args.entries.now.numbers c.args.entries.now.rank c.args.base _ c.rank-rank.ensures.paired c.requires.below
    (listed_inside c.rank-rank.ensures.paired w) _ _ (c.block.ensures.pairs c.loop-i.i w.early) in
    let k = key_fits _ _ c.args.base b.0 b.1 c.requires.base in
    omega arith
