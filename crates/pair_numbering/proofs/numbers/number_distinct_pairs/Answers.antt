use Rattle.std.proofs.Common.{◌≡◌, ℕ, ◌+◌, ◌-◌, ◌*◌, ◌%◌, ◌^◌, ◌<◌, ◌≤◌, ◌/◌, List, get_or, set, take, map, length, sym, ap, subst, ◌∙◌, arith, bit_and}
use Rattle.std.proofs.lemmas.List.{take_more_set, take_all, length-set, length-take}
use Rattle.subfunction_classes.specs.Dependence.{joined_mask}
use Rattle.subfunction_classes.specs.Places as places
use Rattle.subfunction_classes.proofs.DistinctClasses.{distinct_first}
use Rattle.subfunction_classes.specs.PairTables.{AreOwn, IsPaired}
use Rattle.subfunction_classes.proofs.Index.{length-pairs, low_place_is, pair_listed, pair_within}
use Rattle.std.proofs.lemmas.Nat.{pow_pos}
use Rattle.subfunction_classes.specs.Made.{Made}
use Rattle.subfunction_classes.proofs.Firsts.{made_none, made_first, made_numbers, made_many, made_told}
use Rattle.pair_numbering.proofs.InBlocks.{step_is}
use Rattle.pair_numbering.proofs.numbers.number_distinct_pairs.Goals as goal

-- the place of a pair's entry, as the code has it
abbrev low : ℕ → ℕ → ℕ
low r j = 2 * j - bit_and j (1 * 2 ^ r % 2 ^ 64 - 1)

-- a pair of entries that are their places, as the code has it
own_pair : (cs : List ℕ) (rank j r : ℕ) → IsPaired cs rank → AreOwn cs → j < length cs / 2 → r ≡ rank →
    ((low r j, low r j + 1 * 2 ^ r % 2 ^ 64) ≡ places.pair_at cs (2 ^ rank) j) × (low r j + 1 * 2 ^ r % 2 ^ 64 < length cs)
own_pair cs rank j r paired own small e =
    let w = pair_within (2 ^ rank) paired.whole.0 (length cs) j (pow_pos rank) paired.whole.1 small in
    let at = places.low_place (2 ^ rank) j in
    let few = paired.small_rank in
    let first : low r j ≡ at = low_place_is r j (omega (arith, e, few)) ∙ ap (λ k. places.low_place (2 ^ k) j) e in
    let second : low r j + 1 * 2 ^ r % 2 ^ 64 ≡ at + 2 ^ rank = λ i. first i + step_is paired e i in
    ((λ i. ((first ∙ sym (own at (omega arith))) i, (second ∙ sym (own (at + 2 ^ rank) w)) i)), subst (λ z. z < length cs) (sym second) w)

pub loop-j-init : goal.loop-j-init
loop-j-init c = grind (arith, length-pairs, made_none)

pub loop-j-preserved : goal.loop-j-preserved
loop-j-preserved c =
    let cs = c.args.pairs.now.entries.numbers in
    let rank = c.args.pairs.now.entries.rank in
    let ps = places.pairs cs (2 ^ rank) in
    let join = joined_mask c.args.pairs.now.masks.now c.args.pairs.now.x in
    let j = c.loop-j.j in
    let out = c.loop-j.to.numbers.items in
    let masks = c.loop-j.to.masks.items in
    let mask = c.join_mask.result in
    let l = length-pairs cs (2 ^ rank) in
    let small : j < length cs / 2 = omega arith in
    let own = own_pair cs rank j c.rank.result c.rank.ensures.paired c.requires small c.rank.ensures.rank in
    let pair = own.0 ∙ sym (pair_listed cs (2 ^ rank) j small) in
    let few : length (take j masks) ≡ j = omega (arith, length-take j masks) in
    let first = distinct_first cs rank c.rank.ensures.paired.whole
    (λ i k lt h e. omega (arith, c.requires i (omega arith), c.requires k h)) j small in
    record {
      long = length-set masks _ _ ∙ c.loop-j.invariant.long;
      made = subst (λ z. z) (λ t. Made 0 ps join (set out j (few t)) (sym (take_more_set masks j mask (omega arith)) t) (j + 1))
          (made_first 0 ps join out (take j masks) j mask (omega arith) first (c.join_mask.ensures ∙ ap join pair) c.loop-j.invariant.made);
    }

pub returns : goal.returns
returns c =
    let ps = places.pairs c.args.pairs.now.entries.numbers (2 ^ c.args.pairs.now.entries.rank) in
    let join = joined_mask c.args.pairs.now.masks.now c.args.pairs.now.x in
    let out = c.loop-j.to.numbers.items in
    let masks = c.loop-j.to.masks.items in
    let made = c.loop-j.invariant.made in
    let l = length-pairs c.args.pairs.now.entries.numbers (2 ^ c.args.pairs.now.entries.rank) in
    let end : length ps ≤ c.loop-j.j = omega arith in
    let all = sym (take_all c.loop-j.j masks (omega arith)) in
    record {
      numbers_are = made_numbers 0 ps join out (take c.loop-j.j masks) c.loop-j.j end made;
      many = ap length all ∙ made_many 0 ps join out (take c.loop-j.j masks) c.loop-j.j end made;
      labels = ap (λ us. map (λ k. get_or us k 0) out) all ∙ made_told 0 ps join out (take c.loop-j.j masks) c.loop-j.j end made;
    }

pub join_mask-requires-clause-upper : goal.join_mask-requires-clause-upper
join_mask-requires-clause-upper c =
    let cs = c.args.pairs.now.entries.numbers in
    let own = own_pair cs c.args.pairs.now.entries.rank c.loop-j.j c.rank.result c.rank.ensures.paired c.requires (omega arith) c.rank.ensures.rank in
    subst (λ z. z < length c.args.pairs.now.masks.now) (c.requires _ own.1) (c.args.pairs.now.below _ own.1)
