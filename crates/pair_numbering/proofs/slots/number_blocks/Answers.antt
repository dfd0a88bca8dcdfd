use Rattle.std.proofs.Common.{◌≡◌, ℕ, ◌+◌, ◌-◌, ◌*◌, ◌/◌, ◌^◌, ◌<◌, ◌≤◌, List, min, take, get_or, set, length, sym, ap, subst, ◌∙◌, arith}
use Rattle.std.proofs.lemmas.List.{length-set, map-id}
use Rattle.pair_numbering.specs.Slots.{IsSlot, Slotted, home_of, slot_number}
use Rattle.subfunction_classes.specs.Places as places
use Rattle.subfunction_classes.proofs.Firsts.{made_numbers, made_many, made_told}
use Rattle.subfunction_classes.proofs.BlockPlaces.{block_next, listed_classes}
use Rattle.subfunction_classes.proofs.Index.{length-pairs}
use Rattle.pair_numbering.proofs.InBlocks.{all_pairs, in_block, listed_inside, place_is}
use Rattle.pair_numbering.proofs.SlotSteps.{slotted_lone, slotted_new, slotted_none, slotted_old}
use Rattle.pair_numbering.proofs.slots.number_blocks.Goals as goal
use Rattle.pair_numbering.proofs.slots.number_blocks.Goals.{then-pairs-pair-ne1+in_ok-at, else-pairs-pair-ne1, then-number-count, else-number-count}

-- there is a key for each pair
count_inside : {ps : List (ℕ × ℕ)} {home : ℕ × ℕ → ℕ} {counts slots : List ℕ} {keys : List (ℕ × ℕ)} {out : List ℕ} {count j : ℕ} →
    Slotted ps home counts slots keys out count j → j < length ps → count < length keys
count_inside h l = omega arith

-- so many homes there are
homes_are : (half slots : ℕ) → slots ≡ 4 * half + 64 → slots - 64 ≡ 4 * half
homes_are half slots room = omega arith

pub bounds-keys-count : goal.bounds-keys-count
bounds-keys-count c =
    let w = in_block c.rank-rank.ensures.paired c.len.ensures.count c.rank-rank.ensures.rank c.block.ensures.low_len
    c.loop-block-test.true c.loop-i-test.true in
    count_inside c.loop-i.invariant (listed_inside c.rank-rank.ensures.paired w)

pub home-requires-clause-some : goal.home-requires-clause-some
home-requires-clause-some c =
    let cs = c.args.pairs.now.entries.now.numbers in
    let w = in_block c.rank-rank.ensures.paired c.len.ensures.count c.rank-rank.ensures.rank c.block.ensures.low_len
    c.loop-block-test.true c.loop-i-test.true in
    let small = listed_inside c.rank-rank.ensures.paired w in
    omega (arith, small, homes_are (length cs / 2) (length c.args.slots.now) c.requires.slots, length-pairs cs (2 ^ c.args.pairs.now.entries.now.rank))

pub home-requires-clause-few : goal.home-requires-clause-few
home-requires-clause-few c =
    omega (arith, homes_are (length c.args.pairs.now.entries.now.numbers / 2) (length c.args.slots.now) c.requires.slots, c.requires.few)

pub find_slot-requires-clause-keys : goal.find_slot-requires-clause-keys
find_slot-requires-clause-keys c =
    let w = in_block c.rank-rank.ensures.paired c.len.ensures.count c.rank-rank.ensures.rank c.block.ensures.low_len
    c.loop-block-test.true c.loop-i-test.true in
    subst (λ n. c.loop-i.count < n) (sym (length-set c.loop-i.keys c.loop-i.count _))
    (count_inside c.loop-i.invariant (listed_inside c.rank-rank.ensures.paired w))

pub bounds-out-block : goal.bounds-out-block
bounds-out-block c =
    let w = in_block c.rank-rank.ensures.paired c.len.ensures.count c.rank-rank.ensures.rank c.block.ensures.low_len
    c.loop-block-test.true c.loop-i-test.true in
    let e = place_is c.rank-rank.ensures.paired c.loop-block.block c.loop-i.i c.rank-rank.ensures.rank in
    subst (λ z. z) (λ i. sym e i < sym c.loop-i.invariant.made.long i) (listed_inside c.rank-rank.ensures.paired w)

pub bounds-pairs-pair : goal.bounds-pairs-pair
bounds-pairs-pair c =
    let w = in_block c.rank-rank.ensures.paired c.len.ensures.count c.rank-rank.ensures.rank c.block.ensures.low_len
    c.loop-block-test.true c.loop-i-test.true in
    let e = ap (λ (p : ℕ × ℕ). p.0) (c.block.ensures.pairs c.loop-i.i w.early) in
    let s = listed_classes c.args.pairs.now.entries.now.numbers c.args.pairs.now.entries.now.rank (length c.args.pairs.now.counts.now) _
    c.rank-rank.ensures.paired.whole c.args.pairs.now.classes (listed_inside c.rank-rank.ensures.paired w) in
    let below = s.0 in
    omega arith

pub loop-i-preserved : goal.loop-i-preserved
loop-i-preserved c =
    let cs = c.args.pairs.now.entries.now.numbers in
    let rank = c.args.pairs.now.entries.now.rank in
    let ps = places.pairs cs (2 ^ rank) in
    let place = home_of (4 * (length cs / 2)) in
    let j = c.loop-block.block * 2 ^ rank + c.loop-i.i in
    let counts = c.args.pairs.now.counts.now in
    let slots = c.loop-i.slots in
    let keys = c.loop-i.keys in
    let out = c.loop-i.out in
    let count = c.loop-i.count in
    let w = in_block c.rank-rank.ensures.paired c.len.ensures.count c.rank-rank.ensures.rank c.block.ensures.low_len
    c.loop-block-test.true c.loop-i-test.true in
    let small = listed_inside c.rank-rank.ensures.paired w in
    let here : ℕ × ℕ = (get_or c.block.result.low.now c.loop-i.i 0, get_or c.block.result.high.now c.loop-i.i 0) in
    let p : here ≡ get_or ps j (0, 0) = c.block.ensures.pairs c.loop-i.i w.early in
    let counted = ap (λ (q : ℕ × ℕ). get_or counts q.0 0) p in
    let written = place_is c.rank-rank.ensures.paired c.loop-block.block c.loop-i.i c.rank-rank.ensures.rank in
    let next : j + 1 ≡ c.loop-block.block * 2 ^ rank + (c.loop-i.i + 1) = omega arith in
    elim c.if-pairs-pair-ne1.branch [
      | then-pairs-pair-ne1+in_ok-at v ↦
          let at = v.in_ok-at.at in
          let begin = v.home.ensures.place ∙ ap (λ n. home_of n here) (homes_are (length cs / 2) (length c.args.slots.now) c.requires.slots)
          ∙ ap place p in
          let found : IsSlot slots (set keys count (get_or ps j (0, 0))) count (get_or ps j (0, 0)) (place (get_or ps j (0, 0))) at =
          subst (λ z. z) (λ t. IsSlot slots (set keys count (p t)) count (p t) (begin t) at) v.in_ok-at.ensures in
          let number : v.min-number.result ≡ slot_number slots count at = v.min-number.ensures ∙ ap (λ z. min z count) v.from.ensures in
          elim c.if-number-count.branch [
            | then-number-count u ↦
                rw (v.slots-is, v.number-is, u.count-is)
                (subst (λ z. z)
                (λ t. Slotted ps place counts (set slots at (sym number t)) (set keys count (sym p t)) (set out (sym written t) (sym number t))
                (count + 1) (next t))
                (slotted_new c.loop-i.invariant at small found (λ z. v.if-pairs-pair-ne1.true (counted ∙ z))
                (sym number ∙ sym v.number-is ∙ u.if-number-count.true)))
            | else-number-count u ↦
                rw (v.slots-is, v.number-is, u.count-is)
                (subst (λ z. z)
                (λ t. Slotted ps place counts (set slots at (sym number t)) (set keys count (sym p t)) (set out (sym written t) (sym number t))
                count (next t))
                (slotted_old c.loop-i.invariant at small found (λ e. u.if-number-count.false (v.number-is ∙ number ∙ e))))
          ]
      | else-pairs-pair-ne1 v ↦ elim c.if-number-count.branch [
        | then-number-count u ↦
            rw (v.slots-is, v.number-is, u.count-is)
            (subst (λ z. z)
            (λ t. Slotted ps place counts slots (set keys count (sym p t)) (set out (sym written t) count) (count + 1) (next t))
            (slotted_lone c.loop-i.invariant small (sym counted ∙ v.if-pairs-pair-ne1.false)))
        | else-number-count u ↦ absurd (u.if-number-count.false v.number-is)
      ]
    ]

pub loop-block-init : goal.loop-block-init
loop-block-init c = grind (arith, length-pairs, slotted_none)

pub loop-block-preserved : goal.loop-block-preserved
loop-block-preserved c =
    let cs = c.args.pairs.now.entries.now.numbers in
    let rank = c.args.pairs.now.entries.now.rank in
    let all : c.loop-block.block * 2 ^ rank + c.loop-i.i ≡ (c.loop-block.block + 1) * 2 ^ rank =
    ap (λ k. c.loop-block.block * 2 ^ rank + k)
    (let e : c.loop-i.i ≡ 2 ^ rank = omega (arith, c.block.ensures.low_len, c.loop-i.auto.i-end, c.loop-i-test.false) in e)
    ∙ block_next (2 ^ rank) c.loop-block.block in
    subst (Slotted (places.pairs cs (2 ^ rank)) (home_of (4 * (length cs / 2))) c.args.pairs.now.counts.now c.loop-i.slots c.loop-i.keys c.loop-i.out
    c.loop-i.count) all c.loop-i.invariant

place_small : (cs : List ℕ) (step n place : ℕ) → place < n → n ≡ length (places.pairs cs step) → length cs ≤ 2 ^ 16 → place < 2 ^ 16
place_small cs step n place l e f = omega (arith, length-pairs cs step)

pub overflow_mul-out : goal.overflow_mul-out
overflow_mul-out c =
    let w = place_small _ _ _ _ (bounds-out-block c) c.loop-i.invariant.made.long c.requires.few in
    omega arith

pub overflow_add-out : goal.overflow_add-out
overflow_add-out c =
    let w = place_small _ _ _ _ (bounds-out-block c) c.loop-i.invariant.made.long c.requires.few in
    omega arith

pub offset_bounds-out-block : goal.offset_bounds-out-block
offset_bounds-out-block c =
    let w = place_small _ _ _ _ (bounds-out-block c) c.loop-i.invariant.made.long c.requires.few in
    omega arith

pub overflow_add-count : goal.overflow_add-count
overflow_add-count c =
    let s = in_block c.rank-rank.ensures.paired c.len.ensures.count c.rank-rank.ensures.rank c.block.ensures.low_len
    c.loop-block-test.true c.loop-i-test.true in
    let w = place_small _ _ _ _ (count_inside c.loop-i.invariant (listed_inside c.rank-rank.ensures.paired s)) c.loop-i.invariant.long_keys c.requires.few in
    omega arith

pub returns : goal.returns
returns c =
    let cs = c.args.pairs.now.entries.now.numbers in
    let ps = places.pairs cs (2 ^ c.args.pairs.now.entries.now.rank) in
    let keys = take c.loop-block.count c.loop-block.keys in
    let made = c.loop-block.invariant.made in
    let j = c.loop-block.block * 2 ^ c.args.pairs.now.entries.now.rank in
    let l = length-pairs cs (2 ^ c.args.pairs.now.entries.now.rank) in
    let a = all_pairs c.rank-rank.ensures.paired c.loop-block.block c.len.ensures.count c.rank-rank.ensures.rank c.loop-block-test.false in
    let all : length ps ≤ j = subst (λ n. n ≤ j) (sym l) a in
    record {
      numbered_are = made_numbers (0, 0) ps (λ p. p) c.loop-block.out keys j all made;
      many = made_many (0, 0) ps (λ p. p) c.loop-block.out keys j all made;
      labels = made_told (0, 0) ps (λ p. p) c.loop-block.out keys j all made ∙ map-id ps;
    }
