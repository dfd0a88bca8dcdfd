use Rattle.std.proofs.Common.{◌≡◌, ◌≢◌, ℕ, ◌+◌, ◌/◌, ◌^◌, ◌<◌, ◌≤◌, List, get_or, set, length, sym, ap, subst, ◌∙◌, arith}
use Rattle.std.proofs.lemmas.List.{get_or-set_other}
use Rattle.std.proofs.lemmas.Nat.{pow_pos}
use Rattle.subfunction_classes.specs.PairTables.{AllBelow, IsPaired}
use Rattle.subfunction_classes.specs.Places as places
use Rattle.class_tables.specs.Chains.{IsNext, lower_at, upper_at}
use Rattle.subfunction_classes.proofs.Index.{pair_within}
use Rattle.pair_numbering.proofs.InBlocks.{pair_inside}
use Rattle.class_tables.proofs.PairChains.{Walk, walk_again, walk_new}
use Rattle.class_tables.proofs.chains.walk_chain.Goals as goal
use Rattle.class_tables.proofs.chains.walk_chain.Goals.{then-stamps-upper, else-stamps-upper}

-- the upper class of a pair is a class
upper_inside : (cs : List ℕ) (rank classes j : ℕ) (pair : ℕ × ℕ) (rows : List ℕ) → IsPaired cs rank → AllBelow cs classes → j < length cs / 2 →
    pair ≡ places.pair_at cs (2 ^ rank) j → length rows ≡ classes → pair.1 < length rows
upper_inside cs rank classes j pair rows paired below small here long =
    subst (λ n. pair.1 < n) (sym long) (pair_inside paired below small here).1

-- the walk stands at a pair
pair_there : (half len j : ℕ) → len ≡ half → j < len → j < half
pair_there half len j e l = subst (λ z. j < z) e l

-- at its end it is past all of them
pair_past : (half len at j : ℕ) → len ≡ half → len ≤ at → j < half → j < at
pair_past half len at j e l m = omega arith

pub bounds-stamps-upper : goal.bounds-stamps-upper
bounds-stamps-upper c =
    upper_inside _ _ _ c.loop-j.j c.pair-upper.result c.loop-j.stamps c.requires.rows.paired c.requires.rows.classes
    (pair_there _ _ c.loop-j.j c.args.chains.now.after.long c.loop-j-test.true) c.pair-upper.ensures c.loop-j.auto.stamps

pub bounds-stamps-upper-else-stamps-upper : goal.bounds-stamps-upper-else-stamps-upper
bounds-stamps-upper-else-stamps-upper c =
    upper_inside _ _ _ c.loop-j.j c.pair-upper.result c.loop-j.stamps c.requires.rows.paired c.requires.rows.classes
    (pair_there _ _ c.loop-j.j c.args.chains.now.after.long c.loop-j-test.true) c.pair-upper.ensures c.loop-j.auto.stamps

pub bounds-marks-upper : goal.bounds-marks-upper
bounds-marks-upper c =
    upper_inside _ _ _ c.loop-j.j c.pair-upper.result c.loop-j.marks c.requires.rows.paired c.requires.rows.classes
    (pair_there _ _ c.loop-j.j c.args.chains.now.after.long c.loop-j-test.true) c.pair-upper.ensures (c.loop-j.auto.marks ∙ c.requires.rows.marks_len)

pub bounds-marks-upper-else-stamps-upper : goal.bounds-marks-upper-else-stamps-upper
bounds-marks-upper-else-stamps-upper c =
    upper_inside _ _ _ c.loop-j.j c.pair-upper.result c.loop-j.marks c.requires.rows.paired c.requires.rows.classes
    (pair_there _ _ c.loop-j.j c.args.chains.now.after.long c.loop-j-test.true) c.pair-upper.ensures (c.loop-j.auto.marks ∙ c.requires.rows.marks_len)

pub loop-j-preserved : goal.loop-j-preserved
loop-j-preserved c =
    let cs = c.args.chains.now.entries.now.numbers in
    let step = 2 ^ c.args.chains.now.entries.now.rank in
    let half = length cs / 2 in
    let lower = c.args.lower in
    let j = c.loop-j.j in
    let stamps = c.loop-j.stamps in
    let marks = c.loop-j.marks in
    let first = c.loop-j.first in
    let k = get_or c.args.chains.now.next.now j 0 in
    let small : j < half = omega arith in
    let w = pair_within step c.requires.rows.paired.whole.0 (length cs) j (pow_pos c.args.chains.now.entries.now.rank) c.requires.rows.paired.whole.1 small in
    let v : c.pair-upper.result.1 ≡ upper_at cs step j = ap (λ (p : ℕ × ℕ). p.1) c.pair-upper.ensures in
    let inside : upper_at cs step j < length stamps = omega arith in
    let here = c.loop-j.invariant.walk.here small in
    let nx = subst (λ z. IsNext (lower_at cs step) half z (j + 1) k) here (c.args.chains.now.after.each j small) in
    record {
      walk = elim c.if-stamps-upper.branch [
        | then-stamps-upper u ↦
            let f = u.first-is ∙ ap (λ z. set first j (get_or marks z 0)) v in
            let g = ap (λ z. get_or stamps z 0) (sym v) ∙ u.if-stamps-upper.true in
            subst (λ z. z) (λ i. Walk cs step half lower (sym u.stamps-is i) (sym u.marks-is i) (sym f i) k)
            (walk_again cs step half lower stamps marks first j k small (omega arith) inside c.loop-j.invariant.walk g nx)
        | else-stamps-upper u ↦
            let a = u.stamps-is ∙ ap (λ z. set stamps z (lower + 1)) v in
            let g : get_or stamps (upper_at cs step j) 0 ≢ lower + 1 = λ q. u.if-stamps-upper.false (ap (λ z. get_or stamps z 0) v ∙ q) in
            subst (λ z. z) (λ i. Walk cs step half lower (sym a i) (sym (u.marks-is ∙ ap (λ z. set marks z j) v) i) (sym u.first-is i) k)
            (walk_new cs step half lower stamps marks first j k small (omega arith) inside (omega arith) c.loop-j.invariant.walk g nx)
      ];
      others = λ i ne.
          let d : i ≢ j = λ q. ne (ap (lower_at cs step) q ∙ here) in
          elim c.if-stamps-upper.branch [
            | then-stamps-upper u ↦ ap (λ us. get_or us i 0) u.first-is ∙ get_or-set_other first j i _ 0 d ∙ c.loop-j.invariant.others i ne
            | else-stamps-upper u ↦ ap (λ us. get_or us i 0) u.first-is ∙ get_or-set_other first j i _ 0 d ∙ c.loop-j.invariant.others i ne
          ];
    }

pub returns-clause-own : goal.returns-clause-own
returns-clause-own c = λ j l e. c.loop-j.invariant.walk.own j (pair_past _ _ _ j c.args.chains.now.after.long c.loop-j-test.false l) e
