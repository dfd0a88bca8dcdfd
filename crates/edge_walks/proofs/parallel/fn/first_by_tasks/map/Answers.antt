use Rattle.std.proofs.Common.{◌≡◌, ◌-◌, ◌*◌, ◌%◌, ◌<◌, ◌≤◌, ◌^◌, sym, ap, ◌∙◌, subst, arith, ℕ}
use Rattle.std.proofs.Math.Nat.{mod-eq_of_lt}
use Rattle.std.proofs.Math.Pow.{pow_mono}
use Rattle.std.proofs.lemmas.Nat.{pow_pos}
use Rattle.subfunction_classes.proofs.HighSets.{high_room, multiple, place_below}
use Rattle.edge_walks.proofs.parallel.fn.first_by_tasks.map.Goals as goal

-- a part, as a mask
part_small : (n end p : ℕ) → end ≤ n → p < 2 ^ end → p * 2 ^ (n - end) < 2 ^ n
part_small n end p le small =
    let b = place_below n (n - end) p 0 (omega arith) (subst (λ k. p < 2 ^ k) (sym (omega arith)) small) (pow_pos (n - end)) in
    omega arith

part_mask : (n end p : ℕ) → n ≤ 16 → end ≤ n → p < 2 ^ end → p * 2 ^ (n - end) % 65536 ≡ p * 2 ^ (n - end)
part_mask n end p few le small = grind (arith, part_small, pow_mono, mod-eq_of_lt)

pub overflow_shl-part : goal.overflow_shl-part
overflow_shl-part c = grind arith

pub first_from_tops-requires : goal.first_from_tops-requires
first_from_tops-requires c =
    let n = c.captures.root.free in
    let end = c.captures.end in
    let p = c.part_of.result in
    let start = c.requires.1 in
    let mask = part_mask n end p (omega arith) start.within c.part_of.ensures.within in
    let small = part_small n end p start.within c.part_of.ensures.within in
    let aligned = ap (λ k. k % 2 ^ (n - end)) mask ∙ multiple p (2 ^ (n - end)) (pow_pos (n - end)) in
    let room = high_room n (p * 2 ^ (n - end) % 65536) (n - end) (omega arith) aligned (omega arith) in
    record {
      root = (start.empty, start.whole);
      tops = start.each;
      end = (start.above, start.variable);
      part = record { aligned = aligned; room = omega arith };
    }

pub returns : goal.returns
returns c = grind (arith, part_mask)
