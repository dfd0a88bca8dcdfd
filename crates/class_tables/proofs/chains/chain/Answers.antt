use Rattle.std.proofs.Common.{◌≡◌, ℕ, suc, ◌+◌, ◌-◌, ◌/◌, ◌^◌, ◌<◌, get_or, set, length, sym, ap, subst, arith}
use Rattle.subfunction_classes.specs.Places.{low_place}
use Rattle.class_tables.specs.Chains.{IsNext, lower_at}
use Rattle.class_tables.proofs.PairChains.{heads_more, next_more}
use Rattle.class_tables.proofs.chains.chain.Goals as goal

pub loop-j-preserved : goal.loop-j-preserved
loop-j-preserved c =
    let cs = c.args.entries.now.numbers in
    let step = 2 ^ c.args.entries.now.rank in
    let half = length cs / 2 in
    let value = lower_at cs step in
    let heads = c.loop-j.heads in
    let next = c.loop-j.next in
    let k = c.loop-j.j - 1 in
    let kl : k < half = omega arith in
    let v : c.pair-lower.result.0 ≡ value k = ap (λ (p : ℕ × ℕ). p.0) c.pair-lower.ensures in
    let b = c.requires.classes (low_place step k) (omega arith) in
    let lt : value k < length heads = omega arith in
    let hs : (d : ℕ) → d < length heads → IsNext value half d (suc k) (get_or heads d 0) =
    λ d l. subst (λ z. IsNext value half d z (get_or heads d 0)) (omega arith) (c.loop-j.invariant.heads d l) in
    record {
      small = omega arith;
      heads = λ d l. let P : ℕ → Type 0 = λ z. d < length (set heads z k) → IsNext value half d k (get_or (set heads z k) d 0) in
          subst P (sym v) (heads_more value half heads k kl lt hs d) l;
      next = λ i l m. let P : ℕ → Type 0 = λ z. IsNext value half (value i) (i + 1) (get_or (set next k (get_or heads z 0)) i 0) in
          subst P (sym v) (next_more value half heads next k (omega arith) lt hs (λ j a b. c.loop-j.invariant.next j (omega arith) b) i l m);
    }

pub returns-clause-next : goal.returns-clause-next
returns-clause-next c = grind arith
