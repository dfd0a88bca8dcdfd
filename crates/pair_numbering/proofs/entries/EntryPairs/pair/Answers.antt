use Rattle.std.proofs.Common.{◌≡◌, ◌+◌, ◌-◌, ◌*◌, ◌/◌, ◌%◌, ◌^◌, get_or, ap, ◌∙◌, arith, bit_and}
use Rattle.std.proofs.Math.Nat.{mod-lt}
use Rattle.std.proofs.lemmas.Nat.{and_mask, one_shl, pow_pos}
use Rattle.subfunction_classes.specs.Places as places
use Rattle.subfunction_classes.proofs.Index.{pair_listed}
use Rattle.pair_numbering.proofs.EntryPlaces.{laid_paired, laid_rank, pair_block}
use Rattle.pair_numbering.proofs.entries.EntryPairs.pair.Goals as goal

pub overflow_shr-j : goal.overflow_shr-j
overflow_shr-j c =
    omega (arith, laid_rank (λ r. r.now) c.self.inside.names c.self.inside.numbers.now c.self.inside.rank c.self.invariant.0)

pub overflow_shl-i : goal.overflow_shl-i
overflow_shl-i c =
    omega (arith, laid_rank (λ r. r.now) c.self.inside.names c.self.inside.numbers.now c.self.inside.rank c.self.invariant.0)

pub block-block-requires : goal.block-block-requires
block-block-requires c = grind (arith, pair_block, laid_paired)

pub returns : goal.returns
returns c =
    let rank = c.args.self.now.rank in
    let e : c.self.inside.rank ≡ rank = ap (λ t. t.rank) c.self.view_is in
    let r = laid_rank (λ r. r.now) c.self.inside.names c.self.inside.numbers.now c.self.inside.rank c.self.invariant.0 in
    let i : bit_and c.args.j (1 * 2 ^ c.self.inside.rank % 18446744073709551616 - 1) ≡ c.args.j % 2 ^ rank =
    ap (λ s. bit_and c.args.j (s - 1)) (one_shl c.self.inside.rank 64 (omega arith)) ∙ and_mask c.args.j c.self.inside.rank
    ∙ ap (λ k. c.args.j % 2 ^ k) e in
    let b = ap (λ k. c.args.j / 2 ^ k) e in
    ap (λ k. (get_or c.block-block.result.low.now k 0, get_or c.block-block.result.high.now k 0)) i
    ∙ c.block-block.ensures.pairs (c.args.j % 2 ^ rank) (mod-lt c.args.j (pow_pos rank))
    ∙ ap (λ z. get_or (places.pairs c.args.self.now.numbers (2 ^ rank)) (z * 2 ^ rank + c.args.j % 2 ^ rank) (0, 0)) b
    ∙ ap (λ z. get_or (places.pairs c.args.self.now.numbers (2 ^ rank)) z (0, 0)) (omega arith)
    ∙ pair_listed c.args.self.now.numbers (2 ^ rank) c.args.j c.requires
