use Rattle.std.proofs.Common.{◌≡◌, ◌<◌, ◌≤◌, ◌+◌, ◌*◌, ◌/◌, ◌^◌, ℕ, List, Bor, Option, IfSome, length, get_or, sym, ap, ◌∙◌, subst, arith}
use Rattle.subfunction_classes.specs.PairTables.{IsPaired}
use Rattle.subfunction_classes.proofs.BlockPlaces.{block_pair}
use Rattle.pair_numbering.specs.Strips.{strips_at}
use Rattle.pair_numbering.proofs.EntryPlaces.{laid_blocks, laid_few, laid_high, laid_inside, laid_low, laid_named, laid_paired}
use Rattle.pair_numbering.proofs.entries.EntryPairs.block.Goals as goal
use Rattle.pair_numbering.proofs.entries.EntryPairs.block.Goals.{in-None, in-Some}

pub bounds-names-block : goal.bounds-names-block
bounds-names-block c =
    subst (λ (ns : Option (Bor (List (ℕ × ℕ)))). IfSome ns (λ r. c.args.block < length r.now)) c.in-Some.is
    (laid_named (λ r. r.now) c.self.inside.names c.self.inside.numbers.now c.self.inside.rank c.args.block c.self.invariant.0
    (subst (λ t. c.args.block < length t.numbers / 2 / 2 ^ t.rank) (sym c.self.view_is) c.requires))

pub offset_bounds-names-block : goal.offset_bounds-names-block
offset_bounds-names-block c =
    let b = laid_blocks (λ r. r.now) c.self.inside.names c.self.inside.numbers.now c.self.inside.rank c.args.block c.self.invariant.0
    (subst (λ t. c.args.block < length t.numbers / 2 / 2 ^ t.rank) (sym c.self.view_is) c.requires) in
    omega (arith, b)

pub bounds-names-block-in-Some : goal.bounds-names-block-in-Some
bounds-names-block-in-Some c =
    subst (λ (ns : Option (Bor (List (ℕ × ℕ)))). IfSome ns (λ r. c.args.block < length r.now)) c.in-Some.is
    (laid_named (λ r. r.now) c.self.inside.names c.self.inside.numbers.now c.self.inside.rank c.args.block c.self.invariant.0
    (subst (λ t. c.args.block < length t.numbers / 2 / 2 ^ t.rank) (sym c.self.view_is) c.requires))

pub strip_at-requires-clause-few : goal.strip_at-requires-clause-few
strip_at-requires-clause-few c = laid_few (λ r. r.now) c.self.inside.names c.self.inside.numbers.now c.self.inside.rank c.self.invariant.0

pub strip_at-requires-clause-inside : goal.strip_at-requires-clause-inside
strip_at-requires-clause-inside c =
    let at : c.match-self.low ≡ strips_at (λ r. r.now) c.self.inside.names c.args.block = elim c.match-self.branch [
      | in-None w ↦ w.low-is ∙ sym (ap (λ ns. strips_at (λ r. r.now) ns c.args.block) w.in-None.is)
      | in-Some w ↦ w.low-is ∙ sym (ap (λ ns. strips_at (λ r. r.now) ns c.args.block) w.in-Some.is)
    ] in
    subst (λ (p : ℕ × ℕ). p.0 * c.self.inside.step + c.self.inside.step ≤ length c.self.inside.numbers.now) (sym at)
    (subst (λ s. (strips_at (λ r. r.now) c.self.inside.names c.args.block).0 * s + s ≤ length c.self.inside.numbers.now) (sym c.self.invariant.1)
    (laid_inside (λ r. r.now) c.self.inside.names c.self.inside.numbers.now c.self.inside.rank c.args.block c.self.invariant.0
    (subst (λ t. c.args.block < length t.numbers / 2 / 2 ^ t.rank) (sym c.self.view_is) c.requires)).0)

pub strip_at-requires-2-clause-few : goal.strip_at-requires-2-clause-few
strip_at-requires-2-clause-few c = laid_few (λ r. r.now) c.self.inside.names c.self.inside.numbers.now c.self.inside.rank c.self.invariant.0

pub strip_at-requires-2-clause-inside : goal.strip_at-requires-2-clause-inside
strip_at-requires-2-clause-inside c =
    let at : c.match-self.low ≡ strips_at (λ r. r.now) c.self.inside.names c.args.block = elim c.match-self.branch [
      | in-None w ↦ w.low-is ∙ sym (ap (λ ns. strips_at (λ r. r.now) ns c.args.block) w.in-None.is)
      | in-Some w ↦ w.low-is ∙ sym (ap (λ ns. strips_at (λ r. r.now) ns c.args.block) w.in-Some.is)
    ] in
    subst (λ (p : ℕ × ℕ). p.1 * c.self.inside.step + c.self.inside.step ≤ length c.self.inside.numbers.now) (sym at)
    (subst (λ s. (strips_at (λ r. r.now) c.self.inside.names c.args.block).1 * s + s ≤ length c.self.inside.numbers.now) (sym c.self.invariant.1)
    (laid_inside (λ r. r.now) c.self.inside.names c.self.inside.numbers.now c.self.inside.rank c.args.block c.self.invariant.0
    (subst (λ t. c.args.block < length t.numbers / 2 / 2 ^ t.rank) (sym c.self.view_is) c.requires)).1)

pub returns-clause-pairs : goal.returns-clause-pairs
returns-clause-pairs c i h =
    let inside = subst (λ t. c.args.block < length t.numbers / 2 / 2 ^ t.rank) (sym c.self.view_is) c.requires in
    let m : i < 2 ^ c.self.inside.rank = subst (λ t. i < 2 ^ t.rank) (sym c.self.view_is) h in
    let p = subst (λ t. IsPaired t.numbers t.rank) c.self.view_is
    (laid_paired (λ r. r.now) c.self.inside.names c.self.inside.numbers.now c.self.inside.rank c.self.invariant.0) in
    let at : c.match-self.low ≡ strips_at (λ r. r.now) c.self.inside.names c.args.block = elim c.match-self.branch [
      | in-None w ↦ w.low-is ∙ sym (ap (λ ns. strips_at (λ r. r.now) ns c.args.block) w.in-None.is)
      | in-Some w ↦ w.low-is ∙ sym (ap (λ ns. strips_at (λ r. r.now) ns c.args.block) w.in-Some.is)
    ] in
    let n = subst (λ s. i < s) (sym c.self.invariant.1) m in
    let low = c.strip_at.ensures.entries i n
    ∙ ap (λ s. get_or c.self.inside.numbers.now (c.match-self.low.0 * s + i) 0) c.self.invariant.1
    ∙ ap (λ (q : ℕ × ℕ). get_or c.self.inside.numbers.now (q.0 * 2 ^ c.self.inside.rank + i) 0) at
    ∙ laid_low (λ r. r.now) c.self.inside.names c.self.inside.numbers.now c.self.inside.rank c.args.block i c.self.invariant.0 inside m
    ∙ ap (λ t. get_or t.numbers (c.args.block * (2 * 2 ^ t.rank) + i) 0) c.self.view_is in
    let high = c.strip_at-2.ensures.entries i n
    ∙ ap (λ s. get_or c.self.inside.numbers.now (c.match-self.low.1 * s + i) 0) c.self.invariant.1
    ∙ ap (λ (q : ℕ × ℕ). get_or c.self.inside.numbers.now (q.1 * 2 ^ c.self.inside.rank + i) 0) at
    ∙ laid_high (λ r. r.now) c.self.inside.names c.self.inside.numbers.now c.self.inside.rank c.args.block i c.self.invariant.0 inside m
    ∙ ap (λ t. get_or t.numbers (c.args.block * (2 * 2 ^ t.rank) + i + 2 ^ t.rank) 0) c.self.view_is in
    (λ k. (low k, high k)) ∙ sym (block_pair c.args.self.now.numbers c.args.self.now.rank c.args.block i p.whole c.requires h)
