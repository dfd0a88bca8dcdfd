use Rattle.std.proofs.Common.{◌≡◌, ◌<◌, ℕ, length, slice_index}
use Rattle.edge_walks.proofs.fewer_edges.keeps_edges.Given as goal

abbrev pub invariant-loop-set : goal.invariant-loop-set
invariant-loop-set l = (S : ℕ) → S < l.set →
    (slice_index l.edges.values.now (slice_index l.images S) ≡ slice_index l.edges.values.now S) × (slice_index l.edges.judged.now S < length l.images)
    × (slice_index l.edges.judged.now (slice_index l.images S) ≡ slice_index l.images (slice_index l.edges.judged.now S))
