-- One step of a walk along a point's path.
use Rattle.std.proofs.Common.{◌≡◌, ℕ, suc, ◌<◌, ◌≤◌, ◌/◌, ◌^◌, false, List, length, sym, ap, ◌∙◌, subst, arith, eqb, ne_eqb, bit_and, get_or}
use Rattle.std.specs.Int.{bit_at}
use Rattle.std.proofs.lemmas.List.FromFn.{get_or-map-range_with_len}
use Rattle.std.proofs.Common.{zero-add}
use Rattle.definitions.specs.declared.refs.Ref.{Ref}
use Rattle.definitions.specs.declared.refs.Ref.TheVariants.{Terminal, Place}
use Rattle.definitions.specs.declared.refs.Node.{Node}
use Rattle.definitions.specs.Functions.{Point, bit, point_of}
use Rattle.std.proofs.lemmas.Nat.Bits.{shr_and_one}
use Rattle.std.proofs.lemmas.Option.{slice_get-get_or}
use Rattle.definitions.specs.Diagrams.{IsBefore, AreNodes, child_at, value}
use Rattle.definitions.proofs.Nodes.Paths.{value_place, before_more}
use Rattle.definitions.proofs.Nodes.Appended.{graph_of, diagram_of}

-- how far a ref is from a terminal, at most
abbrev pub rank_of : Ref → ℕ
rank_of (Terminal b) = 0
rank_of (Place k) = suc k

pub rank-before : (k : ℕ) (r : Ref) → IsBefore k r → rank_of r ≤ k
rank-before k (Terminal b) h = omega arith
rank-before k (Place j) h = omega arith

-- the bits of the point with a number
pub bit-point_of : (n k x : ℕ) → x < n → bit (point_of n k) x ≡ eqb (bit_at k x) 1
unfolding point_of
bit-point_of n k x h = get_or-map-range_with_len (λ y. eqb (bit_at k y) 1) 0 n x x false h (zero-add x)

-- the child that the code takes
pub child_high : (n k : ℕ) (node : Node) → node.variable < n → bit_and (k / 2 ^ node.variable) 1 ≡ 1 → node.high ≡ child_at (point_of n k) node
child_high n k node h e = grind (arith, bit-point_of, shr_and_one)

pub child_low : (n k : ℕ) (node : Node) → node.variable < n → (bit_and (k / 2 ^ node.variable) 1 ≡ 1 → ⊥) → node.low ≡ child_at (point_of n k) node
child_low n k node h ne = search (bit-point_of, ne_eqb, shr_and_one)

-- a step keeps the value
pub value_step : (n : ℕ) (nodes : List Node) → AreNodes n nodes → (p : Point) (k : ℕ) (d : Node) → k < length nodes →
    value nodes (child_at p (get_or nodes k d)) p ≡ value nodes (Place k) p
value_step n nodes fit p k d h = sym (value_place n (graph_of nodes) (diagram_of n nodes fit) p k (get_or nodes k d) (slice_get-get_or nodes k d h))

-- the child is before its parent
pub step_before : (n : ℕ) (nodes : List Node) → AreNodes n nodes → (p : Point) (k : ℕ) (d : Node) → k < length nodes →
    IsBefore k (child_at p (get_or nodes k d))
step_before n nodes fit p k d h = grind (arith, slice_get-get_or)

-- a step of the walk: from a place to a child before it, of the same value
pub walk_step : (n : ℕ) (nodes : List Node) → AreNodes n nodes → (p : Point) (k : ℕ) (d : Node) (here result : Ref) → here ≡ Place k →
    IsBefore (length nodes) here → result ≡ child_at p (get_or nodes k d) →
    IsBefore (length nodes) result × (rank_of result < rank_of here) × (value nodes result p ≡ value nodes here p)
walk_step n nodes fit p k d here result e before f =
    let lt : IsBefore (length nodes) (Place k) = subst (IsBefore (length nodes)) e before in
    let back = subst (IsBefore k) (sym f) (step_before n nodes fit p k d lt) in
    let small = rank-before k result back in
    let deep = ap rank_of e in (
      before_more k (length nodes) result (omega arith) back,
      omega arith,
      ap (λ r. value nodes r p) f
          ∙ value_step n nodes fit p k d lt ∙ ap (λ r. value nodes r p) (sym e),
    )

pub node_small : (n : ℕ) (nodes : List Node) → AreNodes n nodes → (k : ℕ) (d : Node) (here : Ref) → here ≡ Place k →
    IsBefore (length nodes) here → (get_or nodes k d).variable < n
node_small n nodes fit k d here e before = grind (arith, slice_get-get_or)
