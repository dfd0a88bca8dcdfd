-- What a walk finds.
--     FailsAmong e      the edges of e that fail
--     FailsInBlock e set y, FailsAt p, FailsInUpper p      those into a block of sets; into the one at which a walk stands; into its upper half
--     AreEnough e fewer      fewer edges, of which one fails if one of e does
--     AreAllGuides e guides      exchanges by which sets and their images lead to each other
--     LeadsOnIn e T, LeadsToFirst e first T      with each edge into T that fails, one into a greater set does; one into the first does
--     CanStart root tops y end      tasks may begin at the empty set's table and those of sets of variables from y on
use Rattle.std.specs.Prelude.{◌≡◌, ℕ, ◌+◌, ◌-◌, ◌^◌, ◌<◌, ◌≤◌, List}
use Rattle.std.specs.List.{All}
use Rattle.definitions.specs.Problems.{functions}
use Rattle.edge_walks.specs.declared.position.Edges.{Edges}
use Rattle.edge_walks.specs.declared.position.Position.{Position}
use Rattle.edge_walks.specs.Blocks.{StandsAt}
use Rattle.edge_walks.specs.Edges.{EdgeFails, FailsWithin}
use Rattle.symmetries.specs.Orbits.{ExchangeOf}
use Rattle.edge_walks.specs.FewerEdges.{AreFewer, AreGuides, LeadsOn, LeadsTo}
use Rattle.edge_walks.specs.Tables.{TableOf}

-- an edge of e fails
abbrev pub FailsAmong : Edges → ℕ → ℕ → Type 0
FailsAmong e = EdgeFails e.problem.now.inputs (functions e.problem.now) e.values.now e.judged.now

-- an edge of e into one of the 2 ^ y sets from `set` on fails
abbrev pub FailsInBlock : Edges → ℕ → ℕ → ℕ → ℕ → Type 0
FailsInBlock e = FailsWithin e.problem.now.inputs (functions e.problem.now) e.values.now e.judged.now

-- an edge into one of the sets at which the walk stands fails
abbrev pub FailsAt : Position → ℕ → ℕ → Type 0
FailsAt p = FailsInBlock p.edges p.table.now.set p.free

-- an edge into one of those of them that have the highest free variable fails
abbrev pub FailsInUpper : Position → ℕ → ℕ → Type 0
FailsInUpper p = FailsInBlock p.edges (p.table.now.set + 2 ^ (p.free - 1)) (p.free - 1)

-- with each edge into a set that fails, one into a greater set does
abbrev pub LeadsOnIn : Edges → ℕ → Type 0
LeadsOnIn e = LeadsOn e.problem.now.inputs (functions e.problem.now) e.values.now e.judged.now

-- the edges that are judged, but for some into sets from which others that fail lead on
abbrev pub AreEnough : Edges → List ℕ → Type 0
AreEnough e = AreFewer (LeadsOnIn e) e.judged.now

-- with each edge into T that fails, one into `first` does
abbrev pub LeadsToFirst : Edges → ℕ → ℕ → Type 0
LeadsToFirst e first T = (T < 2 ^ e.problem.now.inputs) × LeadsTo e.problem.now.inputs (functions e.problem.now) e.values.now e.judged.now T first

-- sets and their images lead to each other
abbrev pub AreAllGuides : Edges → List ExchangeOf → Type 0
AreAllGuides e = All (λ g. AreGuides e.problem.now.inputs (functions e.problem.now) e.values.now e.judged.now g.images)

-- tasks may begin at the table of the empty set and those of sets of variables from y on, each at the sets that have the same `end` highest variables
pub record CanStart (root : Position) (tops : List TableOf) (y end : ℕ) : Type 0 where
  pub empty : root.table.now.set ≡ 0
  pub whole : root.free ≡ root.edges.problem.now.inputs
  pub within : end ≤ root.free
  pub most : end ≤ 6
  pub each : All (StandsAt root.edges.problem.now y) tops
  pub variable : y < root.free
  pub above : root.free - end ≤ y
