-- The parts of a store's functions: its pieces that aren't outputs.
--     IsForTerms b terms, IsSourceFor b source      parts that are made of terms, and of a source
--     HasPart s q, KnowsRoots s      the parts and the outputs whose ids a session knows
--     KnowsParts store s      a session of a store that knows the ids of all parts
--     shares_union b output first count      the union of some parts of an output
--     AreJobsOf store workers jobs      a job for each worker
--     HasShare s workers k, IsEndOf store workers k end, AreEndsOf store workers ends      what a worker builds, and how workers end
--     AreJoinedEnds store end      how all workers together end
--     KeepsFrom source s s', Continues source s s'      a session that builds from a source; from tables it makes only nodes of subfunctions
--     HasHalf from k s, AreHalves from workers jobs      sessions that know what another knew, with shares of its stake
--     IsShareOf source from k s, AreSharesOf source from workers ends      sessions that go on from those of HasHalf
--     IsOpened end s full, session_of end      the session of an end
--     MayBeFull source from e      in building from tables, the store's only session meets no full store if it made only nodes of subfunctions
use Rattle.std.specs.Prelude.{◌≡◌, ◌≢◌, ℕ, ◌+◌, ◌*◌, ◌%◌, ◌<◌, ◌≤◌, nat_lt, if◌then◌else◌, Bool, MatchBool, Some, Result, Ok, Err, List, length, slice_index, slice_get}
use Rattle.std.specs.List.{list_any, range_with_len}
use Rattle.definitions.specs.declared.terms.Term.{Term}
use Rattle.definitions.specs.Functions.{Function}
use Rattle.definitions.specs.Problems.{TruthTables, outputs_of}
use Rattle.unique_table.specs.declared.plan.Plan.{Plan}
use Rattle.unique_table.specs.declared.plan.PieceKind.{PieceKind}
use Rattle.unique_table.specs.declared.plan.PieceKind.TheVariants.{Restrictions, Products}
use Rattle.unique_table.specs.Plans.{order_of, products_of, top_variables, piece_function}
use Rattle.unique_table.specs.declared.session.Stake.{Stake}
use Rattle.unique_table.specs.Sessions.{StoreId, Knowledge, Follows, HasPiece, Knows, IsAlone, depth_in}
use Rattle.unique_table.specs.Stakes.{IsNoLess}
use Rattle.dd_builder.specs.declared.parts.Source.{Source}
use Rattle.dd_builder.specs.declared.parts.Source.TheVariants.{Tables, Terms}
use Rattle.dd_builder.specs.declared.workers.BuildJob.{BuildJob}
use Rattle.dd_builder.specs.declared.errors.BuildError.{BuildError}
use Rattle.dd_builder.specs.declared.errors.BuildError.TheVariants.{StoreFull, OutOfMemory}
use Rattle.dd_builder.specs.Building.{KnowsFull, IsForTables}
use Rattle.dd_builder.specs.Subfunctions.{KeepsSubfunctions, MadeSubfunctions}

-- the parts are made of terms
abbrev pub AreOfTerms : PieceKind → Type 0
AreOfTerms Restrictions = ⊥
AreOfTerms (Products terms) = Unit {0}

-- the parts are made of terms that stand for the same products
abbrev pub AreTermsOfKind : TruthTables → List Term → PieceKind → Type 0
AreTermsOfKind t terms Restrictions = ⊥
AreTermsOfKind t terms (Products own) = products_of t terms ≡ products_of t own.value

-- the store was made with parts of terms that stand for the same products
abbrev pub IsForTerms : Plan → List Term → Type 0
IsForTerms b terms = AreTermsOfKind b.problem.value terms b.kind

-- the store was made with parts of the source
abbrev pub IsSourceFor : Plan → Source → Type 0
IsSourceFor b (Tables tables) = IsForTables b tables.now
IsSourceFor b (Terms terms) = IsForTerms b terms.now

-- the highest level on which nodes of parts stand: that below the variables that are fixed
abbrev pub first_level : PieceKind → List ℕ → ℕ
first_level Restrictions order = length (top_variables order)
first_level (Products terms) order = 0

abbrev pub part_level : Plan → ℕ
part_level b = first_level b.kind (order_of b)

-- the session knows the id of a part, which stands at its level or below it
pub record HasPart (s : Knowledge) (q : ℕ) : Type 0 where
  pub id : ℕ
  pub piece : HasPiece s q id
  pub known : Knows s id
  pub level : part_level s.store.plan ≤ depth_in s id

-- a session of the store, which knows all parts
pub record KnowsParts (store : StoreId) (s : Knowledge) : Type 0 where
  pub same : s.store ≡ store
  pub parts : (q : ℕ) → q < s.store.plan.roots → HasPart s q

-- the session knows the ids of all outputs
abbrev pub KnowsRoots : Knowledge → Type 0
KnowsRoots s = (j : ℕ) → j < outputs_of s.store.plan.problem.value → slice_index s.pieces (s.store.plan.roots + j) ≢ 0

-- 1 where one of an output's parts by terms is 1, of `count` parts from the part `first` on
unfoldable pub shares_union : Plan → ℕ → ℕ → ℕ → Function
shares_union b output first count p = list_any (λ share. piece_function b (output * 64 + share) p)
    (range_with_len first count)

-- in building from tables, a session makes only nodes of subfunctions
abbrev pub KeepsFrom : Source → Knowledge → Knowledge → Type 0
KeepsFrom (Tables tables) s s' = KeepsSubfunctions s s'
KeepsFrom (Terms terms) s s' = Unit {0}

-- a session that goes on in building from a source
pub record Continues (source : Source) (s s' : Knowledge) : Type 0 where
  pub follows : Follows s s'
  pub kept : KeepsFrom source s s'

-- a stake that was halved k times
abbrev pub halved : ℕ → Stake → Stake
halved k s = record { units = s.units; halvings = s.halvings + k }

-- how often a stake is halved for worker k + 1: once for each worker so far, but the last one has the rest
abbrev pub halvings_for : ℕ → ℕ → ℕ
halvings_for workers k = if nat_lt (k + 1) workers then k + 1 else k

-- a session that knows what another knew, whose stake was halved k times
pub record HasHalf (from : Knowledge) (k : ℕ) (s : Knowledge) : Type 0 where
  pub store : s.store ≡ from.store
  pub stake : s.stake ≡ halved k from.stake
  pub seen : s.seen ≡ from.seen
  pub made : s.made ≡ from.made

-- a session that has no less than a stake halved k times, and goes on from another in building from a source
pub record IsShareOf (source : Source) (from : Knowledge) (k : ℕ) (s : Knowledge) : Type 0 where
  pub stake : IsNoLess (halved k from.stake) s.stake
  pub kept : KeepsFrom source from s

-- a job for each worker, in their order, each with a session of the store
pub record AreJobsOf (store : StoreId) (workers : ℕ) (jobs : List BuildJob) : Type 0 where
  pub count : length jobs ≡ workers
  pub sessions : (k : ℕ) (job : BuildJob) → slice_get jobs k ≡ Some job → job.session.store ≡ store
  pub numbers : (k : ℕ) (job : BuildJob) → slice_get jobs k ≡ Some job → job.worker ≡ k + 1

-- each job's session has a share of the stake of the session that was split
abbrev pub AreHalves : Knowledge → ℕ → List BuildJob → Type 0
AreHalves from workers jobs = (k : ℕ) (job : BuildJob) → slice_get jobs k ≡ Some job →
    HasHalf from (halvings_for workers k) job.session

-- the session knows the parts whose number leaves the remainder k when divided by the number of workers
abbrev pub HasShare : Knowledge → ℕ → ℕ → Type 0
HasShare s workers k = (q : ℕ) → q < s.store.plan.roots → q % workers ≡ k → HasPart s q

-- how worker k + 1 ends: with its share of the parts, or knowing that the store is full
abbrev pub IsEndOf : StoreId → ℕ → ℕ → Result Knowledge Knowledge → Type 0
IsEndOf store workers k (Ok s) = (s.store ≡ store) × HasShare s workers k
IsEndOf store workers k (Err s) = (s.store ≡ store) × KnowsFull s

-- each worker's end, in their order
abbrev pub AreEndsOf : StoreId → ℕ → List (Result Knowledge Knowledge) → Type 0
AreEndsOf store workers ends = (k : ℕ) (end : Result Knowledge Knowledge) → slice_get ends k ≡ Some end →
    IsEndOf store workers k end

-- the session of an end
abbrev pub session_of : Result Knowledge Knowledge → Knowledge
session_of (Ok s) = s
session_of (Err s) = s

-- the session of an end, and whether it met a full store
abbrev pub IsOpened : Result Knowledge Knowledge → Knowledge → Bool → Type 0
IsOpened end s full = MatchBool full (end ≡ Err s) (end ≡ Ok s)

-- the session of each end goes on from the session that was split, with its share of the stake
abbrev pub AreSharesOf : Source → Knowledge → ℕ → List (Result Knowledge Knowledge) → Type 0
AreSharesOf source from workers ends = (k : ℕ) (end : Result Knowledge Knowledge) → slice_get ends k ≡ Some end →
    IsShareOf source from (halvings_for workers k) (session_of end)

-- how all workers together end: with all parts, or one of them knowing that the store is full
abbrev pub AreJoinedEnds : StoreId → Result Knowledge Knowledge → Type 0
AreJoinedEnds store (Ok s) = KnowsParts store s
AreJoinedEnds store (Err s) = (s.store ≡ store) × KnowsFull s

-- in building from tables, the only session of a store meets no full store if it made only nodes of subfunctions
abbrev pub MayBeFull : Source → Knowledge → BuildError → Type 0
MayBeFull (Tables tables) from (StoreFull s) = IsAlone from → MadeSubfunctions from → ⊥
MayBeFull (Tables tables) from OutOfMemory = Unit {0}
MayBeFull (Terms terms) from e = Unit {0}
