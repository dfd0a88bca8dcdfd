-- What the search of a cover finds.
--     IsSiftedFromFirst cover t P order size      the order sifted from the first one that keeps the pairs, and its size
--     IsStartingManager input m      the diagram under the first order that keeps the pairs, as it is sifted
--     IsSiftedOnce m r      the order after one pass of sifting, and its size
--     IsSiftingOf m s, IsSiftingFor input s      the sifted order, and one of the same functions to bound the search
--     IsFound input f      the best order, the sifted one with its size, and the size under the file order
use Rattle.std.specs.Prelude.{◌≡◌, ℕ, List, sum}
use Rattle.definitions.specs.Levels.{size_under}
use Rattle.definitions.specs.Pairs.{Pair, IsFirstOrder}
use Rattle.definitions.specs.Problems.{TruthTables, functions}
use Rattle.definitions.specs.Sifting.{sifted}
use Rattle.pla_reader.specs.Covers.{NamedCover}
use Rattle.report_texts.specs.Texts.{file_order_levels}
use Rattle.sifting.specs.Managed.{Managed}
use Rattle.report.specs.Bests.{IsBestFor}
use Rattle.report.specs.declared.search_input.SearchInput.{SearchInput}
use Rattle.report.specs.declared.search.Found.{Found}
use Rattle.report.specs.declared.search.Sifting.{Sifting}

-- the order sifted from the first one that keeps the pairs, and its size
pub record IsSiftedFromFirst (cover : NamedCover) (t : TruthTables) (P : List Pair) (order : List ℕ) (size : ℕ) : Type 0 where
  pub start : List ℕ
  pub first : IsFirstOrder cover.inputs P start
  pub is_order : order ≡ sifted t.inputs (functions t) P start
  pub is_size : size ≡ size_under t.inputs (functions t) order

-- the diagram under the first order that keeps the pairs, as it is sifted
pub record IsStartingManager (i : SearchInput) (m : Managed) : Type 0 where
  pub first : IsFirstOrder i.cover.now.inputs i.pairs.now.pairs m.order
  pub functions : m.problem ≡ i.tables.now
  pub pairs : m.pairs ≡ i.pairs.now.pairs

-- the order after one pass of sifting, and its size
pub record IsSiftedOnce (m : Managed) (r : List ℕ × ℕ) : Type 0 where
  pub order : r.0 ≡ sifted m.problem.inputs (functions m.problem) m.pairs m.order
  pub size : r.1 ≡ size_under m.problem.inputs (functions m.problem) r.0

-- the sifted order, its size, and an order of the same functions that keeps the same pairs
pub record IsSiftingOf (m : Managed) (s : Sifting) : Type 0 where
  pub order : s.sifted ≡ sifted m.problem.inputs (functions m.problem) m.pairs m.order
  pub size : s.size ≡ size_under m.problem.inputs (functions m.problem) s.sifted
  pub functions : s.bound.problem ≡ m.problem
  pub pairs : s.bound.pairs ≡ m.pairs

-- the order sifted from the first order that keeps the pairs, its size, and an order of the same functions that keeps the same pairs
pub record IsSiftingFor (i : SearchInput) (s : Sifting) : Type 0 where
  pub sifted : IsSiftedFromFirst i.cover.now i.tables.now i.pairs.now.pairs s.sifted s.size
  pub functions : s.bound.problem ≡ i.tables.now
  pub pairs : s.bound.pairs ≡ i.pairs.now.pairs

-- the best order, with its certificate's cells if asked for, the sifted one with its size, and the size under the file order
pub record IsFound (i : SearchInput) (f : Found) : Type 0 where
  pub best : IsBestFor i.tables.now i.pairs.now.pairs i.certify f.best
  pub sifted : IsSiftedFromFirst i.cover.now i.tables.now i.pairs.now.pairs f.sifted f.sifted_size
  pub file : f.file_size ≡ sum (file_order_levels i.cover.now)
