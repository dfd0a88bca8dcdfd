-- Ids that a session makes.
--     Makes s s' result f      a session goes on, and either makes the id of a function or meets a full store
use Rattle.std.specs.Prelude.{ℕ, Result, IfOk, OnErr}
use Rattle.definitions.specs.Functions.{Function}
use Rattle.unique_table.specs.declared.store.StoreFull.{StoreFull}
use Rattle.unique_table.specs.Sessions.{Knowledge, Follows, Means}
use Rattle.dd_builder.specs.Building.{KnowsFull}

-- a session goes on from s to s', and returns the id of f, or knows then that the store is full
pub record Makes (s s' : Knowledge) (result : Result ℕ StoreFull) (f : Function) : Type 0 where
  pub follows : Follows s s'
  pub function : IfOk result (λ id. Means s' id f)
  pub full : OnErr result (KnowsFull s')
