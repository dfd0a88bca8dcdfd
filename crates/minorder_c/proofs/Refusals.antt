-- Refusals of calls with a certificate.
--     tables_refused      those of the tables alone
use Rattle.std.proofs.Common.{ℕ, List}
use Rattle.minorder_c.specs.declared.status.Refusal.{Refusal}
use Rattle.minorder_c.specs.declared.status.Refusal.TheVariants.{Shape, Certificate, OutOfMemory, Order, Pairs}
use Rattle.minorder_c.specs.Statuses.{RefusesShape}
use Rattle.minorder_c.specs.Judged.{RefusesText}

pub tables_refused : (shape : Type 0) (text : List ℕ) (r : Refusal) → RefusesShape shape r → RefusesText shape text r
tables_refused shape text Shape h = h
tables_refused shape text Certificate h = absurd h
tables_refused shape text OutOfMemory h = h
tables_refused shape text Order h = absurd h
tables_refused shape text Pairs h = absurd h
