-- What holds where something is known.
--     with_read      what holds for the bytes of a file that was read holds where they are known
--     with_known      what follows from what is known
use Rattle.std.proofs.Common.{ℕ, ◌≤◌, List, length, Option, Some, None, IfSome}
use Rattle.pla_reader.specs.Answering.{longest}
use Rattle.pla_reader.specs.Covers.{NamedCover}
use Rattle.pla_reader.specs.Reading.{Reads}

pub with_read : (known : Option (List ℕ)) (cover : NamedCover) (P : List ℕ → Type 0) →
    IfSome known (λ bytes. (length bytes ≤ longest) × Reads bytes cover) → ((bytes : List ℕ) → Reads bytes cover → P bytes) → IfSome known P
with_read None cover P answer all = record {}
with_read (Some bytes) cover P answer all = all bytes answer.1

pub with_known : {A : Type 0} (known : Option A) (Q P : A → Type 0) → IfSome known Q → ((a : A) → Q a → P a) → IfSome known P
with_known None Q P has all = record {}
with_known (Some a) Q P has all = all a has
