-- The masks of a term while it is read.
--     Fits n m term      the masks of a term of n inputs and m outputs have no bits for others
--     literal_at masks i, output_at masks j      what the masks hold of an input and an output
--     ReadsInput old i c new, ReadsOutput old j c new      new is old with the meaning of a character at input i, or at output j
use Rattle.std.specs.Prelude.{◌≡◌, ◌≢◌, ℕ, ◌<◌, ◌^◌, ◌==◌, Bool, if◌then◌else◌, Option, Some, None, bit_and}
use Rattle.std.specs.Int.{bit_at}
use Rattle.definitions.specs.declared.Term.{Term}
use Rattle.pla_reader.specs.declared.terms.Masks.{Masks}
use Rattle.pla_reader.specs.Covers.{literal_of, in_on_set}

-- the masks of a term of n inputs and m outputs have no bits for other inputs and outputs
pub record Fits (n m : ℕ) (term : Term) : Type 0 where
  pub care : term.care < 2 ^ n
  pub outs : term.outs < 2 ^ m

-- the literal of input i, and whether output j has the term in its ON-set
abbrev pub literal_at : Masks → ℕ → Option Bool
literal_at masks i = if bit_at masks.care i == 1 then Some (bit_at masks.value i == 1) else None

abbrev pub output_at : Masks → ℕ → Bool
output_at masks j = bit_at masks.outs j == 1

-- new is old with the literal of a character at input i
pub record ReadsInput (old : Masks) (i c : ℕ) (new : Masks) : Type 0 where
  pub here : literal_at new i ≡ literal_of c
  pub care : (k : ℕ) → k ≢ i → bit_at new.care k ≡ bit_at old.care k
  pub value : (k : ℕ) → k ≢ i → bit_at new.value k ≡ bit_at old.value k
  pub outs : new.outs ≡ old.outs
  pub within : bit_and old.value old.care ≡ old.value → bit_and new.value new.care ≡ new.value
  pub small : (n : ℕ) → i < n → old.care < 2 ^ n → new.care < 2 ^ n

-- new is old with the meaning of a character at output j
pub record ReadsOutput (old : Masks) (j c : ℕ) (new : Masks) : Type 0 where
  pub here : output_at new j ≡ in_on_set c
  pub others : (k : ℕ) → k ≢ j → bit_at new.outs k ≡ bit_at old.outs k
  pub care : new.care ≡ old.care
  pub value : new.value ≡ old.value
  pub small : (m : ℕ) → j < m → old.outs < 2 ^ m → new.outs < 2 ^ m
