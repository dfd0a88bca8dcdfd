-- Refs by number.
--     ref_named c      the ref with a number: 0 and 1 are the terminals, k + 2 is the node at place k
use Rattle.std.specs.Prelude.{ℕ, zero, suc, false, true}
use Rattle.definitions.specs.declared.refs.Ref.{Ref}
use Rattle.definitions.specs.declared.refs.Ref.TheVariants.{Terminal, Place}

-- the ref with a number: 0 and 1 are the terminals, k + 2 is the node at place k
unfoldable pub ref_named : ℕ → Ref
ref_named zero = Terminal false
ref_named (suc zero) = Terminal true
ref_named (suc (suc k)) = Place k
