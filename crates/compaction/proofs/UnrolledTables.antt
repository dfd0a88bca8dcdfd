-- Tables kept in strips: how long they are, and what stands at a place.
--     length_unrolled, unrolled_at      a strip for each run; entry a of run i is entry a of the strip that is named there
--     same_by_places      lists with the same entries
use Rattle.std.proofs.Common.{◌≡◌, ℕ, ◌+◌, ◌*◌, ◌<◌, List, length, get_or}
use Rattle.std.proofs.lemmas.List.{ext_get_or}
use Rattle.subfunction_classes.specs.Strips.{AreNamed, unrolled}
use Rattle.subfunction_classes.proofs.StripLengths.{length_named, named_at}
use Rattle.compaction.specs.ValueStrips.{AreStrips}

-- lists with the same entries
pub same_by_places : (xs ys : List ℕ) → length xs ≡ length ys → ((i : ℕ) → i < length xs → get_or xs i 0 ≡ get_or ys i 0) → xs ≡ ys
same_by_places xs ys l h = ext_get_or 0 xs ys l h

-- strips in use are named
abbrev pub named_of : (outer numbers : List ℕ) (len : ℕ) → AreStrips outer numbers len → AreNamed outer numbers len
named_of outer numbers len s = record { count = s.count; whole = s.whole; within = s.within }

-- ---- strips in use

pub length_unrolled : (outer numbers : List ℕ) (len : ℕ) → AreStrips outer numbers len → length (unrolled outer numbers len) ≡ length outer * len
length_unrolled outer numbers len s = length_named outer numbers len (named_of outer numbers len s)

pub unrolled_at : (outer numbers : List ℕ) (len : ℕ) → AreStrips outer numbers len → (i a : ℕ) → i < length outer → a < len →
    get_or (unrolled outer numbers len) (i * len + a) 0 ≡ get_or numbers (get_or outer i 0 * len + a) 0
unrolled_at outer numbers len s = named_at outer numbers len (named_of outer numbers len s)
