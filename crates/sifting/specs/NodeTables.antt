-- The nodes of a level in the making, each once, and slots by which they are found.
--     home_of homes c      the slot at which the search for a node begins, from 0 to `homes`
--     HasNumber base count slot number, IsFree base count slot      a slot's value is `base` plus a number below `count`; it is not
--     IsFreeSlot      the first free slot from a home on, or the end of the slots
--     IsSet slots slots' place slot      a slot is set
--     IsNodeTable t      each node is in a slot behind taken ones
--     Inserted d keys keys' p i      an element is p at place i, and the others are as they were
use Rattle.std.specs.Prelude.{◌≡◌, ◌≢◌, ℕ, ◌+◌, ◌*◌, ◌/◌, ◌%◌, ◌^◌, ◌<◌, ◌≤◌, ◌⊎◌, List, length, slice_index, get_or}
use Rattle.sifting.specs.Leveled.{Children, at, branching}
use Rattle.sifting.specs.declared.node_table.NodeTable.{NodeTable}

-- the slot at which the search for a node begins: a hash, the high half of the product with a large odd number
unfoldable pub home_of : ℕ → Children → ℕ
home_of homes c = (c.0 * 2 ^ 20 + c.1) * 11400714819323198485 % 2 ^ 64 / 2 ^ 32 * homes / 2 ^ 32

-- a slot's value is the base plus the number of one of `count` nodes
abbrev pub HasNumber : ℕ → ℕ → ℕ → ℕ → Type 0
HasNumber base count slot number = (number < count) × (slot ≡ base + number)

-- a slot is free: its value less the base is no number below `count`
abbrev pub IsFree : ℕ → ℕ → ℕ → Type 0
IsFree base count slot = (slot < base) ⊎ (base + count ≤ slot)

-- the node with this number in the list is the given one
abbrev pub Finds : List Children → Children → ℕ → Type 0
Finds nodes c number = (number < length nodes) × (at nodes number ≡ c)

-- the first free slot from a home on, or the end of the slots, behind slots with other nodes
pub record IsFreeSlot (slots : List ℕ) (base : ℕ) (nodes : List Children) (c : Children) (home slot : ℕ) : Type 0 where
  pub from : home ≤ slot
  pub within : slot ≤ length slots
  pub free : slot < length slots → IsFree base (length nodes) (slice_index slots slot)
  pub passed : (t : ℕ) → home ≤ t → t < slot →
      (k : ℕ) × HasNumber base (length nodes) (slice_index slots t) k × (at nodes k ≢ c)

-- the slots after one was set; it may be the slot behind all others, which is then added
pub record IsSet (slots slots' : List ℕ) (place slot : ℕ) : Type 0 where
  pub grows : length slots ≤ length slots'
  pub within : place < length slots'
  pub here : slice_index slots' place ≡ slot
  pub others : (t : ℕ) → t < length slots → t ≢ place → slice_index slots' t ≡ slice_index slots t

-- node k is in a slot behind taken ones
abbrev pub HasSlot : List ℕ → ℕ → ℕ → List Children → ℕ → Type 0
HasSlot slots homes base nodes k =
    (t : ℕ) × (home_of homes (at nodes k) ≤ t) × (t < length slots) × (slice_index slots t ≡ base + k)
    × ((u : ℕ) → home_of homes (at nodes k) ≤ u → u < t → (i : ℕ) × HasNumber base (length nodes) (slice_index slots u) i)

-- each node is in a slot behind taken ones, and those with two different children are counted
pub record IsNodeTable (t : NodeTable) : Type 0 where
  pub spread : t.homes ≤ length t.slots.items
  pub few : t.homes ≤ 2 ^ 32
  pub slotted : (k : ℕ) → k < length t.nodes.items → HasSlot t.slots.items t.homes t.base t.nodes.items k
  pub counted : t.count ≡ branching t.nodes.items

-- an element is p at place i, and the others are as they were
pub record Inserted {K : Type 0} (d : K) (keys keys' : List K) (p : K) (i : ℕ) : Type 0 where
  pub there : i < length keys'
  pub here : get_or keys' i d ≡ p
  pub kept : (j : ℕ) → j < length keys → get_or keys' j d ≡ get_or keys j d
  pub grows : length keys ≤ length keys'
  pub few : length keys' ≤ length keys + 1
  pub fresh : (j : ℕ) → j < length keys' → (j < length keys) ⊎ (j ≡ i)
  pub once : ((j k : ℕ) → j < length keys → k < length keys → get_or keys j d ≡ get_or keys k d → j ≡ k) → (j k : ℕ) → j < length keys' →
      k < length keys' → get_or keys' j d ≡ get_or keys' k d → j ≡ k
