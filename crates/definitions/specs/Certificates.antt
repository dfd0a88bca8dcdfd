-- Certificates that no order has fewer nodes, and the checker's verdict.
--     Certificate, Cell      the parts of a certificate
--     lower_bound n F cert mask, set_value n F cert mask      a lower bound on the nodes above a set; the value that a certificate gives a set
--     IsGood n F cert      what the checker accepts
--     Reason, Applies n F cert reason, IsFirstReason n F cert reason      why a certificate is not good; the first reason that applies
--     certificate_of n F P order, IsCertOf n F P cert      the certificate that `minorder` writes
use Rattle.std.specs.Prelude.{◌≡◌, ◌≢◌, ℕ, ◌+◌, ◌-◌, ◌^◌, ◌≤◌, ◌<◌, ◌&&◌, if◌then◌else◌, List, [], ◌∷◌, length, map, IsTrue, IsFalse, nat_eq, nat_lt}
use Rattle.std.specs.List.{All, Contains, find, filter, sum, range_with_len}
use Rattle.std.specs.Ordering.{nat_cmp}
use Rattle.std.specs.Cmp.Lexicographic.{slice_cmp}
use Rattle.std.specs.declared.cmp.Ordering.TheVariants.{Less}
use Rattle.std.specs.Option.{option_map_or}
use Rattle.definitions.specs.Functions.{Function}
use Rattle.definitions.specs.Orders.{IsOrder, has, members}
use Rattle.definitions.specs.Pairs.{Pair, keeps, Keeps, is_lawful, sorted_pairs}
use Rattle.definitions.specs.Levels.{level_counts, size_under}
use Rattle.definitions.specs.Widths.{width, least, essentials_outside}
use Rattle.definitions.specs.Diagrams.{IsFirstKeeping}

-- a listed set, as a mask, with its cost
pub record Cell : Type 0 where
  pub mask : ℕ
  pub cost : ℕ

-- the parts of a certificate; the format is 1 or 2, and format 1 has no pairs
pub record Certificate : Type 0 where
  pub format : ℕ
  pub inputs : ℕ
  pub outputs : ℕ
  pub order : List ℕ
  pub levels : List ℕ
  pub total : ℕ
  pub pairs : List Pair
  pub cells : List Cell

-- the lower bound on the nodes above a set: in format 1 none, in format 2 one for each essential variable outside
unfoldable pub lower_bound : ℕ → List Function → Certificate → ℕ → ℕ
lower_bound n F cert mask = if nat_eq cert.format 1 then 0 else essentials_outside n F (members n mask)

-- the value of a set: the total for the set of all variables; else its listed cost or, if it is not listed, the total less the lower bound above
unfoldable pub set_value : ℕ → List Function → Certificate → ℕ → ℕ
set_value n F cert mask =
    if nat_eq mask (2 ^ cert.inputs - 1) then cert.total
    else option_map_or (λ (c : Cell). c.cost) (find (λ (c : Cell). nat_eq c.mask mask) cert.cells) (cert.total - lower_bound n F cert mask)

-- a set and the set with x are both lawful
abbrev pub AreBothLawful : ℕ → List Pair → ℕ → ℕ → Type 0
AreBothLawful n P mask x = IsTrue (is_lawful P (members n mask)) × IsTrue (is_lawful P (x ∷ members n mask))

-- what the checker accepts of a certificate for F
pub record IsGood (n : ℕ) (F : List Function) (cert : Certificate) : Type 0 where
  pub inputs : cert.inputs ≡ n
  pub outputs : cert.outputs ≡ length F
  pub order : IsOrder n cert.order
  pub pairs : Keeps cert.pairs cert.order
  pub levels : cert.levels ≡ level_counts n F cert.order
  pub total : cert.total ≡ sum cert.levels
  pub start : set_value n F cert 0 ≡ 0
  pub cells : All (λ (c : Cell). c.cost + lower_bound n F cert c.mask ≤ cert.total) cert.cells
  pub edges : All (λ (c : Cell). (x : ℕ) → x < n → IsFalse (has (members n c.mask) x) →
      AreBothLawful n cert.pairs c.mask x →
      set_value n F cert (c.mask + 2 ^ x) ≤ set_value n F cert c.mask + width n F (members n c.mask) x) cert.cells

-- why a certificate is not good, in the order in which the checker tries them
pub data Reason : Type 0 where
  Shape Order Pairs Levels Total Start CellTooBig : Reason
  Edge : (mask x : ℕ) → Reason

-- what each reason states of a certificate
abbrev pub Applies : ℕ → List Function → Certificate → Reason → Type 0
Applies n F cert Shape = (cert.inputs ≡ n) × (cert.outputs ≡ length F) → ⊥
Applies n F cert Order = IsOrder n cert.order → ⊥
Applies n F cert Pairs = IsFalse (keeps cert.pairs cert.order)
Applies n F cert Levels = cert.levels ≢ level_counts n F cert.order
Applies n F cert Total = cert.total ≢ sum cert.levels
Applies n F cert Start = set_value n F cert 0 ≢ 0
Applies n F cert CellTooBig = (c : Cell) × Contains cert.cells c × (cert.total < c.cost + lower_bound n F cert c.mask)
Applies n F cert (Edge mask x) =
    (c : Cell) × Contains cert.cells c × (c.mask ≡ mask) × (x < n) × IsFalse (has (members n mask) x)
    × AreBothLawful n cert.pairs mask x ×
    (set_value n F cert mask + width n F (members n mask) x < set_value n F cert (mask + 2 ^ x))

-- a reason's place in the order of the tests; edges come by mask, then by variable
unfoldable pub rank_of : Reason → List ℕ
rank_of Shape = 1 ∷ []
rank_of Order = 2 ∷ []
rank_of Pairs = 3 ∷ []
rank_of Levels = 4 ∷ []
rank_of Total = 5 ∷ []
rank_of Start = 6 ∷ []
rank_of CellTooBig = 7 ∷ []
rank_of (Edge mask x) = 8 ∷ mask ∷ x ∷ []

-- the first reason that applies
pub record IsFirstReason (n : ℕ) (F : List Function) (cert : Certificate) (reason : Reason) : Type 0 where
  pub applies : Applies n F cert reason
  pub first : (other : Reason) → slice_cmp nat_cmp (rank_of other) (rank_of reason) ≡ Less → Applies n F cert other → ⊥

-- the sets that `minorder` lists, rising: the lawful sets but that of all variables for which the least cost plus one for each essential
-- variable outside is less than the total
unfoldable pub listed_masks : ℕ → List Function → List Pair → ℕ → List ℕ
listed_masks n F P total =
    filter (λ mask. is_lawful P (members n mask)
    && nat_lt (least n F P (members n mask) + essentials_outside n F (members n mask)) total)
    (range_with_len 0 (2 ^ n - 1))

-- a set with its least cost
unfoldable pub least_listed : ℕ → List Function → List Pair → ℕ → Cell
least_listed n F P mask = record { mask = mask; cost = least n F P (members n mask) }

-- the certificate of an order, as `minorder` writes it
unfoldable pub certificate_of : ℕ → List Function → List Pair → List ℕ → Certificate
certificate_of n F P order = record {
  format = 2;
  inputs = n;
  outputs = length F;
  order = order;
  levels = level_counts n F order;
  total = size_under n F order;
  pairs = sorted_pairs n P;
  cells = map (least_listed n F P) (listed_masks n F P (size_under n F order));
}

-- the certificate that `minorder` writes: that of the first order that keeps the pairs and has the fewest nodes
pub record IsCertOf (n : ℕ) (F : List Function) (P : List Pair) (cert : Certificate) : Type 0 where
  pub first : IsFirstKeeping n F P cert.order
  pub parts : cert ≡ certificate_of n F P cert.order
