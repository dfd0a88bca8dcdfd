-- A certificate's parts, as the program holds them.
--     value_of format inputs outputs order levels total pairs cells      the certificate of its parts
--     contents parts      the certificate of parts that the program holds
--     each_spaced ns      numbers after spaces
--     fit is key before es      whether entries are of a kind, and their keys rise
use Rattle.std.specs.Prelude.{ℕ, ◌^◌, ◌-◌, Bool, true, ◌&&◌, nat_lt, nat_le, List, [], ◌∷◌, map, Option, Some, None, Vec, decimal}
use Rattle.std.specs.List.{flat_map}
use Rattle.std.specs.Global.{Global}
use Rattle.definitions.specs.Pairs.{Pair}
use Rattle.definitions.specs.Certificates.{Certificate}
use Rattle.definitions.specs.Listed.{listed}
use Rattle.definitions.specs.declared.listed_cells.ListedCell.{ListedCell}
use Rattle.certificate.specs.declared.certificate.CertificateParts.{CertificateParts}
use Rattle.certificate.specs.Spelling.{most_nodes}

-- the certificate of its parts
abbrev pub value_of : ℕ → ℕ → ℕ → List ℕ → List ℕ → ℕ → List Pair → List ListedCell → Certificate
value_of format inputs outputs order levels total pairs cells =
    record {
      format = format;
      inputs = inputs;
      outputs = outputs;
      order = order;
      levels = levels;
      total = total;
      pairs = pairs;
      cells = map listed cells;
    }

-- the format of a certificate whose pairs are there or not
abbrev pub format_of : {A : Type 0} → Option A → ℕ
format_of None = 1
format_of (Some pairs) = 2

-- the pairs that are there: format 1 has none
abbrev pub pairs_in : Option (Vec Pair Global) → List Pair
pairs_in None = []
pairs_in (Some pairs) = pairs.items

-- the certificate of its parts, as the program holds them
abbrev pub contents : CertificateParts → Certificate
contents p =
    value_of (format_of p.pairs) p.inputs p.outputs p.order.items p.levels.items p.total (pairs_in p.pairs) p.cells.items

-- whether a key is above one that may have come before
abbrev pub is_above : Option ℕ → ℕ → Bool
is_above None key = true
is_above (Some last) key = nat_lt last key

-- whether entries are of a kind, and their keys rise from one that may have come before
abbrev pub fit : {E : Type 0} → (E → Bool) → (E → ℕ) → Option ℕ → List E → Bool
fit is key before [] = true
fit is key before (e ∷ es) = is e && (is_above before (key e) && fit is key (Some (key e)) es)

-- whether a pair is of variables below n
abbrev pub is_pair_of : ℕ → Pair → Bool
is_pair_of n p = nat_lt p.0 n && nat_lt p.1 n

-- whether a listed set is one of some variables of n but not of all, and its cost in bounds
abbrev pub is_cell_of : ℕ → ListedCell → Bool
is_cell_of n c = nat_lt c.mask (2 ^ n - 1) && nat_le c.cost most_nodes

abbrev pub mask_in : ListedCell → ℕ
mask_in c = c.mask

-- numbers, each after a space
abbrev pub each_spaced : List ℕ → List ℕ
each_spaced ns = flat_map (λ n. 32 ∷ decimal n) ns
