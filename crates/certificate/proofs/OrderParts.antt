-- The parts of an order's certificate.
--     parts_same      parts that are an order's make that order's certificate
use Rattle.std.proofs.Common.{◌≡◌, ℕ, List, length, map, sym, ◌∙◌}
use Rattle.definitions.specs.Functions.{Function}
use Rattle.definitions.specs.Pairs.{Pair, sorted_pairs}
use Rattle.definitions.specs.Levels.{level_counts, size_under}
use Rattle.definitions.specs.Listed.{listed}
use Rattle.definitions.specs.declared.listed_cells.ListedCell.{ListedCell}
use Rattle.definitions.specs.Certificates.{certificate_of}
use Rattle.certificate.specs.Values.{value_of}

pub parts_same : (n : ℕ) (F : List Function) (P : List Pair) (order : List ℕ) (inputs outputs : ℕ) (o levels : List ℕ) (total : ℕ)
    (pairs : List Pair) (cells : List ListedCell)
    → inputs ≡ n → outputs ≡ length F → o ≡ order → levels ≡ level_counts n F order → total ≡ size_under n F order → pairs ≡ P → sorted_pairs n P ≡ P
    → map listed cells ≡ (certificate_of n F P order).cells → value_of 2 inputs outputs o levels total pairs cells ≡ certificate_of n F P order
unfolding certificate_of
parts_same n F P order inputs outputs o levels total pairs cells a b c d e f g h = λ i. record {
  format = 2;
  inputs = a i;
  outputs = b i;
  order = c i;
  levels = d i;
  total = e i;
  pairs = (f ∙ sym g) i;
  cells = h i;
}
