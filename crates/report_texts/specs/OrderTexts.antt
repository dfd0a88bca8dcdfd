-- What a run prints of all orders that keep the pairs.
--     orders_text cover P sifted_size      how many there are, the fewest, the most and the mean nodes, and how many are better than a sifted order
--     sizes_text cover P      how many have each size
use Rattle.std.specs.Prelude.{ℕ, List, [], ◌∷◌, ◌+◌, ◌*◌, ◌/◌, ◌%◌, ◌++◌, if◌then◌else◌, codes, decimal, length, nat_eq}
use Rattle.std.specs.List.{flat_map, range_with_len}
use Rattle.definitions.specs.AllOrders.{all_orders, most, orders_of_size, size_total}
use Rattle.definitions.specs.Orders.{variables}
use Rattle.definitions.specs.Pairs.{Pair}
use Rattle.definitions.specs.Widths.{least}
use Rattle.order_counts.specs.Sizes.{orders_below}
use Rattle.pla_reader.specs.Covers.{NamedCover, functions_of}
use Rattle.outcomes.specs.Texts.{labelled}

-- a mean in hundredths, rounded half up
abbrev pub mean_hundredths : ℕ → ℕ → ℕ
mean_hundredths total count = (200 * total + count) / (2 * count)

-- a number of hundredths, with two decimals
abbrev pub with_decimals : ℕ → List ℕ
with_decimals h = decimal (h / 100) ++ codes "." ++ decimal (h / 10 % 10) ++ decimal (h % 10)

-- eight lines
unfoldable pub orders_lines : (count fewest optimal most worst total sifted_size better : ℕ) → List ℕ
orders_lines count fewest optimal most worst total sifted_size better =
    labelled (codes "orders: ") (decimal count) ++ labelled (codes "nodes: ") (decimal fewest)
    ++ labelled (codes "optimal orders: ") (decimal optimal) ++ labelled (codes "most nodes: ") (decimal most)
    ++ labelled (codes "worst orders: ") (decimal worst)
    ++ labelled (codes "mean nodes: ") (with_decimals (mean_hundredths total count))
    ++ labelled (codes "sifted nodes: ") (decimal sifted_size)
    ++ labelled (codes "orders below sifted: ") (decimal better)

-- the lines of the orders that keep the pairs
abbrev pub orders_text : NamedCover → List Pair → ℕ → List ℕ
orders_text cover P sifted_size =
    let n = cover.inputs in
    let F = functions_of cover in
    let fewest = least n F P (variables n) in
    orders_lines (length (all_orders n P)) fewest (orders_of_size n F P fewest) (most n F P) (orders_of_size n F P (most n F P))
    (size_total n F P) sifted_size (orders_below n F P sifted_size)

-- a line with a size and the number of orders that have it, none if no order does
abbrev pub size_line : (ℕ → ℕ) → ℕ → List ℕ
size_line orders size =
    if nat_eq (orders size) 0 then [] else decimal size ++ 32 ∷ decimal (orders size) ++ 10 ∷ []

-- such lines, from the fewest nodes to the most
unfoldable pub sizes_text : NamedCover → List Pair → List ℕ
sizes_text cover P =
    flat_map (size_line (orders_of_size cover.inputs (functions_of cover) P))
    (range_with_len 0 (most cover.inputs (functions_of cover) P + 1))
