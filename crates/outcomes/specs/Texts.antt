-- Lines that programs write.
--     numbers ns, names_in names order, labelled label what      numbers and names with one space between each two; a line
--     counts_lines levels, order_lines names order      level counts with their sum; an order with its names
use Rattle.std.specs.Prelude.{ℕ, List, [], ◌∷◌, ◌++◌, map, codes, decimal, get_or}
use Rattle.std.specs.List.{join_with_byte, sum}

-- numbers with one space between each two
abbrev pub numbers : List ℕ → List ℕ
numbers ns = join_with_byte 32 (map decimal ns)

-- the name of a variable
abbrev pub name_of : List (List ℕ) → ℕ → List ℕ
name_of names x = get_or names x []

-- the names of an order's variables, with one space between each two
abbrev pub names_in : List (List ℕ) → List ℕ → List ℕ
names_in names order = join_with_byte 32 (map (name_of names) order)

-- a line: its label, what stands after it, and a line feed
abbrev pub labelled : List ℕ → List ℕ → List ℕ
labelled label what = label ++ what ++ 10 ∷ []

-- two lines: level counts, top first, and their sum
unfoldable pub counts_lines : List ℕ → List ℕ
counts_lines levels = labelled (codes "levels: ") (numbers levels) ++ labelled (codes "nodes: ") (decimal (sum levels))

-- two lines: an order and its names
unfoldable pub order_lines : List (List ℕ) → List ℕ → List ℕ
order_lines names order = labelled (codes "order: ") (numbers order)
    ++ labelled (codes "names: ") (names_in names order)
