-- What a run writes.
--     count_text cover      the level counts and the size under the file order
--     report_text cover best other      the report of an order, beside another one and the file order
use Rattle.std.specs.Prelude.{ℕ, List, ◌∷◌, ◌++◌, codes, decimal}
use Rattle.std.specs.List.{flat_map, sum}
use Rattle.definitions.specs.Orders.{variables}
use Rattle.definitions.specs.Levels.{level_counts, size_under}
use Rattle.definitions.specs.Problems.{TruthTables, functions}
use Rattle.pla_reader.specs.Covers.{NamedCover, functions_of}
use Rattle.outcomes.specs.Texts.{counts_lines, labelled, name_of, numbers, order_lines}

-- the names of variables, each after a space
abbrev pub each_name_spaced : List (List ℕ) → List ℕ → List ℕ
each_name_spaced names xs = flat_map (λ x. 32 ∷ name_of names x) xs

-- the level counts of a cover under an order, and its size
abbrev pub levels_under : NamedCover → List ℕ → List ℕ
levels_under cover order = level_counts cover.inputs (functions_of cover) order

abbrev pub nodes_under : NamedCover → List ℕ → ℕ
nodes_under cover order = size_under cover.inputs (functions_of cover) order

-- the level counts of a cover under the file order
abbrev pub file_order_levels : NamedCover → List ℕ
file_order_levels cover = levels_under cover (variables cover.inputs)

-- the two lines for the file order
abbrev pub count_text : NamedCover → List ℕ
count_text cover = counts_lines (file_order_levels cover)

-- three lines: the sifted order, its size, and the size under the file order
unfoldable pub sizes_lines : List ℕ → ℕ → ℕ → List ℕ
sizes_lines order size file_size =
    labelled (codes "sifted order: ") (numbers order) ++ labelled (codes "sifted nodes: ") (decimal size)
    ++ labelled (codes "file order nodes: ") (decimal file_size)

-- seven lines: the best order with its names, level counts and size, the sifted order with its size, and the size under the file order
abbrev pub report_text : NamedCover → List ℕ → List ℕ → List ℕ
report_text cover best other =
    order_lines cover.input_names best ++ counts_lines (levels_under cover best)
    ++ sizes_lines other (nodes_under cover other) (nodes_under cover (variables cover.inputs))

-- the seven lines of a report, by the truth tables of the cover and the sifted order's size
abbrev pub report_parts : NamedCover → TruthTables → List ℕ → List ℕ → ℕ → List ℕ
report_parts cover t best other size =
    order_lines cover.input_names best ++ counts_lines (level_counts t.inputs (functions t) best)
    ++ sizes_lines other size (sum (file_order_levels cover))
