-- How many nodes each variable has.
--     CountsFirst nodes i counts, counts_more      the first i nodes are counted; one more
use Rattle.std.proofs.Common.{◌≡◌, ℕ, ◌+◌, ◌<◌, List, length, get_or, set, take, arith}
use Rattle.std.proofs.lemmas.List.{get_or-set_same, get_or-set_other}
use Rattle.std.proofs.lemmas.List.Sums.{count_by_more_no, count_by_more_yes}
use Rattle.definitions.specs.declared.refs.Node.{Node}
use Rattle.definitions.specs.Diagrams.{variable_count}

abbrev pub CountsFirst : List Node → ℕ → List ℕ → Type 0
CountsFirst nodes i counts = (x : ℕ) → x < 16 → get_or counts x 0 ≡ variable_count (take i nodes) x

pub counts_more : (nodes : List Node) (i : ℕ) (counts : List ℕ) (d : Node) → length counts ≡ 16 → i < length nodes →
    CountsFirst nodes i counts → (get_or nodes i d).variable < 16 →
    CountsFirst nodes (i + 1) (set counts (get_or nodes i d).variable (get_or counts (get_or nodes i d).variable 0 + 1))
counts_more nodes i counts d l h k small x b =
    grind (arith, get_or-set_same, count_by_more_yes, get_or-set_other, count_by_more_no)
