-- Truth tables in words that a caller has.
--     words_facts      the words of a table
use Rattle.std.proofs.Common.{◌≡◌, ℕ, ◌+◌, ◌*◌, ◌<◌, ◌≤◌, List, length, drop, sym, subst, arith}
use Rattle.std.proofs.lemmas.List.{length-drop, length-take-le}
use Rattle.definitions.specs.Problems.{TruthTables, outputs_of, packed_tables, table_at, table_in, words_of, words_per_table}
use Rattle.definitions.proofs.Bits.Problems.{block_inside, length-tables_of, table_of}
use Rattle.small_search.specs.Searches.{ArePacked}

module _ (n m : ℕ) (words : List ℕ) (packed : ArePacked n m words) where
  abbrev Facts : ℕ → TruthTables → ℕ → Type 0
  Facts size t j =
      j < outputs_of t →
      (j * size + size ≤ length words) × (table_in t.inputs (words_of size words j) ≡ table_at t j)
      × (length (words_of size words j) ≡ words_per_table t.inputs)

  facts_here : (j : ℕ) → Facts (words_per_table n) (packed_tables n m words) j
  facts_here j h =
      let o : j < m = omega (arith, length-tables_of n m words, h) in
      let b = block_inside (words_per_table n) m j o in
      let l = packed.long in (
        omega (arith, b, l),
        sym (table_of n m words j o),
        length-take-le (words_per_table n) (drop (j * words_per_table n) words)
            (let d = length-drop (j * words_per_table n) words in omega (arith, d, b, l)),
      )

  pub words_facts : (size : ℕ) (t : TruthTables) (j : ℕ) → size ≡ words_per_table n → packed_tables n m words ≡ t → Facts size t j
  words_facts size t j e v = subst (λ (s : ℕ). Facts s t j) (sym e) (subst (λ (u : TruthTables). Facts (words_per_table n) u j) v (facts_here j))
