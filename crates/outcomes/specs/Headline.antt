-- The headline of this repository, line by line.
--
-- Where a run ends with status 0, the printed order is the first under which the file's functions have an ordered shared diagram with the
-- printed number of decision nodes, and no ordered shared diagram of them under any order has fewer (`PrintsOptimum`, the line
-- `optimum` of `RunEnds`, which `run` promises);
-- and each certificate that the checker accepts states truly that its order has its total and none has fewer (`AcceptsTruly`,
-- the line `truth` of `CheckEnds`, which `run_check` promises).
-- Neither line speaks of the number of workers or of a schedule: both hold for each.
-- What is printed is the same for each (the law `texts_are_determined`).
-- With pairs, "any order" and "first" range over the orders that keep them.
use Rattle.std.specs.Prelude.{◌≡◌, ◌≢◌, ℕ, ◌≤◌, List, ◌++◌, length, sum, Option, Ok}
use Rattle.std.specs.Io.KnownBytes.{Appends}
use Rattle.std.specs.Borrow.{Bor}
use Rattle.std.specs.Ordering.{nat_cmp}
use Rattle.std.specs.Cmp.Lexicographic.{slice_cmp}
use Rattle.std.specs.declared.cmp.Ordering.TheVariants.{Greater}
use Rattle.definitions.specs.Functions.{Function}
use Rattle.definitions.specs.Orders.{IsOrder}
use Rattle.definitions.specs.Pairs.{Pair, Keeps}
use Rattle.definitions.specs.KeptPairs.{KeptPairs}
use Rattle.definitions.specs.Diagrams.{Graph, Represents}
use Rattle.definitions.specs.Certificates.{Certificate}
use Rattle.certificate.specs.Faults.{Spells}
use Rattle.pla_reader.specs.Covers.{NamedCover, functions_of}
use Rattle.pla_reader.specs.Reading.{Reads}
use Rattle.command_line.specs.declared.line.Output.TheVariants.{Report}
use Rattle.command_line.specs.declared.line.RunPlan.{RunPlan}
use Rattle.outcomes.specs.declared.outcome.Outcome.{Outcome}
use Rattle.outcomes.specs.declared.outcome.Outcome.TheVariants.{Done}
use Rattle.outcomes.specs.Plans.{PairsAre}
use Rattle.outcomes.specs.Texts.{counts_lines, order_lines}

-- under an order that keeps the pairs the functions have an ordered shared diagram with so many nodes, and under none that keeps them a smaller one
pub record IsOptimum (n : ℕ) (F : List Function) (P : List Pair) (order : List ℕ) (nodes : ℕ) : Type 0 where
  pub an_order : IsOrder n order
  pub keeps_the_pairs : Keeps P order
  pub has_a_diagram_of_that_size : (d : Graph) × Represents n F order d × (length d.nodes ≡ nodes)
  pub no_diagram_has_fewer : (other : List ℕ) (d : Graph) → IsOrder n other → Keeps P other → Represents n F other d →
      nodes ≤ length d.nodes

-- an order with its names, and level counts with their sum, stand in the text
pub record IsPrinted (names : List (List ℕ)) (order : List ℕ) (nodes : ℕ) (text : List ℕ) : Type 0 where
  pub levels : List ℕ
  pub their_sum : sum levels ≡ nodes
  pub rest : List ℕ
  pub text_is : text ≡ order_lines names order ++ counts_lines levels ++ rest

-- what a text that a run printed says of the bytes of its file
pub record IsPrintedOptimum (file : List ℕ) (above : Option (Bor (List ℕ))) (text : List ℕ) : Type 0 where
  pub cover : NamedCover
  pub the_files_cover : Reads file cover
  pub kept : KeptPairs
  pub the_lists_pairs : PairsAre above cover.inputs (Ok kept)
  pub order : List ℕ
  pub nodes : ℕ
  pub both_are_printed : IsPrinted cover.input_names order nodes text
  pub none_has_fewer : IsOptimum cover.inputs (functions_of cover) kept.pairs order nodes
  pub the_first : (other : List ℕ) → IsOptimum cover.inputs (functions_of cover) kept.pairs other nodes →
      slice_cmp nat_cmp order other ≢ Greater

-- what an accepted certificate says of the bytes of the file
pub record IsTrueCertificate (file certificate : List ℕ) : Type 0 where
  pub cover : NamedCover
  pub the_files_cover : Reads file cover
  pub cert : Certificate
  pub the_certificate : Spells certificate cert
  pub none_has_fewer : IsOptimum cover.inputs (functions_of cover) cert.pairs cert.order cert.total

-- what a run that reports writes that ends with status 0
abbrev pub PrintsOptimum : RunPlan → List ℕ → Option (List ℕ) → Option (List ℕ) → Outcome → Type 0
PrintsOptimum plan file before after Done = plan.output ≡ Report →
    (text : List ℕ) × Appends before after text × IsPrintedOptimum file plan.above text
PrintsOptimum plan file before after _ = Unit {0}

-- what a check that ends with status 0 says
abbrev pub AcceptsTruly : List ℕ → List ℕ → Outcome → Type 0
AcceptsTruly file certificate Done = IsTrueCertificate file certificate
AcceptsTruly file certificate _ = Unit {0}
