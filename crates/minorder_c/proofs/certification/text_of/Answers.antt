use Rattle.std.proofs.Common.{ap, refl, string_bytes, subst, sym}
use Rattle.definitions.specs.Diagrams.{IsFirstKeeping}
use Rattle.definitions.specs.KeptPairs.{KeptPairs}
use Rattle.definitions.specs.Problems.{TruthTables, functions}
use Rattle.minorder_c.proofs.Certificates.{solution_text}
use Rattle.minorder_c.proofs.certification.text_of.Goals as goal

pub returns : goal.returns
returns c =
    let P = c.args.pairs.pairs in
    let order = c.in_ok-optimum.field-0.optimum.order in
    let first = subst (λ (t : TruthTables). IsFirstKeeping t.inputs (functions t) P order) (sym c.problem-problem.ensures)
    c.in_ok-optimum.ensures.optimum.first in
    solution_text c.args.tables.now c.problem-problem.result.now P P c.copied-kept.result.pairs order (string_bytes c.in_ok-text.text)
    c.problem-problem.ensures refl (ap (λ (k : KeptPairs). k.pairs) c.copied-kept.ensures) first c.in_ok-text.ensures
