use Rattle.std.proofs.Common.{sym, ap, ◌∙◌, subst}
use Rattle.definitions.specs.Problems.{TruthTables, IsPacked, outputs_of, packed_tables}
use Rattle.definitions.proofs.Bits.Problems.{length-tables_of}
use Rattle.definitions.proofs.problem.Problem.all_words.Goals as goal

pub returns-clause-packed : goal.returns-clause-packed
returns-clause-packed c =
    let p = c.self.inside in
    let n = ap (λ (t : TruthTables). t.inputs) c.self.view_is in
    let m = sym (length-tables_of p.inputs p.outputs p.words.items) ∙ ap (λ (t : TruthTables). outputs_of t) c.self.view_is in
    subst (λ z. z) (λ i. IsPacked (n i) (m i) (sym c.deref.ensures.value i)) c.self.invariant

pub returns-clause-tables : goal.returns-clause-tables
returns-clause-tables c =
    let p = c.self.inside in
    let n = sym (ap (λ (t : TruthTables). t.inputs) c.self.view_is) in
    let m = sym (ap (λ (t : TruthTables). outputs_of t) c.self.view_is) ∙ length-tables_of p.inputs p.outputs p.words.items in
    (λ i. packed_tables (n i) (m i) (c.deref.ensures.value i)) ∙ c.self.view_is
