use Rattle.std.proofs.Common.{◌≡◌, ◌%◌, ◌*◌, ◌^◌, get_or, ap, ◌∙◌, arith}
use Rattle.std.proofs.Math.Nat.{mod-lt}
use Rattle.std.proofs.lemmas.Nat.{one_shl, pow_pos}
use Rattle.subfunction_classes.specs.Table.{classes_of}
use Rattle.compaction.proofs.FirstSets.{first_set}
use Rattle.compaction.proofs.shared_tables.SharedTables.first_table.Goals as goal

pub returns-clause-table : goal.returns-clause-table
returns-clause-table c =
    let k = c.self.inside.known in
    let v = c.self.invariant in
    let low = v.low in
    let s = one_shl k 64 (omega arith) in
    let small = mod-lt c.args.set (pow_pos k) in
    let place : c.from.result % (1 * 2 ^ k % 2 ^ 64) ≡ c.args.set % 2 ^ k = (λ i. c.from.ensures i % s i) in
    c.index.ensures ∙ ap (λ j. get_or c.self.inside.tables.items j c.index.result.now) place
    ∙ first_set c.self.inside.problem.now c.self.inside.tables.items (c.args.set % 2 ^ k) _ v.first (let m = v.many in omega arith)
    ∙ ap (λ p. classes_of p (c.args.set % 2 ^ k)) c.self.view_is
