use Rattle.std.proofs.Common.{count_ones, ◌+◌, ◌*◌, ◌-◌, ◌%◌, ◌^◌, ◌≡◌, ◌<◌, ◌≤◌, ◌∙◌, ℕ, length, min, bit_and, sym, ap, subst, arith}
use Rattle.std.proofs.lemmas.Nat.{one_shl}
use Rattle.std.proofs.lemmas.Nat.Bits.{bit_at_ones}
use Rattle.definitions.specs.Problems.{TruthTables}
use Rattle.subfunction_classes.specs.Table.{ClassesOf, classes_of, free_below}
use Rattle.compaction.specs.Rows.{AreRowsFilled, most_compactions, most_walked}
use Rattle.compaction.specs.Strips.{low_variables}
use Rattle.compaction.proofs.FilledRows.{agree_low, few_tables, whole_rows}
use Rattle.compaction.proofs.DecidedVariables.{within_ones, free_ones}
use Rattle.compaction.proofs.high_walk.walk_from_low.Goals as goal

-- the mask of the low variables
low_mask : (p : TruthTables) (k : ℕ) → k ≡ low_variables p → 1 * 2 ^ k % 65536 - 1 ≡ 2 ^ low_variables p - 1
low_mask p k e = ap (λ m. m - 1) (one_shl k 16 (omega (arith, e))) ∙ ap (λ j. 2 ^ j - 1) e

-- the tables of the walk over the high variables
few_walked : (p : TruthTables) (t : ClassesOf) (set d walked : ℕ) → t ≡ classes_of p set → d ≡ 2 ^ low_variables p - 1 →
    walked + 1 ≤ 2 ^ free_below d t.problem.inputs → walked + 1 ≤ most_walked p
few_walked p t set d walked is mask few = grind (arith, free_ones)

pub walk-requires-clause-wanted : goal.walk-requires-clause-wanted
walk-requires-clause-wanted c h lt some within = c.requires.wanted h lt some

pub walk-requires-clause-decided : goal.walk-requires-clause-decided
walk-requires-clause-decided c =
    let own = c.args.request.now.request.own in
    let byte = c.args.request.now.request.byte in
    let i = c.requires.inputs in
    let t = c.requires.table in
    let d = low_mask c.args.table.now.problem c.min.result (c.min.ensures ∙ ap (λ n. min n 8) i) in
    grind (arith, bit_at_ones, bit_and, within_ones)

-- the tables of the low byte and of the walk
few_in_all : (p : TruthTables) (t : ClassesOf) (n low k walked : ℕ) → n ≤ 16 → n ≡ p.inputs → low < 256 → k ≡ min n 8 → t ≡ classes_of p low →
    walked + 1 ≤ 2 ^ free_below (1 * 2 ^ k % 65536 - 1) t.problem.inputs → count_ones low + walked ≤ most_compactions
few_in_all p t n low k walked few i byte e is h =
    few_tables p.inputs low walked (omega arith) (omega arith)
    (few_walked p t low (1 * 2 ^ k % 65536 - 1) walked is (low_mask p k (e ∙ ap (λ m. min m 8) i)) h)

pub overflow_add-result : goal.overflow_add-result
overflow_add-result c =
    let w = c.args.request.now in
    let most = few_in_all c.args.table.now.problem c.args.table.now w.inputs w.low c.min.result c.in_ok-walked.walked w.few c.requires.inputs
    w.request.byte c.min.ensures c.requires.table c.in_ok-walked.ensures.compactions in
    omega (arith, most)

pub returns-clause-rows : goal.returns-clause-rows
returns-clause-rows c =
    let w = c.args.request.now in
    let t = c.args.table.now in
    let p = t.problem in
    let k = low_variables p in
    let d = low_mask p c.min.result (c.min.ensures ∙ ap (λ n. min n 8) c.requires.inputs) in
    let long : length c.walk.new.rows ≡ length w.needed.items = c.walk.auto.rows ∙ c.requires.rows in
    whole_rows p w.low (2 ^ k - 1) w.needed.items c.args.rows.now c.walk.new.rows long
    (λ h lt. agree_low w.inputs w.low (h * 256 + w.low) k (ap (λ i. min i 8) (sym c.requires.inputs)) (w.request.sets h lt)
    (omega (arith, w.request.byte)))
    (subst (λ m. AreRowsFilled p w.low w.needed.items w.low m c.args.rows.now c.walk.new.rows) d
    (subst (λ set. AreRowsFilled p w.low w.needed.items set (1 * 2 ^ c.min.result % 65536 - 1) c.args.rows.now c.walk.new.rows)
    (ap (λ (z : ClassesOf). z.set) c.requires.table) c.in_ok-walked.ensures.rows))

pub returns-clause-compactions : goal.returns-clause-compactions
returns-clause-compactions c =
    let w = c.args.request.now in
    few_in_all c.args.table.now.problem c.args.table.now w.inputs w.low c.min.result c.in_ok-walked.walked w.few c.requires.inputs
    w.request.byte c.min.ensures c.requires.table c.in_ok-walked.ensures.compactions
