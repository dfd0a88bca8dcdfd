use Rattle.std.proofs.Common.{arith}
use Rattle.truth_table.proofs.FixedBits.{fixed_rows_room, fixed_table_high, fixed_clean_high, fixed_table_low, fixed_clean_low}
use Rattle.truth_table.proofs.fixed_variables.fix_variable.Goals as goal

pub fix_rows-requires-clause-room : goal.fix_rows-requires-clause-room
fix_rows-requires-clause-room c = fixed_rows_room c.args.n c.args.x c.args.upper c.args.words.now c.if-x-ge6.true c.requires.variable c.requires.long

pub returns-then-x-ge6-clause-table : goal.returns-then-x-ge6-clause-table
returns-then-x-ge6-clause-table c = grind (arith, fixed_table_high)

pub returns-then-x-ge6-clause-clean : goal.returns-then-x-ge6-clause-clean
returns-then-x-ge6-clause-clean c =
    fixed_clean_high c.args.n c.args.x c.args.upper c.args.words.now c.fix_rows.new.words c.requires.variable c.if-x-ge6.true
    (λ i h. c.fix_rows.ensures i (omega arith)) (λ i h. omega (arith, c.type_inv.words i))

pub returns-else-x-ge6-clause-table : goal.returns-else-x-ge6-clause-table
returns-else-x-ge6-clause-table c = grind (arith, fixed_table_low)

pub returns-else-x-ge6-clause-clean : goal.returns-else-x-ge6-clause-clean
returns-else-x-ge6-clause-clean c =
    fixed_clean_low c.args.n c.args.x c.args.upper c.args.words.now c.fix_halves.new.words c.requires.variable (omega arith)
    (λ i k h l. c.fix_halves.ensures i k h l) c.fix_halves.auto.words (λ i h. omega (arith, c.type_inv.words i))
    c.requires.clean
