use Rattle.std.proofs.Common.{sym, arith}
use Rattle.definitions.proofs.Bits.Tables.{rows_room, rows_depend, rows_alike, halves_depend, halves_alike}
use Rattle.definitions.proofs.packed.depends_on.Goals as goal

pub rows_differ-requires-clause-room : goal.rows_differ-requires-clause-room
rows_differ-requires-clause-room c = rows_room c.args.n c.args.x c.args.words.now c.if-x-ge6.true c.requires.variable c.requires.long

pub returns-then-x-ge6 : goal.returns-then-x-ge6
returns-then-x-ge6 c = grind (arith, rows_depend, rows_alike)

pub returns-then-halves_differ : goal.returns-then-halves_differ
returns-then-halves_differ c = grind (arith, halves_depend)

pub returns : goal.returns
returns c =
    sym (halves_alike c.args.n c.args.x c.args.words.now (omega arith) c.requires.variable c.requires.long (λ i b h. c.loop-word.invariant i b (omega arith)))
