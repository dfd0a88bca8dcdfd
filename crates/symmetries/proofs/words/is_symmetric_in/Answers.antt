use Rattle.std.proofs.Common.{arith}
use Rattle.definitions.proofs.Bits.Tables.{rows_room}
use Rattle.symmetries.proofs.SymmetricWords.{inside_value, across_value, between_value}
use Rattle.symmetries.proofs.words.is_symmetric_in.Goals as goal

pub is_symmetric_across-requires-clause-room : goal.is_symmetric_across-requires-clause-room
is_symmetric_across-requires-clause-room c = rows_room c.args.inputs c.args.b c.args.words.now (omega arith) c.requires.inside c.requires.long

pub is_symmetric_between-requires-clause-room : goal.is_symmetric_between-requires-clause-room
is_symmetric_between-requires-clause-room c = rows_room c.args.inputs c.args.b c.args.words.now (omega arith) c.requires.inside c.requires.long

pub returns-then-b-lt6 : goal.returns-then-b-lt6
returns-then-b-lt6 c holds p small one zero =
    inside_value c.args.inputs c.args.words.now c.args.a c.args.b p c.requires.long c.requires.first small one zero c.if-b-lt6.true
    (c.is_symmetric_inside.ensures holds)

pub returns-then-a-lt6 : goal.returns-then-a-lt6
returns-then-a-lt6 c holds p small one zero =
    across_value c.args.inputs c.args.words.now c.args.a c.args.b p c.requires.long c.requires.first small one zero c.if-a-lt6.true (omega arith)
    (c.is_symmetric_across.ensures holds)

pub returns-else-a-lt6 : goal.returns-else-a-lt6
returns-else-a-lt6 c holds p small one zero =
    between_value c.args.inputs c.args.words.now c.args.a c.args.b p c.requires.long c.requires.first small one zero (omega arith)
    (c.is_symmetric_between.ensures holds)
