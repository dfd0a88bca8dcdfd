use Rattle.std.proofs.Common.{arith}
use Rattle.unique_table.proofs.SessionsGoOn.{known_below_follows}
use Rattle.store_tests.proofs.full_stores.ask.Goals as goal

pub make-one-requires-clause-low : goal.make-one-requires-clause-low
make-one-requires-clause-low g c =
    known_below_follows c.args.session.now c.make-further.new.session 11 _ c.make-further.ensures.goes_on.follows (c.requires.below 0 0 (omega arith))

pub make-one-requires-clause-high : goal.make-one-requires-clause-high
make-one-requires-clause-high g c =
    known_below_follows c.args.session.now c.make-further.new.session 11 _ c.make-further.ensures.goes_on.follows (c.requires.below 1 0 (omega arith))

pub make-two-requires-clause-low : goal.make-two-requires-clause-low
make-two-requires-clause-low g c =
    known_below_follows c.make-further.new.session c.make-one.new.session 11 _ c.make-one.ensures.goes_on.follows
    (known_below_follows c.args.session.now c.make-further.new.session 11 _ c.make-further.ensures.goes_on.follows (c.requires.below 2 0 (omega arith)))

pub make-two-requires-clause-high : goal.make-two-requires-clause-high
make-two-requires-clause-high g c =
    known_below_follows c.make-further.new.session c.make-one.new.session 11 _ c.make-one.ensures.goes_on.follows
    (known_below_follows c.args.session.now c.make-further.new.session 11 _ c.make-further.ensures.goes_on.follows (c.requires.below 0 0 (omega arith)))
