use Rattle.unique_table.proofs.SessionsGoOn.{all_below, follows_trans}
use Rattle.store_tests.proofs.full_stores.make_all.Goals as goal

pub loop-high-preserved : goal.loop-high-preserved
loop-high-preserved g c = let i = c.loop-high.invariant in record {
  follows = follows_trans c.args.session.now c.loop-high.session c.make_one.new.session i.follows c.make_one.ensures.follows;
  lows = all_below c.loop-high.session c.make_one.new.session c.args.level c.args.lows.now c.make_one.ensures.follows i.lows;
  highs = all_below c.loop-high.session c.make_one.new.session c.args.level c.args.highs.now c.make_one.ensures.follows i.highs;
  ids = c.make_one.ensures.ids;
}

pub returns-then-not-make_one-clause-follows : goal.returns-then-not-make_one-clause-follows
returns-then-not-make_one-clause-follows g c =
    follows_trans c.args.session.now c.loop-high.session c.make_one.new.session c.loop-high.invariant.follows c.make_one.ensures.follows
