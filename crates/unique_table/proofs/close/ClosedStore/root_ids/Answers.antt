use Rattle.std.proofs.Common.{refl}
use Rattle.unique_table.proofs.Roots.{more_ids, more_filled}
use Rattle.unique_table.proofs.close.ClosedStore.root_ids.Goals as goal

pub loop-output-preserved : goal.loop-output-preserved
loop-output-preserved c = let i = c.loop-output.invariant in record {
  ids = more_ids c.args.self.now c.loop-output.ids.items c.push.new.self.items c.loop-output.output _ c.root_word-word.result
      i.ids c.root_word-word.ensures.is refl c.in-Ok-push.ensures.items;
  filled = more_filled c.args.self.now c.loop-output.output c.root_word-word.result i.filled c.root_word-word.ensures.is c.if-word-eq0.false;
}
