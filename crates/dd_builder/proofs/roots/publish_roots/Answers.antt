use Rattle.std.proofs.Common.{arith}
use Rattle.unique_table.proofs.SessionsGoOn.{follows_trans}
use Rattle.dd_builder.proofs.Ends.{parts_follow, root_more}
use Rattle.dd_builder.proofs.SubfunctionNodes.{kept_on, kept_step}
use Rattle.dd_builder.proofs.Unions.{root_piece}
use Rattle.dd_builder.proofs.roots.publish_roots.Goals as goal

pub publish-requires-clause-function : goal.publish-requires-clause-function
publish-requires-clause-function c = grind (arith, root_piece)

pub loop-output-preserved : goal.loop-output-preserved
loop-output-preserved c =
    let f = follows_trans _ _ _ c.root.ensures.made.follows c.publish.ensures.step.follows in
    record {
      follows = follows_trans _ _ _ c.loop-output.invariant.follows f;
      kept = kept_on c.args.source c.args.session.now c.loop-output.session c.publish.new.session c.loop-output.invariant.kept
          (kept_on c.args.source c.loop-output.session c.root.new.session c.publish.new.session c.root.ensures.kept
          (kept_step c.args.source c.root.new.session c.publish.new.session c.publish.ensures.step.follows c.publish.ensures.step.made));
      parts = parts_follow _ _ _ f c.loop-output.invariant.parts;
      published =
          root_more c.loop-output.session c.publish.new.session c.args.store.now.plan.roots c.loop-output.output _ c.in_ok-id.id f
          c.loop-output.invariant.published (omega arith) c.publish.ensures.stored;
    }

pub returns-in_err-id-clause-follows : goal.returns-in_err-id-clause-follows
returns-in_err-id-clause-follows c = follows_trans _ _ _ c.loop-output.invariant.follows c.root.ensures.made.follows

pub returns-in_err-id-clause-kept : goal.returns-in_err-id-clause-kept
returns-in_err-id-clause-kept c =
    kept_on c.args.source c.args.session.now c.loop-output.session c.root.new.session c.loop-output.invariant.kept c.root.ensures.kept
