use Rattle.std.proofs.Common.{◌%◌, refl, ap, ◌∙◌, sym, subst, arith}
use Rattle.unique_table.specs.Sessions.{Knowledge, StoreId}
use Rattle.unique_table.proofs.SessionsGoOn.{follows_trans}
use Rattle.dd_builder.specs.Parts.{HasPart, Continues}
use Rattle.dd_builder.proofs.SessionSteps.{stays}
use Rattle.dd_builder.proofs.Ends.{part_made, share_more, share_other}
use Rattle.dd_builder.proofs.SubfunctionNodes.{kept_on, kept_step, continues_on}
use Rattle.dd_builder.proofs.workers.build_parts.Goals as goal
use Rattle.dd_builder.proofs.workers.build_parts.Goals.{then-piece-from+in-Ok, else-piece-from}

pub loop-piece-preserved : goal.loop-piece-preserved
loop-piece-preserved g c = elim c.if-piece-from.branch [
  | then-piece-from+in-Ok w ↦
      let known = w.in-Ok.ensures.made.function.known in
      let published = w.publish.ensures.step.follows in
      let same = published.store ∙ (w.part.ensures.made.follows.store ∙ c.loop-piece.invariant.store) in
      record {
        store = ap (λ (s : Knowledge). s.store) w.session-is ∙ same;
        continues = subst (Continues c.args.source c.args.session) (sym w.session-is)
            (continues_on c.args.source c.args.session c.loop-piece.session w.publish.new.session c.loop-piece.invariant.continues
            record {
              follows = follows_trans _ _ _ w.part.ensures.made.follows published;
              kept = kept_on c.args.source c.loop-piece.session w.part.new.session w.publish.new.session w.part.ensures.kept
                  (kept_step c.args.source w.part.new.session w.publish.new.session published w.publish.ensures.step.made);
            });
        built = λ q low e. subst (λ (s : Knowledge). HasPart s q) (sym w.session-is)
            (share_more c.loop-piece.session w.publish.new.session c.loop-piece.piece c.args.workers _
            (follows_trans _ _ _ w.part.ensures.made.follows published) c.loop-piece.invariant.built
            (part_made w.publish.new.session c.args.store.now c.loop-piece.piece w.in-Ok.id same w.publish.ensures.stored
            (published.knows w.in-Ok.id known) (omega (arith, w.in-Ok.ensures.level)))
            q low e);
      }
  | else-piece-from w ↦ record {
    store = ap (λ (s : Knowledge). s.store) w.session-is ∙ c.loop-piece.invariant.store;
    continues = subst (Continues c.args.source c.args.session) (sym w.session-is) c.loop-piece.invariant.continues;
    built = λ q low e. subst (λ (s : Knowledge). HasPart s q) (sym w.session-is)
        (share_other c.loop-piece.session c.loop-piece.piece c.args.workers _ c.loop-piece.invariant.built
        (λ own. w.if-piece-from.false (ap (λ z. c.loop-piece.piece % z) c.from.ensures ∙ (own ∙ sym c.from-in-loop-piece.ensures))) q low e);
  }
]

pub returns-in_default-clause-continues : goal.returns-in_default-clause-continues
returns-in_default-clause-continues g c =
    continues_on c.args.source c.args.session c.loop-piece.session c.part.new.session c.loop-piece.invariant.continues
    record { follows = c.part.ensures.made.follows; kept = c.part.ensures.kept }

pub loop-piece-init : goal.loop-piece-init
loop-piece-init g c = record {
  store = c.requires.session;
  continues = record {
    follows = stays c.args.session;
    kept = kept_step c.args.source c.args.session c.args.session (stays c.args.session) refl;
  };
  built = λ q low own. absurd (omega (arith, low));
}

pub returns-clause-end : goal.returns-clause-end
returns-clause-end g c =
    let all = c.loop-piece-test.false in
    let roots = c.roots-piece-end.ensures.value in
    let same = ap (λ (z : StoreId). z.plan.roots) c.loop-piece.invariant.store in
    (c.loop-piece.invariant.store, λ q low own. c.loop-piece.invariant.built q (omega (arith, all, roots, same, low)) own)
