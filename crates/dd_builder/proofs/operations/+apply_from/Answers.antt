use Rattle.std.proofs.Common.{◌+◌, ◌-◌, ◌<◌, ◌≤◌, ◌∙◌, arith}
use Rattle.unique_table.proofs.SessionsGoOn.{follows_trans, known_below_follows}
use Rattle.dd_builder.proofs.LevelOperations.{settled_combined, from_follows, below_from, combined_follows, combined_below, low_combined, high_combined, made_combined}
use Rattle.dd_builder.proofs.operations.+apply_from.Goals as goal

pub returns-in-Some-clause-combined : goal.returns-in-Some-clause-combined
returns-in-Some-clause-combined t c = λ from few first second.
    settled_combined c.args.session.now from c.args.operation c.args.first c.args.second c.in-Some.id first second few c.in-Some.ensures

pub returns-in-Some-recall-clause-combined : goal.returns-in-Some-recall-clause-combined
returns-in-Some-recall-clause-combined t c = grind arith

pub apply_from-requires : goal.apply_from-requires
apply_from-requires t c =
    let r = c.recall.ensures.step.follows in
    let a = r.depths c.args.first c.requires.first.known in let b = r.depths c.args.second c.requires.second.known in
    let deep : c.args.from ≤ c.take_apart-cut.result.level = c.take_apart-cut.ensures.level c.args.from (omega arith) (omega arith) in
    let less : 17 - (c.take_apart-cut.result.level + 1) < t = omega arith in (
      less,
      (
        c.take_apart-cut.ensures.follows.store ∙ (c.recall.ensures.step.follows.store ∙ c.requires.session),
        (
          below_from _ _ _ c.take_apart-cut.ensures.first.low_below,
          (
            below_from _ _ _ c.take_apart-cut.ensures.second.low_below,
            omega arith,
          ),
        ),
      ),
    )

pub returns-in_err-low-clause-follows : goal.returns-in_err-low-clause-follows
returns-in_err-low-clause-follows t c =
    follows_trans _ _ _ c.recall.ensures.step.follows (follows_trans _ _ _ c.take_apart-cut.ensures.follows c.apply_from.ensures.follows)

pub apply_from-requires-2 : goal.apply_from-requires-2
apply_from-requires-2 t c =
    let r = c.recall.ensures.step.follows in
    let a = r.depths c.args.first c.requires.first.known in let b = r.depths c.args.second c.requires.second.known in
    let deep : c.args.from ≤ c.take_apart-cut.result.level = c.take_apart-cut.ensures.level c.args.from (omega arith) (omega arith) in
    let less : 17 - (c.take_apart-cut.result.level + 1) < t = omega arith in (
      less,
      (
        c.apply_from.ensures.follows.store ∙ (c.take_apart-cut.ensures.follows.store ∙ (c.recall.ensures.step.follows.store ∙ c.requires.session)),
        (
          from_follows _ _ _ _ c.apply_from.ensures.follows (below_from _ _ _ c.take_apart-cut.ensures.first.high_below),
          (
            from_follows _ _ _ _ c.apply_from.ensures.follows (below_from _ _ _ c.take_apart-cut.ensures.second.high_below),
            omega arith,
          ),
        ),
      ),
    )

pub returns-in_err-high-clause-follows : goal.returns-in_err-high-clause-follows
returns-in_err-high-clause-follows t c = search follows_trans

pub make-requires-clause-low : goal.make-requires-clause-low
make-requires-clause-low t c = known_below_follows _ _ _ _ c.apply_from-2.ensures.follows (combined_below _ _ _ _ _ _
    (low_combined c.args.store.now c.take_apart-cut.new.session c.apply_from.new.session c.take_apart-cut.result.level c.args.operation c.args.first
    c.args.second _ _ _ _
    (c.take_apart-cut.ensures.follows.store ∙ (c.recall.ensures.step.follows.store ∙ c.requires.session)) c.take_apart-cut.ensures.inside
    c.take_apart-cut.ensures.first c.take_apart-cut.ensures.second c.in_ok-low.low c.in_ok-low.ensures.combined))

pub make-requires-clause-high : goal.make-requires-clause-high
make-requires-clause-high t c = combined_below _ _ _ _ _ _
    (high_combined c.args.store.now c.take_apart-cut.new.session c.apply_from.new.session c.take_apart-cut.result.level c.args.operation c.args.first
    c.args.second _ _ _ _
    (c.take_apart-cut.ensures.follows.store ∙ (c.recall.ensures.step.follows.store ∙ c.requires.session)) c.take_apart-cut.ensures.inside
    c.take_apart-cut.ensures.first c.take_apart-cut.ensures.second c.apply_from-2.new.session c.in_ok-high.high
    c.apply_from.ensures.follows c.in_ok-high.ensures.combined)

pub returns-in_err-id-clause-follows : goal.returns-in_err-id-clause-follows
returns-in_err-id-clause-follows t c =
    follows_trans _ _ _ c.recall.ensures.step.follows (follows_trans _ _ _ c.take_apart-cut.ensures.follows
    (follows_trans _ _ _ c.apply_from.ensures.follows (follows_trans _ _ _ c.apply_from-2.ensures.follows c.make.ensures.goes_on.follows)))

pub remember-requires-clause-known : goal.remember-requires-clause-known
remember-requires-clause-known t c =
    let f = follows_trans _ _ _ c.recall.ensures.step.follows (follows_trans _ _ _ c.take_apart-cut.ensures.follows
    (follows_trans _ _ _ c.apply_from.ensures.follows (follows_trans _ _ _ c.apply_from-2.ensures.follows c.make.ensures.goes_on.follows))) in
    (f.knows c.args.first c.requires.first.known, f.knows c.args.second c.requires.second.known)

pub remember-requires-clause-function : goal.remember-requires-clause-function
remember-requires-clause-function t c =
    (made_combined c.take_apart-cut.new.session c.apply_from.new.session c.apply_from-2.new.session c.make.new.session 0
    c.take_apart-cut.result.level c.args.operation c.args.first c.args.second _ _ _ _ _ _ c.in_ok-id.id c.take_apart-cut.ensures.first
    c.take_apart-cut.ensures.second
    c.apply_from.ensures.follows (low_combined c.args.store.now c.take_apart-cut.new.session c.apply_from.new.session c.take_apart-cut.result.level
    c.args.operation c.args.first c.args.second _ _ _ _
    (c.take_apart-cut.ensures.follows.store ∙ (c.recall.ensures.step.follows.store ∙ c.requires.session)) c.take_apart-cut.ensures.inside
    c.take_apart-cut.ensures.first c.take_apart-cut.ensures.second c.in_ok-low.low c.in_ok-low.ensures.combined) c.apply_from-2.ensures.follows
    (high_combined c.args.store.now c.take_apart-cut.new.session c.apply_from.new.session c.take_apart-cut.result.level c.args.operation c.args.first
    c.args.second _ _ _ _
    (c.take_apart-cut.ensures.follows.store ∙ (c.recall.ensures.step.follows.store ∙ c.requires.session)) c.take_apart-cut.ensures.inside
    c.take_apart-cut.ensures.first c.take_apart-cut.ensures.second c.apply_from-2.new.session c.in_ok-high.high
    c.apply_from.ensures.follows c.in_ok-high.ensures.combined)
    c.make.ensures.goes_on.follows c.in_ok-id.ensures.node (omega arith)).means

pub returns-clause-follows : goal.returns-clause-follows
returns-clause-follows t c = search follows_trans

pub returns-clause-combined : goal.returns-clause-combined
returns-clause-combined t c = λ from few one two.
    let f = follows_trans _ _ _ c.recall.ensures.step.follows (follows_trans _ _ _ c.take_apart-cut.ensures.follows
    (follows_trans _ _ _ c.apply_from.ensures.follows (follows_trans _ _ _ c.apply_from-2.ensures.follows c.make.ensures.goes_on.follows))) in
    let r = c.recall.ensures.step.follows in
    let a = r.depths c.args.first one.known in let b = r.depths c.args.second two.known in
    let deep : from ≤ c.take_apart-cut.result.level = c.take_apart-cut.ensures.level from (omega arith) (omega arith) in
    combined_follows c.make.new.session c.remember.new.session from c.args.operation c.args.first c.args.second c.in_ok-id.id
    (f.knows c.args.first c.requires.first.known) (f.knows c.args.second c.requires.second.known) c.remember.ensures.step.follows
    (made_combined c.take_apart-cut.new.session c.apply_from.new.session c.apply_from-2.new.session c.make.new.session
    from c.take_apart-cut.result.level c.args.operation c.args.first c.args.second _ _ _ _ _ _ c.in_ok-id.id c.take_apart-cut.ensures.first
    c.take_apart-cut.ensures.second
    c.apply_from.ensures.follows (low_combined c.args.store.now c.take_apart-cut.new.session c.apply_from.new.session c.take_apart-cut.result.level
    c.args.operation c.args.first c.args.second _ _ _ _
    (c.take_apart-cut.ensures.follows.store ∙ (c.recall.ensures.step.follows.store ∙ c.requires.session)) c.take_apart-cut.ensures.inside
    c.take_apart-cut.ensures.first c.take_apart-cut.ensures.second c.in_ok-low.low c.in_ok-low.ensures.combined) c.apply_from-2.ensures.follows
    (high_combined c.args.store.now c.take_apart-cut.new.session c.apply_from.new.session c.take_apart-cut.result.level c.args.operation c.args.first
    c.args.second _ _ _ _
    (c.take_apart-cut.ensures.follows.store ∙ (c.recall.ensures.step.follows.store ∙ c.requires.session)) c.take_apart-cut.ensures.inside
    c.take_apart-cut.ensures.first c.take_apart-cut.ensures.second c.apply_from-2.new.session c.in_ok-high.high
    c.apply_from.ensures.follows c.in_ok-high.ensures.combined)
    c.make.ensures.goes_on.follows c.in_ok-id.ensures.node deep)

pub take_apart-cut-requires-clause-operands : goal.take_apart-cut-requires-clause-operands
take_apart-cut-requires-clause-operands t c = omega arith

pub returns-in_err-id-clause-full : goal.returns-in_err-id-clause-full
returns-in_err-id-clause-full t c = grind arith
