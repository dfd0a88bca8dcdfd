use Rattle.dd_builder.proofs.SessionSteps.{stays, makes_same}
use Rattle.dd_builder.proofs.Literals.{other_output, own_output}
use Rattle.dd_builder.proofs.cover_terms.or_term.Goals as goal

pub returns-then-term-output-eq0 : goal.returns-then-term-output-eq0
returns-then-term-output-eq0 c = search (stays, other_output)

pub returns : goal.returns
returns c = makes_same _ _ _ c.apply.result _ _ c.term_id.ensures.follows c.apply.ensures.made (λ made m.
    own_output c.term_id.new.session c.apply.new.session c.args.store.now.plan c.args.term c.args.output c.args.id c.in_ok-cube.cube made
    (c.term_id.ensures.follows.knows c.args.id c.requires.known) c.requires.output c.if-term-output-eq0.false
    c.in_ok-cube.ensures.function c.apply.ensures.made.follows m)
