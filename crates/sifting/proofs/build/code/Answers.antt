use Rattle.std.proofs.Common.{sym, ap, ◌∙◌}
use Rattle.definitions.specs.declared.refs.Ref.TheVariants.{Terminal}
use Rattle.sifting.specs.Cuts.{code_of}
use Rattle.sifting.proofs.build.code.Goals as goal

pub returns-in-Terminal-true : goal.returns-in-Terminal-true
unfolding code_of
returns-in-Terminal-true c = sym (ap code_of (c.in-Terminal-true.is ∙ ap Terminal c.in-Terminal-true.field-0-test))

pub returns-in-Terminal-false : goal.returns-in-Terminal-false
unfolding code_of
returns-in-Terminal-false c = sym (ap code_of (c.in-Terminal-false.is ∙ ap Terminal c.in-Terminal-false.field-0-test))

pub returns-in-Place : goal.returns-in-Place
unfolding code_of
returns-in-Place c = sym (ap code_of c.in-Place.is)
