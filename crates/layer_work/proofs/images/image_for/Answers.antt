use Rattle.std.proofs.Common.{sym, ◌∙◌}
use Rattle.layer_work.proofs.images.image_for.Goals as goal

pub returns-then-needs-eq0 : goal.returns-then-needs-eq0
returns-then-needs-eq0 c = λ t are. sym are.members_are ∙ c.if-needs-eq0.true

pub returns-else-needs-eq0 : goal.returns-else-needs-eq0
returns-else-needs-eq0 c = λ t are. (λ e. c.if-needs-eq0.false (are.members_are ∙ e), c.image_of.ensures)
