use Rattle.std.proofs.Common.{◌≡◌, ℕ, sym, ap, ◌∙◌}
use Rattle.definitions.specs.Orders.{mask_of}
use Rattle.definitions.specs.Cells.{asked}
use Rattle.definitions.specs.declared.limits.LowerBound.{LowerBound}
use Rattle.definitions.specs.declared.limits.LowerBound.TheVariants.{Variables, Widths}
use Rattle.layer_core.proofs.WantedMembers.{asked_variables, asked_none, asked_some}
use Rattle.layer_core.proofs.needs.asked_members.Goals as goal

-- what is asked for one of two equal ways of counting on nodes
alike : (n bound mask : ℕ) (costs : ℕ → ℕ) (r s : LowerBound) → r ≡ s → mask_of (asked n s bound mask costs) ≡ mask_of (asked n r bound mask costs)
alike n bound mask costs r s e = ap (λ (k : LowerBound). mask_of (asked n k bound mask costs)) (sym e)

pub returns-in-Variables : goal.returns-in-Variables
returns-in-Variables c = λ n bound costs is small. sym (asked_variables n bound c.args.mask c.args.known costs is small)
    ∙ alike n bound c.args.mask costs c.args.lower_bound Variables c.in-Variables.is

pub returns-then-known-eq0 : goal.returns-then-known-eq0
returns-then-known-eq0 c = λ n bound costs is small.
    sym c.if-known-eq0.true ∙ sym (asked_none n bound c.args.mask c.args.known costs is small c.if-known-eq0.true)
    ∙ alike n bound c.args.mask costs c.args.lower_bound Widths c.in-Widths.is

pub returns-else-known-eq0 : goal.returns-else-known-eq0
returns-else-known-eq0 c = λ n bound costs is small. sym (asked_some n bound c.args.mask c.args.known costs is small c.if-known-eq0.false)
    ∙ alike n bound c.args.mask costs c.args.lower_bound Widths c.in-Widths.is
