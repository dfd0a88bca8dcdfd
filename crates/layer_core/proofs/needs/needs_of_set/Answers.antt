use Rattle.std.proofs.Common.{◌≡◌, ℕ, ◌+◌, ◌^◌, ◌<◌, slice_index, sym, ap, ◌∙◌, subst}
use Rattle.std.proofs.lemmas.Bool.{true≢false}
use Rattle.definitions.specs.Orders.{mask_of}
use Rattle.definitions.specs.Cells.{asked}
use Rattle.definitions.specs.declared.limits.Limit.{Limit}
use Rattle.subset_layers.proofs.BlockLists.{has_masks}
use Rattle.layer_core.proofs.WantedMembers.{needed_lawful, needed_unlawful}
use Rattle.layer_core.proofs.NeedsByCosts.{costs_without}
use Rattle.layer_core.proofs.needs.needs_of_set.Goals as goal

pub affordable_members-known-requires-clause-within : goal.affordable_members-known-requires-clause-within
affordable_members-known-requires-clause-within c =
    let b = c.args.before.now in
    subst (λ (n : ℕ). c.args.mask < 2 ^ n) (c.requires.inputs ∙ sym c.inputs.ensures.value) (has_masks b.inputs (b.size + 1) c.args.mask c.requires.next).0

pub returns-then-lawful : goal.returns-then-lawful
returns-then-lawful c =
    let t = c.args.instance.now in
    let b = c.args.before.now in
    let mask = c.args.mask in
    let below = c.below-below.result in
    let limit = c.limit-limit.result in
    let are = costs_without t b mask below c.requires.inputs c.requires.costs c.requires.next c.below-below.ensures in
    let small : mask < 2 ^ c.inputs.result =
    subst (λ (n : ℕ). mask < 2 ^ n) (c.requires.inputs ∙ sym c.inputs.ensures.value) (has_masks b.inputs (b.size + 1) mask c.requires.next).0 in
    record {
      members_are = c.asked_members-members.ensures c.inputs.result limit.bound (slice_index below) c.affordable_members-known.ensures small
          ∙ ap (λ (n : ℕ). mask_of (asked n limit.lower_bound limit.bound mask (slice_index below))) c.inputs.ensures.value
          ∙ ap (λ (l : Limit). mask_of (asked t.problem.inputs l.lower_bound l.bound mask (slice_index below))) c.limit-limit.ensures.value
          ∙ needed_lawful t (slice_index below) mask are (sym c.lawful.ensures ∙ c.if-lawful.true);
      below_are = λ low x m. are x m;
    }

pub returns-else-lawful : goal.returns-else-lawful
returns-else-lawful c =
    let t = c.args.instance.now in
    let not_low = sym c.lawful.ensures ∙ c.if-lawful.false in
    record {
      members_are = needed_unlawful t c.args.mask not_low;
      below_are = λ low x m. absurd (true≢false (sym low ∙ not_low));
    }
