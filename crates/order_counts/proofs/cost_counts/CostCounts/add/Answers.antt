use Rattle.order_counts.specs.Sizes.{counts_at}
use Rattle.order_counts.proofs.Counts.{raised_none}
use Rattle.std.proofs.Common.{◌≡◌, ℕ, ◌+◌, ◌<◌, ◌^◌, ◌++◌, length, length-append, take, get_or, min, refl, sym, ap, ◌∙◌, subst, arith}
use Rattle.std.specs.Vec.{with_items}
use Rattle.std.proofs.lemmas.List.{with_items_is, get_or_past}
use Rattle.std.proofs.lemmas.Grind.{common_steps}
use Rattle.order_counts.proofs.Entries.{added, raised_below, sums_fit}
use Rattle.order_counts.proofs.cost_counts.CostCounts.add.Goals as goal

pub add_counts-requires-clause-fits : goal.add_counts-requires-clause-fits
add_counts-requires-clause-fits c =
    let own = c.args.self.now in
    let more = c.args.below.now in
    let front = c.split_at_mut-entries.result.0.now in
    let back = c.split_at_mut-entries.result.1.now in
    let le = c.requires.start (grind (arith, common_steps)) in
    let joined = sym c.deref_mut.ensures.value ∙ c.split_at_mut-entries.ensures.value in
    let is = c.min-count.ensures ∙ ap (λ k. min (length back) k) (c.len-then-start-len.ensures ∙ sym c.deref.ensures.len ∙ ap length c.deref.ensures.value) in
    subst (λ xs. (i : ℕ) → i < length (take c.min-count.result xs) → get_or back i 0 + get_or (take c.min-count.result xs) i 0 < 2 ^ 64)
    (sym c.deref.ensures.value)
    (sums_fit own more c.args.width c.min-count.result front back le joined c.split_at_mut-entries.ensures.front_len is c.requires.fits)

pub returns-then-start-len-clause-added : goal.returns-then-start-len-clause-added
returns-then-start-len-clause-added c =
    let own = c.args.self.now in
    let more = c.args.below.now in
    let front = c.split_at_mut-entries.result.0.now in
    let back = c.split_at_mut-entries.result.1.now in
    let le = c.requires.start (grind (arith, common_steps)) in
    let joined = sym c.deref_mut.ensures.value ∙ c.split_at_mut-entries.ensures.value in
    let is = c.min-count.ensures ∙ ap (λ k. min (length back) k) (c.len-then-start-len.ensures ∙ sym c.deref.ensures.len ∙ ap length c.deref.ensures.value) in
    let same = length-append front c.add_counts.new.counts ∙ ap (λ k. length front + k) c.add_counts.ensures.long ∙ sym (length-append front back)
    ∙ ap length (sym joined) ∙ sym own.orders.ok.0 in
    added own more c.args.width c.min-count.result front back le joined c.split_at_mut-entries.ensures.front_len is c.add_counts.new.counts
    c.add_counts.ensures.long
    (subst (λ xs. (i : ℕ) → get_or c.add_counts.new.counts i 0 ≡ get_or back i 0 + get_or (take c.min-count.result xs) i 0) c.deref.ensures.value
    c.add_counts.ensures.added)
    (record { least = own.least; orders = with_items own.orders (front ++ c.add_counts.new.counts) }) refl
    (with_items_is own.orders (front ++ c.add_counts.new.counts) same)

pub returns-else-start-len-clause-added : goal.returns-else-start-len-clause-added
returns-else-start-len-clause-added c = λ cost low high.
    let past = c.if-start-len.false in
    omega (arith, raised_below c.args.below.now c.args.width cost (omega arith))

pub returns-then-start-len-clause-long : goal.returns-then-start-len-clause-long
returns-then-start-len-clause-long c =
    let own = c.args.self.now.orders in
    let front = c.split_at_mut-entries.result.0.now in
    let back = c.split_at_mut-entries.result.1.now in
    let joined = sym c.deref_mut.ensures.value ∙ c.split_at_mut-entries.ensures.value in
    let same = length-append front c.add_counts.new.counts ∙ ap (λ k. length front + k) c.add_counts.ensures.long ∙ sym (length-append front back)
    ∙ ap length (sym joined) in
    ap length (with_items_is own (front ++ c.add_counts.new.counts) (same ∙ sym own.ok.0)) ∙ same

pub returns-then-is_empty-clause-added : goal.returns-then-is_empty-clause-added
returns-then-is_empty-clause-added c = λ cost low high.
    let below = c.args.below.now in
    let none : length below.orders.items ≡ 0 = grind (arith, common_steps) in
    omega (
      arith,
      raised_none (counts_at below) c.args.width (raised_none (λ i. get_or below.orders.items i 0) below.least
          (λ i. get_or_past below.orders.items i 0 (omega arith))) cost,
    )
