use Rattle.std.proofs.Common.{◌≡◌, ℕ, ◌+◌, ◌*◌, ◌%◌, ◌^◌, ◌<◌, false, slice_index, ap, sym, ◌∙◌, subst, arith}
use Rattle.std.specs.Int.{bit_at}
use Rattle.std.proofs.lemmas.Bool.{false_from_ne_true, iff_false}
use Rattle.std.proofs.lemmas.Nat.{one_shl}
use Rattle.definitions.specs.Orders.{has, members}
use Rattle.definitions.specs.Pairs.{is_lawful}
use Rattle.definitions.proofs.Bits.Masks.{mask_with, power_small}
use Rattle.definitions.proofs.Precedence.MaskLaws.{member_bit, member_from}
use Rattle.edge_walks.proofs.EdgeMarks.{edge_from, no_edge_by, no_law, no_listing, no_rise}
use Rattle.cert_check.proofs.edges.is_edge_from.Goals as goal

-- the set lacks the variable
lacked : (n set x : ℕ) → (bit_at set x ≡ 1 → ⊥) → has (members n set) x ≡ false
lacked n set x zero = false_from_ne_true (has (members n set) x) (λ h. zero (member_bit n set x h).1)

pub returns-then-not-sources-set-clause-none : goal.returns-then-not-sources-set-clause-none
returns-then-not-sources-set-clause-none c f T e at =
    no_listing c.args.inputs c.args.pairs.now c.args.values.now c.args.sources.now c.args.set c.args.x c.if-not-sources-set.true T e at

pub returns-then-contains-clause-none : goal.returns-then-contains-clause-none
returns-then-contains-clause-none c f T e at =
    no_edge_by c.args.inputs c.args.pairs.now c.args.values.now c.args.sources.now c.args.set c.args.x
    (member_from c.args.inputs c.args.set c.args.x c.requires.variable (c.contains.ensures.0 c.if-contains.true)) T e at

pub overflow_add-into : goal.overflow_add-into
overflow_add-into c =
    let n = c.args.inputs in
    let lacks = lacked n c.args.set c.args.x (iff_false c.contains.ensures c.if-contains.false) in
    let o = one_shl c.args.x 16 (omega arith) in
    let w = mask_with n c.args.set c.args.x c.requires.set c.requires.variable lacks in
    let p = power_small n c.requires.tables.few in
    omega (arith, w.0)

pub bounds-values-into : goal.bounds-values-into
bounds-values-into c =
    let n = c.args.inputs in
    let lacks = lacked n c.args.set c.args.x (iff_false c.contains.ensures c.if-contains.false) in
    let o = one_shl c.args.x 16 (omega arith) in
    let w = mask_with n c.args.set c.args.x c.requires.set c.requires.variable lacks in
    omega (arith, w.0)

pub returns-then-values-set-clause-found : goal.returns-then-values-set-clause-found
returns-then-values-set-clause-found c t =
    let n = c.args.inputs in
    let lacks = lacked n c.args.set c.args.x (iff_false c.contains.ensures c.if-contains.false) in
    let o = one_shl c.args.x 16 (omega arith) in
    let into : c.args.set + 1 * 2 ^ c.args.x % 65536 ≡ c.args.set + 2 ^ c.args.x = ap (λ k. c.args.set + k) o in (
      (mask_with n c.args.set c.args.x c.requires.set c.requires.variable lacks).0,
      edge_from n c.args.pairs.now c.args.values.now c.args.sources.now c.args.set c.args.x c.requires.set c.requires.variable lacks
          (subst (λ k. slice_index c.args.values.now c.args.set < slice_index c.args.values.now k) into c.if-values-set.true)
          (sym (ap (λ k. is_lawful c.args.pairs.now (members n k)) into) ∙ sym c.is_lawful.ensures ∙ t) c.if-not-sources-set.false,
    )

pub returns-then-values-set-clause-none : goal.returns-then-values-set-clause-none
returns-then-values-set-clause-none c f T e at =
    let n = c.args.inputs in
    let o = one_shl c.args.x 16 (omega arith) in
    let into : c.args.set + 1 * 2 ^ c.args.x % 65536 ≡ c.args.set + 2 ^ c.args.x = ap (λ k. c.args.set + k) o in
    no_law n c.args.pairs.now c.args.values.now c.args.sources.now c.args.set c.args.x
    (sym (ap (λ k. is_lawful c.args.pairs.now (members n k)) into) ∙ sym c.is_lawful.ensures ∙ f) T e at

pub returns-else-values-set-clause-none : goal.returns-else-values-set-clause-none
returns-else-values-set-clause-none c f T e at =
    let o = one_shl c.args.x 16 (omega arith) in
    let into : c.args.set + 1 * 2 ^ c.args.x % 65536 ≡ c.args.set + 2 ^ c.args.x = ap (λ k. c.args.set + k) o in
    no_rise c.args.inputs c.args.pairs.now c.args.values.now c.args.sources.now c.args.set c.args.x
    (λ less. let l = subst (λ k. slice_index c.args.values.now c.args.set < slice_index c.args.values.now k) (sym into) less in
    omega (arith, c.if-values-set.false)) T e at

pub is_lawful-requires-clause-pairs : goal.is_lawful-requires-clause-pairs
is_lawful-requires-clause-pairs c = omega arith
