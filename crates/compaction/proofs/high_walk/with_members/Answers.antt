use Rattle.std.proofs.Common.{◌≡◌, ℕ, ◌%◌, ◌^◌, ◌<◌, ◌≤◌, inl, inr, pow_mono, Option, None, Some, IfSome, IsNone, sym, ap, ◌∙◌, subst, arith}
use Rattle.std.specs.Int.{bit_at}
use Rattle.std.proofs.lemmas.Bool.{cases_lt, iff_false, true≢false}
use Rattle.std.proofs.lemmas.Nat.Bits.{bit_at_above, shr_and_one}
use Rattle.std.proofs.Math.Nat.{mod-eq_of_lt}
use Rattle.definitions.specs.Orders.{has}
use Rattle.subfunction_classes.specs.Table.{ClassesOf, classes_of, set_of, with_variable}
use Rattle.subfunction_classes.proofs.LowSets.{low_more, low_same, low_new}
use Rattle.compaction.specs.Strips.{low_variables}
use Rattle.compaction.proofs.FirstSets.{latest, latest_of}
use Rattle.compaction.proofs.high_walk.with_members.Goals as goal
use Rattle.compaction.proofs.high_walk.with_members.Goals.{then-contains+in_ok-more, in-Some-2, in-None-2, else-contains}

pub loop-y-init : goal.loop-y-init
loop-y-init c = c.requires.first

-- a member of a set of low variables is low
member_low : (set x k : ℕ) → set < 2 ^ k → bit_at set x ≡ 1 → x < k
member_low set x k small one = elim (cases_lt x k) [
  | inl low ↦ low
  | inr high ↦ absurd (let z = bit_at_above set k x small high in omega arith)
]

-- the table that x is added to
table_is : (c : goal.After-add_low-arg-1) → c.unwrap_or-table.result.now ≡ classes_of c.args.first.now.problem (c.args.low % 2 ^ c.loop-y.y)
table_is c = latest_of c.loop-y.made c.as_ref.result _ c.unwrap_or-table.result c.as_ref.ensures.value c.unwrap_or-table.ensures ∙ c.loop-y.invariant

pub add_low-requires-clause-low : goal.add_low-requires-clause-low
add_low-requires-clause-low c =
    subst (λ (t : ClassesOf). c.loop-y.y < low_variables t.problem) (sym (table_is c))
    (member_low c.args.low c.loop-y.y (low_variables c.args.first.now.problem) c.requires.low
    (c.contains.ensures.0 c.if-contains.true))

pub add_low-requires-clause-new : goal.add_low-requires-clause-new
add_low-requires-clause-new c = ap (λ (t : ClassesOf). has (set_of t) c.loop-y.y) (table_is c)
    ∙ low_new c.args.first.now.problem.inputs c.args.low c.loop-y.y

pub loop-y-preserved : goal.loop-y-preserved
loop-y-preserved c =
    let s = shr_and_one c.args.low c.loop-y.y in
    elim c.if-contains.branch [
      | then-contains+in_ok-more w ↦
          ap (λ m. latest m c.args.first.now) w.made-is ∙ w.in_ok-more.ensures
          ∙ ap (λ (t : ClassesOf). with_variable t c.loop-y.y)
          (latest_of c.loop-y.made w.as_ref.result _ w.unwrap_or-table.result w.as_ref.ensures.value w.unwrap_or-table.ensures ∙ c.loop-y.invariant)
          ∙ ap (classes_of c.args.first.now.problem) (low_more c.args.low c.loop-y.y (s ∙ c.contains.ensures.0 w.if-contains.true))
      | else-contains w ↦
          ap (λ m. latest m c.args.first.now) w.made-is ∙ c.loop-y.invariant
          ∙ ap (classes_of c.args.first.now.problem) (low_same c.args.low c.loop-y.y (λ e. iff_false c.contains.ensures w.if-contains.false (sym s ∙ e)))
    ]

-- all members were added
all_added : (c : goal.After-loop-y) → latest c.loop-y.made c.args.first.now ≡ classes_of c.args.first.now.problem c.args.low
all_added c =
    let p = c.args.first.now.problem in
    let most : 2 ^ low_variables p ≤ 2 ^ c.loop-y.y = (let t = c.loop-y-test.false in pow_mono {j = c.loop-y.y} (omega arith)) in
    c.loop-y.invariant ∙ ap (classes_of p) (mod-eq_of_lt (let l = c.requires.low in omega arith))

made_is : (made : Option ClassesOf) (first t : ClassesOf) → latest made first ≡ t → IfSome made (λ m. m ≡ t)
made_is None first t e = tt
made_is (Some m) first t e = e

none_is : (made : Option ClassesOf) (first t : ClassesOf) → latest made first ≡ t → IsNone made → first ≡ t
none_is None first t e n = e
none_is (Some m) first t e n = absurd (true≢false n)

pub returns-clause-made : goal.returns-clause-made
returns-clause-made c = made_is c.loop-y.made c.args.first.now _ (all_added c)

pub returns-clause-none : goal.returns-clause-none
returns-clause-none c = none_is c.loop-y.made c.args.first.now _ (all_added c)
