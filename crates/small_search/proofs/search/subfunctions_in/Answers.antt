use Rattle.std.proofs.Common.{◌≡◌, ℕ, zero, suc, ◌*◌, ◌^◌, ◌<◌, ◌≤◌, List, count_ones, length, get_or, sym, ap, ◌∙◌, subst, arith, pow_mono}
use Rattle.std.proofs.Math.Nat.{mul-le-mul_right}
use Rattle.std.proofs.lemmas.Nat.{ones-le}
use Rattle.definitions.specs.Problems.{TruthTables, functions}
use Rattle.pair_numbering.specs.declared.numbers.MaskedNumbers.{MaskedNumbers}
use Rattle.definitions.proofs.Bits.Ones.{ones-members}
use Rattle.subfunction_classes.specs.Dependence.{AreMasks}
use Rattle.subfunction_classes.specs.Table.{HoldsClasses, classes_of, set_of}
use Rattle.subfunction_classes.proofs.OneMoreVariable.{few_masks}
use Rattle.small_search.specs.Counting.{AreOccurring}
use Rattle.small_search.specs.Paths.{HoldNumbers, HoldPath, HoldValues}
use Rattle.small_search.specs.ValuePlaces.{values_at}
use Rattle.small_search.specs.Values.{set_values}
use Rattle.small_search.specs.declared.tables.PathTables.{PathTables}
use Rattle.small_search.proofs.PathSteps.{own_all}
use Rattle.small_search.proofs.ValueSteps.{values_below}
use Rattle.small_search.proofs.search.subfunctions_in.Goals as goal

most : (m n : ℕ) → m ≤ 16 → n ≤ 16 → m * 2 ^ n ≤ 2 ^ 20
most m n a b =
    let p = pow_mono b in
    let r = mul-le-mul_right (2 ^ n) a in
    omega (arith, p, r)

few_values : (k : ℕ) → k ≤ 2 → 2 ^ 2 ^ k ≤ 16
few_values zero l = omega arith
few_values (suc zero) l = omega arith
few_values (suc (suc zero)) l = omega arith
few_values (suc (suc (suc k))) l = absurd (omega (arith, l))

-- the set's own values
own : (p : TruthTables) (set : ℕ) (tables : PathTables) (vs result : List ℕ) → HoldPath p set tables → count_ones set ≤ 3 → vs ≡ tables.values.items →
    result ≡ values_at tables.entries vs (count_ones set) → result ≡ set_values p set
own p set tables vs result h few v r =
    r ∙ ap (λ us. values_at tables.entries us (count_ones set)) v ∙ own_all (λ s i. HoldValues p s tables i) set h.values few

pub values_over-values-requires-clause-few : goal.values_over-values-requires-clause-few
values_over-values-requires-clause-few c =
    let p = c.args.search.now.problem in
    let i = c.inputs.ensures in
    let e = c.requires.path.entries_are in
    let o = c.outputs.ensures.value in
    let f = c.outputs.ensures.few in
    let m = most (length p.tables) p.inputs (omega (arith, o, f)) (omega (arith, i.value, i.few)) in
    omega (arith, e, m)

pub occurring-requires : goal.occurring-requires
occurring-requires c = λ few.
    let p = c.args.search.now.problem in
    let set = c.args.set in
    let are = own p set c.args.tables.now c.deref.result.now c.values_over-values.result.now c.requires.path (omega (arith, few)) c.deref.ensures.value
    c.values_over-values.ensures in
    let size = ones-members p.inputs set c.requires.within in
    λ i l.
    let b = values_below p set i (subst (λ (vs : List ℕ). i < length vs) are l) in
    let m = few_values (count_ones set) few in
    omega (arith, ap (λ (vs : List ℕ). get_or vs i 0) are, b, m, ap (λ k. 2 ^ 2 ^ k) size)

pub returns-then-size-le-MOST_VALUE_VARIABLES : goal.returns-then-size-le-MOST_VALUE_VARIABLES
returns-then-size-le-MOST_VALUE_VARIABLES c = (
  c.if-size-le-MOST_VALUE_VARIABLES.true,
  subst (λ (vs : List ℕ). AreOccurring vs c.occurring.result)
      (own c.args.search.now.problem c.args.set c.args.tables.now c.deref.result.now c.values_over-values.result.now c.requires.path
      c.if-size-le-MOST_VALUE_VARIABLES.true c.deref.ensures.value c.values_over-values.ensures) c.occurring.ensures,
)

pub index-requires : goal.index-requires
index-requires c =
    let l = ones-le c.args.search.now.problem.inputs c.args.set c.requires.within in
    let m = c.requires.path.many in
    let f = c.if-size-le-MOST_VALUE_VARIABLES.false in
    let k = c.args.tables.now.classes.ok.0 in
    omega (arith, l, m, f, k)

pub returns-else-size-le-MOST_VALUE_VARIABLES : goal.returns-else-size-le-MOST_VALUE_VARIABLES
returns-else-size-le-MOST_VALUE_VARIABLES c =
    let p = c.args.search.now.problem in
    let set = c.args.set in
    let t = classes_of p set in
    let e = c.deref-else-size-le-MOST_VALUE_VARIABLES.ensures.value in
    let f = c.if-size-le-MOST_VALUE_VARIABLES.false in
    let held = subst (λ (u : MaskedNumbers). HoldsClasses t u.numbers.items u.masks.items) (sym c.index.ensures)
    (own_all (λ s i. HoldNumbers p s c.args.tables.now.classes.items i c.index.result.now) set
    (λ k. c.requires.path.numbers k c.index.result.now) (omega (arith, f))) in
    let less = few_masks t _ _ held in
    let l = ap length e in
    let n = held.few in (
      subst (λ (us : List ℕ). AreMasks p.inputs (functions p) (set_of t) us) (sym e) held.masks_are,
      omega (arith, less, l, n),
    )
