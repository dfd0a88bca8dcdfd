use Rattle.std.proofs.Common.{◌≡◌, ℕ, ◌+◌, ◌-◌, ◌*◌, ◌%◌, ◌^◌, ◌≤◌, List, ◌++◌, length, take, replicate, sym, ap, ap₂, ◌∙◌, arith, pow_mono}
use Rattle.std.proofs.Math.Nat.{div-one, mod-eq_of_lt, mul-le-mul_right}
use Rattle.std.proofs.lemmas.List.{length-append, length-map, length-replicate, take_all, take_at}
use Rattle.definitions.specs.Functions.{weight}
use Rattle.definitions.specs.Problems.{TruthTables}
use Rattle.subfunction_classes.specs.Values.{values_of}
use Rattle.subfunction_classes.proofs.StartClasses.{length_values}
use Rattle.small_search.specs.Paths.{HoldNumbers, HoldPath, HoldValues}
use Rattle.small_search.specs.ValuePlaces.{start_of, values_at}
use Rattle.small_search.specs.Values.{set_values}
use Rattle.small_search.specs.declared.tables.PathTables.{PathTables}
use Rattle.small_search.proofs.LowestVariables.{no_ones}
use Rattle.small_search.proofs.PathSteps.{start_all}
use Rattle.small_search.proofs.ValueSteps.{start_values}
use Rattle.small_search.proofs.tables.PathTables.restart.Goals as goal

most : (m n : ℕ) → m ≤ 16 → n ≤ 16 → m * 2 ^ n ≤ 2 ^ 20
most m n a b =
    let p = pow_mono b in
    let r = mul-le-mul_right (2 ^ n) a in
    omega (arith, p, r)

-- the values of no variable come first
first : (entries : ℕ) (points rest : List ℕ) → length points ≡ entries → values_at entries (points ++ rest) 0 ≡ points
unfolding start_of
first entries points rest e = ap (λ k. take k (points ++ rest)) (div-one entries) ∙ take_at points rest entries e

started : (p : TruthTables) (tables : PathTables) → tables.entries ≡ length p.tables * 2 ^ p.inputs → length tables.values.items ≡ 2 * tables.entries →
    p.inputs ≤ 3 + length tables.classes.items → values_at tables.entries tables.values.items 0 ≡ set_values p 0 → HoldPath p 0 tables
started p tables entries long many are = record {
  entries_are = entries;
  long = long;
  many = many;
  values = start_all (λ s i. HoldValues p s tables i) (λ few. are);
  numbers = λ k d. start_all (λ s i. HoldNumbers p s tables.classes.items i d) (λ more. absurd (omega (arith, more, no_ones))) k;
}

-- the values at all points, and as much room again
filled : (entries len : ℕ) (points items : List ℕ) → len ≡ length points → length points ≡ entries →
    items ≡ take (2 * entries) points ++ replicate (2 * entries - len) 0 →
    (length items ≡ 2 * entries) × (values_at entries items 0 ≡ points)
filled entries len points items k e is =
    let zeros : List ℕ = replicate (2 * entries - len) 0 in
    let all : items ≡ points ++ zeros = is ∙ ap (λ us. us ++ zeros) (take_all (2 * entries) points (omega (arith, e))) in (
      (let a = length-append points zeros in let r = length-replicate {A = ℕ} (2 * entries - len) 0 in let l = ap length all in omega (arith, a, r, l, e, k)),
      ap (λ us. values_at entries us 0) all ∙ first entries points zeros e,
    )

pub returns : goal.returns
returns c =
    let p = c.args.search.now.problem in
    let o = c.outputs-2.ensures in
    let i = c.inputs-2.ensures in
    let m = most c.outputs-2.result c.inputs-2.result o.few i.few in
    let entries = c.outputs-2.result * 2 ^ c.inputs-2.result in
    let whole : entries % 2 ^ 64 ≡ entries = mod-eq_of_lt (omega (arith, m)) in
    let is : entries ≡ length p.tables * 2 ^ p.inputs = ap₂ (λ a b. a * 2 ^ b) o.value i.value in
    let points = c.in_ok-push_points.ensures in
    let long : length c.push_points.new.values.items ≡ entries % 2 ^ 64 =
    ap length points ∙ length-map (values_of p) weight ∙ length_values p ∙ sym (whole ∙ is) in
    let made = c.push_points.new.values in
    let f = filled (entries % 2 ^ 64) made.len made.items c.resize.new.self.items made.ok.0 long c.in_ok-resize.ensures.items in
    started p _ (whole ∙ is) f.0 (let n = c.inputs-3.ensures.value in let a = c.in_ok-add_tables.ensures in omega (arith, n, a))
    (f.1 ∙ points ∙ sym (start_values p))
