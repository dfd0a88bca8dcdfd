use Rattle.std.proofs.Common.{◌≡◌, ◌≢◌, ℕ, ◌+◌, ◌-◌, ◌*◌, ◌^◌, ◌<◌, ◌≤◌, List, count_ones, length, get_or, set, refl, sym, ap, ap₂, ◌∙◌, subst, arith, w16, pow_mono, Vec, Global, get_or-set_same, get_or-set_other}
use Rattle.std.specs.Int.{trailing_zeros}
use Rattle.std.proofs.Math.Nat.{div-le_self, mul-le-mul_right}
use Rattle.std.specs.Vec.{with_item, with_items}
use Rattle.std.proofs.lemmas.List.{length-set, with_items_is}
use Rattle.std.proofs.lemmas.Nat.{ones-le}
use Rattle.definitions.specs.Orders.{members}
use Rattle.definitions.specs.Problems.{TruthTables}
use Rattle.pair_numbering.specs.declared.numbers.MaskedNumbers.{MaskedNumbers}
use Rattle.subfunction_classes.specs.PairTables.{AllBelow, IsPaired, NumbersPairs}
use Rattle.subfunction_classes.specs.Places.{pairs}
use Rattle.subfunction_classes.specs.Table.{HoldsClasses, classes_of}
use Rattle.subfunction_classes.proofs.JoinedMasks.{numbered_place}
use Rattle.subfunction_classes.proofs.OneMoreVariable.{ready_table}
use Rattle.small_search.specs.ClassSteps.{IsNumberedFrom, IsReady}
use Rattle.small_search.specs.ClassesOfValues.{NumbersValues}
use Rattle.small_search.specs.Joining.{AreJoined}
use Rattle.small_search.specs.Paths.{HoldNumbers, HoldPath, HoldValues}
use Rattle.small_search.specs.ValuePlaces.{values_at}
use Rattle.small_search.specs.Values.{set_values}
use Rattle.small_search.specs.declared.tables.PathTables.{PathTables}
use Rattle.small_search.proofs.LowestVariables.{IsLowest, lowest}
use Rattle.small_search.proofs.PathSteps.{below, classes_made, more_all, paired, parent_all, parent_ready, size_is, size_less, values_made}
use Rattle.small_search.proofs.ValueParts.{part_long}
use Rattle.small_search.proofs.ValueSteps.{holds_classes, members_enough}
use Rattle.small_search.proofs.tables.PathTables.add_lowest.Goals as goal

-- the set's lowest variable, and how many it has
record IsNext (p : TruthTables) (set : ℕ) : Type 0 where
  low : IsLowest set (trailing_zeros w16 set)
  within : set < 2 ^ p.inputs
  less : count_ones (set - 2 ^ trailing_zeros w16 set) ≡ count_ones set - 1
  some : 1 ≤ count_ones set
  few : count_ones set ≤ p.inputs

next : (p : TruthTables) (set : ℕ) → 0 < set → set < 2 ^ p.inputs → set < 65536 → IsNext p set
next p set some within small =
    let low = lowest set some small in
    let l = size_less p set (trailing_zeros w16 set) low within in
    record { low = low; within = within; less = omega (arith, l); some = omega (arith, l); few = ones-le p.inputs set within }

most : (m n : ℕ) → m ≤ 16 → n ≤ 16 → m * 2 ^ n ≤ 2 ^ 20
most m n a b =
    let p = pow_mono b in
    let r = mul-le-mul_right (2 ^ n) a in
    omega (arith, p, r)

-- what stands before the set is made
record IsGiven (p : TruthTables) (set : ℕ) (old : PathTables) : Type 0 where
  is : IsNext p set
  path : HoldPath p (set - 1) old
  few_inputs : p.inputs ≤ 16
  few : old.entries ≤ 2 ^ 20

given : (p : TruthTables) (set : ℕ) (old : PathTables) (inputs outputs : ℕ) → 0 < set → set < 2 ^ p.inputs → set < 65536 → HoldPath p (set - 1) old →
    inputs ≡ p.inputs → inputs ≤ 16 → outputs ≡ length p.tables → outputs ≤ 16 → IsGiven p set old
given p set old inputs outputs some within small path i few_i o few_o = record {
  is = next p set some within small;
  path = path;
  few_inputs = omega (arith, i, few_i);
  few = (let e = path.entries_are in let m = most (length p.tables) p.inputs (omega (arith, o, few_o)) (omega (arith, i, few_i)) in omega (arith, e, m));
}

module _ (p : TruthTables) (set : ℕ) (old : PathTables) (g : IsGiven p set old) where
  abbrev x : ℕ
  x = trailing_zeros w16 set

  abbrev size : ℕ
  size = count_ones set

  -- up to four variables
  module _ (few : size ≤ 4) where
    are : values_at old.entries old.values.items (size - 1) ≡ set_values p (set - 2 ^ x)
    are = parent_all set x size g.is.low refl (λ s i. HoldValues p s old i) g.path.values (let l = g.is.less in omega (arith, l, few))

    short : length (values_at old.entries old.values.items (size - 1)) ≤ 2 ^ 20
    short =
        let l = part_long old.entries old.values.items (size - 1) (omega (arith, few)) g.path.long in
        let m = div-le_self old.entries (2 ^ (size - 1)) in
        let f = g.few in
        omega (arith, l, m, f)

    is_paired : IsPaired (values_at old.entries old.values.items (size - 1)) x
    is_paired = paired p set x g.is.low g.is.within _ (size - 1) are g.is.less g.few_inputs short

    is_below : AllBelow (values_at old.entries old.values.items (size - 1)) (2 ^ 2 ^ (size - 1))
    is_below = below p set x g.is.low g.is.within _ (size - 1) are g.is.less

  -- more than four
  module _ (more : 4 < size) (d : MaskedNumbers) where
    abbrev table : MaskedNumbers
    table = get_or old.classes.items (size - 5) d

    classes : HoldsClasses (classes_of p (set - 2 ^ x)) table.numbers.items table.masks.items
    classes =
        subst (λ (i : ℕ). HoldsClasses (classes_of p (set - 2 ^ x)) (get_or old.classes.items i d).numbers.items (get_or old.classes.items i d).masks.items)
        (let e : size - 1 - 4 ≡ size - 5 = omega (arith, more) in e)
        (parent_all set x size g.is.low refl (λ s i. HoldNumbers p s old.classes.items i d) (λ k. g.path.numbers k d)
        (let l = g.is.less in omega (arith, l, more)))

    is_ready : IsReady table x
    is_ready =
        let ready = parent_ready p set x g.is.low g.is.within table.numbers.items table.masks.items classes in
        record { table_is = ready_table table.numbers.items table.masks.items x ready; few = ready.few }

  module _ (new : PathTables) (same : new.entries ≡ old.entries) where
    -- the tables with other values of the set's size
    step_values : (made : List ℕ) → new.classes ≡ old.classes → new.values.items ≡ made → length made ≡ length old.values.items → size ≤ 3 →
        AreJoined (values_at old.entries old.values.items (size - 1)) x (2 ^ 2 ^ (size - 1)) (values_at old.entries made size) →
        ((k : ℕ) → k ≤ 3 → k ≢ size → values_at old.entries made k ≡ values_at old.entries old.values.items k) → HoldPath p set new
    step_values made classes is long few joined others = record {
      entries_are = same ∙ g.path.entries_are;
      long = ap length is ∙ long ∙ g.path.long ∙ ap (λ e. 2 * e) (sym same);
      many = subst (λ (v : Vec MaskedNumbers Global). p.inputs ≤ 3 + length v.items) (sym classes) g.path.many;
      values = more_all set x size g.is.low refl (λ s i. HoldValues p s old i) g.path.values (λ s i. HoldValues p s new i)
          (λ s i ne ones h l. at i ∙ others i (omega (arith, l, ones)) ne ∙ h l)
          (λ l. at size
          ∙ values_made p set x g.is.low g.is.within _ (size - 1) (are (omega (arith, few))) g.is.less (values_at old.entries made size) joined);
      numbers = λ k d. more_all set x size g.is.low refl (λ s i. HoldNumbers p s old.classes.items i d) (λ j. g.path.numbers j d)
          (λ s i. HoldNumbers p s new.classes.items i d)
          (λ s i ne ones h. subst (λ (v : Vec MaskedNumbers Global). HoldNumbers p s v.items i d) (sym classes) h)
          (λ m. absurd (omega (arith, few, m))) k;
    }
      where
        at : (i : ℕ) → values_at new.entries new.values.items i ≡ values_at old.entries made i
        at i = ap₂ (λ e vs. values_at e vs i) same is

    -- and with another class table
    step_classes : (made : List MaskedNumbers) → new.values ≡ old.values → new.classes.items ≡ made → length made ≡ length old.classes.items → 3 < size →
        ((d : MaskedNumbers) → HoldsClasses (classes_of p set) (get_or made (size - 4) d).numbers.items (get_or made (size - 4) d).masks.items) →
        ((j : ℕ) (d : MaskedNumbers) → j ≢ size - 4 → get_or made j d ≡ get_or old.classes.items j d) → HoldPath p set new
    step_classes made values is long more own others = record {
      entries_are = same ∙ g.path.entries_are;
      long = ap (λ (v : Vec ℕ Global). length v.items) values ∙ g.path.long ∙ ap (λ e. 2 * e) (sym same);
      many = (let m = g.path.many in let l = ap length is in omega (arith, m, l, long));
      values = more_all set x size g.is.low refl (λ s i. HoldValues p s old i) g.path.values (λ s i. HoldValues p s new i)
          (λ s i ne ones h l. ap₂ (λ e (v : Vec ℕ Global). values_at e v.items i) same values ∙ h l)
          (λ l. absurd (omega (arith, l, more)));
      numbers = λ k d. more_all set x size g.is.low refl (λ s i. HoldNumbers p s old.classes.items i d) (λ j. g.path.numbers j d)
          (λ s i. HoldNumbers p s new.classes.items i d)
          (λ s i ne ones h m. subst (λ (us : List MaskedNumbers). HoldsClasses (classes_of p s) (get_or us (i - 4) d).numbers.items
          (get_or us (i - 4) d).masks.items) (sym is)
          (subst (λ (t : MaskedNumbers). HoldsClasses (classes_of p s) t.numbers.items t.masks.items)
          (sym (others (i - 4) d (λ e. ne (let f : i ≡ size = omega (arith, e, m, ones, more) in f)))) (h m)))
          (subst (λ (us : List MaskedNumbers). HoldNumbers p set us size d) (sym is) (λ m. own d)) k;
    }

pub make_values-requires-clause-some : goal.make_values-requires-clause-some
make_values-requires-clause-some c = (next c.args.search.now.problem c.args.set c.requires.some c.requires.within (omega arith)).some

pub make_values-requires-clause-paired : goal.make_values-requires-clause-paired
make_values-requires-clause-paired c =
    let i = c.inputs.ensures in
    let o = c.outputs.ensures in
    let d = c.deref_mut.ensures in
    let g = given c.args.search.now.problem c.args.set c.args.self.now c.inputs.result c.outputs.result c.requires.some c.requires.within (omega arith)
    c.requires.path i.value i.few o.value o.few in
    subst (λ (vs : List ℕ). IsPaired (values_at c.args.self.now.entries vs (count_ones c.args.set - 1)) (trailing_zeros w16 c.args.set)) (sym d.value)
    (is_paired c.args.search.now.problem c.args.set c.args.self.now g (let t = c.if-size-le-MOST_VALUE_VARIABLES.true in omega (arith, t)))

pub make_values-requires-clause-below : goal.make_values-requires-clause-below
make_values-requires-clause-below c =
    let i = c.inputs.ensures in
    let o = c.outputs.ensures in
    let d = c.deref_mut.ensures in
    let g = given c.args.search.now.problem c.args.set c.args.self.now c.inputs.result c.outputs.result c.requires.some c.requires.within (omega arith)
    c.requires.path i.value i.few o.value o.few in
    subst (λ (vs : List ℕ). AllBelow (values_at c.args.self.now.entries vs (count_ones c.args.set - 1)) (2 ^ 2 ^ (count_ones c.args.set - 1))) (sym d.value)
    (is_below c.args.search.now.problem c.args.set c.args.self.now g (let t = c.if-size-le-MOST_VALUE_VARIABLES.true in omega (arith, t)))

pub returns-then-size-le-MOST_VALUE_VARIABLES : goal.returns-then-size-le-MOST_VALUE_VARIABLES
returns-then-size-le-MOST_VALUE_VARIABLES c =
    let i = c.inputs.ensures in
    let o = c.outputs.ensures in
    let d = c.deref_mut.ensures in
    let set = c.args.set in
    let old = c.args.self.now in
    let g = given c.args.search.now.problem set old c.inputs.result c.outputs.result c.requires.some c.requires.within (omega arith)
    c.requires.path i.value i.few o.value o.few in
    let made = c.make_values.ensures in
    let size = count_ones set in
    step_values c.args.search.now.problem set old g
    (record { entries = old.entries; values = with_items old.values c.make_values.new.values; classes = old.classes; memory = old.memory })
    refl c.make_values.new.values refl (with_items_is old.values c.make_values.new.values (made.long ∙ d.len)) (made.long ∙ ap length d.value)
    c.if-size-le-MOST_VALUE_VARIABLES.true
    (subst (λ (vs : List ℕ). AreJoined (values_at old.entries vs (size - 1)) (trailing_zeros w16 set) (2 ^ 2 ^ (size - 1))
    (values_at old.entries c.make_values.new.values size)) d.value made.joined)
    (λ k few ne. made.others k few ne ∙ ap (λ vs. values_at old.entries vs k) d.value)

pub index_mut-requires : goal.index_mut-requires
index_mut-requires c =
    let n = next c.args.search.now.problem c.args.set c.requires.some c.requires.within (omega arith) in
    let f = n.few in
    let t = c.if-size.true in
    let m = c.requires.path.many in
    omega (arith, f, t, m)

pub number_values-requires-clause-paired : goal.number_values-requires-clause-paired
number_values-requires-clause-paired c =
    let i = c.inputs.ensures in
    let o = c.outputs.ensures in
    let t = c.if-size.true in
    let g = given c.args.search.now.problem c.args.set c.args.self.now c.inputs.result c.outputs.result c.requires.some c.requires.within (omega arith)
    c.requires.path i.value i.few o.value o.few in
    subst (λ (vs : List ℕ). IsPaired vs (trailing_zeros w16 c.args.set))
    (ap (values_at c.args.self.now.entries c.args.self.now.values.items) (let e : count_ones c.args.set - 1 ≡ 3 = omega (arith, t) in e)
    ∙ sym (c.values_over-values.ensures ∙ ap (λ vs. values_at c.args.self.now.entries vs 3) c.deref.ensures.value))
    (is_paired c.args.search.now.problem c.args.set c.args.self.now g (omega (arith, t)))

pub make_values-requires-clause-few : goal.make_values-requires-clause-few
make_values-requires-clause-few c =
    let i = c.inputs.ensures in
    let o = c.outputs.ensures in
    let g = given c.args.search.now.problem c.args.set c.args.self.now c.inputs.result c.outputs.result c.requires.some c.requires.within (omega arith)
    c.requires.path i.value i.few o.value o.few in
    g.few

pub values_over-values-requires-clause-few : goal.values_over-values-requires-clause-few
values_over-values-requires-clause-few c =
    let i = c.inputs.ensures in
    let o = c.outputs.ensures in
    let g = given c.args.search.now.problem c.args.set c.args.self.now c.inputs.result c.outputs.result c.requires.some c.requires.within (omega arith)
    c.requires.path i.value i.few o.value o.few in
    g.few

-- the values of three variables
before_is : (entries size : ℕ) (values vs result : List ℕ) → size ≡ 4 → result ≡ values_at entries vs 3 → vs ≡ values →
    values_at entries values (size - 1) ≡ result
before_is entries size values vs result e r v =
    ap (values_at entries values) (let f : size - 1 ≡ 3 = omega (arith, e) in f) ∙ sym (r ∙ ap (λ us. values_at entries us 3) v)

pub number_values-requires-clause-few : goal.number_values-requires-clause-few
number_values-requires-clause-few c =
    let i = c.inputs.ensures in
    let o = c.outputs.ensures in
    let g = given c.args.search.now.problem c.args.set c.args.self.now c.inputs.result c.outputs.result c.requires.some c.requires.within (omega arith)
    c.requires.path i.value i.few o.value o.few in
    let t = c.if-size.true in
    let l = short c.args.search.now.problem c.args.set c.args.self.now g (omega (arith, t)) in
    let e = ap length (before_is c.args.self.now.entries (count_ones c.args.set) c.args.self.now.values.items c.deref.result.now
    c.values_over-values.result.now t c.values_over-values.ensures c.deref.ensures.value) in
    omega (arith, l, e)

pub make_classes-requires-clause-room : goal.make_classes-requires-clause-room
make_classes-requires-clause-room c =
    let n = next c.args.search.now.problem c.args.set c.requires.some c.requires.within (omega arith) in
    let f = n.few in
    let m = c.requires.path.many in
    let e = ap length c.deref_mut-else-size.ensures.value in
    omega (arith, f, m, e)

pub make_classes-requires-clause-ready : goal.make_classes-requires-clause-ready
make_classes-requires-clause-ready c = λ d.
    let i = c.inputs.ensures in
    let o = c.outputs.ensures in
    let g = given c.args.search.now.problem c.args.set c.args.self.now c.inputs.result c.outputs.result c.requires.some c.requires.within (omega arith)
    c.requires.path i.value i.few o.value o.few in
    let a = c.if-size-le-MOST_VALUE_VARIABLES.false in
    let b = c.if-size.false in
    subst (λ (us : List MaskedNumbers). IsReady (get_or us (count_ones c.args.set - 5) d) (trailing_zeros w16 c.args.set))
    (sym c.deref_mut-else-size.ensures.value)
    (is_ready c.args.search.now.problem c.args.set c.args.self.now g (omega (arith, a, b)) d)

pub returns-in_ok-number_values : goal.returns-in_ok-number_values
returns-in_ok-number_values c =
    let p = c.args.search.now.problem in
    let set' = c.args.set in
    let old = c.args.self.now in
    let i = c.inputs.ensures in
    let o = c.outputs.ensures in
    let g = given c.args.search.now.problem c.args.set c.args.self.now c.inputs.result c.outputs.result c.requires.some c.requires.within (omega arith)
    c.requires.path i.value i.few o.value o.few in
    let n = g.is in
    let x = trailing_zeros w16 set' in
    let t = c.if-size.true in
    let less = n.less in
    let to = c.number_values.new.to in
    let before = before_is old.entries (count_ones set') old.values.items c.deref.result.now c.values_over-values.result.now t
    c.values_over-values.ensures c.deref.ensures.value in
    let are' = sym before ∙ are p set' old g (omega (arith, t)) in
    let made = subst (λ (S : List ℕ). NumbersValues S (set_values p (set' - 2 ^ x)) x to.numbers.items to.masks.items)
    (members_enough p.inputs 16 set' g.few_inputs n.within)
    (subst (λ (vs : List ℕ). NumbersValues (members 16 set') vs x to.numbers.items to.masks.items) are' c.in_ok-number_values.ensures) in
    let half = numbered_place (set_values p (set' - 2 ^ x)) to.numbers.items x made.numbers_are in
    let l = short p set' old g (omega (arith, t)) in
    let e = ap length (are p set' old g (omega (arith, t))) in
    let h = holds_classes p set' x n.low n.within to.numbers.items to.masks.items made
    (size_is p set' x n.low n.within 3 (omega (arith, less, t))) g.few_inputs (omega (arith, half, l, e)) in
    let many = g.path.many in
    let f = n.few in
    let some : 0 < length old.classes.items = omega (arith, many, f, t) in
    let zero' : count_ones set' - 4 ≡ 0 = omega (arith, t) in
    step_classes p set' old g
    (record { entries = old.entries; values = old.values; classes = with_item old.classes 0 to; memory = c.number_values.new.memory })
    refl
    (set old.classes.items 0 to) refl refl (length-set old.classes.items 0 to) (omega (arith, t))
    (λ d. subst (λ (u : MaskedNumbers). HoldsClasses (classes_of p set') u.numbers.items u.masks.items)
    (sym (ap (λ k. get_or (set old.classes.items 0 to) k d) zero' ∙ get_or-set_same old.classes.items 0 to d some)) h)
    (λ j d ne. get_or-set_other old.classes.items 0 j to d (λ z. ne (z ∙ sym zero')))

pub returns-in_ok-make_classes : goal.returns-in_ok-make_classes
returns-in_ok-make_classes c =
    let p = c.args.search.now.problem in
    let set' = c.args.set in
    let old = c.args.self.now in
    let i = c.inputs.ensures in
    let o = c.outputs.ensures in
    let g = given c.args.search.now.problem c.args.set c.args.self.now c.inputs.result c.outputs.result c.requires.some c.requires.within (omega arith)
    c.requires.path i.value i.few o.value o.few in
    let n = g.is in
    let x = trailing_zeros w16 set' in
    let a = c.if-size-le-MOST_VALUE_VARIABLES.false in
    let b = c.if-size.false in
    let more : 4 < count_ones set' = omega (arith, a, b) in
    let d' = c.deref_mut-else-size.ensures in
    let made = c.make_classes.new.classes in
    let from = subst (λ (us : List MaskedNumbers). IsNumberedFrom us made (count_ones set' - 5) x) d'.value c.in_ok-make_classes.ensures in
    let one : count_ones set' - 5 + 1 ≡ count_ones set' - 4 = omega (arith, more) in
    step_classes p set' old g
    (record {
      entries = old.entries;
      values = old.values;
      classes = with_items old.classes made;
      memory = record { pairs = c.make_classes.new.memory; values = old.memory.values };
    }) refl
    made refl (with_items_is old.classes made (from.long ∙ sym (ap length d'.value) ∙ d'.len)) from.long (omega (arith, more))
    (λ d. let u = get_or old.classes.items (count_ones set' - 5) d in
    classes_made p set' x n.low n.within u.numbers.items u.masks.items (classes p set' old g more d)
    (get_or made (count_ones set' - 4) d).numbers.items (get_or made (count_ones set' - 4) d).masks.items
    (subst (λ (k : ℕ). NumbersPairs u.masks.items x (pairs u.numbers.items (2 ^ x)) (get_or made k d).numbers.items (get_or made k d).masks.items) one
    (from.numbered d)))
    (λ j d ne. from.others j d (λ e. ne (e ∙ one)))
