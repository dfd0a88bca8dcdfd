use Rattle.std.proofs.Common.{◌≡◌, ℕ, IfOk, ◌*◌, ◌-◌, ◌^◌, ◌<◌, map, length, get_or, sym, ap, ◌∙◌, subst, arith, min}
use Rattle.std.specs.List.{range_with_len}
use Rattle.std.proofs.lemmas.Iterator.{YieldsList-from_range, items_from_collect}
use Rattle.std.proofs.lemmas.List.FromFn.{get_or-range_with_len, length-range_with_len}
use Rattle.std.proofs.lemmas.Nat.{pow_pos}
use Rattle.definitions.specs.Problems.{value_at}
use Rattle.subfunction_classes.specs.Values.{values_of, number_of}
use Rattle.subfunction_classes.proofs.StartClasses.{length_values}
use Rattle.compaction.specs.NamedStrips.{number_in}
use Rattle.compaction.specs.ValueStrips.{HoldsValues}
use Rattle.compaction.proofs.StripNumbers.{whole_are, whole_values, long_numbers, few_numbers}
use Rattle.compaction.proofs.NamedStrips.{stored_strips, stored_values, stored_long}
use Rattle.compaction.proofs.values.value_strips.Goals as goal

pub numbers_of-requires : goal.numbers_of-requires
numbers_of-requires c =
    let k = ap length c.as_slice.ensures.keys in let n = c.in_ok-outer-2.ensures.names.few in let f = c.in_ok-outer-2.ensures.few in omega arith

pub value-requires-clause-output : goal.value-requires-clause-output
value-requires-clause-output c = c.name_strips.ensures.some

pub returns : goal.returns
returns c =
    let p = c.args.problem.now in
    let first = value_at p 0 0 in
    let found = c.in_ok-outer-2.field-0 in
    let outer = found.outer.items in
    let strips = found.strips.keys in
    let names = c.in_ok-outer-2.ensures.names in
    let low : 8 ≡ min p.inputs 8 = (let r = c.if-inputs-lt8.false in omega arith) in
    let numbers : c.in_ok-numbers-2.numbers.items ≡ map (number_in first strips) (range_with_len 0 (length strips * 256)) =
    c.in_ok-numbers-2.ensures
    ∙ (λ i. map (number_in (c.value.ensures i) (c.as_slice.ensures.keys i)) (range_with_len 0 (length (c.as_slice.ensures.keys i) * 256))) in
    subst (λ k. HoldsValues p outer c.in_ok-numbers-2.numbers.items (2 ^ k)) low
    (subst (λ ns. HoldsValues p outer ns 256) (sym numbers)
    (record {
      strips = stored_strips (values_of p) first outer strips names;
      values = stored_values (values_of p) first outer strips names (c.in_ok-outer-2.ensures.long ∙ sym (length_values p));
      few = (let l = stored_long (values_of p) first outer strips names in let f = c.in_ok-outer-2.ensures.few in let n = names.few in omega arith);
    }))

pub returns-then-inputs-lt8 : goal.returns-then-inputs-lt8
returns-then-inputs-lt8 c =
    let p = c.args.problem.now in
    let n = length p.tables in
    let numbers = c.in_ok-numbers.numbers.items in
    let outer = c.in_ok-outer.outer.items in
    let o = c.outputs.ensures.value in
    let f = c.from.ensures in
    let chain = YieldsList-from_range 0 n n (ap (λ k. record { start = 0; end = k }) (let e : c.from.result ≡ n = omega arith in e))
    (let e : n - 0 ≡ n = omega arith in e) in
    let items : outer ≡ range_with_len 0 n =
    subst (λ r. IfOk r (λ v. v.items ≡ range_with_len 0 n)) c.in_ok-outer.was (items_from_collect c.collect.result c.collect.ensures.ran chain) in
    let many : length outer ≡ n = ap length items ∙ length-range_with_len 0 n in
    let places : (i : ℕ) → i < length outer → get_or outer i 0 ≡ i =
    λ i lt. ap (λ us. get_or us i 0) items ∙ get_or-range_with_len 0 n i 0 (omega arith) ∙ omega arith in
    let whole : length numbers ≡ length outer * 2 ^ p.inputs =
    ap length c.in_ok-numbers.ensures.numbers ∙ long_numbers p (number_of (value_at p 0 0)) ∙ ap (λ k. k * 2 ^ p.inputs) (sym many) in
    let few : HoldsValues p outer numbers (2 ^ p.inputs) = grind (arith, whole_are, whole_values, pow_pos, few_numbers) in
    subst (λ k. HoldsValues p outer numbers (2 ^ k)) (let t = c.if-inputs-lt8.true in let e : p.inputs ≡ min p.inputs 8 = omega arith in e) few
