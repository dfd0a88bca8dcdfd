use Rattle.std.proofs.Common.{◌≡◌, ℕ, suc, ◌+◌, ◌*◌, ◌-◌, ◌^◌, ◌<◌, ◌≤◌, [], false, length, get_or, sym, ap, ◌∙◌, subst, arith, mul_assoc, zero-mul, pow_mono}
use Rattle.std.proofs.lemmas.Grind.{common_steps}
use Rattle.std.proofs.Math.Nat.{suc-mul, mul-le-mul_left}
use Rattle.definitions.specs.Problems.{outputs_of}
use Rattle.subfunction_classes.specs.Values.{values_of}
use Rattle.compaction.specs.NamedStrips.{NamesStrips}
use Rattle.compaction.proofs.NamedStrips.{names_none, words_parted, table_bit, values_at}
use Rattle.compaction.proofs.values.name_strips.Goals as goal

few_places : (n : ℕ) → n ≤ 16 → 2 ^ (n - 8) ≤ 256
few_places n h = pow_mono {j = 8} (omega arith)

pub loop-output-init : goal.loop-output-init
loop-output-init c =
    let outer = c.in_ok-with_capacity.ensures.items in
    let strips = c.new.ensures.empty in
    let z = zero-mul (2 ^ (c.args.problem.now.inputs - 8)) in
    record {
      long = ap length outer ∙ omega arith;
      room = (let l = ap length strips in omega arith);
      names = subst (NamesStrips (values_of c.args.problem.now) c.in_ok-with_capacity.field-0.items) (sym strips)
          (subst (λ o. NamesStrips (values_of c.args.problem.now) o []) (sym outer) (names_none (values_of c.args.problem.now)));
    }

pub push_strips-requires-clause-whole : goal.push_strips-requires-clause-whole
push_strips-requires-clause-whole c =
    let n = c.args.problem.now.inputs in
    (2 ^ (n - 8), c.words.ensures.long ∙ (words_parted n c.requires).0)

pub push_strips-requires-clause-few : goal.push_strips-requires-clause-few
push_strips-requires-clause-few c = grind (arith, few_places, words_parted)

pub push_strips-requires-clause-room : goal.push_strips-requires-clause-room
push_strips-requires-clause-room c =
    let n = c.args.problem.now.inputs in
    let v = c.inputs.ensures.value in
    let f = few_places n (let b = c.inputs.ensures.few in omega arith) in
    let m = mul-le-mul_left c.loop-output.output f in
    let t = c.loop-output-test.true in
    let o = c.outputs-output-end.ensures.few in
    let r = c.loop-output.invariant.room in
    omega arith

pub loop-output-preserved : goal.loop-output-preserved
loop-output-preserved c =
    let p = c.args.problem.now in
    let n = p.inputs in
    let output = c.loop-output.output in
    let parts = words_parted n c.requires in
    let w = c.words.ensures.long ∙ parts.0 in
    let s = suc-mul output (2 ^ (n - 8)) in
    let a : (output + 1) * 2 ^ (n - 8) ≡ output * 2 ^ (n - 8) + 2 ^ (n - 8) =
    ap (λ k. k * 2 ^ (n - 8)) (let e : output + 1 ≡ suc output = omega arith in e) ∙ s in
    let l = c.in_ok-push_strips.ensures.long in
    let r = c.in_ok-push_strips.ensures.room in
    let li = c.loop-output.invariant.long in
    let ri = c.loop-output.invariant.room in
    let q : output * 2 ^ n ≡ output * 2 ^ (n - 8) * 256 = ap (λ m. output * m) parts.1 ∙ sym (mul_assoc output (2 ^ (n - 8)) 256) in
    let v = c.outputs-output-end.ensures.value in
    let small : output < outputs_of p = (let t = c.loop-output-test.true in omega arith) in
    record {
      long = omega arith;
      room = omega arith;
      names = c.in_ok-push_strips.ensures.names (values_of p) c.loop-output.invariant.names
          (λ k h.
          let inside : k < 2 ^ n = (let z = parts.1 in omega arith) in
          table_bit n c.words.result.now k inside ∙ ap (λ t. get_or t k false) c.words.ensures.table ∙ sym (values_at p output k small inside)
          ∙ ap (λ j. get_or (values_of p) j false) (let e : output * 2 ^ n + k ≡ length c.loop-output.found.outer.items * 256 + k = omega arith in e));
    }

pub returns-clause-long : goal.returns-clause-long
returns-clause-long c =
    let p = c.args.problem.now in
    let n = p.inputs in
    let parts = words_parted n c.requires in
    let v = c.outputs-output-end.ensures.value in
    let last : c.loop-output.output ≡ outputs_of p = (let t = c.loop-output-test.false in let u = c.loop-output.auto.output-end in omega arith) in
    ap (λ k. k * 256) (c.loop-output.invariant.long ∙ ap (λ k. k * 2 ^ (n - 8)) last) ∙ mul_assoc (outputs_of p) (2 ^ (n - 8)) 256
    ∙ ap (λ m. outputs_of p * m) (sym parts.1)

pub returns-clause-few : goal.returns-clause-few
returns-clause-few c =
    let n = c.args.problem.now.inputs in
    let v = c.inputs.ensures.value in
    let f = few_places n (let b = c.inputs.ensures.few in omega arith) in
    let m = mul-le-mul_left c.loop-output.output f in
    let u = c.loop-output.auto.output-end in
    let o = c.outputs-output-end.ensures.few in
    let r = c.loop-output.invariant.long in
    omega arith

pub words-requires : goal.words-requires
words-requires c = grind (arith, common_steps)
