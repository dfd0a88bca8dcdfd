use mir.Val.{bool_byte}
use Rattle.std.proofs.Common.{◌≡◌, ◌<◌, ◌++◌, ◌∷◌, [], ◌^◌, map, get_or, Bool, true, false, refl, sym, ap, ◌∙◌, arith}
use Rattle.std.specs.List.{range_with_len}
use Rattle.std.proofs.lemmas.Nat.{one_shl}
use Rattle.std.proofs.lemmas.List.FromFn.{map-range_with_len_more}
use Rattle.definitions.specs.Functions.{weight}
use Rattle.definitions.specs.Problems.{table_in}
use Rattle.subfunction_classes.specs.Values.{row}
use Rattle.subfunction_classes.proofs.ValueRows.{bit_in, one_more}
use Rattle.small_search.proofs.values.push_values.Goals as goal

weight_is : (b : Bool) → bool_byte b ≡ weight b
weight_is true = refl
weight_is false = refl

pub bit_of-requires : goal.bit_of-requires
bit_of-requires c =
    let s = one_shl c.args.inputs 64 (let f = c.requires.few in omega arith) in
    let t = c.loop-point-test.true in
    let l = c.requires.long in
    omega arith

pub loop-point-preserved : goal.loop-point-preserved
loop-point-preserved c =
    let t = table_in c.args.inputs c.args.words.now in
    let j = c.loop-point.point in
    let s = one_shl c.args.inputs 64 (let f = c.requires.few in omega arith) in
    let small : j < 2 ^ c.args.inputs = (let k = c.loop-point-test.true in omega arith) in
    let v = c.from.ensures ∙ weight_is c.bit_of.result ∙ ap weight (c.bit_of.ensures ∙ bit_in c.args.inputs c.args.words.now j small) in
    c.in_ok-push.ensures.items ∙ (λ i. c.loop-point.invariant i ++ (v i ∷ []))
    ∙ one_more c.args.values.now.items (map (λ k. get_or t k false) (range_with_len 0 j)) weight (get_or t j false)
    ∙ ap (λ us. c.args.values.now.items ++ map weight us) (sym (map-range_with_len_more (λ k. get_or t k false) 0 j j (omega arith)))

pub returns : goal.returns
unfolding row
returns c =
    let s = one_shl c.args.inputs 64 (let f = c.requires.few in omega arith) in
    let last : c.loop-point.point ≡ 2 ^ c.args.inputs = omega arith in
    c.loop-point.invariant
    ∙ ap (λ k. c.args.values.now.items ++ map weight (map (λ j. get_or (table_in c.args.inputs c.args.words.now) j false) (range_with_len 0 k))) last
