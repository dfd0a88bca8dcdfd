use Rattle.std.proofs.Common.{◌≡◌, ℕ, zero, suc, ◌+◌, ◌-◌, ◌*◌, ◌/◌, ◌%◌, ◌^◌, ◌≤◌, List, ◌++◌, length, sym, ap, ◌∙◌, subst, arith}
use Rattle.std.proofs.Math.Nat.{div-div-eq-div-mul}
use Rattle.std.proofs.lemmas.List.{length-append}
use Rattle.std.proofs.lemmas.Nat.{one_shl, pow-add}
use Rattle.subfunction_classes.specs.PairTables.{AllBelow, IsPaired}
use Rattle.small_search.specs.Joining.{AreJoined}
use Rattle.small_search.specs.ValuePlaces.{values_at}
use Rattle.small_search.proofs.ValueParts.{part_ending, part_long, part_other, part_own, start_next, start_within}
use Rattle.small_search.proofs.tables.make_values.Goals as goal

pub split_at_mut-front-requires : goal.split_at_mut-front-requires
split_at_mut-front-requires c =
    let s = start_within c.args.entries c.args.size c.requires.size in
    let l = c.requires.long in
    omega (arith, s, l, c.start_of.ensures)

pub split_at-requires : goal.split_at-requires
split_at-requires c =
    let size = c.args.size in
    let some = c.requires.some in
    let s = start_next c.args.entries (size - 1) size (omega (arith, some)) in
    omega (arith, s, c.start_of.ensures, c.start_of-2.ensures, c.split_at_mut-front.ensures.front_len)

pub split_at_mut-own-requires : goal.split_at_mut-own-requires
split_at_mut-own-requires c =
    let s = start_within c.args.entries c.args.size c.requires.size in
    let l = c.requires.long in
    let b = c.split_at_mut-front.ensures.back_len in
    omega (arith, s, l, b, c.start_of.ensures)

-- two to the number of variables
shift_is : (k : ℕ) → k ≤ 2 → 1 * 2 ^ k % 2 ^ 32 ≡ 2 ^ k
shift_is k l = one_shl k 32 (omega (arith, l))

shift_small : (k : ℕ) → k ≤ 2 → 2 ^ k ≤ 4
shift_small zero l = omega arith
shift_small (suc zero) l = omega arith
shift_small (suc (suc zero)) l = omega arith
shift_small (suc (suc (suc k))) l = absurd (omega (arith, l))

shift : (size : ℕ) → 1 ≤ size → size ≤ 3 → 1 * 2 ^ (size - 1) % 2 ^ 32 ≡ 2 ^ (size - 1)
shift size some few = shift_is (size - 1) (omega (arith, some, few))

-- half of a part
halved : (entries size : ℕ) → 1 ≤ size → entries / 2 ^ (size - 1) / 2 ≡ entries / 2 ^ size
halved entries size some = div-div-eq-div-mul entries (2 ^ (size - 1)) 2
    ∙ ap (λ k. entries / k) (sym (pow-add 2 (size - 1) 1) ∙ ap (λ k. 2 ^ k) (let f : size - 1 + 1 ≡ size = omega (arith, some) in f))

half_part : (entries size : ℕ) (values part : List ℕ) → 1 ≤ size → size ≤ 3 → length values ≡ 2 * entries →
    values_at entries values (size - 1) ≡ part → length part / 2 ≡ entries / 2 ^ size
half_part entries size values part some few long is =
    ap (λ k. k / 2) (sym (ap length is) ∙ part_long entries values (size - 1) (omega (arith, few)) long) ∙ halved entries size some

pub join_values-requires-clause-paired : goal.join_values-requires-clause-paired
join_values-requires-clause-paired c =
    let f = c.split_at_mut-front.ensures in
    subst (λ (vs : List ℕ). IsPaired vs c.args.x)
    (part_ending c.args.entries c.args.values.now _ _ c.split_at.result.1.now c.args.size _ _ c.requires.some f.value f.front_len c.start_of.ensures
    c.split_at.ensures.back c.start_of-2.ensures) c.requires.paired

pub join_values-requires-clause-shift : goal.join_values-requires-clause-shift
join_values-requires-clause-shift c =
    let some = c.requires.some in
    let few = c.requires.size in
    let l = shift_small (c.args.size - 1) (omega (arith, some, few)) in
    omega (arith, shift c.args.size some few, l)

pub join_values-requires-clause-below : goal.join_values-requires-clause-below
join_values-requires-clause-below c =
    let f = c.split_at_mut-front.ensures in
    subst (λ (vs : List ℕ). AllBelow vs (2 ^ (1 * 2 ^ (c.args.size - 1) % 2 ^ 32)))
    (part_ending c.args.entries c.args.values.now _ _ c.split_at.result.1.now c.args.size _ _ c.requires.some f.value f.front_len c.start_of.ensures
    c.split_at.ensures.back c.start_of-2.ensures)
    (subst (λ (k : ℕ). AllBelow (values_at c.args.entries c.args.values.now (c.args.size - 1)) (2 ^ k))
    (sym (shift c.args.size c.requires.some c.requires.size)) c.requires.below)

pub join_values-requires-clause-long : goal.join_values-requires-clause-long
join_values-requires-clause-long c =
    let f = c.split_at_mut-front.ensures in
    c.split_at_mut-own.ensures.front_len
    ∙ sym (half_part c.args.entries c.args.size c.args.values.now c.split_at.result.1.now c.requires.some c.requires.size c.requires.long
    (part_ending c.args.entries c.args.values.now _ _ c.split_at.result.1.now c.args.size _ _ c.requires.some f.value f.front_len c.start_of.ensures
    c.split_at.ensures.back c.start_of-2.ensures))

pub returns : goal.returns
returns c =
    let entries = c.args.entries in
    let size = c.args.size in
    let f = c.split_at_mut-front.ensures in
    let o = c.split_at_mut-own.ensures in
    let front = c.split_at_mut-front.result.0.now in
    let made = c.join_values.new.values in
    let rest = c.split_at_mut-own.result.1.now in
    let starts' = f.front_len ∙ c.start_of.ensures in
    let is = part_ending entries c.args.values.now _ _ c.split_at.result.1.now size _ _ c.requires.some f.value f.front_len c.start_of.ensures
    c.split_at.ensures.back c.start_of-2.ensures in
    let long = c.join_values.ensures.long
    ∙ half_part entries size c.args.values.now c.split_at.result.1.now c.requires.some c.requires.size c.requires.long is in
    let own = part_own entries front made rest size starts' long in
    let whole = f.value ∙ ap (λ vs. front ++ vs) o.value in
    record {
      joined = subst (λ (vs : List ℕ). AreJoined vs c.args.x (2 ^ 2 ^ (size - 1)) (values_at entries (front ++ (made ++ rest)) size)) (sym is)
          (subst (λ (vs : List ℕ). AreJoined c.split_at.result.1.now c.args.x (2 ^ 2 ^ (size - 1)) vs) (sym own)
          (subst (λ (k : ℕ). AreJoined c.split_at.result.1.now c.args.x (2 ^ k) made) (shift size c.requires.some c.requires.size) c.join_values.ensures));
      others = λ k few ne.
          part_other entries front c.split_at_mut-own.result.0.now made rest k size ne starts' o.front_len long
          ∙ sym (ap (λ vs. values_at entries vs k) whole);
      long = length-append front (made ++ rest) ∙ ap (λ k. length front + k) (length-append made rest ∙ ap (λ k. k + length rest) (long ∙ sym o.front_len)
          ∙ sym (length-append c.split_at_mut-own.result.0.now rest))
          ∙ sym (length-append front (c.split_at_mut-own.result.0.now ++ rest)) ∙ sym (ap length whole);
    }
