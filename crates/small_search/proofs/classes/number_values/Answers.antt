use Rattle.std.proofs.Common.{◌≡◌, ℕ, ◌+◌, ◌*◌, ◌^◌, List, map, length, get_or, sym, ap, subst, ◌∙◌, arith}
use Rattle.definitions.specs.Orders.{members}
use Rattle.definitions.proofs.Bits.Ones.{ones-members}
use Rattle.definitions.proofs.Lists.Maps.{map_same}
use Rattle.subfunction_classes.specs.Places as places_of_pairs
use Rattle.subfunction_classes.proofs.DistinctPairs.{met_classes, masks_many, masks_told}
use Rattle.pair_numbering.specs.Numbers.{ArePairsBelow, ArePairsNumbered}
use Rattle.small_search.specs.Values.{mask_at, mask_over, places}
use Rattle.small_search.proofs.ValuePlaces.{mask_of_places}
use Rattle.small_search.proofs.classes.number_values.Goals as goal

-- the numbers are those of pairs of values
numbered : (c : goal.After-write_masks-arg-1) →
    ArePairsNumbered c.args.values.now c.args.x c.number.new.numbers.items c.number.new.self.pairs.items
numbered c =
    let e = c.of_table-entries.ensures in
    let values = e.numbers ∙ c.deref.ensures.value ∙ c.in_ok-widen.ensures in
    let rank = e.rank ∙ c.from.ensures in
    subst (λ z. z) (λ i. ArePairsNumbered (values i) (rank i) c.number.new.numbers.items c.number.new.self.pairs.items) c.in_ok-number.ensures

-- both values of each pair
bytes : (c : goal.After-write_masks-arg-1) → ArePairsBelow c.deref-2.result.now 256
bytes c =
    let n = numbered c in
    subst (λ ps. ArePairsBelow ps 256) (sym c.deref-2.ensures.value)
    (met_classes c.args.values.now c.args.x 256 c.requires.paired.whole c.requires.below c.number.new.numbers.items c.number.new.self.pairs.items
    n.numbered_are n.many n.labels)

pub write_masks-requires-clause-lower : goal.write_masks-requires-clause-lower
write_masks-requires-clause-lower c = λ k l. (bytes c k l).0

pub write_masks-requires-clause-upper : goal.write_masks-requires-clause-upper
write_masks-requires-clause-upper c = λ k l. (bytes c k l).1

pub returns : goal.returns
returns c =
    let S = members 16 c.args.set in
    let ps = places_of_pairs.pairs c.args.values.now (2 ^ c.args.x) in
    let join : ℕ × ℕ → ℕ = λ p. mask_over S (p.0 + p.1 * 256) in
    let numbers = c.number.new.numbers.items in
    let pairs = c.number.new.self.pairs.items in
    let e = c.of_table-entries.ensures in
    let values = e.numbers ∙ c.deref.ensures.value ∙ c.in_ok-widen.ensures in
    let rank = e.rank ∙ c.from.ensures in
    let n = subst (λ z. z) (λ i. ArePairsNumbered (values i) (rank i) numbers pairs) c.in_ok-number.ensures in
    let o = ones-members 16 c.args.set (omega arith) in
    let four = c.requires.four in
    let size : length S ≡ 4 = omega (arith, o, four) in
    let masks = c.in_ok-write_masks.ensures
    ∙ ap (λ (us : List (ℕ × ℕ)). map (λ (p : ℕ × ℕ). mask_at S (places 4 (p.0 + p.1 * 256))) us) c.deref-2.ensures.value
    ∙ map_same (λ (p : ℕ × ℕ). mask_at S (places 4 (p.0 + p.1 * 256))) join pairs
    (λ p a. ap (λ k. mask_at S (places k (p.0 + p.1 * 256))) (sym size) ∙ mask_of_places S (p.0 + p.1 * 256)) in
    record {
      numbers_are = n.numbered_are;
      many = ap length masks ∙ masks_many ps numbers pairs n.numbered_are n.many n.labels join;
      labels = (λ t. map (λ k. get_or (masks t) k 0) numbers) ∙ masks_told ps numbers pairs n.numbered_are n.many n.labels join;
    }
