use Rattle.std.proofs.Common.{ℕ, List, ◌≡◌, refl, ◌+◌, ◌*◌, ◌/◌, ◌^◌, ◌<◌, ◌≤◌, length, get_or, sym, ap, ◌∙◌, subst, arith}
use Rattle.std.proofs.lemmas.Grind.{common_steps}
use Rattle.std.proofs.lemmas.List.{length-take}
use Rattle.std.proofs.Math.Nat.{add-mul-div_right, div-eq_of_lt, mul-le-mul_left}
use Rattle.std.proofs.lemmas.Nat.{pow_pos, pow-add}
use Rattle.subfunction_classes.specs.Strips.{AreNamed, names_of, unrolled}
use Rattle.subfunction_classes.specs.PairTables.{AllBelow}
use Rattle.pair_numbering.specs.Strips.{ArePairedStrips}
use Rattle.pair_numbering.specs.Keys.{TellsPairs}
use Rattle.pair_numbering.specs.Numbers.{ArePairsNumbered}
use Rattle.subfunction_classes.specs.Places as places
use Rattle.subfunction_classes.proofs.Index.{length-pairs}
use Rattle.pair_numbering.proofs.EntryPlaces.{strip_table}
use Rattle.pair_numbering.proofs.Names.{names_below, length_names}
use Rattle.subfunction_classes.proofs.StripLengths.{length_named, length_names_of}
use Rattle.compaction.specs.Strips.{GrowsStrips, IsStripTable, StripTableOf}
use Rattle.compaction.proofs.OrderedStrips.{ordered_strips, ordered_tells, ordered_whole}
use Rattle.compaction.proofs.StripPairs.{paired_few, paired_long, paired_lower, paired_named, paired_upper}
use Rattle.compaction.proofs.StripTables.{high_strips, high_tells}
use Rattle.compaction.proofs.add_variable.add_above.Goals as goal

-- the numbers of the pairs of names, by the names and the rank of the table
numbered : (outer runs ns : List ℕ) (pairs : List (ℕ × ℕ)) (rank r : ℕ) → ns ≡ outer → r ≡ rank → ArePairsNumbered ns r runs pairs →
    ArePairsNumbered outer rank runs pairs
numbered outer runs ns pairs rank r names same n =
    subst (λ k. ArePairsNumbered outer k runs pairs) same (subst (λ us. ArePairsNumbered us r runs pairs) names n)

pub of_table-requires : goal.of_table-requires
of_table-requires c =
    let t = c.table.inside in
    let table = c.table.invariant in
    let w = ordered_whole t.outer.now t.numbers.now (2 ^ t.bits) (2 ^ t.rank) table.strips (pow_pos t.bits)
    (c.if-are_in_order.ensures.up refl) table.whole in
    record {
      small_rank = table.small_rank;
      short = (let f = table.few in omega arith);
      whole = (w.0, w.1 ∙ ap (λ k. w.0 * (2 * k)) (sym (pow-add 2 t.bits t.rank)));
    }

pub returns-then-are_in_order : goal.returns-then-are_in_order
returns-then-are_in_order c =
    let t = c.table.inside in
    let table = c.table.invariant in
    let own = c.if-are_in_order.ensures.up refl in
    let outer = t.outer.now in
    let numbers = t.numbers.now in
    let step = 2 ^ (t.bits + t.rank) in
    let half = c.in_ok-outer.outer.items in
    let labels = c.in_ok-keys.keys in
    let p = c.of_table.ensures in
    let tells = subst (λ z. z)
    (λ i. TellsPairs t.masks.now c.args.x (places.pairs (p.numbers i) (2 ^ p.rank i)) labels.numbers.items labels.masks.items)
    c.in_ok-keys.ensures in
    let names =
    subst (λ k. TellsPairs t.masks.now c.args.x (places.pairs numbers k) labels.numbers.items labels.masks.items)
    (pow-add 2 t.bits t.rank) tells in
    let items = c.in_ok-outer.ensures.items_if_clones_equal (λ x y e. e) in
    let long : length half ≡ length outer / 2 = grind (arith, common_steps) in
    let first : (i : ℕ) → i < length outer / 2 → get_or half i 0 ≡ i = grind (arith, common_steps) in
    subst (λ (z : StripTableOf). GrowsStrips z c.args.x half labels.numbers.items labels.masks.items) c.table.view_is
    (record {
      strips = ordered_strips outer numbers (2 ^ t.bits) (2 ^ t.rank) table.strips (pow_pos t.bits) own table.whole
          t.masks.now c.args.x labels.numbers.items labels.masks.items names half long first;
      tells = ordered_tells outer numbers (2 ^ t.bits) (2 ^ t.rank) table.strips (pow_pos t.bits) own table.whole
          t.masks.now c.args.x labels.numbers.items labels.masks.items names half long first;
      below = names_below t.masks.now c.args.x (places.pairs numbers step) labels.numbers.items labels.masks.items tells;
      few =
          let n = length_names t.masks.now c.args.x (places.pairs numbers step) labels.numbers.items labels.masks.items tells in
          let m = length-pairs numbers step in
          let f = table.few in
          omega arith;
    })

pub of_table-names-requires : goal.of_table-names-requires
of_table-names-requires c = grind (arith, pow_pos, mul-le-mul_left, div-eq_of_lt, add-mul-div_right)

pub number-requires : goal.number-requires
number-requires c = grind (arith, pow_pos, mul-le-mul_left, div-eq_of_lt, add-mul-div_right)

-- the strips of the numbered pairs
paired_strips : (outer numbers masks : List ℕ) (rank bits : ℕ) → IsStripTable outer rank numbers bits masks → (runs : List ℕ) (pairs : List (ℕ × ℕ)) →
    ArePairsNumbered outer rank runs pairs → ArePairedStrips pairs numbers bits (length masks)
paired_strips outer numbers masks rank bits table runs pairs own =
    let len = 2 ^ bits in
    let named = paired_named outer numbers len rank table.strips table.whole runs pairs own in
    let few = paired_few outer numbers len rank table.strips table.whole runs pairs own (unrolled (names_of pairs) numbers len) refl in
    let long = length_named (names_of pairs) numbers len named ∙ ap (λ k. k * len) (length_names_of pairs) in
    record {
      named = named;
      narrow = grind (arith, common_steps);
      few = grind arith;
      small = (let most = table.len in omega arith);
      below = grind arith;
    }

pub of_strips-requires-clause-named : goal.of_strips-requires-clause-named
of_strips-requires-clause-named c =
    let t = c.table.inside in
    let pairs = c.replace-strip_pairs.result.items in
    let runs = c.number.new.numbers.items in
    let ns = c.of_table-names in
    let own = numbered t.outer.now runs ns.result.numbers pairs t.rank ns.result.rank ns.ensures.numbers ns.ensures.rank
    (subst (λ us. ArePairsNumbered ns.result.numbers ns.result.rank runs us)
    (sym (ap (λ v. v.items) c.replace-strip_pairs.ensures.value)) c.in_ok-number.ensures) in
    let strips = paired_strips t.outer.now t.numbers.now t.masks.now t.rank t.bits c.table.invariant runs pairs own in
    subst (λ us. AreNamed (names_of us) t.numbers.now (2 ^ t.bits)) (sym c.deref.ensures.value) strips.named

pub of_strips-requires-clause-small : goal.of_strips-requires-clause-small
of_strips-requires-clause-small c =
    let t = c.table.inside in
    let pairs = c.replace-strip_pairs.result.items in
    let runs = c.number.new.numbers.items in
    let ns = c.of_table-names in
    let own = numbered t.outer.now runs ns.result.numbers pairs t.rank ns.result.rank ns.ensures.numbers ns.ensures.rank
    (subst (λ us. ArePairsNumbered ns.result.numbers ns.result.rank runs us)
    (sym (ap (λ v. v.items) c.replace-strip_pairs.ensures.value)) c.in_ok-number.ensures) in
    let strips = paired_strips t.outer.now t.numbers.now t.masks.now t.rank t.bits c.table.invariant runs pairs own in
    subst (λ (us : List (ℕ × ℕ)). length us * 2 * 2 ^ t.bits ≤ 2 ^ 20) (sym c.deref.ensures.value) strips.small

pub invariant_of-pairs-2 : goal.invariant_of-pairs-2
invariant_of-pairs-2 c =
    let t = c.table.inside in
    let pairs = c.replace-strip_pairs.result.items in
    let runs = c.number.new.numbers.items in
    let ns = c.of_table-names in
    let own = numbered t.outer.now runs ns.result.numbers pairs t.rank ns.result.rank ns.ensures.numbers ns.ensures.rank
    (subst (λ us. ArePairsNumbered ns.result.numbers ns.result.rank runs us)
    (sym (ap (λ v. v.items) c.replace-strip_pairs.ensures.value)) c.in_ok-number.ensures) in
    let strips = paired_strips t.outer.now t.numbers.now t.masks.now t.rank t.bits c.table.invariant runs pairs own in
    let table = strip_table pairs t.numbers.now t.bits (length t.masks.now) strips in
    let whole = c.of_strips.ensures.numbers ∙ ap (λ us. unrolled (names_of us) t.numbers.now (2 ^ t.bits)) c.deref.ensures.value in
    record {
      few_entries = subst (λ (us : List ℕ). length us ≤ 2 ^ 20) (sym whole) table.few;
      below = subst (λ us. AllBelow us (length t.masks.now)) (sym whole) table.below;
      few = grind arith;
      variable = c.requires;
    }

pub returns : goal.returns
returns c =
    let t = c.table.inside in
    let table = c.table.invariant in
    let outer = t.outer.now in
    let numbers = t.numbers.now in
    let len = 2 ^ t.bits in
    let runs = c.number.new.numbers.items in
    let pairs = c.replace-strip_pairs.result.items in
    let paired = unrolled (names_of pairs) numbers len in
    let labels = c.in_ok-keys-2.keys in
    let ns = c.of_table-names in
    let own = numbered outer runs ns.result.numbers pairs t.rank ns.result.rank ns.ensures.numbers ns.ensures.rank
    (subst (λ us. ArePairsNumbered ns.result.numbers ns.result.rank runs us)
    (sym (ap (λ v. v.items) c.replace-strip_pairs.ensures.value)) c.in_ok-number.ensures) in
    let long = paired_long outer numbers len t.rank table.strips table.whole runs pairs own paired refl in
    let lower = paired_lower outer numbers len t.rank table.strips table.whole runs pairs own paired refl in
    let upper = paired_upper outer numbers len t.rank table.strips table.whole runs pairs own paired refl in
    let p = c.of_strips.ensures in
    let whole = p.numbers ∙ ap (λ us. unrolled (names_of us) numbers len) c.deref.ensures.value in
    let names = subst (λ z. z)
    (λ i. TellsPairs t.masks.now c.args.x (places.pairs (whole i) (2 ^ p.rank i)) labels.numbers.items labels.masks.items)
    c.in_ok-keys-2.ensures in
    subst (λ (z : StripTableOf). GrowsStrips z c.args.x runs labels.numbers.items labels.masks.items) c.table.view_is
    (record {
      strips = high_strips outer numbers len (2 ^ t.rank) table.strips (pow_pos t.bits) (pow_pos t.rank) table.whole runs paired
          own.numbered_are long lower upper t.masks.now c.args.x labels.numbers.items labels.masks.items names;
      tells = high_tells outer numbers len (2 ^ t.rank) table.strips (pow_pos t.bits) (pow_pos t.rank) table.whole runs paired
          own.numbered_are long lower upper t.masks.now c.args.x labels.numbers.items labels.masks.items names;
      below = names_below t.masks.now c.args.x (places.pairs paired len) labels.numbers.items labels.masks.items names;
      few =
          let f = table.len in
          let p = paired_few outer numbers len t.rank table.strips table.whole runs pairs own paired refl in
          let n = length_names t.masks.now c.args.x (places.pairs paired len) labels.numbers.items labels.masks.items names in
          let m = length-pairs paired len in
          omega arith;
    })

pub slice_bounds-to_vec-end : goal.slice_bounds-to_vec-end
slice_bounds-to_vec-end c = omega (arith, length-take {A = ℕ})

pub of_strips-requires-clause-few : goal.of_strips-requires-clause-few
of_strips-requires-clause-few c = c.table.invariant.few

-- a part of a small sum is small
lt_of_sum : (a b n : ℕ) → a + b < n → a < n
lt_of_sum a b n h = omega arith

pub of_strips-requires-clause-bits : goal.of_strips-requires-clause-bits
of_strips-requires-clause-bits c = lt_of_sum _ _ _ c.table.invariant.small_rank
