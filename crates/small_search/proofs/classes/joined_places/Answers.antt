use Rattle.std.proofs.Common.{◌+◌, ◌*◌, cond, eq-eqb, ne_eqb, sym, ap, ap₂, ◌∙◌, arith, bit_or}
use Rattle.std.specs.Int.Bits.{or_zero_r}
use Rattle.small_search.specs.Values.{places}
use Rattle.small_search.proofs.ValuePlaces.{joined_bits, places_below}
use Rattle.small_search.proofs.classes.joined_places.Goals as goal

pub returns-then-pair-clause-places : goal.returns-then-pair-clause-places
returns-then-pair-clause-places c =
    let l = c.args.pair.0 in
    let h = c.args.pair.1 in
    ap₂ bit_or c.places_of.ensures.places c.places_of-2.ensures.places
    ∙ sym (joined_bits l h c.requires.lower c.requires.upper
    ∙ ap (λ b. bit_or (bit_or (places 3 l) (places 3 h)) (cond b 0 8)) (eq-eqb l h c.if-pair.true)
    ∙ or_zero_r (bit_or (places 3 l) (places 3 h)))

pub returns-else-pair-clause-places : goal.returns-else-pair-clause-places
returns-else-pair-clause-places c =
    let l = c.args.pair.0 in
    let h = c.args.pair.1 in
    ap₂ (λ a b. bit_or (bit_or a b) 8) c.places_of.ensures.places c.places_of-2.ensures.places
    ∙ sym (joined_bits l h c.requires.lower c.requires.upper
    ∙ ap (λ b. bit_or (bit_or (places 3 l) (places 3 h)) (cond b 0 8)) (ne_eqb l h c.if-pair.false))

pub returns-then-pair-clause-few : goal.returns-then-pair-clause-few
returns-then-pair-clause-few c =
    let e = returns-then-pair-clause-places c in
    let b = places_below 4 (c.args.pair.0 + c.args.pair.1 * 256) in
    omega (arith, e, b)

pub returns-else-pair-clause-few : goal.returns-else-pair-clause-few
returns-else-pair-clause-few c =
    let e = returns-else-pair-clause-places c in
    let b = places_below 4 (c.args.pair.0 + c.args.pair.1 * 256) in
    omega (arith, e, b)
