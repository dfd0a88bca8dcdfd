-- The values of functions at points, as numbers, and exchanges that these numbers do not notice.
--     TellTo t j values      points with equal numbers have equal values of the first j functions
--     room      one bit more fits 16 bits
--     tell_more      with one function more
--     renamed_moved, renamed_back      functions with exchanged variables are the others at exchanged points, both ways
--     symmetric_by_values, exchange_by_values      where points and their images have equal numbers, variables may be exchanged
use Rattle.std.proofs.Common.{◌≡◌, ℕ, zero, suc, ◌+◌, ◌*◌, ◌^◌, ◌<◌, ◌≤◌, Bool, true, false, inl, inr, List, [], ◌∷◌, length, map, get_or, slice_index, refl, sym, ap, ◌∙◌, subst, arith, pow_mono, pow_pos}
use mir.Val.{bool_byte}
use Rattle.std.proofs.lemmas.Bool.{cases_eq, cases_lt}
use Rattle.std.proofs.lemmas.Grind.{pow_more}
use Rattle.std.proofs.lemmas.List.{get_or-map, get_or_past, length-map}
use Rattle.std.proofs.lemmas.Nat.Bits.{same_from_bits_below}
use Rattle.definitions.specs.Functions.{Point, weight, number, from_table, SameFunction}
use Rattle.definitions.specs.Problems.{TruthTables, functions, packed_bit, table_at, table_in, value_at}
use Rattle.definitions.proofs.Bits.PointNumbers.{number-small, bit-number}
use Rattle.definitions.proofs.Lists.Sets.{Among, among_from_map, among_map}
use Rattle.subfunction_classes.proofs.ValueRows.{bit_in}
use Rattle.symmetries.specs.Exchanges.{AreSymmetric, IsExchange, exchanged}
use Rattle.symmetries.specs.Images.{AreImages, TellValues}
use Rattle.symmetries.specs.Orbits.{IsExchangeOf}
use Rattle.symmetries.specs.Renamings.{IsRenamed, RenamedOf}
use Rattle.std.specs.Int.{bit_at}
use Rattle.symmetries.proofs.SymmetricWidths.{AreMoved, bit_exchanged, length_exchanged}

-- points with equal numbers have equal values of the first j functions
pub record TellTo (t : TruthTables) (j : ℕ) (values : List ℕ) : Type 0 where
  pub long : length values ≡ 2 ^ t.inputs
  pub below : (p : ℕ) → slice_index values p < 2 ^ j
  pub labels : (p q : ℕ) → p < 2 ^ t.inputs → q < 2 ^ t.inputs → slice_index values p ≡ slice_index values q → (i : ℕ) → i < j → value_at t i p ≡ value_at t i q

-- the last bits and what stands before them are told by the sum
parts_same : (a b : ℕ) (v w : Bool) → 2 * a + weight v ≡ 2 * b + weight w → (a ≡ b) × (v ≡ w)
parts_same a b v w h = grind arith

weight_small : (v : Bool) → weight v ≤ 1
weight_small true = omega arith
weight_small false = omega arith

-- one bit more fits 16 bits
pub room : (value before : ℕ) (bit : Bool) → before < 16 → value < 2 ^ before → 2 * value + bool_byte bit < 65536
room value before bit few below = grind (arith, pow_mono, bool_byte)

-- with one function more
pub tell_more : (t : TruthTables) (j : ℕ) (old new words : List ℕ) → TellTo t j old → length new ≡ length old → table_in t.inputs words ≡ table_at t j →
    ((p : ℕ) → p < length old → slice_index new p ≡ 2 * slice_index old p + weight (packed_bit words p)) → TellTo t (j + 1) new
tell_more t j old new words tell long table each = record {
  long = long ∙ tell.long;
  below = λ p. elim (cases_lt p (length old)) [
    | inl l ↦ omega (arith, weight_small (packed_bit words p), pow_more 2 j)
    | inr ge ↦ (let s = pow_pos (j + 1) in omega (arith, get_or_past new p 0 (omega arith)))
  ];
  labels = λ p q l m e i less.
      let parts = parts_same (slice_index old p) (slice_index old q) (packed_bit words p) (packed_bit words q)
      (sym (each p (omega arith)) ∙ e ∙ each q (omega arith)) in
      elim (cases_eq i j) [
        | inl s ↦ ap (λ k. value_at t k p) s ∙ sym (value p l) ∙ parts.1 ∙ value q m ∙ ap (λ k. value_at t k q) (sym s)
        | inr ne ↦ tell.labels p q l m parts.0 i (omega arith)
      ];
}
  where
    value : (p : ℕ) → p < 2 ^ t.inputs → packed_bit words p ≡ value_at t j p
    value p l = bit_in t.inputs words p l ∙ ap (λ u. get_or u p false) table

-- the number of a point with exchanged variables is the image of its number
number_exchanged : (n : ℕ) (partners images : List ℕ) → IsExchange n partners → AreImages n partners images → (p : Point) → length p ≡ n →
    number (exchanged n partners p) ≡ slice_index images (number p)
number_exchanged n partners images e are p l =
    let image = are.each (number p) (subst (λ k. number p < 2 ^ k) l (number-small p)) in
    let long = length_exchanged n partners p in
    let other : number (exchanged n partners p) < 2 ^ n = subst (λ k. number (exchanged n partners p) < 2 ^ k) long (number-small (exchanged n partners p)) in
    same_from_bits_below n (number (exchanged n partners p)) (slice_index images (number p)) other image.small (λ y less.
    bit-number (exchanged n partners p) y (omega arith) ∙ ap weight (bit_exchanged n partners p y less)
    ∙ sym (image.bits y less ∙ bit-number p (slice_index partners y) (omega arith)))

-- an exchange is its own inverse on points and sets
images_back : (n : ℕ) (partners images : List ℕ) → IsExchange n partners → AreImages n partners images → (k : ℕ) → k < 2 ^ n →
    slice_index images (slice_index images k) ≡ k
images_back n partners images e are k l =
    let here = are.each k l in
    let there = are.each (slice_index images k) here.small in
    same_from_bits_below n (slice_index images (slice_index images k)) k there.small l
    (λ y less. there.bits y less ∙ here.bits (slice_index partners y) (e.inside y less) ∙ ap (bit_at k) (e.back y less))

-- an element stands at some place
place_of : {X : Type 0} (d x : X) (xs : List X) → Among x xs → (j : ℕ) × (j < length xs) × (get_or xs j d ≡ x)
place_of d x [] h = absurd h
place_of d x (y ∷ ys) h = elim h [
  | inl e ↦ (0, omega arith, sym e)
  | inr r ↦ (let place = place_of d x ys r in (suc place.0, omega (arith, place.1), place.2))
]

-- what stands at a place is an element
among_place : {X : Type 0} (d : X) (xs : List X) (j : ℕ) → j < length xs → Among (get_or xs j d) xs
among_place d [] j l = absurd (omega arith)
among_place d (x ∷ xs) zero l = inl refl
among_place d (x ∷ xs) (suc j) l = inr (among_place d xs j (omega arith))

-- where tables have the values of others at images, their functions are those at exchanged points
moved_by_values : (n : ℕ) (partners images : List ℕ) (ts us : List (List Bool)) → IsExchange n partners → AreImages n partners images → length us ≡ length ts →
    ((j k : ℕ) → j < length ts → k < 2 ^ n → get_or (get_or us j []) k false ≡ get_or (get_or ts j []) (slice_index images k) false) →
    AreMoved n partners (map from_table ts) (map from_table us)
unfolding SameFunction from_table
moved_by_values n partners images ts us e are long values g m =
    let own = among_from_map from_table g us m in
    let place = place_of [] own.0 us own.1 in
    let fewer : place.0 < length ts = omega (arith, place.1) in (
      from_table (get_or ts place.0 []),
      among_map from_table (get_or ts place.0 []) ts (among_place [] ts place.0 fewer),
      λ p l.
          ap (λ f. f p) own.2 ∙ ap (λ u. get_or u (number p) false) (sym place.2)
          ∙ values place.0 (number p) fewer (subst (λ k. number p < 2 ^ k) l (number-small p))
          ∙ ap (λ k. get_or (get_or ts place.0 []) k false) (sym (number_exchanged n partners images e are p l)),
    )

-- the functions with exchanged variables are the others at exchanged points
pub renamed_moved : (p : TruthTables) (r : RenamedOf) → IsRenamed p r → AreMoved p.inputs r.exchange.partners (functions p) (functions r.problem)
renamed_moved p r is =
    moved_by_values p.inputs r.exchange.partners r.exchange.images p.tables r.problem.tables is.is_exchange is.images_are is.outputs is.values

-- and the others are these at exchanged points
pub renamed_back : (p : TruthTables) (r : RenamedOf) → IsRenamed p r → AreMoved p.inputs r.exchange.partners (functions r.problem) (functions p)
renamed_back p r is =
    moved_by_values p.inputs r.exchange.partners r.exchange.images r.problem.tables p.tables is.is_exchange is.images_are (sym is.outputs)
    (λ j k l m.
    let image = is.images_are.each k m in
    sym (is.values j (slice_index r.exchange.images k) (omega (arith, is.outputs)) image.small
    ∙ ap (value_at p j) (images_back p.inputs r.exchange.partners r.exchange.images is.is_exchange is.images_are k m)))

-- where points and their images have equal numbers, the functions are symmetric
pub symmetric_by_values : (t : TruthTables) (partners images values : List ℕ) → IsExchange t.inputs partners → AreImages t.inputs partners images →
    TellValues t values → length values ≡ 2 ^ t.inputs →
    ((p : ℕ) → p < length values → slice_index values (slice_index images p) ≡ slice_index values p) → AreSymmetric t.inputs (functions t) partners
unfolding SameFunction from_table
symmetric_by_values t partners images values e are tell long alike k d less =
    let fewer : k < length t.tables = omega (arith, length-map t.tables from_table) in
    subst (λ f. SameFunction t.inputs f (λ p. f (exchanged t.inputs partners p))) (sym (get_or-map from_table t.tables k [] d fewer)) (at fewer)
  where
    at : k < length t.tables → SameFunction t.inputs (from_table (table_at t k)) (λ p. from_table (table_at t k) (exchanged t.inputs partners p))
    at fewer p l =
        let small : number p < 2 ^ t.inputs = subst (λ m. number p < 2 ^ m) l (number-small p) in
        let image = (are.each (number p) small).small in
        sym (tell (slice_index images (number p)) (number p) image small (alike (number p) (omega arith)) k fewer)
        ∙ ap (value_at t k) (sym (number_exchanged t.inputs partners images e are p l))

-- so they are an exchange of the problem's variables
pub exchange_by_values : (t : TruthTables) (n : ℕ) → t.inputs ≡ n → (partners images values : List ℕ) → IsExchange n partners → AreImages n partners images →
    TellValues t values → length values ≡ 2 ^ n →
    ((p : ℕ) → p < length values → slice_index values (slice_index images p) ≡ slice_index values p) →
    IsExchangeOf t (record { partners = partners; images = images })
exchange_by_values t n same partners images values exchange are tell long alike = record {
  is_exchange = own;
  symmetric = symmetric_by_values t partners images values own here tell (long ∙ ap (λ k. 2 ^ k) (sym same)) alike;
  images_are = here;
}
  where
    own : IsExchange t.inputs partners
    own = subst (λ k. IsExchange k partners) (sym same) exchange

    here : AreImages t.inputs partners images
    here = subst (λ k. AreImages k partners images) (sym same) are
