-- Sets that need not be judged, since an exchange of variables leads to greater ones.
--     leads_to, leads_back      a set and its image lead to each other
--     leads_on      a set that leads to a greater one leads on
--     leads_self, leads_by      a set leads to itself, and by another
--     none_lost      if no edge fails among those that are left, none fails at all
use Rattle.std.proofs.Common.{◌≡◌, ℕ, zero, suc, ◌+◌, ◌-◌, ◌^◌, ◌<◌, ◌≤◌, true, inl, inr, List, slice_index, eqb-true, eq-eqb, refl, sym, ap, ◌∙◌, subst, arith}
use Rattle.std.specs.Int.{bit_at}
use Rattle.std.proofs.lemmas.Bool.{cases_eq}
use Rattle.std.proofs.lemmas.Nat.Bits.{bit_at-lt, same_from_bits_below}
use Rattle.definitions.specs.Functions.{Function}
use Rattle.definitions.specs.Orders.{has, members}
use Rattle.definitions.specs.Widths.{width}
use Rattle.definitions.proofs.Bits.Masks.{members_without}
use Rattle.definitions.proofs.Widths.Recurrence.{has_without, absent_without}
use Rattle.edge_walks.specs.Edges.{EdgeFails, AreEdgeTables}
use Rattle.symmetries.specs.Exchanges.{IsExchange}
use Rattle.symmetries.proofs.Partners.{same_partner}
use Rattle.symmetries.specs.Images.{IsImage, AreImages}
use Rattle.symmetries.proofs.ImageWidths.{member_bit, partner_member}
use Rattle.edge_walks.specs.FewerEdges.{AreKept, LeadsOn, LeadsTo, AreFewer}
use Rattle.edge_walks.proofs.FirstEdges.{judged_within}
use Rattle.edge_walks.proofs.IntoSet.{bit_needs}

-- variables that are both members, or both not, have equal bits
same_bit : (n S T y z : ℕ) → y < n → z < n → has (members n S) y ≡ has (members n T) z → bit_at S y ≡ bit_at T z
same_bit n S T y z l m e = grind (arith, bit_at-lt, member_bit, cases_eq, eqb-true, eq-eqb)

module _ (n : ℕ) (partners : List ℕ) (exchange : IsExchange n partners) where
  -- so it is for the two sets without a variable and its partner
  partner_without : (S T x y : ℕ) → IsImage n partners S T → x < n → has (members n S) x ≡ true → y < n →
      has (members n (T - 2 ^ slice_index partners x)) (slice_index partners y) ≡ has (members n (S - 2 ^ x)) y
  partner_without S T x y image small there l = grind (arith, partner_member, members_without, slice_index, has_without, same_partner)

  -- a set with the partners of another's members is its image
  image_unique : (S T U : ℕ) → IsImage n partners S T → U < 2 ^ n →
      ((y : ℕ) → y < n → has (members n U) (slice_index partners y) ≡ has (members n S) y) → T ≡ U
  image_unique S T U image small same = same_from_bits_below n T U image.small small (λ y l.
      let m = exchange.inside y l in
      let back = ap (has (members n U)) (sym (exchange.back y l)) in
      image.bits y l ∙ sym (same_bit n U S y (slice_index partners y) l m (back ∙ same (slice_index partners y) m)))

-- a set leads to its image
pub leads_to : (n : ℕ) (F : List Function) (values judged partners images : List ℕ) → IsExchange n partners → AreImages n partners images →
    AreEdgeTables n values judged → AreKept n values judged images →
    (wide : (S T : List ℕ) (x : ℕ) → x < n → ((y : ℕ) → y < n → has T (slice_index partners y) ≡ has S y) →
    width n F T (slice_index partners x) ≤ width n F S x) →
    (T : ℕ) → T < 2 ^ n → LeadsTo n F values judged T (slice_index images T)
leads_to n F values judged partners images exchange are tables kept wide T less S x f e =
    let x' = slice_index partners x in
    let T' = slice_index images T in
    let image = are.each T less in
    let small = exchange.inside x f.small in
    let o : bit_at (slice_index judged T) x ≡ 1 = ap (λ k. bit_at (slice_index judged k) x) (sym e) ∙ f.is_judged in
    let there : has (members n T) x ≡ true = tables.members T x o in
    let there' : has (members n T') x' ≡ true = partner_member n partners exchange T T' x image f.small ∙ there in
    let enough : 2 ^ x' ≤ T' = bit_needs n T' x' there' in
    let again : (T' - 2 ^ x') + 2 ^ x' ≡ T' = omega arith in
    let same : (y : ℕ) → y < n → has (members n (T' - 2 ^ x')) (slice_index partners y) ≡ has (members n S) y =
    λ y l. partner_without n partners exchange T T' x y image f.small there l ∙ ap (λ k. has (members n k) y) (omega arith) in
    let moved : slice_index images S ≡ T' - 2 ^ x' =
    image_unique n partners exchange S (slice_index images S) (T' - 2 ^ x') (are.each S (omega arith)) (omega arith) same in
    let low : slice_index values (T' - 2 ^ x') ≡ slice_index values S = ap (slice_index values) (sym moved) ∙ kept.alike S (omega arith) in
    let high : slice_index values (T' - 2 ^ x' + 2 ^ x') ≡ slice_index values (S + 2 ^ x) =
    ap (slice_index values) again ∙ kept.alike T less ∙ ap (slice_index values) (sym e) in
    let narrow = wide (members n S) (members n (T' - 2 ^ x')) x f.small same in
    let bits = (are.each (slice_index judged T) (kept.inside T less)).bits x' small in
    let edge : EdgeFails n F values judged (T' - 2 ^ x') x' = record {
      small = small;
      new = members_without n T' x' there' x' ∙ absent_without x' (members n T');
      is_judged =
          ap (λ k. bit_at (slice_index judged k) x') again ∙ ap (λ k. bit_at k x') (kept.partners T less) ∙ bits
          ∙ ap (bit_at (slice_index judged T)) (exchange.back x f.small) ∙ o;
      fails = omega arith;
    } in
    ((T' - 2 ^ x', x'), edge, again)

-- the image of a set's image is the set
image_back : (n : ℕ) (partners images : List ℕ) → IsExchange n partners → AreImages n partners images → (T : ℕ) → T < 2 ^ n →
    slice_index images (slice_index images T) ≡ T
image_back n partners images exchange are T less =
    let there = are.each T less in
    let again = are.each (slice_index images T) there.small in
    same_from_bits_below n (slice_index images (slice_index images T)) T again.small less (λ y l.
    again.bits y l ∙ there.bits (slice_index partners y) (exchange.inside y l) ∙ ap (bit_at T) (exchange.back y l))

-- its image leads back
pub leads_back : (n : ℕ) (F : List Function) (values judged partners images : List ℕ) → IsExchange n partners → AreImages n partners images →
    ((T : ℕ) → T < 2 ^ n → LeadsTo n F values judged T (slice_index images T)) →
    (T : ℕ) → T < 2 ^ n → LeadsTo n F values judged (slice_index images T) T
leads_back n F values judged partners images exchange are leads T less =
    subst (LeadsTo n F values judged (slice_index images T)) (image_back n partners images exchange are T less)
    (leads (slice_index images T) (are.each T less).small)

module _ (n : ℕ) (F : List Function) (values judged : List ℕ) where
  -- a set that leads to a greater one leads on
  pub leads_on : (T U : ℕ) → LeadsTo n F values judged T U → T < U → LeadsOn n F values judged T
  leads_on T U leads less S x f e = let a = leads S x f e in (a.0, a.1, omega (arith, a.2))

  -- a set leads to itself
  pub leads_self : (T : ℕ) → LeadsTo n F values judged T T
  leads_self T S x f e = ((S, x), f, e)

  -- and by another
  pub leads_by : (T U V : ℕ) → LeadsTo n F values judged T U → LeadsTo n F values judged U V → LeadsTo n F values judged T V
  leads_by T U V one other S x f e = let a = one S x f e in other a.0.0 a.0.1 a.1 a.2

module _ (n : ℕ) (F : List Function) (values judged fewer : List ℕ) where
  -- if no edge fails among those that are left, none fails at all
  pub none_lost : AreEdgeTables n values judged → AreFewer (LeadsOn n F values judged) judged fewer → ((S x : ℕ) → EdgeFails n F values fewer S x → ⊥) →
      (S x : ℕ) → EdgeFails n F values judged S x → ⊥
  none_lost tables are none S x f = below (2 ^ n) S x (omega arith) f
    where
      -- an edge that fails and is left out leads to one into a greater set
      below : (k S x : ℕ) → 2 ^ n ≤ S + 2 ^ x + k → EdgeFails n F values judged S x → ⊥
      below zero S x le f = omega (arith, judged_within n F values judged tables.judged_all S x f)
      below (suc k) S x le f = elim (are.each (S + 2 ^ x)) [
        | inl same ↦ none S x (record { small = f.small; new = f.new; is_judged = ap (λ m. bit_at m x) same ∙ f.is_judged; fails = f.fails })
        | inr led ↦ let next = led.1 S x f refl in below k next.0.0 next.0.1 (omega arith) next.1
      ]
