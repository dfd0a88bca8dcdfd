-- Paths through levels.
--     place_inside      a path stays among the places
--     free      variables above don't count
--     restricted      the restriction of a node's function by its level's variable is its child's function
--     canonical      equal functions have equal places
use Rattle.std.proofs.Common.{◌≡◌, ◌≢◌, ℕ, ◌*◌, ◌<◌, Bool, true, false, List, [], ◌∷◌, length, set, replicate, refl, sym, ap, ◌∙◌, arith, nat_eq, eq-eqb}
use Rattle.std.specs.List.{IsDistinct}
use Rattle.std.proofs.lemmas.Bool.{or_parts, true≢false}
use Rattle.std.proofs.lemmas.List.{length-replicate, get_or-set_same, get_or-set_other}
use Rattle.definitions.specs.Functions.{Point, bit, restrict, SameFunction}
use Rattle.definitions.specs.Orders.{has}
use Rattle.definitions.proofs.Functions.Tables.{restrict_same, same_sym, same_trans}
use Rattle.definitions.proofs.Lists.Orders.{absent_from_apart}
use Rattle.definitions.proofs.Functions.Exchange.{Below}
use Rattle.sifting.specs.Leveled.{Children, child, at, place_below, function_at, places, AreLevels, AreTerminals}

-- the child by a value
pub child_has : (P : ℕ → Type 0) (b : Bool) (c : Children) → P c.0 → P c.1 → P (child b c)
child_has P true c h k = k
child_has P false c h k = h

pub place_inside : (most : ℕ) (T : List Bool) (levels : List (List Children)) (order : List ℕ) (k : ℕ) (p : Point) →
    length levels ≡ length order → AreLevels most T levels → k < places levels T →
    place_below levels order k p < length T
unfolding place_below
place_inside most T [] order k p e ok h = h
place_inside most T (L ∷ levels) [] k p e ok h = absurd (omega arith)
place_inside most T (L ∷ levels) (x ∷ order) k p e ok h =
    let i = ok.0.inside k h in
    place_inside (2 * most) T levels order (child (bit p x) (at L k)) p (omega arith) ok.2 (child_has (λ j. j < places levels T) (bit p x) (at L k) i.0 i.1)

-- a variable that isn't below doesn't count
pub free : (levels : List (List Children)) (order : List ℕ) (k x : ℕ) (b : Bool) (p : Point) → has order x ≡ false →
    place_below levels order k (set p x b) ≡ place_below levels order k p
unfolding place_below
free [] order k x b p h = refl
free (L ∷ levels) [] k x b p h = refl
free (L ∷ levels) (y ∷ order) k x b p h =
    let parts = or_parts (nat_eq x y) (has order x) h in
    let ne : y ≢ x = λ e. true≢false (sym (eq-eqb x y (sym e)) ∙ parts.0) in
    let same = get_or-set_other p x y b false ne in
    ap (λ v. place_below levels order (child v (at L k)) (set p x b)) same ∙ free levels order (child (bit p y) (at L k)) x b p parts.1

-- the restriction of a node's function by its level's variable is its child's function
pub restricted : (n : ℕ) (L : List Children) (levels : List (List Children)) (T : List Bool) (x : ℕ) (order : List ℕ) (k : ℕ) (b : Bool) →
    x < n → has order x ≡ false →
    SameFunction n (restrict x b (function_at (L ∷ levels) T (x ∷ order) k)) (function_at levels T order (child b (at L k)))
unfolding SameFunction restrict function_at place_below
restricted n L levels T x order k b lt h p l = grind (arith, set, get_or-set_same, free)

-- the children of a node that has as many as another one
pub same_children : (c d : Children) → c.0 ≡ d.0 → c.1 ≡ d.1 → c ≡ d
same_children c d e f = λ i. (e i, f i)

-- equal functions have equal places
pub canonical : (n most : ℕ) (T : List Bool) (levels : List (List Children)) (order : List ℕ) → AreTerminals T →
    length levels ≡ length order → Below n order → IsDistinct nat_eq order → AreLevels most T levels →
    (j k : ℕ) → j < places levels T → k < places levels T → SameFunction n (function_at levels T order j) (function_at levels T order k) → j ≡ k
unfolding SameFunction function_at place_below IsDistinct
canonical n most T [] order t e lt d ok j k a b same = t j k a b (same (replicate n false) (length-replicate n false))
canonical n most T (L ∷ levels) [] t e lt d ok j k a b same = absurd (omega arith)
canonical n most T (L ∷ levels) (x ∷ order) t e lt d ok j k a b same =
    ok.0.once j k a b
    (same_children (at L j) (at L k) (by false (canonical n (2 * most) T levels order t (omega arith) lt.1 d.1 ok.2))
    (by true (canonical n (2 * most) T levels order t (omega arith) lt.1 d.1 ok.2)))
  where
    out : has order x ≡ false
    out = absent_from_apart x order d.0

    by : (c : Bool) →
        ((u v : ℕ) → u < places levels T → v < places levels T →
        SameFunction n (function_at levels T order u) (function_at levels T order v) → u ≡ v) →
        child c (at L j) ≡ child c (at L k)
    by c rest =
        let i = ok.0.inside j a in
        let m = ok.0.inside k b in
        let lower = restricted n L levels T x order j c lt.0 out in
        let upper = restricted n L levels T x order k c lt.0 out in
        let mid = restrict_same n x c (function_at (L ∷ levels) T (x ∷ order) j) (function_at (L ∷ levels) T (x ∷ order) k) same in
        rest (child c (at L j)) (child c (at L k))
        (child_has (λ v. v < places levels T) c (at L j) i.0 i.1) (child_has (λ v. v < places levels T) c (at L k) m.0 m.1)
        (same_trans n (function_at levels T order (child c (at L j))) _ (function_at levels T order (child c (at L k)))
        (same_sym n _ (function_at levels T order (child c (at L j))) lower)
        (same_trans n _ _ (function_at levels T order (child c (at L k))) mid upper))
