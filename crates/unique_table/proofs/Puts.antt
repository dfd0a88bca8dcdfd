-- Who put the words of nodes.
use Rattle.std.proofs.Common.{◌≡◌, ◌≢◌, ℕ, zero, suc, ◌<◌, ◌⊎◌, inl, inr, true, List, [], ◌∷◌, ◌++◌, set, get_or, length, sym, refl, ap, ◌∙◌, subst, ⊎_elim, arith}
use Rattle.std.specs.List.{Contains}
use mathlib.Core.Option.{some, some-injective, some-ne-none}
use mathlib.Core.Logic.{dite}
use native.Mathlib.Decide.{ℕ_discrete}
use lib.ListN.{get_elem?}
use Rattle.atomic_table.proofs.Lists.{set_here, set_else, at_longer}
use Rattle.unique_table.specs.declared.plan.Plan.{Plan}
use Rattle.unique_table.specs.declared.session.View.{View}
use Rattle.unique_table.specs.Invariant.{StoreState, IsKept, IsPut, AreMade, nodes_of, spent}
use Rattle.unique_table.specs.Stakes.{IsWhole}
use Rattle.unique_table.specs.Sessions.{GainsOnly}
use Rattle.unique_table.proofs.Stakes.{no_other}

pub has_first : (xs : List ℕ) (x : ℕ) → Contains (x ∷ xs) x
has_first xs x = (0, omega arith, refl)

pub has_more : (xs : List ℕ) (y x : ℕ) → Contains xs x → Contains (y ∷ xs) x
has_more xs y x h = let low = h.1 in (suc h.0, omega (arith, low), h.2)

pub has_cases : (xs : List ℕ) (y x : ℕ) → Contains (y ∷ xs) x → (x ≡ y) ⊎ Contains xs x
has_cases xs y x (zero, low, at) = inl (sym at)
has_cases xs y x (suc k, low, at) = inr (k, omega (arith, low), at)

pub has_front : (xs ys : List ℕ) (x : ℕ) → Contains xs x → Contains (xs ++ ys) x
has_front [] ys x h = let low = h.1 in absurd (omega (arith, low))
has_front (y ∷ xs) ys x h = ⊎_elim
    (λ (e : x ≡ y). subst (λ (z : ℕ). Contains (y ∷ (xs ++ ys)) z) (sym e) (has_first (xs ++ ys) y))
    (λ (t : Contains xs x). has_more (xs ++ ys) y x (has_front xs ys x t))
    (has_cases xs y x h)

pub has_back : (xs ys : List ℕ) (x : ℕ) → Contains ys x → Contains (xs ++ ys) x
has_back [] ys x h = h
has_back (y ∷ xs) ys x h = has_more (xs ++ ys) y x (has_back xs ys x h)

-- none was put, one was put, and one step after another
pub gains_none : (made made' : List ℕ) (w : ℕ) → made' ≡ made → GainsOnly made made' w
gains_none made made' w same x h = inr (subst (λ (z : List ℕ). Contains z x) same h)

pub gains_again : (a b c : List ℕ) (w : ℕ) → GainsOnly a b w → GainsOnly b c w → GainsOnly a c w
gains_again a b c w f g x h = ⊎_elim (λ (e : x ≡ w). inl e) (λ (t : Contains b x). f x t) (g x h)

-- ---- views

there : (views : List View) (i : ℕ) (v : View) → get_elem? views i ≡ some v → i < length views
there [] i v e = absurd (some-ne-none v (sym e))
there (x ∷ xs) zero v e = omega arith
there (x ∷ xs) (suc i) v e = let low = there xs i v e in omega (arith, low)

-- a seat's next view has what it had
pub put_set : (views : List View) (id : ℕ) (v v' : View) (w : ℕ) → get_elem? views id ≡ some v → v'.live ≡ true → (Contains v.made w → Contains v'.made w) →
    IsPut views w → IsPut (set views id v') w
put_set views id v v' w at live more put = dite (ℕ_discrete put.0 id)
    (λ same. let is : v ≡ put.1 = some-injective v put.1 (sym at ∙ (ap (get_elem? views) (sym same) ∙ put.2)) in
    (id, v', set_here views id v' (there views id v at), live, more (subst (λ (z : View). Contains z.made w) (sym is) put.4)))
    (λ other. (put.0, put.1, set_else views id put.0 v' other ∙ put.2, put.3, put.4))

pub put_here : (views : List View) (id : ℕ) (v v' : View) (w : ℕ) → get_elem? views id ≡ some v → v'.live ≡ true →
    Contains v'.made w → IsPut (set views id v') w
put_here views id v v' w at live has = (id, v', set_here views id v' (there views id v at), live, has)

pub put_longer : (views more : List View) (w : ℕ) → IsPut views w → IsPut (views ++ more) w
put_longer views more w put = (put.0, put.1, at_longer views more put.0 put.1 put.2, put.3, put.4)

-- a seat that takes in another has what both had
pub put_joined : (views : List View) (id other : ℕ) (v u both left : View) (w : ℕ) → get_elem? views id ≡ some v → get_elem? views other ≡ some u →
    both.live ≡ true → other ≢ id → (Contains v.made w → Contains both.made w) → (Contains u.made w → Contains both.made w)
    → IsPut views w → IsPut (set (set views id both) other left) w
put_joined views id other v u both left w at at' live ne first second put =
    let here : get_elem? (set (set views id both) other left) id ≡ some both =
    set_else (set views id both) other id left (λ e. ne (sym e)) ∙ set_here views id both (there views id v at) in
    dite (ℕ_discrete put.0 id)
    (λ same. let is : v ≡ put.1 = some-injective v put.1 (sym at ∙ (ap (get_elem? views) (sym same) ∙ put.2)) in
    (id, both, here, live, first (subst (λ (z : View). Contains z.made w) (sym is) put.4)))
    (λ not_id. dite (ℕ_discrete put.0 other)
    (λ same. let is : u ≡ put.1 = some-injective u put.1 (sym at' ∙ (ap (get_elem? views) (sym same) ∙ put.2)) in
    (id, both, here, live, second (subst (λ (z : View). Contains z.made w) (sym is) put.4)))
    (λ not_other. (
      put.0,
      put.1,
      set_else (set views id both) other put.0 left not_other
          ∙ (set_else views id put.0 both not_id
          ∙ put.2),
      put.3,
      put.4,
    )))

-- a seat with the whole put each node
pub whole_put : (b : Plan) (s : StoreState) (k : IsKept b s) (id : ℕ) (v : View) → get_elem? s.views id ≡ some v → v.live ≡ true → IsWhole v.stake →
    AreMade v.made (nodes_of b s.words)
whole_put b s k id v at live all p full = let put = k.put p full in dite (ℕ_discrete put.0 id)
    (λ same. let is : v ≡ put.1 = some-injective v put.1 (sym at ∙ (ap (get_elem? s.views) (sym same) ∙ put.2)) in
    subst (λ (z : View). Contains z.made (get_or (nodes_of b s.words) p 0)) (sym is) put.4)
    (λ other. absurd (no_other s.views put.0 put.1 put.2 k.stakes id v spent refl (λ e. other (sym e)) at (k.seen put.0 put.1 put.2 put.3).stake all))
