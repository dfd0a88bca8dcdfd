-- Widths of symmetric functions: an exchange of variables that no function notices takes subfunctions to subfunctions.
--     length_exchanged, bit_exchanged      a point with exchanged variables, by its bits
--     AreMoved n partners F G      each function of G is one of F at exchanged points
--     width_moved      the width of a variable's partner in G, over the partners of a set, is at most the width of the variable over the set in F
--     symmetric_moved, width_exchanged      so it is with symmetric functions as both
use Rattle.std.proofs.Common.{◌≡◌, ℕ, ◌<◌, ◌≤◌, Bool, true, false, cond, inl, inr, List, ◌∷◌, map, length, set, slice_index, sym, ap, ◌∙◌, arith, zero-add}
use Rattle.std.specs.List.{filter}
use Rattle.std.specs.Set.{unique_keys}
use Rattle.std.proofs.lemmas.Bool.{cases_Bool, true≢false, and_parts}
use Rattle.std.proofs.lemmas.List.{length-map, length-set, get_or-set_same, get_or-set_other}
use Rattle.std.proofs.lemmas.List.Elements.{recursion_from_All}
use Rattle.std.proofs.lemmas.List.FromFn.{length-map-range_with_len, get_or-map-range_with_len, fill_by_all}
use Rattle.definitions.specs.Functions.{Point, Function, bit, from_table, restrict, SameFunction, table, same_table, depends}
use Rattle.definitions.specs.Orders.{has}
use Rattle.definitions.specs.Levels.{subfunctions, reach, dependents}
use Rattle.definitions.specs.Widths.{outside, width}
use Rattle.definitions.proofs.Bits.Points.{table-from_table}
use Rattle.definitions.proofs.Certificates.Potential.{all_among}
use Rattle.definitions.proofs.Functions.Exchange.{Below, below_from_has, bit-mix, fixing_reached, length-mix, mix, mix_is, subfunctions_fix}
use Rattle.definitions.proofs.Functions.Same.{table_long}
use Rattle.definitions.proofs.Functions.Tables.{depends_false, depends_no, depends_same, same_from_table, same_table_decides, table_same}
use Rattle.definitions.proofs.Lists.Orders.{has_outside, has_variables}
use Rattle.definitions.proofs.Lists.Sets.{Among, Within, among_filter, among_flat_map, among_from_filter, among_from_flat_map, among_from_map, among_map, among_unique, count_le}
use Rattle.symmetries.specs.Exchanges.{IsExchange, exchanged, AreSymmetric}

-- a point with exchanged variables has as many
pub length_exchanged : (n : ℕ) (partners : List ℕ) (p : Point) → length (exchanged n partners p) ≡ n
length_exchanged n partners p = length-map-range_with_len (λ y. bit p (slice_index partners y)) 0 n

-- each variable has its partner's value
pub bit_exchanged : (n : ℕ) (partners : List ℕ) (p : Point) (y : ℕ) → y < n → bit (exchanged n partners p) y ≡ bit p (slice_index partners y)
bit_exchanged n partners p y lt = get_or-map-range_with_len (λ z. bit p (slice_index partners z)) 0 n y y false lt (zero-add y)

-- each function of G is one of F at exchanged points
abbrev pub AreMoved : ℕ → List ℕ → List Function → List Function → Type 0
AreMoved n partners F G = (g : Function) → Among g G → (f : Function) × Among f F × SameFunction n g (λ p. f (exchanged n partners p))

-- the variables outside a set are variables
below_outside : (n : ℕ) (T : List ℕ) → Below n (outside n T)
below_outside n T = below_from_has n (outside n T) (λ y h. (has_variables n y).0 (and_parts _ _ (sym (has_outside n T y) ∙ h)).0)

module _ (n : ℕ) (partners : List ℕ) (e : IsExchange n partners) where
  -- a partner's value set before the exchange is the variable's set after it
  set_exchanged : (p : Point) (x : ℕ) (b : Bool) → length p ≡ n → x < n →
      exchanged n partners (set p (slice_index partners x) b) ≡ set (exchanged n partners p) x b
  set_exchanged p x b l inside =
      sym (fill_by_all (λ y. bit (set p (slice_index partners x) b) (slice_index partners y)) (set (exchanged n partners p) x b) n false
      (length-set (exchanged n partners p) x b ∙ length_exchanged n partners p) at)
    where
      at : (y : ℕ) → y < n → bit (set (exchanged n partners p) x b) y ≡ bit (set p (slice_index partners x) b) (slice_index partners y)
      at y lt = grind (arith, length_exchanged, get_or-set_same, get_or-set_other, bit_exchanged)

  -- a dependence on a partner, at exchanged points, is one on the variable
  depends_exchanged : (g k : Function) (x : ℕ) → x < n → SameFunction n g (λ p. k (exchanged n partners p)) → depends n g (slice_index partners x) ≡ true →
      depends n k x ≡ true
  unfolding SameFunction restrict
  depends_exchanged g k x inside same h =
      elim (cases_Bool (depends n k x)) [
        | inl t ↦ t
        | inr f ↦
            absurd (true≢false (sym h ∙ depends_same n g (λ p. k (exchanged n partners p)) (slice_index partners x) same
            ∙ depends_false n (λ p. k (exchanged n partners p)) (slice_index partners x)
            (λ p l. ap k (set_exchanged p x false l inside) ∙ depends_no n k x f (exchanged n partners p) (length_exchanged n partners p)
            ∙ sym (ap k (set_exchanged p x true l inside)))))
      ]

  -- the truth table of a function at exchanged points, by the function's own
  table_exchanged : (g k : Function) → SameFunction n g (λ p. k (exchanged n partners p)) →
      table n g ≡ table n (λ p. from_table (table n k) (exchanged n partners p))
  unfolding SameFunction
  table_exchanged g k same =
      table_same n g (λ p. from_table (table n k) (exchanged n partners p))
      (λ p l. same p l
      ∙ sym (same_from_table n (from_table (table n k)) k (table-from_table n (table n k) (table_long n k)) (exchanged n partners p)
      (length_exchanged n partners p)))

  -- the variables outside the partners of a set are the partners of those outside the set
  outside_exchanged : (S T : List ℕ) → ((y : ℕ) → y < n → has T (slice_index partners y) ≡ has S y) → (x : ℕ) → x < n →
      (y : ℕ) → y < n → has (outside n (slice_index partners x ∷ T)) (slice_index partners y) ≡ has (outside n (x ∷ S)) y
  outside_exchanged S T image x inside y lt = grind (arith, has_outside, has_variables)

  -- a subfunction that fixes the partners of some variables is one that fixes those, at exchanged points
  exchanged_reached : (F G : List Function) → AreMoved n partners F G → (xs ys : List ℕ) → Below n xs → Below n ys →
      ((y : ℕ) → y < n → has ys (slice_index partners y) ≡ has xs y) →
      (g : Function) → Among g (reach G ys) → (k : Function) × Among k (reach F xs) × SameFunction n g (λ p. k (exchanged n partners p))
  unfolding reach SameFunction
  exchanged_reached F G are xs ys b c h g r =
      let from = among_from_flat_map (subfunctions ys) g G r in
      let own = are from.0 from.1 in
      let f = own.0 in
      let fix = subfunctions_fix n ys c from.0 g from.2 in
      let a = fix.0 in
      let to = fixing_reached n xs b f (exchanged n partners a) in (
        to.0,
        among_flat_map (subfunctions xs) f F to.0 own.1 to.1,
        λ p l. fix.2 p l ∙ own.2 (mix n ys a p) (length-mix n ys a p) ∙ ap f (mixed a p) ∙ sym (to.2 (exchanged n partners p) (length_exchanged n partners p)),
      )
    where
      mixed : (a p : Point) → exchanged n partners (mix n ys a p) ≡ mix n xs (exchanged n partners a) (exchanged n partners p)
      mixed a p =
          mix_is n xs (exchanged n partners a) (exchanged n partners p) (exchanged n partners (mix n ys a p)) (length_exchanged n partners (mix n ys a p))
          (λ y lt. bit_exchanged n partners (mix n ys a p) y lt ∙ bit-mix n ys a p (slice_index partners y) (e.inside y lt)
          ∙ (λ i. cond (h y lt i) (sym (bit_exchanged n partners a y lt) i) (sym (bit_exchanged n partners p y lt) i)))

  -- if each function of gs is one of fs at exchanged points, at most as many of gs depend on a partner as of fs depend on the variable
  dependents_exchanged : (fs gs : List Function) (x : ℕ) → x < n →
      ((g : Function) → Among g gs → (k : Function) × Among k fs × SameFunction n g (λ p. k (exchanged n partners p))) →
      dependents n gs (slice_index partners x) ≤ dependents n fs x
  unfolding dependents
  dependents_exchanged fs gs x inside h =
      let c = count_le same_table same_table_decides (map (table n) (filter (λ f. depends n f (slice_index partners x)) gs))
      (map moved (unique_keys same_table counted)) within in
      omega (arith, length-map (unique_keys same_table counted) moved)
    where
      counted : List (List Bool)
      counted = map (table n) (filter (λ f. depends n f x) fs)

      moved : List Bool → List Bool
      moved t = table n (λ p. from_table t (exchanged n partners p))

      within : Within (map (table n) (filter (λ f. depends n f (slice_index partners x)) gs)) (map moved (unique_keys same_table counted))
      within t m =
          let from = among_from_map (table n) t (filter (λ f. depends n f (slice_index partners x)) gs) m in
          let g = from.0 in
          let kept = among_from_filter (λ f. depends n f (slice_index partners x)) g gs from.1 in
          let to = h g kept.0 in
          let k = to.0 in
          let there = among_filter (λ f. depends n f x) k fs to.1 (depends_exchanged g k x inside to.2 kept.1) in
          let once = among_unique same_table same_table_decides counted (table n k) (among_map (table n) k _ there) in
          grind (arith, table_exchanged, among_map)

-- the width of a variable's partner in G, over the partners of a set, is at most the width of the variable over the set in F
pub width_moved : (n : ℕ) (F G : List Function) (partners : List ℕ) → IsExchange n partners → AreMoved n partners F G → (S T : List ℕ) (x : ℕ) → x < n →
    ((y : ℕ) → y < n → has T (slice_index partners y) ≡ has S y) → width n G T (slice_index partners x) ≤ width n F S x
unfolding width
width_moved n F G partners e are S T x inside image =
    let xs = outside n (x ∷ S) in
    let ys = outside n (slice_index partners x ∷ T) in
    dependents_exchanged n partners e (reach F xs) (reach G ys) x inside
    (exchanged_reached n partners e F G are xs ys (below_outside n (x ∷ S)) (below_outside n (slice_index partners x ∷ T))
    (outside_exchanged n partners e S T image x inside))

-- symmetric functions are their own at exchanged points
pub symmetric_moved : (n : ℕ) (F : List Function) (partners : List ℕ) → AreSymmetric n F partners → AreMoved n partners F F
symmetric_moved n F partners symmetric g m =
    (g, m, all_among (λ u. SameFunction n u (λ p. u (exchanged n partners p))) F g (recursion_from_All _ F symmetric) m)

-- so it is with symmetric functions as both
pub width_exchanged : (n : ℕ) (F : List Function) (partners : List ℕ) → IsExchange n partners → AreSymmetric n F partners → (S T : List ℕ) (x : ℕ) → x < n →
    ((y : ℕ) → y < n → has T (slice_index partners y) ≡ has S y) → width n F T (slice_index partners x) ≤ width n F S x
width_exchanged n F partners e symmetric = width_moved n F F partners e (symmetric_moved n F partners symmetric)
