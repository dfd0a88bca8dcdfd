-- The variable at its uppermost place of least size is at its best place.
--     none_higher, none_lower      beyond the places where the moves stop no order keeps the pairs
--     best_is      the best of the placements that keep the pairs
use Rattle.std.proofs.Common.{◌≡◌, ℕ, zero, suc, ◌+◌, ◌-◌, ◌<◌, ◌≤◌, Bool, true, false, cond, List, [], ◌∷◌, ◌++◌, map, length, get_or, slice_index, refl, sym, ap, ap₂, ◌∙◌, subst, arith, nat_eq, add-one}
use Rattle.std.specs.List.{insert, filter, range_with_len, IsDistinct}
use Rattle.std.proofs.lemmas.Bool.{true≢false, false_from_ne_true}
use Rattle.std.proofs.lemmas.List.{append-nil}
use Rattle.definitions.specs.Orders.{has, without, place_in}
use Rattle.definitions.specs.Pairs.{Pair, keeps, has_pair}
use Rattle.definitions.specs.Problems.{functions}
use Rattle.definitions.specs.Sifting.{smallest_of, placements, best}
use Rattle.definitions.proofs.Widths.Recurrence.{absent_without, distinct_without}
use Rattle.sifting.specs.Managed.{Managed, IsManagedOrder}
use Rattle.sifting.specs.Moves.{Moves, IsMoved, StopsAbove, StopsBelow, FindsBest, PassesBetween}
use Rattle.sifting.proofs.Placements.{length-placed, here, above_here, below_here, not_above, not_below, breaks}
use Rattle.sifting.proofs.MoveSteps.{smallest_is, insert_tells}
use Rattle.definitions.proofs.Sifting.Placements.{own_place}

-- ---- filters of placements

filter_append : (p : List ℕ → Bool) (xs ys : List (List ℕ)) → filter p (xs ++ ys) ≡ filter p xs ++ filter p ys
filter_append p [] ys = refl
filter_append p (x ∷ xs) ys = grind (arith, filter_append p xs ys)

none_of : (p : List ℕ → Bool) (f : ℕ → List ℕ) (k a : ℕ) → ((i : ℕ) → a ≤ i → i < a + k → p (f i) ≡ false) → filter p (map f (range_with_len a k)) ≡ []
none_of p f zero a h = refl
none_of p f (suc k) a h =
    ap (λ c. cond c (f a ∷ filter p (map f (range_with_len (a + 1) k))) (filter p (map f (range_with_len (a + 1) k)))) (h a (omega arith) (omega arith))
    ∙ none_of p f k (a + 1) (λ i l m. h i (omega arith) (omega arith))

all_of : (p : List ℕ → Bool) (f : ℕ → List ℕ) (k a : ℕ) → ((i : ℕ) → a ≤ i → i < a + k → p (f i) ≡ true) →
    filter p (map f (range_with_len a k)) ≡ map f (range_with_len a k)
all_of p f zero a h = refl
all_of p f (suc k) a h =
    ap (λ c. cond c (f a ∷ filter p (map f (range_with_len (a + 1) k))) (filter p (map f (range_with_len (a + 1) k)))) (h a (omega arith) (omega arith))
    ∙ ap (λ zs. f a ∷ zs) (all_of p f k (a + 1) (λ i l m. h i (omega arith) (omega arith)))

range_append : (f : ℕ → List ℕ) (m k a : ℕ) → map f (range_with_len a (m + k)) ≡ map f (range_with_len a m) ++ map f (range_with_len (a + m) k)
range_append f zero k a = let e : 0 + k ≡ k = omega arith in let g : a ≡ a + 0 = omega arith in
    ap (λ j. map f (range_with_len a j)) e ∙ ap (λ b. map f (range_with_len b k)) g
range_append f (suc m) k a =
    let e : suc m + k ≡ suc (m + k) = omega arith in
    let g : a + 1 + m ≡ a + suc m = omega arith in
    ap (λ j. map f (range_with_len a j)) e
    ∙ ap (λ zs. f a ∷ zs) (range_append f m k (a + 1) ∙ ap (λ b. map f (range_with_len (a + 1) m) ++ map f (range_with_len b k)) g)

-- between two places the test passes, and beyond them it doesn't
between : (p : List ℕ → Bool) (f : ℕ → List ℕ) (n top bottom : ℕ) → top ≤ bottom → bottom < n → ((i : ℕ) → i < top → p (f i) ≡ false) →
    ((i : ℕ) → top ≤ i → i ≤ bottom → p (f i) ≡ true) →
    ((i : ℕ) → bottom < i → i < n → p (f i) ≡ false) → filter p (map f (range_with_len 0 n)) ≡ map f (range_with_len top (bottom + 1 - top))
between p f n top bottom le lt high mid low =
    let e : n ≡ top + ((bottom + 1 - top) + (n - (bottom + 1))) = omega arith in
    let g : 0 + top ≡ top = omega arith in
    let k : top + (bottom + 1 - top) ≡ bottom + 1 = omega arith in
    ap (λ j. filter p (map f (range_with_len 0 j))) e
    ∙ ap (filter p)
    (range_append f top ((bottom + 1 - top) + (n - (bottom + 1))) 0
    ∙ ap (λ a. map f (range_with_len 0 top) ++ map f (range_with_len a ((bottom + 1 - top) + (n - (bottom + 1))))) g)
    ∙ filter_append p (map f (range_with_len 0 top)) (map f (range_with_len top ((bottom + 1 - top) + (n - (bottom + 1)))))
    ∙ ap₂ (λ xs ys. xs ++ ys) (none_of p f top 0 (λ i l m. high i (omega arith)))
    (ap (filter p)
    (range_append f (bottom + 1 - top) (n - (bottom + 1)) top
    ∙ ap (λ a. map f (range_with_len top (bottom + 1 - top)) ++ map f (range_with_len a (n - (bottom + 1)))) k)
    ∙ filter_append p (map f (range_with_len top (bottom + 1 - top))) (map f (range_with_len (bottom + 1) (n - (bottom + 1))))
    ∙ ap₂ (λ xs ys. xs ++ ys) (all_of p f (bottom + 1 - top) top (λ i l m. mid i l (omega arith)))
    (none_of p f (n - (bottom + 1)) (bottom + 1) (λ i l m. low i (omega arith) (omega arith)))
    ∙ append-nil (map f (range_with_len top (bottom + 1 - top))))

-- ---- beyond the places where the moves stop

module _ (P : List Pair) (others : List ℕ) (x : ℕ) (apart : IsDistinct nat_eq others) (out : has others x ≡ false) where
  pub none_higher : (order : List ℕ) (top : ℕ) → top ≤ length others → order ≡ insert others top x → StopsAbove P order top → (i : ℕ) →
      i < top → keeps P (insert others i x) ≡ false
  none_higher order top le e stop i lt = grind (arith, here, above_here, breaks, not_above)

  pub none_lower : (order : List ℕ) (bottom : ℕ) → bottom ≤ length others → order ≡ insert others bottom x → StopsBelow P order bottom →
      (i : ℕ) → bottom < i → i ≤ length others → keeps P (insert others i x) ≡ false
  none_lower order bottom le e stop i lt within = grind (arith, length-placed, here, add-one, below_here, breaks, not_below)

-- ---- the best place

-- a place moved on from another
pub moved_on : (place top bottom : ℕ) (self raised lowered : Managed) → top ≤ place → IsMoved place top self raised → IsMoved top bottom raised lowered →
    IsMoved place bottom self lowered
unfolding Moves
moved_on place top bottom self raised lowered le up down = grind arith

-- what is found from another place
pub finds_from : (place top from to best least : ℕ) (self raised : Managed) → top ≤ place → IsMoved place top self raised →
    FindsBest raised top from to best least → FindsBest self place from to best least
unfolding Moves
finds_from place top from to best least self raised le up found = grind arith

module _ (self raised lowered : Managed) (x top bottom at least : ℕ) (ok : IsManagedOrder self) (small : x < length self.order)
    (up : IsMoved (place_in self.order x) top self raised) (upward : top ≤ place_in self.order x) (stops_above : StopsAbove raised.pairs raised.order top)
    (down : IsMoved (place_in self.order x) bottom self lowered) (within : bottom < length self.order)
    (stops_below : StopsBelow lowered.pairs lowered.order bottom)
    (found : FindsBest self (place_in self.order x) top bottom at least) where
  abbrev others : List ℕ
  others = without x self.order

  there : has self.order x ≡ true
  there = (ok.is_order.all x).1 small

  own : (insert (without x self.order) (place_in self.order x) x ≡ self.order) × (place_in self.order x < length self.order)
  own = own_place x self.order ok.is_order.once there

  long : suc (length (without x self.order)) ≡ length self.order
  long = sym (length-placed (without x self.order) x (place_in self.order x)) ∙ ap length own.0

  place_in_others : place_in self.order x ≤ length (without x self.order)
  place_in_others = let l = long in let o = own.1 in omega arith

  raised_is : raised.order ≡ insert (without x self.order) top x
  unfolding Moves
  raised_is = up.moves (without x self.order) x place_in_others (sym own.0)

  lowered_is : lowered.order ≡ insert (without x self.order) bottom x
  unfolding Moves
  lowered_is = down.moves (without x self.order) x place_in_others (sym own.0)

  -- no variable on the way back must stay above
  pub passes_back : PassesBetween lowered at bottom
  passes_back zs y h e i a b =
      let l = long in
      let tells = insert_tells zs others bottom y x h (omega arith) (sym e ∙ lowered_is) in
      let apart = distinct_without x self.order ok.is_order.once in
      let out = absent_without x self.order in
      let above = found.above in
      let within' : i < length others = omega arith in
      let kept = found.keeps others x place_in_others (sym own.0) i (omega arith) (omega arith) in
      let same : has_pair lowered.pairs (slice_index zs i) y ≡ has_pair self.pairs (slice_index others i) x =
      ap₂ (λ P v. has_pair P v y) down.pairs_stay (ap (λ us. get_or us i 0) tells.0) ∙ ap (has_pair self.pairs (slice_index others i)) tells.1 in
      same ∙ false_from_ne_true (has_pair self.pairs (slice_index others i) x)
      (λ t. true≢false (sym kept ∙ breaks self.pairs (slice_index others i) x (insert others i x) t
      (not_above (slice_index others i) x others i i (omega arith) within' refl apart out)))

  last_is : (last : Managed) → IsMoved bottom at lowered last → last.order ≡ insert (without x self.order) at x
  unfolding Moves
  last_is last back = back.moves (without x self.order) x (let l = long in omega arith) lowered_is

  best_at : insert (without x self.order) at x ≡ best self.problem.inputs (functions self.problem) self.pairs self.order x
  unfolding best placements
  best_at =
      let zs = without x self.order in
      let l = long in
      let o = own.1 in
      let top_in : top ≤ length zs = omega arith in
      let bottom_in : bottom ≤ length zs = omega arith in
      let apart = distinct_without x self.order ok.is_order.once in
      let out = absent_without x self.order in
      let above' = subst (λ P. StopsAbove P raised.order top) up.pairs_stay stops_above in
      let below' = subst (λ P. StopsBelow P lowered.order bottom) down.pairs_stay stops_below in
      let high = none_higher self.pairs zs x apart out raised.order top top_in raised_is above' in
      let low = none_lower self.pairs zs x apart out lowered.order bottom bottom_in lowered_is below' in
      let le : top ≤ bottom = let a = found.above in let b = found.below in omega arith in
      let kept = between (keeps self.pairs) (λ i. insert zs i x) (length self.order) top bottom le (omega arith) high
      (λ i a b. found.keeps zs x place_in_others (sym own.0) i a b) (λ i a b. low i a (omega arith)) in
      smallest_is self self.order (place_in self.order x) top bottom at least found zs x place_in_others (sym own.0)
      ∙ ap (smallest_of self.problem.inputs (functions self.problem) self.order) (sym kept)

  pub best_is : (last : Managed) → IsMoved bottom at lowered last → last.order ≡ best self.problem.inputs (functions self.problem) self.pairs self.order x
  best_is last back = last_is last back ∙ best_at
