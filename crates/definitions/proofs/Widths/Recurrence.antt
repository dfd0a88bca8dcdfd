-- The least cost of a set, by its last variable.
--     least_of_lem      the least of some numbers is one of them, and no number of them is less
--     arrangement_lem, arranged      the listed arrangements of a set are just the lists of its members, each once
--     least_is_least      the least cost is the cost of such a list, and no such list costs less
--     recurrence      the least cost of S by those of S without one member
use Rattle.std.proofs.Common.{◌≡◌, ℕ, zero, suc, ◌+◌, ◌<◌, ◌≤◌, min, Bool, true, false, not, cond, ◌&&◌, ◌||◌, ◌⊎◌, inl, inr, List, [], ◌∷◌, map, length, refl, sym, ap, ◌∙◌, subst, arith, nat_eq, eqb-true, eq-eqb}
use Rattle.std.specs.List.{filter, fold, IsDistinct, AllByRecursion, range_with_len}
use Rattle.std.proofs.lemmas.Bool.{false≢true, cases_eq, cases_lt, or_cases, or_left, or_right, and_parts, and_from}
use Rattle.std.proofs.lemmas.List.{nil_from_length}
use Rattle.std.proofs.lemmas.Cmp.{nat_eq_equiv}
use Rattle.std.proofs.lemmas.Map.Made.{length-from_same_keys}
use Rattle.definitions.specs.Functions.{Function}
use Rattle.definitions.specs.Orders.{has, variables, without}
use Rattle.definitions.specs.Pairs.{Pair, is_above, is_lawful, are_lawful, tops}
use Rattle.definitions.specs.Widths.{width, cost, arrangements, least_of, least, least_with_top}
use Rattle.definitions.proofs.Lists.Sets.{Among, among_filter, among_from_filter, among_map, among_from_map, among_flat_map, among_from_flat_map}
use Rattle.definitions.proofs.Lists.Orders.{same_bool, has_filter, has_range, absent_from_apart}
use Rattle.definitions.proofs.Precedence.Lists.{Ground, keeps_at, lawful_at, lawful_same, lawful_below, lawful_whole, above_filter, are_lawful_parts, are_lawful_from, nothing_to_keep}
use Rattle.definitions.proofs.Functions.Exchange.{width_same}

-- ---- the least of some numbers

fold_min : (c : ℕ) (cs : List ℕ) → Among (fold min c cs) (c ∷ cs) × ((b : ℕ) → Among b (c ∷ cs) → fold min c cs ≤ b)
fold_min c [] = (inl refl, λ b h. elim h [ inl e ↦ omega arith | inr r ↦ absurd r ])
fold_min c (d ∷ cs) =
    let rest = fold_min (min c d) cs in (
      elim rest.0 [ inl e ↦ pick e (cases_lt c d) | inr r ↦ inr (inr r) ],
      λ b h.
          let le = rest.1 (min c d) (inl refl) in
          elim h [ inl e ↦ omega arith | inr r ↦ elim r [ inl e ↦ omega arith | inr s ↦ rest.1 b (inr s) ] ],
    )
  where
    pick : fold min (min c d) cs ≡ min c d → (c < d) ⊎ (d ≤ c) → Among (fold min (min c d) cs) (c ∷ d ∷ cs)
    pick e k = elim k [ inl lt ↦ inl (let m : min c d ≡ c = omega arith in e ∙ m) | inr le ↦ inr (inl (let m : min c d ≡ d = omega arith in e ∙ m)) ]

-- the least of some numbers is one of them, and no number of them is less
pub least_of_lem : (cs : List ℕ) (c : ℕ) → Among c cs → Among (least_of cs) cs × ((b : ℕ) → Among b cs → least_of cs ≤ b)
unfolding least_of
least_of_lem [] c h = absurd h
least_of_lem (d ∷ cs) c h = fold_min d cs

-- ---- a set without a member

pub has_without : (x : ℕ) (S : List ℕ) (y : ℕ) → has (without x S) y ≡ (has S y && not (nat_eq x y))
unfolding without
has_without x S y = has_filter (λ z. not (nat_eq x z)) S y

pub distinct_filter : (p : ℕ → Bool) (xs : List ℕ) → IsDistinct nat_eq xs → IsDistinct nat_eq (filter p xs)
unfolding IsDistinct
distinct_filter p [] d = tt
distinct_filter p (x ∷ xs) d = by (p x) (distinct_filter p xs d.1) (kept (λ w. nat_eq x w ≡ false) xs d.0)
  where
    kept : (Q : ℕ → Type 0) (ys : List ℕ) → AllByRecursion Q ys → AllByRecursion Q (filter p ys)
    kept Q [] a = tt
    kept Q (y ∷ ys) a = keep (p y) (kept Q ys a.1)
      where
        keep : (b : Bool) → AllByRecursion Q (filter p ys) → AllByRecursion Q (cond b (y ∷ filter p ys) (filter p ys))
        keep true r = (a.0, r)
        keep false r = r

    by : (b : Bool) → IsDistinct nat_eq (filter p xs) → AllByRecursion (λ w. nat_eq x w ≡ false) (filter p xs) →
        IsDistinct nat_eq (cond b (x ∷ filter p xs) (filter p xs))
    by true r a = (a, r)
    by false r a = r

pub apart_from_absent : (x : ℕ) (xs : List ℕ) → has xs x ≡ false → AllByRecursion (λ w. nat_eq x w ≡ false) xs
apart_from_absent x [] h = tt
apart_from_absent x (y ∷ xs) h = grind (arith, apart_from_absent x xs)

pub distinct_without : (x : ℕ) (S : List ℕ) → IsDistinct nat_eq S → IsDistinct nat_eq (without x S)
unfolding without
distinct_without x S d = distinct_filter (λ y. not (nat_eq x y)) S d

pub absent_without : (x : ℕ) (S : List ℕ) → has (without x S) x ≡ false
absent_without x S = grind (arith, has_without)

-- a member, and the set without it, make the set
pub has_again : (x : ℕ) (S : List ℕ) → has S x ≡ true → (y : ℕ) → has (x ∷ without x S) y ≡ has S y
has_again x S h y = grind (arith, has_without)

pub length_without : (x : ℕ) (S : List ℕ) → IsDistinct nat_eq S → has S x ≡ true → suc (length (without x S)) ≡ length S
unfolding IsDistinct
length_without x S d h =
    length-from_same_keys nat_eq_equiv (x ∷ without x S) S (apart_from_absent x (without x S) (absent_without x S), distinct_without x S d) d (has_again x S h)

pub among_has : (xs : List ℕ) (x : ℕ) → Among x xs → has xs x ≡ true
among_has [] x h = absurd h
among_has (y ∷ xs) x h = elim h [ inl e ↦ or_left _ _ (eq-eqb x y e) | inr r ↦ or_right (nat_eq x y) _ (among_has xs x r) ]

pub has_among : (xs : List ℕ) (x : ℕ) → has xs x ≡ true → Among x xs
has_among [] x h = absurd (false≢true h)
has_among (y ∷ xs) x h = elim (or_cases (nat_eq x y) (has xs x) h) [ inl e ↦ inl (eqb-true x y e) | inr r ↦ inr (has_among xs x r) ]

distinct_range : (k a : ℕ) → IsDistinct nat_eq (range_with_len a k)
unfolding IsDistinct
distinct_range zero a = tt
distinct_range (suc k) a = grind (arith, apart_from_absent, has_range, distinct_range k (a + 1))

pub distinct_variables : (n : ℕ) → IsDistinct nat_eq (variables n)
distinct_variables n = distinct_range n 0

-- ---- arrangements

-- a list of the members of a set, each once
pub record IsArrangement (S xs : List ℕ) : Type 0 where
  pub members : (y : ℕ) → has xs y ≡ has S y
  pub once : IsDistinct nat_eq xs

-- a listed arrangement is a list of the members, each once
pub arrangement_lem : (k : ℕ) (S : List ℕ) → IsDistinct nat_eq S → length S ≡ k → (xs : List ℕ) → Among xs (arrangements k S) → IsArrangement S xs
unfolding arrangements IsDistinct
arrangement_lem zero S d l xs h = grind (arith, nil_from_length)
arrangement_lem (suc k) S d l xs h =
    let from = among_from_flat_map (λ x. map (λ xs. x ∷ xs) (arrangements k (without x S))) xs S h in
    let there = among_has S from.0 from.1 in
    let tail = among_from_map (λ xs. from.0 ∷ xs) xs (arrangements k (without from.0 S)) from.2 in
    let long = length_without from.0 S d there in
    let rest = arrangement_lem k (without from.0 S) (distinct_without from.0 S d) (omega arith) tail.0 tail.1 in
    let is : IsArrangement S (from.0 ∷ tail.0) = record {
      members = λ y. ap (λ b. nat_eq y from.0 || b) (rest.members y) ∙ has_again from.0 S there y;
      once = (apart_from_absent from.0 tail.0 (rest.members from.0 ∙ absent_without from.0 S), rest.once);
    } in
    subst (IsArrangement S) (sym tail.2) is

-- after its first variable, a list of the members is one of the others
pub tail_arrangement : (x : ℕ) (xs S : List ℕ) → IsArrangement S (x ∷ xs) → IsArrangement (without x S) xs
unfolding IsDistinct
tail_arrangement x xs S a = record { members = others; once = a.once.1 }
  where
    others : (y : ℕ) → has xs y ≡ has (without x S) y
    others y =
        elim (cases_eq y x) [
          | inl e ↦ ap (has xs) e ∙ absent_from_apart x xs a.once.0 ∙ sym (ap (has (without x S)) e ∙ absent_without x S)
          | inr ne ↦
              grind (arith, has_without)
        ]
      where
        and_true : (b : Bool) → (b && true) ≡ b
        and_true true = refl
        and_true false = refl

-- and the other way round
pub cons_arrangement : (x : ℕ) (xs S : List ℕ) → has S x ≡ true → IsArrangement (without x S) xs → IsArrangement S (x ∷ xs)
unfolding IsDistinct
cons_arrangement x xs S h a = grind (arith, has_again, apart_from_absent, absent_without)

pub first_member : (x : ℕ) (xs S : List ℕ) → IsArrangement S (x ∷ xs) → has S x ≡ true
first_member x xs S a = sym (a.members x) ∙ or_left _ _ (eq-eqb x x refl)

-- each list of the members, each once, is listed
pub arranged : (xs S : List ℕ) → IsArrangement S xs → Among xs (arrangements (length xs) S)
unfolding arrangements
arranged [] S a = inl refl
arranged (x ∷ xs) S a =
    among_flat_map (λ x. map (λ xs. x ∷ xs) (arrangements (length xs) (without x S))) x S (x ∷ xs) (has_among S x (first_member x xs S a))
    (among_map (λ xs. x ∷ xs) xs _ (arranged xs (without x S) (tail_arrangement x xs S a)))

length_arrangement : (S xs : List ℕ) → IsDistinct nat_eq S → IsArrangement S xs → length xs ≡ length S
length_arrangement S xs d a = length-from_same_keys nat_eq_equiv xs S a.once d a.members

-- ---- the least cost

-- a list of the members of a set, each once, all of whose bottom parts are lawful
pub record IsLawfulList (P : List Pair) (S xs : List ℕ) : Type 0 where
  pub arrangement : IsArrangement S xs
  pub lawful : are_lawful P xs ≡ true

-- the least cost is the cost of some such list of the members, and no such list costs less
pub record IsLeastCost (n : ℕ) (F : List Function) (P : List Pair) (S : List ℕ) (c : ℕ) : Type 0 where
  pub some : (xs : List ℕ) × IsLawfulList P S xs × (cost n F xs ≡ c)
  pub no_less : (xs : List ℕ) → IsLawfulList P S xs → c ≤ cost n F xs

-- a lawful set of members of the ground
pub record IsLawfulSet (P : List Pair) (whole S : List ℕ) : Type 0 where
  pub once : IsDistinct nat_eq S
  pub within : (y : ℕ) → has S y ≡ true → has whole y ≡ true
  pub lawful : is_lawful P S ≡ true

pub lawful_tail : (P : List Pair) (x : ℕ) (xs S : List ℕ) → IsLawfulList P S (x ∷ xs) → IsLawfulList P (without x S) xs
lawful_tail P x xs S a = record { arrangement = tail_arrangement x xs S a.arrangement; lawful = (are_lawful_parts P x xs a.lawful).1 }

pub lawful_cons : (P : List Pair) (x : ℕ) (xs S : List ℕ) → is_lawful P S ≡ true → has S x ≡ true → IsLawfulList P (without x S) xs → IsLawfulList P S (x ∷ xs)
lawful_cons P x xs S l h a =
    let whole = cons_arrangement x xs S h a.arrangement in
    record { arrangement = whole; lawful = are_lawful_from P x xs (lawful_same P (x ∷ xs) S whole.members ∙ l) a.lawful }

-- the set below the top of a lawful list is lawful
pub lawful_behind : (P : List Pair) (x : ℕ) (xs S : List ℕ) → IsLawfulList P S (x ∷ xs) → is_lawful P (without x S) ≡ true
lawful_behind P x xs S a =
    let tail = lawful_tail P x xs S a in
    sym (lawful_same P xs (without x S) tail.arrangement.members) ∙ lawful_whole P xs tail.lawful

pub cost_cons : (n : ℕ) (F : List Function) (S : List ℕ) (x : ℕ) (xs : List ℕ) → IsArrangement (without x S) xs →
    cost n F (x ∷ xs) ≡ width n F (without x S) x + cost n F xs
unfolding cost
cost_cons n F S x xs a = ap (λ w. w + cost n F xs) (width_same n F xs (without x S) x a.members)

pub among_tops : (P : List Pair) (S : List ℕ) (x : ℕ) → has S x ≡ true → is_lawful P (without x S) ≡ true → Among x (tops P S)
among_tops P S x h l = among_filter (λ y. is_lawful P (without y S)) x S (has_among S x h) l

pub from_tops : (P : List Pair) (S : List ℕ) (x : ℕ) → Among x (tops P S) → (has S x ≡ true) × (is_lawful P (without x S) ≡ true)
from_tops P S x m = let from = among_from_filter (λ y. is_lawful P (without y S)) x S m in (among_has S x from.0, from.1)

module _ (n : ℕ) (F : List Function) (P : List Pair) (whole : List ℕ) (ground : Ground P whole) where
  -- the members of a lawful set, in the ground's order, are a lawful list
  pub in_order : (S : List ℕ) → IsLawfulSet P whole S → IsLawfulList P S (filter (has S) whole)
  in_order S set =
      record {
        arrangement =
            record { members = members; once = distinct_filter (has S) whole ground.once };
        lawful =
            lawful_below P (filter (has S) whole) (distinct_filter (has S) whole ground.once) above;
      }
    where
      members : (y : ℕ) → has (filter (has S) whole) y ≡ has S y
      members y = has_filter (has S) whole y ∙ same_bool _ _ (λ h. (and_parts (has whole y) (has S y) h).1) (λ h. and_from _ _ (set.within y h) h)

      above : (p : Pair) → Among p P → has (filter (has S) whole) p.0 ≡ true → is_above p.0 p.1 (filter (has S) whole) ≡ true
      above p m h =
          let there = sym (members p.0) ∙ h in
          above_filter (has S) p.0 p.1 whole (keeps_at P whole ground.keeps p m) there (lawful_at P S set.lawful p m there)

  pub least_is_least : (S : List ℕ) → IsLawfulSet P whole S → IsLeastCost n F P S (least n F P S)
  unfolding least
  least_is_least S set =
      let all = least_of_lem (map (cost n F) lists) (cost n F (filter (has S) whole))
      (among_map (cost n F) (filter (has S) whole) lists (listed (filter (has S) whole) (in_order S set))) in
      let from = among_from_map (cost n F) (least n F P S) lists all.0 in
      let kept = among_from_filter (are_lawful P) from.0 (arrangements (length S) S) from.1 in
      record {
        some = (from.0, record { arrangement = arrangement_lem (length S) S set.once refl from.0 kept.0; lawful = kept.1 }, sym from.2);
        no_less = λ xs a. all.1 (cost n F xs) (among_map (cost n F) xs lists (listed xs a));
      }
    where
      lists : List (List ℕ)
      lists = filter (are_lawful P) (arrangements (length S) S)

      listed : (xs : List ℕ) → IsLawfulList P S xs → Among xs lists
      listed xs a =
          among_filter (are_lawful P) xs (arrangements (length S) S)
          (subst (λ k. Among xs (arrangements k S)) (length_arrangement S xs set.once a.arrangement) (arranged xs S a.arrangement)) a.lawful

  pub without_top : (S : List ℕ) (x : ℕ) → IsLawfulSet P whole S → is_lawful P (without x S) ≡ true → IsLawfulSet P whole (without x S)
  without_top S x set l = grind (arith, distinct_without, has_without)

  pub recurrence_le : (S : List ℕ) (x : ℕ) → IsLawfulSet P whole S → has S x ≡ true → is_lawful P (without x S) ≡ true →
      least n F P S ≤ least_with_top n F P S x
  recurrence_le S x set h l =
      let rest = least_is_least (without x S) (without_top S x set l) in
      let xs = rest.some.0 in
      let le = (least_is_least S set).no_less (x ∷ xs) (lawful_cons P x xs S set.lawful h rest.some.1) in
      omega (arith, cost_cons n F S x xs rest.some.1.arrangement)

  pub recurrence_some : (S : List ℕ) (z : ℕ) → IsLawfulSet P whole S → has S z ≡ true →
      (x : ℕ) × (has S x ≡ true) × (is_lawful P (without x S) ≡ true) × (least n F P S ≡ least_with_top n F P S x)
  recurrence_some S z set h = by all.some.0 all.some.1 all.some.2
    where
      all : IsLeastCost n F P S (least n F P S)
      all = least_is_least S set

      by : (xs : List ℕ) → IsLawfulList P S xs → cost n F xs ≡ least n F P S →
          (x : ℕ) × (has S x ≡ true) × (is_lawful P (without x S) ≡ true) × (least n F P S ≡ least_with_top n F P S x)
      by [] a e = absurd (false≢true (a.arrangement.members z ∙ h))
      by (x ∷ xs) a e =
          let there = first_member x xs S a.arrangement in
          let tail = lawful_tail P x xs S a in
          let l = lawful_behind P x xs S a in
          let le = (least_is_least (without x S) (without_top S x set l)).no_less xs tail in
          (x, there, l, omega (arith, recurrence_le S x set there l, cost_cons n F S x xs tail.arrangement))

  -- the least cost of a lawful set that is not empty: the least over the members that may stand on top
  pub recurrence : (S : List ℕ) (z : ℕ) → IsLawfulSet P whole S → has S z ≡ true → least n F P S ≡ least_of (map (least_with_top n F P S) (tops P S))
  recurrence S z set h =
      let some = recurrence_some S z set h in
      let x = some.0 in
      let all = least_of_lem (map (least_with_top n F P S) (tops P S)) (least_with_top n F P S x)
      (among_map (least_with_top n F P S) x (tops P S) (among_tops P S x some.1 some.2)) in
      let from = among_from_map (least_with_top n F P S) (least_of (map (least_with_top n F P S) (tops P S))) (tops P S) all.0 in
      let top = from_tops P S from.0 from.1 in
      omega (
        arith,
        all.1 (least_with_top n F P S x) (among_map (least_with_top n F P S) x (tops P S) (among_tops P S x some.1 some.2)),
        recurrence_le S from.0 set top.0 top.1,
      )

  -- the least cost depends on the set alone
  pub least_same : (S T : List ℕ) → IsLawfulSet P whole S → IsLawfulSet P whole T → ((y : ℕ) → has S y ≡ has T y) → least n F P S ≡ least n F P T
  least_same S T s t h = grind (arith, least_is_least)

pub least-nil : (n : ℕ) (F : List Function) (P : List Pair) → least n F P [] ≡ 0
unfolding least least_of arrangements cost are_lawful
least-nil n F P = refl

-- without pairs the least cost is over all lists of the members
pub least_no_pairs : (n : ℕ) (F : List Function) (S : List ℕ) → least n F [] S ≡ least_of (map (cost n F) (arrangements (length S) S))
unfolding least
least_no_pairs n F S = ap (λ xss. least_of (map (cost n F) xss)) (all_kept (arrangements (length S) S))
  where
    all_kept : (xss : List (List ℕ)) → filter (are_lawful []) xss ≡ xss
    all_kept [] = refl
    all_kept (xs ∷ xss) = ap (λ b. cond b (xs ∷ filter (are_lawful []) xss) (filter (are_lawful []) xss)) (nothing_to_keep xs).2
        ∙ ap (λ yss. xs ∷ yss) (all_kept xss)
