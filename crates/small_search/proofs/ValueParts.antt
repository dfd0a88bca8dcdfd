-- Where the values of each size stand.
--     start_within, starts, start_next      where they begin and end
--     part_long, part_ending, part_own      one of them
--     part_other      the others, where one is exchanged
use Rattle.std.proofs.Common.{◌≡◌, ◌≢◌, ℕ, zero, suc, ◌+◌, ◌-◌, ◌*◌, ◌/◌, ◌^◌, ◌<◌, ◌≤◌, inl, inr, List, ◌++◌, length, take, drop, sym, ap, ◌∙◌, arith}
use Rattle.std.proofs.lemmas.Bool.{cases_lt}
use Rattle.std.proofs.lemmas.List.{append_assoc, drop-append-le, drop-drop, drop_at, length-append, length-drop, length-take-le, take-append-le, take_all, take_at}
use Rattle.small_search.specs.ValuePlaces.{start_of, values_at}

-- the values of the sizes up to 3 fit into twice those of no variable
pub start_within : (entries size : ℕ) → size ≤ 3 → start_of entries size + entries / 2 ^ size ≤ 2 * entries
unfolding start_of
start_within entries zero l = omega arith
start_within entries (suc zero) l = omega arith
start_within entries (suc (suc zero)) l = omega arith
start_within entries (suc (suc (suc zero))) l = omega arith
start_within entries (suc (suc (suc (suc k)))) l = absurd (omega (arith, l))

pub starts : (entries : ℕ) → (start_of entries 0 ≡ 0) × (start_of entries 1 ≡ entries) × (start_of entries 2 ≡ entries + entries / 2)
    × (start_of entries 3 ≡ entries + entries / 2 + entries / 4)
unfolding start_of
starts entries = (omega arith, omega arith, omega arith, omega arith)

-- each size begins behind the ones before it
pub start_next : (entries k size : ℕ) → k < size → start_of entries k + entries / 2 ^ k ≤ start_of entries size
unfolding start_of
start_next entries k zero l = absurd (omega (arith, l))
start_next entries k (suc size) l = elim (cases_lt k size) [
  | inl low ↦ let s = start_next entries k size low in omega (arith, s)
  | inr high ↦
      let e : k ≡ size = omega (arith, high, l) in
      let s = ap (λ i. start_of entries i + entries / 2 ^ i) e in
      omega (arith, s)
]

pub part_long : (entries : ℕ) (values : List ℕ) (size : ℕ) → size ≤ 3 → length values ≡ 2 * entries →
    length (values_at entries values size) ≡ entries / 2 ^ size
part_long entries values size few long =
    let s = start_within entries size few in
    let d = length-drop (start_of entries size) values in
    length-take-le (entries / 2 ^ size) (drop (start_of entries size) values) (omega (arith, s, d, long))

-- a part before a place
before_place : (entries : ℕ) (front back : List ℕ) (k size : ℕ) → k < size → length front ≡ start_of entries size →
    values_at entries (front ++ back) k ≡ values_at entries front k
before_place entries front back k size l e =
    let s = start_next entries k size l in
    let d = length-drop (start_of entries k) front in
    ap (take (entries / 2 ^ k)) (drop-append-le (start_of entries k) front back (omega (arith, s, e)))
    ∙ take-append-le (entries / 2 ^ k) (drop (start_of entries k) front) back (omega (arith, s, e, d))

-- the part that ends at a place
ending : (entries : ℕ) (front back : List ℕ) (k : ℕ) → length front ≡ start_of entries (suc k) →
    values_at entries (front ++ back) k ≡ drop (start_of entries k) front
unfolding start_of
ending entries front back k e =
    let d = length-drop (start_of entries k) front in
    before_place entries front back k (suc k) (omega arith) e ∙ take_all (entries / 2 ^ k) (drop (start_of entries k) front) (omega (arith, d, e))

pub part_ending : (entries : ℕ) (values front back part : List ℕ) (size start start' : ℕ) → 1 ≤ size → values ≡ front ++ back → length front ≡ start →
    start ≡ start_of entries size → part ≡ drop start' front → start' ≡ start_of entries (size - 1) → values_at entries values (size - 1) ≡ part
part_ending entries values front back part size start start' some v l s p s' =
    let e : size ≡ suc (size - 1) = omega (arith, some) in
    ap (λ vs. values_at entries vs (size - 1)) v ∙ ending entries front back (size - 1) (l ∙ s ∙ ap (start_of entries) e)
    ∙ sym (p ∙ ap (λ k. drop k front) s')

-- the part that begins at a place
pub part_own : (entries : ℕ) (front own rest : List ℕ) (size : ℕ) → length front ≡ start_of entries size → length own ≡ entries / 2 ^ size →
    values_at entries (front ++ (own ++ rest)) size ≡ own
part_own entries front own rest size e l =
    ap (take (entries / 2 ^ size)) (drop_at front (own ++ rest) (start_of entries size) e) ∙ take_at own rest (entries / 2 ^ size) l

-- a part behind it
behind : (entries : ℕ) (front own rest : List ℕ) (k size : ℕ) → size < k → length front ≡ start_of entries size → length own ≡ entries / 2 ^ size →
    values_at entries (front ++ (own ++ rest)) k ≡ take (entries / 2 ^ k) (drop (start_of entries k - start_of entries (suc size)) rest)
unfolding start_of
behind entries front own rest k size l e m =
    let n : length (front ++ own) ≡ start_of entries size + entries / 2 ^ size = length-append front own ∙ omega (arith, e, m) in
    let s : start_of entries size + entries / 2 ^ size + (start_of entries k - (start_of entries size + entries / 2 ^ size)) ≡ start_of entries k =
    (let a = start_next entries size k l in omega (arith, a)) in
    ap (take (entries / 2 ^ k))
    (ap (drop (start_of entries k)) (sym (append_assoc front own rest))
    ∙ ap (λ i. drop i ((front ++ own) ++ rest)) (sym s)
    ∙ sym (drop-drop (start_of entries k - (start_of entries size + entries / 2 ^ size)) (start_of entries size + entries / 2 ^ size) ((front ++ own) ++ rest))
    ∙ ap (drop (start_of entries k - (start_of entries size + entries / 2 ^ size))) (drop_at (front ++ own) rest _ n))

-- the others stay
pub part_other : (entries : ℕ) (front own other rest : List ℕ) (k size : ℕ) → k ≢ size → length front ≡ start_of entries size →
    length own ≡ entries / 2 ^ size → length other ≡ entries / 2 ^ size →
    values_at entries (front ++ (other ++ rest)) k ≡ values_at entries (front ++ (own ++ rest)) k
part_other entries front own other rest k size ne e l m = elim (cases_lt k size) [
  | inl low ↦ before_place entries front (other ++ rest) k size low e ∙ sym (before_place entries front (own ++ rest) k size low e)
  | inr high ↦
      let up : size < k = omega (arith, high, ne) in
      behind entries front other rest k size up e m ∙ sym (behind entries front own rest k size up e l)
]
