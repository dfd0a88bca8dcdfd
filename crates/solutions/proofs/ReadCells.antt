-- The order and its level counts, read off the cells of all sets in one walk.
--     ReadBoth t mask top order levels place      the first variables are read, and their level counts, whatever is read from the set that is left
--     both_start      none is read
--     both_read, both_counted      all are read
use Rattle.std.proofs.Common.{◌≡◌, ℕ, zero, suc, ◌+◌, ◌-◌, ◌*◌, ◌%◌, ◌^◌, ◌<◌, ◌≤◌, true, length, set, take, get_or, List, [], ◌∷◌, ◌++◌, refl, sym, ap, ◌∙◌, subst, arith}
use Rattle.std.proofs.Math.Seq.{get_or-append_seam}
use Rattle.std.proofs.lemmas.List.{append_assoc, append-nil, length-append, length-set, length-take, take_all, take_more_set}
use Rattle.std.proofs.lemmas.Nat.{one_shl, zero_from_ones}
use Rattle.definitions.specs.Orders.{has, members}
use Rattle.definitions.specs.Problems.{functions}
use Rattle.definitions.specs.Cells.{IsReadFrom, cell_cost}
use Rattle.definitions.specs.Levels.{level_counts}
use Rattle.definitions.proofs.Bits.Ones.{ones-members}
use Rattle.definitions.proofs.Widths.Cells.{cell_member}
use Rattle.subset_layers.specs.declared.costs.Cell.{Cell}
use Rattle.layer_core.specs.Instances.{InstanceOf, cell_for}
use Rattle.layer_core.specs.Pairing.{no_cell}
use Rattle.solutions.specs.Bounded.{AreFlatCells, IsBounded}
use Rattle.solutions.specs.Solutions.{IsReadOff, cost_for}
use Rattle.solutions.proofs.FlatLists.{flat_cost}
use Rattle.solutions.proofs.ReadOrders.{CountedTo, ReadTo, counted_fall, counted_next, counted_start, counted_whole, less_member, read_member, read_next, read_some, read_start, read_whole, some_member}

abbrev IsRead : InstanceOf → ℕ → List ℕ → Type 0
IsRead t mask rest = IsReadFrom t.problem.inputs (functions t.problem) t.pairs.pairs t.lower_bound t.bound mask rest

-- an order is read from each set
rest_of : (t : InstanceOf) → IsBounded t → (k mask : ℕ) → mask < 2 ^ t.problem.inputs → length (members t.problem.inputs mask) ≡ k →
    (rest : List ℕ) × IsRead t mask rest
unfolding IsReadFrom
rest_of t b zero mask small e = ([], zero_from_ones mask (let o = ones-members t.problem.inputs mask small in omega (arith, o, e)))
rest_of t b (suc k) mask small e =
    let n = t.problem.inputs in
    let some = some_member n mask (omega (arith, e)) in
    let x = (cell_for t mask).1 in
    let m = cell_member n (functions t.problem) t.pairs.pairs b.order b.is_order b.keeps t.lower_bound t.bound mask (get_or (members n mask) 0 0) some.1 in
    let less = less_member n mask x m in
    let rest = rest_of t b k (mask - 2 ^ x) (omega (arith, small)) (omega (arith, less.1.1, e)) in
    (x ∷ rest.0, (m, refl, rest.1))

pub record ReadBoth (t : InstanceOf) (mask top : ℕ) (order levels : List ℕ) (place : ℕ) : Type 0 where
  pub read : ReadTo t mask (take place order) place
  pub counted : (rest : List ℕ) → IsReadFrom t.problem.inputs (functions t.problem) t.pairs.pairs t.lower_bound t.bound mask rest →
      CountedTo t (take place order ++ rest) mask top (take place levels) place
  pub many : length order ≡ t.problem.inputs
  pub long : length levels ≡ t.problem.inputs

pub both_start : (t : InstanceOf) (mask top : ℕ) (order levels : List ℕ) → mask ≡ 2 ^ t.problem.inputs - 1 → top ≡ cost_for t mask →
    length order ≡ t.problem.inputs → length levels ≡ t.problem.inputs → ReadBoth t mask top order levels 0
both_start t mask top order levels full is many long = record {
  read = subst (λ (k : ℕ). ReadTo t k [] 0) (sym full) (read_start t);
  counted = λ rest h. counted_start t rest mask top full is;
  many = many;
  long = long;
}

-- a step of the code
module _ (t : InstanceOf) (bounded : IsBounded t) (few : t.problem.inputs ≤ 16) (cells : List Cell) (are : AreFlatCells t cells) (mask top : ℕ)
    (order levels : List ℕ) (place : ℕ) (h : ReadBoth t mask top order levels place) (lt : place < length order) where
  abbrev x : ℕ
  x = (get_or cells mask no_cell).variable

  inside : place < t.problem.inputs
  inside = let m = h.many in omega (arith, lt, m)

  variable_is : x ≡ (cell_for t mask).1
  variable_is = ap (λ (p : ℕ × ℕ). p.1) (are.each mask (read_some t mask (take place order) place h.read inside) h.read.small)

  member : has (members t.problem.inputs mask) x ≡ true
  member = ap (has (members t.problem.inputs mask)) variable_is ∙ read_member t mask (take place order) place h.read bounded inside

  parts : (x < t.problem.inputs) × ((2 ^ x ≤ mask) × (length (members t.problem.inputs (mask - 2 ^ x)) + 1 ≡ length (members t.problem.inputs mask)))
  parts = less_member t.problem.inputs mask x member

  pub variable_small : x < 16
  variable_small = omega (arith, parts.0, few)

  shift : 1 * 2 ^ x % 65536 ≡ 2 ^ x
  shift = one_shl x 16 variable_small

  pub variable_fits : 1 * 2 ^ x % 65536 ≤ mask
  variable_fits = omega (arith, shift, parts.1.0)

  smaller : mask - 1 * 2 ^ x % 65536 < 2 ^ t.problem.inputs
  smaller = let s = h.read.small in omega (arith, s)

  pub cell_there : mask - 1 * 2 ^ x % 65536 < length cells
  cell_there = let m = are.many in omega (arith, smaller, m)

  abbrev below : ℕ
  below = (get_or cells (mask - 1 * 2 ^ x % 65536) no_cell).cost

  below_is : below ≡ cell_cost t.problem.inputs (functions t.problem) t.pairs.pairs t.lower_bound t.bound (mask - 2 ^ x)
  below_is = flat_cost t cells (mask - 1 * 2 ^ x % 65536) no_cell are smaller ∙ ap (λ e. cost_for t (mask - e)) shift

  len : length (take place order) ≡ place
  len = omega (arith, length-take place order, lt)

  module _ (rest : List ℕ) (r : IsRead t (mask - 2 ^ x) rest) where
    whole : IsRead t mask (x ∷ rest)
    unfolding IsReadFrom
    whole = (member, variable_is, r)

    abbrev all : List ℕ
    all = take place order ++ x ∷ rest

    here : x ≡ get_or all place 0
    here = sym (ap (λ k. get_or all k 0) (sym len) ∙ get_or-append_seam (take place order) x rest 0)

    within : place < length all
    within = omega (arith, length-append (take place order) (x ∷ rest), len)

    fall : below ≤ top
    fall =
        let f = counted_fall t bounded all (h.read.read (x ∷ rest) whole) mask top (take place levels) place (h.counted (x ∷ rest) whole) x within here
        below below_is in
        omega (arith, f)

    more : CountedTo t (take (place + 1) (set order place x) ++ rest) (mask - 2 ^ x) below (take (place + 1) (set levels place (top - below))) (place + 1)
    more =
        let orders : all ≡ take (place + 1) (set order place x) ++ rest =
        sym (ap (λ ys. ys ++ rest) (take_more_set order place x lt) ∙ append_assoc (take place order) (x ∷ []) rest) in
        let l = h.long in
        let m = h.many in
        let counts = sym (take_more_set levels place (top - below) (omega (arith, lt, l, m))) in
        subst (λ z. z) (λ i. CountedTo t (orders i) (mask - 2 ^ x) below (counts i) (place + 1))
        (counted_next t bounded all (h.read.read (x ∷ rest) whole) mask top (take place levels) place (h.counted (x ∷ rest) whole) x within here
        below below_is)

  pub cost_falls : below ≤ top
  cost_falls =
      let s = h.read.small in
      let rest = rest_of t bounded (length (members t.problem.inputs (mask - 2 ^ x))) (mask - 2 ^ x) (omega (arith, s)) refl in
      fall rest.0 rest.1

  pub both_next : ReadBoth t (mask - 1 * 2 ^ x % 65536) below (set order place x) (set levels place (top - below)) (place + 1)
  both_next = record {
    read =
        subst (λ (ys : List ℕ). ReadTo t (mask - 1 * 2 ^ x % 65536) ys (place + 1)) (sym (take_more_set order place x lt))
        (subst (λ (k : ℕ). ReadTo t (mask - k) (take place order ++ x ∷ []) (place + 1)) (sym shift)
        (read_next t mask (take place order) place h.read x variable_is member));
    counted = λ rest r.
        subst (λ (k : ℕ). CountedTo t (take (place + 1) (set order place x) ++ rest) (mask - k) below (take (place + 1) (set levels place (top - below)))
        (place + 1)) (sym shift) (more rest (subst (λ (k : ℕ). IsRead t (mask - k) rest) shift r));
    many = length-set order place x ∙ h.many;
    long = length-set levels place (top - below) ∙ h.long;
  }

-- all variables
module _ (t : InstanceOf) (mask top : ℕ) (order levels : List ℕ) (place : ℕ) (h : ReadBoth t mask top order levels place) (end : length order ≤ place) where
  all_taken : take place order ≡ order
  all_taken = take_all place order end

  over : t.problem.inputs ≤ place
  over = let m = h.many in omega (arith, end, m)

  pub both_read : IsReadOff t order
  both_read = read_whole t mask order place (subst (λ (ys : List ℕ). ReadTo t mask ys place) all_taken h.read) over

  nothing_left : IsRead t mask []
  unfolding IsReadFrom
  nothing_left = zero_from_ones mask (let o = ones-members t.problem.inputs mask h.read.small in let l = h.read.left in omega (arith, o, l, over))

  pub both_counted : place ≤ t.problem.inputs → levels ≡ level_counts t.problem.inputs (functions t.problem) order
  both_counted le =
      let l = h.long in
      let m = h.many in
      sym (take_all place levels (omega (arith, l, over)))
      ∙ counted_whole t order mask top (take place levels) place
      (subst (λ (ys : List ℕ). CountedTo t ys mask top (take place levels) place) (append-nil (take place order) ∙ all_taken) (h.counted [] nothing_left))
      (omega (arith, le, over, m))
