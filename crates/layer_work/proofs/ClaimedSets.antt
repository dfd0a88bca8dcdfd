-- Seats after claims: the sets that a claim gains are those of its block.
--     claims_mask      a mask of the layer is claimed just where its block is
--     ClaimsBlock s s' p b      the seat claimed the block at a place
--     claim_gains      the widths of the sets that it gained
--     open_marks, fewer_open      how many blocks are not claimed
use Rattle.std.proofs.Common.{◌≡◌, ◌≢◌, ℕ, zero, suc, ◌+◌, ◌*◌, ◌^◌, ◌<◌, ◌≤◌, Bool, true, false, not, cond, ◌&&◌, List, [], ◌∷◌, set, get_or, slice_get, Some, refl, sym, ap, ap₂, ◌∙◌, subst, arith, nat_eq, eqb-true, eq-eqb, get_or-set_other}
use Rattle.std.specs.List.{filter, sum_by}
use Rattle.std.proofs.lemmas.Bool.{false≢true, true≢false, cases_Bool, and_from, and_left, or_right, false_from_ne_true}
use Rattle.std.proofs.lemmas.List.Sums.{sum_by-cons, sum-map}
use Rattle.std.proofs.lemmas.Option.{slice_get-get_or}
use Rattle.definitions.specs.Orders.{has, place_in}
use Rattle.definitions.proofs.Lists.Orders.{place_at, has_at, place_small}
use Rattle.subset_layers.specs.Layers.{LayerOf, BlockOf, layer_of, masks_of, block_masks, blocks_of, low_bytes, low_byte, block_place}
use Rattle.layer_core.specs.Machine.{claimed, claims_block}
use Rattle.layer_core.specs.Instances.{InstanceOf}
use Rattle.layer_board.specs.Views.{BoardId, SeatOf, stepped, claims_place, has_claimed}
use Rattle.layer_core.proofs.Layouts.{place_found, place_missing, block_at, few_masks_in}
use Rattle.layer_core.specs.Needs.{width_count, widths_for}
use Rattle.layer_core.proofs.Filters.{sum_few}
use Rattle.layer_core.proofs.WantedMembers.{few_each}
use Rattle.layer_core.proofs.BlockPlaces.{block_layer, in_place}
use Rattle.layer_work.specs.Gains.{gains, gained}

-- ---- a mask and its block

pub claims_mask : (s : SeatOf) (mask : ℕ) → has (masks_of s.board.brief.layer) mask ≡ true →
    has_claimed s mask ≡ claimed s.worker (place_in (low_bytes s.board.brief.layer) (low_byte mask))
unfolding block_place
claims_mask s mask m =
    let l = s.board.brief.layer in
    let i = place_in (masks_of l) mask in
    let below = place_small (masks_of l) mask m in
    let found : slice_get (masks_of l) i ≡ Some mask = slice_get-get_or (masks_of l) i 0 below ∙ ap Some (place_at (masks_of l) mask below) in
    ap (claims_place l s.worker) (place_found l i mask found)
    ∙ ap (claimed s.worker) (block_at l i below ∙ ap (λ k. place_in (low_bytes l) (low_byte k)) (place_at (masks_of l) mask below))

-- only masks of the layer are claimed
pub claimed_has : (s : SeatOf) (mask : ℕ) → has_claimed s mask ≡ true → has (masks_of s.board.brief.layer) mask ≡ true
claimed_has s mask e = grind (arith, cases_Bool, false≢true, place_missing)

-- ---- sums over filters

sum_split : (f : ℕ → ℕ) (p q r : ℕ → Bool) (xs : List ℕ) →
    ((x : ℕ) → has xs x ≡ true → (r x ≡ true → (q x ≡ true) × (p x ≡ false)) × (r x ≡ false → q x ≡ p x)) →
    sum_by f (filter q xs) ≡ sum_by f (filter p xs) + sum_by f (filter r xs)
sum_split f p q r [] h = refl
sum_split f p q r (x ∷ xs) h = by (r x) (p x) (q x) (h x (first x xs)) (sum_split f p q r xs (λ y m. h y (later y x xs m)))
  where
    first : (y : ℕ) (ys : List ℕ) → has (y ∷ ys) y ≡ true
    first y ys = has_at (y ∷ ys) 0 (omega arith)

    later : (y z : ℕ) (ys : List ℕ) → has ys y ≡ true → has (z ∷ ys) y ≡ true
    later y z ys m = or_right (nat_eq y z) (has ys y) m

    by : (a b c : Bool) → (a ≡ true → (c ≡ true) × (b ≡ false)) × (a ≡ false → c ≡ b) →
        sum_by f (filter q xs) ≡ sum_by f (filter p xs) + sum_by f (filter r xs) →
        sum_by f (cond c (x ∷ filter q xs) (filter q xs)) ≡ sum_by f (cond b (x ∷ filter p xs) (filter p xs)) + sum_by f
        (cond a (x ∷ filter r xs) (filter r xs))
    by true true c k e = absurd (true≢false (k.0 refl).1)
    by true false true k e = let u = sum_by-cons f x (filter q xs) in let v = sum_by-cons f x (filter r xs) in omega arith
    by true false false k e = absurd (false≢true (k.0 refl).0)
    by false true true k e = let u = sum_by-cons f x (filter q xs) in let v = sum_by-cons f x (filter p xs) in omega arith
    by false true false k e = absurd (false≢true (k.1 refl))
    by false false true k e = absurd (true≢false (k.1 refl))
    by false false false k e = e

-- ---- a claim

pub record ClaimsBlock (s s' : SeatOf) (p : ℕ) (b : BlockOf) : Type 0 where
  pub block : slice_get (blocks_of s.board.brief.layer) p ≡ Some b
  pub is : s' ≡ stepped s (claims_block s.worker p) 1
  pub there : claimed s'.worker p ≡ true
  pub later : (q : ℕ) → claimed s.worker q ≡ true → q < p

module _ (s s' : SeatOf) (p : ℕ) (b : BlockOf) (h : ClaimsBlock s s' p b) where
  abbrev L : LayerOf
  L = s.board.brief.layer

  pub same_board : s'.board ≡ s.board
  same_board = ap (λ (z : SeatOf). z.board) h.is

  -- the block was not claimed before
  pub was_open : claimed s.worker p ≡ false
  was_open = false_from_ne_true (claimed s.worker p) (λ e. let lt = h.later p e in absurd (omega arith))

  others : (q : ℕ) → q ≢ p → claimed s'.worker q ≡ claimed s.worker q
  others q ne = ap (λ (z : SeatOf). claimed z.worker q) h.is ∙ get_or-set_other s.worker.claims p q true false ne

  same_masks : (mask : ℕ) → has (masks_of L) mask ≡ true → has_claimed s' mask ≡ claimed s'.worker (place_in (low_bytes L) (low_byte mask))
  same_masks mask m = grind (arith, claims_mask, L)

  -- the masks of the block
  pub gained_now : (mask : ℕ) → has (masks_of L) mask ≡ true → nat_eq (low_byte mask) b.low ≡ true → (has_claimed s' mask ≡ true) × (has_claimed s mask ≡ false)
  gained_now mask m e = grind (arith, in_place, L, eqb-true, same_masks, claims_mask, was_open)

  -- the others
  pub as_before : (mask : ℕ) → has (masks_of L) mask ≡ true → nat_eq (low_byte mask) b.low ≡ false → has_claimed s' mask ≡ has_claimed s mask
  as_before mask m e = grind (arith, same_masks, others, L, true≢false, eq-eqb, in_place, claims_mask)

  pub kept : (mask : ℕ) → has (masks_of L) mask ≡ true → has_claimed s mask ≡ true → has_claimed s' mask ≡ true
  kept mask m e = grind (arith, cases_Bool, gained_now, as_before)

  -- the widths of the sets that are gained
  pub claim_gains : (t : InstanceOf) (s0 : SeatOf) → s.board ≡ s0.board →
      ((mask : ℕ) → has_claimed s0 mask ≡ true → has_claimed s mask ≡ true) →
      widths_for t (gained s0 s') ≡ widths_for t (gained s0 s) + widths_for t (block_masks b)
  unfolding gained widths_for block_masks
  claim_gains t s0 board stays =
      sum-map (width_count t) (filter (gains s0 s') M)
      ∙ sum_split (width_count t) (gains s0 s) (gains s0 s') in_block M each
      ∙ ap₂ (λ x y. x + y) (sym (sum-map (width_count t) (filter (gains s0 s) M)))
      (ap (λ (l : LayerOf). sum_by (width_count t) (filter in_block (masks_of l))) (same ∙ sym (block_layer L p b h.block))
      ∙ sym (sum-map (width_count t) (filter in_block (masks_of (layer_of b)))))
    where
      M : List ℕ
      M = masks_of s0.board.brief.layer

      same : s0.board.brief.layer ≡ L
      same = ap (λ (z : BoardId). z.brief.layer) (sym board)

      in_block : ℕ → Bool
      in_block mask = nat_eq (low_byte mask) b.low

      each : (x : ℕ) → has M x ≡ true →
          (in_block x ≡ true → (gains s0 s' x ≡ true) × (gains s0 s x ≡ false)) × (in_block x ≡ false → gains s0 s' x ≡ gains s0 s x)
      each x m =
          let mine : has (masks_of L) x ≡ true = subst (λ (l : LayerOf). has (masks_of l) x ≡ true) same m in (
            λ y.
                let now = gained_now x mine y in
                let before : has_claimed s0 x ≡ false = false_from_ne_true (has_claimed s0 x) (λ e. true≢false (sym (stays x e) ∙ now.1)) in
                (and_from _ _ now.0 (ap not before), and_left _ _ now.1),
            λ n. ap (λ k. k && not (has_claimed s0 x)) (as_before x mine n),
          )

-- ---- few sets take few widths

pub few_gained : (t : InstanceOf) (s s' : SeatOf) (n : ℕ) → t.problem.inputs ≤ 16 → s.board.brief.layer.inputs ≡ n → n ≤ 16 →
    widths_for t (gained s s') ≤ 16 * 2 ^ 16
unfolding gained widths_for
few_gained t s s' n few is less = grind (arith, sum-map, sum_few, few_each, few_masks_in)

-- ---- blocks that are not claimed

open_weight : Bool → ℕ
open_weight true = 0
open_weight false = 1

pub open_marks : List Bool → ℕ
open_marks [] = 0
open_marks (b ∷ bs) = open_weight b + open_marks bs

pub fewer_open : (xs : List Bool) (p : ℕ) → get_or (set xs p true) p false ≡ true → get_or xs p false ≡ false → open_marks (set xs p true) < open_marks xs
unfolding open_weight open_marks
fewer_open [] p e o = absurd (false≢true e)
fewer_open (x ∷ xs) zero e o = let k : open_weight x ≡ 1 = ap open_weight o in omega arith
fewer_open (x ∷ xs) (suc p) e o = let k = fewer_open xs p e o in omega arith
