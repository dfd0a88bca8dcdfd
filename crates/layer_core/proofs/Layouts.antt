-- The blocks of a layer's masks, and the places of its masks.
use Rattle.std.proofs.Common.{◌≡◌, ◌↔◌, IsNone, IsFalse, ℕ, zero, suc, ◌^◌, ◌<◌, ◌≤◌, ◌&&◌, ◌||◌, Bool, true, false, nat_eq, List, [], ◌∷◌, map, get_or, length, Option, Some, None, slice_get, sym, refl, ap, ◌∙◌, subst, pow_mono, arith}
use Rattle.std.specs.List.{filter, list_any, range_with_len}
use Rattle.std.proofs.lemmas.List.FromFn.{length-range_with_len, get_or-range_with_len}
use Rattle.std.proofs.lemmas.Option.{get_or_from_slice_get, slice_get_within}
use Rattle.definitions.specs.Orders.{has, place_in, members}
use Rattle.definitions.proofs.Lists.Orders.{has_filter, has_range, place_small}
use Rattle.subset_layers.specs.Layers.{LayerOf, masks_of, low_byte, low_bytes, blocks_of, block_place}
use Rattle.subset_layers.proofs.BlockLists.{blocks_length}
use Rattle.subset_layers.proofs.CostLists.{distinct_masks}
use Rattle.layer_core.specs.Machine.{place_of}
use Rattle.layer_core.specs.Rights.{IsLayout}
use Rattle.layer_core.specs.Instances.{layout_of}
use Rattle.layer_core.proofs.Positions.{found_at, not_found}
use Rattle.definitions.proofs.Lists.Ranges.{filter_at_most}

pub length-map_lem : {A B : Type 0} (f : A → B) (xs : List A) → length (map f xs) ≡ length xs
length-map_lem f [] = refl
length-map_lem f (x ∷ xs) = ap suc (length-map_lem f xs)

pub get_or-map_lem : {A B : Type 0} (f : A → B) (xs : List A) (i : ℕ) (d : A) (e : B) → i < length xs → get_or (map f xs) i e ≡ f (get_or xs i d)
get_or-map_lem f [] i d e h = absurd (omega arith)
get_or-map_lem f (x ∷ xs) zero d e h = refl
get_or-map_lem f (x ∷ xs) (suc i) d e h = get_or-map_lem f xs i d e (omega arith)

any_at : {A : Type 0} (p : A → Bool) (xs : List A) (i : ℕ) (d : A) → i < length xs → p (get_or xs i d) ≡ true → list_any p xs ≡ true
any_at p [] i d h e = absurd (omega arith)
any_at p (x ∷ xs) zero d h e = ap (λ (b : Bool). b || list_any p xs) e
any_at p (x ∷ xs) (suc i) d h e = grind (arith, any_at p xs i d (omega arith) e)

place_is : (l : LayerOf) (p : ℕ) → block_place l p ≡ place_in (low_bytes l) (low_byte (get_or (masks_of l) p 0))
unfolding block_place
place_is l p = refl

has_low : (l : LayerOf) (low : ℕ) → has (low_bytes l) low ≡ (has (range_with_len 0 256) low && list_any (λ mask. nat_eq (low_byte mask) low) (masks_of l))
unfolding low_bytes
has_low l low = has_filter (λ low. list_any (λ mask. nat_eq (low_byte mask) low) (masks_of l)) (range_with_len 0 256) low

in_range : (low many : ℕ) → low < many → has (range_with_len 0 many) low ≡ true
in_range low many h = (has_range many 0 low).1 (omega arith, omega arith)

-- the block of each mask is one of the layer's
pub block_below : (l : LayerOf) (p : ℕ) → p < length (masks_of l) → block_place l p < length (blocks_of l)
block_below l p low =
    let m : ℕ = get_or (masks_of l) p 0 in
    let here : has (range_with_len 0 256) (low_byte m) ≡ true = in_range (low_byte m) 256 (omega arith) in
    let is_low : list_any (λ mask. nat_eq (low_byte mask) (low_byte m)) (masks_of l) ≡ true =
    any_at (λ (mask : ℕ). nat_eq (low_byte mask) (low_byte m)) (masks_of l) p 0 low (same (low_byte m)) in
    grind (arith, place_is, blocks_length, place_small, has_low)
  where
    same : (n : ℕ) → nat_eq n n ≡ true
    same n = grind arith

    both : (a b : Bool) → a ≡ true → b ≡ true → (a && b) ≡ true
    both true b p q = q
    both false b p q = p

pub block_at : (l : LayerOf) (p : ℕ) → p < length (masks_of l) → get_or (layout_of l).block_of p 0 ≡ block_place l p
block_at l p low =
    get_or-map_lem (block_place l) (range_with_len 0 (length (masks_of l))) p 0 0 (omega (arith, length-range_with_len 0 (length (masks_of l))))
    ∙ ap (block_place l) (get_or-range_with_len 0 (length (masks_of l)) p 0 low ∙ omega arith)

pub laid : (l : LayerOf) → IsLayout (layout_of l)
laid l = record { placed = λ p low. subst (λ (k : ℕ). k < length (blocks_of l)) (sym (block_at l p low)) (block_below l p low) }

length-range_le : (many : ℕ) (p : ℕ → Bool) → length (filter p (range_with_len 0 many)) ≤ many
length-range_le many p = omega (arith, filter_at_most p (range_with_len 0 many), length-range_with_len 0 many)

few_low_bytes : (l : LayerOf) → length (low_bytes l) ≤ 256
unfolding low_bytes
few_low_bytes l = length-range_le 256 (λ low. list_any (λ mask. nat_eq (low_byte mask) low) (masks_of l))

pub few_blocks : (l : LayerOf) → length (blocks_of l) ≤ 256
few_blocks l = subst (λ (k : ℕ). k ≤ 256) (sym (blocks_length l)) (few_low_bytes l)

pub few_masks : (l : LayerOf) → length (masks_of l) ≤ 2 ^ l.inputs
unfolding masks_of
few_masks l = length-range_le (2 ^ l.inputs) (λ mask. nat_eq (length (members l.inputs mask)) l.size)

-- a mask stands at its place
pub place_found : (l : LayerOf) (p mask : ℕ) → slice_get (masks_of l) p ≡ Some mask → place_of (layout_of l) mask ≡ Some p
place_found l p mask is =
    found_at (masks_of l) p mask (distinct_masks l) (slice_get_within (masks_of l) p mask is)
    (get_or_from_slice_get (masks_of l) p mask 0 is)

-- another mask has none
pub place_missing : (l : LayerOf) (mask : ℕ) → has (masks_of l) mask ≡ false → place_of (layout_of l) mask ≡ None
place_missing l mask none = not_found (masks_of l) mask none

-- a search that finds nothing
pub missing_if : (l : LayerOf) (mask : ℕ) (o : Option ℕ) → o ≡ None → (IsNone o ↔ IsFalse (has (masks_of l) mask)) → place_of (layout_of l) mask ≡ None
missing_if l mask o is none = place_missing l mask (none.0 (subst (λ (z : Option ℕ). IsNone z) (sym is) refl))

-- a layer of at most 16 variables has few masks
pub few_masks_in : (l : LayerOf) (n : ℕ) → l.inputs ≡ n → n ≤ 16 → length (masks_of l) ≤ 2 ^ 16
few_masks_in l n is few = omega (arith, few_masks l, pow_mono {j = 16} few, ap (λ (k : ℕ). 2 ^ k) is)
