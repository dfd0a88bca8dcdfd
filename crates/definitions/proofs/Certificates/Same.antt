-- What certificates say of functions they say of others that are the same, function by function.
--     certificate_same      the certificate that the tool writes
--     good_same, first_reason_same      whether a certificate is good; the first reason why it is not
use Rattle.std.proofs.Common.{◌≡◌, ℕ, suc, ◌+◌, ◌^◌, ◌<◌, ◌≤◌, not, cond, ◌||◌, List, [], ◌∷◌, length, map, IsFalse, nat_eq, refl, sym, ap, ◌∙◌, subst}
use Rattle.std.specs.List.{All, filter, list_any}
use Rattle.definitions.specs.Functions.{Function, depends}
use Rattle.definitions.specs.Orders.{has, members, variables}
use Rattle.definitions.specs.Pairs.{Pair, sorted_pairs}
use Rattle.definitions.specs.Levels.{size_under, reach}
use Rattle.definitions.specs.Widths.{width, cost, least, least_of, essential, essentials_outside, outside, arrangements}
use Rattle.definitions.specs.Pairs.{are_lawful}
use Rattle.definitions.specs.Certificates.{Cell, Certificate, IsGood, Reason, Shape, Order, Pairs, Levels, Total, Start, CellTooBig, Edge, Applies, IsFirstReason, AreBothLawful, certificate_of, least_listed, listed_masks, lower_bound, set_value}
use Rattle.definitions.proofs.Functions.Tables.{depends_same}
use Rattle.definitions.proofs.Functions.Same.{AllSame, turned, same_dependents, same_reach, level_counts_same, size_same}

length_same : (n : ℕ) (F G : List Function) → AllSame n F G → length F ≡ length G
length_same n [] [] h = refl
length_same n [] (g ∷ G) h = absurd h
length_same n (f ∷ F) [] h = absurd h
length_same n (f ∷ F) (g ∷ G) h = ap suc (length_same n F G h.1)

some_same : (n x : ℕ) (F G : List Function) → AllSame n F G → list_any (λ f. depends n f x) F ≡ list_any (λ f. depends n f x) G
some_same n x [] [] h = refl
some_same n x [] (g ∷ G) h = absurd h
some_same n x (f ∷ F) [] h = absurd h
some_same n x (f ∷ F) (g ∷ G) h = λ i. depends_same n f g x h.0 i || some_same n x F G h.1 i

module _ (n : ℕ) (F G : List Function) (s : AllSame n F G) where
  pub widths_same : (T : List ℕ) (x : ℕ) → width n F T x ≡ width n G T x
  unfolding width
  widths_same T x = same_dependents n x (reach F (outside n (x ∷ T))) (reach G (outside n (x ∷ T))) (same_reach n (outside n (x ∷ T)) F G s)

  cost_same : (xs : List ℕ) → cost n F xs ≡ cost n G xs
  unfolding cost
  cost_same [] = refl
  cost_same (x ∷ below) = λ i. widths_same below x i + cost_same below i

  pub least_same : (P : List Pair) (S : List ℕ) → least n F P S ≡ least n G P S
  unfolding least
  least_same P S = λ i. least_of (map (λ xs. cost_same xs i) (filter (are_lawful P) (arrangements (length S) S)))

  pub essentials_same : (S : List ℕ) → essentials_outside n F S ≡ essentials_outside n G S
  unfolding essentials_outside essential
  essentials_same S = λ i. length (filter (λ x. not (has S x)) (filter (λ x. some_same n x F G s i) (variables n)))

  listed_same : (P : List Pair) (total : ℕ) → listed_masks n F P total ≡ listed_masks n G P total
  unfolding listed_masks
  listed_same P total = search (least_same, essentials_same)

  cell_same : (P : List Pair) (mask : ℕ) → least_listed n F P mask ≡ least_listed n G P mask
  unfolding least_listed
  cell_same P mask = λ i. record { mask = mask; cost = least_same P (members n mask) i }

  cells_same : (P : List Pair) (order : List ℕ) →
      map (least_listed n F P) (listed_masks n F P (size_under n F order)) ≡ map (least_listed n G P)
      (listed_masks n G P (size_under n G order))
  cells_same P order = (λ i. map (λ mask. cell_same P mask i) (listed_same P (size_under n F order) i))
      ∙ ap (λ total. map (least_listed n G P) (listed_masks n G P total)) (size_same n F G s order)

  -- the certificate that the tool writes
  pub certificate_same : (P : List Pair) (order : List ℕ) → certificate_of n F P order ≡ certificate_of n G P order
  unfolding certificate_of
  certificate_same P order = λ i. record {
    format = 2;
    inputs = n;
    outputs = length_same n F G s i;
    order = order;
    levels = level_counts_same n F G s order i;
    total = size_same n F G s order i;
    pairs = sorted_pairs n P;
    cells = cells_same P order i;
  }

  lower_bound_same : (cert : Certificate) (mask : ℕ) → lower_bound n F cert mask ≡ lower_bound n G cert mask
  unfolding lower_bound
  lower_bound_same cert mask = λ i. cond (nat_eq cert.format 1) 0 (essentials_same (members n mask) i)

  value_same : (cert : Certificate) (mask : ℕ) → set_value n F cert mask ≡ set_value n G cert mask
  unfolding set_value
  value_same cert mask = search lower_bound_same

  -- whether a certificate is good
  pub good_same : (cert : Certificate) → IsGood n F cert → IsGood n G cert
  good_same cert g = record {
    inputs = g.inputs;
    outputs = g.outputs ∙ length_same n F G s;
    order = g.order;
    pairs = g.pairs;
    levels = g.levels ∙ level_counts_same n F G s cert.order;
    total = g.total;
    start = sym (value_same cert 0) ∙ g.start;
    cells = subst (λ (r : ℕ → ℕ). All (λ (c : Cell). c.cost + r c.mask ≤ cert.total) cert.cells) (λ i mask. lower_bound_same cert mask i) g.cells;
    edges = subst (λ (w : List ℕ → ℕ → ℕ). All (λ (c : Cell). (x : ℕ) → x < n → IsFalse (has (members n c.mask) x) → AreBothLawful n cert.pairs c.mask x →
        set_value n G cert (c.mask + 2 ^ x) ≤ set_value n G cert c.mask + w (members n c.mask) x) cert.cells) (λ i T x. widths_same T x i)
        (subst (λ (v : ℕ → ℕ). All (λ (c : Cell). (x : ℕ) → x < n → IsFalse (has (members n c.mask) x) → AreBothLawful n cert.pairs c.mask x →
        v (c.mask + 2 ^ x) ≤ v c.mask + width n F (members n c.mask) x) cert.cells) (λ i mask. value_same cert mask i) g.edges);
  }

  applies_same : (cert : Certificate) (reason : Reason) → Applies n F cert reason → Applies n G cert reason
  applies_same cert Shape a = λ h. a (h.0, h.1 ∙ sym (length_same n F G s))
  applies_same cert Order a = a
  applies_same cert Pairs a = a
  applies_same cert Levels a = λ e. a (e ∙ sym (level_counts_same n F G s cert.order))
  applies_same cert Total a = a
  applies_same cert Start a = λ e. a (value_same cert 0 ∙ e)
  applies_same cert CellTooBig a = (a.0, a.1, subst (λ k. cert.total < a.0.cost + k) (lower_bound_same cert a.0.mask) a.2)
  applies_same cert (Edge mask x) a = (
    a.0,
    a.1,
    a.2,
    a.3,
    a.4,
    a.5,
    subst (λ k. set_value n G cert mask + width n G (members n mask) x < k) (value_same cert (mask + 2 ^ x))
        (subst (λ k. k + width n G (members n mask) x < set_value n F cert (mask + 2 ^ x)) (value_same cert mask)
        (subst (λ k. set_value n F cert mask + k < set_value n F cert (mask + 2 ^ x)) (widths_same (members n mask) x) a.6)),
  )

-- the first reason why a certificate is not good
pub first_reason_same : (n : ℕ) (F G : List Function) (s : AllSame n F G) (cert : Certificate) (reason : Reason) →
    IsFirstReason n F cert reason → IsFirstReason n G cert reason
first_reason_same n F G s cert reason h = record {
  applies = applies_same n F G s cert reason h.applies;
  first = λ other less a. h.first other less (applies_same n G F (turned n F G s) cert other a);
}
