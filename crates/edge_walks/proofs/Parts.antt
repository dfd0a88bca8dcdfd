-- The first of the edges that parts found.
--     FirstSoFar parts k a, so_far_none, so_far_more, so_far_all      the first of those of the parts below k
--     first_of_all      the first edge that fails, from the parts' first ones
use Rattle.std.proofs.Common.{◌≡◌, ℕ, zero, suc, ◌+◌, ◌-◌, ◌*◌, ◌/◌, ◌^◌, ◌<◌, ◌≤◌, ◌⊎◌, inl, inr, true, false, List, [], ◌∷◌, length, get_or, zero-add, is_ok, IfOk, IsTrue, Option, Some, None, Result, Ok, Err, refl, sym, ap, ◌∙◌, subst, arith}
use Rattle.std.specs.List.{All, AllZip, range_with_len}
use Rattle.std.proofs.lemmas.Bool.{cases_eq}
use Rattle.std.proofs.lemmas.List.FromFn.{get_or-range_with_len, length-range_with_len}
use Rattle.std.proofs.Math.Nat.{div-lt_iff_lt-mul, mod-lt}
use Rattle.std.proofs.lemmas.Nat.{pow_pos, pow-add, div-add-mod'}
use Rattle.definitions.specs.Functions.{Function}
use Rattle.edge_walks.specs.Edges.{part_at, EdgeFails, FailsWithin, IsEdgeBefore, IsFirstOf, IsFirstEdge, IsEdgeFound, IsFirstOfParts}
use Rattle.edge_walks.proofs.FirstEdges.{first_joined, before_later, judged_within}
use Rattle.edge_walks.proofs.Places.{part_within, part_twice}
use Rattle.definitions.proofs.Nodes.Construction.{zip_length}

module _ {E : Type 0} (parts : List (Result (Option (ℕ × ℕ)) E)) where
  -- part j found this edge
  abbrev Holds : ℕ → ℕ → ℕ → Type 0
  Holds j S x = (j < length parts) × (get_or parts j (Ok (Some (S, x))) ≡ Ok (Some (S, x)))

  abbrev Below : ℕ → ℕ → ℕ → Type 0
  Below k S x = (j : ℕ) × (j < k) × Holds j S x

  pub record FirstSoFar (k : ℕ) (edge : Option (ℕ × ℕ)) : Type 0 where
    pub sound : (j : ℕ) (d : Result (Option (ℕ × ℕ)) E) → j < k → j < length parts → IsTrue (is_ok (get_or parts j d))
    pub first : IsFirstEdge (Below k) edge

  pub so_far_none : FirstSoFar 0 None
  so_far_none = record { sound = λ j d l m. absurd (omega arith); first = λ S x b. absurd (omega arith) }

  any_default : (xs : List (Result (Option (ℕ × ℕ)) E)) (j : ℕ) (d e : Result (Option (ℕ × ℕ)) E) → j < length xs → get_or xs j d ≡ get_or xs j e
  any_default [] j d e l = absurd (omega arith)
  any_default (x ∷ xs) zero d e l = refl
  any_default (x ∷ xs) (suc j) d e l = any_default xs j d e (omega arith)

  some_is : (a b : Option (ℕ × ℕ)) (r : Result (Option (ℕ × ℕ)) E) → r ≡ Ok a → r ≡ Ok b → a ≡ b
  some_is a b r e f = cc

  none_some : (a : ℕ × ℕ) (o : Option (ℕ × ℕ)) → o ≡ None → o ≡ Some a → ⊥
  none_some a o e f = cc

  same_some : (a b : ℕ × ℕ) (o : Option (ℕ × ℕ)) → o ≡ Some a → o ≡ Some b → a ≡ b
  same_some a b o e f = cc

  -- what one part found is the first of what it found
  own_first : (k : ℕ) (edge : Option (ℕ × ℕ)) (d : Result (Option (ℕ × ℕ)) E) → k < length parts → get_or parts k d ≡ Ok edge → IsFirstEdge (Holds k) edge
  own_first k edge d h l = grind (arith, none_some, some_is, any_default, same_some)

  pub so_far_more : (k : ℕ) (edge next result : Option (ℕ × ℕ)) (d : Result (Option (ℕ × ℕ)) E) → k < length parts → FirstSoFar k edge →
      get_or parts k d ≡ Ok next → IsFirstOf edge next result → FirstSoFar (k + 1) result
  so_far_more k edge next result d l h e is = record {
    sound = λ j f m n. elim (cases_eq j k) [
      | inl s ↦ ap (λ i. is_ok (get_or parts i f)) s ∙ ap is_ok (any_default parts k f d l ∙ e)
      | inr ne ↦ h.sound j f (omega arith) n
    ];
    first = first_joined (Below k) (Holds k) (Below (k + 1)) edge next result split (λ S x b. (b.0, omega arith, b.2))
        (λ S x b. (k, omega arith, b)) h.first (own_first k next d l e) is;
  }
    where
      split : (S x : ℕ) → Below (k + 1) S x → Below k S x ⊎ Holds k S x
      split S x (j, m, b) = elim (cases_eq j k) [
        | inl s ↦ inr (subst (λ i. Holds i S x) s b)
        | inr ne ↦ inl (j, omega arith, b)
      ]

  pub so_far_all : (k : ℕ) (edge : Option (ℕ × ℕ)) → length parts ≤ k → FirstSoFar k edge → IsFirstOfParts parts edge
  so_far_all k None le h = record {
    sound = λ j d l. h.sound j d (omega arith) l;
    first = λ S x f. h.first S x (f.0, omega arith, (f.1, f.2));
  }
  so_far_all k (Some a) le h = record {
    sound = λ j d l. h.sound j d (omega arith) l;
    first = (let g = h.first.0 in (g.0, g.2.0, g.2.1), λ S x f. h.first.1 S x (f.0, omega arith, (f.1, f.2)));
  }

  module _ (n : ℕ) (F : List Function) (values judged : List ℕ) (end : ℕ) (long : length parts ≡ 2 ^ end)
      (each : (k : ℕ) (d : Result (Option (ℕ × ℕ)) E) → k < length parts →
      IfOk (get_or parts k d) (IsFirstEdge (FailsWithin n F values judged (part_at end k * 2 ^ (n - end)) (n - end))))
      (few : end < 7) (le : end ≤ n) (all : length judged ≡ 2 ^ n) where
    found_fails : (sound : All (λ part. IsTrue (is_ok part)) parts) (S x : ℕ) → IsEdgeFound parts S x → EdgeFails n F values judged S x
    found_fails sound S x f =
        (subst (λ r. IfOk r (IsFirstEdge (FailsWithin n F values judged (part_at end f.0 * 2 ^ (n - end)) (n - end)))) f.2
        (each f.0 (Ok (Some (S, x))) f.1)).0.0

    -- an edge that fails is in some part, which found it or one before it
    part_of : (sound : All (λ part. IsTrue (is_ok part)) parts) (S x : ℕ) → EdgeFails n F values judged S x →
        (a : ℕ × ℕ) × IsEdgeFound parts a.0 a.1 × (IsEdgeBefore (S, x) a → ⊥)
    part_of sound S x f = by (get_or parts k (Ok None)) refl (sound k (Ok None) inside) (each k (Ok None) inside)
      where
        step : ℕ
        step = 2 ^ (n - end)

        q : ℕ
        q = (S + 2 ^ x) / step

        small : q < 2 ^ end
        small =
            let l = judged_within n F values judged all S x f in
            let w : 2 ^ n ≡ 2 ^ end * 2 ^ (n - end) = ap (λ k. 2 ^ k) (let s : n ≡ end + (n - end) = omega arith in s) ∙ pow-add 2 end (n - end) in
            (div-lt_iff_lt-mul (pow_pos (n - end))).1 (omega arith)

        k : ℕ
        k = part_at end q

        twice : part_at end k ≡ q
        twice = part_twice end q few small

        own : FailsWithin n F values judged (part_at end k * 2 ^ (n - end)) (n - end) S x
        own =
            let m = ap (λ z. z * 2 ^ (n - end)) twice in
            let d = div-add-mod' (S + 2 ^ x) (2 ^ (n - end)) in
            let r = mod-lt (S + 2 ^ x) (pow_pos (n - end)) in
            (f, omega arith, omega arith)

        inside : k < length parts
        inside = let m = part_within end q few small in let l = long in omega arith

        by : (r : Result (Option (ℕ × ℕ)) E) → get_or parts k (Ok None) ≡ r → IsTrue (is_ok r) →
            IfOk r (IsFirstEdge (FailsWithin n F values judged (part_at end k * 2 ^ (n - end)) (n - end))) →
            (a : ℕ × ℕ) × IsEdgeFound parts a.0 a.1 × (IsEdgeBefore (S, x) a → ⊥)
        by (Ok None) e o h = absurd (h S x own)
        by (Ok (Some a)) e o h = (a, (k, inside, any_default parts k (Ok (Some (a.0, a.1))) (Ok None) inside ∙ e), λ b. h.1 S x own b)
        by (Err v) e o h = absurd (let g : false ≡ true = o in cc)

    pub first_of_all : (edge : Option (ℕ × ℕ)) → IsFirstOfParts parts edge → IsFirstEdge (EdgeFails n F values judged) edge
    first_of_all None h = λ S x f. let p = part_of h.sound S x f in h.first p.0.0 p.0.1 p.1
    first_of_all (Some r) h = (
      found_fails h.sound r.0 r.1 h.first.0,
      λ S x f b. let p = part_of h.sound S x f in p.2 (before_later r p.0 (S, x) (h.first.1 p.0.0 p.0.1 p.1) b),
    )

zip_at : {A B : Type 0} (R : A → B → Type 0) (xs : List A) (ys : List B) (i : ℕ) (d : A) (e : B) → AllZip R xs ys → i < length xs →
    R (get_or xs i d) (get_or ys i e)
zip_at R [] ys i d e z l = absurd (omega arith)
zip_at R (x ∷ xs) [] i d e z l = absurd z
zip_at R (x ∷ xs) (y ∷ ys) zero d e z l = z.0
zip_at R (x ∷ xs) (y ∷ ys) (suc i) d e z l = zip_at R xs ys i d e z.1 (omega arith)

-- what a part found is the first of its edges
abbrev pub Part : {E : Type 0} → ℕ → List Function → List ℕ → List ℕ → ℕ → ℕ → Result (Option (ℕ × ℕ)) E → Type 0
Part n F values judged end k r = IfOk r (IsFirstEdge (FailsWithin n F values judged (part_at end k * 2 ^ (n - end)) (n - end)))

-- the parts of all numbers
pub parts_first : {E : Type 0} (n : ℕ) (F : List Function) (values judged : List ℕ) (end size : ℕ) (places : List ℕ)
    (parts : List (Result (Option (ℕ × ℕ)) E)) →
    places ≡ range_with_len 0 size → size ≡ 2 ^ end → end < 7 → end ≤ n → length judged ≡ 2 ^ n →
    AllZip (Part n F values judged end) places parts → (edge : Option (ℕ × ℕ)) → IsFirstOfParts parts edge → IsFirstEdge (EdgeFails n F values judged) edge
parts_first {E} n F values judged end size places parts p e few le all z = first_of_all parts n F values judged end long each few le all
  where
    long : length parts ≡ 2 ^ end
    long = sym (zip_length (Part n F values judged end) places parts z) ∙ ap length p ∙ length-range_with_len 0 size ∙ e

    each : (k : ℕ) (d : Result (Option (ℕ × ℕ)) E) → k < length parts →
        IfOk (get_or parts k d) (IsFirstEdge (FailsWithin n F values judged (part_at end k * 2 ^ (n - end)) (n - end)))
    each k d l =
        let w = long in
        let q = zip_length (Part n F values judged end) places parts z in
        subst (λ i. IfOk (get_or parts k d) (IsFirstEdge (FailsWithin n F values judged (part_at end i * 2 ^ (n - end)) (n - end))))
        (ap (λ xs. get_or xs k 0) p ∙ get_or-range_with_len 0 size k 0 (omega arith) ∙ zero-add k)
        (zip_at (Part n F values judged end) places parts k 0 d z (omega arith))
