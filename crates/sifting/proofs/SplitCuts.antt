-- Cuts of a diagram, and how they are split by a variable.
--     ref_code      the ref of a ref's code
--     Stands order d i r      a ref that stands from level i on
--     split_value, split_stands, split_tells      the halves of a ref: its value, where they stand, and that they tell the ref
use Rattle.std.proofs.Common.{◌≡◌, ◌≢◌, ℕ, zero, suc, ◌+◌, ◌-◌, ◌<◌, ◌≤◌, take, Bool, true, false, cond, ◌⊎◌, inl, inr, List, [], ◌∷◌, ◌++◌, map, length, get_or, slice_get, Option, Some, None, refl, sym, ap, ◌∙◌, subst, arith, nat_eq, eq-eqb, ne_eqb}
use Rattle.std.proofs.lemmas.Bool.{cases_eq}
use Rattle.std.proofs.lemmas.List.{map-append, take_more}
use Rattle.std.proofs.lemmas.Option.{slice_get_cases, same_Some}
use Rattle.definitions.specs.declared.refs.Ref.{Ref}
use Rattle.definitions.specs.declared.refs.Ref.TheVariants.{Terminal, Place}
use Rattle.definitions.specs.declared.refs.Node.{Node}
use Rattle.definitions.specs.Functions.{Point, bit}
use Rattle.definitions.specs.Orders.{place_in}
use Rattle.definitions.specs.Diagrams.{Graph, AreNodes, IsDiagram, IsBefore, IsOrdered, IsReduced, value}
use Rattle.definitions.proofs.Nodes.Paths.{before_more, child_before, value_place, StandsFrom, stands_less, child_stands}
use Rattle.definitions.specs.RefNumbers.{ref_named}
use Rattle.sifting.specs.Cuts.{code_of, split_ref, split_node}

-- the half that a value takes
abbrev pub half : Bool → Ref × Ref → Ref
half b h = cond b h.1 h.0

pub ref_code : (r : Ref) → ref_named (code_of r) ≡ r
unfolding ref_named code_of
ref_code (Terminal false) = refl
ref_code (Terminal true) = refl
ref_code (Place k) = let e : k + 2 ≡ suc (suc k) = omega arith in ap ref_named e

pub code_ref : (c : ℕ) → code_of (ref_named c) ≡ c
unfolding ref_named code_of
code_ref zero = refl
code_ref (suc zero) = refl
code_ref (suc (suc k)) = omega arith

-- a ref that stands from level i on
abbrev pub Stands : List ℕ → Graph → ℕ → Ref → Type 0
Stands order d i r = IsBefore (length d.nodes) r × StandsFrom order d.nodes i r

module _ (n : ℕ) (order : List ℕ) (d : Graph) (ok : IsDiagram n d) (ordered : IsOrdered order d) where
  pub split_value : (x : ℕ) (p : Point) (r : Ref) → value d.nodes r p ≡ value d.nodes (half (bit p x) (split_ref d.nodes x r)) p
  unfolding split_ref
  split_value x p (Terminal b) = grind arith
  split_value x p (Place k) = by (slice_get d.nodes k) refl
    where
      same : (c : Bool) → value d.nodes (Place k) p ≡ value d.nodes (cond c (Place k) (Place k)) p
      same true = refl
      same false = refl

      by : (o : Option Node) → slice_get d.nodes k ≡ o → value d.nodes (Place k) p ≡ value d.nodes (half (bit p x) (split_node x (Place k) o)) p
      by None e = same (bit p x)
      by (Some node) e =
          elim (cases_eq node.variable x) [
            | inl s ↦
                value_place n d ok p k node e ∙ ap (λ v. value d.nodes (cond (bit p v) node.high node.low) p) s
                ∙ ap (λ c. value d.nodes (half (bit p x) (cond c (node.low, node.high) (Place k, Place k))) p) (sym (eq-eqb node.variable x s))
            | inr ne ↦ same (bit p x)
                ∙ ap (λ c. value d.nodes (half (bit p x) (cond c (node.low, node.high) (Place k, Place k))) p)
                (sym (ne_eqb node.variable x ne))
          ]

  -- both halves stand below the variable's level
  pub split_stands : (i x : ℕ) → ((y : ℕ) → place_in order y ≡ i → y ≡ x) → place_in order x ≡ i → (b : Bool) (r : Ref) →
      Stands order d i r → Stands order d (suc i) (half b (split_ref d.nodes x r))
  unfolding split_ref StandsFrom
  split_stands i x only here b (Terminal t) s = grind (arith, Stands)
  split_stands i x only here b (Place k) s =
      elim (slice_get_cases d.nodes k).1 [
        | inl found ↦
            subst (λ o. Stands order d (suc i) (half b (split_node x (Place k) o))) (sym found.2)
            (elim (cases_eq found.0.variable x) [
              | inl e ↦ subst (λ c. Stands order d (suc i) (half b (cond c (found.0.low, found.0.high) (Place k, Place k))))
                  (sym (eq-eqb found.0.variable x e)) (child_half found.0 found.2 e b)
              | inr ne ↦ subst (λ c. Stands order d (suc i) (half b (cond c (found.0.low, found.0.high) (Place k, Place k))))
                  (sym (ne_eqb found.0.variable x ne)) (own found.0 found.2 ne b)
            ])
        | inr past ↦ absurd (omega (arith, past.0, s.0))
      ]
    where
      level : Node → ℕ
      level v = place_in order v.variable

      child_half : (node : Node) → slice_get d.nodes k ≡ Some node → node.variable ≡ x → (c : Bool) → Stands order d (suc i) (cond c node.high node.low)
      child_half node is e c =
          let t = ap (place_in order) e in (
            before_more k (length d.nodes) (cond c node.high node.low) (omega (arith, s.0)) (child_before n d ok k node c is),
            stands_less order d.nodes (suc i) (suc (place_in order node.variable)) (cond c node.high node.low) (omega arith)
                (child_stands n order d ok ordered k node c is),
          )

      stays : (node : Node) → slice_get d.nodes k ≡ Some node → (node.variable ≡ x → ⊥) → Stands order d (suc i) (Place k)
      stays node is ne = (
        s.0,
        λ other f.
            let t = s.1 node is in
            let g = ap level (same_Some other node (sym f ∙ is)) in
            elim (cases_eq (level node) i) [ inl e ↦ absurd (ne (only node.variable e)) | inr m ↦ omega arith ],
      )

      own : (node : Node) → slice_get d.nodes k ≡ Some node → (node.variable ≡ x → ⊥) → (c : Bool) → Stands order d (suc i) (cond c (Place k) (Place k))
      own node is ne true = stays node is ne
      own node is ne false = stays node is ne

  -- in a reduced diagram the halves tell the ref
  module _ (reduced : IsReduced d) (i x : ℕ) where
    -- the halves of a node of the variable, or the ref twice
    abbrev pub Halves : Ref → Type 0
    Halves r = ((k : ℕ) × (node : Node) × (r ≡ Place k) × (slice_get d.nodes k ≡ Some node) × (node.variable ≡ x)
        × (split_ref d.nodes x r ≡ (node.low, node.high)))
        ⊎ (split_ref d.nodes x r ≡ (r, r))

    halves_are : (r : Ref) → IsBefore (length d.nodes) r → Halves r
    unfolding split_ref
    halves_are (Terminal b) h = inr refl
    halves_are (Place k) h =
        elim (slice_get_cases d.nodes k).1 [
          | inl found ↦
              elim (cases_eq found.0.variable x) [
                | inl e ↦ inl (
                  k,
                  found.0,
                  refl,
                  found.2,
                  e,
                  ap (split_node x (Place k)) found.2
                      ∙ ap (λ c. cond c (found.0.low, found.0.high) (Place k, Place k)) (eq-eqb found.0.variable x e),
                )
                | inr ne ↦ inr
                    (ap (split_node x (Place k)) found.2
                    ∙ ap (λ c. cond c (found.0.low, found.0.high) (Place k, Place k)) (ne_eqb found.0.variable x ne))
              ]
          | inr past ↦ absurd (omega (arith, past.0, h))
        ]

    low_of : Ref × Ref → Ref
    low_of h = h.0

    high_of : Ref × Ref → Ref
    high_of h = h.1

    pub split_tells : (r s : Ref) → IsBefore (length d.nodes) r → IsBefore (length d.nodes) s →
        (split_ref d.nodes x r).0 ≡ (split_ref d.nodes x s).0 → (split_ref d.nodes x r).1 ≡ (split_ref d.nodes x s).1 → r ≡ s
    unfolding low_of high_of
    split_tells r s a b e f =
        elim (halves_are r a) [
          | inl u ↦
              elim (halves_are s b) [
                | inl v ↦
                    let small : u.1.low ≡ v.1.low = sym (ap low_of u.5) ∙ e ∙ ap low_of v.5 in
                    let deep : u.1.high ≡ v.1.high = sym (ap high_of u.5) ∙ f ∙ ap high_of v.5 in
                    let same : u.1 ≡ v.1 = λ j. record { variable = (u.4 ∙ sym v.4) j; low = small j; high = deep j } in
                    u.2 ∙ ap Place (reduced.no_two_equal u.0 v.0 v.1 (u.3 ∙ ap Some same) v.3) ∙ sym v.2
                | inr v ↦ absurd (reduced.not_redundant u.0 u.1 u.3 (sym (ap low_of u.5) ∙ e ∙ ap low_of v ∙ sym (ap high_of v) ∙ sym f ∙ ap high_of u.5))
              ]
          | inr u ↦
              elim (halves_are s b) [
                | inl v ↦ absurd (reduced.not_redundant v.0 v.1 v.3 (sym (ap low_of v.5) ∙ sym e ∙ ap low_of u ∙ sym (ap high_of u) ∙ f ∙ ap high_of v.5))
                | inr v ↦ sym (ap low_of u) ∙ e ∙ ap low_of v
              ]
        ]

-- ---- what the code does

node_at : (nodes : List Node) (k : ℕ) (v : Node) → k < length nodes → slice_get nodes k ≡ Some (get_or nodes k v)
node_at [] k v h = absurd (omega arith)
node_at (w ∷ nodes) zero v h = refl
node_at (w ∷ nodes) (suc k) v h = node_at nodes k v (omega arith)

pub split_terminal : (nodes : List Node) (x : ℕ) (r : Ref) (b : Bool) → r ≡ Terminal b → (r, r) ≡ split_ref nodes x r
unfolding split_ref
split_terminal nodes x r b e = let P : Ref → Type 0 = λ s. (s, s) ≡ split_ref nodes x s in subst P (sym e) refl

place_inside : (nodes : List Node) (r : Ref) (k : ℕ) → r ≡ Place k → IsBefore (length nodes) r → k < length nodes
place_inside nodes r k e h = subst (IsBefore (length nodes)) e h

pub split_then : (nodes : List Node) (x : ℕ) (r : Ref) (k : ℕ) (v : Node) → r ≡ Place k → IsBefore (length nodes) r →
    (get_or nodes k v).variable ≡ x → ((get_or nodes k v).low, (get_or nodes k v).high) ≡ split_ref nodes x r
unfolding split_ref
split_then nodes x r k v e h s = grind (arith, node_at, place_inside, eq-eqb)

pub split_else : (nodes : List Node) (x : ℕ) (r : Ref) (k : ℕ) (v : Node) → r ≡ Place k → IsBefore (length nodes) r →
    (get_or nodes k v).variable ≢ x → (Place k, Place k) ≡ split_ref nodes x r
unfolding split_ref
split_else nodes x r k v e h ne = grind (arith, node_at, place_inside, ne_eqb)

pub ref_small : (c : ℕ) → c < 2 → Terminal (nat_eq c 1) ≡ ref_named c
unfolding ref_named
ref_small zero h = refl
ref_small (suc zero) h = refl
ref_small (suc (suc k)) h = absurd (omega arith)

pub ref_large : (c : ℕ) → 2 ≤ c → Place (c - 2) ≡ ref_named c
unfolding ref_named
ref_large zero h = absurd (omega arith)
ref_large (suc zero) h = absurd (omega arith)
ref_large (suc (suc k)) h = let e : suc (suc k) - 2 ≡ k = omega arith in ap Place e

-- both halves are terminals or nodes
pub split_before : (n : ℕ) (nodes : List Node) → AreNodes n nodes → (x : ℕ) (r : Ref) → IsBefore (length nodes) r → (b : Bool) →
    IsBefore (length nodes) (half b (split_ref nodes x r))
unfolding split_ref
split_before n nodes h x r k b = grind (arith, slice_get_cases, half, cases_eq, eq-eqb, ne_eqb, slice_get, before_more)

pub map_more : {X Y : Type 0} (f : X → Y) (xs : List X) (i : ℕ) (d : X) → i < length xs → map f (take i xs) ++ f (get_or xs i d) ∷ [] ≡ map f (take (i + 1) xs)
map_more f xs i d h = sym (map-append f (take i xs) (get_or xs i d ∷ [])) ∙ ap (map f) (sym (take_more xs i d h))

pub ref_default : (cut : List Ref) (k : ℕ) (d e : Ref) → k < length cut → get_or cut k d ≡ get_or cut k e
ref_default [] k d e h = absurd (omega arith)
ref_default (r ∷ cut) zero d e h = refl
ref_default (r ∷ cut) (suc k) d e h = ref_default cut k d e (omega arith)
