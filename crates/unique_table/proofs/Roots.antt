-- The roots of a closed store.
use Rattle.std.proofs.Common.{◌≡◌, ◌≢◌, ℕ, zero, suc, ◌+◌, ◌-◌, ◌^◌, ◌<◌, ◌≤◌, ◌++◌, Bool, List, [], ◌∷◌, map, get_or, length, sym, refl, ap, ◌∙◌, subst, ⊎_elim, arith, nat_lt, le-ltb, zero-add, add-zero, Result, Ok, Err, IfErr}
use Rattle.std.specs.List.{range_with_len, AllZip, All}
use Rattle.std.proofs.lemmas.List.FromFn.{map-range_with_len_more, get_or-map-range_with_len, length-map-range_with_len}
use lib.Seq.{get_or-drop}
use Rattle.definitions.specs.Functions.{Function, SameFunction, from_table}
use Rattle.definitions.specs.Problems.{functions}
use Rattle.definitions.specs.Diagrams.{Graph, Represents, IsOf, value}
use Rattle.definitions.specs.declared.refs.Ref.{Ref}
use Rattle.node_words.specs.Nodes.{IsKnown}
use Rattle.node_words.specs.Meaning.{function_of, Denotes}
use Rattle.node_words.proofs.Functions.{known_small}
use Rattle.unique_table.specs.declared.close.CloseFault.TheVariants.{MissingRoot, OutOfMemory}
use Rattle.unique_table.specs.declared.plan.Plan.{Plan}
use Rattle.unique_table.specs.Plans.{order_of, levels_of, output_at, piece_function}
use Rattle.unique_table.specs.Invariant.{nodes_of, pieces_of}
use Rattle.unique_table.specs.Closing.{ClosedStoreOf, AreFinal, AreFilled, HasAllRoots, SessionsLackWhatIsEmpty, root_word, root_id, root_functions, roots_count}
use Rattle.std.proofs.lemmas.Bool.{cases_lt}

pub more_ids : (c : ClosedStoreOf) (ids ids' : List ℕ) (j x word : ℕ) → ids ≡ map (root_id c) (range_with_len 0 j) →
    word ≡ root_word c j → x ≡ word - 1 → ids' ≡ ids ++ x ∷ [] → ids' ≡ map (root_id c) (range_with_len 0 (j + 1))
more_ids c ids ids' j x word old word_is x_is new =
    new ∙ ((λ i. old i ++ (x_is ∙ ap (λ (z : ℕ). z - 1) word_is) i ∷ []) ∙ sym (map-range_with_len_more (root_id c) 0 j j (zero-add j)))

pub more_filled : (c : ClosedStoreOf) (j word : ℕ) → AreFilled c j → word ≡ root_word c j → word ≢ 0 → AreFilled c (j + 1)
more_filled c j word all is full i low = grind (arith, ⊎_elim, cases_lt)

pub root_function : (b : Plan) (j : ℕ) → piece_function b (b.roots + j) ≡ output_at b.problem.value j
unfolding piece_function
root_function b j = grind (arith, nat_lt, le-ltb)

-- ---- the roots

module _ (c : ClosedStoreOf) (f : AreFinal c) where
  root_piece : (j : ℕ) → root_word c j ≡ get_or (pieces_of c.plan c.words) (c.plan.roots + j) 0
  root_piece j = grind (arith, get_or-drop)

  -- a filled root word is 1 more than an id of the output
  pub root_denotes : (j : ℕ) → root_word c j ≢ 0 →
      Denotes (order_of c.plan) (nodes_of c.plan c.words) (root_id c j) (output_at c.plan.problem.value j)
  root_denotes j full = let e = root_piece j in
      let d = f.pieces (c.plan.roots + j) (λ none. full (e ∙ none)) in
      subst (λ (z : ℕ × Function). Denotes (order_of c.plan) (nodes_of c.plan c.words) z.0 z.1) (λ i. (sym e i - 1, root_function c.plan j i)) d

  pub root_small : (j : ℕ) → c.plan.places < 2 ^ 20 → root_word c j ≤ 2 ^ 32
  root_small j few = few_words (root_word c j) (c.plan.places + 2) (omega (arith, few))
      (λ full. known_small (nodes_of c.plan c.words) c.plan.places (root_id c j) (omega (arith, f.stored.size)) (root_denotes j full).known)
    where
      few_words : (n bound : ℕ) → bound ≤ 2 ^ 32 → (n ≢ 0 → n - 1 < bound) → n ≤ 2 ^ 32
      few_words zero bound few h = omega arith
      few_words (suc k) bound few h = let l = h (λ e. omega arith) in omega (arith, few, l)

-- a root that is missing isn't known to be published, and each one before it is known if no other session is left
pub lacking : SessionsLackWhatIsEmpty
lacking s c (MissingRoot j) l e = record {
  unknown = not_known (get_or s.pieces (s.store.plan.roots + j) 0)
      (λ full. full (sym (l.has (s.store.plan.roots + j) full) ∙ (sym (piece j) ∙ e.1)));
  least = λ alone i low none.
      let full : get_or (pieces_of c.plan c.words) (s.store.plan.roots + i) 0 ≢ 0 = (λ z. e.2 i low (piece i ∙ z)) in
      full (sym (l.all alone (s.store.plan.roots + i) full) ∙ none);
  last = c;
  is_last = l;
  empty = e;
}
  where
    piece : (j : ℕ) → root_word c j ≡ get_or (pieces_of c.plan c.words) (s.store.plan.roots + j) 0
    piece j = root_piece c l.final j ∙ ap (λ (z : Plan). get_or (pieces_of c.plan c.words) (z.roots + j) 0) l.plan

    not_known : (a : ℕ) → (a ≢ 0 → ⊥) → a ≡ 0
    not_known zero h = refl
    not_known (suc a) h = absurd (h (λ e. omega arith))
lacking s c OutOfMemory l e = tt

-- ---- the diagram

-- the functions that the root words denote are the problem's
zip_functions : (n : ℕ) (f : ℕ → Function) (k : ℕ) (tables : List (List Bool)) →
    ((j : ℕ) → j < length tables → SameFunction n (f (k + j)) (from_table (get_or tables j [])))
    → AllZip (SameFunction n) (map f (range_with_len k (length tables))) (map from_table tables)
zip_functions n f k [] each = tt
zip_functions n f k (t ∷ ts) each = (
  subst (λ (z : ℕ). SameFunction n (f z) (from_table t)) (add-zero k) (each 0 (omega arith)),
  zip_functions n f (k + 1) ts (λ j low. subst (λ (z : ℕ). SameFunction n (f z) (from_table (get_or ts j []))) (next k j) (each (suc j) (omega arith))),
)
  where
    next : (k j : ℕ) → k + suc j ≡ k + 1 + j
    next k j = omega arith

of_same : (n : ℕ) (d : Graph) (rs : List Ref) (F G : List Function) → AllZip (λ r f. SameFunction n (value d.nodes r) f) rs F →
    AllZip (SameFunction n) F G → AllZip (λ r f. SameFunction n (value d.nodes r) f) rs G
unfolding SameFunction
of_same n d [] [] [] a s = tt
of_same n d [] [] (g ∷ gs) a s = elim s [ ]
of_same n d [] (f ∷ fs) G a s = elim a [ ]
of_same n d (r ∷ rs) [] G a s = elim a [ ]
of_same n d (r ∷ rs) (f ∷ fs) [] a s = elim s [ ]
of_same n d (r ∷ rs) (f ∷ fs) (g ∷ gs) a s = ((λ p l. a.0 p l ∙ s.0 p l), of_same n d rs fs gs a.1 s.1)

pub represents_same : (n : ℕ) (F G : List Function) (order : List ℕ) (d : Graph) → AllZip (SameFunction n) F G → Represents n F order d → Represents n G order d
unfolding IsOf
represents_same n F G order d s r = record { diagram = r.diagram; ordered = r.ordered; functions = of_same n d d.roots F G r.functions s }

pub same_functions : (c : ClosedStoreOf) → AreFinal c → HasAllRoots c →
    AllZip (SameFunction (levels_of c.plan)) (root_functions c) (functions c.plan.problem.value)
unfolding output_at
same_functions c f full = grind (arith, zip_functions, zero-add, root_denotes)

-- ---- what the code finds

map_twice : (f : ℕ → Function) (g : ℕ → ℕ) (xs : List ℕ) → map f (map g xs) ≡ map (λ x. f (g x)) xs
map_twice f g [] = refl
map_twice f g (x ∷ xs) = λ i. f (g x) ∷ map_twice f g xs i

module _ (c : ClosedStoreOf) (f : AreFinal c) (full : HasAllRoots c) (ids : List ℕ) (is : ids ≡ map (root_id c) (range_with_len 0 (roots_count c.plan))) where
  pub ids_known : All (IsKnown (nodes_of c.plan c.words)) ids
  ids_known = grind (arith, length-map-range_with_len, get_or-map-range_with_len, zero-add, root_denotes)

  -- a diagram of the functions that the ids denote is one of the problem's
  pub ids_represent : (d : Graph) → Represents (levels_of c.plan) (map (function_of (order_of c.plan) (nodes_of c.plan c.words)) ids) (order_of c.plan) d
      → Represents (levels_of c.plan) (functions c.plan.problem.value) (order_of c.plan) d
  ids_represent d r =
      let found : map (function_of (order_of c.plan) (nodes_of c.plan c.words)) ids ≡ root_functions c =
      ap (map (function_of (order_of c.plan) (nodes_of c.plan c.words))) is
      ∙ map_twice (function_of (order_of c.plan) (nodes_of c.plan c.words)) (root_id c) (range_with_len 0 (roots_count c.plan)) in
      represents_same (levels_of c.plan) (root_functions c) (functions c.plan.problem.value) (order_of c.plan) d (same_functions c f full)
      (subst (λ (z : List Function). Represents (levels_of c.plan) z (order_of c.plan) d) found r)

pub err_from : {A E : Type 0} (P Q R : E → Type 0) (r : Result A E) → IfErr r P → IfErr r Q → ((e : E) → P e → Q e → R e) → IfErr r R
err_from P Q R (Ok x) p q f = tt
err_from P Q R (Err e) p q f = f e p q
