-- What is said of functions is said of others that are the same, function by function.
--     first_same, sifted_same      the first order of the fewest nodes; the sifted order
use Rattle.std.proofs.Common.{◌≡◌, ℕ, List, [], ◌∷◌, ◌∙◌, length, nat_lt, cond, refl}
use Rattle.std.specs.List.{AllZip, filter, fold}
use Rattle.definitions.specs.declared.refs.Ref.{Ref}
use Rattle.definitions.specs.Functions.{Function, SameFunction}
use Rattle.definitions.specs.Orders.{variables, place_in}
use Rattle.definitions.specs.Pairs.{Pair, keeps}
use Rattle.definitions.specs.Diagrams.{Graph, IsOf, Represents, FewestKeeping, HasFewestKeeping, IsFirstKeeping, value}
use Rattle.definitions.specs.Sifting.{best, insert_by_count, placements, sifted, sifting_order, smallest_of, smallest_order}
use Rattle.definitions.proofs.Functions.Same.{AllSame, turned, level_count_same, size_same}

of_same : (n : ℕ) (d : Graph) (rs : List Ref) (F G : List Function) → AllSame n F G →
    AllZip (λ r f. SameFunction n (value d.nodes r) f) rs F → AllZip (λ r f. SameFunction n (value d.nodes r) f) rs G
unfolding SameFunction
of_same n d [] [] [] s a = tt
of_same n d [] [] (g ∷ gs) s a = absurd s
of_same n d [] (f ∷ fs) G s a = absurd a
of_same n d (r ∷ rs) [] G s a = absurd a
of_same n d (r ∷ rs) (f ∷ fs) [] s a = absurd s
of_same n d (r ∷ rs) (f ∷ fs) (g ∷ gs) s a = ((λ p l. a.0 p l ∙ s.0 p l), of_same n d rs fs gs s.1 a.1)

represents_same : (n : ℕ) (F G : List Function) (order : List ℕ) (d : Graph) → AllSame n F G → Represents n F order d → Represents n G order d
unfolding IsOf
represents_same n F G order d s r = record { diagram = r.diagram; ordered = r.ordered; functions = of_same n d d.roots F G s r.functions }

fewest_same : (n : ℕ) (F G : List Function) (P : List Pair) (size : ℕ) → AllSame n F G → FewestKeeping n F P size → FewestKeeping n G P size
fewest_same n F G P size s f = record {
  some = (f.some.0, f.some.1, f.some.2, f.some.3, represents_same n F G f.some.0 f.some.1 s f.some.4, f.some.5);
  no_fewer = λ order d is kept r. f.no_fewer order d is kept (represents_same n G F order d (turned n F G s) r);
}

has_fewest_same : (n : ℕ) (F G : List Function) (P : List Pair) (order : List ℕ) → AllSame n F G → HasFewestKeeping n F P order → HasFewestKeeping n G P order
has_fewest_same n F G P order s h = record {
  is_order = h.is_order;
  kept = h.kept;
  fewest = (h.fewest.0, represents_same n F G order h.fewest.0 s h.fewest.1, fewest_same n F G P (length h.fewest.0.nodes) s h.fewest.2);
}

pub first_same : (n : ℕ) (F G : List Function) (P : List Pair) (order : List ℕ) → AllSame n F G → IsFirstKeeping n F P order → IsFirstKeeping n G P order
first_same n F G P order s h = record {
  fewest = has_fewest_same n F G P order s h.fewest;
  first = λ other o. h.first other (has_fewest_same n G F P other (turned n F G s) o);
}

module _ (n : ℕ) (F G : List Function) (P : List Pair) (s : AllSame n F G) where
  smallest_same : (order : List ℕ) (orders : List (List ℕ)) → smallest_of n F order orders ≡ smallest_of n G order orders
  unfolding smallest_of smallest_order
  smallest_same order [] = refl
  smallest_same order (first ∷ others) = λ i. fold (λ a b. cond (nat_lt (size_same n F G s b i) (size_same n F G s a i)) b a) first others

  best_same : (order : List ℕ) (x : ℕ) → best n F P order x ≡ best n G P order x
  unfolding best
  best_same order x = smallest_same order (filter (keeps P) (placements order x))

  sifting_order_same : (order : List ℕ) → sifting_order n F order ≡ sifting_order n G order
  unfolding sifting_order
  sifting_order_same order = λ i. fold (λ ys x. insert_by_count (λ y. level_count_same n F G s order (place_in order y) i) x ys) [] (variables n)

  pub sifted_same : (order : List ℕ) → sifted n F P order ≡ sifted n G P order
  unfolding sifted
  sifted_same order = λ i. fold (λ o x. best_same o x i) order (sifting_order_same order i)
