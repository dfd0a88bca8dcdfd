-- Sessions that make nodes of subfunctions alone.
use Rattle.std.proofs.Common.{◌≡◌, ℕ, ◌+◌, ◌^◌, ◌<◌, ◌⊎◌, inl, inr, List, [], ◌∷◌, ◌++◌, length, take, sym, refl, ap, ◌∙◌, subst, ⊎_elim, arith}
use Rattle.std.specs.List.{Contains}
use Rattle.definitions.specs.Functions.{Point, SameFunction}
use Rattle.definitions.specs.Orders.{IsOrder}
use Rattle.definitions.specs.Problems.{outputs_of}
use Rattle.node_words.specs.Nodes.{node_word}
use Rattle.node_words.specs.Meaning.{branch}
use Rattle.unique_table.specs.Plans.{order_of, levels_of, variable_at, output_at, fixed}
use Rattle.unique_table.specs.Sessions.{StoreId, Knowledge, Follows, Knows, Means, GainsOnly, function_in}
use Rattle.unique_table.proofs.Puts.{has_cases, has_more}
use Rattle.dd_builder.specs.declared.parts.Source.{Source}
use Rattle.dd_builder.specs.declared.parts.Source.TheVariants.{Tables, Terms}
use Rattle.dd_builder.specs.Parts.{KeepsFrom, Continues}
use Rattle.dd_builder.specs.Subfunctions.{IsSubfunction, IsOfSubfunction, MadeSubfunctions, KeepsSubfunctions}
use Rattle.unique_table.proofs.SessionsGoOn.{follows_trans}
use Rattle.dd_builder.proofs.LevelOperations.{branch_same}
use Rattle.dd_builder.proofs.RestrictedNodes.{restricted_same}

-- a node stays one of a subfunction
pub of_grown : (s s' : Knowledge) (w : ℕ) → s'.store ≡ s.store → ((id : ℕ) → Knows s id → Knows s' id) →
    ((id : ℕ) (p : Point) → Knows s id → function_in s' id p ≡ function_in s id p) → IsOfSubfunction s w → IsOfSubfunction s' w
unfolding SameFunction
of_grown s s' w same knows functions h = grind (arith, branch_same)

pub of_follows : (s s' : Knowledge) (w : ℕ) → Follows s s' → IsOfSubfunction s w → IsOfSubfunction s' w
of_follows s s' w f h = of_grown s s' w f.store f.knows f.functions h

-- a session that makes no node
pub keeps_step : (s s' : Knowledge) → Follows s s' → s'.made ≡ s.made → KeepsSubfunctions s s'
keeps_step s s' f same all w has = of_follows s s' w f (all w (subst (λ (z : List ℕ). Contains z w) same has))

-- a session that makes one node
pub keeps_made : (s s' : Knowledge) (w : ℕ) → Follows s s' → GainsOnly s.made s'.made w → IsOfSubfunction s' w → KeepsSubfunctions s s'
keeps_made s s' w f gains mine all x has = ⊎_elim
    (λ (is : x ≡ w). subst (IsOfSubfunction s') (sym is) mine)
    (λ (old : Contains s.made x). of_follows s s' x f (all x old))
    (gains x has)

-- the node above two functions in which one more variable is fixed
pub keeps_node : (store : StoreId) (s s1 s2 s3 : Knowledge) (level path low high output : ℕ) → KeepsSubfunctions s s1 → KeepsSubfunctions s1 s2
    → s1.store ≡ store → Follows s1 s2 → Follows s2 s3 → GainsOnly s2.made s3.made (node_word level low high)
    → IsOrder (levels_of store.plan) (order_of store.plan) → level < levels_of store.plan → path < 2 ^ level → output < outputs_of store.plan.problem.value
    → Means s1 low (fixed (take (level + 1) (order_of store.plan)) path (output_at store.plan.problem.value output))
    → Means s2 high (fixed (take (level + 1) (order_of store.plan)) (path + 2 ^ level) (output_at store.plan.problem.value output))
    → KeepsSubfunctions s s3
unfolding SameFunction
keeps_node store s s1 s2 s3 level path low high output first second same f12 f23 gains is inside small few ml mu all =
    let l3 = f23.means low _ (f12.means low _ ml) in
    let u3 = f23.means high _ mu in
    let here : s3.store ≡ store = f23.store ∙ (f12.store ∙ same) in
    let mine : IsOfSubfunction s3 (node_word level low high) = record {
      level = level;
      low = low;
      high = high;
      word = refl;
      inside = subst (λ (z : StoreId). level < levels_of z.plan) (sym here) inside;
      knows_low = l3.known;
      knows_high = u3.known;
      function = subst (λ (z : StoreId). IsSubfunction (order_of z.plan) z.plan.problem.value level
          (branch (variable_at z.plan level) (function_in s3 low) (function_in s3 high))) (sym here)
          record {
            output = output;
            path = path;
            is_output = few;
            is_path = small;
            same = λ p l. restricted_same store s3 level path low high (output_at store.plan.problem.value output) here is inside small l3 u3 p
                (l ∙ ap (λ (z : StoreId). levels_of z.plan) (sym here));
          };
    } in
    keeps_made s2 s3 (node_word level low high) f23 gains mine (second (first all))

has_either : (xs ys : List ℕ) (x : ℕ) → Contains (xs ++ ys) x → Contains xs x ⊎ Contains ys x
has_either [] ys x h = inr h
has_either (y ∷ xs) ys x h = ⊎_elim
    (λ (is : x ≡ y). inl (subst (λ (z : ℕ). Contains (y ∷ xs) z) (sym is) (0, first xs, refl)))
    (λ (t : Contains (xs ++ ys) x). ⊎_elim (λ (a : Contains xs x). inl (has_more xs y x a)) (λ (b : Contains ys x). inr b) (has_either xs ys x t))
    (has_cases (xs ++ ys) y x h)
  where
    first : (zs : List ℕ) → 0 < length (y ∷ zs)
    first zs = omega arith

-- two sessions that are joined
pub keeps_joined : (one two joint : Knowledge) → Follows one joint → Follows two joint → joint.made ≡ one.made ++ two.made →
    MadeSubfunctions one → MadeSubfunctions two → MadeSubfunctions joint
keeps_joined one two joint f g both a b w has = ⊎_elim
    (λ (first : Contains one.made w). of_follows one joint w f (a w first))
    (λ (second : Contains two.made w). of_follows two joint w g (b w second))
    (has_either one.made two.made w (subst (λ (z : List ℕ). Contains z w) both has))

-- ---- building from a source

pub kept_on : (source : Source) (s1 s2 s3 : Knowledge) → KeepsFrom source s1 s2 → KeepsFrom source s2 s3 → KeepsFrom source s1 s3
kept_on (Tables tables) s1 s2 s3 a b = λ h. b (a h)
kept_on (Terms terms) s1 s2 s3 a b = tt

pub kept_step : (source : Source) (s s' : Knowledge) → Follows s s' → s'.made ≡ s.made → KeepsFrom source s s'
kept_step (Tables tables) s s' f same = keeps_step s s' f same
kept_step (Terms terms) s s' f same = tt

pub continues_on : (source : Source) (s1 s2 s3 : Knowledge) → Continues source s1 s2 → Continues source s2 s3 → Continues source s1 s3
continues_on source s1 s2 s3 a b = record { follows = follows_trans s1 s2 s3 a.follows b.follows; kept = kept_on source s1 s2 s3 a.kept b.kept }
