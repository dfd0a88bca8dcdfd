-- Operations on ids, level by level.
use Rattle.std.proofs.Common.{◌≡◌, ℕ, ◌+◌, ◌<◌, ◌≤◌, ⊎_elim, Bool, true, false, cond, sym, refl, ap, ◌∙◌, subst, arith}
use Rattle.definitions.specs.Functions.{Point, Function, bit, SameFunction}
use Rattle.node_words.specs.declared.operation.Operation.{Operation}
use Rattle.node_words.specs.Entries.{combine, combine_values}
use Rattle.node_words.specs.Meaning.{branch}
use Rattle.unique_table.specs.Plans.{levels_of, variable_at}
use Rattle.unique_table.specs.Sessions.{StoreId, Knowledge, Follows, Knows, HasLevels, LiesNoHigher, IsKnownBelow, IsNodeOf, function_in, depth_in}
use Rattle.unique_table.proofs.SessionsGoOn.{follows_trans, known_below_follows}
use Rattle.dd_builder.specs.Operating.{IsFrom, Settles, IsCut, IsCombined, AreCombined}
use Rattle.dd_builder.proofs.SessionSteps.{means_same, function_zero, function_one, terminal_known, terminal_depth}

-- ---- operands that settle an operation

settled_known : (s : Knowledge) (operation : Operation) (a b id : ℕ) → Knows s a → Knows s b → Settles operation a b id → Knows s id
settled_known s operation a b id ka kb h = ⊎_elim (λ (small : id < 2). terminal_known s id small)
    (⊎_elim (λ (e : id ≡ a). subst (Knows s) (sym e) ka) (λ (e : id ≡ b). subst (Knows s) (sym e) kb)) h.origin

settled_level : (s : Knowledge) (from : ℕ) (operation : Operation) (a b id : ℕ) → IsFrom s from a → IsFrom s from b →
    from ≤ levels_of s.store.plan → Settles operation a b id → from ≤ depth_in s id
settled_level s from operation a b id fa fb most h = ⊎_elim (λ (small : id < 2). omega (arith, terminal_depth s id small))
    (⊎_elim (λ (e : id ≡ a). subst (λ k. from ≤ depth_in s k) (sym e) fa.level) (λ (e : id ≡ b). subst (λ k. from ≤ depth_in s k) (sym e) fb.level)) h.origin

pub settled_combined : (s : Knowledge) (from : ℕ) (operation : Operation) (a b id : ℕ) → IsFrom s from a → IsFrom s from b →
    from ≤ levels_of s.store.plan → Settles operation a b id → IsCombined s from operation a b id
unfolding SameFunction combine
settled_combined s from operation a b id fa fb most h = record {
  means = record {
    known = settled_known s operation a b id fa.known fb.known h;
    function = λ p l. h.value (λ k. function_in s k p) (function_zero s p) (function_one s p);
  };
  level = settled_level s from operation a b id fa fb most h;
}

-- ---- what stays as a session goes on

pub from_follows : (s s' : Knowledge) (from id : ℕ) → Follows s s' → IsFrom s from id → IsFrom s' from id
from_follows s s' from id f h = record { known = f.knows id h.known; level = omega arith }

pub branch_same : (x : ℕ) (f g f' g' : Function) (p : Point) → f p ≡ f' p → g p ≡ g' p → branch x f g p ≡ branch x f' g' p
unfolding branch
branch_same x f g f' g' p e e' = λ i. cond (bit p x) (e' i) (e i)

pub cut_follows : (s s' : Knowledge) (level id low high : ℕ) → Follows s s' → IsCut s level id low high → IsCut s' level id low high
cut_follows s s' level id low high f c = grind (arith, known_below_follows, branch_same)

combine_same : (operation : Operation) (f g f' g' : Function) (p : Point) → f p ≡ f' p → g p ≡ g' p → combine operation f g p ≡ combine operation f' g' p
unfolding combine
combine_same operation f g f' g' p e e' = λ i. combine_values operation (e i) (e' i)

pub combined_follows : (s s' : Knowledge) (from : ℕ) (operation : Operation) (a b id : ℕ) → Knows s a → Knows s b → Follows s s' →
    IsCombined s from operation a b id → IsCombined s' from operation a b id
combined_follows s s' from operation a b id ka kb f c = grind (arith, means_same, combine_same)

-- ---- an id as a node of a level

both_same : (x : ℕ) (f : Function) (p : Point) → f p ≡ branch x f f p
unfolding branch
both_same x f p = grind arith

pub same_cut : (s : Knowledge) (level id : ℕ) → Knows s id → level < depth_in s id → IsCut s level id id id
same_cut s level id known less = search both_same

-- ---- the node of an operation

spread : (operation : Operation) (b u v u' v' : Bool) →
    cond b (combine_values operation u' v') (combine_values operation u v) ≡ combine_values operation (cond b u' u) (cond b v' v)
spread operation true u v u' v' = refl
spread operation false u v u' v' = refl

branch_combine : (operation : Operation) (x : ℕ) (f g f' g' : Function) (p : Point) →
    branch x (combine operation f g) (combine operation f' g') p ≡ combine operation (branch x f f') (branch x g g') p
unfolding branch combine
branch_combine operation x f g f' g' p = spread operation (bit p x) (f p) (g p) (f' p) (g' p)

pub combined_cut : (s : Knowledge) (from level : ℕ) (operation : Operation) (a b al au bl bu low high id : ℕ) → IsCut s level a al au → IsCut s level b bl bu
    → IsCombined s (level + 1) operation al bl low → IsCombined s (level + 1) operation au bu high
    → IsNodeOf s level low high id → from ≤ level → IsCombined s from operation a b id
unfolding SameFunction
combined_cut s from level operation a b al au bl bu low high id ca cb cl cu made most = record {
  means = means_same s id (branch x (function_in s low) (function_in s high)) (combine operation (function_in s a) (function_in s b)) made.function
      (λ p l. branch_same x (function_in s low) (function_in s high) (combine operation (function_in s al) (function_in s bl))
      (combine operation (function_in s au) (function_in s bu)) p (cl.means.function p l) (cu.means.function p l)
      ∙ (branch_combine operation x (function_in s al) (function_in s bl) (function_in s au) (function_in s bu) p
      ∙ combine_same operation (branch x (function_in s al) (function_in s au)) (branch x (function_in s bl) (function_in s bu))
      (function_in s a) (function_in s b) p (sym (ca.function p)) (sym (cb.function p))));
  level = let deep = made.depth in omega (arith, deep, most);
}
  where
    x : ℕ
    x = variable_at s.store.plan level

-- ids below a level lie at the next one or below it
pub below_from : (s : Knowledge) (level id : ℕ) → IsKnownBelow s level id → IsFrom s (level + 1) id
below_from s level id h = record { known = h.0; level = omega arith }

pub combined_below : (s : Knowledge) (level : ℕ) (operation : Operation) (a b id : ℕ) → IsCombined s (level + 1) operation a b id → IsKnownBelow s level id
combined_below s level operation a b id h = (h.means.known, omega arith)

-- an operation on the children of two ids
module _ (store : StoreId) (s2 s3 : Knowledge) (level : ℕ) (operation : Operation) (a b al au bl bu : ℕ) (same : s2.store ≡ store)
    (inside : level < levels_of store.plan) (ca : IsCut s2 level a al au) (cb : IsCut s2 level b bl bu) where
  pub low_combined : (low : ℕ) → AreCombined s2 s3 operation al bl low → IsCombined s3 (level + 1) operation al bl low
  low_combined low all = let e = ap (λ (z : StoreId). levels_of z.plan) same in
      all (level + 1) (omega (arith, e, inside)) (below_from s2 level al ca.low_below) (below_from s2 level bl cb.low_below)

  pub high_combined : (s4 : Knowledge) (high : ℕ) → Follows s2 s3 → AreCombined s3 s4 operation au bu high → IsCombined s4 (level + 1) operation au bu high
  high_combined s4 high f all = let e = ap (λ (z : StoreId). levels_of z.plan) (f.store ∙ same) in
      all (level + 1) (omega (arith, e, inside)) (from_follows s2 s3 (level + 1) au f (below_from s2 level au ca.high_below))
      (from_follows s2 s3 (level + 1) bu f (below_from s2 level bu cb.high_below))

-- the result lies no higher than the higher operand
pub combined_no_higher : (s s' : Knowledge) (operation : Operation) (a b id : ℕ) → Knows s a → Knows s b → Follows s s' → HasLevels s' →
    AreCombined s s' operation a b id → LiesNoHigher s' a b id
combined_no_higher s s' operation a b id ka kb f levels all k x y = grind arith

-- the node made of an operation on both children
pub made_combined : (s2 s3 s4 s5 : Knowledge) (from level : ℕ) (operation : Operation) (a b al au bl bu low high id : ℕ) →
    IsCut s2 level a al au → IsCut s2 level b bl bu
    → Follows s2 s3 → IsCombined s3 (level + 1) operation al bl low → Follows s3 s4 → IsCombined s4 (level + 1) operation au bu high → Follows s4 s5
    → IsNodeOf s5 level low high id → from ≤ level → IsCombined s5 from operation a b id
made_combined s2 s3 s4 s5 from level operation a b al au bl bu low high id ca cb f23 cl f34 cu f45 made most =
    let f35 : Follows s3 s5 = follows_trans s3 s4 s5 f34 f45 in
    let f24 : Follows s2 s4 = follows_trans s2 s3 s4 f23 f34 in
    let f25 : Follows s2 s5 = follows_trans s2 s3 s5 f23 f35 in
    combined_cut s5 from level operation a b al au bl bu low high id (cut_follows s2 s5 level a al au f25 ca) (cut_follows s2 s5 level b bl bu f25 cb)
    (combined_follows s3 s5 (level + 1) operation al bl low (f23.knows al ca.low_below.0) (f23.knows bl cb.low_below.0) f35 cl)
    (combined_follows s4 s5 (level + 1) operation au bu high (f24.knows au ca.high_below.0) (f24.knows bu cb.high_below.0) f45 cu)
    made most
