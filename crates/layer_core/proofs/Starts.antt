-- The opening is right, and one more worker keeps a state right.
use Rattle.std.proofs.Common.{◌≡◌, ◌≢◌, ℕ, zero, suc, ◌+◌, ◌≤◌, true, false, List, [], ◌∷◌, ◌++◌, replicate, get_or, length, None, sym, refl, ap, ◌∙◌, arith}
use Rattle.definitions.specs.Functions.{weight}
use Rattle.layer_core.specs.Machine.{Worker, Layout, blank, opening, claimed, knows}
use Rattle.layer_core.specs.Rights.{Right, IsLayout, total}
use Rattle.layer_core.proofs.Lists.{each_snoc, at_longer, length-same, all_same, found_same}
use Rattle.layer_core.proofs.Steps.{Cell}

pub total_snoc : {A : Type 0} (f : A → ℕ) (l : List A) (x : A) → total f (l ++ x ∷ []) ≡ total f l + f x
total_snoc f [] x = omega arith
total_snoc f (y ∷ ys) x = omega (arith, total_snoc f ys x)

total_same : {A : Type 0} (f : A → ℕ) (n : ℕ) (x : A) → f x ≡ 0 → total f (replicate n x) ≡ 0
total_same f zero x e = refl
total_same f (suc n) x e = omega (arith, total_same f n x e)

false_true : false ≡ true → ⊥
false_true h = cc

no_claim : (l : Layout) (b : ℕ) → claimed (blank l) b ≡ false
no_claim l b = all_same l.blocks b false

no_knowledge : (l : Layout) (p : ℕ) → knows (blank l) p ≡ false
no_knowledge l p = all_same (length l.masks) p false

module _ (C : ℕ → ℕ × ℕ → Type 0) where
  pub right_opening : (l : Layout) (workers : ℕ) → IsLayout l → Right C (opening l workers)
  right_opening l workers laid = grind (arith, all_same, found_same, total_same, length-same)

  pub right_joined : (l : Layout) (counter : ℕ) (cells : List Cell) (workers : List Worker) →
      Right C record { layout = l; counter = counter; cells = cells; workers = workers }
      → Right C record { layout = l; counter = counter; cells = cells; workers = workers ++ blank l ∷ [] }
  right_joined l counter cells workers r = record {
    laid = r.laid;
    size = r.size;
    true_cells = r.true_cells;
    marks = each_snoc (λ (u : Worker). (length u.claims ≡ l.blocks) × (length u.known ≡ length l.masks)) workers (blank l) r.marks
        (length-same l.blocks false, length-same (length l.masks) false);
    below = λ b inside low. let t = total_snoc (λ (u : Worker). weight (claimed u b)) workers (blank l) in
        let n : weight (claimed (blank l) b) ≡ 0 = ap weight (no_claim l b) in let was = r.below b inside low in omega arith;
    above = λ b inside high. let t = total_snoc (λ (u : Worker). weight (claimed u b)) workers (blank l) in
        let n : weight (claimed (blank l) b) ≡ 0 = ap weight (no_claim l b) in let was = r.above b inside high in omega arith;
    filled = λ p full. let z = r.filled p full in (z.0, z.1, at_longer workers (blank l ∷ []) z.0 z.1 z.2, z.3);
    known = each_snoc (λ (u : Worker). (p : ℕ) → knows u p ≡ true → get_or cells p None ≢ None) workers (blank l) r.known
        (λ p h. absurd (false_true (sym (no_knowledge l p) ∙ h)));
    counted = let t = total_snoc (λ (u : Worker). weight u.ended) workers (blank l) in omega arith;
    ended = each_snoc (λ (u : Worker). u.ended ≡ true → l.blocks ≤ counter) workers (blank l) r.ended (λ h. absurd (false_true h));
  }
