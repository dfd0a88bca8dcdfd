-- A list of nodes, with one more.
use Rattle.std.proofs.Common.{◌≡◌, ◌≢◌, ℕ, ◌-◌, ◌<◌, List, set, get_or, length-set, get_or-set_same, get_or-set_other, sym, refl, ap, ◌∙◌, subst, ⊎_elim, arith}
use mathlib.Core.Logic.{dite}
use native.Mathlib.Decide.{ℕ_discrete}
use Rattle.std.proofs.lemmas.Bool.{cases_order}
use Rattle.node_words.specs.Nodes.{IsBelow, IsNode, IsReached, Grows, AreStored, level_of, low_of, high_of, probe}

pub grows_refl : (xs : List ℕ) → Grows xs xs
grows_refl xs p full = refl

pub grows_trans : (xs ys zs : List ℕ) → Grows xs ys → Grows ys zs → Grows xs zs
grows_trans xs ys zs g h p full = h p (λ e. full (sym (g p full) ∙ e)) ∙ g p full

-- what was filled is filled
pub grows_full : (xs ys : List ℕ) (p : ℕ) → Grows xs ys → get_or xs p 0 ≢ 0 → get_or ys p 0 ≢ 0
grows_full xs ys p g full e = full (sym (g p full) ∙ e)

below_grows : (xs ys : List ℕ) (level id : ℕ) → Grows xs ys → IsBelow xs level id → IsBelow ys level id
below_grows xs ys level id g b two = let t = b two in (grows_full xs ys (id - 2) g t.0, subst (λ (z : ℕ). level < level_of z) (sym (g (id - 2) t.0)) t.1)

pub node_grows : (levels : ℕ) (xs ys : List ℕ) (w : ℕ) → Grows xs ys → IsNode levels xs w → IsNode levels ys w
node_grows levels xs ys w g n =
    record {
      word =
          n.word;
      level =
          n.level;
      unequal =
          n.unequal;
      low =
          below_grows xs ys (level_of w) (low_of w) g n.low;
      high = below_grows xs ys (level_of w) (high_of w) g n.high;
    }

pub reached_grows : (places : ℕ) (xs ys : List ℕ) (w p : ℕ) → Grows xs ys → IsReached places xs w p → IsReached places ys w p
reached_grows places xs ys w p g r = record { passed = r.passed; here = r.here; before = λ j lt. grows_full xs ys (probe places w j) g (r.before j lt) }

pub set_grows : (xs : List ℕ) (p w : ℕ) → get_or xs p 0 ≡ 0 → Grows xs (set xs p w)
set_grows xs p w empty q full = get_or-set_other xs p q w 0 (λ same. full (ap (λ (z : ℕ). get_or xs z 0) same ∙ empty))

module _ (levels places : ℕ) (ws : List ℕ) (st : AreStored levels places ws) (p w passed : ℕ) (inside : p < places)
    (empty : get_or ws p 0 ≡ 0) (some_w : w ≢ 0) (here : p ≡ probe places w passed)
    (before : (j : ℕ) → j < passed → (get_or ws (probe places w j) 0 ≢ 0) × (get_or ws (probe places w j) 0 ≢ w)) (node : IsNode levels ws w) where
  -- the word stands nowhere yet: the places before are known to hold others, and if it stood further on, this place were filled
  absent : (q : ℕ) → get_or ws q 0 ≡ w → ⊥
  absent q is = let r : IsReached places ws w q = subst (λ (z : ℕ). IsReached places ws z q) is (st.reached q (λ e. some_w (sym is ∙ e))) in
      ⊎_elim (λ (same : r.passed ≡ passed). let at : q ≡ p = r.here ∙ (ap (λ (z : ℕ). probe places w z) same ∙ sym here) in
      some_w (sym is ∙ (ap (λ (z : ℕ). get_or ws z 0) at ∙ empty)))
      (⊎_elim
      (λ (less : r.passed < passed). (before r.passed less).1 (ap (λ (z : ℕ). get_or ws z 0) (sym r.here) ∙ is))
      (λ (past : passed < r.passed). r.before passed past (ap (λ (z : ℕ). get_or ws z 0) (sym here) ∙ empty)))
      (cases_order r.passed passed)

  there : get_or (set ws p w) p 0 ≡ w
  there = get_or-set_same ws p w 0 (let e = st.size in omega arith)

  grown : Grows ws (set ws p w)
  grown = set_grows ws p w empty

  other : (q : ℕ) → q ≢ p → get_or (set ws p w) q 0 ≡ get_or ws q 0
  other q ne = get_or-set_other ws p q w 0 ne

  pub stored_put : AreStored levels places (set ws p w)
  stored_put = record {
    size = length-set ws p w ∙ st.size;
    nodes = λ q full. dite (ℕ_discrete q p)
        (λ same. subst (λ (z : ℕ). IsNode levels (set ws p w) (get_or (set ws p w) z 0)) (sym same)
        (subst (λ (z : ℕ). IsNode levels (set ws p w) z) (sym there) (node_grows levels ws (set ws p w) w grown node)))
        (λ ne. subst (λ (z : ℕ). IsNode levels (set ws p w) z) (sym (other q ne))
        (node_grows levels ws (set ws p w) (get_or ws q 0) grown (st.nodes q (λ e. full (other q ne ∙ e)))));
    unequal = λ q r full same_word. dite (ℕ_discrete q p)
        (λ at. dite (ℕ_discrete r p) (λ at'. at ∙ sym at')
        (λ ne. absurd (absent r (sym (other r ne) ∙ (sym same_word ∙ (ap (λ (z : ℕ). get_or (set ws p w) z 0) at ∙ there))))))
        (λ ne. dite (ℕ_discrete r p)
        (λ at'. absurd (absent q (sym (other q ne) ∙ (same_word ∙ (ap (λ (z : ℕ). get_or (set ws p w) z 0) at' ∙ there)))))
        (λ ne'. st.unequal q r (λ e. full (other q ne ∙ e)) (sym (other q ne) ∙ (same_word ∙ other r ne'))));
    reached = λ q full. dite (ℕ_discrete q p)
        (λ same. subst (λ (z : ℕ). IsReached places (set ws p w) (get_or (set ws p w) z 0) z) (sym same)
        (subst (λ (z : ℕ). IsReached places (set ws p w) z p) (sym there)
        record { passed = passed; here = here; before = λ j lt. grows_full ws (set ws p w) (probe places w j) grown (before j lt).0 }))
        (λ ne. subst (λ (z : ℕ). IsReached places (set ws p w) z q) (sym (other q ne))
        (reached_grows places ws (set ws p w) (get_or ws q 0) q grown (st.reached q (λ e. full (other q ne ∙ e)))));
  }
