-- The kinds of steps.
use Rattle.std.proofs.Common.{◌≡◌, ◌≢◌, ℕ, ◌+◌, ◌<◌, Bool, if◌then◌else◌, List, [], ◌∷◌, set, get_or, length, sym, refl, ap, ◌∙◌, subst, arith, eqb, eq-eqb, ne_eqb, get_or-set_same}
use Rattle.std.proofs.lemmas.List.{set-get_or, take-set-le}
use lib.Seq.{drop-set-lt}
use mathlib.Core.Option.{Option}
use mathlib.Core.Logic.{dite}
use native.Mathlib.Decide.{ℕ_discrete}
use prog.Atomic.{either}
use Rattle.atomic_table.specs.Table.{carried_after, homes_after}
use Rattle.definitions.specs.Functions.{Function, SameFunction}
use Rattle.node_words.specs.Nodes.{Grows, AreNodeWords, IsNode, IsNextProbe, IsTaken, probe}
use Rattle.node_words.specs.Meaning.{Denotes}
use Rattle.node_words.specs.Entries.{IsEntry}
use Rattle.node_words.proofs.Functions.{denotes_grows, one_id}
use Rattle.unique_table.specs.declared.plan.Plan.{Plan}
use Rattle.unique_table.specs.declared.session.View.{View}
use Rattle.unique_table.specs.Plans.{order_of, levels_of, piece_function}
use Rattle.unique_table.specs.Invariant.{StoreState, IsKept, having, putting, nodes_of, pieces_of, spent}
use Rattle.unique_table.specs.Stakes.{IsWhole}
use Rattle.unique_table.specs.Views.{After}
use Rattle.unique_table.specs.Steps.{IsStoreSeat, Becomes, put_words}
use Rattle.unique_table.proofs.Rule.{M, pieces_grow, may_look, may_put, may_publish, may_collect, may_recall, may_remember}
use Rattle.unique_table.proofs.Steps.{after_goes, gains_after}
use Rattle.unique_table.proofs.Stakes.{no_other}

module _ (b : Plan) (s : StoreState) (id : ℕ) (v : View) (is : IsStoreSeat b s id v) where
  abbrev me : M
  me = (v, [])

  plan : v.plan ≡ b
  plan = (is.kept.seen id v is.seat is.live).plan

  good : AreNodeWords (levels_of b) v.seen
  good = (is.kept.seen id v is.seat is.live).nodes

  -- the rule after a step of the seat
  abbrev Keeps : List ℕ → List (Option (Unit {0})) → View → Type 0
  Keeps words homes v' = IsKept b record { words = words; homes = homes; views = set s.views id v' }

  -- it doesn't read the slots
  becomes : (words : List ℕ) (homes : List (Option (Unit {0}))) (m' : M) (made : List ℕ) (wrote : ℕ) → Keeps words homes m'.0 →
      After (having made v) m'.0 wrote → Becomes b s id v words m'.0
  becomes words homes m' made wrote k a = search (gains_after, good, plan)

  same_words : (p : ℕ) (homes : List (Option (Unit {0}))) (v' : View) → Keeps (set s.words p (get_or s.words p 0)) homes v' → Keeps s.words homes v'
  same_words p homes v' k = subst (λ (z : List ℕ). Keeps z homes v') (set-get_or s.words p 0) k

  pub kind_look : (p : ℕ) → p < b.places → (v' : View) × Becomes b s id v s.words v' × (get_or v'.seen p 0 ≡ get_or s.words p 0)
  kind_look p inside =
      let a = may_look b (length s.homes) id me is.live p s is.kept refl is.seat (is.fits p) in let g = a.4 in let m' : M = (a.0, carried_after [] a.1) in (
        a.0,
        becomes s.words (homes_after s.homes [] a.1) m' v.made 0 (same_words p (homes_after s.homes [] a.1) a.0 a.3)
            (after_goes me m' 0 g.0 g.1 g.2 g.3),
        ap (λ (m : M). get_or m.0.seen p 0) g.2
            ∙ g.4 (subst (λ (z : Plan). p < z.places) (sym plan) inside),
      )

  pub kind_collect : (q : ℕ) → (v' : View) × Becomes b s id v s.words v' × (get_or v'.pieces q 0 ≡ get_or s.words (b.places + b.entries + q) 0)
  kind_collect q =
      let p : ℕ = b.places + b.entries + q in
      let at : p ≡ v.plan.places + v.plan.entries + q = ap (λ (z : Plan). z.places + z.entries + q) (sym plan) in
      let a = may_collect b (length s.homes) id me is.live q p at s is.kept refl is.seat (is.fits p) in let g = a.4 in
      let m' : M = (a.0, carried_after [] a.1) in (
        a.0,
        becomes s.words (homes_after s.homes [] a.1) m' v.made 0 (same_words p (homes_after s.homes [] a.1) a.0 a.3) (after_goes me m' 0 g.0 g.1 g.2 g.3),
        ap (λ (m : M). get_or m.0.pieces q 0) g.2 ∙ (ap (λ (z : ℕ). get_or g.1 z 0) (sym (omega arith)) ∙ g.4),
      )

  pub kind_recall : (c : ℕ) → c < b.entries →
      (v' : View) × Becomes b s id v s.words v'
      × (get_or s.words (b.places + c) 0 ≢ 0 → IsEntry (order_of b) v'.seen (get_or s.words (b.places + c) 0))
  kind_recall c inside =
      let p : ℕ = b.places + c in let at : p ≡ v.plan.places + c = ap (λ (z : Plan). z.places + c) (sym plan) in
      let a = may_recall b (length s.homes) id me is.live c p at (subst (λ (z : Plan). c < z.entries) (sym plan) inside) s is.kept refl
      is.seat (is.fits p) in
      let g = a.4 in let m' : M = (a.0, carried_after [] a.1) in (
        a.0,
        becomes s.words (homes_after s.homes [] a.1) m' v.made 0 (same_words p (homes_after s.homes [] a.1) a.0 a.3) (after_goes me m' 0 g.0 g.1 g.2 g.3),
        (λ full. subst (λ (m : M). IsEntry (order_of b) m.0.seen (get_or s.words p 0)) (sym g.2)
            (subst (λ (z : Plan). IsEntry (order_of z) g.0 (get_or s.words p 0)) plan (g.4 full))),
      )

  pub kind_remember : (c w : ℕ) → c < b.entries → IsEntry (order_of b) v.seen w
      → (v' : View) × Becomes b s id v (set s.words (b.places + c) w) v' × (nodes_of b (set s.words (b.places + c) w) ≡ nodes_of b s.words)
      × (pieces_of b (set s.words (b.places + c) w) ≡ pieces_of b s.words)
  kind_remember c w inside entry =
      let p : ℕ = b.places + c in let at : p ≡ v.plan.places + c = ap (λ (z : Plan). z.places + c) (sym plan) in
      let a = may_remember b (length s.homes) id me is.live c p w at (subst (λ (z : Plan). c < z.entries) (sym plan) inside)
      (subst (λ (z : Plan). IsEntry (order_of z) v.seen w) (sym plan) entry) s is.kept refl is.seat (is.fits p) in
      let g = a.4 in let m' : M = (a.0, carried_after [] a.1) in (
        a.0,
        becomes (set s.words p w) (homes_after s.homes [] a.1) m' v.made 1 a.3 (after_goes me m' 1 g.0 g.1 g.2 g.3),
        take-set-le b.places s.words p w (omega arith),
        drop-set-lt (b.places + b.entries) s.words p w (omega arith),
      )

  put_is : (p w : ℕ) → set s.words p (either (eqb (get_or s.words p 0) 0) w (get_or s.words p 0)) ≡ put_words s.words p w
  put_is p w = grind (arith, dite, set, either, eq-eqb, ne_eqb, set-get_or)

  pub kind_put : (p w : ℕ) → p < b.places → w ≢ 0 → IsNextProbe v.seen b.places w p → IsNode (levels_of b) v.seen w
      → (v' : View) × Becomes b s id v (put_words s.words p w) v' × (get_or v'.seen p 0 ≡ get_or (put_words s.words p w) p 0)
  kind_put p w inside full next node =
      let k = next in let here = k.here in let before = k.before in
      let a = may_put b (length s.homes) id me is.live p w k.passed (subst (λ (z : Plan). p < z.places) (sym plan) inside) full
      (subst (λ (z : Plan). p ≡ probe z.places w k.passed) (sym plan) here)
      (subst (λ (z : Plan). (j : ℕ) → j < k.passed → IsTaken v.seen w (probe z.places w j)) (sym plan) before)
      (subst (λ (z : Plan). IsNode (levels_of z) v.seen w) (sym plan) node) s is.kept refl is.seat (is.fits p) in
      let g = a.4 in let m' : M = (a.0, carried_after [] a.1) in let homes : List (Option (Unit {0})) = homes_after s.homes [] a.1 in
      let kept : Keeps (put_words s.words p w) homes a.0 = subst (λ (z : List ℕ). Keeps z homes a.0) (put_is p w) a.3 in
      dite (ℕ_discrete (get_or s.words p 0) 0)
      (λ empty. let h = g.0 empty in (
        a.0,
        becomes (put_words s.words p w) homes m' (w ∷ v.made) 1 kept (after_goes (putting w v, []) m' 1 h.0 h.1 h.2 h.3),
        ap (λ (m : M). get_or m.0.seen p 0) h.2 ∙ (h.4
            ∙ (sym (get_or-set_same s.words p w 0 (omega arith))
            ∙ ap (λ (t : Bool). get_or (if t then set s.words p w else s.words) p 0) (sym (eq-eqb (get_or s.words p 0) 0 empty)))),
      ))
      (λ taken. let h = g.1 taken in (
        a.0,
        becomes (put_words s.words p w) homes m' v.made 0 kept (after_goes me m' 0 h.0 h.1 h.2 h.3),
        ap (λ (m : M). get_or m.0.seen p 0) h.2 ∙ (h.4
            ∙ ap (λ (t : Bool). get_or (if t then set s.words p w else s.words) p 0) (sym (ne_eqb (get_or s.words p 0) 0 taken))),
      ))

  pub kind_publish : (q ref : ℕ) → q < b.pieces → Denotes (order_of b) v.seen ref (piece_function b q)
      → (v' : View) × Becomes b s id v (set s.words (b.places + b.entries + q) (ref + 1)) v' × (get_or v'.pieces q 0 ≡ ref + 1)
      × Grows (pieces_of b s.words) (pieces_of b (set s.words (b.places + b.entries + q) (ref + 1)))
  kind_publish q ref inside d =
      let p : ℕ = b.places + b.entries + q in let at : p ≡ v.plan.places + v.plan.entries + q = ap (λ (z : Plan). z.places + z.entries + q) (sym plan) in
      let a = may_publish b (length s.homes) id me is.live q ref p at (subst (λ (z : Plan). q < z.pieces) (sym plan) inside)
      (subst (λ (z : Plan). Denotes (order_of z) v.seen ref (piece_function z q)) (sym plan) d) s is.kept refl is.seat (is.fits p) in
      let g = a.4 in let m' : M = (a.0, carried_after [] a.1) in (
        a.0,
        becomes (set s.words p (ref + 1)) (homes_after s.homes [] a.1) m' v.made 1 a.3 (after_goes me m' 1 g.0 g.1 g.2 g.3),
        ap (λ (m : M). get_or m.0.pieces q 0) g.2 ∙ (ap (λ (z : ℕ). get_or g.1 z 0) (sym (omega arith)) ∙ g.4),
        pieces_grow b s is.kept q ref inside
            (denotes_grows (order_of b) v.seen good (nodes_of b s.words) (is.kept.seen id v is.seat is.live).grows ref
            (piece_function b q) d),
      )

module _ (b : Plan) (s : StoreState) (i j : ℕ) (v w : View) (a : IsStoreSeat b s i v) (d : IsStoreSeat b s j w) where
  in_words : (k : ℕ) (u : View) (at : IsStoreSeat b s k u) (x : ℕ) (f : Function) → Denotes (order_of b) u.seen x f →
      Denotes (order_of b) (nodes_of b s.words) x f
  in_words k u at x f m = let seen = at.kept.seen k u at.seat at.live in denotes_grows (order_of b) u.seen seen.nodes (nodes_of b s.words) seen.grows x f m

  pub same_function_ids : (x y : ℕ) (f : Function) → Denotes (order_of b) v.seen x f → Denotes (order_of b) w.seen y f → x ≡ y
  same_function_ids x y f dx dy =
      one_id (order_of b) (nodes_of b s.words) a.kept.stored.nodes a.kept.stored.unequal x y f a.kept.order (in_words i v a x f dx)
      (in_words j w d y f dy)

  pub same_id_functions : (x : ℕ) (f g : Function) → Denotes (order_of b) v.seen x f → Denotes (order_of b) w.seen x g → SameFunction (levels_of b) f g
  unfolding SameFunction
  same_id_functions x f g dx dy p l = sym ((in_words i v a x f dx).function p l) ∙ (in_words j w d x g dy).function p l

-- beside a seat with the whole there is no other
pub only_seat : (b : Plan) (s : StoreState) (i j : ℕ) (v w : View) → IsStoreSeat b s i v → IsStoreSeat b s j w → IsWhole v.stake → i ≡ j
only_seat b s i j v w a d all = dite (ℕ_discrete i j)
    (λ same. same)
    (λ ne. absurd (no_other s.views j w d.seat d.kept.stakes i v spent refl ne a.seat (d.kept.seen j w d.seat d.live).stake all))
