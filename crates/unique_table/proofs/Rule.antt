-- Each step keeps the rule of a store.
use Rattle.std.proofs.Common.{◌≡◌, ◌≢◌, ℕ, ◌+◌, ◌-◌, ◌<◌, Bool, true, false, ◌⊎◌, inl, inr, List, [], ◌∷◌, set, get_or, drop, length, length-set, length-drop, get_or-set_same, get_or-set_other, sym, refl, ap, ◌∙◌, subst, ⊎_elim, arith, eqb, eq-eqb, ne_eqb}
use Rattle.std.proofs.lemmas.List.{set-get_or, drop-set-add, take-set-le}
use lib.Seq.{take-set-lt, drop-set-lt, get_or-take, get_or-drop}
use Rattle.std.specs.List.{Contains}
use mathlib.Core.Option.{some, none}
use mathlib.Core.Logic.{dite}
use native.Mathlib.Decide.{ℕ_discrete}
use lib.ListN.{get_elem?}
use prog.Atomic.{either}
use Rattle.atomic_table.specs.Table.{Me, step, keeps, Allows, Splits, Joins}
use Rattle.atomic_table.proofs.Lists.{at_set, at_snoc, set_else}
use Rattle.node_words.specs.Nodes.{IsNode, AreNodeWords, AreStored, Grows, probe, IsTaken}
use Rattle.node_words.specs.Meaning.{Denotes}
use Rattle.node_words.specs.Entries.{IsEntry}
use Rattle.node_words.proofs.OneMoreNode.{grows_refl, grows_trans, node_grows, set_grows, stored_put}
use Rattle.node_words.proofs.Functions.{denotes_grows, one_id}
use Rattle.node_words.proofs.CacheWords.{entry_grows}
use Rattle.unique_table.specs.declared.plan.Plan.{Plan}
use Rattle.unique_table.specs.declared.session.View.{View}
use Rattle.unique_table.specs.Plans.{order_of, levels_of, piece_function}
use Rattle.unique_table.specs.Invariant.{StoreState, IsKept, IsSeen, IsPut, moved, Sees, AreEntries, ArePieces, having, putting, sees, nodes_of, entry_in, pieces_of, stepped, another, informed, spent, looks, puts, publishes, collects, recalls, remembers}
use Rattle.unique_table.proofs.Puts.{has_first, has_more, has_front, has_back, put_set, put_here, put_longer, put_joined, whole_put}
use Rattle.unique_table.proofs.Stakes.{joined_some, half_whole, within_same, within_split, within_join, no_other}

abbrev pub M : Type 0
M = Me (Unit {0}) View

each_set : {A : Type 0} (P : A → Type 0) (l : List A) (i : ℕ) (w : A) → ((j : ℕ) (u : A) → j ≢ i → get_elem? l j ≡ some u → P u) → P w →
    (j : ℕ) (u : A) → get_elem? (set l i w) j ≡ some u → P u
each_set {A} P l i w all it j u e =
    ⊎_elim (λ (t : (j ≡ i) × (w ≡ u)). subst (λ (z : A). P z) t.1 it) (λ (t : (j ≢ i) × (get_elem? l j ≡ some u)). all j u t.0 t.1)
    (at_set l i j w u e)

none_told : (xs : List ℕ) → Grows [] xs
none_told xs p full = absurd (full refl)

-- the seat that steps put each word that is new
abbrev NewArePut : Plan → StoreState → List ℕ → List ℕ → Type 0
NewArePut b s made ws = (p : ℕ) → get_or ws p 0 ≢ 0 → (get_or (nodes_of b s.words) p 0 ≡ get_or ws p 0) ⊎ Contains made (get_or ws p 0)

abbrev Keeps : List ℕ → List ℕ → Type 0
Keeps xs ys = (x : ℕ) → Contains xs x → Contains ys x

-- the seat that steps sees all words, and the others saw no more than they have
placed : (b : Plan) (s : StoreState) (k : IsKept b s) (words : List ℕ) → length words ≡ b.places + b.entries + b.pieces →
    Grows (nodes_of b s.words) (nodes_of b words) → Grows (pieces_of b s.words) (pieces_of b words)
    → AreStored (levels_of b) b.places (nodes_of b words) → AreEntries b (nodes_of b words) words → ArePieces b (nodes_of b words) (pieces_of b words)
    → (id : ℕ) (v : View) (made : List ℕ) (wrote : ℕ) → Keeps v.made made → NewArePut b s made (nodes_of b words)
    → get_elem? s.views id ≡ some v → v.live ≡ true
    → IsKept b (moved s words id (sees (having made v) (nodes_of b words) (pieces_of b words) wrote))
placed b s k words size g gp st ens pcs id v made wrote more new at live = let ws : List ℕ = nodes_of b words in let ps : List ℕ = pieces_of b words in record {
  order = k.order;
  size = size;
  stored = st;
  put = λ p full. ⊎_elim
      (λ (old : get_or (nodes_of b s.words) p 0 ≡ get_or ws p 0). put_set s.views id v (sees (having made v) ws ps wrote) (get_or ws p 0) at refl
      (more (get_or ws p 0)) (subst (IsPut s.views) old (k.put p (λ e. full (sym old ∙ e)))))
      (put_here s.views id v (sees (having made v) ws ps wrote) (get_or ws p 0) at refl)
      (new p full);
  entries = ens;
  pieces = pcs;
  seen = each_set (λ (u : View). u.live ≡ true → IsSeen b ws ps u) s.views id (sees (having made v) ws ps wrote)
      (λ j u ne e alive. let i = k.seen j u e alive in record {
        plan = i.plan;
        size = i.size;
        nodes = i.nodes;
        unequal = i.unequal;
        are_pieces = i.are_pieces;
        grows = grows_trans u.seen (nodes_of b s.words) ws i.grows g;
        received = grows_trans u.received (nodes_of b s.words) ws i.received g;
        pieces = grows_trans u.pieces (pieces_of b s.words) ps i.pieces gp;
        pieces_received = grows_trans u.pieces_received (pieces_of b s.words) ps i.pieces_received gp;
        stake = i.stake;
        all = λ _ w. absurd (no_other s.views id v at k.stakes j u spent refl ne e (k.seen id v at live).stake w);
      })
      (λ alive. record {
        plan = (k.seen id v at live).plan;
        size = omega arith;
        nodes = st.nodes;
        unequal = st.unequal;
        are_pieces = pcs;
        grows = grows_refl ws;
        received = none_told ws;
        pieces = grows_refl ps;
        pieces_received = none_told ps;
        stake = (k.seen id v at live).stake;
        all = λ _ _. grows_refl ps;
      });
  stakes = within_same s.views id v at k.stakes (sees (having made v) ws ps wrote) refl;
}

sees_all : (b : Plan) (s : StoreState) (k : IsKept b s) (ws ps : List ℕ) → Grows (nodes_of b s.words) ws → Grows (pieces_of b s.words) ps →
    AreStored (levels_of b) b.places ws → ArePieces b ws ps
    → (id : ℕ) (v : View) (made : List ℕ) → Keeps v.made made → NewArePut b s made ws → get_elem? s.views id ≡ some v → v.live ≡ true
    → Sees (having made v) ws ps
sees_all b s k ws ps g gp st pcs id v made more new at live = let i = k.seen id v at live in record {
  size = st.size ∙ ap (λ (z : Plan). z.places) (sym i.plan);
  nodes = subst (λ (z : Plan). AreNodeWords (levels_of z) ws) (sym i.plan) st.nodes;
  unequal = st.unequal;
  are_pieces = subst (λ (z : Plan). ArePieces z ws ps) (sym i.plan) pcs;
  grows = grows_trans v.seen (nodes_of b s.words) ws i.grows g;
  received = grows_trans v.received (nodes_of b s.words) ws i.received g;
  pieces_grow = grows_trans v.pieces (pieces_of b s.words) ps i.pieces gp;
  pieces_received = grows_trans v.pieces_received (pieces_of b s.words) ps i.pieces_received gp;
  made = λ all p full. ⊎_elim
      (λ (old : get_or (nodes_of b s.words) p 0 ≡ get_or ws p 0). more (get_or ws p 0)
      (subst (λ (z : ℕ). Contains v.made z) old (whole_put b s k id v at live all p (λ e. full (sym old ∙ e)))))
      (λ (has : Contains made (get_or ws p 0)). has)
      (new p full);
}

none_put : (b : Plan) (s : StoreState) (made ws : List ℕ) → ws ≡ nodes_of b s.words → NewArePut b s made ws
none_put b s made ws same p full = inl (ap (λ (z : List ℕ). get_or z p 0) (sym same))

-- a piece's word is the same where there was one, since ids that denote one function are one id
pieces_same : (b : Plan) (s : StoreState) (k : IsKept b s) (q ref : ℕ) → q < length (pieces_of b s.words) →
    Denotes (order_of b) (nodes_of b s.words) ref (piece_function b q) → Grows (pieces_of b s.words) (set (pieces_of b s.words) q (ref + 1))
pieces_same b s k q ref wide mine r full = grind (arith, set, get_or-set_same, dite, one_id, get_or-set_other)

pub pieces_grow : (b : Plan) (s : StoreState) (k : IsKept b s) (q ref : ℕ) → q < b.pieces →
    Denotes (order_of b) (nodes_of b s.words) ref (piece_function b q) →
    Grows (pieces_of b s.words) (pieces_of b (set s.words (b.places + b.entries + q) (ref + 1)))
pieces_grow b s k q ref inside mine =
    subst (Grows (pieces_of b s.words)) (sym (drop-set-add (b.places + b.entries) s.words q (ref + 1)))
    (pieces_same b s k q ref (omega (arith, length-drop (b.places + b.entries) s.words)) mine)

module _ (b : Plan) (slots id : ℕ) (me : M) (live : me.0.live ≡ true) where
  abbrev v : View
  v = me.0

  still : (s : StoreState) → IsKept b s → get_elem? s.views id ≡ some v → Sees v (nodes_of b s.words) (pieces_of b s.words)
  still s k at =
      sees_all b s k (nodes_of b s.words) (pieces_of b s.words) (grows_refl (nodes_of b s.words)) (grows_refl (pieces_of b s.words))
      k.stored k.pieces id v v.made (λ x h. h) (none_put b s v.made (nodes_of b s.words) refl) at live

  -- the words are set to what they are
  unmoved : (s : StoreState) → IsKept b s → get_elem? s.views id ≡ some v → (p : ℕ)
      → IsKept b (moved s (set s.words p (get_or s.words p 0)) id (sees v (nodes_of b s.words) (pieces_of b s.words) 0))
  unmoved s k at p = subst (λ (z : List ℕ). IsKept b (moved s z id (sees v (nodes_of b s.words) (pieces_of b s.words) 0))) (sym (set-get_or s.words p 0))
      (placed b s k s.words k.size (grows_refl (nodes_of b s.words)) (grows_refl (pieces_of b s.words)) k.stored k.entries k.pieces id v v.made 0
      (λ x h. h) (none_put b s v.made (nodes_of b s.words) refl) at live)

  -- a node's word, as it is found
  node_read : (s : StoreState) → IsKept b s → get_elem? s.views id ≡ some v → (p : ℕ) → p < v.plan.places → get_or (nodes_of b s.words) p 0 ≡ get_or s.words p 0
  node_read s k at p inside = get_or-take b.places s.words p 0 (subst (λ (z : Plan). p < z.places) (k.seen id v at live).plan inside)

  pub may_look : (p : ℕ) → Allows (IsKept b) slots id me p (λ n. n) (looks (step slots p 0 0 none) me)
  may_look p s k _ at _ = (
    sees v (nodes_of b s.words) (pieces_of b s.words) 0,
    keeps,
    tt,
    unmoved s k at p,
    (nodes_of b s.words, pieces_of b s.words, refl, still s k at, λ inside. node_read s k at p inside),
  )

  pub may_collect : (q p : ℕ) → p ≡ v.plan.places + v.plan.entries + q → Allows (IsKept b) slots id me p (λ n. n) (collects (step slots p 0 0 none) me)
  may_collect q p is s k _ at _ = let plan = (k.seen id v at live).plan in
      let back : p - (v.plan.places + v.plan.entries) ≡ q = omega arith in (
        sees v (nodes_of b s.words) (pieces_of b s.words) 0,
        keeps,
        tt,
        unmoved s k at p,
        (
          nodes_of b s.words,
          pieces_of b s.words,
          refl,
          still s k at,
          ap (λ (z : ℕ). get_or (pieces_of b s.words) z 0) back
              ∙ (get_or-drop (b.places + b.entries) s.words q 0
              ∙ ap (λ (z : ℕ). get_or s.words z 0) (ap (λ (z : Plan). z.places + z.entries + q) (sym plan) ∙ sym is)),
        ),
      )

  pub may_recall : (c p : ℕ) → p ≡ v.plan.places + c → c < v.plan.entries → Allows (IsKept b) slots id me p (λ n. n) (recalls (step slots p 0 0 none) me)
  may_recall c p is inside s k _ at _ = let plan = (k.seen id v at live).plan in
      let is' : p ≡ b.places + c = is ∙ ap (λ (z : Plan). z.places + c) plan in
      let inside' : c < b.entries = subst (λ (z : Plan). c < z.entries) plan inside in (
        sees v (nodes_of b s.words) (pieces_of b s.words) 0,
        keeps,
        tt,
        unmoved s k at p,
        (
          nodes_of b s.words,
          pieces_of b s.words,
          refl,
          still s k at,
          λ full. subst (λ (z : Plan). IsEntry (order_of z) (nodes_of b s.words) (get_or s.words p 0)) (sym plan)
              (subst (λ (z : ℕ). IsEntry (order_of b) (nodes_of b s.words) (get_or s.words z 0)) (sym is')
              (k.entries c inside' (subst (λ (z : ℕ). get_or s.words z 0 ≢ 0) is' full))),
        ),
      )

  pub may_remember : (c p w : ℕ) → p ≡ v.plan.places + c → c < v.plan.entries → IsEntry (order_of v.plan) v.seen w
      → Allows (IsKept b) slots id me p (λ _. w) (λ _. remembers (step slots p w 0 none) me w)
  may_remember c p w is inside entry s k _ at _ =
      let i = k.seen id v at live in let plan = i.plan in let nodes : List ℕ = nodes_of b s.words in
      let pieces : List ℕ = pieces_of b s.words in let words : List ℕ = set s.words p w in
      let is' : p ≡ b.places + c = is ∙ ap (λ (z : Plan). z.places + c) plan in
      let inside' : c < b.entries = subst (λ (z : Plan). c < z.entries) plan inside in
      let same_nodes : nodes_of b words ≡ nodes = take-set-le b.places s.words p w (omega arith) in
      let same_pieces : pieces_of b words ≡ pieces = drop-set-lt (b.places + b.entries) s.words p w (omega arith) in
      let mine : IsEntry (order_of b) nodes w =
      entry_grows (order_of b) v.seen nodes w i.nodes i.grows (subst (λ (z : Plan). IsEntry (order_of z) v.seen w) plan entry) in
      let ens' : AreEntries b nodes words = (λ d low full. dite (ℕ_discrete d c)
      (λ same. let there : get_or words (b.places + d) 0 ≡ w = ap (λ (z : ℕ). get_or words z 0) (omega arith)
      ∙ get_or-set_same s.words p w 0 (omega arith) in
      subst (IsEntry (order_of b) nodes) (sym there) mine)
      (λ ne. let other : get_or words (b.places + d) 0 ≡ get_or s.words (b.places + d) 0 =
      get_or-set_other s.words p (b.places + d) w 0 (λ e. ne (omega arith)) in
      subst (IsEntry (order_of b) nodes) (sym other) (k.entries d low (λ e. full (other ∙ e))))) in
      let g : Grows nodes (nodes_of b words) = subst (Grows nodes) (sym same_nodes) (grows_refl nodes) in
      let gp : Grows pieces (pieces_of b words) = subst (Grows pieces) (sym same_pieces) (grows_refl pieces) in
      let st : AreStored (levels_of b) b.places (nodes_of b words) = subst (AreStored (levels_of b) b.places) (sym same_nodes) k.stored in
      let ens : AreEntries b (nodes_of b words) words = subst (λ (z : List ℕ). AreEntries b z words) (sym same_nodes) ens' in
      let pcs : ArePieces b (nodes_of b words) (pieces_of b words) =
      subst (λ (z : List ℕ × List ℕ). ArePieces b z.0 z.1) (λ j. (sym same_nodes j, sym same_pieces j)) k.pieces in (
        sees v (nodes_of b words) (pieces_of b words) 1,
        keeps,
        tt,
        placed b s k words (length-set s.words p w ∙ k.size) g gp st ens pcs id v v.made 1 (λ x h. h)
            (none_put b s v.made (nodes_of b words) same_nodes) at live,
        (
          nodes_of b words,
          pieces_of b words,
          refl,
          sees_all b s k (nodes_of b words) (pieces_of b words) g gp st pcs id v v.made (λ x h. h)
              (none_put b s v.made (nodes_of b words) same_nodes) at live,
          tt,
        ),
      )

  pub may_put : (p w passed : ℕ) → p < v.plan.places → w ≢ 0 → p ≡ probe v.plan.places w passed
      → ((j : ℕ) → j < passed → IsTaken v.seen w (probe v.plan.places w j)) → IsNode (levels_of v.plan) v.seen w
      → Allows (IsKept b) slots id me p (λ n. either (eqb n 0) w n) (puts (step slots p 0 w none) me)
  may_put p w passed inside some_w here before node s k _ at _ =
      let n : ℕ = get_or s.words p 0 in let i = k.seen id v at live in let plan = i.plan in let nodes : List ℕ = nodes_of b s.words in
      let pieces : List ℕ = pieces_of b s.words in
      dite (ℕ_discrete n 0)
      (λ empty. let words : List ℕ = set s.words p w in let inside' : p < b.places = subst (λ (z : Plan). p < z.places) plan inside in
      let same_nodes : nodes_of b words ≡ set nodes p w = take-set-lt b.places s.words p w inside' in
      let same_pieces : pieces_of b words ≡ pieces = drop-set-lt (b.places + b.entries) s.words p w (omega arith) in
      let empty' : get_or nodes p 0 ≡ 0 = node_read s k at p inside ∙ empty in
      let st' : AreStored (levels_of b) b.places (set nodes p w) =
      stored_put (levels_of b) b.places nodes k.stored p w passed inside' empty' some_w
      (subst (λ (z : Plan). p ≡ probe z.places w passed) plan here)
      (subst (λ (z : Plan). (j : ℕ) → j < passed → IsTaken nodes w (probe z.places w j)) plan
      (λ j lt. let t = before j lt in let same = i.grows (probe v.plan.places w j) t.0 in ((λ e. t.0 (sym same ∙ e)), (λ e. t.1 (sym same ∙ e)))))
      (node_grows (levels_of b) v.seen nodes w i.grows (subst (λ (z : Plan). IsNode (levels_of z) v.seen w) plan node)) in
      let st : AreStored (levels_of b) b.places (nodes_of b words) = subst (AreStored (levels_of b) b.places) (sym same_nodes) st' in
      let g : Grows nodes (nodes_of b words) = subst (Grows nodes) (sym same_nodes) (set_grows nodes p w empty') in
      let gp : Grows pieces (pieces_of b words) = subst (Grows pieces) (sym same_pieces) (grows_refl pieces) in
      let ens : AreEntries b (nodes_of b words) words =
      (λ c low full. let other : get_or words (b.places + c) 0 ≡ get_or s.words (b.places + c) 0 =
      get_or-set_other s.words p (b.places + c) w 0 (λ e. omega arith) in
      subst (IsEntry (order_of b) (nodes_of b words)) (sym other)
      (entry_grows (order_of b) nodes (nodes_of b words) (entry_in b s.words c) k.stored.nodes g
      (k.entries c low (λ e. full (other ∙ e))))) in
      let pcs : ArePieces b (nodes_of b words) (pieces_of b words) = subst (λ (z : List ℕ). ArePieces b (nodes_of b words) z) (sym same_pieces)
      (λ q full. denotes_grows (order_of b) nodes k.stored.nodes (nodes_of b words) g (get_or pieces q 0 - 1) (piece_function b q) (k.pieces q full)) in
      let there : get_or (nodes_of b words) p 0 ≡ w = ap (λ (l : List ℕ). get_or l p 0) same_nodes
      ∙ get_or-set_same nodes p w 0 (omega arith) in
      let made : List ℕ = w ∷ v.made in
      let new : NewArePut b s made (nodes_of b words) = (λ q full. dite (ℕ_discrete q p)
      (λ same. inr (subst (λ (z : ℕ). Contains made z) (sym there ∙ ap (λ (z : ℕ). get_or (nodes_of b words) z 0) (sym same)) (has_first v.made w)))
      (λ ne. inl (sym (ap (λ (l : List ℕ). get_or l q 0) same_nodes ∙ get_or-set_other nodes p q w 0 ne)))) in (
        sees (putting w v) (nodes_of b words) (pieces_of b words) 1,
        keeps,
        tt,
        subst (λ (z : Bool). IsKept b (moved s (set s.words p (either z w n)) id (sees (putting w v) (nodes_of b words) (pieces_of b words) 1)))
            (sym (eq-eqb n 0 empty))
            (placed b s k words (length-set s.words p w ∙ k.size) g gp st ens pcs id v made 1 (has_more v.made w) new at live),
        (
          (λ _. (
            nodes_of b words,
            pieces_of b words,
            refl,
            sees_all b s k (nodes_of b words) (pieces_of b words) g gp st pcs id v made (has_more v.made w) new at live,
            there,
          )),
          (λ full. absurd (full empty)),
        ),
      ))
      (λ full. (
        sees v nodes pieces 0,
        keeps,
        tt,
        subst (λ (z : Bool). IsKept b (moved s (set s.words p (either z w n)) id (sees v nodes pieces 0))) (sym (ne_eqb n 0 full)) (unmoved s k at p),
        ((λ empty. absurd (full empty)), (λ _. (nodes, pieces, refl, still s k at, node_read s k at p inside))),
      ))

  -- publishing again stores the same word, since ids that denote one function are one id
  pub may_publish : (q ref p : ℕ) → p ≡ v.plan.places + v.plan.entries + q → q < v.plan.pieces → Denotes (order_of v.plan) v.seen ref (piece_function v.plan q)
      → Allows (IsKept b) slots id me p (λ _. ref + 1) (λ _. publishes (step slots p (ref + 1) 0 none) me (ref + 1))
  may_publish q ref p is inside of_piece s k _ at _ =
      let i = k.seen id v at live in let plan = i.plan in let nodes : List ℕ = nodes_of b s.words in
      let pieces : List ℕ = pieces_of b s.words in let words : List ℕ = set s.words p (ref + 1) in
      let is' : p ≡ b.places + b.entries + q = is ∙ ap (λ (z : Plan). z.places + z.entries + q) plan in
      let same_nodes : nodes_of b words ≡ nodes = take-set-le b.places s.words p (ref + 1) (omega arith) in
      let same_pieces : pieces_of b words ≡ set pieces q (ref + 1) =
      ap (λ (z : ℕ). drop (b.places + b.entries) (set s.words z (ref + 1))) is'
      ∙ drop-set-add (b.places + b.entries) s.words q (ref + 1) in
      let mine : Denotes (order_of b) nodes ref (piece_function b q) =
      denotes_grows (order_of b) v.seen i.nodes nodes i.grows ref (piece_function b q)
      (subst (λ (z : Plan). Denotes (order_of z) v.seen ref (piece_function z q)) plan of_piece) in
      let wide : q < length pieces =
      (let e = length-drop (b.places + b.entries) s.words in omega (arith, subst (λ (z : Plan). q < z.pieces) plan inside)) in
      let there : get_or (set pieces q (ref + 1)) q 0 ≡ ref + 1 = get_or-set_same pieces q (ref + 1) 0 wide in
      let gp' : Grows pieces (set pieces q (ref + 1)) = pieces_same b s k q ref wide mine in
      let pcs' : ArePieces b nodes (set pieces q (ref + 1)) = (λ r full. dite (ℕ_discrete r q)
      (λ same. subst (λ (z : ℕ). Denotes (order_of b) nodes (get_or (set pieces q (ref + 1)) z 0 - 1) (piece_function b z)) (sym same)
      (let back : get_or (set pieces q (ref + 1)) q 0 - 1 ≡ ref = ap (λ (z : ℕ). z - 1) there ∙ omega arith in
      subst (λ (z : ℕ). Denotes (order_of b) nodes z (piece_function b q)) (sym back) mine))
      (λ other. let e = get_or-set_other pieces q r (ref + 1) 0 other in
      subst (λ (z : ℕ). Denotes (order_of b) nodes (z - 1) (piece_function b r)) (sym e)
      (k.pieces r (λ none_there. full (e ∙ none_there))))) in
      let g : Grows nodes (nodes_of b words) = subst (Grows nodes) (sym same_nodes) (grows_refl nodes) in
      let gp : Grows pieces (pieces_of b words) = subst (Grows pieces) (sym same_pieces) gp' in
      let st : AreStored (levels_of b) b.places (nodes_of b words) = subst (AreStored (levels_of b) b.places) (sym same_nodes) k.stored in
      let ens : AreEntries b (nodes_of b words) words = subst (λ (z : List ℕ). AreEntries b z words) (sym same_nodes)
      (λ c low full. let other : get_or words (b.places + c) 0 ≡ get_or s.words (b.places + c) 0 =
      get_or-set_other s.words p (b.places + c) (ref + 1) 0 (λ e. omega arith) in
      subst (IsEntry (order_of b) nodes) (sym other) (k.entries c low (λ e. full (other ∙ e)))) in
      let pcs : ArePieces b (nodes_of b words) (pieces_of b words) =
      subst (λ (z : List ℕ × List ℕ). ArePieces b z.0 z.1) (λ j. (sym same_nodes j, sym same_pieces j)) pcs' in
      let place : p - (v.plan.places + v.plan.entries) ≡ q = omega arith in (
        sees v (nodes_of b words) (pieces_of b words) 1,
        keeps,
        tt,
        placed b s k words (length-set s.words p (ref + 1) ∙ k.size) g gp st ens pcs id v v.made 1 (λ x h. h)
            (none_put b s v.made (nodes_of b words) same_nodes) at live,
        (
          nodes_of b words,
          pieces_of b words,
          refl,
          sees_all b s k (nodes_of b words) (pieces_of b words) g gp st pcs id v v.made (λ x h. h)
              (none_put b s v.made (nodes_of b words) same_nodes) at live,
          (λ j. get_or (same_pieces j) (place j) 0)
              ∙ there,
        ),
      )

pub may_split : (b : Plan) (id : ℕ) (v : View) → v.live ≡ true → Splits {S = Unit {0}} (IsKept b) id v (stepped v) (another v)
may_split b id v live s k at = let i = k.seen id v at live in record {
  order = k.order;
  size = k.size;
  stored = k.stored;
  put = λ p full. put_longer (set s.views id (stepped v)) (another v ∷ []) (get_or (nodes_of b s.words) p 0)
      (put_set s.views id v (stepped v) (get_or (nodes_of b s.words) p 0) at live (λ h. h) (k.put p full));
  entries = k.entries;
  pieces = k.pieces;
  seen = λ j u e alive. ⊎_elim
      (λ (t : get_elem? (set s.views id (stepped v)) j ≡ some u). each_set
      (λ (z : View). z.live ≡ true → IsSeen b (nodes_of b s.words) (pieces_of b s.words) z) s.views id (stepped v) (λ z u _. k.seen z u)
      (λ l. record {
        plan = i.plan;
        size = i.size;
        nodes = i.nodes;
        unequal = i.unequal;
        are_pieces = i.are_pieces;
        grows = i.grows;
        received = i.received;
        pieces = i.pieces;
        pieces_received = i.pieces_received;
        stake = i.stake;
        all = λ c w. i.all c (half_whole v.stake w);
      })
      j u t alive)
      (λ (t : another v ≡ u). subst (IsSeen b (nodes_of b s.words) (pieces_of b s.words)) t
      record {
        plan =
            i.plan;
        size =
            i.size;
        nodes =
            i.nodes;
        unequal =
            i.unequal;
        are_pieces =
            i.are_pieces;
        grows =
            i.grows;
        received =
            none_told (nodes_of b s.words);
        pieces = i.pieces;
        pieces_received = none_told (pieces_of b s.words);
        stake = i.stake;
        all = λ c w. i.all c (half_whole v.stake w);
      })
      (at_snoc (set s.views id (stepped v)) (another v) u j e);
  stakes = within_split s.views id v at k.stakes (stepped v) (another v) refl refl;
}

pub may_join : (b : Plan) (id other : ℕ) (v w : View) → v.live ≡ true → w.live ≡ true → Joins {S = Unit {0}} (IsKept b) id v other w (informed v w) spent
may_join b id other v w live live' s k at ne at' =
    let at_old : get_elem? s.views other ≡ some w = sym (set_else s.views id other (informed v w) ne) ∙ at' in
    let i = k.seen id v at live in let j = k.seen other w at_old live' in
    let P : View → Type 0 = λ z. z.live ≡ true → IsSeen b (nodes_of b s.words) (pieces_of b s.words) z in record {
      order = k.order;
      size = k.size;
      stored = k.stored;
      put = λ p full. put_joined s.views id other v w (informed v w) spent (get_or (nodes_of b s.words) p 0) at at_old live ne
          (has_front v.made w.made (get_or (nodes_of b s.words) p 0)) (has_back v.made w.made (get_or (nodes_of b s.words) p 0)) (k.put p full);
      entries = k.entries;
      pieces = k.pieces;
      seen = each_set P (set s.views id (informed v w)) other spent
          (λ z u _. each_set P s.views id (informed v w) (λ y x _. k.seen y x)
          (λ l. record {
            plan = i.plan;
            size = i.size;
            nodes = i.nodes;
            unequal = i.unequal;
            are_pieces = i.are_pieces;
            grows = i.grows;
            received = j.grows;
            pieces = i.pieces;
            pieces_received = j.pieces;
            stake = joined_some v.stake w.stake i.stake;
            all = λ c _. absurd (no c);
          }) z u)
          (λ dead. absurd (no dead));
      stakes = within_join s.views id v at k.stakes other w (informed v w) spent ne at_old refl refl;
    }
  where
    no : false ≡ true → ⊥
    no e = cc
