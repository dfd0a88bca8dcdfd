-- Diagrams of many problems, one behind the other.
--     AreDrawnSoFar given i orders levels totals nodes roots      the answers of the first i problems, with diagrams
--     more_drawn      those of one problem more, put behind the others
--     all_drawn      those of all problems
--     same_drawn      the same by other names
--     none_drawn      those of none
--     drawn_shape      the call has its shape
use Rattle.std.proofs.Common.{◌≡◌, ℕ, ◌+◌, ◌*◌, ◌<◌, ◌≤◌, List, [], ◌∷◌, ◌++◌, length, take, drop, slice_index, sum, sym, ◌∙◌, ap, ap₂, subst, arith, below_more}
use Rattle.std.proofs.lemmas.List.{length-drop, length-append, drop-append-le, take-append-le, take_all, take_more, drop_at, get_or_append_left, get_or_at}
use Rattle.std.proofs.lemmas.List.Sums.{sum_by-append, sum_by-take-le}
use Rattle.std.proofs.lemmas.Nat.{row_fits}
use Rattle.definitions.specs.Functions.{Function}
use Rattle.definitions.specs.Problems.{functions, packed_tables, words_of, words_per_table}
use Rattle.definitions.proofs.Widths.SizeBounds.{order_length}
use Rattle.truth_table.specs.Reduced.{IsNumberedDiagram}
use Rattle.truth_table.specs.declared.levels.NumberedNode.{NumberedNode}
use Rattle.minorder_c.specs.declared.arguments.GivenTables.{GivenTables}
use Rattle.minorder_c.specs.Many.{AreDiagrams, AreDrawn, HasManyDiagramShape, HasManyShape, IsPutDrawn, nodes_at, tables_at}
use Rattle.minorder_c.proofs.Parts.{IsSoFar, kept_part, last_part, more_put, none_put}

pub record AreDrawnSoFar (given : GivenTables) (i : ℕ) (orders levels totals : List ℕ) (nodes : List NumberedNode) (roots : List ℕ) : Type 0 where
  pub answers : IsSoFar given i orders levels totals
  pub nodes_long : length nodes ≡ sum totals
  pub roots_long : length roots ≡ i * given.outputs
  pub diagrams : AreDiagrams given i orders totals nodes roots

-- the sum of some numbers, and of one more
sum_push : (xs : List ℕ) (x : ℕ) → sum (xs ++ x ∷ []) ≡ sum xs + x
sum_push xs x = omega (arith, sum_by-append (λ y. y) xs (x ∷ []))

-- a part of some nodes stays where more are put behind them
kept_nodes : (totals : List ℕ) (total : ℕ) (nodes own : List NumberedNode) (k : ℕ) → k < length totals → length nodes ≡ sum totals →
    nodes_at (totals ++ total ∷ []) (nodes ++ own) k ≡ nodes_at totals nodes k
kept_nodes totals total nodes own k low long =
    let size = get_or_append_left totals (total ∷ []) 0 k low in
    let before = ap sum (take-append-le k totals (total ∷ []) (omega arith)) in
    let here = ap sum (take_more totals k 0 low) ∙ sum_push (take k totals) (slice_index totals k) in
    let fits = sum_by-take-le (λ y. y) totals (k + 1) in
    ap₂ (λ (m : ℕ) (s : ℕ). take m (drop s (nodes ++ own))) size before
    ∙ ap (take (slice_index totals k)) (drop-append-le (sum (take k totals)) nodes own (omega arith))
    ∙ take-append-le (slice_index totals k) (drop (sum (take k totals)) nodes) own (omega (arith, length-drop (sum (take k totals)) nodes))

-- the part that is put behind them
last_nodes : (totals : List ℕ) (total : ℕ) (nodes own : List NumberedNode) (k : ℕ) → length totals ≡ k → length nodes ≡ sum totals → length own ≡ total →
    nodes_at (totals ++ total ∷ []) (nodes ++ own) k ≡ own
last_nodes totals total nodes own k many long size =
    let here = get_or_at totals total [] 0 k many in
    let before = ap sum (take-append-le k totals (total ∷ []) (omega arith) ∙ take_all k totals (omega arith)) in
    ap₂ (λ (m : ℕ) (s : ℕ). take m (drop s (nodes ++ own))) here before
    ∙ ap (take total) (drop_at nodes own (sum totals) long) ∙ take_all total own (omega arith)

-- a diagram by other names
same_diagram : (n : ℕ) (F : List Function) (order order' : List ℕ) (nodes nodes' : List NumberedNode) (roots roots' : List ℕ) → order' ≡ order →
    nodes' ≡ nodes → roots' ≡ roots → IsNumberedDiagram n F order nodes roots → IsNumberedDiagram n F order' nodes' roots'
same_diagram n F order order' nodes nodes' roots roots' p q r h =
    let h1 = subst (λ (x : List ℕ). IsNumberedDiagram n F order nodes x) (sym r) h in
    let h2 = subst (λ (x : List NumberedNode). IsNumberedDiagram n F order x roots') (sym q) h1 in
    subst (λ (x : List ℕ). IsNumberedDiagram n F x nodes' roots') (sym p) h2

one_more : (given : GivenTables) (i : ℕ) (orders levels totals : List ℕ) (nodes : List NumberedNode) (roots order : List ℕ) (total : ℕ)
    (own : List NumberedNode) (own_roots : List ℕ) → AreDrawnSoFar given i orders levels totals nodes roots → length order ≡ given.inputs →
    length own ≡ total → length own_roots ≡ given.outputs →
    IsNumberedDiagram given.inputs (functions (tables_at given i)) order own own_roots →
    AreDiagrams given (i + 1) (orders ++ order) (totals ++ total ∷ []) (nodes ++ own) (roots ++ own_roots)
one_more given i orders levels totals nodes roots order total own own_roots far long size count is =
    let n = given.inputs in
    let m = given.outputs in
    let F : ℕ → List Function = λ (k : ℕ). functions (tables_at given k) in
    let P : ℕ → Type 0 = λ (k : ℕ).
    IsNumberedDiagram n (F k) (words_of n (orders ++ order) k) (nodes_at (totals ++ total ∷ []) (nodes ++ own) k) (words_of m (roots ++ own_roots) k) in
    let kept : (k : ℕ) → k < i → P k = λ k low.
    let orders_fit : k * n + n ≤ i * n = row_fits k n i n low (omega arith) in
    let roots_fit : k * m + m ≤ i * m = row_fits k m i m low (omega arith) in
    same_diagram n (F k) (words_of n orders k) (words_of n (orders ++ order) k) (nodes_at totals nodes k)
    (nodes_at (totals ++ total ∷ []) (nodes ++ own) k) (words_of m roots k) (words_of m (roots ++ own_roots) k)
    (kept_part n orders order k (omega (arith, far.answers.orders_long)))
    (kept_nodes totals total nodes own k (omega (arith, far.answers.totals_long)) far.nodes_long)
    (kept_part m roots own_roots k (omega (arith, far.roots_long))) (far.diagrams k low) in
    let last : P i =
    same_diagram n (F i) order (words_of n (orders ++ order) i) own (nodes_at (totals ++ total ∷ []) (nodes ++ own) i) own_roots
    (words_of m (roots ++ own_roots) i) (last_part n orders order i far.answers.orders_long long)
    (last_nodes totals total nodes own i far.answers.totals_long far.nodes_long size) (last_part m roots own_roots i far.roots_long count) is in
    below_more P i kept last

pub more_drawn : (given : GivenTables) (i : ℕ) (part : GivenTables) (orders orders' levels levels' totals totals' : List ℕ) (nodes nodes' : List NumberedNode)
    (roots roots' : List ℕ) → AreDrawnSoFar given i orders levels totals nodes roots →
    part.words.now ≡ words_of (given.outputs * words_per_table given.inputs) given.words.now i → part.inputs ≡ given.inputs →
    part.outputs ≡ given.outputs → IsPutDrawn part orders orders' levels levels' totals totals' nodes nodes' roots roots' →
    AreDrawnSoFar given (i + 1) orders' levels' totals' nodes' roots'
more_drawn given i part orders orders' levels levels' totals totals' nodes nodes' roots roots' far words inputs outputs is =
    let put = is.put in
    let drawn = is.drawn in
    let own : IsNumberedDiagram given.inputs (functions (tables_at given i)) put.order drawn.own drawn.own_roots =
    subst (λ (ws : List ℕ). IsNumberedDiagram given.inputs (functions (packed_tables given.inputs given.outputs ws)) put.order drawn.own drawn.own_roots) words
    (subst (λ (m : ℕ). IsNumberedDiagram given.inputs (functions (packed_tables given.inputs m part.words.now)) put.order drawn.own drawn.own_roots) outputs
    (subst (λ (n : ℕ). IsNumberedDiagram n (functions (packed_tables n part.outputs part.words.now)) put.order drawn.own drawn.own_roots) inputs
    drawn.is.diagram)) in
    let long = order_length part.inputs put.order put.fewest.first.fewest.is_order ∙ inputs in
    let more = one_more given i orders levels totals nodes roots put.order put.total drawn.own drawn.own_roots far long drawn.is.size
    (drawn.is.long ∙ outputs) own in
    record {
      answers = more_put given i part orders orders' levels levels' totals totals' far.answers words inputs outputs put;
      nodes_long = ap length drawn.nodes_are ∙ length-append nodes drawn.own
          ∙ omega (arith, far.nodes_long, drawn.is.size, ap sum put.totals_are, sum_push totals put.total);
      roots_long = ap length drawn.roots_are ∙ length-append roots drawn.own_roots ∙ omega (arith, far.roots_long, drawn.is.long, outputs);
      diagrams = subst (λ (x : List ℕ). AreDiagrams given (i + 1) x totals' nodes' roots') (sym put.orders_are)
          (subst (λ (x : List ℕ). AreDiagrams given (i + 1) (orders ++ put.order) x nodes' roots') (sym put.totals_are)
          (subst (λ (x : List NumberedNode). AreDiagrams given (i + 1) (orders ++ put.order) (totals ++ put.total ∷ []) x roots') (sym drawn.nodes_are)
          (subst (λ (x : List ℕ). AreDiagrams given (i + 1) (orders ++ put.order) (totals ++ put.total ∷ []) (nodes ++ drawn.own) x) (sym drawn.roots_are)
          more)));
    }

pub all_drawn : (given : GivenTables) (i many : ℕ) (orders levels totals : List ℕ) (nodes : List NumberedNode) (roots : List ℕ) → i ≡ many →
    AreDrawnSoFar given i orders levels totals nodes roots → AreDrawn given many orders levels totals nodes roots
all_drawn given i many orders levels totals nodes roots e far =
    subst (λ (k : ℕ). AreDrawn given k orders levels totals nodes roots) e (record {
      optima = far.answers.answers;
      diagrams = far.diagrams;
      orders_long = far.answers.orders_long;
      levels_long = far.answers.levels_long;
      totals_long = far.answers.totals_long;
      nodes_long = far.nodes_long;
      roots_long = far.roots_long;
    })

-- the same answers by other names
pub same_drawn : (given given' : GivenTables) (many : ℕ) (orders orders' levels levels' totals totals' : List ℕ) (nodes nodes' : List NumberedNode)
    (roots roots' : List ℕ) → given ≡ given' → orders' ≡ orders → levels' ≡ levels → totals' ≡ totals → nodes' ≡ nodes → roots' ≡ roots →
    AreDrawn given many orders levels totals nodes roots → AreDrawn given' (length totals') orders' levels' totals' nodes' roots'
same_drawn given given' many orders orders' levels levels' totals totals' nodes nodes' roots roots' g o l t n r d =
    let m = ap length t ∙ d.totals_long in
    subst (λ z. z) (λ i. AreDrawn (g i) (sym m i) (sym o i) (sym l i) (sym t i) (sym n i) (sym r i)) d

pub drawn_shape : (given given' : GivenTables) (places counts roots many : ℕ) → given ≡ given' → HasManyShape given places counts many →
    roots ≡ many * given'.outputs → HasManyDiagramShape given' places counts roots many
drawn_shape given given' places counts roots many g shape long =
    record { call = subst (λ (x : GivenTables). HasManyShape x places counts many) g shape; roots_are = long }

pub none_drawn : (given : GivenTables) (orders levels totals : List ℕ) (nodes : List NumberedNode) (roots : List ℕ) → orders ≡ [] → levels ≡ [] →
    totals ≡ [] → nodes ≡ [] → roots ≡ [] → AreDrawnSoFar given 0 orders levels totals nodes roots
none_drawn given orders levels totals nodes roots o l t n r = record {
  answers = none_put given orders levels totals o l t;
  nodes_long = ap length n ∙ sym (ap sum t);
  roots_long = ap length r ∙ omega arith;
  diagrams = λ k low. absurd (omega arith);
}
