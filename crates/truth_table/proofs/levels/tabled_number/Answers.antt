use Rattle.std.proofs.Common.{◌≡◌, ◌≢◌, ℕ, ◌+◌, ◌*◌, ◌<◌, ◌≤◌, ◌⊎◌, inl, inr, List, [], ◌∷◌, ◌++◌, length, take, get_or, set, sym, ap, ◌∙◌, subst, arith, length-append}
use Rattle.std.proofs.lemmas.List.{take_all, take_at}
use Rattle.truth_table.specs.declared.levels.NumberedNode.{NumberedNode}
use Rattle.truth_table.specs.Levels.{IsTabled, SeeksAmong, children_from}
use Rattle.truth_table.proofs.NumberedNodes.{made}
use Rattle.truth_table.proofs.TabledNumbers.{known_number, new_number}
use Rattle.truth_table.proofs.levels.tabled_number.Goals as goal
use Rattle.truth_table.proofs.levels.tabled_number.Goals.{then-known, else-known}

-- the pair has a number, or gets that of the node behind the others
abbrev Which : List NumberedNode → List ℕ → ℕ × ℕ → ℕ → ℕ → Type 0
Which nodes table u c kept = ((get_or table (4 * u.0 + u.1) 0 ≡ 4294967295) × (c ≡ length nodes + 2) × (kept ≡ length nodes + 1))
    ⊎ ((get_or table (4 * u.0 + u.1) 0 ≢ 4294967295) × (c ≡ get_or table (4 * u.0 + u.1) 0) × (kept ≡ length nodes))

both : (base x : ℕ) (u : ℕ × ℕ) (nodes pushed : List NumberedNode) (table : List ℕ) (c kept : ℕ) → u.0 < 4 → u.1 < 4 → length table ≡ 16 →
    length nodes < 2147483648 → pushed ≡ nodes ++ made x u ∷ [] → Which nodes table u c kept → base ≤ length nodes →
    IsTabled base (children_from base nodes) table →
    SeeksAmong base x u nodes (take kept pushed) c × IsTabled base (children_from base (take kept pushed)) (set table (4 * u.0 + u.1) c)
both base x u nodes pushed table c kept low high long few push which h t = elim which [
  | inl a ↦
      let more = length-append nodes (made x u ∷ []) in
      let whole : take kept pushed ≡ nodes ++ made x u ∷ [] = take_all kept pushed (omega (arith, ap length push, more, a.2)) ∙ push in
      subst (λ (ns : List NumberedNode). SeeksAmong base x u nodes ns c × IsTabled base (children_from base ns) (set table (4 * u.0 + u.1) c)) (sym whole)
      (subst (λ (k : ℕ). SeeksAmong base x u nodes (nodes ++ made x u ∷ []) k
      × IsTabled base (children_from base (nodes ++ made x u ∷ [])) (set table (4 * u.0 + u.1) k)) (sym a.1)
      (new_number base x u nodes table low high long h few t a.0))
  | inr b ↦
      let same : take kept pushed ≡ nodes = ap (take kept) push ∙ take_at nodes (made x u ∷ []) kept (sym b.2) in
      subst (λ (ns : List NumberedNode). SeeksAmong base x u nodes ns c × IsTabled base (children_from base ns) (set table (4 * u.0 + u.1) c)) (sym same)
      (known_number base x u nodes table c low high long t b.1 (λ e. b.0 (sym b.1 ∙ e)))
]

pub returns-clause-number : goal.returns-clause-number
returns-clause-number c =
    let u = c.args.children in
    let nodes = c.args.nodes.now.items in
    let table = c.args.table.now in
    let which : Which nodes table u c.if-known.number.0 c.if-known.number.1 = elim c.if-known.branch [
      | then-known w ↦
          let e = w.number-is in
          inl (w.if-known.true, ap (λ (p : ℕ × ℕ). p.0) e ∙ omega arith, ap (λ (p : ℕ × ℕ). p.1) e ∙ omega arith)
      | else-known w ↦
          let e = w.number-is in
          inr (w.if-known.false, ap (λ (p : ℕ × ℕ). p.0) e, ap (λ (p : ℕ × ℕ). p.1) e ∙ omega arith)
    ] in
    λ base h t. subst (λ (ns : List NumberedNode). SeeksAmong base c.args.x u nodes ns c.if-known.number.0) (sym c.truncate.ensures.items)
    (both base c.args.x u nodes c.push.new.self.items table c.if-known.number.0 c.if-known.number.1 c.requires.low c.requires.high (omega arith)
    c.requires.few c.in_ok-push.ensures.items which h t).0

pub returns-clause-tabled : goal.returns-clause-tabled
returns-clause-tabled c =
    let u = c.args.children in
    let nodes = c.args.nodes.now.items in
    let table = c.args.table.now in
    let which : Which nodes table u c.if-known.number.0 c.if-known.number.1 = elim c.if-known.branch [
      | then-known w ↦
          let e = w.number-is in
          inl (w.if-known.true, ap (λ (p : ℕ × ℕ). p.0) e ∙ omega arith, ap (λ (p : ℕ × ℕ). p.1) e ∙ omega arith)
      | else-known w ↦
          let e = w.number-is in
          inr (w.if-known.false, ap (λ (p : ℕ × ℕ). p.0) e, ap (λ (p : ℕ × ℕ). p.1) e ∙ omega arith)
    ] in
    λ base h t. subst (λ (ns : List NumberedNode). IsTabled base (children_from base ns) (set table (4 * u.0 + u.1) c.if-known.number.0))
    (sym c.truncate.ensures.items)
    (both base c.args.x u nodes c.push.new.self.items table c.if-known.number.0 c.if-known.number.1 c.requires.low c.requires.high (omega arith)
    c.requires.few c.in_ok-push.ensures.items which h t).1
