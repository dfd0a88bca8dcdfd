use Rattle.std.proofs.Common.{◌≡◌, ℕ, ◌/◌, ◌%◌, ◌<◌, List, [], cond, eqb, length, get_or, slice_index, sym, ap, ◌∙◌, subst, arith}
use Rattle.std.specs.Int.{bit_at}
use Rattle.std.proofs.lemmas.List.{get_or_default}
use Rattle.compaction.specs.Requests.{asked}
use Rattle.compaction.specs.Rows.{HoldsRows, RowsOf}
use Rattle.compaction.proofs.BlockRows.{row_of_byte}
use Rattle.compaction.proofs.rows.walked_row.Goals as goal

pub returns : goal.returns
returns c =
    let p = c.args.problem.now in
    let set = c.args.set in
    let inside : RowsOf = record {
      inputs = c.byte.inside.request.inputs;
      low = c.byte.inside.request.low;
      needed = c.byte.inside.request.needed.items;
      rows = c.byte.inside.rows.items;
    } in
    let held = subst (HoldsRows p) (sym c.byte.view_is) c.in_ok-byte.ensures.rows in
    let needed = ap (λ (r : RowsOf). r.needed) c.byte.view_is ∙ c.in_ok-byte.ensures.needed in
    let low : c.args.set % 256 ≡ c.byte.inside.request.low =
    omega (arith, ap (λ (r : RowsOf). r.low) c.byte.view_is, c.in_ok-byte.ensures.low, c.add.ensures.low, c.in_ok-request.ensures.low) in
    let there : c.args.set / 256 < length c.byte.inside.request.needed.items =
    subst (λ (ms : List ℕ). c.args.set / 256 < length ms) (sym needed) (c.add.new.self.request.all c.args.set (grind arith) (grind arith)) in
    row_of_byte p inside.low inside.needed inside.rows set c.args.needed c.members_only.result held.rows low there
    (λ x e. subst (λ (ms : List ℕ). bit_at (asked ms c.args.set) x ≡ 1) (sym needed) (c.add.ensures.added x e))
    (λ x few. c.members_only.ensures x few
    ∙ ap (λ (r : List ℕ). cond (eqb (bit_at c.args.needed x) 1) (slice_index r x) 0)
    (c.index-row.ensures ∙ get_or_default c.byte.inside.rows.items c.from.result c.index-row.result.now []
    (let h = held.rows.each in let e = c.from.ensures in omega arith)
    ∙ ap (λ k. get_or c.byte.inside.rows.items k []) c.from.ensures))
