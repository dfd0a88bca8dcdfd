use Rattle.std.proofs.Common.{◌≡◌, ◌+◌, ◌/◌, ◌%◌, ◌^◌, ◌<◌, ℕ, List, [], cond, eqb, length, get_or, slice_index, sym, ap, ◌∙◌, subst, arith}
use Rattle.std.proofs.lemmas.Grind.{common_steps}
use Rattle.std.specs.Int.{bit_at}
use Rattle.std.proofs.lemmas.List.{get_or_default}
use Rattle.definitions.specs.Problems.{TruthTables}
use Rattle.subset_layers.specs.Layers.{BlockOf, block_masks}
use Rattle.compaction.specs.Requests.{Asks, asked}
use Rattle.compaction.specs.Rows.{HoldsRows, IsWidthRow, RowsOf}
use Rattle.compaction.proofs.BlockRows.{RowsTo, block_of_byte, row_of_byte, rows_pushed}
use Rattle.compaction.proofs.blocks.rows_of_block.Goals as goal

-- what the block's set at a place has among the rows of its byte
module _ (b : BlockOf) (inside now : RowsOf) (items : List ℕ) (i : ℕ) (view : inside ≡ now) (inputs : b.inputs ≡ now.inputs) (low : b.low ≡ now.low)
    (is : items ≡ block_masks b) (lt : i < length items)
    (all : (t : ℕ) → t < 2 ^ inside.inputs → t % 256 ≡ inside.low → t / 256 < length inside.needed) where
  in_block : (slice_index (block_masks b) i < 2 ^ b.inputs) × (slice_index (block_masks b) i % 256 ≡ b.low)
  in_block = block_of_byte b i (subst (λ (ms : List ℕ). i < length ms) is lt)

  of_byte : slice_index (block_masks b) i % 256 ≡ inside.low
  of_byte = in_block.1 ∙ low ∙ sym (ap (λ (r : RowsOf). r.low) view)

  there : slice_index (block_masks b) i / 256 < length inside.needed
  there =
      all (slice_index (block_masks b) i)
      (subst (λ n. slice_index (block_masks b) i < 2 ^ n) (inputs ∙ sym (ap (λ (r : RowsOf). r.inputs) view)) in_block.0) of_byte

  place : (j : ℕ) → j ≡ get_or items i 0 / 256 → j ≡ slice_index (block_masks b) i / 256
  place j e = e ∙ ap (λ (ms : List ℕ). get_or ms i 0 / 256) is

  row_here : (p : TruthTables) (needed : List ℕ) (j : ℕ) (row narrow : List ℕ) → HoldsRows p now → Asks now.needed (block_masks b) needed →
      j ≡ get_or items i 0 / 256 → row ≡ get_or inside.rows j row →
      ((x : ℕ) → x < 16 → slice_index narrow x ≡ cond (eqb (bit_at (slice_index needed i) x) 1) (slice_index row x) 0) →
      IsWidthRow p (slice_index (block_masks b) i) (slice_index needed i) narrow
  row_here p needed j row narrow holds asks e own each =
      let held = subst (HoldsRows p) (sym view) holds in
      let j_is = place j e in
      row_of_byte p inside.low inside.needed inside.rows (slice_index (block_masks b) i) (slice_index needed i) narrow held.rows of_byte there
      (λ x one. subst (λ (r : RowsOf). bit_at (asked r.needed (slice_index (block_masks b) i)) x ≡ 1) (sym view)
      (asks i (subst (λ (ms : List ℕ). i < length ms) is lt) x one))
      (λ x few. each x few ∙ ap (λ (r : List ℕ). cond (eqb (bit_at (slice_index needed i) x) 1) (slice_index r x) 0)
      (own ∙ get_or_default inside.rows j row [] (let a = there in let h = held.rows.each in omega arith) ∙ ap (λ k. get_or inside.rows k []) j_is))

pub index-row-requires : goal.index-row-requires
index-row-requires c =
    let now = c.args.byte.now in
    let inside : RowsOf = record {
      inputs = c.byte.inside.request.inputs;
      low = c.byte.inside.request.low;
      needed = c.byte.inside.request.needed.items;
      rows = c.byte.inside.rows.items;
    } in
    let a = there c.args.block.now inside now c.masks-mask-items.result.now c.loop-i.i c.byte.view_is c.requires.inputs c.requires.low
    c.masks-mask-items.ensures c.loop-i-test.true c.byte.invariant.all in
    let f = place c.args.block.now inside now c.masks-mask-items.result.now c.loop-i.i c.byte.view_is c.requires.inputs c.requires.low
    c.masks-mask-items.ensures c.loop-i-test.true c.byte.invariant.all c.from.result c.from.ensures in
    let r = subst (λ (b : RowsOf). length b.rows ≡ length b.needed) (sym c.byte.view_is) c.requires.each in
    let k = c.byte.inside.rows.ok in
    omega (arith, a, f, r, k)

pub loop-i-preserved : goal.loop-i-preserved
loop-i-preserved c p holds =
    let i = c.loop-i.i in
    let inside : RowsOf = record {
      inputs = c.byte.inside.request.inputs;
      low = c.byte.inside.request.low;
      needed = c.byte.inside.request.needed.items;
      rows = c.byte.inside.rows.items;
    } in
    let row : IsWidthRow p (slice_index (block_masks c.args.block.now) i) (slice_index c.args.needed.now i) c.members_only.result =
    row_here c.args.block.now inside c.args.byte.now c.masks-mask-items.result.now i c.byte.view_is c.requires.inputs c.requires.low
    c.masks-mask-items.ensures c.loop-i-test.true c.byte.invariant.all p c.args.needed.now c.from.result c.index-row.result.now
    c.members_only.result holds c.requires.asked c.from.ensures c.index-row.ensures c.members_only.ensures in
    subst (RowsTo p (block_masks c.args.block.now) c.args.needed.now (i + 1)) (sym c.in_ok-push.ensures.items)
    (rows_pushed p (block_masks c.args.block.now) c.args.needed.now i c.loop-i.rows.items c.members_only.result (c.loop-i.invariant p holds) row)

pub bounds-needed-i : goal.bounds-needed-i
bounds-needed-i c = grind (arith, common_steps)

pub returns : goal.returns
returns c p holds = let rows = c.loop-i.invariant p holds in grind arith
