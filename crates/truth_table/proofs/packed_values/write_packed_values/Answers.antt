use Rattle.std.proofs.Common.{◌≡◌, ◌<◌, ◌≤◌, ◌++◌, ◌+◌, ◌-◌, ◌*◌, ◌/◌, ◌%◌, ◌^◌, ℕ, List, cond, drop, get_or, length, map, take, sym, ap, ap₂, ◌∙◌, subst, arith}
use Rattle.std.specs.List.{All}
use Rattle.definitions.specs.Problems.{packed_bit, packed_tables, table_at, table_in, words_of, words_per_table}
use Rattle.definitions.proofs.Bits.Problems.{block_inside, length-tables_of, point_inside, table_of}
use Rattle.truth_table.specs.Assignments.{assignments, value_number, values_at}
use Rattle.truth_table.proofs.LeafClasses.{assignments_below, order_small, values_packed, values_more}
use Rattle.truth_table.proofs.LevelDiagrams.{few_leaves}
use Rattle.std.proofs.lemmas.List.{length-append, length-drop, length-map, length-take-le, take_all, take_at}
use Rattle.std.proofs.lemmas.Nat.{shl_whole}
use Rattle.definitions.proofs.Widths.SizeBounds.{order_length}
use Rattle.truth_table.proofs.packed_values.write_packed_values.Goals as goal

whole : (a n : ℕ) → a ≤ 16 → n ≤ 16 → a * 2 ^ n % 2 ^ 64 ≡ a * 2 ^ n
whole a n h k = shl_whole a 5 n 64 (omega arith) (omega arith)

next : (j p : ℕ) → (j + 1) * p ≡ j * p + p
next j p = grind arith

last_block : (m p : ℕ) → 1 ≤ m → m * p ≡ (m - 1) * p + p
last_block m p h = let e : m ≡ m - 1 + 1 = omega arith in ap (λ k. k * p) e ∙ next (m - 1) p

-- the last block has an entry for each point
block_long : (m n back : ℕ) → 1 ≤ m → m ≤ 16 → n ≤ 16 → back + (m - 1) * 2 ^ n % 2 ^ 64 ≡ m * 2 ^ n % 2 ^ 64 → back ≡ 2 ^ n
block_long m n back some few small h =
    let all = whole m n few small in
    let less = whole (m - 1) n (omega arith) small in
    let split = last_block m (2 ^ n) some in
    omega arith

-- the front of a list in which a block is replaced
replaced : (front own rest : List ℕ) (s e : ℕ) → s ≤ length front → e ≡ s + length own → take e (take s front ++ own ++ rest) ≡ take s front ++ own
replaced front own rest s e h is =
    take_at (take s front ++ own) rest e (length-append (take s front) own ∙ omega (arith, length-take-le s front h))

-- the values of one table in a block
block_values : (n m j : ℕ) (words own points P : List ℕ) → j < m → own ≡ words_of (words_per_table n) words j → points ≡ P → All (λ k. k < 2 ^ n) P →
    map (λ k. cond (packed_bit own k) 1 0) points ≡ map (value_number (table_at (packed_tables n m words) j)) P
block_values n m j words own points P h o p below =
    ap (map (λ k. cond (packed_bit own k) 1 0)) p
    ∙ values_packed n own (table_at (packed_tables n m words) j) P (ap (table_in n) o ∙ sym (table_of n m words j h)) below

-- a block has the word of each point
points_within : (n m j size : ℕ) (words own points P : List ℕ) → j < m → size ≡ words_per_table n → length words ≡ m * words_per_table n →
    own ≡ words_of size words j → points ≡ P → All (λ k. k < 2 ^ n) P → All (λ k. k / 64 < length own) points
points_within n m j size words own points P h s long o p below k d l =
    let small : get_or points k d < 2 ^ n = subst (λ (ks : List ℕ). All (λ k. k < 2 ^ n) ks) (sym p) below k d l in
    let all : length words ≡ m * size = long ∙ ap (λ (z : ℕ). m * z) (sym s) in
    let inside = block_inside size m j h in
    let behind = length-drop (j * size) words in
    let wide = ap length o ∙ length-take-le size (drop (j * size) words) (omega arith) in
    omega (arith, point_inside n (get_or points k d) small, s, wide)

pub write_points-requires-clause-small : goal.write_points-requires-clause-small
write_points-requires-clause-small c = order_small c.args.n c.args.order.now c.requires.packed.few_inputs c.requires.order

pub write_points-requires-clause-few : goal.write_points-requires-clause-few
write_points-requires-clause-few c = let few = c.requires.packed.few_inputs in omega (arith, order_length c.args.n c.args.order.now c.requires.order)

pub write_points-requires-clause-long : goal.write_points-requires-clause-long
write_points-requires-clause-long c =
    let p = c.requires.packed in
    block_long c.args.m c.args.n (length c.split_at_mut-others.result.1.now) p.some_outputs p.few_outputs p.few_inputs
    (c.split_at_mut-others.ensures.back_len ∙ c.deref_mut.ensures.len ∙ c.in_ok-resize.ensures.len)
    ∙ sym (ap (λ (k : ℕ). 2 ^ k) (order_length c.args.n c.args.order.now c.requires.order))

pub loop-output-init : goal.loop-output-init
unfolding values_at
loop-output-init c =
    let p = c.requires.packed in
    let few = p.few_outputs in
    let none : 0 * 2 ^ c.args.n ≡ 0 = omega arith in
    record {
      long = c.split_at_mut-others.ensures.front_len ∙ whole (c.args.m - 1) c.args.n (omega arith) p.few_inputs;
      done = ap (λ (k : ℕ). take k c.split_at_mut-others.result.0.now) none;
    }

pub put_values-requires-clause-within : goal.put_values-requires-clause-within
put_values-requires-clause-within c =
    let p = c.requires.packed in
    points_within c.args.n c.args.m c.loop-output.output c.words_per_table-size.result c.args.words.now c.block-own.result.now c.write_points.new.points
    (assignments c.args.order.now) (let l = c.loop-output-test.true in omega arith) c.words_per_table-size.ensures.value p.long c.block-own.ensures
    c.write_points.ensures (assignments_below c.args.n c.args.order.now c.requires.order)

pub put_values-requires-clause-room : goal.put_values-requires-clause-room
put_values-requires-clause-room c =
    let n = c.args.n in
    let p = c.requires.packed in
    let few = p.few_outputs in
    let j = c.loop-output.output in
    let test = c.loop-output-test.true in
    let long = c.write_points.auto.points ∙ block_long c.args.m n (length c.split_at_mut-others.result.1.now) p.some_outputs few p.few_inputs
    (c.split_at_mut-others.ensures.back_len ∙ c.deref_mut.ensures.len ∙ c.in_ok-resize.ensures.len) in
    let w = whole j n (omega arith) p.few_inputs in
    let inside = block_inside (2 ^ n) (c.args.m - 1) j test in
    omega (arith, long, w, inside, c.loop-output.invariant.long)

pub loop-output-preserved : goal.loop-output-preserved
loop-output-preserved c =
    let n = c.args.n in
    let m = c.args.m in
    let j = c.loop-output.output in
    let p = c.requires.packed in
    let few = p.few_outputs in
    let test = c.loop-output-test.true in
    let inv = c.loop-output.invariant in
    let P : List ℕ = assignments c.args.order.now in
    let points = c.write_points.new.points in
    let value : ℕ → ℕ = λ k. cond (packed_bit c.block-own.result.now k) 1 0 in
    let own : List ℕ = map value points in
    let many = length-tables_of n m c.args.words.now in
    let w = whole j n (omega arith) p.few_inputs in
    let long = c.write_points.auto.points ∙ block_long m n (length c.split_at_mut-others.result.1.now) p.some_outputs few p.few_inputs
    (c.split_at_mut-others.ensures.back_len ∙ c.deref_mut.ensures.len ∙ c.in_ok-resize.ensures.len) in
    let wide : length own ≡ length points = length-map points value in
    let step = next j (2 ^ n) in
    let inside = block_inside (2 ^ n) (m - 1) j test in
    record {
      long = c.put_values.auto.values ∙ inv.long;
      done = ap (take ((j + 1) * 2 ^ n)) c.put_values.ensures
          ∙ replaced c.loop-output.others own _ (j * 2 ^ n % 2 ^ 64) ((j + 1) * 2 ^ n) (omega (arith, w, inside, inv.long)) (omega (arith, w, wide, long, step))
          ∙ ap₂ (λ us vs. us ++ vs) (ap (λ k. take k c.loop-output.others) w ∙ inv.done)
          (block_values n m j c.args.words.now c.block-own.result.now points P (omega arith)
          (c.block-own.ensures ∙ ap (λ (s : ℕ). words_of s c.args.words.now j) c.words_per_table-size.ensures.value) c.write_points.ensures
          (assignments_below n c.args.order.now c.requires.order))
          ∙ sym (values_more P (packed_tables n m c.args.words.now).tables j (omega arith));
    }

pub evaluate-requires : goal.evaluate-requires
evaluate-requires c =
    let p = c.requires.packed in
    points_within c.args.n c.args.m (c.args.m - 1) c.words_per_table-size.result c.args.words.now c.block.result.now c.write_points.new.points
    (assignments c.args.order.now) (let s = p.some_outputs in omega arith) c.words_per_table-size.ensures.value p.long c.block.ensures
    c.write_points.ensures (assignments_below c.args.n c.args.order.now c.requires.order)

pub returns-clause-values : goal.returns-clause-values
returns-clause-values c =
    let n = c.args.n in
    let m = c.args.m in
    let words = c.args.words.now in
    let j = c.loop-output.output in
    let p = c.requires.packed in
    let some = p.some_outputs in
    let few = p.few_outputs in
    let others = c.loop-output.others in
    let inv = c.loop-output.invariant in
    let past = c.loop-output-test.false in
    let within = c.loop-output.auto.output-end in
    let t = packed_tables n m words in
    let P : List ℕ = assignments c.args.order.now in
    let points = c.write_points.new.points in
    let many = length-tables_of n m words in
    let long = c.write_points.auto.points ∙ block_long m n (length c.split_at_mut-others.result.1.now) some few p.few_inputs
    (c.split_at_mut-others.ensures.back_len ∙ c.deref_mut.ensures.len ∙ c.in_ok-resize.ensures.len) in
    let w = whole m n few p.few_inputs in
    let split = last_block m (2 ^ n) some in
    let last : j ≡ m - 1 = omega arith in
    let front : others ≡ values_at P (take (m - 1) t.tables) =
    sym (take_all (j * 2 ^ n) others (omega (arith, inv.long, ap (λ (k : ℕ). k * 2 ^ n) last))) ∙ inv.done ∙ ap (λ k. values_at P (take k t.tables)) last in
    let own : c.evaluate.new.points ≡ map (value_number (table_at t (m - 1))) P = c.evaluate.ensures
    ∙ block_values n m (m - 1) words c.block.result.now points P (omega arith)
    (c.block.ensures ∙ ap (λ (s : ℕ). words_of s words (m - 1)) c.words_per_table-size.ensures.value) c.write_points.ensures
    (assignments_below n c.args.order.now c.requires.order) in
    let all : m - 1 + 1 ≡ m = omega arith in
    record {
      is_order = c.requires.order;
      values_are =
          take_at (others ++ c.evaluate.new.points) _ _
          (length-append others c.evaluate.new.points ∙ omega (arith, c.evaluate.auto.points, long, inv.long, split, w, c.in_ok-resize.ensures.len))
          ∙ ap₂ (λ us vs. us ++ vs) front own ∙ sym (values_more P t.tables (m - 1) (omega arith)) ∙ ap (λ k. values_at P (take k t.tables)) all
          ∙ ap (values_at P) (take_all m t.tables (omega arith));
    }

pub returns-clause-few : goal.returns-clause-few
returns-clause-few c =
    let t = packed_tables c.args.n c.args.m c.args.words.now in
    let many = length-tables_of c.args.n c.args.m c.args.words.now in
    let p = c.requires.packed in
    few_leaves c.args.n c.args.order.now t.tables _ c.requires.order (omega arith)
    (omega (arith, order_length c.args.n c.args.order.now c.requires.order)) (returns-clause-values c).values_are
