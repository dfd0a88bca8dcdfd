use Rattle.std.proofs.Common.{◌+◌, ◌*◌, ◌%◌, ◌^◌, ◌≤◌, ◌<◌, get_or, length, take, refl, sym, ap, ap₂, ◌∙◌, subst, arith, bit_or}
use Rattle.definitions.specs.Orders.{IsOrder}
use Rattle.definitions.specs.Problems.{TruthTables, outputs_of}
use Rattle.unique_table.specs.Plans.{order_of, levels_of, output_at, fixed}
use Rattle.unique_table.specs.Sessions.{StoreId, Means}
use Rattle.unique_table.proofs.SessionsGoOn.{follows_trans, known_below_follows}
use Rattle.dd_builder.specs.Paths.{IsPointAbove}
use Rattle.dd_builder.proofs.Pathways.{point_whole, point_low, point_high}
use Rattle.dd_builder.proofs.SessionSteps.{stays, makes_node, makes_refused, ok_same}
use Rattle.dd_builder.proofs.SubfunctionNodes.{keeps_node}
use Rattle.dd_builder.proofs.RestrictedNodes.{output_leaf, restricted_node, path_up, path_small}
use Rattle.dd_builder.proofs.tables.+output_below.Goals as goal

pub returns-then-from-order-clause-made : goal.returns-then-from-order-clause-made
returns-then-from-order-clause-made t c =
    let order = c.order.ensures.value in let same = c.variables-order.ensures.value ∙ order in
    let is : IsOrder (length (order_of c.args.store.now.plan)) (order_of c.args.store.now.plan) =
    subst (λ xs. IsOrder (length xs) xs) order c.variables-order.ensures.order in
    let past : length (order_of c.args.store.now.plan) ≤ c.args.path.level = omega (arith, ap length same) in
    let at = point_whole (order_of c.args.store.now.plan) c.args.path.level c.args.path.bits c.args.path.point past c.requires.path.point in
    record {
      follows = stays c.args.session.now;
      full = tt;
      function = subst
          (λ (z : TruthTables). Means c.args.session.now c.from-then-from-order.result
          (fixed (take c.args.path.level (order_of c.args.store.now.plan)) c.args.path.bits (output_at z c.args.output)))
          c.requires.tables
          (output_leaf c.args.session.now (order_of c.args.store.now.plan) c.args.path.level c.args.path.bits c.args.path.point
          c.from-then-from-order.result c.args.output c.args.tables.now c.value.result
          (ap (λ (z : StoreId). order_of z.plan) c.requires.session) is past
          at c.value.ensures c.from-then-from-order.ensures);
    }

pub returns-clause-made : goal.returns-clause-made
returns-clause-made t c =
    let order = c.order.ensures.value in
    let is : IsOrder (levels_of c.args.store.now.plan) (order_of c.args.store.now.plan) =
    subst (λ xs. IsOrder (length xs) xs) order c.variables-order.ensures.order in
    let inside : c.args.path.level < levels_of c.args.store.now.plan = omega (arith, ap length (c.variables-order.ensures.value ∙ order)) in
    let on = follows_trans _ _ _ c.output_below.ensures.made.follows c.output_below-2.ensures.made.follows in
    makes_node _ _ _ c.args.store.now c.make.result _ _ _ _ _ on c.make.ensures.goes_on (on.store ∙ c.requires.session) c.make.ensures.node
    c.make.ensures.full (λ id m.
    restricted_node c.args.store.now c.output_below.new.session c.output_below-2.new.session c.make.new.session c.args.path.level c.args.path.bits
    c.in_ok-low.low c.in_ok-high.high id (output_at c.args.store.now.plan.problem.value c.args.output)
    (c.output_below.ensures.made.follows.store ∙ c.requires.session) c.output_below-2.ensures.made.follows c.make.ensures.goes_on.follows is inside
    c.requires.path.bits c.in_ok-low.ensures.made.function
    (subst (λ k. Means c.output_below-2.new.session c.in_ok-high.high
    (fixed (take (c.args.path.level + 1) (order_of c.args.store.now.plan)) k (output_at c.args.store.now.plan.problem.value c.args.output)))
    (path_up 32 c.args.path.level c.args.path.bits _ (omega arith) refl) c.in_ok-high.ensures.made.function) m)

pub returns-in_err-high-clause-made : goal.returns-in_err-high-clause-made
returns-in_err-high-clause-made t c =
    makes_refused _ _ _ _ _ _ _ c.output_below.ensures.made.follows c.in_err-high.ensures.made c.from_residual-in_err-high.ensures.0

pub returns-in_err-high-clause-kept : goal.returns-in_err-high-clause-kept
returns-in_err-high-clause-kept t c = λ made. c.output_below-2.ensures.kept (c.output_below.ensures.kept made)

pub output_below-requires : goal.output_below-requires
output_below-requires t c =
    let b = c.args.store.now.plan in
    let size = ap length (c.variables-order.ensures.value ∙ c.order.ensures.value) in
    let is : IsOrder (length (order_of b)) (order_of b) =
    subst (λ xs. IsOrder (length xs) xs) c.order.ensures.value c.variables-order.ensures.order in
    let small = path_small c.args.path.level c.args.path.bits c.requires.path.bits in (
      omega arith,
      (
        c.requires.session,
        (
          c.requires.tables,
          (
            c.requires.output,
            record {
              level = omega arith;
              bits = omega arith;
              point = point_low (order_of b) is c.args.path.level c.args.path.bits c.args.path.point c.requires.path.bits c.requires.path.point;
            },
          ),
        ),
      ),
    )

pub output_below-requires-2 : goal.output_below-requires-2
output_below-requires-2 t c =
    let same = c.variables-order.ensures.value ∙ c.order.ensures.value in
    let size = ap length same in
    let is : IsOrder (length (order_of c.args.store.now.plan)) (order_of c.args.store.now.plan) =
    subst (λ xs. IsOrder (length xs) xs) c.order.ensures.value c.variables-order.ensures.order in
    let x = get_or c.variables-order.result.now c.from-2.result 0 in
    let now = bit_or c.args.path.point (1 * 2 ^ x % 4294967296) in
    let up = path_up 32 c.args.path.level c.args.path.bits _ (omega arith) refl in
    let small = path_small c.args.path.level c.args.path.bits c.requires.path.bits in (
      omega arith,
      (
        c.output_below.ensures.made.follows.store ∙ c.requires.session,
        (
          c.requires.tables,
          (
            c.requires.output,
            record {
              level = omega arith;
              bits = subst (λ k. k < 2 ^ (c.args.path.level + 1)) (sym up) small;
              point = subst (λ k. IsPointAbove (order_of c.args.store.now.plan) (c.args.path.level + 1) k now) (sym up)
                  (point_high (order_of c.args.store.now.plan) is c.args.path.level c.args.path.bits c.args.path.point x now
                  (omega arith) (omega arith) c.requires.path.bits
                  (ap₂ (λ xs k. get_or xs k 0) same c.from-2.ensures) c.requires.path.point refl);
            },
          ),
        ),
      ),
    )

pub returns-clause-kept : goal.returns-clause-kept
returns-clause-kept t c =
    let order = c.order.ensures.value in
    let is : IsOrder (levels_of c.args.store.now.plan) (order_of c.args.store.now.plan) =
    subst (λ xs. IsOrder (length xs) xs) order c.variables-order.ensures.order in
    let inside : c.args.path.level < levels_of c.args.store.now.plan = omega (arith, ap length (c.variables-order.ensures.value ∙ order)) in
    keeps_node c.args.store.now c.args.session.now c.output_below.new.session c.output_below-2.new.session c.make.new.session c.args.path.level
    c.args.path.bits c.in_ok-low.low c.in_ok-high.high c.args.output c.output_below.ensures.kept c.output_below-2.ensures.kept
    (c.output_below.ensures.made.follows.store ∙ c.requires.session) c.output_below-2.ensures.made.follows c.make.ensures.goes_on.follows
    c.make.ensures.made is inside
    c.requires.path.bits (subst (λ (z : TruthTables). c.args.output < outputs_of z) c.requires.tables c.requires.output)
    c.in_ok-low.ensures.made.function
    (subst (λ k. Means c.output_below-2.new.session c.in_ok-high.high
    (fixed (take (c.args.path.level + 1) (order_of c.args.store.now.plan)) k (output_at c.args.store.now.plan.problem.value c.args.output)))
    (path_up 32 c.args.path.level c.args.path.bits _ (omega arith) refl) c.in_ok-high.ensures.made.function)

pub make-requires-clause-low : goal.make-requires-clause-low
make-requires-clause-low t c =
    let below = c.in_ok-low.ensures.level in
    known_below_follows c.output_below.new.session c.output_below-2.new.session c.args.path.level c.in_ok-low.low
    c.output_below-2.ensures.made.follows (c.in_ok-low.ensures.made.function.known, omega (arith, below))

pub make-requires-clause-high : goal.make-requires-clause-high
make-requires-clause-high t c = let below = c.in_ok-high.ensures.level in (c.in_ok-high.ensures.made.function.known, omega (arith, below))

pub make-requires-clause-level : goal.make-requires-clause-level
make-requires-clause-level t c =
    omega (arith, ap length (c.variables-order.ensures.value ∙ c.order.ensures.value))

pub returns-clause-level : goal.returns-clause-level
returns-clause-level t c = ok_same _ _ c.make.result c.make.ensures.node (λ id n. n.depth)
