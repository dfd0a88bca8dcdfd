use Rattle.std.proofs.Common.{◌≡◌, ◌+◌, ◌++◌, ◌∷◌, [], length, map, sym, ap, subst, ◌∙◌, arith, get_or, false}
use Rattle.definitions.specs.declared.refs.Ref.TheVariants.{Terminal}
use Rattle.sifting.specs.LevelLists.{nodes_of}
use Rattle.sifting.specs.Cuts.{is_true, Splits, IsBuilt}
use Rattle.sifting.proofs.SplitCuts.{ref_default}
use Rattle.sifting.proofs.BuiltLevels.{Built, built_none, built_more, built_all, nodes_more}
use Rattle.sifting.proofs.build.levels_of.Goals as goal

pub loop-x-init : goal.loop-x-init
unfolding nodes_of
loop-x-init c =
    subst (λ ls. Built c.args.order.now (record { nodes = c.args.nodes.now; roots = c.args.roots.now }) c.in_ok-numbers.numbers.items 0
    (nodes_of ls) c.in_ok-numbers.cut.items)
    (sym c.in_ok-levels.ensures.items)
    (built_none c.args.order.now c.requires.order (record { nodes = c.args.nodes.now; roots = c.args.roots.now }) c.requires.diagram
    c.requires.ordered c.requires.reduced c.in_ok-numbers.numbers.items c.in_ok-numbers.cut.items
    c.requires.few_roots c.in_ok-numbers.ensures (λ j h. c.requires.diagram.roots j (Terminal false) h))

pub split-requires-clause-inside : goal.split-requires-clause-inside
split-requires-clause-inside c k d h = grind (arith, ref_default)

pub loop-x-preserved : goal.loop-x-preserved
loop-x-preserved c =
    let order = c.args.order.now in
    let numbers = c.in_ok-numbers.numbers.items in
    let level : c.new.result.nodes.items ≡ c.in_ok-level.level.items = λ i. (c.new.ensures i).items in
    let splits =
    subst (λ cs. Splits c.args.nodes.now (get_or order c.loop-x.x-index 0) cs c.in_ok-level.level.items c.in_ok-level.next.items)
    c.deref.ensures.value c.in_ok-level.ensures in
    subst (λ ns. Built order (record { nodes = c.args.nodes.now; roots = c.args.roots.now }) numbers (c.loop-x.x-index + 1) ns c.in_ok-level.next.items)
    (sym (ap nodes_of c.in_ok-push.ensures.items ∙ nodes_more c.loop-x.levels.items c.new.result ∙ ap (λ L. nodes_of c.loop-x.levels.items ++ L ∷ []) level))
    (built_more order c.requires.order (record { nodes = c.args.nodes.now; roots = c.args.roots.now }) c.requires.diagram c.requires.ordered
    c.requires.reduced numbers c.loop-x.x-index (nodes_of c.loop-x.levels.items) c.loop-x.cut.items
    c.in_ok-level.next.items c.in_ok-level.level.items c.loop-x-test.true c.loop-x.invariant splits)

pub returns : goal.returns
returns c =
    let order = c.args.order.now in
    let numbers = c.in_ok-numbers.numbers.items in
    let done = c.loop-x.auto.x-index-end in
    let past = c.loop-x-test.false in
    let e : c.loop-x.x-index ≡ length order = omega arith in
    let built =
    subst (λ m. Built order (record { nodes = c.args.nodes.now; roots = c.args.roots.now }) numbers m (nodes_of c.loop-x.levels.items)
    c.loop-x.cut.items)
    e c.loop-x.invariant in
    subst (λ ts. IsBuilt order c.args.nodes.now c.args.roots.now numbers (nodes_of c.loop-x.levels.items) ts)
    (sym (c.in_ok-terminals.ensures ∙ ap (map is_true) c.deref-2.ensures.value))
    (built_all order c.requires.order (record { nodes = c.args.nodes.now; roots = c.args.roots.now }) c.requires.diagram c.requires.ordered
    c.requires.reduced numbers (nodes_of c.loop-x.levels.items) c.loop-x.cut.items built)
