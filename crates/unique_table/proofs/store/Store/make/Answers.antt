use Rattle.std.proofs.Common.{◌≡◌, ◌+◌, ◌*◌, ◌^◌, ◌<◌, ◌≤◌, Bool, MatchBool, ◌-◌, get_or, sym, ap, ◌∙◌, refl, subst, eq-eqb, arith}
use Rattle.node_words.specs.Nodes.{node_word}
use Rattle.node_words.proofs.NewNodes.{makes}
use Rattle.unique_table.specs.Sessions.{Knowledge, Follows, IsKnownBelow}
use Rattle.unique_table.proofs.SessionsGoOn.{follows_refl}
use Rattle.unique_table.proofs.OpenedStores.{seated, made_only, word_ready, small_id, few_levels, goes_on, goes_nowhere, goes_searching, node_made}
use Rattle.std.proofs.lemmas.Grind.{common_steps}
use Rattle.unique_table.proofs.store.Store.make.Goals as goal

pub find_or_put-requires-clause-word : goal.find_or_put-requires-clause-word
find_or_put-requires-clause-word c = search word_ready

pub returns-then-low-high-clause-goes_on : goal.returns-then-low-high-clause-goes_on
returns-then-low-high-clause-goes_on c =
    goes_nowhere c.self.inside c.session.inside c.args.self.now c.args.session.now c.self.view_is c.session.view_is c.self.invariant
    c.session.invariant c.requires.session (2 * c.args.self.now.plan.places)

pub returns-in_default-clause-goes_on : goal.returns-in_default-clause-goes_on
returns-in_default-clause-goes_on c =
    goes_searching c.self.inside c.session.inside c.args.self.now c.args.session.now c.self.view_is c.session.view_is c.self.invariant
    c.session.invariant c.requires.session c.find_or_put.new.seat c.node_word-word.result _ (2 * c.args.self.now.plan.places) (grind arith)
    c.find_or_put.ensures.searches

pub returns-clause-goes_on : goal.returns-clause-goes_on
returns-clause-goes_on c =
    goes_searching c.self.inside c.session.inside c.args.self.now c.args.session.now c.self.view_is c.session.view_is c.self.invariant
    c.session.invariant c.requires.session c.find_or_put.new.seat c.node_word-word.result _ (2 * c.args.self.now.plan.places) (grind arith)
    c.find_or_put.ensures.searches

pub returns-in_default-clause-full : goal.returns-in_default-clause-full
returns-in_default-clause-full c = grind arith

pub returns-clause-node : goal.returns-clause-node
returns-clause-node c =
    let a : c.args.low < 2 ^ 20 =
    small_id c.self.inside c.session.inside c.args.self.now c.args.session.now c.self.view_is c.session.view_is c.self.invariant
    c.session.invariant c.requires.session c.args.low c.requires.low.0 in
    let b : c.args.high < 2 ^ 20 =
    small_id c.self.inside c.session.inside c.args.self.now c.args.session.now c.self.view_is c.session.view_is c.self.invariant
    c.session.invariant c.requires.session c.args.high c.requires.high.0 in
    let few = few_levels c.self.inside c.session.inside c.args.self.now c.args.session.now c.self.view_is c.session.view_is c.self.invariant
    c.session.invariant c.requires.session in
    let on : Follows c.args.session.now (seated c.find_or_put.new.seat) =
    goes_on c.self.inside c.session.inside c.args.self.now c.args.session.now c.self.view_is c.session.view_is c.self.invariant
    c.session.invariant c.requires.session c.find_or_put.new.seat c.find_or_put.ensures.searches.seat c.find_or_put.ensures.searches.view in
    node_made c.args.self.now c.args.session.now (seated c.find_or_put.new.seat) c.requires.session few
    c.find_or_put.ensures.searches.seat.good.nodes on
    c.args.level c.args.low c.args.high (c.in-Some.place + 2) c.requires.level a b c.requires.low
    (makes c.find_or_put.new.seat.me.0.seen c.args.level c.args.low c.args.high c.in-Some.place c.if-low-high.false
    (c.in-Some.ensures.found.1 ∙ c.node_word-word.ensures)) (grind arith)

pub returns-then-low-high-clause-node : goal.returns-then-low-high-clause-node
returns-then-low-high-clause-node c =
    let a : c.args.low < 2 ^ 20 =
    small_id c.self.inside c.session.inside c.args.self.now c.args.session.now c.self.view_is c.session.view_is c.self.invariant
    c.session.invariant c.requires.session c.args.low c.requires.low.0 in
    let b : c.args.high < 2 ^ 20 =
    small_id c.self.inside c.session.inside c.args.self.now c.args.session.now c.self.view_is c.session.view_is c.self.invariant
    c.session.invariant c.requires.session c.args.high c.requires.high.0 in
    let here : Knowledge = seated c.session.inside.seat in
    let low : IsKnownBelow here c.args.level c.args.low =
    subst (λ (z : Knowledge). IsKnownBelow z c.args.level c.args.low) (sym c.session.view_is) c.requires.low in
    node_made c.args.self.now here here (ap (λ (z : Knowledge). z.store) c.session.view_is ∙ c.requires.session)
    (few_levels c.self.inside c.session.inside c.args.self.now c.args.session.now c.self.view_is c.session.view_is c.self.invariant
    c.session.invariant c.requires.session)
    c.session.invariant.good.nodes
    (follows_refl here c.session.invariant.good.nodes)
    c.args.level c.args.low c.args.high c.args.low c.requires.level a b low
    (subst (λ (t : Bool). MatchBool t (c.args.low ≡ c.args.low)
    ((2 ≤ c.args.low) × (get_or here.seen (c.args.low - 2) 0 ≡ node_word c.args.level c.args.low c.args.high)))
    (sym (eq-eqb c.args.low c.args.high c.if-low-high.true)) refl) (omega (arith, low.1))

pub returns-in_default-clause-made : goal.returns-in_default-clause-made
returns-in_default-clause-made c =
    made_only c.session.inside c.args.session.now c.find_or_put.new.seat.me.0.made _ _ c.session.view_is
    c.node_word-word.ensures c.find_or_put.ensures.searches.made

pub returns-clause-made : goal.returns-clause-made
returns-clause-made c =
    made_only c.session.inside c.args.session.now c.find_or_put.new.seat.me.0.made _ _ c.session.view_is
    c.node_word-word.ensures c.find_or_put.ensures.searches.made

pub node_word-word-requires-clause-low : goal.node_word-word-requires-clause-low
node_word-word-requires-clause-low c = grind (arith, common_steps)

pub node_word-word-requires-clause-high : goal.node_word-word-requires-clause-high
node_word-word-requires-clause-high c = grind (arith, common_steps)
