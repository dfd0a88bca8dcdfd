use Rattle.std.proofs.Common.{◌≡◌, get_or, ◌∙◌, sym}
use Rattle.std.proofs.lemmas.Bool.{iff_false}
use Rattle.unique_table.specs.Plans.{variable_at}
use Rattle.dd_builder.proofs.SessionSteps.{stays, makes_node}
use Rattle.dd_builder.proofs.Literals.{literal_absent, literal_upper, literal_lower}
use Rattle.dd_builder.proofs.cover_terms.literal_and.Goals as goal

pub returns-then-not-contains-clause-made : goal.returns-then-not-contains-clause-made
returns-then-not-contains-clause-made c =
    let at : variable_at c.args.store.now.plan c.args.level ≡ get_or c.variables.result.now c.from.result 0 =
    (λ i. get_or (sym (c.variables.ensures.value ∙ c.order.ensures.value) i) (sym c.from.ensures i) 0) in
    record {
      follows = stays c.args.session.now;
      full = tt;
      function =
          literal_absent c.args.session.now c.args.term (variable_at c.args.store.now.plan c.args.level) _ c.args.id at c.requires.id.0
          (iff_false c.contains.ensures c.if-not-contains.true);
    }

pub returns-then-contains-clause-made : goal.returns-then-contains-clause-made
returns-then-contains-clause-made c =
    let at : variable_at c.args.store.now.plan c.args.level ≡ get_or c.variables.result.now c.from.result 0 =
    (λ i. get_or (sym (c.variables.ensures.value ∙ c.order.ensures.value) i) (sym c.from.ensures i) 0) in
    makes_node _ _ _ c.args.store.now c.make.result _ _ _ _ _ (stays _) c.make.ensures.goes_on c.requires.session c.make.ensures.node
    c.make.ensures.full (λ made m.
    literal_upper c.make.new.session c.args.term (variable_at c.args.store.now.plan c.args.level) _ c.args.id made at
    (c.contains.ensures.0 c.if-not-contains.false) (c.contains-2.ensures.0 c.if-contains.true) m)

pub returns-else-contains-clause-made : goal.returns-else-contains-clause-made
returns-else-contains-clause-made c =
    let at : variable_at c.args.store.now.plan c.args.level ≡ get_or c.variables.result.now c.from.result 0 =
    (λ i. get_or (sym (c.variables.ensures.value ∙ c.order.ensures.value) i) (sym c.from.ensures i) 0) in
    makes_node _ _ _ c.args.store.now c.make-else-contains.result _ _ _ _ _ (stays _) c.make-else-contains.ensures.goes_on
    c.requires.session c.make-else-contains.ensures.node c.make-else-contains.ensures.full (λ made m.
    literal_lower c.make-else-contains.new.session c.args.term (variable_at c.args.store.now.plan c.args.level) _ c.args.id made at
    (c.contains.ensures.0 c.if-not-contains.false) (iff_false c.contains-2.ensures c.if-contains.false) m)
