use Rattle.std.proofs.Common.{◌++◌, [], ◌∷◌, inl, inr, sym, ap, ◌∙◌, subst, arith}
use Rattle.std.specs.List.{All}
use Rattle.std.proofs.lemmas.List.Elements.{All-push}
use Rattle.definitions.specs.Problems.{functions}
use Rattle.edge_walks.specs.Walks.{LeadsToFirst}
use Rattle.edge_walks.proofs.SkippedSets.{leads_self}
use Rattle.edge_walks.proofs.fewer_edges.leave_out_orbit.Goals as goal

pub loop-place-init : goal.loop-place-init
loop-place-init c =
    let P = LeadsToFirst c.args.edges c.args.first in
    let none : All P [] = λ k d l. absurd (omega (arith, l)) in
    let self = leads_self c.args.edges.problem.now.inputs (functions c.args.edges.problem.now) c.args.edges.values.now c.args.edges.judged.now c.args.first in (
      c.requires.fewer,
      elim c.in_ok-add.ensures [
        | inl same ↦ subst (All P) (sym (same ∙ c.clear.ensures.items)) none
        | inr more ↦ subst (All P) (sym (more ∙ ap (λ xs. xs ++ c.args.first ∷ []) c.clear.ensures.items))
            (All-push P [] c.args.first none (c.requires.first, self))
      ],
    )

pub step_from-requires-clause-set : goal.step_from-requires-clause-set
step_from-requires-clause-set c =
    subst (LeadsToFirst c.args.edges c.args.first) (sym c.index-set.ensures)
    (c.loop-place.invariant.1 c.loop-place.place c.index-set.result.now (omega (arith, c.loop-place.reached.sets.ok)))
