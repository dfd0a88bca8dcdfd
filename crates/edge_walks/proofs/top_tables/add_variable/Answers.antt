use Rattle.std.proofs.Common.{◌≡◌, ◌+◌, ◌-◌, IfSome, ap, sym, ◌∙◌, subst, arith}
use Rattle.edge_walks.specs.Blocks.{StandsAt}
use Rattle.edge_walks.proofs.TopTables.{AreTopsTo, tops_more, tops_start}
use Rattle.edge_walks.proofs.top_tables.add_variable.Goals as goal
use Rattle.edge_walks.proofs.top_tables.add_variable.Goals.{in-Some+in_ok-push, in_default, in-Some-2+in_ok-push-2, in_default-2}

pub loop-i-init : goal.loop-i-init
loop-i-init c =
    let P = c.args.root.edges.problem.now in
    let y = c.args.root.free in
    let next : y ≡ y - 1 + 1 = omega arith in
    let start =
    tops_start P (y - 1) y c.len-made.result c.args.tops.now.items next (omega arith) c.requires.tops in
    elim c.match-branch-2.branch [
      | in-Some+in_ok-push w ↦
          let stands = subst (λ o. IfSome o (StandsAt P (y - 1))) w.in-Some.is c.in_ok-larger.ensures in
          subst (AreTopsTo P (y - 1) y c.len-made.result) (sym (ap (λ v. v.items) w.tops-is ∙ w.in_ok-push.ensures.items))
          (tops_more P (y - 1) y c.len-made.result w.in-Some.larger c.args.tops.now.items start stands)
      | in_default w ↦ subst (AreTopsTo P (y - 1) y c.len-made.result) (sym (ap (λ v. v.items) w.tops-is)) start
    ]

pub invariant_of-at : goal.invariant_of-at
invariant_of-at c =
    let P = c.args.root.edges.problem.now in
    record { stands = subst (StandsAt P c.args.root.free) (sym c.index.ensures) (c.loop-i.invariant.before c.loop-i.i c.index.result.now c.loop-i-test.true) }

pub loop-i-preserved : goal.loop-i-preserved
loop-i-preserved c =
    let P = c.args.root.edges.problem.now in
    let y = c.args.root.free in
    elim c.match-branch-5.branch [
      | in-Some-2+in_ok-push-2 w ↦
          let stands = subst (λ o. IfSome o (StandsAt P (y - 1))) w.in-Some-2.is c.in_ok-larger-2.ensures in
          subst (AreTopsTo P (y - 1) y c.len-made.result) (sym (ap (λ v. v.items) w.tops-is ∙ w.in_ok-push-2.ensures.items))
          (tops_more P (y - 1) y c.len-made.result w.in-Some-2.larger c.loop-i.tops.items c.loop-i.invariant stands)
      | in_default-2 w ↦ subst (AreTopsTo P (y - 1) y c.len-made.result) (sym (ap (λ v. v.items) w.tops-is)) c.loop-i.invariant
    ]
