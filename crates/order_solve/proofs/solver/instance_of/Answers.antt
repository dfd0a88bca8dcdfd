use Rattle.std.proofs.Common.{sym, arith, subst}
use Rattle.layer_core.specs.Instances.{instance_of}
use Rattle.solutions.specs.Bounded.{IsBounded}
use Rattle.order_solve.proofs.SiftedBounds.{sifted_bounds, sifted_room}
use Rattle.order_solve.proofs.solver.instance_of.Goals as goal

pub new-requires-clause-room : goal.new-requires-clause-room
new-requires-clause-room c =
    let t = instance_of c.args.problem.now c.args.pairs.now record { bound = c.size.result; lower_bound = c.args.lower_bound } in
    let s = c.size.ensures in
    let v = c.inputs.ensures in
    sifted_room t c.args.sifted.now s.sifted c.requires.problem c.requires.harmless s.value c.outputs.result
    (omega (arith, v.value, v.few)) c.outputs.ensures.value c.outputs.ensures.few

pub returns-clause-bounded : goal.returns-clause-bounded
returns-clause-bounded c =
    let t = instance_of c.args.problem.now c.args.pairs.now record { bound = c.size.result; lower_bound = c.args.lower_bound } in
    let s = c.size.ensures in
    subst IsBounded (sym c.new.ensures) (sifted_bounds t c.args.sifted.now s.sifted c.requires.problem c.requires.harmless s.value)
