use Rattle.sifting.proofs.SplitCuts.{split_terminal, split_then, split_else}
use Rattle.sifting.proofs.build.halves.Goals as goal

pub returns-in-Terminal : goal.returns-in-Terminal
returns-in-Terminal c = split_terminal c.args.nodes.now c.args.variable c.args.r c.in-Terminal.field-0 c.in-Terminal.is

pub returns-then-node-variable : goal.returns-then-node-variable
returns-then-node-variable c = split_then c.args.nodes.now c.args.variable c.args.r c.in-Place.place _ c.in-Place.is c.requires c.if-node-variable.true

pub returns-else-node-variable : goal.returns-else-node-variable
returns-else-node-variable c = split_else c.args.nodes.now c.args.variable c.args.r c.in-Place.place _ c.in-Place.is c.requires c.if-node-variable.false
