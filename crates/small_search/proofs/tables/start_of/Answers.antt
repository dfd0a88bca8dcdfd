use Rattle.std.proofs.Common.{◌≡◌, sym, ap, ◌∙◌, arith}
use Rattle.small_search.specs.ValuePlaces.{start_of}
use Rattle.small_search.proofs.ValueParts.{starts}
use Rattle.small_search.proofs.tables.start_of.Goals as goal

pub returns-in-0 : goal.returns-in-0
returns-in-0 c = let s = starts c.args.entries in sym (ap (start_of c.args.entries) c.in-0.is ∙ s.0)

pub returns-in-1 : goal.returns-in-1
returns-in-1 c = let s = starts c.args.entries in sym (ap (start_of c.args.entries) c.in-1.is ∙ s.1)

pub returns-in-2 : goal.returns-in-2
returns-in-2 c = let s = starts c.args.entries in sym (ap (start_of c.args.entries) c.in-2.is ∙ s.2)

pub returns-in_default : goal.returns-in_default
returns-in_default c =
    let s = starts c.args.entries in
    sym (ap (start_of c.args.entries) (let l = c.requires.size in let e : c.args.size ≡ 3 = omega (arith, l, c.in_default) in e) ∙ s.3)
