use Rattle.std.proofs.Common.{ℕ, ◌^◌, List, sym, ap, subst, arith}
use Rattle.std.proofs.lemmas.Nat.{one_shl}
use Rattle.definitions.specs.declared.listed_cells.ListedCell.{ListedCell}
use Rattle.solutions.proofs.ListedSets.{ListedTo, listed_start, listed_yes, listed_no, listed_whole}
use Rattle.solutions.proofs.listed_sets.listed_cells.Goals as goal
use Rattle.solutions.proofs.listed_sets.listed_cells.Goals.{then-from+in_ok-push, else-from}

pub loop-number-init : goal.loop-number-init
loop-number-init c =
    subst (λ (xs : List ListedCell). ListedTo c.args.cells.now c.args.total 0 xs) (sym c.new-found.ensures.items)
    (listed_start c.args.cells.now c.args.total)

pub loop-number-preserved : goal.loop-number-preserved
loop-number-preserved c = grind (arith, then-from+in_ok-push, listed_yes, else-from, listed_no)

pub returns : goal.returns
returns c =
    let t = c.args.cells.now in
    let e = c.inputs.ensures in
    let s = one_shl c.inputs.result 32 (let f = e.few in omega (arith, f)) in
    let p = ap (λ (k : ℕ). 2 ^ k) e.value in
    let f = c.loop-number-test.false in
    let m = c.loop-number.auto.number-end in
    listed_whole t c.args.total c.loop-number.number c.loop-number.found.items c.loop-number.invariant
    (omega (arith, s, p, f, m)) c.requires.within c.requires.lower_bound
