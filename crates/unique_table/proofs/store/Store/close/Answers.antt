use Rattle.std.proofs.Common.{◌≡◌, sym, subst}
use Rattle.unique_table.specs.declared.close.CloseFault.{CloseFault}
use Rattle.unique_table.specs.Closing.{ClosedStoreOf, IsFinalStore, LacksRoot, MayLackRoot}
use Rattle.unique_table.proofs.Roots.{err_from, lacking}
use Rattle.unique_table.proofs.store.Store.close.Goals as goal

pub returns-clause-last : goal.returns-clause-last
returns-clause-last c =
    let closed : ClosedStoreOf = c.into_closed.result in
    err_from (λ (e : ClosedStoreOf × CloseFault). e.0 ≡ closed) (λ e. LacksRoot closed e.1) (λ e. IsFinalStore c.args.session e.0)
    c.diagram.result c.diagram.ensures.kept c.diagram.ensures.missing
    (λ e k l. subst (λ (z : ClosedStoreOf). IsFinalStore c.args.session z) (sym k) c.into_closed.ensures.last)

pub returns-clause-lacks : goal.returns-clause-lacks
returns-clause-lacks c =
    let closed : ClosedStoreOf = c.into_closed.result in
    err_from (λ (e : ClosedStoreOf × CloseFault). e.0 ≡ closed) (λ e. LacksRoot closed e.1) (λ e. LacksRoot e.0 e.1)
    c.diagram.result c.diagram.ensures.kept c.diagram.ensures.missing
    (λ e k l. subst (λ (z : ClosedStoreOf). LacksRoot z e.1) (sym k) l)

pub returns-clause-missing : goal.returns-clause-missing
returns-clause-missing c =
    let closed : ClosedStoreOf = c.into_closed.result in
    err_from (λ (e : ClosedStoreOf × CloseFault). e.0 ≡ closed) (λ e. LacksRoot closed e.1) (λ e. MayLackRoot c.args.session e.1)
    c.diagram.result c.diagram.ensures.kept c.diagram.ensures.missing
    (λ e k l. lacking c.args.session closed e.1 c.into_closed.ensures.last l)
