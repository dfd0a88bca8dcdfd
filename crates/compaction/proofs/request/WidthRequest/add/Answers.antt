use Rattle.std.proofs.Common.{◌/◌, refl}
use Rattle.compaction.proofs.WantedSets.{request_written, kept_written, more_written}
use Rattle.compaction.proofs.request.WidthRequest.add.Goals as goal

pub invariant_of-self-clause-request : goal.invariant_of-self-clause-request
invariant_of-self-clause-request c =
    let s = c.args.self.now in
    request_written s.needed.items c.from.result (c.args.set / 256) c.index_mut.result.now c.args.members c.from.ensures
    (s.request.all c.args.set c.requires.set c.requires.byte) c.index_mut.ensures.value s.inputs s.low c.args.set refl c.requires.set c.requires.byte
    c.requires.members s.request

pub returns-clause-added : goal.returns-clause-added
returns-clause-added c =
    let s = c.args.self.now in
    more_written s.needed.items c.from.result (c.args.set / 256) c.index_mut.result.now c.args.members c.from.ensures
    (s.request.all c.args.set c.requires.set c.requires.byte) c.index_mut.ensures.value

pub returns-clause-kept : goal.returns-clause-kept
returns-clause-kept c =
    let s = c.args.self.now in
    kept_written s.needed.items c.from.result (c.args.set / 256) c.index_mut.result.now c.args.members c.from.ensures
    (s.request.all c.args.set c.requires.set c.requires.byte) c.index_mut.ensures.value
