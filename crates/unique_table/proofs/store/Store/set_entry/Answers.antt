use Rattle.std.proofs.Common.{◌≡◌, ◌+◌, ◌*◌, ◌%◌, arith}
use Rattle.node_words.proofs.CacheWords.{code_small, entry_packed, entry_fits}
use Rattle.node_words.specs.Entries.{code_of, entry_word}
use Rattle.unique_table.proofs.OpenedStores.{goes_step, small_id, entry_ready}
use Rattle.unique_table.proofs.store.Store.set_entry.Goals as goal

pub entry_key-key-requires-clause-first : goal.entry_key-key-requires-clause-first
entry_key-key-requires-clause-first c =
    small_id c.self.inside c.session.inside c.args.self.now c.args.session.now c.self.view_is c.session.view_is c.self.invariant
    c.session.invariant c.requires.session c.args.first c.requires.known.0

pub entry_key-key-requires-clause-second : goal.entry_key-key-requires-clause-second
entry_key-key-requires-clause-second c =
    small_id c.self.inside c.session.inside c.args.self.now c.args.session.now c.self.view_is c.session.view_is c.self.invariant
    c.session.invariant c.requires.session c.args.second c.requires.known.1

packed : (c : goal.After-from) →
    (c.entry_key-key.result * 1048576) % 18446744073709551616 + c.from.result ≡ entry_word (code_of c.args.operation) c.args.first
    c.args.second c.args.id
packed c = grind (arith, entry_packed, code_small, small_id)

pub overflow_add-word : goal.overflow_add-word
overflow_add-word c = search (packed, entry_fits, code_small, small_id)

pub remember-requires-clause-word : goal.remember-requires-clause-word
remember-requires-clause-word c = search (entry_ready, packed)

pub returns : goal.returns
returns c = search goes_step
