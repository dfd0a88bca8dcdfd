-- The parts of a known node.
use Rattle.std.proofs.Common.{◌≡◌, ℕ, ◌-◌, ◌≤◌, get_or, sym, ap, ◌∙◌, subst}
use Rattle.node_words.specs.declared.words.NodeParts.{NodeParts}
use Rattle.node_words.specs.Nodes.{AreNodeWords, level_of, low_of, high_of}
use Rattle.node_words.proofs.Meaning.{known_low, known_high, depth_node}
use Rattle.node_words.proofs.Functions.{function_child, depth_below}
use Rattle.unique_table.specs.Plans.{order_of, levels_of}
use Rattle.unique_table.specs.Sessions.{Knowledge, Knows, HasParts}

pub has_parts : (s : Knowledge) → AreNodeWords (levels_of s.store.plan) s.seen → (id : ℕ) → 2 ≤ id → Knows s id → (w : ℕ) →
    get_or s.seen (id - 2) 0 ≡ w → (parts : NodeParts)
    → parts.level ≡ level_of w → parts.low ≡ low_of w → parts.high ≡ high_of w → HasParts s id parts
has_parts s are id two known w is parts level low high =
    let x : ℕ = get_or s.seen (id - 2) 0 in let n = are (id - 2) (known two) in
    let same : (record { level = level_of x; low = low_of x; high = high_of x }) ≡ parts =
    (λ i. record { level = (ap level_of is ∙ sym level) i; low = (ap low_of is ∙ sym low) i; high = (ap high_of is ∙ sym high) i }) in
    subst (HasParts s id) same record {
      word = n.word;
      level = depth_node (levels_of s.store.plan) s.seen id two;
      inside = n.level;
      unequal = n.unequal;
      low = (known_low (levels_of s.store.plan) s.seen are id two known, depth_below (levels_of s.store.plan) s.seen (level_of x) (low_of x) n.level n.low);
      high = (known_high (levels_of s.store.plan) s.seen are id two known, depth_below (levels_of s.store.plan) s.seen (level_of x) (high_of x) n.level n.high);
      function = λ p. function_child (order_of s.store.plan) s.seen are id two known p;
    }
