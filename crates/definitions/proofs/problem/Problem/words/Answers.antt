use Rattle.std.proofs.Common.{◌*◌, ◌+◌, ◌≤◌, ℕ, List, length, sym, ap, ◌∙◌, subst}
use Rattle.definitions.specs.Problems.{IsClean, table_in, words_of}
use Rattle.definitions.proofs.Bits.Problems.{block_facts}
use Rattle.definitions.proofs.problem.Problem.words.Goals as goal

pub block-requires : goal.block-requires
block-requires c =
    subst (λ (ws : List ℕ). c.args.output * c.words_per_table.result + c.words_per_table.result ≤ length ws) (sym c.deref.ensures.value)
    (block_facts _ _ c.self.inside.words.items c.self.invariant _ _ c.args.output c.words_per_table.ensures.value c.self.view_is c.requires).0

pub returns-clause-long : goal.returns-clause-long
returns-clause-long c =
    ap length (c.block.ensures ∙ ap (λ ws. words_of c.words_per_table.result ws c.args.output) c.deref.ensures.value)
    ∙ (block_facts _ _ c.self.inside.words.items c.self.invariant _ _ c.args.output c.words_per_table.ensures.value c.self.view_is c.requires).2

pub returns-clause-table : goal.returns-clause-table
returns-clause-table c =
    ap (table_in c.args.self.now.inputs) (c.block.ensures ∙ ap (λ ws. words_of c.words_per_table.result ws c.args.output) c.deref.ensures.value)
    ∙ (block_facts _ _ c.self.inside.words.items c.self.invariant _ _ c.args.output c.words_per_table.ensures.value c.self.view_is c.requires).1

pub returns-clause-clean : goal.returns-clause-clean
returns-clause-clean c =
    subst (IsClean c.args.self.now.inputs) (sym (c.block.ensures ∙ ap (λ ws. words_of c.words_per_table.result ws c.args.output) c.deref.ensures.value))
    (block_facts _ _ c.self.inside.words.items c.self.invariant _ _ c.args.output c.words_per_table.ensures.value c.self.view_is c.requires).3
