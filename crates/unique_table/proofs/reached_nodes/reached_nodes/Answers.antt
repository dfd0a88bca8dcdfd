use Rattle.std.proofs.Common.{◌≡◌, ℕ, ◌+◌, ◌^◌, ◌<◌, List, length, replicate, length-take, sym, ap, subst, ◌∙◌, arith}
use Rattle.std.proofs.lemmas.List.{length-replicate}
use Rattle.std.specs.Slots.{slots_items}
use Rattle.definitions.specs.declared.refs.Ref.{Ref}
use Rattle.definitions.specs.declared.refs.Node.{Node}
use Rattle.unique_table.specs.Copies.{words_in, AreCopied, AreRefs, AreReached}
use Rattle.unique_table.proofs.NodeCopies.{copied_none}
use Rattle.unique_table.proofs.CopiedDiagrams.{more_reached, more_refs, reduced_of}
use Rattle.unique_table.proofs.reached_nodes.reached_nodes.Goals as goal

pub loop-id-init : goal.loop-id-init
loop-id-init c =
    let size : length (words_in c.args.closed.now c.args.places) ≡ c.args.places =
    (let e = length-take c.args.places (slots_items c.args.closed.now.words) in omega arith) in
    let numbers : c.in_ok-numbers.numbers ≡ replicate c.args.places 0 = c.in_ok-numbers.ensures in
    let nodes = c.new-nodes.ensures.items in record {
      size = ap (λ (z : List ℕ). length z) numbers ∙ length-replicate c.args.places 0;
      copied = subst (λ (z : List ℕ × List Node). AreCopied c.args.order.now (words_in c.args.closed.now c.args.places) z.0 z.1)
          (λ i. (sym numbers i, sym nodes i)) (copied_none c.args.order.now (words_in c.args.closed.now c.args.places) c.args.places size);
      refs = record { count = ap (λ (z : List Ref). length z) c.in_ok-roots.ensures.items; each = λ j low. absurd (omega arith) };
      reached = λ k low. absurd (omega arith);
    }

pub loop-id-preserved : goal.loop-id-preserved
loop-id-preserved c =
    let i = c.loop-id.invariant in let s = c.in_ok-root.ensures.copies in let pushed = c.in_ok-push.ensures.items in record {
      size = c.copy.ensures.size;
      copied = s.copied;
      refs = subst (λ (z : List Ref). AreRefs c.copy.new.numbers z c.args.ids.now (c.loop-id.id-index + 1)) (sym pushed)
          (more_refs c.loop-id.numbers c.copy.new.numbers c.loop-id.roots.items c.args.ids.now c.loop-id.id-index
          c.in_ok-root.root s.grows i.refs s.known s.ref);
      reached = subst (λ (z : List Ref). AreReached c.copy.new.nodes.items z) (sym pushed)
          (more_reached c.loop-id.nodes.items c.copy.new.nodes.items c.loop-id.roots.items c.in_ok-root.root s.extends s.leads i.reached);
    }

pub returns : goal.returns
returns c =
    let i = c.loop-id.invariant in let ws : List ℕ = words_in c.args.closed.now c.args.places in
    let at : c.loop-id.id-index ≡ length c.args.ids.now =
    omega arith in
    let few : length c.loop-id.numbers < 2 ^ 32 =
    omega arith in
    reduced_of c.args.order.now ws c.loop-id.numbers c.loop-id.nodes.items c.requires.order c.requires.nodes.nodes c.requires.unequal
    i.copied c.loop-id.roots.items c.args.ids.now few
    (subst (λ (z : ℕ). AreRefs c.loop-id.numbers c.loop-id.roots.items c.args.ids.now z) at i.refs) i.reached

pub copy-requires-clause-known : goal.copy-requires-clause-known
copy-requires-clause-known c = omega arith
