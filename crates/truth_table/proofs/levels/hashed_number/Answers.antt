use Rattle.std.proofs.Common.{◌≡◌, ◌∷◌, ◌++◌, [], List, cond, not, sym, ap, ◌∙◌, arith}
use Rattle.std.specs.List.{list_any}
use Rattle.definitions.specs.Widths.{same_pair}
use Rattle.truth_table.specs.declared.levels.NumberedNode.{NumberedNode}
use Rattle.truth_table.proofs.NumberedNodes.{hashed_place, made, node_hashed}
use Rattle.truth_table.proofs.levels.hashed_number.Goals as goal
use Rattle.truth_table.proofs.levels.hashed_number.Goals.{then-is_new+in_ok-push, else-is_new}

pub returns : goal.returns
returns c =
    let e = c.in_ok-place.ensures in
    let before : List NumberedNode = c.args.nodes.now.items in
    let own : NumberedNode = made c.args.x c.args.children in
    let nodes : c.if-is_new.nodes.items ≡ cond c.in_ok-place.is_new (before ++ own ∷ []) before =
    elim c.if-is_new.branch [
      | then-is_new+in_ok-push w ↦ ap (λ v. v.items) w.nodes-is ∙ w.in_ok-push.ensures.items
          ∙ ap (λ b. cond b (before ++ own ∷ []) before) (sym w.if-is_new.true)
      | else-is_new w ↦ ap (λ v. v.items) w.nodes-is ∙ ap (λ b. cond b (before ++ own ∷ []) before) (sym w.if-is_new.false)
    ] in
    let done = node_hashed c.args.base c.args.x c.args.children before c.if-is_new.nodes.items c.insert_full.new.self.keys
    c.in_ok-place.place c.in_ok-place.is_new c.requires.unequal c.requires.base
    (e.added ∙ ap (λ ks. not (list_any (same_pair c.args.children) ks)) c.requires.pairs)
    (e.keys ∙ ap (λ ks. cond (list_any (same_pair c.args.children) ks) ks (ks ++ c.args.children ∷ [])) c.requires.pairs)
    e.stored.0 e.stored.1 e.stored.2 e.unique nodes in
    record { number = done.0; pairs = done.1 }

pub overflow_add-result : goal.overflow_add-result
overflow_add-result c =
    let few = hashed_place c.args.base c.args.nodes.now.items c.args.pairs.now.keys c.in_ok-place.place c.in_ok-place.is_new _ c.requires.pairs
    c.in_ok-place.ensures.within c.in_ok-place.ensures.len c.requires.base in
    omega arith

pub overflow_cast-result : goal.overflow_cast-result
overflow_cast-result c =
    let few = hashed_place c.args.base c.args.nodes.now.items c.args.pairs.now.keys c.in_ok-place.place c.in_ok-place.is_new _ c.requires.pairs
    c.in_ok-place.ensures.within c.in_ok-place.ensures.len c.requires.base in
    omega arith

pub overflow_add-result-2 : goal.overflow_add-result-2
overflow_add-result-2 c =
    let few = hashed_place c.args.base c.args.nodes.now.items c.args.pairs.now.keys c.in_ok-place.place c.in_ok-place.is_new _ c.requires.pairs
    c.in_ok-place.ensures.within c.in_ok-place.ensures.len c.requires.base in
    omega arith
