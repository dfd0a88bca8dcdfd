use Rattle.std.proofs.Common.{◌≡◌, ◌++◌, ◌∷◌, [], Vec, Global, ℕ, cond, length, ap, ◌∙◌, arith}
use Rattle.std.proofs.lemmas.List.{length_push}
use Rattle.subfunction_classes.specs.Values.{class_count}
use Rattle.subfunction_classes.proofs.values.no_dependence.Goals as goal
use Rattle.subfunction_classes.proofs.values.no_dependence.Goals.{then-has_both+in_ok-push-2, else-has_both}

pub returns-clause-long : goal.returns-clause-long
returns-clause-long c =
    let one = ap length (c.in_ok-push.ensures.items ∙ ap (λ us. us ++ 0 ∷ []) c.in_ok-masks.ensures.items) in
    elim c.if-has_both.branch [
      | then-has_both+in_ok-push-2 w ↦
          let two = ap length (ap (λ (v : Vec ℕ Global). v.items) w.masks-is ∙ w.in_ok-push-2.ensures.items) in
          let l = length_push c.push.new.self.items 0 in
          let k : 2 ≡ class_count c.args.numbers.now = ap (λ b. cond b 2 1) w.if-has_both.ensures in
          omega arith
      | else-has_both w ↦
          let two = ap length (ap (λ (v : Vec ℕ Global). v.items) w.masks-is) in
          let k : 1 ≡ class_count c.args.numbers.now = ap (λ b. cond b 2 1) w.if-has_both.ensures in
          omega arith
    ]
