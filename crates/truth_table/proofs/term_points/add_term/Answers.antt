use Rattle.std.proofs.Common.{◌≡◌, ◌≢◌, ℕ, ◌+◌, ◌*◌, ◌<◌, List, [], length, get_or, sym, ap, ◌∙◌, subst, arith}
use Rattle.std.proofs.lemmas.List.{get_or-set_same, get_or-set_other, length-set}
use Rattle.truth_table.specs.Terms.{AddsTerm}
use Rattle.truth_table.proofs.TermWords.{place_added, term_added, term_left_out}
use Rattle.truth_table.proofs.term_points.add_term.Goals as goal
use Rattle.truth_table.proofs.term_points.add_term.Goals.{then-holds_above, else-holds_above}

pub loop-place-preserved : goal.loop-place-preserved
loop-place-preserved c =
    let i = c.loop-place.invariant in
    let t = c.args.term.now in
    let g = c.args.group in
    let place = c.loop-place.place in
    let old : List ℕ = get_or c.loop-place.words place [] in
    let inside : place < length c.loop-place.words = omega arith in
    let stays : (p : ℕ) → p ≢ place → get_or c.if-holds_above.words p [] ≡ get_or c.loop-place.words p [] = grind (arith, get_or-set_other) in
    let here : AddsTerm t (32 * g + place) old (get_or c.if-holds_above.words place []) = elim c.if-holds_above.branch [
      | then-holds_above w ↦
          subst (λ (ws : List ℕ). AddsTerm t (32 * g + place) old ws)
          (sym (ap (λ (ws : List (List ℕ)). get_or ws place []) w.words-is
          ∙ get_or-set_same c.loop-place.words place w.add_points.new.words [] inside))
          (term_added t (32 * g + place) c.pattern-points.result old w.add_points.new.words c.pattern-points.ensures
          (sym c.holds_above.ensures ∙ w.if-holds_above.true) w.add_points.ensures)
      | else-holds_above w ↦
          grind (arith, term_left_out)
    ] in
    record {
      long = grind (arith, length-set);
      done = search place_added;
      left = λ p high. stays p (omega arith) ∙ i.left p (omega arith);
    }
