use Rattle.std.proofs.Common.{◌≡◌, ◌+◌, ◌-◌, ◌++◌, ℕ, List, length, length-append, map, ap, arith, sym, ◌∙◌}
use Rattle.std.specs.List.{All}
use Rattle.std.proofs.lemmas.Result.{IfOk-weaker}
use Rattle.pla_reader.specs.declared.places.Names.{Names}
use Rattle.pla_reader.specs.Lines.{line_said}
use Rattle.pla_reader.specs.Places.{Gives, LiesIn, bytes_at}
use Rattle.pla_reader.specs.Text.{words}
use Rattle.pla_reader.proofs.PlaceLemmas.{inside_more, line_places, none_inside, nothing_given}
use Rattle.std.proofs.lemmas.Grind.{common_steps}
use Rattle.pla_reader.proofs.places.given_places.Goals as goal

pub returns-in-Some-clause-given : goal.returns-in-Some-clause-given
returns-in-Some-clause-given c =
    let text = c.content-text.result.now in
    let given = c.in-Some.given.now in
    let start = c.args.start in
    let parts = c.in-Some.ensures.parts in
    IfOk-weaker c.word_places.result
    (λ v. (front back : List ℕ) → length front ≡ start + (length text - length given) → map (bytes_at (front ++ given ++ back)) v.items ≡ words given)
    (λ v. (front back : List ℕ) (names : Names) → length front ≡ start →
    Gives names (line_said c.args.line.now) (map (bytes_at (front ++ c.args.line.now ++ back)) v.items))
    (λ v at. line_places start c.args.line.now text c.content-text.ensures.front.0 c.in-Some.field-0-0.now given parts.0 v.items c.content-text.ensures.front.1
    c.content-text.ensures.value parts.1 c.in-Some.ensures.some at)
    c.word_places.ensures.spell

pub returns-in-Some-clause-inside : goal.returns-in-Some-clause-inside
returns-in-Some-clause-inside c =
    let text = c.content-text.result.now in
    let given = c.in-Some.given.now in
    let start = c.args.start in
    let line = c.args.line.now in
    let whole = ap length c.content-text.ensures.front.1 in
    let long = ap length c.in-Some.ensures.parts.1 in
    IfOk-weaker c.word_places.result
    (λ v. All (LiesIn (start + (length text - length given)) (start + (length text - length given) + length given)) v.items)
    (λ v. All (LiesIn start (start + length line)) v.items)
    (λ v. inside_more (start + (length text - length given)) (start + (length text - length given) + length given) start (start + length line) v.items
    (omega arith) (omega (arith, length-append {A = ℕ})))
    c.word_places.ensures.inside

pub returns-in-None-clause-given : goal.returns-in-None-clause-given
returns-in-None-clause-given c front back names f =
    nothing_given names c.args.line.now _ (ap words (sym c.content-text.ensures.value) ∙ c.in-None.ensures.none)

pub returns-in-None-clause-inside : goal.returns-in-None-clause-inside
returns-in-None-clause-inside c = none_inside c.args.start (c.args.start + length c.args.line.now) c.new.result.items c.new.ensures.items

pub overflow_add-start : goal.overflow_add-start
overflow_add-start c = grind (arith, common_steps)
