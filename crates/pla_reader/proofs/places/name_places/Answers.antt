use Rattle.std.proofs.Common.{◌≡◌, ◌+◌, ◌-◌, ◌++◌, ℕ, List, false, true, inl, is_some, length, map, ap, sym, ◌∙◌, rules, arith}
use Rattle.std.specs.List.{All}
use Rattle.pla_reader.specs.declared.places.Names.{Names}
use Rattle.pla_reader.specs.Lines.{is_end, line_said, said}
use Rattle.pla_reader.specs.Places.{AreNamesAt, Gives, LiesIn, bytes_at, naming_by}
use Rattle.pla_reader.proofs.PlaceLemmas.{from_both, lines_more, none_inside, names_found, names_of, names_gone, names_at_end, names_go_on, tail_of}
use Rattle.pla_reader.proofs.ReadLemmas.{said_first, said_none, end_line}
use Rattle.std.proofs.lemmas.Grind.{common_steps}
use Rattle.pla_reader.proofs.places.name_places.Goals as goal

pub returns-then-gives : goal.returns-then-gives
returns-then-gives c =
    let bytes = c.args.bytes.now in
    let rest = c.loop-rest.rest.now in
    let line = c.first_line.result.0.now in
    let h = c.loop-rest.invariant in
    let parts = c.first_line.ensures.parts in
    let start = length bytes - length rest in
    from_both c.given_places.result
    (λ v. (front back : List ℕ) (names : Names) → length front ≡ start →
    Gives names (line_said line) (map (bytes_at (front ++ line ++ back)) v.items))
    (λ v. All (LiesIn start (start + length line)) v.items)
    (λ v. AreNamesAt c.args.names bytes v.items)
    (λ v. names_found c.args.names bytes h.tail.0 rest line parts.0 c.first_line.result.1.now h.lines.0 v.items h.same h.tail.1 h.lines.1 parts.1
    c.first_line.ensures.line
    (ap (λ l. is_some (naming_by c.args.names l)) (sym c.statement_of-statement.ensures) ∙ sym c.gives.ensures ∙ c.if-gives.true))
    c.given_places.ensures.given c.given_places.ensures.inside

pub returns-then-is_end : goal.returns-then-is_end
returns-then-is_end c =
    let line = line_said c.first_line.result.0.now in
    let ends : is_end line ≡ true = ap is_end (sym c.statement_of-statement.ensures) ∙ sym c.is_end.ensures ∙ c.if-is_end.true in
    let rest = said c.first_line.result.1.now in
    record {
      inside = none_inside 0 (length c.args.bytes.now) c.new.result.items c.new.ensures.items;
      stand = inl c.new.ensures.items;
      spell = ap (map (bytes_at c.args.bytes.now)) c.new.ensures.items
          ∙ sym (names_at_end c.args.names line rest (end_line line ends))
          ∙ ap (names_of c.args.names) (sym (said_first c.loop-rest.rest.now c.first_line.result.1.now c.first_line.result.0.now c.first_line.ensures.line))
          ∙ c.loop-rest.invariant.same;
    }

pub loop-rest-preserved : goal.loop-rest-preserved
loop-rest-preserved c =
    let h = c.loop-rest.invariant in
    let line = c.first_line.result.0.now in
    let after = c.first_line.result.1.now in
    let parts = c.first_line.ensures.parts in
    let goes_on : is_end (line_said line) ≡ false = ap is_end (sym c.statement_of-statement.ensures) ∙ sym c.is_end.ensures ∙ c.if-is_end.false in
    let none = ap (λ l. is_some (naming_by c.args.names l)) (sym c.statement_of-statement.ensures) ∙ sym c.gives.ensures ∙ c.if-gives.false in
    record {
      same = names_go_on c.args.names c.args.bytes.now c.loop-rest.rest.now line after h.same c.first_line.ensures.line goes_on none;
      lines = lines_more c.args.bytes.now c.loop-rest.rest.now line after h.lines.0 h.lines.1 c.first_line.ensures.line;
      tail = tail_of c.args.bytes.now c.loop-rest.rest.now parts.0 after h.tail.0 line h.tail.1 parts.1;
    }

pub returns : goal.returns
returns c =
    record {
      inside = none_inside 0 (length c.args.bytes.now) c.new-2.result.items c.new-2.ensures.items;
      stand = inl c.new-2.ensures.items;
      spell = ap (map (bytes_at c.args.bytes.now)) c.new-2.ensures.items ∙ sym (names_gone c.args.names)
          ∙ ap (names_of c.args.names) (sym (said_none c.loop-rest.rest.now (search rules))) ∙ c.loop-rest.invariant.same;
    }

pub overflow_sub-bytes : goal.overflow_sub-bytes
overflow_sub-bytes c = grind (arith, common_steps)
