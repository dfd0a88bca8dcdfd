use Rattle.std.proofs.Common.{arith}
use Rattle.pla_reader.proofs.PlaceLemmas.{next_inside, next_place, tail_of}
use Rattle.std.proofs.lemmas.Grind.{common_steps}
use Rattle.pla_reader.proofs.places.word_places.Goals as goal

pub loop-word-preserved : goal.loop-word-preserved
loop-word-preserved c =
    let h = c.loop-word.invariant in
    let text = c.args.text.now in
    let rest = c.loop-word.rest.now in
    let word = c.in-Some.word.now in
    let after = c.in-Some.after.now in
    let parts = c.in-Some.ensures.parts in
    record {
      places = next_place c.args.start text rest word after h.tail.0 parts.0 c.loop-word.places.items c.push.new.self.items h.places h.tail.1 parts.1
          c.in-Some.ensures.some c.in_ok-push.ensures.items;
      inside = next_inside c.args.start text rest word after h.tail.0 parts.0 c.loop-word.places.items c.push.new.self.items h.inside h.tail.1 parts.1
          c.in_ok-push.ensures.items;
      tail = tail_of text rest word after h.tail.0 parts.0 h.tail.1 parts.1;
    }

pub overflow_sub-text : goal.overflow_sub-text
overflow_sub-text c = grind (arith, common_steps)

pub overflow_sub-text-in-Some : goal.overflow_sub-text-in-Some
overflow_sub-text-in-Some c = grind (arith, common_steps)
