use Rattle.std.proofs.Common.{◌≡◌, ◌+◌, ◌*◌, false, length, get_or, eqb, sym, ap, ◌∙◌, subst, arith}
use Rattle.std.proofs.lemmas.List.{length_push}
use Rattle.std.specs.Cmp.Lexicographic.{pointwise}
use Rattle.std.specs.List.{list_any}
use Rattle.compaction.specs.NamedStrips.{NamesStrips}
use Rattle.compaction.proofs.NamedStrips.{few_more, strip_added, strip_bits, strip_of}
use Rattle.compaction.proofs.values.push_strips.Goals as goal

pub loop-place-preserved : goal.loop-place-preserved
loop-place-preserved c =
    let words = c.args.words.now in
    let place = c.loop-place.place in
    let outer = c.loop-place.found.outer.items in
    let strips = c.loop-place.found.strips.keys in
    let e = c.in_ok-name.ensures in
    let items = c.in_ok-push.ensures.items in
    let l = ap length items ∙ length_push outer c.in_ok-name.name in
    let before = c.loop-place.invariant in
    record {
      long = omega (arith, before.long);
      room = (let m = ap length e.keys in
          let f = few_more (list_any (pointwise eqb (strip_of words place)) strips) strips (strip_of words place) in
          let r = before.room in omega arith);
      names = λ values s labels.
          subst (λ o. NamesStrips values o c.insert_full.new.self.keys) (sym items)
          (strip_added values outer strips (strip_of words place) (before.names values s labels)
          (λ b h. strip_bits words place b h ∙ labels (place * 256 + b) (let t = c.loop-place-test.true in omega arith)
          ∙ ap (λ k. get_or values k false)
          (let e : length c.args.found.now.outer.items * 256 + (place * 256 + b) ≡ length outer * 256 + b = omega (arith, before.long) in e))
          c.in_ok-name.name c.insert_full.new.self.keys e.index e.keys e.within);
    }

pub overflow_cast-name : goal.overflow_cast-name
overflow_cast-name c =
    let e = c.in_ok-name.ensures in
    let m = ap length e.keys in
    let strips = c.loop-place.found.strips.keys in
    let strip = strip_of c.args.words.now c.loop-place.place in
    let f = few_more (list_any (pointwise eqb strip) strips) strips strip in
    omega (arith, e.index, e.within, c.loop-place.invariant.room)
