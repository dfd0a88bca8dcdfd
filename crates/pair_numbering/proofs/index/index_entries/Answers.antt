use Rattle.std.proofs.Common.{◌+◌, ◌^◌, ◌<◌, length, take, ◌/◌, [], ◌∷◌, ◌++◌, map, get_or, sym, ap, subst, ◌∙◌, arith, if◌then◌else◌}
use Rattle.std.specs.List.{list_any, position_or_len}
use Rattle.definitions.specs.Widths.{same_pair}
use Rattle.definitions.proofs.Widths.ClassPairs.{pair_decides}
use Rattle.subfunction_classes.specs.Numbering.{rank}
use Rattle.subfunction_classes.specs.Places as places
use Rattle.subfunction_classes.proofs.RankLaws.{Numbers, numbers_none}
use Rattle.subfunction_classes.proofs.Index.{number_is, seen_more, done_more, number_small, all_done, length-pairs}
use Rattle.subfunction_classes.proofs.NumberedKeys.{numbers_told}
use Rattle.std.proofs.lemmas.List.{take_all}
use Rattle.pair_numbering.proofs.index.index_entries.Goals as goal

pub loop-j-init : goal.loop-j-init
loop-j-init c = record {
  seen = subst (λ ks. Numbers same_pair pair_decides ks []) (sym c.in_ok-seen.ensures.empty) (numbers_none same_pair pair_decides);
  done = c.in_ok-numbers.ensures.items;
}

pub overflow_cast-number : goal.overflow_cast-number
overflow_cast-number c =
    let cs = c.args.entries.now.numbers in
    let n = c.in_ok-number.ensures.index ∙ ap (λ k. position_or_len (same_pair k) c.loop-j.seen.keys) c.pair.ensures in
    let l = number_small cs (2 ^ c.args.entries.now.rank) c.loop-j.j (omega arith) c.loop-j.seen.keys c.loop-j.invariant.seen in
    omega arith

pub loop-j-preserved : goal.loop-j-preserved
loop-j-preserved c =
    let cs = c.args.entries.now.numbers in
    let small : c.loop-j.j < length cs / 2 = omega arith in
    let n = c.in_ok-number.ensures.index ∙ ap (λ k. position_or_len (same_pair k) c.loop-j.seen.keys) c.pair.ensures in
    let k = c.in_ok-number.ensures.keys
    ∙ ap (λ k. if list_any (same_pair k) c.loop-j.seen.keys then c.loop-j.seen.keys else c.loop-j.seen.keys ++ k ∷ []) c.pair.ensures in
    record {
      seen = subst (λ ks. Numbers same_pair pair_decides ks (take (c.loop-j.j + 1) (places.pairs cs (2 ^ c.args.entries.now.rank)))) (sym k)
          (seen_more cs (2 ^ c.args.entries.now.rank) c.loop-j.j small c.loop-j.seen.keys c.loop-j.invariant.seen);
      done = c.in_ok-push.ensures.items
          ∙ done_more cs (2 ^ c.args.entries.now.rank) c.loop-j.j small (rank same_pair (places.pairs cs (2 ^ c.args.entries.now.rank)))
          c.loop-j.numbers.items c.in_ok-number.number c.loop-j.invariant.done
          (n ∙ number_is cs (2 ^ c.args.entries.now.rank) c.loop-j.j small c.loop-j.seen.keys c.loop-j.invariant.seen);
    }

pub returns : goal.returns
returns c =
    let cs = c.args.entries.now.numbers in
    let step = 2 ^ c.args.entries.now.rank in
    let ps = places.pairs cs step in
    let keys = c.loop-j.seen.keys in
    let all = subst (Numbers same_pair pair_decides keys) (take_all c.loop-j.j ps (omega (arith, length-pairs cs step))) c.loop-j.invariant.seen in
    let numbers = c.loop-j.invariant.done ∙ all_done cs step c.loop-j.j (omega arith) in
    let pairs = c.in_ok-pairs.ensures.items_if_clones_equal (λ x y e i. (e.0 i, e.1 i)) ∙ c.as_slice.ensures.keys in
    record {
      numbered_are = numbers;
      many = ap length pairs ∙ all.many;
      labels = (λ t. map (λ k. get_or (pairs t) k (0, 0)) (numbers t)) ∙ numbers_told keys ps all;
    }
