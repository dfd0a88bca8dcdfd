use Rattle.std.proofs.Common.{◌≡◌, ◌+◌, ◌<◌, length, vec_len, ◌∙◌, sym, subst, arith}
use Rattle.dd_builder.specs.Parts.{IsEndOf, IsShareOf, halvings_for}
use Rattle.dd_builder.proofs.Ends.{ends_last, ends_front}
use Rattle.dd_builder.proofs.SharedStakes.{opened_store, found_first, found_joined, shares_front, share_last, share_joined, halvings_first, halvings_last}
use Rattle.dd_builder.proofs.workers.join_all.Goals as goal

pub loop-next-init : goal.loop-next-init
loop-next-init c =
    let front = c.pop.new.self.items in let s = c.session_at_end-session.result.0 in let full = c.session_at_end-session.result.1 in
    let ok = c.pop.new.self.ok in let cases = c.in-Some.ensures.cases in let count = c.requires.count in
    let size : length front ≡ vec_len c.pop.new.self = omega (arith, ok) in
    let last : length front + 1 ≡ c.args.workers = omega (arith, size, cases, count) in
    let end : IsEndOf c.args.store.now c.args.workers (length front) c.in-Some.last =
    ends_last (IsEndOf c.args.store.now c.args.workers) c.args.ended.items front c.in-Some.last c.in-Some.ensures.items c.requires.ends in
    record {
      store = opened_store c.args.store.now c.args.workers (length front) c.in-Some.last s full c.session_at_end-session.ensures end;
      ends = ends_front (IsEndOf c.args.store.now c.args.workers) c.args.ended.items front c.in-Some.last c.in-Some.ensures.items c.requires.ends;
      few = omega (arith, size, last);
      found = found_first c.args.store.now c.args.workers (vec_len c.pop.new.self) c.in-Some.last s full c.session_at_end-session.ensures
          (subst (λ z. IsEndOf c.args.store.now c.args.workers z c.in-Some.last) size end) c.requires.some (omega (arith, size, last));
      whole = λ source from h. (
        shares_front source from c.args.workers c.args.ended.items front c.in-Some.last c.in-Some.ensures.items s full c.session_at_end-session.ensures h,
        share_last source from c.args.workers c.args.ended.items front c.in-Some.last c.in-Some.ensures.items s full c.session_at_end-session.ensures h
            (vec_len c.pop.new.self) (halvings_last c.args.workers (length front) (omega (arith, last)) ∙ size),
      );
    }

pub join-session-requires-clause-two : goal.join-session-requires-clause-two
join-session-requires-clause-two c =
    opened_store c.args.store.now c.args.workers (length c.pop-in-loop-next.new.self.items) c.in-Some-pop.next c.session_at_end-other.result.0
    c.session_at_end-other.result.1 c.session_at_end-other.ensures
    (ends_last (IsEndOf c.args.store.now c.args.workers) c.loop-next.ended.items c.pop-in-loop-next.new.self.items c.in-Some-pop.next
    c.in-Some-pop.ensures.items c.loop-next.invariant.ends)

pub loop-next-preserved : goal.loop-next-preserved
loop-next-preserved c =
    let front = c.pop-in-loop-next.new.self.items in let left = vec_len c.pop-in-loop-next.new.self in
    let s = c.session_at_end-other.result.0 in let full = c.session_at_end-other.result.1 in let i = c.loop-next.invariant in let j = c.join-session.ensures in
    let ok = c.pop-in-loop-next.new.self.ok in let cases = c.in-Some-pop.ensures.cases in
    let size : length front ≡ left = omega (arith, ok) in
    let next : left + 1 ≡ vec_len c.loop-next.ended = omega (arith, cases) in
    let few : left < c.args.workers = (let low = i.few in omega (arith, low, next)) in
    let end : IsEndOf c.args.store.now c.args.workers left c.in-Some-pop.next =
    subst (λ z. IsEndOf c.args.store.now c.args.workers z c.in-Some-pop.next) size
    (ends_last (IsEndOf c.args.store.now c.args.workers) c.loop-next.ended.items front c.in-Some-pop.next c.in-Some-pop.ensures.items i.ends) in
    let number : halvings_for c.args.workers (length front) ≡ left + 1 =
    halvings_first c.args.workers (length front) (let low = i.few in omega (arith, size, next, low)) ∙ omega (arith, size) in
    record {
      store = j.one.store ∙ i.store;
      ends = ends_front (IsEndOf c.args.store.now c.args.workers) c.loop-next.ended.items front c.in-Some-pop.next c.in-Some-pop.ensures.items i.ends;
      few = few;
      found = found_joined c.args.store.now c.loop-next.session s c.join-session.result c.args.workers left (vec_len c.loop-next.ended) c.in-Some-pop.next
          c.loop-next.full full j.one j.two
          (i.store ∙ sym (opened_store c.args.store.now c.args.workers left c.in-Some-pop.next s full c.session_at_end-other.ensures end)) next
          i.found c.session_at_end-other.ensures end;
      whole = λ source from h. let w = i.whole source from h in (
        shares_front source from c.args.workers c.loop-next.ended.items front c.in-Some-pop.next c.in-Some-pop.ensures.items s full
            c.session_at_end-other.ensures w.0,
        share_joined source from c.loop-next.session s c.join-session.result left
            (subst (λ z. IsShareOf source from z c.loop-next.session) (sym next) w.1)
            (share_last source from c.args.workers c.loop-next.ended.items front c.in-Some-pop.next c.in-Some-pop.ensures.items s full
            c.session_at_end-other.ensures w.0 (left + 1) number)
            j.one j.two j.stake j.made,
      );
    }

pub returns-then-full-clause-whole : goal.returns-then-full-clause-whole
returns-then-full-clause-whole c = λ source from h.
    let cases = c.in_default-pop.ensures.cases in let none : vec_len c.loop-next.ended ≡ 0 = omega (arith, cases) in
    subst (λ z. IsShareOf source from z c.loop-next.session) none (c.loop-next.invariant.whole source from h).1

pub returns-clause-whole : goal.returns-clause-whole
returns-clause-whole c = λ source from h.
    let cases = c.in_default-pop.ensures.cases in let none : vec_len c.loop-next.ended ≡ 0 = omega (arith, cases) in
    subst (λ z. IsShareOf source from z c.loop-next.session) none (c.loop-next.invariant.whole source from h).1
