-- Steps of the numbering by slots.
--     counted_step, counted_all      one more lower class is counted; all are
--     slotted_none      no pair yet
--     slotted_step      one more pair, whose number is that of the first pair like it
--     slotted_old, slotted_new      it has come before; it is new
--     slotted_lone      its lower class is that of no other pair
use Rattle.std.proofs.Common.{◌≡◌, ◌≢◌, ℕ, ◌+◌, ◌*◌, ◌<◌, ◌≤◌, inl, inr, List, length, get_or, set, take, refl, sym, ap, ◌∙◌, subst, arith}
use Rattle.std.proofs.Math.Nat.{min-eq_left, min-eq_right}
use Rattle.std.proofs.lemmas.Bool.{cases_eq, cases_lt}
use Rattle.std.proofs.lemmas.List.{get_or-set_same, get_or-set_other, length-set, length-take, take-set, take_more_set}
use Rattle.subfunction_classes.specs.Numbering.{IsFirstOccurrence}
use Rattle.pair_numbering.specs.LowerClasses.{AreLone, Counted}
use Rattle.pair_numbering.specs.Slots.{Found, IsSlot, Slotted, slot_number}
use Rattle.subfunction_classes.specs.Made.{Made}
use Rattle.subfunction_classes.proofs.Firsts.{made_none, made_first, made_again}

module _ (ps : List (ℕ × ℕ)) (counts : List ℕ) where
  pub counted_step : (j v : ℕ) → (get_or ps j (0, 0)).0 < length counts → v ≢ 0 → (get_or counts (get_or ps j (0, 0)).0 0 ≢ 0 → v ≢ 1) →
      Counted ps counts j → Counted ps (set counts (get_or ps j (0, 0)).0 v) (j + 1)
  counted_step j v inside some more h = record {
    met = λ i l e. elim (cases_eq (lower i) (lower j)) [
      | inl s ↦ some (sym (here i s) ∙ e)
      | inr ne ↦ h.met i (before i ne l) (sym (get_or-set_other counts (lower j) (lower i) v 0 ne) ∙ e)
    ];
    lone = λ i k a b e q. elim (cases_eq (lower i) (lower j)) [
      | inl s ↦ more (λ z. h.met i (omega arith) (ap (λ c. get_or counts c 0) s ∙ z)) (sym (here i s) ∙ e)
      | inr ne ↦ h.lone i k a (before k (λ s. ne (q ∙ s)) b) (sym (get_or-set_other counts (lower j) (lower i) v 0 ne) ∙ e) q
    ];
  }
    where
      lower : ℕ → ℕ
      lower i = (get_or ps i (0, 0)).0

      here : (i : ℕ) → lower i ≡ lower j → get_or (set counts (lower j) v) (lower i) 0 ≡ v
      here i s = ap (λ c. get_or (set counts (lower j) v) c 0) s ∙ get_or-set_same counts (lower j) v 0 inside

      before : (i : ℕ) → lower i ≢ lower j → i < j + 1 → i < j
      before i ne l = elim (cases_eq i j) [ inl e ↦ absurd (ne (ap lower e)) | inr n ↦ omega arith ]

  pub counted_all : (j : ℕ) → length ps ≤ j → Counted ps counts j → AreLone ps counts
  counted_all j l h = λ i k a b. h.lone i k a (omega arith)

module _ (ps : List (ℕ × ℕ)) (home : ℕ × ℕ → ℕ) where
  pub slotted_none : (counts slots : List ℕ) (keys : List (ℕ × ℕ)) (out : List ℕ) → length keys ≡ length ps → length out ≡ length ps →
      length slots ≡ 4 * length ps + 64 → ((t : ℕ) → t < length slots → get_or slots t 0 ≡ length ps) → AreLone ps counts →
      Slotted ps home counts slots keys out 0 0
  slotted_none counts slots keys out k o r f a = grind (arith, made_none)

-- one more pair, whose slot is `at`
module _ {ps : List (ℕ × ℕ)} {home : ℕ × ℕ → ℕ} {counts slots : List ℕ} {keys : List (ℕ × ℕ)} {out : List ℕ} {count j : ℕ}
    (h : Slotted ps home counts slots keys out count j) (at : ℕ) (small : j < length ps)
    (s : IsSlot slots (set keys count (get_or ps j (0, 0))) count (get_or ps j (0, 0)) (home (get_or ps j (0, 0))) at) where
  abbrev pair : ℕ → ℕ × ℕ
  pair i = get_or ps i (0, 0)

  abbrev all_keys : List (ℕ × ℕ)
  all_keys = set keys count (pair j)

  abbrev number : ℕ
  number = slot_number slots count at

  abbrev marked : List ℕ
  marked = set slots at number

  -- numbers that are given stay
  key_kept : (c : ℕ) → c < count → get_or all_keys c (0, 0) ≡ get_or keys c (0, 0)
  key_kept c l = get_or-set_other keys count c (pair j) (0, 0) (λ (e : c ≡ count). absurd (omega arith))

  out_kept : (i : ℕ) → i < j → get_or (set out j number) i 0 ≡ get_or out i 0
  out_kept i l = get_or-set_other out j i number 0 (λ (e : i ≡ j). absurd (omega arith))

  slot_here : get_or marked at 0 ≡ number
  slot_here = get_or-set_same slots at number 0 s.within

  slot_kept : (u : ℕ) → get_or slots u 0 < count → get_or marked u 0 ≡ get_or slots u 0
  slot_kept u l = grind (arith, cases_eq, number, min-eq_left, marked, slot_here, get_or-set_other)

  -- the slots before are taken, by other pairs
  taken : (u : ℕ) → home (pair j) ≤ u → u < at → get_or slots u 0 < count
  taken u l m = grind (arith, cases_lt, get_or-set_same, pair, all_keys, min-eq_right)

  other : (u : ℕ) → home (pair j) ≤ u → u < at → get_or keys (get_or slots u 0) (0, 0) ≢ pair j
  other u l m e =
      let a = taken u l m in
      s.none u l m (ap (λ c. get_or all_keys c (0, 0)) (min-eq_left (omega arith)) ∙ key_kept (get_or slots u 0) a ∙ e)

  slotted_step : (first more : ℕ) → count ≤ more → more ≤ j + 1 → number < more → IsFirstOccurrence pair j first → get_or (set out j number) first 0 ≡ number →
      Made (0, 0) ps (λ p. p) (set out j number) (take more all_keys) (j + 1) → Slotted ps home counts marked all_keys (set out j number) more (j + 1)
  slotted_step first more wide few new f n m = let wider = length-set slots at number in record {
    long_keys = length-set keys count (pair j) ∙ h.long_keys;
    room = wider ∙ h.room;
    few = few;
    made = m;
    free = λ t l. elim (cases_eq t at) [
      | inl e ↦ inl (omega (arith, ap (λ z. get_or marked z 0) e ∙ slot_here))
      | inr ne ↦
          let v = get_or-set_other slots at t number 0 ne in
          elim (h.free t (omega arith)) [ inl a ↦ inl (omega arith) | inr b ↦ inr (v ∙ b) ]
    ];
    each = λ t l a. elim (cases_eq t at) [
      | inl e ↦
          let v = ap (λ z. get_or marked z 0) e ∙ slot_here in
          (first, omega arith, n ∙ sym v, f.same ∙ sym (ap (λ c. get_or all_keys c (0, 0)) v ∙ s.here), λ k r q. f.none k r (q ∙ f.same))
      | inr ne ↦
          let v = get_or-set_other slots at t number 0 ne in
          let old : get_or slots t 0 < count = elim (h.free t (omega arith)) [ inl b ↦ b | inr b ↦ absurd (omega arith) ] in
          let q = h.each t (omega arith) old in
          let b = q.1 in
          (q.0, omega arith, out_kept q.0 b ∙ q.2 ∙ sym v, q.3 ∙ sym (ap (λ c. get_or all_keys c (0, 0)) v ∙ key_kept (get_or slots t 0) old), q.4)
    ];
    there = λ i l n. elim (cases_lt i j) [
      | inl b ↦
          let q = h.there i b n in
          let r = q.3 in
          let v = slot_kept q.0 r in
          (q.0, q.1, omega arith, omega arith, ap (λ c. get_or all_keys c (0, 0)) v ∙ key_kept (get_or slots q.0 0) r ∙ q.4, λ u d e. still u (q.5 u d e))
      | inr b ↦ subst (Found ps home marked all_keys more) (let e : j ≡ i = omega arith in e) (
        at,
        s.from,
        omega arith,
        omega (arith, slot_here),
        ap (λ c. get_or all_keys c (0, 0)) slot_here ∙ s.here,
        λ u d e. still u (taken u d e),
      )
    ];
    lone = h.lone;
  }
    where
      still : (u : ℕ) → get_or slots u 0 < count → get_or marked u 0 < more
      still u a = omega (arith, slot_kept u a)

  pub slotted_old : number ≢ count → Slotted ps home counts marked all_keys (set out j number) count (j + 1)
  slotted_old ne =
      let lt : get_or slots at 0 < count = elim (cases_lt (get_or slots at 0) count) [ inl a ↦ a | inr b ↦ absurd (ne (min-eq_right b)) ] in
      let e : number ≡ get_or slots at 0 = min-eq_left (omega arith) in
      let o = h.each at s.within lt in
      let known = o.2 ∙ sym e in
      let same = o.3 ∙ sym (key_kept (get_or slots at 0) lt) ∙ ap (λ c. get_or all_keys c (0, 0)) (sym e) ∙ s.here in
      let first : IsFirstOccurrence pair j o.0 = record { before = omega arith; same = same; none = λ k m q. o.4 k m (q ∙ sym same) } in
      slotted_step o.0 count (omega arith) (omega arith) (omega arith) first (out_kept o.0 o.1 ∙ known)
      (subst (λ us. Made (0, 0) ps (λ p. p) (set out j number) us (j + 1)) (sym (take-set keys count (pair j)))
      (subst (λ z. Made (0, 0) ps (λ p. p) (set out j z) (take count keys) (j + 1)) known
      (made_again (0, 0) ps (λ p. p) out (take count keys) j o.0 small first o.1 h.made)))

  pub slotted_new : get_or counts (pair j).0 0 ≢ 1 → number ≡ count → Slotted ps home counts marked all_keys (set out j number) (count + 1) (j + 1)
  slotted_new other_too e =
      let absent : (i : ℕ) → i < j → pair i ≢ pair j = λ i l q.
      let f = h.there i l (λ z. other_too (sym (ap (λ (p : ℕ × ℕ). get_or counts p.0 0) q) ∙ z)) in
      let g = ap home q in
      elim (cases_lt f.0 at) [
        | inl c ↦ other f.0 (omega arith) c (f.4 ∙ q)
        | inr c ↦ elim (cases_eq f.0 at) [
          | inl d ↦ absurd (omega (arith, ap (λ z. get_or slots z 0) d))
          | inr d ↦ absurd (omega arith)
        ]
      ] in
      let first : IsFirstOccurrence pair j j = record { before = omega arith; same = refl; none = absent } in
      let known : length (take count keys) ≡ number = omega (arith, length-take count keys) in
      slotted_step j (count + 1) (omega arith) (omega arith) (omega arith) first (get_or-set_same out j number 0 (omega arith))
      (subst (λ z. z) (λ t. Made (0, 0) ps (λ p. p) (set out j (known t)) (sym (take_more_set keys count (pair j) (omega arith)) t) (j + 1))
      (made_first (0, 0) ps (λ p. p) out (take count keys) j (pair j) small first refl h.made))

-- one more pair, of a lower class that no other has
pub slotted_lone : {ps : List (ℕ × ℕ)} {home : ℕ × ℕ → ℕ} {counts slots : List ℕ} {keys : List (ℕ × ℕ)} {out : List ℕ} {count j : ℕ} →
    Slotted ps home counts slots keys out count j → j < length ps → get_or counts (get_or ps j (0, 0)).0 0 ≡ 1 →
    Slotted ps home counts slots (set keys count (get_or ps j (0, 0))) (set out j count) (count + 1) (j + 1)
slotted_lone {ps = ps} {home = home} {counts = counts} {slots = slots} {keys = keys} {out = out} {count = count} {j = j} h small alone =
    let kept : (c : ℕ) → c < count → get_or (set keys count (get_or ps j (0, 0))) c (0, 0) ≡ get_or keys c (0, 0) =
    λ c l. get_or-set_other keys count c (get_or ps j (0, 0)) (0, 0) (λ (e : c ≡ count). absurd (omega arith)) in
    let first : IsFirstOccurrence (λ i. get_or ps i (0, 0)) j j = record {
      before = omega arith;
      same = refl;
      none = λ i l q. let same = ap (λ (p : ℕ × ℕ). p.0) q in h.lone i j l small (ap (λ c. get_or counts c 0) same ∙ alone) same;
    } in
    let known : length (take count keys) ≡ count = omega (arith, length-take count keys) in
    let few = h.few in
    record {
      long_keys = length-set keys count (get_or ps j (0, 0)) ∙ h.long_keys;
      room = h.room;
      few = omega arith;
      made = subst (λ z. z)
          (λ t. Made (0, 0) ps (λ p. p) (set out j (known t)) (sym (take_more_set keys count (get_or ps j (0, 0)) (omega arith)) t) (j + 1))
          (made_first (0, 0) ps (λ p. p) out (take count keys) j (get_or ps j (0, 0)) small first refl h.made);
      free = λ t l. elim (h.free t l) [ inl a ↦ inl (omega arith) | inr b ↦ inr b ];
      each = λ t l a.
          let old : get_or slots t 0 < count = elim (h.free t l) [ inl b ↦ b | inr b ↦ absurd (omega arith) ] in
          let q = h.each t l old in
          let b = q.1 in
          (q.0, omega arith, get_or-set_other out j q.0 count 0 (λ (e : q.0 ≡ j). absurd (omega arith)) ∙ q.2, q.3 ∙ sym (kept (get_or slots t 0) old), q.4);
      there = λ i l n. elim (cases_lt i j) [
        | inl b ↦ let q = h.there i b n in
            (q.0, q.1, q.2, omega (arith, q.3), kept (get_or slots q.0 0) q.3 ∙ q.4, λ u d e. omega (arith, q.5 u d e))
        | inr b ↦ absurd (n (ap (λ k. get_or counts (get_or ps k (0, 0)).0 0) (let e : i ≡ j = omega arith in e) ∙ alone))
      ];
      lone = h.lone;
    }
