-- What is wanted of sets with one low byte.
--     none_wanted      nothing is wanted of any set
--     request_kept      some more members of a set
--     more_wanted, kept_wanted      they are wanted, and all that was wanted before
--     request_written, kept_written, more_written      the same where the place is read before it is written
--     all_members, some_members      all members of a set are wanted; those among some variables
--     wanted_members      what is wanted of one set are its members
use Rattle.std.proofs.Common.{◌≡◌, ℕ, ◌+◌, ◌*◌, ◌-◌, ◌/◌, ◌%◌, ◌^◌, ◌<◌, ◌≤◌, inl, inr, IsTrue, List, replicate, length, slice_index, get_or, set, get_or-set_same, get_or-set_other, sym, ap, ◌∙◌, subst, arith, bit_and, bit_or, pow_mono, pow-add}
use Rattle.std.specs.Int.{bit_at}
use Rattle.std.proofs.Math.Nat.{mod-eq_of_lt}
use Rattle.std.proofs.lemmas.Bool.{cases_eq, cases_lt}
use Rattle.std.proofs.lemmas.Grind.{get_or_default_zero}
use Rattle.std.proofs.lemmas.List.{length-set, length-replicate}
use Rattle.std.proofs.lemmas.Nat.Bits.{bit_at_and, bit_at_or, bit_at-lt, bit_at-zero, bit_at_above}
use Rattle.definitions.specs.Orders.{has, members}
use Rattle.definitions.proofs.Precedence.MaskLaws.{member_from}
use Rattle.compaction.specs.Requests.{AreMembersOf, IsRequest}
use Rattle.compaction.proofs.FilledRows.{zeros_at}

-- so many high bytes
many_highs : (n h : ℕ) → 8 ≤ n → h < 2 ^ (n - 8) → h * 256 + 256 ≤ 2 ^ n
many_highs n h many lt =
    let e : 2 ^ n ≡ 2 ^ (n - 8) * 256 = ap (λ k. 2 ^ k) (let s : n ≡ n - 8 + 8 = omega arith in s) ∙ pow-add 2 (n - 8) 8 in
    omega arith

few_highs : (n : ℕ) → n < 8 → 2 ^ (n - 8) ≡ 1
few_highs n few = let e : n - 8 ≡ 0 = omega arith in ap (λ k. 2 ^ k) e

-- a request that asks for nothing, of as many high bytes as there are
none_of : (n low : ℕ) (needed : List ℕ) → n ≤ 16 → low < 256 → low < 2 ^ n → length needed ≡ 2 ^ (n - 8) →
    ((h : ℕ) → slice_index needed h ≡ 0) → IsRequest n low needed
none_of n low needed few small own l zeros = record {
  byte = small;
  own = own;
  few = (let p : 2 ^ (n - 8) ≤ 2 ^ 8 = pow_mono {j = 8} (omega arith) in omega (arith, p, l));
  sets = λ h lt. elim (cases_lt n 8) [
    | inl below ↦ let z = few_highs n below in let q : h ≡ 0 = omega (arith, z, l, lt) in omega (arith, q, own)
    | inr above ↦ let m = many_highs n h above (omega (arith, l, lt)) in omega (arith, m, small)
  ];
  all = λ set lt byte. elim (cases_lt n 8) [
    | inl below ↦
        let z = few_highs n below in
        let p : 2 ^ n ≤ 2 ^ 7 = pow_mono {j = 7} (omega arith) in
        omega (arith, z, p, l, lt)
    | inr above ↦
        let e : 2 ^ n ≡ 2 ^ (n - 8) * 256 = ap (λ k. 2 ^ k) (let s : n ≡ n - 8 + 8 = omega arith in s) ∙ pow-add 2 (n - 8) 8 in
        omega (arith, e, l, lt)
  ];
  members = λ h lt x one. absurd (let z = sym one ∙ ap (λ w. bit_at w x) (zeros h) ∙ bit_at-zero x in omega arith);
}

pub none_wanted : (n low k : ℕ) (needed : List ℕ) → n ≤ 16 → low < 256 → low < 2 ^ n → k ≡ n - 8 →
    needed ≡ replicate (1 * 2 ^ k % 18446744073709551616) 0 → IsRequest n low needed
none_wanted n low k needed few small own e is =
    let p : 2 ^ (n - 8) ≤ 2 ^ 8 = pow_mono {j = 8} (omega arith) in
    let q : 2 ^ k ≡ 2 ^ (n - 8) = ap (λ i. 2 ^ i) e in
    let count : 1 * 2 ^ k % 18446744073709551616 ≡ 2 ^ (n - 8) = mod-eq_of_lt (omega (arith, p, q)) ∙ (let o : 1 * 2 ^ k ≡ 2 ^ k = omega arith in o) ∙ q in
    none_of n low needed few small own (ap (λ (xs : List ℕ). length xs) is ∙ length-replicate (1 * 2 ^ k % 18446744073709551616) 0 ∙ count)
    (λ h. ap (λ (xs : List ℕ). slice_index xs h) is ∙ zeros_at (1 * 2 ^ k % 18446744073709551616) h)

-- a bit of what is wanted of a set, after some more
kept_wanted : (needed : List ℕ) (j more h x : ℕ) → j < length needed → bit_at (slice_index needed h) x ≡ 1 →
    bit_at (slice_index (set needed j (bit_or (slice_index needed j) more)) h) x ≡ 1
kept_wanted needed j more h x lt one = elim (cases_eq h j) [
  | inl e ↦
      let o = ap (λ k. bit_at (slice_index needed k) x) (sym e) ∙ one in
      let b = bit_at-lt more x in
      ap (λ k. bit_at (slice_index (set needed j (bit_or (slice_index needed j) more)) k) x) e
      ∙ ap (λ w. bit_at w x) (get_or-set_same needed j (bit_or (slice_index needed j) more) 0 lt)
      ∙ bit_at_or (slice_index needed j) more x
      ∙ omega arith
  | inr ne ↦ ap (λ w. bit_at w x) (get_or-set_other needed j h (bit_or (slice_index needed j) more) 0 ne) ∙ one
]

more_wanted : (needed : List ℕ) (j more x : ℕ) → j < length needed → bit_at more x ≡ 1 →
    bit_at (slice_index (set needed j (bit_or (slice_index needed j) more)) j) x ≡ 1
more_wanted needed j more x lt one =
    let b = bit_at-lt (slice_index needed j) x in
    ap (λ w. bit_at w x) (get_or-set_same needed j (bit_or (slice_index needed j) more) 0 lt) ∙ bit_at_or (slice_index needed j) more x ∙ omega arith

request_kept : (n low : ℕ) (needed : List ℕ) (t more : ℕ) → t < 2 ^ n → t % 256 ≡ low → AreMembersOf n t more → IsRequest n low needed →
    IsRequest n low (set needed (t / 256) (bit_or (slice_index needed (t / 256)) more))
request_kept n low needed t more small byte inside request =
    let j = t / 256 in
    let lt = request.all t small byte in
    let l = length-set needed j (bit_or (slice_index needed j) more) in
    record {
      byte = request.byte;
      own = request.own;
      few = (let f = request.few in omega arith);
      sets = λ h k. request.sets h (omega arith);
      all = λ s k b. (let a = request.all s k b in omega arith);
      members = λ h k x one. elim (cases_eq h j) [
        | inl e ↦
            let at =
            sym (bit_at_or (slice_index needed j) more x)
            ∙ ap (λ w. bit_at w x) (sym (get_or-set_same needed j (bit_or (slice_index needed j) more) 0 lt))
            ∙ ap (λ i. bit_at (slice_index (set needed j (bit_or (slice_index needed j) more)) i) x) (sym e)
            ∙ one in
            let whole : j * 256 + low ≡ t = omega arith in
            subst (λ i. IsTrue (has (members n (i * 256 + low)) x)) (sym e)
            (elim (cases_eq (bit_at more x) 1) [
              | inl new ↦ subst (λ s. IsTrue (has (members n s) x)) (sym whole) (inside x new)
              | inr old ↦ request.members j lt x (let b = bit_at-lt more x in let c = bit_at-lt (slice_index needed j) x in omega arith)
            ])
        | inr ne ↦
            request.members h (omega arith) x
            (ap (λ w. bit_at w x) (sym (get_or-set_other needed j h (bit_or (slice_index needed j) more) 0 ne)) ∙ one)
      ];
    }

-- what is read of the place before it is written
module _ (needed : List ℕ) (j i v more : ℕ) (e : j ≡ i) (lt : i < length needed) (is : v ≡ get_or needed j v) where
  read : v ≡ slice_index needed i
  read = is ∙ ap (λ k. get_or needed k v) e ∙ get_or_default_zero needed i v lt

  written : set needed i (bit_or (slice_index needed i) more) ≡ set needed j (bit_or v more)
  written = ap (λ w. set needed i (bit_or w more)) (sym read) ∙ ap (λ k. set needed k (bit_or v more)) (sym e)

  pub request_written : (n low t : ℕ) → i ≡ t / 256 → t < 2 ^ n → t % 256 ≡ low → AreMembersOf n t more → IsRequest n low needed →
      IsRequest n low (set needed j (bit_or v more))
  request_written n low t place small byte inside request =
      subst (IsRequest n low) (ap (λ k. set needed k (bit_or (slice_index needed k) more)) (sym place) ∙ written)
      (request_kept n low needed t more small byte inside request)

  pub kept_written : (h x : ℕ) → bit_at (slice_index needed h) x ≡ 1 → bit_at (slice_index (set needed j (bit_or v more)) h) x ≡ 1
  kept_written h x one =
      subst (λ (xs : List ℕ). bit_at (slice_index xs h) x ≡ 1) written (kept_wanted needed i more h x lt one)

  pub more_written : (x : ℕ) → bit_at more x ≡ 1 → bit_at (slice_index (set needed j (bit_or v more)) i) x ≡ 1
  more_written x one = subst (λ (xs : List ℕ). bit_at (slice_index xs i) x ≡ 1) written (more_wanted needed i more x lt one)

-- a member is a variable
pub all_members : (n t : ℕ) → t < 2 ^ n → AreMembersOf n t t
all_members n t small x one = elim (cases_lt x n) [
  | inl lt ↦ member_from n t x lt one
  | inr ge ↦ absurd (let z = bit_at_above t n x small ge in omega arith)
]

pub some_members : (n t variables : ℕ) → t < 2 ^ n → AreMembersOf n t (bit_and variables t)
some_members n t variables small x one =
    let w = bit_at_and variables t x in
    let b = bit_at-lt t x in
    all_members n t small x (omega arith)

-- what is wanted of one set are its members
pub wanted_members : (n low : ℕ) (needed : List ℕ) (t j wanted : ℕ) → j ≡ t / 256 → t % 256 ≡ low → j < length needed →
    wanted ≡ get_or needed j wanted → IsRequest n low needed → AreMembersOf n t wanted
wanted_members n low needed t j wanted place byte lt is request x one =
    let whole : j * 256 + low ≡ t = omega arith in
    subst (λ s. IsTrue (has (members n s) x)) whole
    (request.members j lt x (ap (λ w. bit_at w x) (sym (is ∙ get_or_default_zero needed j wanted lt)) ∙ one))
