-- What making a node rests on.
use Rattle.std.proofs.Common.{◌≡◌, ◌≢◌, ℕ, ◌+◌, ◌-◌, ◌^◌, ◌<◌, ◌≤◌, ◌⊎◌, Bool, MatchBool, nat_lt, List, get_or, sym, ap, ◌∙◌, subst, ⊎_elim, arith, ne_eqb, lt-ltb, le-ltb}
use Rattle.node_words.specs.Nodes.{IsBelow, IsNode, Grows, level_of, low_of, high_of, node_word, probe, home, IsFullFor, IsIdOf}
use Rattle.node_words.proofs.Meaning.{le_or_lt, choose_n, refuse_n}

pub word_level : (level low high : ℕ) → level < 16 → low < 2 ^ 20 → high < 2 ^ 20 → level_of (node_word level low high) ≡ level
word_level level low high a b c = omega arith

pub word_low : (level low high : ℕ) → level < 16 → low < 2 ^ 20 → high < 2 ^ 20 → low_of (node_word level low high) ≡ low
word_low level low high a b c = omega arith

pub word_high : (level low high : ℕ) → level < 16 → low < 2 ^ 20 → high < 2 ^ 20 → high_of (node_word level low high) ≡ high
word_high level low high a b c = omega arith

pub word_node : (levels level low high : ℕ) (ws : List ℕ) → levels ≤ 16 → level < levels → low < 2 ^ 20 → high < 2 ^ 20 → low ≢ high →
    IsBelow ws level low → IsBelow ws level high → IsNode levels ws (node_word level low high)
word_node levels level low high ws most small a b ne below_low below_high =
    let l = word_level level low high (omega arith) a b in let x = word_low level low high (omega arith) a b in
    let y = word_high level low high (omega arith) a b in record {
      word = (λ i. node_word (sym l i) (sym x i) (sym y i));
      level = omega arith;
      unequal = λ e. ne (sym x ∙ (e ∙ y));
      low = subst (λ (z : ℕ × ℕ). IsBelow ws z.0 z.1) (λ i. (sym l i, sym x i)) below_low;
      high = subst (λ (z : ℕ × ℕ). IsBelow ws z.0 z.1) (λ i. (sym l i, sym y i)) below_high;
    }

-- the place after those that were passed
pub one_more : (xs ys : List ℕ) (places w passed place : ℕ) → Grows xs ys →
    ((j : ℕ) → j < passed → (get_or xs (probe places w j) 0 ≢ 0) × (get_or xs (probe places w j) 0 ≢ w)) → place ≡ probe places w passed
    → (get_or ys place 0 ≢ 0) × (get_or ys place 0 ≢ w) → (j : ℕ) → j < passed + 1 → (get_or ys (probe places w j) 0 ≢ 0) × (get_or ys (probe places w j) 0 ≢ w)
one_more xs ys places w passed place g before here taken j lt = ⊎_elim
    (λ (less : j < passed). let t = before j less in let same = g (probe places w j) t.0 in ((λ e. t.0 (sym same ∙ e)), (λ e. t.1 (sym same ∙ e))))
    (λ (is : j ≡ passed). subst (λ (z : ℕ). (get_or ys z 0 ≢ 0) × (get_or ys z 0 ≢ w)) (here ∙ ap (λ (k : ℕ). probe places w k) (sym is)) taken)
    (less_or_is j passed lt)
  where
    less_or_is : (a b : ℕ) → a < b + 1 → (a < b) ⊎ (a ≡ b)
    less_or_is a b h = grind arith

pub probe_low : (places w k : ℕ) → home places w + k < places → probe places w k ≡ home places w + k
probe_low places w k h = choose_n (nat_lt (home places w + k) places) (home places w + k) (home places w + k - places) (lt-ltb (home places w + k) places h)

pub probe_high : (places w k : ℕ) → places ≤ home places w + k → probe places w k ≡ home places w + k - places
probe_high places w k h = refuse_n (nat_lt (home places w + k) places) (home places w + k) (home places w + k - places) (le-ltb (home places w + k) places h)

-- a probe comes to each place
pub onto : (places w p : ℕ) → home places w < places → p < places → (k : ℕ) × (k < places) × (probe places w k ≡ p)
onto places w p inside small = ⊎_elim
    (λ (up : home places w ≤ p). let k : ℕ = p - home places w in (k, omega arith, (let e = probe_low places w k (omega arith) in omega arith)))
    (λ (down : p < home places w). let k : ℕ = places - home places w + p in (k, omega arith, (let e = probe_high places w k (omega arith) in omega arith)))
    (le_or_lt (home places w) p)

pub full_for : (seen : List ℕ) (places w passed : ℕ) → home places w < places → places ≤ passed
    → ((j : ℕ) → j < passed → (get_or seen (probe places w j) 0 ≢ 0) × (get_or seen (probe places w j) 0 ≢ w)) → IsFullFor seen places w
full_for seen places w passed inside all before p small = let k = onto places w p inside small in
    subst (λ (z : ℕ). (get_or seen z 0 ≢ 0) × (get_or seen z 0 ≢ w)) k.2 (before k.0 (let e = k.1 in omega arith))

pub makes : (seen : List ℕ) (level low high place : ℕ) → low ≢ high → get_or seen place 0 ≡ node_word level low high → IsIdOf seen level low high (place + 2)
makes seen level low high place ne is =
    subst (λ (b : Bool). MatchBool b (place + 2 ≡ low) ((2 ≤ place + 2) × (get_or seen (place + 2 - 2) 0 ≡ node_word level low high)))
    (sym (ne_eqb low high ne))
    (let back : place + 2 - 2 ≡ place = omega arith in (omega arith, subst (λ (z : ℕ). get_or seen z 0 ≡ node_word level low high) (sym back) is))
