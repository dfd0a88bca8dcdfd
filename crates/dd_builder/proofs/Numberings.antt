-- Counting: numbers that are given once each, and pairs of numbers.
use Rattle.std.proofs.Common.{◌≡◌, ◌≢◌, ℕ, zero, suc, ◌+◌, ◌-◌, ◌*◌, ◌<◌, ◌≤◌, cond, nat_lt, if◌then◌else◌, sym, ap, ◌∙◌, ⊎_elim, arith, eqb, eq-eqb, ne_eqb, add-mul, one-mul, mul-le-mul_right, lt-ltb, le-ltb}
use mathlib.Core.Logic.{dite}
use native.Mathlib.Decide.{ℕ_discrete}
use Rattle.std.proofs.lemmas.Bool.{cases_lt, cases_order}
use Rattle.node_words.proofs.Meaning.{choose_n, refuse_n}

-- v in place of b
abbrev moved : ℕ → ℕ → ℕ → ℕ
moved b v x = cond (eqb x b) v x

moved_same : (b v x : ℕ) → x ≡ b → moved b v x ≡ v
moved_same b v x e = ap (λ c. cond c v x) (eq-eqb x b e)

moved_other : (b v x : ℕ) → x ≢ b → moved b v x ≡ x
moved_other b v x ne = ap (λ c. cond c v x) (ne_eqb x b ne)

-- so many things are no more than the numbers that they have, one each
pub at_most : (a b : ℕ) (f : (p : ℕ) → p < a → ℕ) → ((p : ℕ) (low : p < a) → f p low < b) →
    ((p q : ℕ) (low : p < a) (low' : q < a) → f p low ≡ f q low' → p ≡ q) → a ≤ b
at_most zero b f small once = omega arith
at_most (suc a) zero f small once = absurd (let s = small a (omega arith) in omega (arith, s))
at_most (suc a) (suc b) f small once = let h = at_most a b g g_small g_once in omega (arith, h)
  where
    more : (p : ℕ) → p < a → p < suc a
    more p low = omega (arith, low)

    at_last : a < suc a
    at_last = omega arith

    last : ℕ
    last = f a at_last

    g : (p : ℕ) → p < a → ℕ
    g p low = moved b last (f p (more p low))

    not_last : (p : ℕ) (low : p < a) → f p (more p low) ≢ last
    not_last p low e = let same = once p a (more p low) at_last e in omega (arith, same, low)

    g_small : (p : ℕ) (low : p < a) → g p low < b
    g_small p low = dite (ℕ_discrete (f p (more p low)) b)
        (λ is. let e = moved_same b last (f p (more p low)) is in let s = small a at_last in
        let ne : last ≢ b = (λ q. not_last p low (is ∙ sym q)) in omega (arith, e, s, ne))
        (λ ne. let e = moved_other b last (f p (more p low)) ne in let s = small p (more p low) in omega (arith, e, s, ne))

    g_once : (p q : ℕ) (low : p < a) (low' : q < a) → g p low ≡ g q low' → p ≡ q
    g_once p q low low' e = dite (ℕ_discrete (f p (more p low)) b)
        (λ is. dite (ℕ_discrete (f q (more q low')) b)
        (λ is'. once p q (more p low) (more q low') (is ∙ sym is'))
        (λ ne'. absurd (not_last q low' (sym (moved_other b last (f q (more q low')) ne') ∙ (sym e ∙ moved_same b last (f p (more p low)) is)))))
        (λ ne. dite (ℕ_discrete (f q (more q low')) b)
        (λ is'. absurd (not_last p low (sym (moved_other b last (f p (more p low)) ne) ∙ (e ∙ moved_same b last (f q (more q low')) is'))))
        (λ ne'. once p q (more p low) (more q low')
        (sym (moved_other b last (f p (more p low)) ne) ∙ (e ∙ moved_other b last (f q (more q low')) ne'))))

-- a rest below d, and what it is the rest of
rest_bigger : (d a c a' c' : ℕ) → c < d → a < a' → a * d + c ≢ a' * d + c'
rest_bigger d a c a' c' small less e = grind (arith, mul-le-mul_right, add-mul, one-mul)

pub parts_same : (d a c a' c' : ℕ) → c < d → c' < d → a * d + c ≡ a' * d + c' → (a ≡ a') × (c ≡ c')
parts_same d a c a' c' small small' e = ⊎_elim
    (λ (same : a ≡ a'). (same, (let m = ap (λ z. z * d) same in omega (arith, m, e))))
    (⊎_elim
    (λ (less : a < a'). absurd (rest_bigger d a c a' c' small less e))
    (λ (less : a' < a). absurd (rest_bigger d a' c' a c small' less (sym e))))
    (cases_order a a')

pub parts_small : (d m a c : ℕ) → a < m → c < d → a * d + c < m * d
parts_small d m a c less small = grind (arith, mul-le-mul_right, add-mul, one-mul)

-- the number of a pair of unequal numbers below q
abbrev pub second : ℕ → ℕ → ℕ
second a b = if nat_lt b a then b else b - 1

abbrev pub pair : ℕ → ℕ → ℕ → ℕ
pair q a b = a * (q - 1) + second a b

second_low : (a b : ℕ) → b < a → second a b ≡ b
second_low a b less = choose_n (nat_lt b a) b (b - 1) (lt-ltb b a less)

second_high : (a b : ℕ) → a ≤ b → second a b ≡ b - 1
second_high a b more = refuse_n (nat_lt b a) b (b - 1) (le-ltb b a more)

second_small : (q a b : ℕ) → a < q → b < q → a ≢ b → second a b < q - 1
second_small q a b la lb ne = grind (arith, ⊎_elim, second_low, second_high, cases_lt)

second_same : (a b b' : ℕ) → a ≢ b → a ≢ b' → second a b ≡ second a b' → b ≡ b'
second_same a b b' ne ne' e = grind (arith, ⊎_elim, second_low, second_high, cases_lt)

pub pair_small : (q a b : ℕ) → a < q → b < q → a ≢ b → pair q a b < q * (q - 1)
pair_small q a b la lb ne = parts_small (q - 1) q a (second a b) la (second_small q a b la lb ne)

pub pair_same : (q a b a' b' : ℕ) → a < q → b < q → a ≢ b → a' < q → b' < q → a' ≢ b' → pair q a b ≡ pair q a' b' → (a ≡ a') × (b ≡ b')
pair_same q a b a' b' la lb ne la' lb' ne' e =
    let s = parts_same (q - 1) a (second a b) a' (second a' b') (second_small q a b la lb ne) (second_small q a' b' la' lb' ne') e in
    (s.0, second_same a b b' ne (λ z. ne' (sym s.0 ∙ z)) (s.1 ∙ ap (λ z. second z b') (sym s.0)))
