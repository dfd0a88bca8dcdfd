-- Texts with one space between each two pieces.
use Rattle.std.proofs.Common.{◌≡◌, ℕ, List, [], ◌∷◌, ◌++◌, map, sym, ap, ◌∙◌, decimal, codes, append_assoc, append-nil}
use Rattle.std.specs.List.{flat_map, join_with_byte, sum}
use Rattle.certificate.specs.Values.{each_spaced}
use Rattle.certificate.proofs.WrittenLines.{after}
use Rattle.report_texts.specs.Texts.{each_name_spaced, sizes_lines}
use Rattle.outcomes.specs.Texts.{name_of, names_in, numbers, counts_lines, order_lines}

-- pieces of text, one a number
module _ (f : ℕ → List ℕ) where
  -- each piece after a space
  abbrev behind : List ℕ → List ℕ
  behind ns = flat_map (λ n. 32 ∷ f n) ns

  -- the first piece, and the others after spaces
  pub parts : (n : ℕ) (ns : List ℕ) → join_with_byte 32 (map f (n ∷ ns)) ≡ f n ++ behind ns
  parts n [] = sym (append-nil (f n))
  parts n (m ∷ ns) = ap (λ r. f n ++ (32 ∷ r)) (parts m ns)

  -- a list after a text: the first piece, then the others after spaces
  pub joined : (old first_in all_in : List ℕ) (n : ℕ) (rest ns : List ℕ) → ns ≡ n ∷ rest → first_in ≡ old ++ f n →
      all_in ≡ first_in ++ behind rest → all_in ≡ old ++ join_with_byte 32 (map f ns)
  joined old first_in all_in n rest ns e a b =
      b ∙ ap (λ s. s ++ behind rest) a ∙ append_assoc old (f n) (behind rest) ∙ ap (λ s. old ++ s) (sym (parts n rest))
      ∙ ap (λ l. old ++ join_with_byte 32 (map f l)) (sym e)

-- a list of numbers after a text: the first one, then the others after spaces
pub pushed : (old first_in all_in : List ℕ) (f : ℕ) (rest ns : List ℕ) → ns ≡ f ∷ rest → first_in ≡ old ++ decimal f →
    all_in ≡ first_in ++ each_spaced rest → all_in ≡ old ++ numbers ns
pushed = joined decimal

-- names after a text: the first one, then the others after spaces
pub names_pushed : (names : List (List ℕ)) (old first_in all_in : List ℕ) (x : ℕ) (rest xs : List ℕ) → xs ≡ x ∷ rest →
    first_in ≡ old ++ name_of names x → all_in ≡ first_in ++ each_name_spaced names rest → all_in ≡ old ++ names_in names xs
names_pushed names = joined (name_of names)

-- the two lines of level counts, piece by piece
pub counts_pushed : (s₀ s₁ s₂ s₃ : List ℕ) (levels : List ℕ) → s₁ ≡ s₀ ++ codes "levels: " → s₂ ≡ s₁ ++ numbers levels →
    s₃ ≡ s₂ ++ (codes "\nnodes: " ++ (decimal (sum levels) ++ codes "\n")) → s₃ ≡ s₀ ++ counts_lines levels
unfolding counts_lines
counts_pushed s₀ s₁ s₂ s₃ levels a b c =
    after s₀ s₂ s₃ (codes "levels: " ++ numbers levels) (codes "\nnodes: " ++ (decimal (sum levels) ++ codes "\n"))
    (after s₀ s₁ s₂ (codes "levels: ") (numbers levels) a b) c
    ∙ ap (λ r. s₀ ++ r) (append_assoc (codes "levels: ") (numbers levels) (codes "\nnodes: " ++ (decimal (sum levels) ++ codes "\n"))
    ∙ ap (λ r. codes "levels: " ++ r) (sym (append_assoc (numbers levels) (10 ∷ []) (codes "nodes: " ++ (decimal (sum levels) ++ codes "\n")))))

-- the two lines of an order and its names, piece by piece
pub order_pushed : (s₀ s₁ s₂ s₃ s₄ s₅ : List ℕ) (names : List (List ℕ)) (order : List ℕ) → s₁ ≡ s₀ ++ codes "order: " →
    s₂ ≡ s₁ ++ numbers order → s₃ ≡ s₂ ++ codes "\nnames: "
    → s₄ ≡ s₃ ++ names_in names order → s₅ ≡ s₄ ++ (10 ∷ []) → s₅ ≡ s₀ ++ order_lines names order
unfolding order_lines
order_pushed s₀ s₁ s₂ s₃ s₄ s₅ names order a b c d e =
    let one = after s₀ s₁ s₂ (codes "order: ") (numbers order) a b in
    let two = after s₂ s₃ s₄ (codes "\nnames: ") (names_in names order) c d in
    let three = after s₂ s₄ s₅ (codes "\nnames: " ++ names_in names order) (10 ∷ []) two e in
    after s₀ s₂ s₅ (codes "order: " ++ numbers order) ((codes "\nnames: " ++ names_in names order) ++ (10 ∷ [])) one three
    ∙ ap (λ r. s₀ ++ r) (append_assoc (codes "order: ") (numbers order) ((codes "\nnames: " ++ names_in names order) ++ (10 ∷ []))
    ∙ ap (λ r. codes "order: " ++ r) (ap (λ r. numbers order ++ r) (append_assoc (codes "\nnames: ") (names_in names order) (10 ∷ []))
    ∙ sym (append_assoc (numbers order) (10 ∷ []) (codes "names: " ++ (names_in names order ++ (10 ∷ []))))))

-- the three lines of sizes, piece by piece
pub sizes_pushed : (s₀ s₁ s₂ s₃ : List ℕ) (order : List ℕ) (size file_size : ℕ) → s₁ ≡ s₀ ++ codes "sifted order: " → s₂ ≡ s₁ ++ numbers order
    → s₃ ≡ s₂ ++ (codes "\nsifted nodes: " ++ (decimal size ++ (codes "\nfile order nodes: " ++ (decimal file_size ++ codes "\n")))) →
    s₃ ≡ s₀ ++ sizes_lines order size file_size
unfolding sizes_lines
sizes_pushed s₀ s₁ s₂ s₃ order size file_size a b c =
    let last = codes "file order nodes: " ++ (decimal file_size ++ codes "\n") in
    let rest = codes "\nsifted nodes: " ++ (decimal size ++ (codes "\nfile order nodes: " ++ (decimal file_size ++ codes "\n"))) in
    after s₀ s₂ s₃ (codes "sifted order: " ++ numbers order) rest (after s₀ s₁ s₂ (codes "sifted order: ") (numbers order) a b) c
    ∙ ap (λ r. s₀ ++ r) (append_assoc (codes "sifted order: ") (numbers order) rest
    ∙ ap (λ r. codes "sifted order: " ++ r) (ap (λ r. numbers order ++ (codes "\nsifted nodes: " ++ r)) (sym (append_assoc (decimal size) (10 ∷ []) last))
    ∙ sym (append_assoc (numbers order ++ (10 ∷ [])) (codes "sifted nodes: " ++ (decimal size ++ (10 ∷ []))) last
    ∙ append_assoc (numbers order) (10 ∷ []) ((codes "sifted nodes: " ++ (decimal size ++ (10 ∷ []))) ++ last))))
