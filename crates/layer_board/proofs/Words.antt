-- The words of a board, and one of them replaced.
use Rattle.std.proofs.Common.{◌≡◌, ◌≢◌, ℕ, zero, suc, ◌+◌, ◌-◌, ◌*◌, ◌/◌, ◌%◌, ◌<◌, Bool, cond, List, [], ◌∷◌, map, replicate, set, get_or, length, Some, None, sym, refl, ap, ◌∙◌, arith, add-one, eq-eqb, ne_eqb}
use mathlib.Core.Option.{some, some-injective, some-ne-none}
use lib.ListN.{get_elem?}
use lib.Seq.{map-set}
use Rattle.layer_board.specs.Invariant.{counter_of, cell_words, cell_in, word_of}

pub counter_set : (ws : List ℕ) (n : ℕ) → 0 < length ws → counter_of (set ws 0 n) ≡ n
counter_set [] n h = absurd (omega arith)
counter_set (x ∷ xs) n h = refl

pub cells_set_counter : (ws : List ℕ) (n : ℕ) → cell_words (set ws 0 n) ≡ cell_words ws
cells_set_counter [] n = refl
cells_set_counter (x ∷ xs) n = refl

pub counter_read : (ws : List ℕ) → get_or ws 0 0 ≡ counter_of ws
counter_read [] = refl
counter_read (x ∷ xs) = refl

pub counter_set_cell : (ws : List ℕ) (p n : ℕ) → counter_of (set ws (suc p) n) ≡ counter_of ws
counter_set_cell [] p n = refl
counter_set_cell (x ∷ xs) p n = refl

pub cells_set : (ws : List ℕ) (p n : ℕ) → cell_words (set ws (suc p) n) ≡ set (cell_words ws) p n
cells_set [] p n = refl
cells_set (x ∷ xs) p n = refl

pub cell_read : (ws : List ℕ) (p : ℕ) → get_or ws (suc p) 0 ≡ get_or (cell_words ws) p 0
cell_read [] p = refl
cell_read (x ∷ xs) p = refl

pub cells_length : (ws : List ℕ) (c : ℕ) → length ws ≡ c + 1 → length (cell_words ws) ≡ c
cells_length [] c e = absurd (omega arith)
cells_length (x ∷ xs) c e = omega arith

found_get_or : (xs : List ℕ) (p n : ℕ) → get_elem? xs p ≡ some n → n ≡ get_or xs p 0
found_get_or [] p n e = absurd (some-ne-none n (sym e))
found_get_or (x ∷ xs) zero n e = sym (some-injective x n e)
found_get_or (x ∷ xs) (suc p) n e = found_get_or xs p n e

pub cell_found : (ws : List ℕ) (p n : ℕ) → get_elem? ws (p + 1) ≡ some n → n ≡ get_or (cell_words ws) p 0
cell_found ws p n e = found_get_or ws (suc p) n (ap (λ (z : ℕ). get_elem? ws z) (sym (add-one p)) ∙ e) ∙ cell_read ws p

-- a word that isn't 0 stands for a cell
pub full_word : (n : ℕ) → n ≢ 0 → cell_in n ≡ Some (n / 32 - 1, n % 32)
full_word n some_n = ap (λ (b : Bool). cond b None (Some (n / 32 - 1, n % 32))) (ne_eqb n 0 some_n)

pub empty_word : (n : ℕ) → n ≡ 0 → cell_in n ≡ None
empty_word n none = ap (λ (b : Bool). cond b None (Some (n / 32 - 1, n % 32))) (eq-eqb n 0 none)

-- the word of a cell stands for that cell
pub word_back : (c : ℕ × ℕ) → c.1 < 32 → cell_in (word_of c) ≡ Some c
word_back c small =
    let upper : ((c.0 + 1) * 32 + c.1) / 32 - 1 ≡ c.0 = omega arith in let lower : ((c.0 + 1) * 32 + c.1) % 32 ≡ c.1 = omega arith in
    full_word (word_of c) (λ e. omega arith) ∙ λ i. Some (upper i, lower i)

-- the cells that words stand for, at a place
pub cell_shown : (ns : List ℕ) (p : ℕ) → get_or (map cell_in ns) p None ≡ cell_in (get_or ns p 0)
cell_shown [] p = refl
cell_shown (n ∷ ns) zero = refl
cell_shown (n ∷ ns) (suc p) = cell_shown ns p

pub cells_shown_set : (ns : List ℕ) (p n : ℕ) → map cell_in (set ns p n) ≡ set (map cell_in ns) p (cell_in n)
cells_shown_set ns p n = map-set cell_in ns p n

pub no_words : (n : ℕ) → map cell_in (replicate n 0) ≡ replicate n None
no_words zero = refl
no_words (suc n) = ap (λ l. None ∷ l) (no_words n)

-- a word that isn't 0 shows a cell
pub shown_empty : (n : ℕ) → n ≢ 0 → cell_in n ≢ None
shown_empty n some_n e = grind (arith, full_word)
