-- Rows that are kept one after another.
--     IsKept w numbers kept number      what is kept of so many rows
--     kept_row, kept_again, kept_all      of one more, which is kept, or has come before; of all
--     rows_are      how many rows there are, as the code has them
use Rattle.std.proofs.Common.{◌≡◌, ℕ, suc, ◌+◌, ◌*◌, ◌/◌, ◌<◌, ◌≤◌, List, ◌++◌, length, take, drop, sym, ap, ◌∙◌, subst, arith}
use Rattle.std.proofs.lemmas.Nat.{div-mul-add}
use Rattle.std.proofs.lemmas.List.{append_assoc, append-nil, length-append, length-take, length-drop, take-append-drop, drop_all, drop-drop}
use Rattle.edge_walks.specs.Rows.{AreWholeRows, IsShortened}
use Rattle.edge_walks.proofs.Rows.{rows_append, rows_minus}

pub record IsKept (w : ℕ) (numbers kept : List ℕ) (number : ℕ) : Type 0 where
  pub steps : ℕ
  pub short : IsShortened w steps numbers (kept ++ drop (number * w) numbers)
  pub rows : AreWholeRows w kept
  pub few : length kept ≤ number * w

module _ (w : ℕ) (numbers : List ℕ) where
  module _ (kept row : List ℕ) (number : ℕ) (is : row ≡ take w (drop (number * w) numbers)) (inside : (number + 1) * w ≤ length numbers)
      (h : IsKept w numbers kept number) where
    long : length row ≡ w
    long =
        let l = length-take w (drop (number * w) numbers) in
        let d = length-drop (number * w) numbers in
        let e = ap length is in
        let m : (number + 1) * w ≡ number * w + w = grind arith in
        omega arith

    row_rows : AreWholeRows w row
    row_rows = (1, (let l = long in omega arith))

    parts : drop (number * w) numbers ≡ row ++ drop ((number + 1) * w) numbers
    parts =
        let m : number * w + w ≡ (number + 1) * w = grind arith in
        sym (take-append-drop w (drop (number * w) numbers))
        ∙ (λ i. sym is i ++ (drop-drop w (number * w) numbers ∙ ap (λ k. drop k numbers) m) i)

    pub kept_row : IsKept w numbers (kept ++ row) (number + 1)
    kept_row = record {
      steps = h.steps;
      short = subst (IsShortened w h.steps numbers) (ap (λ us. kept ++ us) parts ∙ sym (append_assoc kept row (drop ((number + 1) * w) numbers))) h.short;
      rows = rows_append w kept row h.rows row_rows;
      few = (let l = length-append kept row in let r = long in let f = h.few in let m : (number + 1) * w ≡ number * w + w = grind arith in omega arith);
    }

    pub kept_again : (front between : List ℕ) (rows : ℕ) → kept ≡ front ++ (row ++ between) → length front ≡ rows * length row →
        IsKept w numbers kept (number + 1)
    kept_again front between count e l = record {
      steps = suc h.steps;
      short = (
        kept ++ drop (number * w) numbers,
        h.short,
        record {
          front = front;
          part = row;
          between = between;
          rest = drop ((number + 1) * w) numbers;
          long_is = ap (λ us. kept ++ us) parts ∙ ap (λ us. us ++ (row ++ drop ((number + 1) * w) numbers)) e;
          short_is = ap (λ us. us ++ drop ((number + 1) * w) numbers) e;
          front_rows = (count, l ∙ ap (λ k. count * k) long);
          part_rows = row_rows;
          between_rows = left;
        },
      );
      rows = h.rows;
      few = (let f = h.few in let m : (number + 1) * w ≡ number * w + w = grind arith in omega arith);
    }
      where
        left : AreWholeRows w between
        left =
            let p = h.rows.1 in
            let q = ap length e ∙ length-append front (row ++ between) in
            let r = length-append row between in
            let n = long in
            let f = l ∙ ap (λ k. count * k) long in
            let m : (count + 1) * w ≡ count * w + w = grind arith in
            rows_minus h.rows.0 (count + 1) (length between) w (omega arith)

  pub kept_all : (kept : List ℕ) (number : ℕ) → length numbers ≤ number * w → IsKept w numbers kept number → (steps : ℕ) × IsShortened w steps numbers kept
  kept_all kept number all h =
      (h.steps, subst (IsShortened w h.steps numbers) (ap (λ us. kept ++ us) (drop_all (number * w) numbers all) ∙ append-nil kept) h.short)

-- as the code has them
pub rows_are : (w rows len : ℕ) → 0 < w → len ≡ rows * w → len / w ≡ rows
rows_are w rows len some e = ap (λ k. k / w) (let s : len ≡ rows * w + 0 = omega arith in s) ∙ div-mul-add rows w 0 some
