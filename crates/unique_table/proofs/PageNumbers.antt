-- The numbers of places, by pages.
--     numbers_long, number_is      how many there are, and the number of a place
--     in_places, part_in, number_in      a place's part and its place on a page are there
--     numbers_set      one number is set, on a page of its own
--     numbers_none      all numbers are 0
--     read_as      what a read gives, with another default
use Rattle.std.proofs.Common.{◌≡◌, ◌≢◌, ℕ, ◌+◌, ◌*◌, ◌/◌, ◌%◌, ◌<◌, ◌≤◌, List, length, get_or, set, replicate, inl, inr, sym, ap, ◌∙◌, arith}
use Rattle.std.proofs.lemmas.Bool.{cases_eq, cases_lt}
use Rattle.std.proofs.lemmas.List.{ext_get_or, get_or-set_same, get_or-set_other, get_or-replicate, get_or_default, get_or_past, length-replicate, length-set}
use Rattle.std.proofs.lemmas.List.FromFn.{get_or-map-range_with_len, length-map-range_with_len}
use Rattle.unique_table.specs.Pages.{number_at, numbers_of, ArePages}

pub numbers_long : (places : ℕ) (pages numbers : List ℕ) → length (numbers_of places pages numbers) ≡ places
unfolding numbers_of
numbers_long places pages numbers = length-map-range_with_len (number_at pages numbers) 0 places

pub number_is : (places : ℕ) (pages numbers : List ℕ) (p : ℕ) → p < places → get_or (numbers_of places pages numbers) p 0 ≡ number_at pages numbers p
unfolding numbers_of
number_is places pages numbers p h = get_or-map-range_with_len (number_at pages numbers) 0 places p p 0 h (omega arith)

pub in_places : (places : ℕ) (pages numbers all : List ℕ) (p : ℕ) → numbers_of places pages numbers ≡ all → p < length all → p < places
in_places places pages numbers all p e h = grind (arith, numbers_long)

pub part_in : (places parts p : ℕ) → p < places → places ≤ parts * 64 → p / 64 < parts
part_in places parts p h few = omega arith

pub number_in : (pages numbers : List ℕ) (p : ℕ) → ArePages pages numbers → p / 64 < length pages →
    get_or pages (p / 64) 0 * 64 + p % 64 < length numbers
number_in pages numbers p are h = omega arith

module _ (places : ℕ) (pages numbers pages' numbers' : List ℕ) (place page number : ℕ) (are : ArePages pages' numbers')
    (few : places ≤ length pages' * 64) (inside : place < places) (own : page ≡ get_or pages' (place / 64) 0) (used : page ≢ 0)
    (same : (p : ℕ) → p < places → number_at pages' numbers' p ≡ number_at pages numbers p) where
  -- another place has its number elsewhere
  elsewhere : (p : ℕ) → p < places → p ≢ place → get_or pages' (p / 64) 0 * 64 + p % 64 ≢ page * 64 + place % 64
  elsewhere p h ne e = grind (arith, part_in)

  pub numbers_set : numbers_of places pages' (set numbers' (page * 64 + place % 64) number) ≡ set (numbers_of places pages numbers) place number
  numbers_set =
      let at = page * 64 + place % 64 in
      let new = set numbers' at number in
      let long = numbers_long places pages' new in
      let old = numbers_long places pages numbers in
      let held = length-set (numbers_of places pages numbers) place number in
      ext_get_or 0 (numbers_of places pages' new) (set (numbers_of places pages numbers) place number) (omega arith)
      (λ p h. number_is places pages' new p (omega arith)
      ∙ elim (cases_eq p place) [
        | inl e ↦
            let it : get_or pages' (p / 64) 0 * 64 + p % 64 ≡ at = ap (λ q. get_or pages' (q / 64) 0 * 64 + q % 64) e
            ∙ ap (λ k. k * 64 + place % 64) (sym own) in
            ap (λ i. get_or new i 0) it ∙ get_or-set_same numbers' at number 0 (omega arith)
            ∙ sym (ap (λ q. get_or (set (numbers_of places pages numbers) place number) q 0) e
            ∙ get_or-set_same (numbers_of places pages numbers) place number 0 (omega arith))
        | inr ne ↦
            let within : p < places = omega arith in
            get_or-set_other numbers' at (get_or pages' (p / 64) 0 * 64 + p % 64) number 0 (elsewhere p within ne)
            ∙ same p within ∙ sym (number_is places pages numbers p within)
            ∙ sym (get_or-set_other (numbers_of places pages numbers) place p number 0 ne)
      ])

pub numbers_none : (places : ℕ) (pages : List ℕ) → numbers_of places pages (replicate 64 0) ≡ replicate places 0
numbers_none places pages =
    let long = numbers_long places pages (replicate 64 0) in
    let zeros : List ℕ = replicate places 0 in
    let same : length zeros ≡ places = length-replicate places 0 in
    ext_get_or 0 (numbers_of places pages (replicate 64 0)) (replicate places 0) (omega arith)
    (λ p h. number_is places pages (replicate 64 0) p (omega arith) ∙ none (get_or pages (p / 64) 0 * 64 + p % 64)
    ∙ sym (get_or-replicate places p 0 0 (omega arith)))
  where
    page : List ℕ
    page = replicate 64 0

    none : (i : ℕ) → get_or page i 0 ≡ 0
    none i = elim (cases_lt i 64) [
      | inl lt ↦ get_or-replicate 64 i 0 0 lt
      | inr ge ↦ get_or_past page i 0 ge
    ]

-- what is read is the element or the default
pub read_as : (xs : List ℕ) (i x : ℕ) → x ≡ get_or xs i 0 → x ≡ get_or xs i x
read_as xs i x e = grind (arith, cases_lt, get_or_default, get_or_past)
