-- The certificate that lines of words say, and what is asked of its lines.
use Rattle.std.proofs.Common.{◌≡◌, ℕ, ◌+◌, ◌-◌, ◌^◌, ◌≤◌, ◌<◌, refl, ◌∙◌, ap, Bool, true, List, [], ◌∷◌, ◌++◌, length, map, take, drop, get_or, decimal, None, arith, lit<}
use Rattle.std.specs.List.{AllByRecursion, AllPairs}
use Rattle.std.proofs.lemmas.List.{length-map, length-append}
use Rattle.std.proofs.Math.Seq.{take-append_seam, drop-append-add, get_or-append_seam}
use mathlib.Core.List.{append_assoc}
use Rattle.definitions.specs.Pairs.{Pair}
use Rattle.definitions.specs.Certificates.{Cell}
use Rattle.certificate.specs.Spelling.{most_nodes, hex4, field, section, pair_words, cell_words, pair_key, IsPair, IsCell}
use Rattle.definitions.specs.Texts.{number_of}
use Rattle.certificate.specs.Faults.{number_said, is_pair, is_cell, pair_key_of, cell_key_of, section_judges}
use Rattle.certificate.specs.Decoded.{read_pair, read_cell, mask_key, section_said}
use Rattle.certificate.proofs.WordLines.{decimal_back, hex_back}
use Rattle.certificate.proofs.LineTests.{Pass, both_are, decimal_passes, decimal_is, mask_passes, mask_is, field_passes, field_is, one_number}
use Rattle.certificate.proofs.RisingKeys.{rise_pairs, pairs_rise}
use Rattle.certificate.proofs.Sections.{StandAt, entries_pass, entries_are, IsKind, write_entries, read_entries, read_back}
use Rattle.definitions.proofs.Bits.Masks.{power_small}

pub pair_kind : (n : ℕ) → 1 ≤ n → n ≤ 16 → IsKind pair_words read_pair pair_key (IsPair n) (is_pair n) pair_key_of
pair_kind n some small = record { written = written; back = back; stated = stated } where
  written : (p : Pair) → IsPair n p → (a : List ℕ) × (b : List ℕ) × (pair_words p ≡ a ∷ b ∷ []) × (is_pair n a b ≡ true) × (pair_key_of a b ≡ pair_key p)
  written p (above, below) = (
    decimal p.0,
    decimal p.1,
    refl,
    rw (decimal_passes 0 (n - 1) p.0 (omega arith) (omega arith, omega arith)) (decimal_passes 0 (n - 1) p.1 (omega arith) (omega arith, omega arith)),
    rw (decimal_back p.0 (omega arith)) (rw (decimal_back p.1 (omega arith)) refl),
  )

  back : (p : Pair) → IsPair n p → read_pair (pair_words p) ≡ p
  back (a, b) (above, below) = rw (decimal_back a (omega arith)) (rw (decimal_back b (omega arith)) refl)

  stated : (a b : List ℕ) → is_pair n a b ≡ true →
      (pair_words (read_pair (a ∷ b ∷ [])) ≡ a ∷ b ∷ []) × IsPair n (read_pair (a ∷ b ∷ []))
      × (pair_key (read_pair (a ∷ b ∷ [])) ≡ pair_key_of a b)
  stated a b e = grind (arith, decimal_is)

pub cell_kind : (n : ℕ) → n ≤ 16 → IsKind cell_words read_cell mask_key (IsCell n) (is_cell n) cell_key_of
cell_kind n small = record { written = written; back = back; stated = stated } where
  written : (c : Cell) → IsCell n c → (a : List ℕ) × (b : List ℕ) × (cell_words c ≡ a ∷ b ∷ []) × (is_cell n a b ≡ true) × (cell_key_of a b ≡ mask_key c)
  written c is =
      let mask = is.mask in let cost = is.cost in let top = power_small n small in (
        hex4 c.mask,
        decimal c.cost,
        refl,
        rw (mask_passes n c.mask small mask top) (decimal_passes 0 most_nodes c.cost (lit< tt) (omega arith, cost)),
        hex_back c.mask (omega arith),
      )

  back : (c : Cell) → IsCell n c → read_cell (cell_words c) ≡ c
  back c is = let mask = is.mask in let cost = is.cost in let top = power_small n small in
      rw (hex_back c.mask (omega arith)) (rw (decimal_back c.cost (omega arith)) refl)

  stated : (a b : List ℕ) → is_cell n a b ≡ true →
      (cell_words (read_cell (a ∷ b ∷ [])) ≡ a ∷ b ∷ []) × IsCell n (read_cell (a ∷ b ∷ []))
      × (mask_key (read_cell (a ∷ b ∷ [])) ≡ cell_key_of a b)
  stated a b e = let t = both_are _ _ e in let first = mask_is n a t.0 in grind (arith, decimal_is)

-- lines that stand between others
pub stand_behind : (is_entry : List ℕ → List ℕ → Bool) (key : List ℕ → List ℕ → ℕ) (pre es post : List (List (List ℕ))) →
    StandAt is_entry key (pre ++ (es ++ post)) (length pre) es
stand_behind is_entry key pre [] post = tt
stand_behind is_entry key pre (e ∷ es) post =
    grind (arith, length-append, append_assoc, get_or-append_seam, stand_behind is_entry key (pre ++ e ∷ []) es post)

module _ {E : Type 0} (write : E → List (List ℕ)) (read : List (List ℕ) → E) (key_of : E → ℕ) (Is : E → Type 0)
    (is_entry : List ℕ → List ℕ → Bool) (key : List ℕ → List ℕ → ℕ)
    (kind : IsKind write read key_of Is is_entry key) (name : List ℕ) (most : ℕ) (fits : most < 2 ^ 64) where
  -- the number of entries that stands in a section's first line
  count_said : (pre post entries : List (List (List ℕ))) → length entries < 2 ^ 64 →
      number_said (pre ++ (section name entries ++ post)) (length pre) ≡ length entries
  count_said pre post entries few = search (get_or-append_seam, decimal_back)

  -- a section that is spelled passes
  pub section_passes : (pre post : List (List (List ℕ))) (es : List E) → length es ≤ most → AllByRecursion Is es → AllPairs (λ a b. key_of a < key_of b) es →
      Pass (section_judges name most is_entry key (pre ++ (section name (map write es) ++ post)) (length pre)) (section name (map write es))
  section_passes pre post es few all rising =
      let ws = pre ++ (section name (map write es) ++ post) in
      let long : length (map write es) ≡ length es = length-map es write in
      let stand = stand_behind is_entry key pre (section name (map write es)) post in
      let count = count_said pre post (map write es) (omega arith) in
      let head = field_passes name 1 0 most (length (map write es) ∷ []) refl fits ((omega arith, omega arith), tt) in
      let are = write_entries write read key_of Is is_entry key kind None es all (pairs_rise key_of es rising) in
      (head, rw count (entries_pass is_entry key ws (length pre + 1) (length pre + 1) None (map write es) refl stand.1 are))

  -- and its entries are read back
  pub section_back : (pre post : List (List (List ℕ))) (es : List E) → length es ≤ most → AllByRecursion Is es →
      section_said read (pre ++ (section name (map write es) ++ post)) (length pre) ≡ es
  section_back pre post es few all = grind (arith, count_said, length-map, drop-append-add, take-append_seam, read_back)

  -- a section that passes is spelled
  pub record IsSection (ws vs : List (List (List ℕ))) (at : ℕ) : Type 0 where
    pub lines_are : section name (map write (section_said read ws at)) ≡ vs
    pub few : length (section_said read ws at) ≤ most
    pub all : AllByRecursion Is (section_said read ws at)
    pub rise : AllPairs (λ a b. key_of a < key_of b) (section_said read ws at)

  pub section_is : (pre post vs : List (List (List ℕ))) →
      Pass (section_judges name most is_entry key (pre ++ (vs ++ post)) (length pre)) vs → IsSection (pre ++ (vs ++ post)) vs (length pre)
  section_is pre post [] pass = elim pass [ ]
  section_is pre post (head ∷ es) (passes, pass) =
      let ws = pre ++ ((head ∷ es) ++ post) in
      let stand = stand_behind is_entry key pre (head ∷ es) post in
      let line = one_number name 0 most head (field_is name 1 0 most head passes) in
      let count : number_said ws (length pre) ≡ number_of (get_or head 1 []) = ap (λ (w : List (List ℕ)). number_of (get_or w 1 [])) stand.0 in
      let are = entries_are is_entry key ws (length pre + 1) (length pre + 1) None es refl stand.1 (number_said ws (length pre)) pass in
      let behind : drop (length pre + 1) ws ≡ es ++ post = drop-append-add pre ((head ∷ es) ++ post) 1 in
      let taken : take (number_said ws (length pre)) (drop (length pre + 1) ws) ≡ es =
      grind (arith, take-append_seam) in
      let said = read_entries write read key_of Is is_entry key kind None es are.0 in
      let many : length es ≡ number_of (get_or head 1 []) = are.1 ∙ count in
      let first : field name (length es ∷ []) ≡ head = rw many line.0 in
      let bound = line.1.1 in
      let is : section_said read ws (length pre) ≡ map read es = ap (map read) taken in
      record {
        lines_are = rw is (rw said.0 (rw first refl));
        few = rw is (omega (arith, length-map es read));
        all = rw is said.1;
        rise = rw is (rise_pairs key_of None (map read es) said.2);
      }
