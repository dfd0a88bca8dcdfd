-- Lines of a count and of as many entries, which rise by a key.
use Rattle.std.proofs.Common.{◌≡◌, ℕ, ◌+◌, ◌-◌, ◌<◌, zero, suc, refl, ◌∙◌, Bool, true, List, [], ◌∷◌, length, map, get_or, Option, None, Some, arith}
use Rattle.std.specs.List.{AllByRecursion, range_with_len}
use Rattle.certificate.specs.Faults.{entry_fault, rises, word_at, LineTest}
use Rattle.certificate.proofs.RisingKeys.{IsAbove, RiseFrom}
use Rattle.certificate.proofs.LineTests.{Pass}

module _ (is_entry : List ℕ → List ℕ → Bool) (key : List ℕ → List ℕ → ℕ) where
  -- lines that are entries, whose keys rise from one that may have come before
  abbrev pub AreEntries : Option ℕ → List (List (List ℕ)) → Type 0
  AreEntries before [] = Unit {0}
  AreEntries before (e ∷ es) =
      (a : List ℕ) × (b : List ℕ) × (e ≡ a ∷ b ∷ []) × (is_entry a b ≡ true) × IsAbove before (key a b) × AreEntries (Some (key a b)) es

  -- what stands before line k of a text, of whose entries the first one is line first
  abbrev pub Before : List (List (List ℕ)) → ℕ → ℕ → Option ℕ → Type 0
  Before ws first k None = k ≡ first
  Before ws first k (Some j) = (first < k) × (key (word_at ws (k - 1) 0) (word_at ws (k - 1) 1) ≡ j)

  -- lines that stand in a text from line k on
  abbrev pub StandAt : List (List (List ℕ)) → ℕ → List (List (List ℕ)) → Type 0
  StandAt ws k [] = Unit {0}
  StandAt ws k (e ∷ es) = (get_or ws k [] ≡ e) × StandAt ws (k + 1) es

  above_after : (ws : List (List (List ℕ))) (first k : ℕ) (before : Option ℕ) (a b : List ℕ) → Before ws first k before →
      rises key ws first k a b ≡ true → IsAbove before (key a b)
  above_after ws first k None a b e stated = tt
  above_after ws first k (Some j) a b (later, e) stated = grind arith

  pub next_before : (ws : List (List (List ℕ))) (first k : ℕ) (before : Option ℕ) (a b : List ℕ) → Before ws first k before →
      get_or ws k [] ≡ a ∷ b ∷ [] → Before ws first (k + 1) (Some (key a b))
  next_before ws first k None a b e is = (omega arith, let place : (k + 1) - 1 ≡ k = omega arith in rw place (rw is refl))
  next_before ws first k (Some j) a b (later, e) is = (omega arith, let place : (k + 1) - 1 ≡ k = omega arith in rw place (rw is refl))

  -- what is asked of the lines from k on
  abbrev pub entry_judges : List (List (List ℕ)) → ℕ → ℕ → ℕ → List LineTest
  entry_judges ws first k count = map (λ j. entry_fault is_entry (rises key ws first j)) (range_with_len k count)

  pub entries_pass : (ws : List (List (List ℕ))) (first k : ℕ) (before : Option ℕ) (es : List (List (List ℕ))) → Before ws first k before →
      StandAt ws k es → AreEntries before es →
      Pass (entry_judges ws first k (length es)) es
  entries_pass ws first k before [] from stand are = refl
  entries_pass ws first k before (e ∷ es) from (here, stand) (a, b, is, entry, above, more) =
      grind (arith, entries_pass ws first (k + 1) (Some (key a b)) es (next_before ws first k before a b from (here ∙ is)) stand more)

  pub entry_is : (is_above : List ℕ → List ℕ → Bool) (e : List (List ℕ)) → entry_fault is_entry is_above e ≡ None →
      (a : List ℕ) × (b : List ℕ) × (e ≡ a ∷ b ∷ []) × (is_entry a b ≡ true) × (is_above a b ≡ true)
  entry_is is_above e h = grind arith

  pub entries_are : (ws : List (List (List ℕ))) (first k : ℕ) (before : Option ℕ) (es : List (List (List ℕ))) → Before ws first k before → StandAt ws k es →
      (count : ℕ) → Pass (entry_judges ws first k count) es → AreEntries before es × (length es ≡ count)
  entries_are ws first k before [] from stand zero pass = (tt, refl)
  entries_are ws first k before [] from stand (suc count) pass = elim pass [ ]
  entries_are ws first k before (e ∷ es) from stand zero pass = absurd (cc pass)
  entries_are ws first k before (e ∷ es) from (here, stand) (suc count) (passes, pass) =
      let is = entry_is (rises key ws first k) e passes in
      let a = is.0 in let b = is.1 in let same = is.2 in
      search (above_after, entries_are ws first (k + 1) (Some (key a b)) es (next_before ws first k before a b from (here ∙ same)) stand count pass)

-- a kind of entries: how they are written and read
pub record IsKind {E : Type 0} (write : E → List (List ℕ)) (read : List (List ℕ) → E) (key_of : E → ℕ) (Is : E → Type 0)
    (is_entry : List ℕ → List ℕ → Bool) (key : List ℕ → List ℕ → ℕ) : Type 0 where
  pub written : (e : E) → Is e → (a : List ℕ) × (b : List ℕ) × (write e ≡ a ∷ b ∷ []) × (is_entry a b ≡ true) × (key a b ≡ key_of e)
  pub back : (e : E) → Is e → read (write e) ≡ e
  pub stated : (a b : List ℕ) → is_entry a b ≡ true → (write (read (a ∷ b ∷ [])) ≡ a ∷ b ∷ []) × Is (read (a ∷ b ∷ [])) × (key_of (read (a ∷ b ∷ [])) ≡ key a b)

module _ {E : Type 0} (write : E → List (List ℕ)) (read : List (List ℕ) → E) (key_of : E → ℕ) (Is : E → Type 0)
    (is_entry : List ℕ → List ℕ → Bool) (key : List ℕ → List ℕ → ℕ)
    (kind : IsKind write read key_of Is is_entry key) where
  -- entries that are written
  pub write_entries : (before : Option ℕ) (es : List E) → AllByRecursion Is es → RiseFrom key_of before es → AreEntries is_entry key before (map write es)
  write_entries before [] all rise = tt
  write_entries before (e ∷ es) (here, all) (above, rise) = grind (arith, write_entries (Some (key_of e)) es all rise)

  pub read_back : (es : List E) → AllByRecursion Is es → map read (map write es) ≡ es
  read_back [] all = refl
  read_back (e ∷ es) (here, all) = rw (kind.back e here) (rw (read_back es all) refl)

  pub read_entries : (before : Option ℕ) (ws : List (List (List ℕ))) → AreEntries is_entry key before ws →
      (map write (map read ws) ≡ ws) × AllByRecursion Is (map read ws) × RiseFrom key_of before (map read ws)
  read_entries before [] are = (refl, tt, tt)
  read_entries before (e ∷ ws) (a, b, same, entry, above, more) = grind (arith, read_entries (Some (key a b)) ws more)
