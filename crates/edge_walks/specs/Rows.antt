-- Lists in rows, of which some that have come before are left out.
--     AreWholeRows w xs      whole rows of w
--     IsWithout w long short      `short` is `long` without a part, of whole rows, that has come before
--     IsShortened w steps long short      `short` is `long` without `steps` such parts, one after the other
use Rattle.std.specs.Prelude.{◌≡◌, ℕ, zero, suc, ◌*◌, ◌++◌, List, length}

-- whole rows
abbrev pub AreWholeRows : {K : Type 0} → ℕ → List K → Type 0
AreWholeRows w xs = (rows : ℕ) × (length xs ≡ rows * w)

-- one part is left out
pub record IsWithout {K : Type 0} (w : ℕ) (long short : List K) : Type 0 where
  pub front : List K
  pub part : List K
  pub between : List K
  pub rest : List K
  pub long_is : long ≡ (front ++ (part ++ between)) ++ (part ++ rest)
  pub short_is : short ≡ (front ++ (part ++ between)) ++ rest
  pub front_rows : AreWholeRows w front
  pub part_rows : AreWholeRows w part
  pub between_rows : AreWholeRows w between

-- `steps` parts are left out, one after the other
abbrev pub IsShortened : {K : Type 0} → ℕ → ℕ → List K → List K → Type 0
IsShortened w zero long short = long ≡ short
IsShortened {K} w (suc steps) long short = (mid : List K) × IsShortened w steps long mid × IsWithout w mid short
