-- A device with a count of its failed calls, as a contract sees it.
use Rattle.std.specs.Prelude.{ℕ, refl}
use Rattle.std.specs.Coded.{Coded, code_by, coded×, coded_ℕ}

-- the device, and how many of its calls have failed
pub record Counted (T : Type 0) : Type 0 where
  pub device : T
  pub failed : ℕ

module _ {T : Type 0} where
  -- a counted device is stored as the pair of the device and the count
  abbrev pub counted_code : Coded T → Coded (Counted T)
  counted_code device = code_by (T × ℕ) (coded× device coded_ℕ) (λ c. (c.device, c.failed))
      (λ p. record { device = p.0; failed = p.1 }) (λ _. refl)
