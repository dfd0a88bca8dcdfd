-- How calls end.
--     status_of r      the number of a refusal
--     RefusesShape shape r      memory was wanting, of arguments that have their shape, or they haven't
--     RefusesOrder shape order r      the same, or what is given is no order
--     RefusesPairs shape keepable r      the same, or no order keeps the pairs
--     IsPlainStatus s, IsOrderStatus s      the numbers of calls without an order and with one
--     ShowsShape shape s      the number shows whether the arguments have their shape
--     ShowsOrder order s, ShowsPairs keepable s      it shows whether what is given is an order; whether some order keeps the pairs
use Rattle.std.specs.Prelude.{ℕ, ◌≡◌, ◌⊎◌, ◌↔◌}
use Rattle.minorder_c.specs.declared.status.Refusal.{Refusal}
use Rattle.minorder_c.specs.declared.status.Refusal.TheVariants.{Shape, Certificate, OutOfMemory, Order, Pairs}

-- the number of a refusal; 0 is a call's that isn't refused
abbrev pub status_of : Refusal → ℕ
status_of Shape = 2
status_of Certificate = 3
status_of OutOfMemory = 4
status_of Order = 5
status_of Pairs = 8

-- arguments without their shape are refused for it; others only if memory is wanting
abbrev pub RefusesShape : Type 0 → Refusal → Type 0
RefusesShape shape Shape = shape → ⊥
RefusesShape shape OutOfMemory = shape
RefusesShape shape _ = ⊥

-- the numbers of the calls that take no order and no pairs
abbrev pub IsPlainStatus : ℕ → Type 0
IsPlainStatus s = (s ≡ 0) ⊎ ((s ≡ 2) ⊎ (s ≡ 4))

-- arguments without their shape, or with their shape and no order, are refused for it; others only if memory is wanting
abbrev pub RefusesOrder : Type 0 → Type 0 → Refusal → Type 0
RefusesOrder shape order Shape = shape → ⊥
RefusesOrder shape order Order = shape × (order → ⊥)
RefusesOrder shape order OutOfMemory = shape
RefusesOrder shape order _ = ⊥

-- arguments without their shape, or with their shape and pairs that no order keeps, are refused for it; others only if memory is wanting
abbrev pub RefusesPairs : Type 0 → Type 0 → Refusal → Type 0
RefusesPairs shape keepable Shape = shape → ⊥
RefusesPairs shape keepable Pairs = shape × (keepable → ⊥)
RefusesPairs shape keepable OutOfMemory = shape
RefusesPairs shape keepable _ = ⊥

-- 2 is the number of the calls whose arguments haven't their shape
abbrev pub ShowsShape : Type 0 → ℕ → Type 0
ShowsShape shape s = (s ≡ 2) ↔ (shape → ⊥)

-- 5 is the number of calls that are given no order, 0 and 7 are those of calls that are given one
abbrev pub ShowsOrder : Type 0 → ℕ → Type 0
ShowsOrder order s = (s ≡ 5 → order → ⊥) × ((s ≡ 0) ⊎ (s ≡ 7) → order)

-- 8 is the number of calls with pairs that no order keeps, 0 and 7 are those of calls with pairs that some order keeps
abbrev pub ShowsPairs : Type 0 → ℕ → Type 0
ShowsPairs keepable s = (s ≡ 8 → keepable → ⊥) × ((s ≡ 0) ⊎ (s ≡ 7) → keepable)

-- the numbers of the calls that take an order
abbrev pub IsOrderStatus : ℕ → Type 0
IsOrderStatus s = (s ≡ 5) ⊎ IsPlainStatus s
