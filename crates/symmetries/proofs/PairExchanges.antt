-- The exchange of two variables alone.
--     partner_of      each variable's partner
--     exchange_pair      it is an exchange
use Rattle.std.specs.Prelude.{◌≡◌, ℕ, ◌<◌, if◌then◌else◌, slice_index, nat_eq}
use Rattle.std.proofs.Common.{arith, zero-add}
use Rattle.std.proofs.lemmas.List.FromFn.{get_or-map-range_with_len, length-map-range_with_len}
use Rattle.symmetries.specs.Exchanges.{IsExchange}
use Rattle.symmetries.specs.SymmetricPairs.{exchange_of}

-- the partners of two exchanged variables, and of the others
pub partner_of : (n a b y : ℕ) → y < n → slice_index (exchange_of n a b) y ≡ (if nat_eq y a then b else if nat_eq y b then a else y)
unfolding exchange_of
partner_of n a b y lt = get_or-map-range_with_len (λ z. if nat_eq z a then b else if nat_eq z b then a else z) 0 n y y 0 lt (zero-add y)

-- two variables exchanged are an exchange
pub exchange_pair : (n a b : ℕ) → a < n → b < n → IsExchange n (exchange_of n a b)
unfolding exchange_of
exchange_pair n a b la lb = grind (arith, length-map-range_with_len, partner_of)
