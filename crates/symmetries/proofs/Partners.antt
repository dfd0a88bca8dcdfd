-- Exchanges of variables, by the variables' partners.
--     one_to_one, same_partner      different variables have different partners
use Rattle.std.specs.Prelude.{◌≡◌, ℕ, ◌<◌, List, slice_index, nat_eq}
use Rattle.std.proofs.Common.{sym, ap, ◌∙◌, eqb-true, eq-eqb}
use Rattle.definitions.proofs.Lists.Orders.{same_bool}
use Rattle.symmetries.specs.Exchanges.{IsExchange}

-- different variables have different partners
pub one_to_one : (n : ℕ) (partners : List ℕ) → IsExchange n partners → (x y : ℕ) → x < n → y < n → slice_index partners x ≡ slice_index partners y → x ≡ y
one_to_one n partners e x y l m h = sym (e.back x l) ∙ ap (slice_index partners) h ∙ e.back y m

-- two variables are one just if their partners are
pub same_partner : (n : ℕ) (partners : List ℕ) → IsExchange n partners → (x y : ℕ) → x < n → y < n →
    nat_eq (slice_index partners x) (slice_index partners y) ≡ nat_eq x y
same_partner n partners e x y l m =
    same_bool _ _
    (λ h. eq-eqb x y (one_to_one n partners e x y l m (eqb-true (slice_index partners x) (slice_index partners y) h)))
    (λ h. eq-eqb (slice_index partners x) (slice_index partners y) (ap (slice_index partners) (eqb-true x y h)))
