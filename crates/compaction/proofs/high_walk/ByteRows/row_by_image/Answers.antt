use Rattle.std.proofs.Common.{◌≡◌, ◌∙◌, ◌/◌, ◌<◌, ℕ, List, Option, None, Some, IfSome, IsSome, [], refl, ap, arith, cond, eqb, get_or, length, slice_index, subst}
use Rattle.std.specs.Int.{bit_at}
use Rattle.compaction.specs.Rows.{RowsOf}
use Rattle.compaction.proofs.ImageRows.{row_of_image}
use Rattle.compaction.proofs.high_walk.ByteRows.row_by_image.Goals as goal

-- what follows for a row that is there
if_some : {A : Type 0} {P Q : List ℕ → Type 0} (r : Option (List ℕ)) → (IsSome r → A) → IfSome r P → (A → (m : List ℕ) → P m → Q m) → IfSome r Q
if_some None a p f = tt
if_some (Some m) a p f = f (a refl) m p

pub returns : goal.returns
returns c p q set few holds keeps byte members =
    let b = c.args.self.now in
    let T = c.args.image.now.set in
    let variables = c.args.image.now.variables in
    let place : c.from-high.result ≡ T / 256 = c.from-high.ensures in
    let there : c.from-high.result < length c.deref.result.now = c.in_ok-asked.ensures.lookup.3.0 in
    let asked : c.in_ok-asked.field-0.now ≡ slice_index b.needed (T / 256) =
    c.in_ok-asked.ensures.lookup.3.1 0
    ∙ ap (λ us. slice_index us c.from-high.result) c.deref.ensures.value
    ∙ ap (slice_index c.self.inside.request.needed.items) place
    ∙ ap (λ (s : RowsOf). slice_index s.needed (T / 256)) c.self.view_is in
    let row : c.in_ok-row.row.now ≡ get_or b.rows (T / 256) [] =
    c.in_ok-row.ensures.lookup.3.1 []
    ∙ ap (λ us. get_or us c.from-high.result []) c.deref-2.ensures.value
    ∙ ap (λ k. get_or c.self.inside.rows.items k []) place
    ∙ ap (λ (s : RowsOf). get_or s.rows (T / 256) []) c.self.view_is in
    let long : length c.deref.result.now ≡ length b.needed = ap length c.deref.ensures.value ∙ ap (λ (s : RowsOf). length s.needed) c.self.view_is in
    if_some c.members_moved.result c.members_moved.ensures.asked c.members_moved.ensures.row
    (λ kept moved each. row_of_image p q b.low b.needed b.rows set T c.args.needed variables moved few holds.rows keeps byte (omega arith) members
    (λ x small one. subst (λ m. bit_at m (slice_index variables x) ≡ 1) asked (kept x small one))
    (λ x small. each x small ∙ ap (λ (us : List ℕ). cond (eqb (bit_at c.args.needed x) 1) (slice_index us (slice_index variables x)) 0) row))
