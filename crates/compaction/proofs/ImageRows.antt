-- The row of a set from that of its image.
--     row_of_image      each member has the width of the variable to which it goes
use Rattle.std.proofs.Common.{◌≡◌, ℕ, ◌+◌, ◌*◌, ◌/◌, ◌%◌, ◌<◌, ◌≤◌, cond, eqb, inl, inr, List, [], length, slice_index, get_or, sym, ap, ◌∙◌, subst, arith, eq-eqb, ne_eqb}
use Rattle.std.specs.Int.{bit_at}
use Rattle.std.proofs.lemmas.Bool.{cases_eq, and_parts}
use Rattle.definitions.specs.Orders.{members, without}
use Rattle.definitions.specs.Problems.{TruthTables, functions}
use Rattle.definitions.specs.Widths.{width}
use Rattle.definitions.proofs.Lists.Orders.{has_variables}
use Rattle.definitions.proofs.Bits.Masks.{has_members}
use Rattle.symmetries.specs.Orbits.{TakesWidths, width_into}
use Rattle.compaction.specs.Requests.{AreMembersOf}
use Rattle.compaction.specs.Rows.{AreByteRows, HoldsWidths, IsWidthRow, width_wanted}

-- what is wanted of a set are variables
wanted_variable : (n set wanted x : ℕ) → AreMembersOf n set wanted → bit_at wanted x ≡ 1 → x < n
wanted_variable n set wanted x own one = (has_variables n x).0 (and_parts _ _ (sym (has_members n set x) ∙ own x one)).0

module _ (p q : TruthTables) (low : ℕ) (needed : List ℕ) (rows : List (List ℕ)) (set image wanted : ℕ) (variables moved : List ℕ) where
  -- the width of a member is that of the variable to which it goes
  moved_width : p.inputs ≤ 16 → AreByteRows q low needed rows → TakesWidths p q set image variables → image % 256 ≡ low → image / 256 < length needed →
      AreMembersOf p.inputs set wanted → (x : ℕ) → bit_at wanted x ≡ 1 → bit_at (slice_index needed (image / 256)) (slice_index variables x) ≡ 1 →
      slice_index (get_or rows (image / 256) []) (slice_index variables x) ≡ width p.inputs (functions p) (without x (members p.inputs set)) x
  unfolding width_into
  moved_width few are keeps byte there own x one asked =
      let small = wanted_variable p.inputs set wanted x own one in
      let whole : image / 256 * 256 + low ≡ image = omega arith in
      let holds : HoldsWidths q image (slice_index needed (image / 256)) (get_or rows (image / 256) []) =
      subst (λ t. HoldsWidths q t (slice_index needed (image / 256)) (get_or rows (image / 256) [])) whole (are.are (image / 256) there) in
      let inside = keeps.inside x small in
      holds (slice_index variables x) (omega (arith, keeps.inputs)) asked ∙ keeps.widths x small

  -- each member has the width of the variable to which it goes
  pub row_of_image : p.inputs ≤ 16 → AreByteRows q low needed rows → TakesWidths p q set image variables → image % 256 ≡ low → image / 256 < length needed →
      AreMembersOf p.inputs set wanted →
      ((x : ℕ) → x < 16 → bit_at wanted x ≡ 1 → bit_at (slice_index needed (image / 256)) (slice_index variables x) ≡ 1) →
      ((x : ℕ) → x < 16 → slice_index moved x ≡ cond (eqb (bit_at wanted x) 1) (slice_index (get_or rows (image / 256) []) (slice_index variables x)) 0) →
      IsWidthRow p set wanted moved
  unfolding width_wanted
  row_of_image few are keeps byte there own asked each x small = elim (cases_eq (bit_at wanted x) 1) [
    | inl one ↦
        each x small
        ∙ ap (λ b. cond b (slice_index (get_or rows (image / 256) []) (slice_index variables x)) 0) (eq-eqb (bit_at wanted x) 1 one)
        ∙ moved_width few are keeps byte there own x one (asked x small one)
        ∙ ap (λ b. cond b (width p.inputs (functions p) (without x (members p.inputs set)) x) 0) (sym (eq-eqb (bit_at wanted x) 1 one))
    | inr other ↦
        each x small
        ∙ ap (λ b. cond b (slice_index (get_or rows (image / 256) []) (slice_index variables x)) 0) (ne_eqb (bit_at wanted x) 1 other)
        ∙ ap (λ b. cond b (width p.inputs (functions p) (without x (members p.inputs set)) x) 0) (sym (ne_eqb (bit_at wanted x) 1 other))
  ]
