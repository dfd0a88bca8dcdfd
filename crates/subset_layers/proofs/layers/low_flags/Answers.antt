use Rattle.std.proofs.Common.{◌≡◌, ℕ, ◌<◌, ◌+◌, ◌%◌, ◌||◌, Bool, false, true, inl, inr, List, take, set, length, nat_eq, get_or, get_or-set_same, get_or-set_other, sym, ap, ◌∙◌, arith, eq-eqb, ne_eqb, refl}
use Rattle.std.specs.List.{list_any}
use Rattle.std.proofs.lemmas.Bool.{cases_eq}
use Rattle.std.proofs.lemmas.List.{length-set, take_all}
use Rattle.std.proofs.lemmas.List.Folds.{list_any_more}
use Rattle.std.proofs.lemmas.List.FromFn.{fill_by_all}
use Rattle.subset_layers.proofs.layers.low_flags.Goals as goal

or_true : (a : Bool) → true ≡ (a || true)
or_true true = refl
or_true false = refl

or_false : (a : Bool) → a ≡ (a || false)
or_false true = refl
or_false false = refl

-- one mask more
marked : (flags : List Bool) (masks : List ℕ) (i : ℕ) → i < length masks → length flags ≡ 256 →
    ((low : ℕ) → low < 256 → get_or flags low false ≡ list_any (λ mask. nat_eq (mask % 256) low) (take i masks)) →
    (low : ℕ) → low < 256 → get_or (set flags (get_or masks i 0 % 256) true) low false ≡ list_any (λ mask. nat_eq (mask % 256) low) (take (i + 1) masks)
marked flags masks i h l all low lt =
    elim (cases_eq low (get_or masks i 0 % 256)) [
      | inl e ↦
          ap (λ k. get_or (set flags k true) low false) (sym e) ∙ get_or-set_same flags low true false (omega arith)
          ∙ or_true (list_any (λ mask. nat_eq (mask % 256) low) (take i masks))
          ∙ ap (λ b. list_any (λ mask. nat_eq (mask % 256) low) (take i masks) || b) (sym (eq-eqb _ _ (sym e)))
          ∙ sym (list_any_more (λ mask. nat_eq (mask % 256) low) masks i 0 h)
      | inr ne ↦
          get_or-set_other flags (get_or masks i 0 % 256) low true false ne ∙ all low lt
          ∙ or_false (list_any (λ mask. nat_eq (mask % 256) low) (take i masks))
          ∙ ap (λ b. list_any (λ mask. nat_eq (mask % 256) low) (take i masks) || b) (sym (ne_eqb _ _ (λ e. ne (sym e))))
          ∙ sym (list_any_more (λ mask. nat_eq (mask % 256) low) masks i 0 h)
    ]

pub loop-mask-preserved : goal.loop-mask-preserved
loop-mask-preserved c = search (length-set, marked)

pub returns : goal.returns
returns c =
    let e : take c.loop-mask.mask-index c.args.masks.now ≡ c.args.masks.now = take_all c.loop-mask.mask-index c.args.masks.now (omega arith) in
    fill_by_all (λ low. list_any (λ mask. nat_eq (mask % 256) low) c.args.masks.now) c.loop-mask.flags.items 256 false c.loop-mask.invariant.0
    (λ low lt. c.loop-mask.invariant.1 low lt ∙ ap (list_any (λ mask. nat_eq (mask % 256) low)) e)
