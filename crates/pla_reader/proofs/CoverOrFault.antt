-- Each list of lines either gives a cover or has a first fault, for one value.
use Rattle.std.proofs.Common.{◌≡◌, ℕ, refl, sym, ap, ◌∙◌, List, [], ◌∷◌, ◌⊎◌, inl, inr}
use Rattle.pla_reader.specs.declared.errors.LineFault.{LineFault}
use Rattle.pla_reader.specs.Lines.{Line, description}
use Rattle.pla_reader.specs.Covers.{NamedCover, cover_of}
use Rattle.pla_reader.specs.Reading.{faults, Gives, HasFirst}

pub gives_or_has_first : (lines : List Line) → ((cover : NamedCover) × Gives lines cover) ⊎ ((line : ℕ) × (fault : LineFault) × HasFirst lines line fault)
gives_or_has_first lines = by (faults lines) refl where
  by : (found : List (ℕ × LineFault)) → faults lines ≡ found →
      ((cover : NamedCover) × Gives lines cover) ⊎ ((line : ℕ) × (fault : LineFault) × HasFirst lines line fault)
  by [] none = inl (cover_of (description lines), record { faultless = none; given = refl })
  by ((line, fault) ∷ others) first = inr (line, fault, record { others = others; first = first })

pub not_both : (lines : List Line) (cover : NamedCover) (line : ℕ) (fault : LineFault) → Gives lines cover → HasFirst lines line fault → ⊥
not_both lines cover line fault gives has = cc

pub one_cover : (lines : List Line) (a b : NamedCover) → Gives lines a → Gives lines b → a ≡ b
one_cover lines a b left right = sym left.given ∙ right.given

pub one_fault : (lines : List Line) (i j : ℕ) (e f : LineFault) → HasFirst lines i e → HasFirst lines j f → (i ≡ j) × (e ≡ f)
one_fault lines i j e f left right =
    let both : (i, e) ≡ (j, f) = cc in
    (ap (λ (p : ℕ × LineFault). p.0) both, ap (λ (p : ℕ × LineFault). p.1) both)
