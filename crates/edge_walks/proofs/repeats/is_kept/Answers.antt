use Rattle.std.proofs.Common.{◌≡◌, ◌+◌, ◌-◌, ◌*◌, ◌++◌, take, drop, eqb, length, refl, sym, ap, ◌∙◌, arith}
use Rattle.std.proofs.Math.Nat.{mul-le-mul_right}
use Rattle.std.proofs.lemmas.List.{length-take, take-append-drop}
use Rattle.std.specs.Cmp.Lexicographic.{pointwise}
use Rattle.std.proofs.lemmas.Bool.Decides.{Decides-eqb}
use Rattle.std.proofs.lemmas.Slice.Eq.{slice_eq-Decides}
use Rattle.edge_walks.proofs.repeats.is_kept.Goals as goal

pub returns : goal.returns
returns c h =
    let kept = c.args.kept.now in
    let w = length c.args.row.now in
    let p = c.args.place in
    let start = (p - 1) * w in
    let size : start + w - start ≡ w = omega arith in
    let labels = slice_eq-Decides Decides-eqb (take (start + w - start) (drop start kept)) c.args.row.now
    (pointwise eqb (take (start + w - start) (drop start kept)) c.args.row.now) refl in
    let same : take w (drop start kept) ≡ c.args.row.now = ap (λ k. take k (drop start kept)) (sym size) ∙ labels.0 (sym c.eq.ensures ∙ h) in
    let m = mul-le-mul_right w c.if-kept-width.false in
    let q : p * w ≡ (p - 1) * w + w =
    (let s : p ≡ (p - 1) + 1 = omega arith in ap (λ k. k * w) s ∙ (let g : ((p - 1) + 1) * w ≡ (p - 1) * w + w = grind arith in g)) in (
      take start kept,
      drop w (drop start kept),
      p - 1,
      sym (take-append-drop start kept)
          ∙ ap (λ us. take start kept ++ us) (sym (take-append-drop w (drop start kept)) ∙ ap (λ us. us ++ drop w (drop start kept)) same),
      omega (arith, length-take start kept),
    )
