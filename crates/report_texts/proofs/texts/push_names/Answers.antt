use Rattle.std.proofs.Common.{◌≡◌, ℕ, suc, ◌<◌, List, ◌∷◌, length, map, string_bytes, subst, arith}
use Rattle.std.specs.List.{All}
use Rattle.report_texts.proofs.SpacedTexts.{names_pushed}
use Rattle.report_texts.proofs.texts.push_names.Goals as goal

-- what holds of all holds of all but the first
others : (n x : ℕ) (rest xs : List ℕ) → xs ≡ x ∷ rest → All (λ y. y < n) xs → All (λ y. y < n) rest
others n x rest xs is all k d lt = subst (All (λ y. y < n)) is all (suc k) d (omega arith)

pub push_spaced_names-requires : goal.push_spaced_names-requires
push_spaced_names-requires c =
    others (length c.args.names.now) c.in-Some.first.now c.in-Some.rest.now c.args.variables.now c.in-Some.ensures.cases.0 c.requires

pub returns : goal.returns
returns c =
    names_pushed (map string_bytes c.args.names.now) _ _ _ c.in-Some.first.now c.in-Some.rest.now c.args.variables.now
    c.in-Some.ensures.cases.0 c.in_ok-push_name.ensures c.in_ok-push_spaced_names.ensures
