-- The names of a text that is read.
--     names_few      there are at most 16 of inputs, and of outputs
use Rattle.std.proofs.Common.{◌≡◌, ℕ, ◌≤◌, List, [], ◌∷◌, length, map, codes, filter_map, ap, arith}
use Rattle.std.proofs.lemmas.List.{length-map}
use Rattle.pla_reader.specs.declared.places.Names.{Names}
use Rattle.pla_reader.specs.declared.places.Names.TheVariants.{Inputs, Outputs}
use Rattle.pla_reader.specs.declared.places.TextPlace.{TextPlace}
use Rattle.pla_reader.specs.Covers.{IsCover, NamedCover, cover_of, first_or, input_naming, inputs_of, numbered_names, output_naming, outputs_of}
use Rattle.pla_reader.specs.Lines.{description, said}
use Rattle.pla_reader.specs.Places.{AreNamesAt, bytes_at}
use Rattle.pla_reader.specs.Reading.{Reads}

-- if there are names they are the cover's
few : (numbered : List (List ℕ)) (given : List (List (List ℕ))) (names named : List (List ℕ)) → first_or numbered given ≡ names →
    length names ≤ 16 → named ≡ first_or [] given → length named ≤ 16
few numbered [] names named e l f = omega (arith, ap length f)
few numbered (it ∷ others) names named e l f = omega (arith, ap length f, ap length e)

pub names_few : (kind : Names) (text : List ℕ) (cover : NamedCover) (places : List TextPlace) → Reads text cover → IsCover cover →
    AreNamesAt kind text places → length places ≤ 16
unfolding cover_of
names_few Inputs text cover places reads formed at =
    let lines = description (said text) in
    let l : length (map (bytes_at text) places) ≤ 16 =
    few (numbered_names (codes "x") (inputs_of lines)) (filter_map input_naming lines) cover.input_names
    (map (bytes_at text) places) (ap (λ (c : NamedCover). c.input_names) reads.given)
    (omega (arith, formed.input_names, formed.few_inputs)) at.spell in
    omega (arith, l, length-map places (bytes_at text))
names_few Outputs text cover places reads formed at =
    let lines = description (said text) in
    let l : length (map (bytes_at text) places) ≤ 16 =
    few (numbered_names (codes "y") (outputs_of lines)) (filter_map output_naming lines) cover.output_names
    (map (bytes_at text) places) (ap (λ (c : NamedCover). c.output_names) reads.given)
    (omega (arith, formed.output_names, formed.few_outputs)) at.spell in
    omega (arith, l, length-map places (bytes_at text))
