-- What a contract sees of a cover.
--     cover_view cover      the numbers, names and product terms that the fields hold
--     IsWellFormed cover      1 to 16 inputs and outputs, a name for each, and terms of these
use Rattle.std.specs.Prelude.{◌≡◌, ◌≤◌, length, map}
use Rattle.std.specs.List.{All}
use Rattle.std.specs.String.{string_bytes}
use Rattle.pla_reader.specs.declared.cover.Cover.TheInside.{Inside}
use Rattle.definitions.specs.Products.{product_of}
use Rattle.pla_reader.specs.Covers.{NamedCover}
use Rattle.pla_reader.specs.Masks.{Fits}

abbrev pub cover_view : Inside → NamedCover
cover_view cover = record {
  inputs = cover.inputs;
  outputs = cover.outputs;
  input_names = map string_bytes cover.input_names.items;
  output_names = map string_bytes cover.output_names.items;
  products = map (product_of cover.inputs cover.outputs) cover.terms.items;
}

pub record IsWellFormed (cover : Inside) : Type 0 where
  pub some_inputs : 1 ≤ cover.inputs
  pub few_inputs : cover.inputs ≤ 16
  pub some_outputs : 1 ≤ cover.outputs
  pub few_outputs : cover.outputs ≤ 16
  pub input_names : length cover.input_names.items ≡ cover.inputs
  pub output_names : length cover.output_names.items ≡ cover.outputs
  pub terms : All (Fits cover.inputs cover.outputs) cover.terms.items
