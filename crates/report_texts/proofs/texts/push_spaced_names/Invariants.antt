use Rattle.std.proofs.Common.{◌≡◌, ◌++◌, map, take, string_bytes}
use Rattle.report_texts.specs.Texts.{each_name_spaced}
use Rattle.report_texts.proofs.texts.push_spaced_names.Given as goal

abbrev pub invariant-loop-variable : goal.invariant-loop-variable
invariant-loop-variable l = string_bytes l.text ≡ string_bytes l.initial.text ++ each_name_spaced (map string_bytes l.names) (take l.variable-index l.variables)
