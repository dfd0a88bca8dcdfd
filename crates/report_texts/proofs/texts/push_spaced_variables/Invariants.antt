use Rattle.std.proofs.Common.{◌≡◌, ◌++◌, take, string_bytes}
use Rattle.certificate.specs.Values.{each_spaced}
use Rattle.report_texts.proofs.texts.push_spaced_variables.Given as goal

abbrev pub invariant-loop-variable : goal.invariant-loop-variable
invariant-loop-variable l = string_bytes l.text ≡ string_bytes l.initial.text ++ each_spaced (take l.variable-index l.variables)
