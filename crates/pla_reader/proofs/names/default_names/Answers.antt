use Rattle.std.proofs.Common.{◌∙◌, [], ◌∷◌, rules}
use Rattle.std.specs.String.{string_bytes}
use Rattle.pla_reader.specs.Covers.{numbered_names}
use Rattle.pla_reader.proofs.NameLemmas.{numbered_next}
use mathlib.Core.List.{map-append}
use Rattle.pla_reader.proofs.names.default_names.Goals as goal

pub loop-i-init : goal.loop-i-init
unfolding numbered_names
loop-i-init c = search rules

pub loop-i-preserved : goal.loop-i-preserved
loop-i-preserved c =
    rw c.in_ok-push.ensures.items
    (map-append string_bytes c.loop-i.names.items (c.in_ok-format.field-0 ∷ [])
    ∙ cc (numbered_next c.args.front.now c.loop-i.i-counter, c.in_ok-format.ensures.ok))
