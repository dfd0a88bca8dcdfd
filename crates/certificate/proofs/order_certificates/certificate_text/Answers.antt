use Rattle.std.proofs.Common.{◌≡◌, ◌∙◌, IfOk, Ok, Err, Result, String, string_bytes, sym, subst}
use Rattle.std.specs.Global.{Global}
use Rattle.std.specs.declared.alloc.AllocError.{AllocError}
use Rattle.std.proofs.lemmas.List.{length-map}
use Rattle.certificate.specs.Faults.{Spells}
use Rattle.certificate.specs.Spelling.{HasSpelling, spelling}
use Rattle.definitions.specs.Certificates.{Certificate, certificate_of}
use Rattle.definitions.specs.Functions.{from_table}
use Rattle.definitions.specs.Problems.{functions}
use Rattle.certificate.proofs.OrderParts.{parts_same}
use Rattle.certificate.proofs.order_certificates.certificate_text.Goals as goal

stated : (cert own : Certificate) (r : Result (String Global) AllocError) → own ≡ cert → HasSpelling own →
    IfOk r (λ text. string_bytes text ≡ spelling own) → IfOk r (λ text. Spells (string_bytes text) cert)
stated cert own (Ok text) e has is = subst (Spells (string_bytes text)) e (record { has = has; text_is = is })
stated cert own (Err e) same has is = record {}

pub unreachable-requires : goal.unreachable-requires
unreachable-requires c =
    let n = c.args.problem.now.inputs in
    let F = functions c.args.problem.now in
    let P = c.args.pairs.now.pairs in
    let kept = rw c.requires.inputs at c.inputs-inputs.ensures.kept in
    let sorted = rw c.requires.inputs at c.inputs-inputs.ensures.sorted in
    let outputs = c.outputs-outputs.ensures.value ∙ sym (length-map c.args.problem.now.tables from_table) in
    let few = rw outputs at c.outputs-outputs.ensures.few in
    let same = parts_same n F P c.args.found.order c.inputs-inputs.result c.outputs-outputs.result c.in_ok-order.order.items
    c.args.found.levels.items c.args.found.total c.in_ok-kept.kept.items c.args.cells.items
    (c.inputs-inputs.ensures.value ∙ c.requires.inputs) outputs
    (c.in_ok-order.ensures.items_if_clones_equal (λ x y h. h) ∙ c.variables.ensures.value) c.requires.found.levels_are
    c.requires.found.size c.in_ok-kept.ensures sorted c.requires.cells in
    c.in-None.ensures.none
    (subst HasSpelling (sym same)
    (c.orders_have_certificates.ensures n F P c.args.found.order kept.some kept.few (rw outputs at c.outputs-outputs.ensures.some) few
    c.requires.found.is_order kept.below (rw c.count.ensures.value at c.count.ensures.most) sorted))

pub returns : goal.returns
returns c =
    let n = c.args.problem.now.inputs in
    let F = functions c.args.problem.now in
    let P = c.args.pairs.now.pairs in
    let outputs = c.outputs-outputs.ensures.value ∙ sym (length-map c.args.problem.now.tables from_table) in
    let same = parts_same n F P c.args.found.order c.inputs-inputs.result c.outputs-outputs.result c.in_ok-order.order.items
    c.args.found.levels.items c.args.found.total c.in_ok-kept.kept.items c.args.cells.items
    (c.inputs-inputs.ensures.value ∙ c.requires.inputs) outputs
    (c.in_ok-order.ensures.items_if_clones_equal (λ x y h. h) ∙ c.variables.ensures.value) c.requires.found.levels_are
    c.requires.found.size c.in_ok-kept.ensures (rw c.requires.inputs at c.inputs-inputs.ensures.sorted) c.requires.cells in
    let cert = c.in-Some.ensures.some ∙ same in
    stated (certificate_of n F P c.args.found.order) c.in-Some.cert c.text.result cert
    (subst HasSpelling c.cert.view_is c.cert.invariant) c.text.ensures.spelling
