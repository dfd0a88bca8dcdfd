use Rattle.std.proofs.Common.{ℕ, List, sym, ◌∙◌, ap, [], ◌∷◌, ◌++◌, get_or, codes, refl, arith, rules}
use Rattle.definitions.specs.Texts.{number_of}
use Rattle.certificate.specs.Faults.{head_judges}
use Rattle.certificate.specs.Decoded.{numbers_of}
use Rattle.certificate.specs.Parsing.{outcome}
use Rattle.certificate.proofs.Faultless.{format_of}
use Rattle.certificate.proofs.HeadLines.{taken_none, taken_more, told_fails, head_memory, small_numbers}
use Rattle.certificate.proofs.parser.read_head.Goals as goal

-- a field's number, and its numbers
abbrev number_at : ℕ → List (List (List ℕ)) → ℕ
number_at at xs = number_of (get_or (get_or xs at []) 1 [])

abbrev numbers_at : ℕ → List (List (List ℕ)) → List ℕ
numbers_at at xs = numbers_of (get_or xs at [])

pub returns-in_err-format-clause-head : goal.returns-in_err-format-clause-head
returns-in_err-format-clause-head c =
    told_fails (taken_none _ _) _ _ _ _ _ _ c.from_residual.result c.from_residual.ensures.1 refl refl c.in_err-format.ensures.line

pub returns-in_err-inputs-clause-head : goal.returns-in_err-inputs-clause-head
returns-in_err-inputs-clause-head c =
    let t = taken_more (taken_none _ _) c.in_ok-format.ensures.line in
    told_fails t _ _ _ _ _ _ c.from_residual-in_err-inputs.result c.from_residual-in_err-inputs.ensures.1 refl refl c.in_err-inputs.ensures.line

pub returns-in_err-outputs-clause-head : goal.returns-in_err-outputs-clause-head
returns-in_err-outputs-clause-head c =
    let inputs = c.in_ok-inputs.ensures.line in
    let t = taken_more (taken_more (taken_none _ _) c.in_ok-format.ensures.line) inputs in
    told_fails t _ _ _ _ _ _ c.from_residual-in_err-outputs.result c.from_residual-in_err-outputs.ensures.1 (ap (number_at 1) t.parts ∙ sym inputs.4) refl
    c.in_err-outputs.ensures.line

pub returns-in_err-numbers-clause-head : goal.returns-in_err-numbers-clause-head
returns-in_err-numbers-clause-head c =
    let inputs = c.in_ok-inputs.ensures.line in
    let t = taken_more (taken_more (taken_more (taken_none _ _) c.in_ok-format.ensures.line) inputs) c.in_ok-outputs.ensures.line in
    told_fails t _ _ _ _ _ _ c.from_residual-in_err-numbers.result c.from_residual-in_err-numbers.ensures.1 (ap (number_at 1) t.parts ∙ sym inputs.4) refl
    c.in_err-numbers.ensures.line

pub returns-in_err-order-clause-head : goal.returns-in_err-order-clause-head
returns-in_err-order-clause-head c =
    head_memory _ _ _ _ _ c.from_residual-in_err-order.result c.from_residual-in_err-order.ensures.1 c.in_err-order.ensures.memory

pub returns-in_err-levels-clause-head : goal.returns-in_err-levels-clause-head
returns-in_err-levels-clause-head c =
    let inputs = c.in_ok-inputs.ensures.line in
    let t = taken_more (taken_more (taken_more (taken_none _ _) c.in_ok-format.ensures.line) inputs) c.in_ok-outputs.ensures.line in
    let t = taken_more t c.in_ok-numbers.ensures.line in
    told_fails t _ _ _ _ _ _ c.from_residual-in_err-levels.result c.from_residual-in_err-levels.ensures.1 (ap (number_at 1) t.parts ∙ sym inputs.4) refl
    c.in_err-levels.ensures.line

pub returns-in_err-total-clause-head : goal.returns-in_err-total-clause-head
returns-in_err-total-clause-head c =
    let inputs = c.in_ok-inputs.ensures.line in
    let t = taken_more (taken_more (taken_more (taken_none _ _) c.in_ok-format.ensures.line) inputs) c.in_ok-outputs.ensures.line in
    let t = taken_more (taken_more t c.in_ok-numbers.ensures.line) c.in_ok-levels.ensures.line in
    told_fails t _ _ _ _ _ _ c.from_residual-in_err-total.result c.from_residual-in_err-total.ensures.1 (ap (number_at 1) t.parts ∙ sym inputs.4) refl
    c.in_err-total.ensures.line

pub variables-requires : goal.variables-requires
variables-requires c =
    rw c.deref.ensures.value
    (small_numbers (λ v. v.items) (codes "order") c.in_ok-inputs.inputs 15 c.number-2.new.self.number c.numbers.new.self.number
    c.number-2.new.self.rest.now c.numbers.new.self.rest.now c.in_ok-numbers.numbers c.in_ok-numbers.ensures.line)

pub returns-clause-head : goal.returns-clause-head
returns-clause-head c =
    let a0 = c.in_ok-format.ensures.line in let a1 = c.in_ok-inputs.ensures.line in let a2 = c.in_ok-outputs.ensures.line in
    let a3 = c.in_ok-numbers.ensures.line in let a4 = c.in_ok-levels.ensures.line in let a5 = c.in_ok-total.ensures.line in
    let t = taken_more (taken_more (taken_more (taken_none _ _) a0) a1) a2 in
    let t = taken_more (taken_more (taken_more t a3) a4) a5 in (
      record {
        format = a0.4 ∙ sym (ap (number_at 0) t.parts);
        inputs = a1.4 ∙ sym (ap (number_at 1) t.parts);
        outputs = a2.4 ∙ sym (ap (number_at 2) t.parts);
        order = c.in_ok-order.ensures.same ∙ c.deref.ensures.value ∙ a3.4 ∙ sym (ap (numbers_at 3) t.parts);
        levels = a4.4 ∙ sym (ap (numbers_at 4) t.parts);
        total = a5.4 ∙ sym (ap (number_at 5) t.parts);
        some = c.in_ok-inputs.ensures.within.0;
        few = c.in_ok-inputs.ensures.within.1;
        known = rw a0.4 (format_of a0.0 a0.2);
      },
      a0.0 ∷ a1.0 ∷ a2.0 ∷ a3.0 ∷ a4.0 ∷ a5.0 ∷ [],
      t.parts,
      refl,
      λ js. ap (λ m. outcome c.args.lines.now.number (head_judges m ++ js) c.args.lines.now.rest.now)
          (ap (number_at 1) t.parts ∙ sym a1.4)
          ∙ t.left js,
    )

pub overflow_cast-inputs-2 : goal.overflow_cast-inputs-2
overflow_cast-inputs-2 c = omega arith

pub returns-in_err-levels-clause-bound : goal.returns-in_err-levels-clause-bound
returns-in_err-levels-clause-bound c = omega arith

pub returns-in_err-total-clause-bound : goal.returns-in_err-total-clause-bound
returns-in_err-total-clause-bound c = omega arith

pub numbers-requires-2-clause-some : goal.numbers-requires-2-clause-some
numbers-requires-2-clause-some c = search rules
