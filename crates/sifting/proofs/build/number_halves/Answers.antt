use Rattle.sifting.proofs.Insertions.{inserted}
use Rattle.std.proofs.Common.{ℕ, Bool, false, true, length, sym, ap, subst, ◌∙◌, arith, nat_eq}
use Rattle.definitions.specs.declared.refs.Ref.{Ref}
use Rattle.definitions.specs.declared.refs.Ref.TheVariants.{Terminal}
use Rattle.definitions.specs.Diagrams.{IsBefore}
use Rattle.definitions.proofs.Nodes.Paths.{before_more}
use Rattle.sifting.specs.Cuts.{code_of, split_ref, ref_at}
use Rattle.sifting.proofs.LevelNodes.{numbers_step, numbers_none}
use Rattle.sifting.proofs.SplitCuts.{half, split_before}
use Rattle.definitions.proofs.Lists.Sets.{nat_decides}
use Rattle.sifting.proofs.build.number_halves.Goals as goal

pub code-requires : goal.code-requires
code-requires c =
    let small = c.requires.small in
    let r = ref_at c.args.cut.now c.loop-r.r-index in
    let before =
    split_before c.args.n c.args.nodes.now c.requires.nodes c.args.variable r
    (c.requires.inside c.loop-r.r-index (Terminal false) c.loop-r-test.true) false in
    subst (IsBefore 4294967296) (sym (ap (half false) c.halves-low.ensures))
    (before_more (length c.args.nodes.now) 4294967296 (half false (split_ref c.args.nodes.now c.args.variable r)) (omega arith) before)

pub code-requires-in-loop-r : goal.code-requires-in-loop-r
code-requires-in-loop-r c =
    let small = c.requires.small in
    let r = ref_at c.args.cut.now c.loop-r.r-index in
    let before =
    split_before c.args.n c.args.nodes.now c.requires.nodes c.args.variable r
    (c.requires.inside c.loop-r.r-index (Terminal false) c.loop-r-test.true) true in
    subst (IsBefore 4294967296) (sym (ap (half true) c.halves-low.ensures))
    (before_more (length c.args.nodes.now) 4294967296 (half true (split_ref c.args.nodes.now c.args.variable r)) (omega arith) before)

pub loop-r-preserved : goal.loop-r-preserved
loop-r-preserved c =
    let off : ℕ → ℕ = λ k. code_of (split_ref c.args.nodes.now c.args.variable (ref_at c.args.cut.now k)).0 in
    let on : ℕ → ℕ = λ k. code_of (split_ref c.args.nodes.now c.args.variable (ref_at c.args.cut.now k)).1 in
    let eq : ℕ → ℕ → Bool = nat_eq in
    numbers_step 0 off on eq nat_decides c.loop-r.r-index c.loop-r.level.items c.push.new.self.items c.loop-r.codes.keys
    c.insert_full.new.self.keys c.insert_full-in-loop-r.new.self.keys
    c.code.result c.code-in-loop-r.result c.in_ok-off.off c.in_ok-on.on c.loop-r.invariant
    (c.code.ensures ∙ ap (λ (h : Ref × Ref). code_of h.0) c.halves-low.ensures)
    (c.code-in-loop-r.ensures ∙ ap (λ (h : Ref × Ref). code_of h.1) c.halves-low.ensures)
    c.in_ok-off.ensures.keys c.in_ok-off.ensures.index c.in_ok-on.ensures.keys c.in_ok-on.ensures.index c.in_ok-push.ensures.items

pub returns : goal.returns
returns c = grind arith

pub loop-r-init : goal.loop-r-init
loop-r-init c =
    numbers_none 0 (λ k. code_of (split_ref c.args.nodes.now c.args.variable (ref_at c.args.cut.now k)).0)
    (λ k. code_of (split_ref c.args.nodes.now c.args.variable (ref_at c.args.cut.now k)).1) c.reserve-2.new.self.items c.reserve.new.self.keys
    (c.in_ok-reserve-2.ensures.items ∙ c.requires.level) (c.in_ok-reserve.ensures.keys ∙ c.requires.codes)

pub overflow_cast-off : goal.overflow_cast-off
overflow_cast-off c =
    let one = (inserted nat_eq nat_decides 0 c.code.result c.loop-r.codes.keys).few in
    record {
      fits = omega (
        arith,
        c.in_ok-off.ensures.within,
        ap length c.in_ok-off.ensures.keys,
        one,
        c.loop-r.invariant.few,
        c.loop-r-test.true,
        c.requires.few,
      );
    }

pub overflow_cast-on : goal.overflow_cast-on
overflow_cast-on c =
    let one = (inserted nat_eq nat_decides 0 c.code.result c.loop-r.codes.keys).few in
    let two = (inserted nat_eq nat_decides 0 c.code-in-loop-r.result c.insert_full.new.self.keys).few in
    record {
      fits = omega (
        arith,
        c.in_ok-on.ensures.within,
        ap length c.in_ok-off.ensures.keys,
        ap length c.in_ok-on.ensures.keys,
        one,
        two,
        c.loop-r.invariant.few,
        c.loop-r-test.true,
        c.requires.few,
      );
    }
