-- The only session of a store, if it made nodes of subfunctions alone, knows no full store.
use Rattle.std.proofs.Common.{◌≡◌, ◌≢◌, ℕ, ◌+◌, ◌^◌, ◌<◌, ◌≤◌, length, get_or, sym, ap, ◌∙◌, subst, arith}
use Rattle.std.proofs.lemmas.List.{length-map}
use Rattle.definitions.specs.Functions.{SameFunction, from_table}
use Rattle.definitions.specs.Problems.{functions}
use Rattle.node_words.specs.Nodes.{AreNodeWords, AreUnequal, level_of, low_of, high_of}
use Rattle.node_words.specs.Meaning.{function_of}
use Rattle.node_words.proofs.NewNodes.{word_level, word_low, word_high, makes}
use Rattle.node_words.proofs.Functions.{function_made, known_small}
use Rattle.unique_table.specs.Plans.{IsPlan, order_of, levels_of}
use Rattle.unique_table.specs.Sessions.{StoreId, Knowledge, IsAlone, MadeAll}
use Rattle.unique_table.specs.declared.session.Stake.{Stake}
use Rattle.unique_table.specs.Stakes.{IsNoLess}
use Rattle.unique_table.proofs.Stakes.{stays_whole}
use Rattle.dd_builder.specs.declared.parts.Source.{Source}
use Rattle.dd_builder.specs.declared.parts.Source.TheVariants.{Tables, Terms}
use Rattle.dd_builder.specs.declared.errors.BuildError.{BuildError}
use Rattle.dd_builder.specs.declared.errors.BuildError.TheVariants.{StoreFull, OutOfMemory}
use Rattle.dd_builder.specs.Building.{KnowsFull}
use Rattle.dd_builder.specs.Parts.{IsShareOf, halved, MayBeFull}
use Rattle.dd_builder.specs.Subfunctions.{IsSubfunction, IsOfSubfunction, MadeSubfunctions}
use Rattle.dd_builder.proofs.SharedStakes.{halved_none}
use Rattle.dd_builder.proofs.LevelBounds.{size_few}
use Rattle.dd_builder.proofs.Ranks.{few}
use Rattle.dd_builder.proofs.Bound.{most_fit}

module _ (s : Knowledge) (plan : IsPlan s.store.plan) (nodes : AreNodeWords (levels_of s.store.plan) s.seen) (unequal : AreUnequal s.seen)
    (size : length s.seen ≤ s.store.plan.places) where
  -- the word at a place
  module _ (p : ℕ) (there : get_or s.seen p 0 ≢ 0) (h : IsOfSubfunction s (get_or s.seen p 0)) where
    abbrev w : ℕ
    w = get_or s.seen p 0

    low_small : h.low < 2 ^ 20
    low_small = let k = known_small s.seen s.store.plan.places h.low size h.knows_low in let a = plan.places in omega (arith, k, a)

    high_small : h.high < 2 ^ 20
    high_small = let k = known_small s.seen s.store.plan.places h.high size h.knows_high in let a = plan.places in omega (arith, k, a)

    level_small : h.level < 16
    level_small = let few_levels = plan.order.few in let i = h.inside in omega (arith, few_levels, i)

    level_is : h.level ≡ level_of w
    level_is = sym (ap level_of h.word ∙ word_level h.level h.low h.high level_small low_small high_small)

    children_differ : h.low ≢ h.high
    children_differ e = (nodes p there).unequal
        ((ap low_of h.word ∙ word_low h.level h.low h.high level_small low_small high_small)
        ∙ (e ∙ sym (ap high_of h.word ∙ word_high h.level h.low h.high level_small low_small high_small)))

    function_is : IsSubfunction (order_of s.store.plan) s.store.plan.problem.value (level_of w) (function_of (order_of s.store.plan) s.seen (p + 2))
    unfolding SameFunction
    function_is = subst (λ z. IsSubfunction (order_of s.store.plan) s.store.plan.problem.value z (function_of (order_of s.store.plan) s.seen (p + 2))) level_is
        record {
          output = h.function.output;
          path = h.function.path;
          is_output = h.function.is_output;
          is_path = h.function.is_path;
          same = λ x l. function_made (order_of s.store.plan) s.seen nodes h.level h.low h.high (p + 2) level_small low_small high_small
              (λ none. there (h.word ∙ none)) (makes s.seen h.level h.low h.high p children_differ h.word) x
              ∙ h.function.same x l;
        }

  pub never_full : MadeAll s → IsAlone s → MadeSubfunctions s → KnowsFull s → ⊥
  never_full made alone subs full =
      let t = s.store.plan.problem.value in
      let a = few (order_of s.store.plan) t s.seen plan.order.order nodes unequal s.store.plan.places
      (λ p there. function_is p there (subs (get_or s.seen p 0) (made alone p there))) full in
      let z = size_few (levels_of s.store.plan) (functions t) (order_of s.store.plan) plan.order.order in
      let b = most_fit (levels_of s.store.plan) (length (functions t)) plan.order.few (omega (arith, plan.few_outputs, length-map t.tables from_table)) in
      let c = plan.places in omega (arith, a, z, b, c)

stays_alone : (from s : Knowledge) → IsNoLess (halved 0 from.stake) s.stake → IsAlone from → IsAlone s
stays_alone from s more alone = stays_whole from.stake s.stake (subst (λ (z : Stake). IsNoLess z s.stake) (halved_none from.stake) more) alone

-- so it gives no such error
pub full_never : (source : Source) (from s : Knowledge) (store : StoreId) → s.store ≡ store → IsShareOf source from 0 s → IsPlan store.plan →
    AreNodeWords (levels_of store.plan) s.seen → AreUnequal s.seen → length s.seen ≤ store.plan.places → MadeAll s → KnowsFull s
    → MayBeFull source from (StoreFull s)
full_never (Tables tables) from s store same share plan nodes unequal size made full = grind (arith, never_full, stays_alone)
full_never (Terms terms) from s store same share plan nodes unequal size made full = tt

-- what a session may meet that goes on from another
pub full_from : (source : Source) (from s : Knowledge) (e : BuildError) → IsShareOf source from 0 s → MayBeFull source s e → MayBeFull source from e
full_from (Tables tables) from s (StoreFull t) share may = λ alone subs. may (stays_alone from s share.stake alone) (share.kept subs)
full_from (Tables tables) from s OutOfMemory share may = tt
full_from (Terms terms) from s e share may = tt
