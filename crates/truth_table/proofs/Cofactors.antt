-- Cofactors, one variable after the other.
--     members_more, members_less      the members of a mask among the first variables
--     cofactor_start, cofactor_step      the words with no variable fixed, and with one more
use Rattle.std.proofs.Common.{◌≡◌, ℕ, ◌+◌, ◌^◌, Bool, true, false, cond, List, [], ◌∷◌, ◌++◌, length, map, refl, sym, ap, ◌∙◌, subst, eqb, zero-add}
use Rattle.std.specs.Int.{bit_at}
use Rattle.std.specs.List.{filter, range_with_len}
use Rattle.std.proofs.lemmas.List.FromFn.{filter_of_map_range_with_len_more}
use Rattle.definitions.specs.Functions.{Function, from_table, restrict, table, SameFunction}
use Rattle.definitions.specs.Orders.{members}
use Rattle.definitions.specs.Problems.{IsClean, TruthTables, table_at, table_in, words_per_table}
use Rattle.definitions.proofs.Bits.Points.{table-from_table}
use Rattle.definitions.proofs.Bits.Problems.{length-table_in}
use Rattle.definitions.proofs.Functions.Tables.{restrict_same, same_from_table, table_same}
use Rattle.truth_table.specs.Restrictions.{fixed}
use Rattle.std.proofs.lemmas.List.{append-nil}

map_id : (xs : List ℕ) → map (λ x. x) xs ≡ xs
map_id [] = refl
map_id (x ∷ xs) = ap (λ ys. x ∷ ys) (map_id xs)

members_next : (x care : ℕ) → members (x + 1) care ≡ members x care ++ cond (eqb (bit_at care x) 1) (x ∷ []) []
unfolding members
members_next x care =
    ap (filter (λ y. eqb (bit_at care y) 1)) (sym (map_id (range_with_len 0 (x + 1))))
    ∙ filter_of_map_range_with_len_more (λ y. eqb (bit_at care y) 1) (λ y. y) 0 x x (zero-add x)
    ∙ ap (λ ys. filter (λ y. eqb (bit_at care y) 1) ys ++ cond (eqb (bit_at care x) 1) (x ∷ []) []) (map_id (range_with_len 0 x))

pub members_more : (x care : ℕ) → eqb (bit_at care x) 1 ≡ true → members (x + 1) care ≡ members x care ++ x ∷ []
members_more x care e = members_next x care ∙ ap (λ b. members x care ++ cond b (x ∷ []) []) e

pub members_less : (x care : ℕ) → eqb (bit_at care x) 1 ≡ false → members (x + 1) care ≡ members x care
members_less x care e = members_next x care ∙ ap (λ b. members x care ++ cond b (x ∷ []) []) e ∙ append-nil (members x care)

fixed_last : (xs : List ℕ) (x value : ℕ) (f : Function) → fixed (xs ++ x ∷ []) value f ≡ restrict x (eqb (bit_at value x) 1) (fixed xs value f)
unfolding fixed
fixed_last [] x value f = refl
fixed_last (y ∷ ys) x value f = fixed_last ys x value (restrict y (eqb (bit_at value y) 1) f)

-- with no variable fixed
pub cofactor_none : (n care value : ℕ) (t : List Bool) → length t ≡ 2 ^ n → t ≡ table n (fixed (members 0 care) value (from_table t))
unfolding fixed members
cofactor_none n care value t l = sym (table-from_table n t l)

-- with one more variable fixed
pub cofactor_more : (n x care value : ℕ) (t old new : List Bool) (b : Bool) → eqb (bit_at care x) 1 ≡ true → b ≡ eqb (bit_at value x) 1 →
    old ≡ table n (fixed (members x care) value (from_table t)) → length old ≡ 2 ^ n → new ≡ table n (restrict x b (from_table old)) →
    new ≡ table n (fixed (members (x + 1) care) value (from_table t))
unfolding SameFunction
cofactor_more n x care value t old new b m v e l s =
    let g : Function = fixed (members x care) value (from_table t) in
    let same : SameFunction n (from_table old) g = same_from_table n (from_table old) g (table-from_table n old l ∙ e) in
    s ∙ table_same n (restrict x b (from_table old)) (restrict x b g) (restrict_same n x b (from_table old) g same)
    ∙ ap (λ c. table n (restrict x c g)) v
    ∙ sym (ap (table n)
    (ap (λ xs. fixed xs value (from_table t)) (members_more x care m) ∙ fixed_last (members x care) x value (from_table t)))

pub cofactor_start : (t now : TruthTables) (n output care value : ℕ) (slice words : List ℕ) → t ≡ now → n ≡ t.inputs →
    length slice ≡ words_per_table t.inputs → table_in t.inputs slice ≡ table_at t output →
    IsClean t.inputs slice → words ≡ slice →
    (table_in n words ≡ table n (fixed (members 0 care) value (from_table (table_at now output)))) × (length words ≡ words_per_table n)
    × IsClean n words
cofactor_start t now n output care value slice words v e l s c w =
    let here : table_in n words ≡ table_at now output = (λ i. table_in (e i) (w i)) ∙ s ∙ ap (λ u. table_at u output) v in
    let long : length (table_at now output) ≡ 2 ^ n = sym (ap length here) ∙ length-table_in n words in (
      here ∙ cofactor_none n care value (table_at now output) long,
      ap length w ∙ l
          ∙ sym (ap words_per_table e),
      subst (λ (z : ℕ). IsClean z words) (sym e) (subst (IsClean t.inputs) (sym w) c),
    )

-- the words with one more variable fixed
pub cofactor_step : (n x care value : ℕ) (t : List Bool) (old mid new after : List ℕ) (b : Bool) → eqb (bit_at care x) 1 ≡ true → b ≡ eqb (bit_at value x) 1 →
    table_in n old ≡ table n (fixed (members x care) value (from_table t)) → mid ≡ old →
    table_in n new ≡ table n (restrict x b (from_table (table_in n mid))) → after ≡ new →
    table_in n after ≡ table n (fixed (members (x + 1) care) value (from_table t))
cofactor_step n x care value t old mid new after b m v e s r a =
    ap (table_in n) a
    ∙ cofactor_more n x care value t (table_in n old) (table_in n new) b m v e (length-table_in n old)
    (r ∙ ap (λ ws. table n (restrict x b (from_table (table_in n ws)))) s)
