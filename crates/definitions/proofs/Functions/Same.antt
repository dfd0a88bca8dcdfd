-- Functions and the functions of their truth tables are the same, and so is all that is counted of them.
--     AllSame n F G, turned      function by function the same, either way round
--     tables_same      the functions of the truth tables of F
--     level_counts_same, size_same      level counts and sizes
use Rattle.std.proofs.Common.{◌≡◌, ℕ, ◌^◌, Bool, true, false, cond, List, [], ◌∷◌, ◌++◌, length, map, take, slice_index, refl, sym, ap, ◌∙◌}
use Rattle.std.specs.List.{AllZip, filter, range_with_len, sum}
use Rattle.std.specs.Set.{distinct_count}
use Rattle.std.proofs.lemmas.List.{length-map}
use Rattle.definitions.specs.Functions.{Function, SameFunction, from_table, points, restrict, table, same_table, depends}
use Rattle.definitions.specs.Levels.{subfunctions, reach, dependents, level_count, level_counts, size_under}
use Rattle.definitions.proofs.Functions.Tables.{restrict_same, same_from_table, table_same, depends_same}
use Rattle.definitions.proofs.Bits.Points.{table-from_table, point_count}

abbrev pub AllSame : ℕ → List Function → List Function → Type 0
AllSame n F G = AllZip (SameFunction n) F G

pub turned : (n : ℕ) (F G : List Function) → AllSame n F G → AllSame n G F
unfolding SameFunction
turned n [] [] h = tt
turned n [] (g ∷ G) h = absurd h
turned n (f ∷ F) [] h = absurd h
turned n (f ∷ F) (g ∷ G) h = ((λ p l. sym (h.0 p l)), turned n F G h.1)

same_append : (n : ℕ) (F G F' G' : List Function) → AllSame n F G → AllSame n F' G' → AllSame n (F ++ F') (G ++ G')
same_append n [] [] F' G' a b = b
same_append n [] (g ∷ G) F' G' a b = absurd a
same_append n (f ∷ F) [] F' G' a b = absurd a
same_append n (f ∷ F) (g ∷ G) F' G' a b = (a.0, same_append n F G F' G' a.1 b)

same_subfunctions : (n : ℕ) (xs : List ℕ) (f g : Function) → SameFunction n f g → AllSame n (subfunctions xs f) (subfunctions xs g)
unfolding subfunctions
same_subfunctions n [] f g h = (h, tt)
same_subfunctions n (x ∷ xs) f g h =
    same_append n _ _ _ _ (same_subfunctions n xs (restrict x false f) (restrict x false g) (restrict_same n x false f g h))
    (same_subfunctions n xs (restrict x true f) (restrict x true g) (restrict_same n x true f g h))

-- what restrictions reach
pub same_reach : (n : ℕ) (xs : List ℕ) (F G : List Function) → AllSame n F G → AllSame n (reach F xs) (reach G xs)
unfolding reach
same_reach n xs [] [] h = tt
same_reach n xs [] (g ∷ G) h = absurd h
same_reach n xs (f ∷ F) [] h = absurd h
same_reach n xs (f ∷ F) (g ∷ G) h = same_append n _ _ _ _ (same_subfunctions n xs f g h.0) (same_reach n xs F G h.1)

counted_tables : (n x : ℕ) (F G : List Function) → AllSame n F G → map (table n) (filter (λ f. depends n f x) F) ≡ map (table n) (filter (λ f. depends n f x) G)
counted_tables n x [] [] h = refl
counted_tables n x [] (g ∷ G) h = absurd h
counted_tables n x (f ∷ F) [] h = absurd h
counted_tables n x (f ∷ F) (g ∷ G) h = by (depends n f x) (depends n g x) (depends_same n f g x h.0) (table_same n f g h.0) (counted_tables n x F G h.1)
  where
    by : (a b : Bool) → a ≡ b → table n f ≡ table n g → map (table n) (filter (λ f. depends n f x) F) ≡ map (table n) (filter (λ f. depends n f x) G) →
        map (table n) (cond a (f ∷ filter (λ f. depends n f x) F) (filter (λ f. depends n f x) F)) ≡ map (table n)
        (cond b (g ∷ filter (λ f. depends n f x) G) (filter (λ f. depends n f x) G))
    by true true e t r = λ i. t i ∷ r i
    by false false e t r = r
    by true false e t r = absurd (cc)
    by false true e t r = absurd (cc)

pub same_dependents : (n x : ℕ) (F G : List Function) → AllSame n F G → dependents n F x ≡ dependents n G x
unfolding dependents
same_dependents n x F G h = ap (distinct_count same_table) (counted_tables n x F G h)

pub level_count_same : (n : ℕ) (F G : List Function) → AllSame n F G → (order : List ℕ) (i : ℕ) → level_count n F order i ≡ level_count n G order i
unfolding level_count
level_count_same n F G h order i = same_dependents n (slice_index order i) (reach F (take i order)) (reach G (take i order)) (same_reach n (take i order) F G h)

pub level_counts_same : (n : ℕ) (F G : List Function) → AllSame n F G → (order : List ℕ) → level_counts n F order ≡ level_counts n G order
unfolding level_counts
level_counts_same n F G h order = λ i. map (λ k. level_count_same n F G h order k i) (range_with_len 0 (length order))

pub size_same : (n : ℕ) (F G : List Function) → AllSame n F G → (order : List ℕ) → size_under n F order ≡ size_under n G order
unfolding size_under
size_same n F G h order = ap sum (level_counts_same n F G h order)

pub table_long : (n : ℕ) (f : Function) → length (table n f) ≡ 2 ^ n
unfolding table
table_long n f = length-map (points n) f ∙ point_count n

-- the functions of the truth tables of F
pub tables_same : (n : ℕ) (F : List Function) → AllSame n (map from_table (map (table n) F)) F
tables_same n [] = tt
tables_same n (f ∷ F) = (same_from_table n (from_table (table n f)) f (table-from_table n (table n f) (table_long n f)), tables_same n F)
