-- Functions, their tables and their restrictions.
--     restrict_comm, restrict_again      restrictions of different variables commute; the inner one of a variable stays
--     table_same, same_from_table        equal functions have equal tables, and equal tables come from equal functions
--     depends_lem                        the test of dependence tells it
use Rattle.std.proofs.Common.{◌≡◌, ◌≢◌, ◌↔◌, ℕ, zero, suc, Bool, true, false, List, [], ◌∷◌, map, length, set, refl, sym, ap, ◌∙◌, arith, IsTrue}
use Rattle.std.specs.List.{flat_map, AllByRecursion}
use Rattle.std.specs.Bool.{beq}
use Rattle.std.specs.Cmp.Lexicographic.{pointwise_decides}
use Rattle.std.proofs.lemmas.Bool.{true≢false}
use Rattle.std.proofs.lemmas.List.{set_comm, set-set, length-set}
use Rattle.definitions.specs.Functions.{Point, Function, both_values, points, restrict, SameFunction, DependsOn, table, same_table, depends}

-- ---- restrictions

pub restrict_comm : (x y : ℕ) (b c : Bool) (f : Function) → x ≢ y → restrict x b (restrict y c f) ≡ restrict y c (restrict x b f)
unfolding restrict
restrict_comm x y b c f ne = λ i p. f (set_comm p x y b c ne i)

pub restrict_again : (x : ℕ) (b c : Bool) (f : Function) → restrict x b (restrict x c f) ≡ restrict x c f
unfolding restrict
restrict_again x b c f = λ i p. f (set-set p x b c i)

pub restrict_same : (n x : ℕ) (b : Bool) (f g : Function) → SameFunction n f g → SameFunction n (restrict x b f) (restrict x b g)
unfolding restrict SameFunction
restrict_same n x b f g h p l = h (set p x b) (length-set p x b ∙ l)

pub same_refl : (n : ℕ) (f : Function) → SameFunction n f f
unfolding SameFunction
same_refl n f p l = refl

pub same_sym : (n : ℕ) (f g : Function) → SameFunction n f g → SameFunction n g f
unfolding SameFunction
same_sym n f g h p l = sym (h p l)

pub same_trans : (n : ℕ) (f g k : Function) → SameFunction n f g → SameFunction n g k → SameFunction n f k
unfolding SameFunction
same_trans n f g k a b p l = a p l ∙ b p l

-- ---- all points

both_all : (P Q : Point → Type 0) → ((p : Point) → P p → Q (false ∷ p) × Q (true ∷ p)) → (ps : List Point) → AllByRecursion P ps →
    AllByRecursion Q (flat_map both_values ps)
both_all P Q step [] h = tt
both_all P Q step (p ∷ ps) h = let s = step p h.0 in (s.0, (s.1, both_all P Q step ps h.1))

both_from : (Q : Point → Type 0) (ps : List Point) → AllByRecursion Q (flat_map both_values ps) → AllByRecursion (λ p. Q (false ∷ p) × Q (true ∷ p)) ps
both_from Q [] h = tt
both_from Q (p ∷ ps) h = ((h.0, h.1.0), both_from Q ps h.1.1)

-- each listed point has n bits
pub points_long : (n : ℕ) → AllByRecursion (λ p. length p ≡ n) (points n)
unfolding points
points_long zero = (refl, tt)
points_long (suc n) = both_all (λ p. length p ≡ n) (λ p. length p ≡ suc n) (λ p e. (ap suc e, ap suc e)) (points n) (points_long n)

-- what holds of each listed point holds of each point with n bits
pub at_point : (n : ℕ) (P : Point → Type 0) → AllByRecursion P (points n) → (p : Point) → length p ≡ n → P p
unfolding points
at_point zero P h [] l = h.0
at_point zero P h (b ∷ p) l = absurd (omega arith)
at_point (suc n) P h [] l = absurd (omega arith)
at_point (suc n) P h (b ∷ p) l = by b (at_point n (λ q. P (false ∷ q) × P (true ∷ q)) (both_from P (points n) h) p (omega arith))
  where
    by : (c : Bool) → P (false ∷ p) × P (true ∷ p) → P (c ∷ p)
    by true k = k.1
    by false k = k.0

-- ---- tables

map_same : (f g : Function) (n : ℕ) → SameFunction n f g → (ps : List Point) → AllByRecursion (λ p. length p ≡ n) ps → map f ps ≡ map g ps
unfolding SameFunction
map_same f g n h [] l = refl
map_same f g n h (p ∷ ps) l = λ i. h p l.0 i ∷ map_same f g n h ps l.1 i

pub table_same : (n : ℕ) (f g : Function) → SameFunction n f g → table n f ≡ table n g
unfolding table
table_same n f g h = map_same f g n h (points n) (points_long n)

same_from_map : (f g : Function) (ps : List Point) → map f ps ≡ map g ps → AllByRecursion (λ p. f p ≡ g p) ps
same_from_map f g [] e = tt
same_from_map f g (p ∷ ps) e = (cc, same_from_map f g ps (cc))

pub same_from_table : (n : ℕ) (f g : Function) → table n f ≡ table n g → SameFunction n f g
unfolding table SameFunction
same_from_table n f g e p l = at_point n (λ q. f q ≡ g q) (same_from_map f g (points n) e) p l

pub beq_decides : (x y : Bool) → (beq x y ≡ true → x ≡ y) × (x ≡ y → beq x y ≡ true)
beq_decides x y = grind arith

pub same_table_decides : (s t : List Bool) → (same_table s t ≡ true → s ≡ t) × (s ≡ t → same_table s t ≡ true)
same_table_decides = pointwise_decides beq_decides

-- ---- dependence

-- where the restrictions agree, the test is false
pub depends_false : (n : ℕ) (f : Function) (x : ℕ) → SameFunction n (restrict x false f) (restrict x true f) → depends n f x ≡ false
unfolding depends
depends_false n f x h = grind (arith, same_table_decides, table_same)

pub depends_same : (n : ℕ) (f g : Function) (x : ℕ) → SameFunction n f g → depends n f x ≡ depends n g x
unfolding depends
depends_same n f g x h = grind (arith, table_same, restrict_same)

pub depends_true : (n : ℕ) (f : Function) (x : ℕ) → depends n f x ≡ true → DependsOn n f x
unfolding DependsOn
depends_true n f x e h = true≢false (sym e ∙ depends_false n f x h)

-- the test tells dependence
pub depends_lem : (n : ℕ) (f : Function) (x : ℕ) → IsTrue (depends n f x) ↔ DependsOn n f x
unfolding DependsOn depends
depends_lem n f x = grind (arith, depends_true, same_from_table, same_table_decides)

-- where the test is false, the restrictions agree
pub depends_no : (n : ℕ) (f : Function) (x : ℕ) → depends n f x ≡ false → SameFunction n (restrict x false f) (restrict x true f)
unfolding depends
depends_no n f x e = grind (arith, same_from_table, same_table_decides)
