-- Levels made from the top of a reduced diagram.
--     Built      the levels so far, and the cut below them
--     built_none, built_more, built_all      at the start, one level more, and all
use Rattle.std.proofs.Common.{◌≡◌, ℕ, zero, suc, ◌+◌, ◌*◌, ◌^◌, ◌<◌, ◌≤◌, Bool, true, false, inl, inr, List, [], ◌∷◌, ◌++◌, map, length, get_or, take, refl, sym, ap, ap₂, ◌∙◌, subst, arith, add-one, pow-suc}
use Rattle.std.proofs.lemmas.List.{length-map, length_push, take_more, take_all, length-take-le}
use Rattle.std.proofs.lemmas.Option.{slice_get_cases}
use Rattle.definitions.specs.declared.refs.Ref.{Ref}
use Rattle.definitions.specs.declared.refs.Ref.TheVariants.{Terminal, Place}
use Rattle.definitions.specs.declared.refs.Node.{Node}
use Rattle.definitions.specs.Functions.{Point, bit, SameFunction}
use Rattle.definitions.specs.Orders.{has, IsOrder, place_in}
use Rattle.definitions.specs.Diagrams.{Graph, IsDiagram, IsBefore, IsOrdered, IsReduced, value}
use Rattle.definitions.proofs.Lists.Orders.{place_at, place_get}
use Rattle.definitions.proofs.Nodes.Paths.{value_terminal, StandsFrom, stands_top}
use Rattle.sifting.specs.Leveled.{Children, child, at, place_below, function_at, places, IsLevel, AreLevels, AreRoots}
use Rattle.definitions.proofs.Functions.Tables.{table_same}
use Rattle.sifting.specs.declared.levels.Level.{Level}
use Rattle.sifting.specs.Managed.{truth_tables_of}
use Rattle.sifting.specs.LevelLists.{nodes_of, problem_at}
use Rattle.definitions.specs.RefNumbers.{ref_named}
use Rattle.sifting.specs.Cuts.{code_of, split_ref, ref_at, is_true, Splits, Numbers, IsBuilt}
use Rattle.sifting.proofs.Paths.{place_inside}
use Rattle.sifting.proofs.ManagerFields.{twice}
use Rattle.sifting.proofs.SplitCuts.{half, ref_code, code_ref, Stands, split_value, split_stands, split_tells}
use Rattle.definitions.proofs.Sifting.Placements.{own_place}

-- ---- lists

ref_at-map : (codes : List ℕ) (k : ℕ) → k < length codes → ref_at (map ref_named codes) k ≡ ref_named (get_or codes k 0)
ref_at-map [] k h = absurd (omega arith)
ref_at-map (c ∷ codes) zero h = refl
ref_at-map (c ∷ codes) (suc k) h = ref_at-map codes k (omega arith)

true_at : (cut : List Ref) (k : ℕ) → k < length cut → get_or (map is_true cut) k false ≡ is_true (ref_at cut k)
true_at [] k h = absurd (omega arith)
true_at (r ∷ cut) zero h = refl
true_at (r ∷ cut) (suc k) h = true_at cut k (omega arith)

path_more : (levels : List (List Children)) (xs : List ℕ) (L : List Children) (x k : ℕ) (p : Point) → length levels ≡ length xs →
    place_below (levels ++ L ∷ []) (xs ++ x ∷ []) k p ≡ child (bit p x) (at L (place_below levels xs k p))
unfolding place_below
path_more [] [] L x k p e = refl
path_more [] (y ∷ xs) L x k p e = absurd (omega arith)
path_more (M ∷ levels) [] L x k p e = absurd (omega arith)
path_more (M ∷ levels) (y ∷ xs) L x k p e = path_more levels xs L x (child (bit p y) (at M k)) p (omega arith)

places_more : (levels : List (List Children)) (T S : List Bool) (L : List Children) → length L ≡ length T → places (levels ++ L ∷ []) S ≡ places levels T
places_more [] T S L e = e
places_more (M ∷ levels) T S L e = refl

levels_more : (most : ℕ) (levels : List (List Children)) (T S : List Bool) (L : List Children) → AreLevels most T levels →
    IsLevel (length S) L → length L ≡ length T → length L ≤ most * 2 ^ length levels →
    AreLevels most S (levels ++ L ∷ [])
levels_more most [] T S L ok level e few = (level, let t : most * 2 ^ 0 ≡ most = omega arith in omega arith, tt)
levels_more most (M ∷ levels) T S L ok level e few = (
  subst (λ m. IsLevel m M) (sym (places_more levels T S L e)) ok.0,
  ok.1,
  levels_more (2 * most) levels T S L ok.2 level e (let t = twice most (length levels) in omega arith),
)

-- ---- the levels so far

-- the levels so far, and the cut below them
pub record Built (order : List ℕ) (d : Graph) (numbers : List ℕ) (done : ℕ) (levels : List (List Children)) (cut : List Ref) : Type 0 where
  pub long : length levels ≡ done
  pub few : length cut ≤ 16 * 2 ^ done
  pub levels_are : AreLevels 16 (map is_true cut) levels
  pub roots_are : AreRoots (places levels (map is_true cut)) numbers
  pub many : length numbers ≡ length d.roots
  pub once : (j k : ℕ) → j < length cut → k < length cut → ref_at cut j ≡ ref_at cut k → j ≡ k
  pub stand : (k : ℕ) → k < length cut → Stands order d done (ref_at cut k)
  pub values : (j : ℕ) → j < length d.roots → (p : Point) →
      value d.nodes (ref_at d.roots j) p ≡ value d.nodes (ref_at cut (place_below levels (take done order) (get_or numbers j 0) p)) p

module _ (order : List ℕ) (o : IsOrder (length order) order) (d : Graph) (ok : IsDiagram (length order) d) (ordered : IsOrdered order d)
    (reduced : IsReduced d) (numbers : List ℕ) where
  -- the variable of a level
  pub variable_at : (done : ℕ) → done < length order →
      (place_in order (get_or order done 0) ≡ done) × ((y : ℕ) → place_in order y ≡ done → y ≡ get_or order done 0)
  variable_at done h = (place_get order done o.once h, λ y e. sym (place_at order y (omega arith)) ∙ ap (λ k. get_or order k 0) e)

  -- where a path of a root comes to
  place_small : (done : ℕ) (levels : List (List Children)) (cut : List Ref) → done ≤ length order → Built order d numbers done levels cut →
      (j : ℕ) → j < length d.roots → (p : Point) →
      place_below levels (take done order) (get_or numbers j 0) p < length cut
  place_small done levels cut le b j h p = grind (arith, length-take-le, place_inside, length-map)

  -- above all levels
  pub built_none : (cut : List Ref) → length d.roots ≤ 16 → Numbers d.roots numbers cut →
      ((j : ℕ) → j < length d.roots → IsBefore (length d.nodes) (ref_at d.roots j)) → Built order d numbers 0 [] cut
  unfolding place_below
  built_none cut few n before = record {
    long = refl;
    few = let f = n.first.few in let t : 16 * 2 ^ 0 ≡ 16 = refl in omega (arith, long);
    levels_are = tt;
    roots_are = record {
      inside = λ j h. let i = n.first.inside j (let m = n.first.many in omega arith) in let s = length-map cut is_true in omega (arith, long);
      reached = λ k h. let r = n.first.reached k (let s = length-map cut is_true in omega (arith, long)) in
          (r.0, let m = n.first.many in let l = r.1 in omega arith, r.2);
    };
    many = n.first.many;
    once = λ j k a b e. n.first.once j k (omega (arith, long)) (omega (arith, long)) (codes_same j k (omega (arith, long)) (omega (arith, long)) e);
    stand = λ k h.
        let r = n.first.reached k (omega (arith, long)) in
        let is = root_is r.0 r.1 in
        let same : ref_at cut k ≡ ref_at d.roots r.0 = ap (ref_at cut) (sym r.2) ∙ is in
        (subst (IsBefore (length d.nodes)) (sym same) (before r.0 r.1), stands_top order d.nodes (ref_at cut k));
    values = λ j h p. ap (λ r. value d.nodes r p) (sym (root_is j h));
  }
    where
      long : length cut ≡ length n.codes
      long = ap length n.cut_is ∙ length-map n.codes ref_named

      at_is : (k : ℕ) → k < length n.codes → ref_at cut k ≡ ref_named (get_or n.codes k 0)
      at_is k h = ap (λ c. ref_at c k) n.cut_is ∙ ref_at-map n.codes k h

      codes_same : (j k : ℕ) → j < length n.codes → k < length n.codes → ref_at cut j ≡ ref_at cut k → get_or n.codes j 0 ≡ get_or n.codes k 0
      codes_same j k a b e = sym (code_ref (get_or n.codes j 0)) ∙ ap code_of (sym (at_is j a) ∙ e ∙ at_is k b) ∙ code_ref (get_or n.codes k 0)

      root_is : (j : ℕ) → j < length d.roots → ref_at cut (get_or numbers j 0) ≡ ref_at d.roots j
      root_is j h = at_is (get_or numbers j 0) (n.first.inside j h) ∙ ap ref_named (n.first.numbered j h) ∙ ref_code (ref_at d.roots j)

  pub built_more : (done : ℕ) (levels : List (List Children)) (cut next : List Ref) (L : List Children) → done < length order →
      Built order d numbers done levels cut → Splits d.nodes (get_or order done 0) cut L next →
      Built order d numbers (done + 1) (levels ++ L ∷ []) next
  built_more done levels cut next L lt b s = record {
    long = length_push levels L ∙ ap (λ m. m + 1) b.long;
    few = let f = s.split.few in let g = b.few in let t = pow-suc 2 done in
        let e : 16 * 2 ^ (done + 1) ≡ 2 * (16 * 2 ^ done) = ap (λ k. 16 * 2 ^ k) (add-one done) ∙ omega arith in omega (arith, long);
    levels_are =
        levels_more 16 levels (map is_true cut) (map is_true next) L b.levels_are level
        (let m = s.split.many in let l = length-map cut is_true in omega arith)
        (let m = s.split.many in let g = b.few in let l = b.long in subst (λ k. length L ≤ 16 * 2 ^ k) (sym l) (omega arith));
    roots_are =
        subst (λ m. AreRoots m numbers)
        (sym (places_more levels (map is_true cut) (map is_true next) L
        (let m = s.split.many in let l = length-map cut is_true in omega arith)))
        b.roots_are;
    many = b.many;
    once = λ j k x y e. s.split.once j k (omega (arith, long)) (omega (arith, long)) (codes_same j k (omega (arith, long)) (omega (arith, long)) e);
    stand = stand;
    values = values;
  }
    where
      x : ℕ
      x = get_or order done 0

      long : length next ≡ length s.codes
      long = ap length s.next_is ∙ length-map s.codes ref_named

      at_is : (k : ℕ) → k < length s.codes → ref_at next k ≡ ref_named (get_or s.codes k 0)
      at_is k h = ap (λ c. ref_at c k) s.next_is ∙ ref_at-map s.codes k h

      codes_same : (j k : ℕ) → j < length s.codes → k < length s.codes → ref_at next j ≡ ref_at next k → get_or s.codes j 0 ≡ get_or s.codes k 0
      codes_same j k a c e = sym (code_ref (get_or s.codes j 0)) ∙ ap code_of (sym (at_is j a) ∙ e ∙ at_is k c) ∙ code_ref (get_or s.codes k 0)

      child_is : (k : ℕ) → k < length cut → (c : Bool) →
          (child c (at L k) < length s.codes)
          × (ref_at next (child c (at L k)) ≡ half c (split_ref d.nodes (get_or order done 0) (ref_at cut k)))
      child_is k h true = let i = (s.split.inside k h).1 in
          (i, at_is (at L k).1 i ∙ ap ref_named (s.split.on k h) ∙ ref_code (split_ref d.nodes (get_or order done 0) (ref_at cut k)).1)
      child_is k h false = let i = (s.split.inside k h).0 in
          (i, at_is (at L k).0 i ∙ ap ref_named (s.split.off k h) ∙ ref_code (split_ref d.nodes (get_or order done 0) (ref_at cut k)).0)

      level : IsLevel (length (map is_true next)) L
      level = record {
        inside = λ k h. let m = s.split.many in let i = s.split.inside k (omega arith) in let l = length-map next is_true in
            (omega (arith, i.0, long), omega (arith, i.1, long));
        once = λ j k a c e.
            let m = s.split.many in
            let a' : j < length cut = omega arith in
            let c' : k < length cut = omega arith in
            let low = sym (child_is j a' false).1 ∙ ap (λ (v : Children). ref_at next v.0) e ∙ (child_is k c' false).1 in
            let high = sym (child_is j a' true).1 ∙ ap (λ (v : Children). ref_at next v.1) e ∙ (child_is k c' true).1 in
            b.once j k a' c'
            (split_tells (length order) order d ok ordered reduced done (get_or order done 0) (ref_at cut j) (ref_at cut k)
            (b.stand j a').0 (b.stand k c').0 low high);
        reached = λ j h. let l = length-map next is_true in let m = s.split.many in let r = s.split.reached j (omega (arith, long)) in
            (r.0, let q = r.1 in omega arith, r.2);
      }

      stand : (k : ℕ) → k < length next → Stands order d (done + 1) (ref_at next k)
      stand k h =
          let r = s.split.reached k (omega (arith, long)) in
          let v = variable_at done lt in
          let by : (c : Bool) → child c (at L r.0) ≡ k → Stands order d (done + 1) (ref_at next k) = λ c e.
          subst (λ i. Stands order d i (ref_at next k)) (sym (add-one done))
          (subst (Stands order d (suc done)) (sym ((child_is r.0 r.1 c).1) ∙ ap (ref_at next) e)
          (split_stands (length order) order d ok ordered done (get_or order done 0) v.1 v.0 c (ref_at cut r.0) (b.stand r.0 r.1))) in
          elim r.2 [ inl e ↦ by false e | inr e ↦ by true e ]

      values : (j : ℕ) → j < length d.roots → (p : Point) →
          value d.nodes (ref_at d.roots j) p ≡ value d.nodes
          (ref_at next (place_below (levels ++ L ∷ []) (take (done + 1) order) (get_or numbers j 0) p)) p
      values j h p =
          let k = place_below levels (take done order) (get_or numbers j 0) p in
          let small = place_small done levels cut (omega arith) b j h p in
          let t = length-take-le done order (omega arith) in
          let l = b.long in
          b.values j h p ∙ split_value (length order) order d ok ordered (get_or order done 0) p (ref_at cut k)
          ∙ ap (λ r. value d.nodes r p) (sym (child_is k small (bit p (get_or order done 0))).1
          ∙ ap (ref_at next)
          (sym (path_more levels (take done order) L (get_or order done 0) (get_or numbers j 0) p (omega arith))
          ∙ ap (λ xs. place_below (levels ++ L ∷ []) xs (get_or numbers j 0) p) (sym (take_more order done 0 lt))))

  -- a ref that stands below all levels is a terminal
  terminal : (r : Ref) → Stands order d (length order) r → (b : Bool) × (r ≡ Terminal b)
  unfolding StandsFrom
  terminal (Terminal b) s = (b, refl)
  terminal (Place k) s =
      elim (slice_get_cases d.nodes k).1 [
        | inl found ↦
            let x = found.0.variable in
            let h = (ok.nodes k found.0 found.2).variable in
            let low = s.1 found.0 found.2 in
            let there = (o.all x).1 h in
            absurd (let q = own x there in omega arith)
        | inr past ↦ absurd (omega (arith, past.0, s.0))
      ]
    where
      own : (x : ℕ) → has order x ≡ true → place_in order x < length order
      own x there = (own_place x order o.once there).1

  pub built_all : (levels : List (List Children)) (cut : List Ref) → Built order d numbers (length order) levels cut →
      IsBuilt order d.nodes d.roots numbers levels (map is_true cut)
  unfolding SameFunction function_at
  built_all levels cut b = grind (arith, place_small, take_all, terminal, true_at, value_terminal, length-map)

-- ---- the truth tables

same_maps : {X : Type 0} (f : ℕ → X) (g : Ref → X) (ns : List ℕ) (rs : List Ref) → length ns ≡ length rs →
    ((j : ℕ) → j < length rs → f (get_or ns j 0) ≡ g (ref_at rs j)) → map f ns ≡ map g rs
same_maps f g [] [] e h = refl
same_maps f g [] (r ∷ rs) e h = absurd (omega arith)
same_maps f g (n ∷ ns) [] e h = absurd (omega arith)
same_maps f g (n ∷ ns) (r ∷ rs) e h = ap₂ (λ x xs. x ∷ xs) (h 0 (omega arith)) (same_maps f g ns rs (omega arith) (λ j k. h (suc j) (omega arith)))

pub built_problem : (order : List ℕ) (nodes : List Node) (roots : List Ref) (numbers : List ℕ) (levels : List (List Children))
    (terminals : List Bool) →
    IsBuilt order nodes roots numbers levels terminals →
    problem_at levels terminals order numbers ≡ truth_tables_of (record { order = order; graph = record { nodes = nodes; roots = roots } })
unfolding problem_at truth_tables_of
built_problem order nodes roots numbers levels terminals b = grind (arith, same_maps, table_same)

pub nodes_more : (levels : List Level) (l : Level) → nodes_of (levels ++ l ∷ []) ≡ nodes_of levels ++ l.nodes.items ∷ []
unfolding nodes_of
nodes_more [] l = refl
nodes_more (m ∷ levels) l = ap (λ ns. m.nodes.items ∷ ns) (nodes_more levels l)
