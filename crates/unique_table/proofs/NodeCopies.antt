-- Copying one more node.
use Rattle.std.proofs.Common.{◌≡◌, ◌≢◌, ℕ, zero, suc, ◌+◌, ◌-◌, ◌<◌, ◌≤◌, ◌⊎◌, ◌==◌, ◌++◌, Bool, true, false, nat_lt, if◌then◌else◌, Some, List, [], ◌∷◌, set, replicate, get_or, length, length-set, length-append, slice_get, get_or-set_same, get_or-set_other, sym, refl, ap, ◌∙◌, subst, inl, inr, ⊎_elim, arith, lt-ltb, le-ltb, add-zero}
use mathlib.Core.Logic.{dite}
use native.Mathlib.Decide.{ℕ_discrete}
use Rattle.std.proofs.lemmas.List.{get_or_past, get_or_read, length-replicate}
use Rattle.std.proofs.lemmas.Option.{slice_get_within}
use Rattle.definitions.specs.declared.refs.Ref.{Ref}
use Rattle.definitions.specs.declared.refs.Ref.TheVariants.{Terminal, Place}
use Rattle.definitions.specs.declared.refs.Node.{Node}
use Rattle.definitions.specs.Diagrams.{IsBefore}
use Rattle.definitions.proofs.Nodes.Appended.{get_left, get_right}
use Rattle.node_words.specs.Nodes.{IsKnown, Grows, AreNodeWords, level_of, low_of, high_of}
use Rattle.node_words.specs.Meaning.{depth}
use Rattle.node_words.proofs.OneMoreNode.{grows_trans, grows_full}
use Rattle.node_words.proofs.Meaning.{depth_node, le_or_lt, one_or_zero}
use Rattle.node_words.proofs.Functions.{depth_below}
use Rattle.unique_table.specs.Copies.{ref_of, node_of, IsEarlier, IsCopied, blank, blanks, AreCopied, HasPath, here, below, Extends, Copies}

choose : (b : Bool) (x y : Ref) → b ≡ true → (if b then x else y) ≡ x
choose b x y e = ap (λ (c : Bool). if c then x else y) e

refuse : (b : Bool) (x y : Ref) → b ≡ false → (if b then x else y) ≡ y
refuse b x y e = ap (λ (c : Bool). if c then x else y) e

pub ref_terminal : (numbers : List ℕ) (id : ℕ) → id < 2 → ref_of numbers id ≡ Terminal (id == 1)
ref_terminal numbers id h = choose (nat_lt id 2) (Terminal (id == 1)) (Place (get_or numbers (id - 2) 0 - 1)) (lt-ltb id 2 h)

pub ref_place : (numbers : List ℕ) (id : ℕ) → 2 ≤ id → ref_of numbers id ≡ Place (get_or numbers (id - 2) 0 - 1)
ref_place numbers id h = refuse (nat_lt id 2) (Terminal (id == 1)) (Place (get_or numbers (id - 2) 0 - 1)) (le-ltb id 2 h)

-- a ref stays as more is numbered
pub ref_grows : (xs ys : List ℕ) (id : ℕ) → Grows xs ys → IsKnown xs id → ref_of ys id ≡ ref_of xs id
ref_grows xs ys id g known = grind (arith, ⊎_elim, ref_place, ref_terminal, le_or_lt)

pub ref_before : (numbers : List ℕ) (p id : ℕ) → IsEarlier numbers p id → IsBefore (get_or numbers p 0 - 1) (ref_of numbers id)
ref_before numbers p id e = grind (arith, ⊎_elim, ref_place, ref_terminal, le_or_lt)

-- ids of one ref are one id
pub ref_one : (numbers : List ℕ) → ((p q : ℕ) → get_or numbers p 0 ≢ 0 → get_or numbers p 0 ≡ get_or numbers q 0 → p ≡ q) → (a b : ℕ) →
    IsKnown numbers a → IsKnown numbers b → ref_of numbers a ≡ ref_of numbers b → a ≡ b
ref_one numbers unequal a b ka kb e = grind (arith, ⊎_elim, ref_place, ref_terminal, le_or_lt, one_or_zero)

pub blanks_set : (xs : List ℕ) (p v : ℕ) → p < length xs → get_or xs p 0 ≡ 0 → v ≢ 0 → blanks (set xs p v) + 1 ≡ blanks xs
unfolding blanks
blanks_set [] p v few e some = absurd (omega arith)
blanks_set (x ∷ xs) zero zero few e some = absurd (some refl)
blanks_set (x ∷ xs) zero (suc v) few e some = omega (arith, ap blank e)
blanks_set (x ∷ xs) (suc p) v few e some = omega (arith, blanks_set xs p v (omega arith) e some)

-- ---- paths

pub leads_through : (nodes : List Node) (a b c : Ref) → HasPath nodes a b → HasPath nodes b c → HasPath nodes a c
leads_through nodes a b c l (here e) = subst (HasPath nodes a) e l
leads_through nodes a b c l (below k node m at child) = below k node (leads_through nodes a b (Place k) l m) at child

pub leads_extend : (nodes nodes' : List Node) (a b : Ref) → Extends nodes nodes' → HasPath nodes a b → HasPath nodes' a b
leads_extend nodes nodes' a b x (here e) = here e
leads_extend nodes nodes' a b x (below k node m at child) =
    below k node (leads_extend nodes nodes' a (Place k) x m) (x.same k (slice_get_within nodes k node at) ∙ at) child

pub extends_trans : (xs ys zs : List Node) → Extends xs ys → Extends ys zs → Extends xs zs
extends_trans xs ys zs a b = record { longer = omega arith; same = λ k few. b.same k (omega arith) ∙ a.same k few }

pub extends_push : (nodes : List Node) (node : Node) → Extends nodes (nodes ++ node ∷ [])
extends_push nodes node = record { longer = simp length-append (omega arith); same = λ k few. get_left nodes (node ∷ []) k few }

pub last_node : (nodes : List Node) (node : Node) → slice_get (nodes ++ node ∷ []) (length nodes) ≡ Some node
last_node nodes node = ap (slice_get (nodes ++ node ∷ [])) (sym (add-zero (length nodes))) ∙ get_right nodes (node ∷ []) 0

-- ---- the next copy

module _ (order ws numbers : List ℕ) (nodes : List Node) (c : AreCopied order ws numbers nodes) (p : ℕ) (blank_p : get_or numbers p 0 ≡ 0)
    (inside : p < length numbers) (full : get_or ws p 0 ≢ 0)
    (known_low : IsKnown numbers (low_of (get_or ws p 0))) (known_high : IsKnown numbers (high_of (get_or ws p 0))) where
  abbrev m : ℕ
  m = length nodes + 1

  abbrev numbers' : List ℕ
  numbers' = set numbers p m

  abbrev node : Node
  node = node_of order numbers (get_or ws p 0)

  abbrev nodes' : List Node
  nodes' = nodes ++ node ∷ []

  at_p : get_or numbers' p 0 ≡ m
  at_p = get_or-set_same numbers p m 0 inside

  at_other : (q : ℕ) → q ≢ p → get_or numbers' q 0 ≡ get_or numbers q 0
  at_other q ne = get_or-set_other numbers p q m 0 ne

  pub numbers_grow : Grows numbers numbers'
  numbers_grow q some = at_other q (λ e. some (ap (λ (z : ℕ). get_or numbers z 0) e ∙ blank_p))

  long : length nodes' ≡ m
  long = length-append nodes (node ∷ [])

  node_same : (w : ℕ) → IsKnown numbers (low_of w) → IsKnown numbers (high_of w) → node_of order numbers' w ≡ node_of order numbers w
  node_same w kl ku i =
      record {
        variable =
            get_or order (level_of w) 0;
        low =
            ref_grows numbers numbers' (low_of w) numbers_grow kl i;
        high = ref_grows numbers numbers' (high_of w) numbers_grow ku i;
      }

  -- an id with a number is earlier than the new copy
  earlier_p : (id : ℕ) → IsKnown numbers id → IsEarlier numbers' p id
  earlier_p id known two = let some = known two in let same = numbers_grow (id - 2) some in ((λ z. some (sym same ∙ z)), omega (arith, at_p))

  earlier_q : (q id : ℕ) → get_or numbers q 0 ≢ 0 → IsEarlier numbers q id → IsEarlier numbers' q id
  earlier_q q id some e two = let f = e two in let same = numbers_grow (id - 2) f.0 in ((λ z. f.0 (sym same ∙ z)), omega (arith, numbers_grow q some))

  copied_p : IsCopied order ws numbers' nodes' p
  copied_p = record {
    full = full;
    low = earlier_p (low_of (get_or ws p 0)) known_low;
    high = earlier_p (high_of (get_or ws p 0)) known_high;
    node = let e : get_or numbers' p 0 - 1 ≡ length nodes = omega (arith, at_p) in
        ap (slice_get nodes') e ∙ (last_node nodes node ∙ ap Some (sym (node_same (get_or ws p 0) known_low known_high)));
  }

  copied_q : (q : ℕ) → get_or numbers q 0 ≢ 0 → IsCopied order ws numbers' nodes' q
  copied_q q some = grind (arith, numbers_grow, earlier_q, node, slice_get, nodes', get_left, slice_get_within, node_same)

  pub copied_more : AreCopied order ws numbers' nodes'
  copied_more = record {
    size = length-set numbers p m ∙ c.size;
    copied = λ q some. dite (ℕ_discrete q p) (λ same. subst (IsCopied order ws numbers' nodes') (sym same) copied_p)
        (λ ne. copied_q q (λ e. some (at_other q ne ∙ e)));
    placed = λ k few. ⊎_elim
        (λ (less : k < length nodes). let old = c.placed k less in
        (old.0, at_other old.0 (λ e. no_number k (sym old.1 ∙ (ap (λ (z : ℕ). get_or numbers z 0) e ∙ blank_p))) ∙ old.1))
        (λ (last : length nodes ≤ k). (p, at_p ∙ omega (arith, long)))
        (less_or_last k (length nodes));
    small = λ q. dite (ℕ_discrete q p)
        (λ same. omega (arith, long, ap (λ (z : ℕ). get_or numbers' z 0) same ∙ at_p))
        (λ ne. omega (arith, long, at_other q ne));
    unequal = λ q r some same. dite (ℕ_discrete q p)
        (λ eq. dite (ℕ_discrete r p) (λ er. eq ∙ sym er)
        (λ nr. absurd (omega (arith, ap (λ (z : ℕ). get_or numbers' z 0) eq ∙ at_p, at_other r nr))))
        (λ nq. dite (ℕ_discrete r p)
        (λ er. absurd (omega (arith, ap (λ (z : ℕ). get_or numbers' z 0) er ∙ at_p, at_other q nq)))
        (λ nr. c.unequal q r (λ e. some (at_other q nq ∙ e)) (sym (at_other q nq) ∙ (same ∙ at_other r nr))));
    count = let l = long in let s = length-set numbers p m in omega (arith, blanks_set numbers p m inside blank_p (λ z. omega arith));
  }
    where
      no_number : (k : ℕ) → k + 1 ≡ 0 → ⊥
      no_number k e = omega arith

      less_or_last : (a b : ℕ) → (a < b) ⊎ (b ≤ a)
      less_or_last a b = grind arith

-- ---- what copying does

-- a node, after its children
module _ (order ws n0 n1 n2 : List ℕ) (d0 d1 d2 : List Node) (p : ℕ) (r1 r2 : Ref) (are : AreNodeWords (length order) ws)
    (blank_p : get_or n0 p 0 ≡ 0) (inside : p < length ws) (full : get_or ws p 0 ≢ 0)
    (c1 : Copies order ws n0 d0 n1 d1 (low_of (get_or ws p 0)) r1) (c2 : Copies order ws n1 d1 n2 d2 (high_of (get_or ws p 0)) r2) where
  abbrev w : ℕ
  w = get_or ws p 0

  abbrev made : Node
  made = record { variable = get_or order (level_of w) 0; low = r1; high = r2 }

  less_low : level_of w < depth (length order) ws (low_of w)
  less_low = let n = are p full in depth_below (length order) ws (level_of w) (low_of w) n.level n.low

  less_high : level_of w < depth (length order) ws (high_of w)
  less_high = let n = are p full in depth_below (length order) ws (level_of w) (high_of w) n.level n.high

  still_blank : get_or n2 p 0 ≡ 0
  still_blank = c2.untouched p less_high ∙ (c1.untouched p less_low ∙ blank_p)

  known_low : IsKnown n2 (low_of w)
  known_low two = grows_full n1 n2 (low_of w - 2) c2.grows (c1.known two)

  same_made : node_of order n2 w ≡ made
  same_made i = record { variable = get_or order (level_of w) 0; low = (ref_grows n1 n2 (low_of w) c2.grows c1.known ∙ sym c1.ref) i; high = sym c2.ref i }

  abbrev n3 : List ℕ
  n3 = set n2 p (length d2 + 1)

  abbrev d3 : List Node
  d3 = d2 ++ made ∷ []

  size2 : p < length n2
  size2 = omega arith

  copied3 : AreCopied order ws n3 d3
  copied3 = subst (λ (z : Node). AreCopied order ws n3 (d2 ++ z ∷ [])) same_made
      (copied_more order ws n2 d2 c2.copied p still_blank size2 full known_low c2.known)

  grow3 : Grows n2 n3
  grow3 = numbers_grow order ws n2 d2 c2.copied p still_blank size2 full known_low c2.known

  number_p : get_or n3 p 0 ≡ length d2 + 1
  number_p = get_or-set_same n2 p (length d2 + 1) 0 size2

  last : slice_get d3 (length d2) ≡ Some made
  last = last_node d2 made

  back : p + 2 - 2 ≡ p
  back = omega arith

  pub copies_node : Copies order ws n0 d0 n3 d3 (p + 2) (Place (length d2))
  copies_node = record {
    copied = copied3;
    known = λ two e. (let f = ap (λ (z : ℕ). get_or n3 z 0) (sym back) ∙ e in let g = number_p in omega arith);
    ref = sym (ref_place n3 (p + 2) (omega arith) ∙ (λ i. Place (get_or n3 (back i) 0 - 1)) ∙ ap (λ (z : ℕ). Place (z - 1)) number_p
        ∙ ap Place (let x : length d2 + 1 - 1 ≡ length d2 = omega arith in x));
    grows = grows_trans n0 n1 n3 c1.grows (grows_trans n1 n2 n3 c2.grows grow3);
    extends = extends_trans d0 d1 d3 c1.extends (extends_trans d1 d2 d3 c2.extends (extends_push d2 made));
    untouched = λ q above.
        let e = depth_node (length order) ws (p + 2) (omega arith) ∙ ap (λ (z : ℕ). level_of (get_or ws z 0)) back in let x = less_low in let y = less_high in
        let ne : q ≢ p = (λ same. not_above (level_of w) (subst (λ (z : ℕ). level_of (get_or ws z 0) < level_of w) same (omega arith))) in
        get_or-set_other n2 p q (length d2 + 1) 0 ne ∙ (c2.untouched q (omega arith) ∙ c1.untouched q (omega arith));
    leads = λ k past few. ⊎_elim
        (λ (old : k < length d2). ⊎_elim
        (λ (second : length d1 ≤ k). leads_through d3 (Place (length d2)) r2 (Place k) (below (length d2) made (here refl) last (inr refl))
        (leads_extend d2 d3 r2 (Place k) (extends_push d2 made) (c2.leads k second old)))
        (λ (first : k < length d1). leads_through d3 (Place (length d2)) r1 (Place k) (below (length d2) made (here refl) last (inl refl))
        (leads_extend d1 d3 r1 (Place k) (extends_trans d1 d2 d3 c2.extends (extends_push d2 made)) (c1.leads k past first)))
        (le_or_lt (length d1) k))
        (λ (new : length d2 ≤ k). let l = length-append d2 (made ∷ []) in here (ap Place (let x : length d2 ≡ k = omega arith in x)))
        (less_or_last k (length d2));
  }
    where
      not_above : (x : ℕ) → x < x → ⊥
      not_above x h = omega arith

      less_or_last : (a b : ℕ) → (a < b) ⊎ (b ≤ a)
      less_or_last a b = grind arith

inside_of : (ws : List ℕ) (p : ℕ) → get_or ws p 0 ≢ 0 → p < length ws
inside_of ws p full = ⊎_elim (λ (past : length ws ≤ p). absurd (full (get_or_past ws p 0 past))) (λ (few : p < length ws). few) (le_or_lt (length ws) p)

-- the same, as the code makes it
pub copies_step : (order ws n0 n1 n2 n3 : List ℕ) (d0 d1 d2 d3 : List Node) (id word level low high number : ℕ) (r1 r2 r : Ref) →
    AreNodeWords (length order) ws → 2 ≤ id → number ≡ get_or n0 (id - 2) number → number ≡ 0 → IsKnown ws id
    → length n0 ≡ length ws → word ≡ get_or ws (id - 2) 0 → level ≡ level_of word → low ≡ low_of word → high ≡ high_of word →
    Copies order ws n0 d0 n1 d1 low r1 → Copies order ws n1 d1 n2 d2 high r2
    → n3 ≡ set n2 (id - 2) (length d2 + 1) → d3 ≡ d2 ++ (record { variable = get_or order level 0; low = r1; high = r2 }) ∷ [] →
    r ≡ Place (length d2) → Copies order ws n0 d0 n3 d3 id r
copies_step order ws n0 n1 n2 n3 d0 d1 d2 d3 id word level low high number r1 r2 r are two number_is blank known size word_is level_is
    low_is high_is c1 c2 n3_is d3_is r_is =
    let p : ℕ = id - 2 in let w : ℕ = get_or ws p 0 in let inside : p < length ws = inside_of ws p (known two) in
    let blank_p : get_or n0 p 0 ≡ 0 = sym (get_or_read n0 p number (omega arith) number_is 0) ∙ blank in
    let c1' : Copies order ws n0 d0 n1 d1 (low_of w) r1 = subst (λ (z : ℕ). Copies order ws n0 d0 n1 d1 z r1) (low_is ∙ ap low_of word_is) c1 in
    let c2' : Copies order ws n1 d1 n2 d2 (high_of w) r2 = subst (λ (z : ℕ). Copies order ws n1 d1 n2 d2 z r2) (high_is ∙ ap high_of word_is) c2 in
    let whole = copies_node order ws n0 n1 n2 d0 d1 d2 p r1 r2 are blank_p inside (known two) c1' c2' in
    let back : p + 2 ≡ id = omega arith in
    let d3_is' : d2 ++ (record { variable = get_or order (level_of w) 0; low = r1; high = r2 }) ∷ [] ≡ d3 =
    (λ i. d2 ++ (record { variable = get_or order ((ap level_of (sym word_is) ∙ sym level_is) i) 0; low = r1; high = r2 }) ∷ [])
    ∙ sym d3_is in
    subst (λ (z : List ℕ × List Node × ℕ × Ref). Copies order ws n0 d0 z.0 z.1 z.2 z.3) (λ i. (sym n3_is i, d3_is' i, back i, sym r_is i)) whole

no_number : (n p z : ℕ) → get_or (replicate n z) p z ≡ z
no_number zero p z = refl
no_number (suc n) zero z = refl
no_number (suc n) (suc p) z = no_number n p z

all_blank : (n : ℕ) → blanks (replicate n 0) ≡ n
unfolding blanks
all_blank zero = refl
all_blank (suc n) = omega (arith, all_blank n)

-- no copy yet
pub copied_none : (order ws : List ℕ) (places : ℕ) → length ws ≡ places → AreCopied order ws (replicate places 0) []
copied_none order ws places size = grind (arith, length-replicate, no_number, all_blank)
