-- Workers' ends, joined.
use Rattle.std.proofs.Common.{◌≡◌, ◌≢◌, ℕ, zero, suc, ◌+◌, ◌-◌, ◌%◌, ◌<◌, ◌≤◌, Some, Result, List, [], ◌∷◌, ◌++◌, length, slice_get, slice_index, refl, sym, ap, ◌∙◌, arith, subst}
use Rattle.std.proofs.lemmas.Option.{slice_get_within}
use Rattle.unique_table.specs.Sessions.{StoreId, Knowledge, Follows, HasPiece, depth_in}
use Rattle.dd_builder.specs.Parts.{HasPart, HasShare, KnowsParts, part_level}
use Rattle.std.proofs.lemmas.Bool.{cases_lt}

-- ---- parts

pub part_follows : (s s' : Knowledge) (q : ℕ) → Follows s s' → HasPart s q → HasPart s' q
part_follows s s' q f h = grind (arith, slice_index)

pub part_made : (s : Knowledge) (store : StoreId) (q id : ℕ) → s.store ≡ store → HasPiece s q id →
    (known : (2 ≤ id → slice_index s.seen (id - 2) ≡ 0 → ⊥)) → part_level store.plan ≤ depth_in s id → HasPart s q
part_made s store q id same piece known level =
    record { id = id; piece = piece; known = known; level = subst (λ (z : StoreId). part_level z.plan ≤ depth_in s id) (sym same) level }

pub parts_follow : (s s' : Knowledge) (store : StoreId) → Follows s s' → KnowsParts store s → KnowsParts store s'
parts_follow s s' store f h = grind (arith, part_follows)

-- a part stays published
pub part_there : (s s' : Knowledge) (store : StoreId) (q : ℕ) → Follows s s' → KnowsParts store s → q < store.plan.roots → slice_index s'.pieces q ≡ 0 → ⊥
part_there s s' store q f h low empty =
    let p = (h.parts q (subst (λ (z : StoreId). q < z.plan.roots) (sym h.same) low)).piece in
    omega arith

-- the id that is collected stands where the part does
pub part_found : (s s' : Knowledge) (store : StoreId) (q id : ℕ) → Follows s s' → KnowsParts store s → q < store.plan.roots →
    HasPiece s' q id → part_level store.plan ≤ depth_in s' id
part_found s s' store q id f h low there =
    let part = h.parts q (subst (λ (z : StoreId). q < z.plan.roots) (sym h.same) low) in
    let is : part.id ≡ id = omega arith in
    let level : part_level s.store.plan ≤ depth_in s' part.id = omega arith in
    subst (λ k. part_level store.plan ≤ depth_in s' k) is (subst (λ (z : StoreId). part_level z.plan ≤ depth_in s' part.id) h.same level)

pub root_more : (s s' : Knowledge) (roots output place id : ℕ) → Follows s s' →
    ((j : ℕ) → j < output → slice_index s.pieces (roots + j) ≢ 0) → place ≡ roots + output → HasPiece s' place id → (j : ℕ) →
    j < output + 1 → slice_index s'.pieces (roots + j) ≢ 0
root_more s s' roots output place id f known at here j low empty = grind (arith, cases_lt, slice_index)

pub share_more : (s s' : Knowledge) (piece workers k : ℕ) → Follows s s' → ((q : ℕ) → q < piece → q % workers ≡ k → HasPart s q) →
    HasPart s' piece → (q : ℕ) → q < piece + 1 → q % workers ≡ k → HasPart s' q
share_more s s' piece workers k f built here q low e = grind (arith, cases_lt, part_follows)

pub share_other : (s : Knowledge) (piece workers k : ℕ) → ((q : ℕ) → q < piece → q % workers ≡ k → HasPart s q) →
    (piece % workers ≡ k → ⊥) → (q : ℕ) → q < piece + 1 → q % workers ≡ k → HasPart s q
share_other s piece workers k built ne q low e = grind (arith, cases_lt)

-- ---- ends in a list

last_end : {X : Type 0} (front : List X) (x : X) → slice_get (front ++ x ∷ []) (length front) ≡ Some x
last_end [] x = refl
last_end (y ∷ ys) x = last_end ys x

front_end : {X : Type 0} (front : List X) (x : X) (k : ℕ) → k < length front → slice_get (front ++ x ∷ []) k ≡ slice_get front k
front_end [] x k l = absurd (omega arith)
front_end (y ∷ ys) x zero l = refl
front_end (y ∷ ys) x (suc k) l = front_end ys x k (omega arith)

abbrev pub End : Type 0
End = Result Knowledge Knowledge

-- what holds of each end holds of the last one and of those before it
module _ (P : ℕ → End → Type 0) (items front : List End) (end : End) (e : items ≡ front ++ end ∷ [])
    (h : (k : ℕ) (x : End) → slice_get items k ≡ Some x → P k x) where
  pub ends_last : P (length front) end
  ends_last = h (length front) end (ap (λ xs. slice_get xs (length front)) e ∙ last_end front end)

  pub ends_front : (k : ℕ) (x : End) → slice_get front k ≡ Some x → P k x
  ends_front k x at = h k x (ap (λ xs. slice_get xs k) e ∙ (front_end front end k (slice_get_within front k x at) ∙ at))

-- ---- the union of shares

-- with the last worker's share
pub joined_first : (s : Knowledge) (workers left : ℕ) → 0 < workers → left + 1 ≡ workers → HasShare s workers left → (q : ℕ) →
    q < s.store.plan.roots → left ≤ q % workers → HasPart s q
joined_first s workers left some all h q low past = grind arith

pub joined_more : (s t joint : Knowledge) (workers left k : ℕ) → Follows s joint → Follows t joint → s.store ≡ t.store → left + 1 ≡ k →
    ((q : ℕ) → q < s.store.plan.roots → k ≤ q % workers → HasPart s q) → HasShare t workers left
    → (q : ℕ) → q < joint.store.plan.roots → left ≤ q % workers → HasPart joint q
joined_more s t joint workers left k fs ft same next known h q low past = grind (arith, part_follows)
