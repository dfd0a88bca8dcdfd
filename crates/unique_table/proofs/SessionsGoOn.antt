-- A session that goes on.
use Rattle.std.proofs.Common.{◌≡◌, ℕ, ◌≤◌, ◌++◌, List, [], ◌∷◌, sym, refl, subst, arith}
use Rattle.std.specs.List.{All}
use Rattle.std.proofs.lemmas.List.Elements.{All-push}
use Rattle.node_words.specs.Nodes.{AreNodeWords, Grows}
use Rattle.node_words.proofs.OneMoreNode.{grows_full, grows_refl, grows_trans}
use Rattle.node_words.proofs.Functions.{function_grows, denotes_grows, depth_grows}
use Rattle.unique_table.specs.Plans.{levels_of}
use Rattle.unique_table.specs.Sessions.{Knowledge, Follows, Knows, IsKnownBelow, depth_in}
use Rattle.unique_table.specs.Stakes.{IsNoLess}
use Rattle.unique_table.proofs.Stakes.{no_less_same, no_less_trans}

pub follows : (s s' : Knowledge) → AreNodeWords (levels_of s.store.plan) s.seen → s'.store ≡ s.store → IsNoLess s.stake s'.stake →
    Grows s.seen s'.seen → Grows s.pieces s'.pieces → Follows s s'
follows s s' are same no_less g gp = grind (arith, grows_full, function_grows, denotes_grows, depth_grows)

pub follows_refl : (s : Knowledge) → AreNodeWords (levels_of s.store.plan) s.seen → Follows s s
follows_refl s are = follows s s are refl (no_less_same s.stake s.stake refl) (grows_refl s.seen) (grows_refl s.pieces)

pub follows_trans : (a b c : Knowledge) → Follows a b → Follows b c → Follows a c
follows_trans a b c f g = grind (arith, no_less_trans, grows_trans)

-- ids below a level, or from a level on, stay so
pub known_below_follows : (s s' : Knowledge) (level id : ℕ) → Follows s s' → IsKnownBelow s level id → IsKnownBelow s' level id
known_below_follows s s' level id f k = (f.knows id k.0, omega arith)

pub all_below : (s s' : Knowledge) (level : ℕ) (ids : List ℕ) → Follows s s' → All (IsKnownBelow s level) ids → All (IsKnownBelow s' level) ids
all_below s s' level ids f all k d low = known_below_follows s s' level _ f (all k d low)

abbrev pub IsFrom : Knowledge → ℕ → ℕ → Type 0
IsFrom s level id = Knows s id × (level ≤ depth_in s id)

pub all_from : (s s' : Knowledge) (level : ℕ) (ids : List ℕ) → Follows s s' → All (IsFrom s level) ids → All (IsFrom s' level) ids
all_from s s' level ids f all k d low = let h = all k d low in (f.knows _ h.0, omega arith)

pub all_more : (s s' : Knowledge) (level id : ℕ) (ids more : List ℕ) → Follows s s' → All (IsFrom s level) ids → Knows s' id →
    level ≤ depth_in s' id → more ≡ ids ++ id ∷ [] → All (IsFrom s' level) more
all_more s s' level id ids more f all known deep is =
    subst (λ (z : List ℕ). All (IsFrom s' level) z) (sym is)
    (All-push (IsFrom s' level) ids id (all_from s s' level ids f all) (known, deep))
