-- Sessions that go on, and what ids denote.
--     stays      a session that does nothing goes on
--     means_same      an id denotes each function of the same values
--     makes_same, makes_node      a call makes the id of each function of the same values; a node that is made
--     makes_refused      a call that met a full store
--     function_zero, function_one      the functions of the terminals
use Rattle.std.proofs.Common.{◌≡◌, ℕ, ◌<◌, true, false, Result, Ok, Err, IfOk, IfErr, OnErr, IsErr, length, refl, ◌∙◌, subst, arith}
use Rattle.std.proofs.lemmas.Bool.{false≢true}
use Rattle.definitions.specs.Functions.{Point, Function, SameFunction}
use Rattle.node_words.specs.Nodes.{node_word}
use Rattle.node_words.specs.Meaning.{function_of, branch}
use Rattle.node_words.proofs.Meaning.{value_terminal, depth_terminal}
use Rattle.unique_table.specs.Plans.{levels_of, variable_at}
use Rattle.unique_table.specs.Sessions.{StoreId, Knowledge, Follows, GoesOn, IsNodeOf, MeetsFull, Knows, Means, function_in, depth_in}
use Rattle.unique_table.specs.declared.store.StoreFull.{StoreFull}
use Rattle.unique_table.proofs.SessionsGoOn.{follows_trans}
use Rattle.dd_builder.specs.Building.{KnowsFull}
use Rattle.dd_builder.specs.Making.{Makes}

pub stays : (s : Knowledge) → Follows s s
stays s = grind arith

-- an id denotes each function that has the same values
pub means_same : (s : Knowledge) (id : ℕ) (f g : Function) → Means s id f → ((p : Point) → length p ≡ levels_of s.store.plan → f p ≡ g p) → Means s id g
unfolding SameFunction
means_same s id f g m same = record { known = m.known; function = λ p l. m.function p l ∙ same p l }

-- a known id denotes its own function, and one that it denotes has its values
pub means_own : (s : Knowledge) (id : ℕ) → Knows s id → Means s id (function_in s id)
unfolding SameFunction
means_own s id known = record { known = known; function = λ p l. refl }

pub means_at : (s : Knowledge) (id : ℕ) (f : Function) (p : Point) → Means s id f → length p ≡ levels_of s.store.plan → function_in s id p ≡ f p
unfolding SameFunction
means_at s id f p m l = m.function p l

pub function_zero : (s : Knowledge) (p : Point) → function_in s 0 p ≡ false
unfolding function_of
function_zero s p = value_terminal (levels_of s.store.plan) s.seen 0 _ (omega arith)

pub function_one : (s : Knowledge) (p : Point) → function_in s 1 p ≡ true
unfolding function_of
function_one s p = value_terminal (levels_of s.store.plan) s.seen 1 _ (omega arith)

pub terminal_known : (s : Knowledge) (id : ℕ) → id < 2 → Knows s id
terminal_known s id low two = absurd (omega arith)

pub terminal_depth : (s : Knowledge) (id : ℕ) → id < 2 → depth_in s id ≡ levels_of s.store.plan
terminal_depth s id low = depth_terminal (levels_of s.store.plan) s.seen id low

-- what an answer has, if it is Ok
pub ok_same : {A E : Type 0} (P Q : A → Type 0) (r : Result A E) → IfOk r P → ((x : A) → P x → Q x) → IfOk r Q
ok_same P Q (Ok x) p h = h x p
ok_same P Q (Err e) p h = tt

-- and what it has, if it is an error
pub err_same : {A E : Type 0} (P Q : E → Type 0) (r : Result A E) → IfErr r P → ((x : E) → P x → Q x) → IfErr r Q
err_same P Q (Ok x) p h = tt
err_same P Q (Err e) p h = h e p

-- a session went on, and then made an id that denotes g if it denotes f
pub makes_same : (s1 s2 s3 : Knowledge) (r : Result ℕ StoreFull) (f g : Function) → Follows s1 s2 → Makes s2 s3 r f →
    ((id : ℕ) → Means s3 id f → Means s3 id g) → Makes s1 s3 r g
makes_same s1 s2 s3 r f g on made same = search (follows_trans, ok_same)

-- a session went on, and then met a full store
pub makes_refused : (s1 s2 s3 : Knowledge) (r : Result ℕ StoreFull) (e : StoreFull) (f g : Function) → Follows s1 s2 → Makes s2 s3 (Err e) f →
    IsErr r → Makes s1 s3 r g
makes_refused s1 s2 s3 (Ok id) e f g on made h = absurd (false≢true h)
makes_refused s1 s2 s3 (Err _) e f g on made h = record { follows = follows_trans s1 s2 s3 on made.follows; function = tt; full = made.full }

-- what the id of a node denotes, with the variable of the store's plan
node_means : (s : Knowledge) (store : StoreId) (level low high id : ℕ) → s.store ≡ store → IsNodeOf s level low high id →
    Means s id (branch (variable_at store.plan level) (function_in s low) (function_in s high))
node_means s store level low high id here n =
    subst (λ (z : StoreId). Means s id (branch (variable_at z.plan level) (function_in s low) (function_in s high))) here n.function

-- the same of a node that the store made
pub makes_node : (s1 s2 s3 : Knowledge) (store : StoreId) (r : Result ℕ StoreFull) (level low high most : ℕ) (g : Function) → Follows s1 s2 →
    GoesOn s2 s3 most → s2.store ≡ store → IfOk r (IsNodeOf s3 level low high) → OnErr r (MeetsFull s2 s3 (node_word level low high))
    → ((id : ℕ) → Means s3 id (branch (variable_at store.plan level) (function_in s3 low) (function_in s3 high)) → Means s3 id g) → Makes s1 s3 r g
makes_node s1 s2 s3 store r level low high most g on goes same node full p = record {
  follows = follows_trans s1 s2 s3 on goes.follows;
  function = ok_same (IsNodeOf s3 level low high) (λ id. Means s3 id g) r node
      (λ id n. p id (node_means s3 store level low high id (goes.follows.store ∙ same) n));
  full = err_same (λ _. MeetsFull s2 s3 (node_word level low high)) (λ _. KnowsFull s3) r full (λ e m k inside. (m.full k inside).0);
}
