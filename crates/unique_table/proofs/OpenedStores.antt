-- A store and a session, opened.
use Rattle.std.proofs.Common.{◌≡◌, ◌≢◌, ℕ, ◌+◌, ◌*◌, ◌/◌, ◌^◌, ◌<◌, ◌≤◌, List, sym, ap, ◌∙◌, subst, ⊎_elim, arith}
use Rattle.node_words.specs.Nodes.{AreNodeWords, Grows, IsIdOf, node_word}
use Rattle.node_words.proofs.NewNodes.{word_node}
use Rattle.node_words.proofs.Meaning.{depth_node, depth_terminal}
use Rattle.std.proofs.lemmas.Bool.{cases_lt}
use Rattle.definitions.specs.Orders.{IsOrder}
use Rattle.node_words.specs.declared.operation.Operation.{Operation}
use Rattle.node_words.specs.Entries.{code_of, combine, entry_word, result_of, IsEntry}
use Rattle.node_words.proofs.CacheWords.{code_some, entry_made, entry_found}
use Rattle.node_words.proofs.Functions.{known_small, below_depth, denotes_made, operation_no_higher, one_id}
use Rattle.unique_table.specs.declared.plan.Plan.{Plan}
use Rattle.unique_table.specs.declared.store.Store.TheInside as store
use Rattle.unique_table.specs.declared.session.Session.TheInside as session
use Rattle.unique_table.specs.Plans.{order_of, levels_of}
use Rattle.unique_table.specs.Sessions.{StoreId, Knowledge, Follows, GoesOn, MakesStep, Knows, IsKnownBelow, IsNodeOf, Means, HasUniqueIds, HasLevels, GainsOnly, function_in, depth_in}
use Rattle.unique_table.specs.Insides.{store_id, IsStore, knowledge, IsSession}
use Rattle.unique_table.specs.Views.{Gains}
use Rattle.unique_table.specs.Seats.{Sitting, IsSeatOf, IsSeatAfter, Searches, IsNodeWord}
use Rattle.unique_table.specs.Stakes.{IsNoLess}
use Rattle.unique_table.proofs.Stakes.{no_less_same}
use Rattle.unique_table.proofs.SessionsGoOn.{follows, follows_refl}

abbrev pub seated : Sitting → Knowledge
seated seat = knowledge record { seat = seat }

-- what a session's seat has put
pub made_only : (s : session.Inside) (K : Knowledge) (made : List ℕ) (word w : ℕ) → knowledge s ≡ K → word ≡ w →
    GainsOnly s.seat.me.0.made made word → GainsOnly K.made made w
made_only s K made word w is same g = subst (λ (z : ℕ). GainsOnly K.made made z) same (subst (λ (z : Knowledge). GainsOnly z.made made word) is g)

-- a session whose seat is at the table knows the store
pub store_is : (t : store.Inside) (T : StoreId) (seat : Sitting) → store_id t ≡ T → IsSeatOf t.table.shared seat → (seated seat).store ≡ T
store_is t T seat is fits = (λ i. record { table = fits.table i; plan = fits.plan i }) ∙ is

pub unique_ids : (t : store.Inside) → IsStore t → (seat : Sitting) → IsSeatOf t.table.shared seat → HasUniqueIds (seated seat)
unique_ids t kt seat sits id other f a b =
    one_id (order_of seat.me.0.plan) seat.me.0.seen sits.good.nodes sits.good.unequal id other f
    (subst (λ (z : Plan). IsOrder (levels_of z) (order_of z)) (sym sits.plan) kt.plan.order.order) a b

module _ (t : store.Inside) (s : session.Inside) (T : StoreId) (K : Knowledge) (is_t : store_id t ≡ T) (is_s : knowledge s ≡ K)
    (kt : IsStore t) (ks : IsSession s) (fits : K.store ≡ T) where
  pub plan_is : s.seat.me.0.plan ≡ t.table.shared.key
  plan_is = ap (λ (z : Knowledge). z.store.plan) is_s ∙ (ap (λ (z : StoreId). z.plan) fits ∙ ap (λ (z : StoreId). z.plan) (sym is_t))

  pub seat_of : IsSeatOf t.table.shared s.seat
  seat_of = grind (arith, plan_is)

  -- a known id fits 20 bits
  pub small_id : (id : ℕ) → Knows K id → id < 2 ^ 20
  small_id id known =
      let places = ap (λ (b : Plan). b.places) plan_is in
      omega (arith, known_small s.seat.me.0.seen s.seat.me.0.plan.places id ks.good.size (subst (λ (z : Knowledge). Knows z id) (sym is_s) known))

  pub few_levels : levels_of T.plan ≤ 16
  few_levels = subst (λ (z : StoreId). levels_of z.plan ≤ 16) is_t kt.plan.order.few

  pub word_ready : (level low high word : ℕ) → level < levels_of T.plan → IsKnownBelow K level low → IsKnownBelow K level high →
      low ≢ high → word ≡ node_word level low high
      → IsNodeWord t.table.shared s.seat word
  word_ready level low high word small kl ku ne is = grind (arith, few_levels, small_id, word_node, below_depth, plan_is)

  pub nodes_are : AreNodeWords (levels_of K.store.plan) K.seen
  nodes_are = subst (λ (z : Knowledge). AreNodeWords (levels_of z.store.plan) z.seen) is_s ks.good.nodes

  module _ (seat : Sitting) (sits : IsSeatOf t.table.shared seat) where
    pub goes_on : Gains s.seat.me.0 seat.me.0 → Follows K (seated seat)
    goes_on g =
        follows K (seated seat) nodes_are (store_is t T seat is_t sits ∙ sym fits)
        (subst (λ (z : Knowledge). IsNoLess z.stake seat.me.0.stake) is_s (no_less_same s.seat.me.0.stake seat.me.0.stake g.stake))
        (subst (λ (z : Knowledge). Grows z.seen seat.me.0.seen) is_s g.nodes)
        (subst (λ (z : Knowledge). Grows z.pieces seat.me.0.pieces) is_s g.pieces)

    pub goes_grown : IsNoLess s.seat.me.0.stake seat.me.0.stake → Grows s.seat.me.0.seen seat.me.0.seen →
        Grows s.seat.me.0.pieces seat.me.0.pieces → Follows K (seated seat)
    goes_grown no_less g gp =
        follows K (seated seat) nodes_are (store_is t T seat is_t sits ∙ sym fits)
        (subst (λ (z : Knowledge). IsNoLess z.stake seat.me.0.stake) is_s no_less)
        (subst (λ (z : Knowledge). Grows z.seen seat.me.0.seen) is_s g)
        (subst (λ (z : Knowledge). Grows z.pieces seat.me.0.pieces) is_s gp)

  -- a session after a step
  pub goes_step : (seat : Sitting) (wrote : ℕ) → IsSeatAfter t.table.shared s.seat seat wrote → MakesStep K (seated seat) wrote
  goes_step seat wrote a = record {
    follows = goes_on seat a.seat record {
      good = a.view.good;
      current = λ _. a.view.current;
      plan = a.view.plan;
      stake = a.view.stake;
      nodes = a.view.nodes;
      pieces = a.view.pieces;
    };
    stake = a.view.stake ∙ ap (λ (z : Knowledge). z.stake) is_s;
    unique = unique_ids t kt seat a.seat;
    made = a.view.made ∙ ap (λ (z : Knowledge). z.made) is_s;
    steps = a.view.steps ∙ ap (λ (z : Knowledge). z.steps + 1) is_s;
    writes = a.view.writes ∙ ap (λ (z : Knowledge). z.writes + wrote) is_s;
  }

  -- a session that did nothing
  pub goes_nowhere : (most : ℕ) → GoesOn K (seated s.seat) most
  goes_nowhere most = record {
    follows = subst (λ (z : Knowledge). Follows z (seated s.seat)) is_s (follows_refl (seated s.seat) ks.good.nodes);
    stake = ap (λ (z : Knowledge). z.stake) is_s;
    unique = unique_ids t kt s.seat seat_of;
    steps = let e = ap (λ (z : Knowledge). z.steps) is_s in omega (arith, e);
  }

  -- a session after a search
  pub goes_searching : (seat : Sitting) (word most most' : ℕ) → most ≤ most' → Searches t.table.shared s.seat seat word most →
      GoesOn K (seated seat) most'
  goes_searching seat word most most' less a = record {
    follows = goes_on seat a.seat a.view;
    stake = a.view.stake ∙ ap (λ (z : Knowledge). z.stake) is_s;
    unique = unique_ids t kt seat a.seat;
    steps = let e = ap (λ (z : Knowledge). z.steps) is_s in let n = a.steps in omega (arith, e, n, less);
  }

  -- the word that is stored for an operation
  pub entry_ready : (o : Operation) (a b r word : ℕ) → Knows K a → Knows K b → Means K r (combine o (function_in K a) (function_in K b)) →
      word ≡ entry_word (code_of o) a b r → IsEntry (order_of t.table.shared.key) s.seat.me.0.seen word
  entry_ready o a b r word ka kb m is =
      let entry : IsEntry (order_of K.store.plan) K.seen word =
      subst (IsEntry (order_of K.store.plan) K.seen) (sym is)
      (entry_made (order_of K.store.plan) K.seen o a b r (small_id a ka) (small_id b kb) (small_id r m.known) ka kb m) in
      subst (λ (z : Plan). IsEntry (order_of z) s.seat.me.0.seen word) plan_is
      (subst (λ (z : Knowledge). IsEntry (order_of z.store.plan) z.seen word) (sym is_s) entry)

-- ids lie at levels, or are terminals
pub has_levels : (seat : Sitting) → AreNodeWords (levels_of seat.me.0.plan) seat.me.0.seen → HasLevels (seated seat)
has_levels seat are id known = grind (arith, ⊎_elim, depth_terminal, depth_node, cases_lt)

-- the result of an operation that a cache word has
module _ (t : store.Inside) (kt : IsStore t) (seat : Sitting) (sits : IsSeatOf t.table.shared seat) (o : Operation) (a b w key : ℕ)
    (small_a : a < 2 ^ 20) (small_b : b < 2 ^ 20)
    (known : w ≢ 0 → IsEntry (order_of t.table.shared.key) seat.me.0.seen w) (key_is : key ≡ code_of o * 2 ^ 40 + a * 2 ^ 20 + b)
    (same : w / 2 ^ 20 ≡ key) where
  there : IsEntry (order_of t.table.shared.key) seat.me.0.seen w
  there = known (λ none. omega (arith, code_some o))

  pub entry_means : Means (seated seat) (result_of w) (combine o (function_in (seated seat) a) (function_in (seated seat) b))
  entry_means = grind (arith, entry_found, there)

  pub entry_depth : (k : ℕ) → Knows (seated seat) a → Knows (seated seat) b → k ≤ depth_in (seated seat) a → k ≤ depth_in (seated seat) b →
      k ≤ depth_in (seated seat) (result_of w)
  entry_depth k ka kb ha hb =
      operation_no_higher (order_of seat.me.0.plan) seat.me.0.seen sits.good.nodes sits.good.unequal
      (subst (λ (z : Plan). IsOrder (levels_of z) (order_of z)) (sym sits.plan) kt.plan.order.order) o a b (result_of w) k ka kb
      entry_means ha hb

-- a step is at most one step
pub one_step : (K K' : Knowledge) (wrote : ℕ) → MakesStep K K' wrote → GoesOn K K' 1
one_step K K' wrote m = record { follows = m.follows; stake = m.stake; unique = m.unique; steps = omega (arith, m.steps) }

-- the id of a node that was made
module _ (T : StoreId) (K K' : Knowledge) (fits : K.store ≡ T) (few : levels_of T.plan ≤ 16)
    (are : AreNodeWords (levels_of K'.store.plan) K'.seen) (on : Follows K K') (level low high id : ℕ) (small : level < levels_of T.plan)
    (a : low < 2 ^ 20) (b : high < 2 ^ 20) (kl : IsKnownBelow K level low) (made : IsIdOf K'.seen level low high id)
    (deep : level ≤ depth_in K' id) where
  pub node_made : IsNodeOf K' level low high id
  node_made = record {
    word = made;
    function = denotes_made (order_of K'.store.plan) K'.seen are level low high id (omega arith) a b (on.knows low kl.0) made;
    depth = deep;
  }
