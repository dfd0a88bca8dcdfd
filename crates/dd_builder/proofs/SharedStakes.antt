-- Sessions that share a stake, and are joined again.
use Rattle.std.proofs.Common.{◌≡◌, ℕ, ◌+◌, ◌%◌, ◌<◌, ◌≤◌, Bool, true, false, MatchBool, ◌||◌, ◌⊎◌, inl, inr, ⊎_elim, zero, suc, nat_lt, Some, Result, List, [], ◌∷◌, ◌++◌, length, slice_get, sym, refl, ap, ◌∙◌, subst, arith, lt-ltb, le-ltb}
use Rattle.std.specs.List.{Contains}
use Rattle.std.proofs.lemmas.Option.{slice_get_within, get_or_from_slice_get}
use Rattle.node_words.specs.Meaning.{function_of}
use Rattle.node_words.specs.Nodes.{IsKnown}
use Rattle.node_words.proofs.Meaning.{choose_n, refuse_n}
use Rattle.unique_table.specs.declared.session.Stake.{Stake}
use Rattle.unique_table.specs.Plans.{order_of}
use Rattle.unique_table.specs.Sessions.{StoreId, Knowledge, Follows}
use Rattle.unique_table.specs.Stakes.{half, joined, IsNoLess}
use Rattle.unique_table.proofs.Stakes.{halves_join, no_less_same, no_less_trans}
use Rattle.dd_builder.specs.declared.parts.Source.{Source}
use Rattle.dd_builder.specs.declared.parts.Source.TheVariants.{Tables, Terms}
use Rattle.dd_builder.specs.declared.workers.BuildJob.{BuildJob}
use Rattle.dd_builder.specs.Building.{KnowsFull}
use Rattle.dd_builder.specs.Parts.{KeepsFrom, Continues, halved, halvings_for, HasHalf, AreHalves, AreJobsOf, IsShareOf, AreSharesOf, IsOpened, IsEndOf, HasShare, HasPart, session_of}
use Rattle.dd_builder.proofs.Ends.{End, ends_last, ends_front, joined_first, joined_more}
use Rattle.dd_builder.proofs.SubfunctionNodes.{of_grown, keeps_joined, kept_on}

pub halved_none : (s : Stake) → halved 0 s ≡ s
halved_none s = grind arith

half_more : (k : ℕ) (s : Stake) → half (halved k s) ≡ halved (k + 1) s
half_more k s = grind arith

pub halvings_first : (workers k : ℕ) → k + 1 < workers → halvings_for workers k ≡ k + 1
halvings_first workers k less = choose_n (nat_lt (k + 1) workers) (k + 1) k (lt-ltb (k + 1) workers less)

pub halvings_last : (workers k : ℕ) → workers ≤ k + 1 → halvings_for workers k ≡ k
halvings_last workers k more = refuse_n (nat_lt (k + 1) workers) (k + 1) k (le-ltb (k + 1) workers more)

-- a session that knows the same made the same nodes
kept_half : (source : Source) (from s : Knowledge) → s.store ≡ from.store → s.seen ≡ from.seen → s.made ≡ from.made → KeepsFrom source from s
kept_half (Tables tables) from s store seen made = λ all w has.
    of_grown from s w store (λ id known. subst (λ (z : List ℕ). IsKnown z id) (sym seen) known)
    (λ id p known. (λ i. function_of (order_of (store i).plan) (seen i) id p))
    (all w (subst (λ (z : List ℕ). Contains z w) made has))
kept_half (Terms terms) from s store seen made = tt

-- a worker's end has the share of its job
pub share_ends : (source : Source) (from s s' : Knowledge) (k : ℕ) → HasHalf from k s → Continues source s s' → IsShareOf source from k s'
share_ends source from s s' k h c = search (no_less_trans, no_less_same, kept_on, kept_half)

-- and a session that goes on has all
pub share_all : (source : Source) (s s' : Knowledge) → Continues source s s' → IsShareOf source s 0 s'
share_all source s s' c = record { stake = subst (λ (z : Stake). IsNoLess z s'.stake) (sym (halved_none s.stake)) c.follows.stake; kept = c.kept }

-- a session that is split
pub half_first : (from s s' : Knowledge) (k : ℕ) → HasHalf from k s → s'.store ≡ s.store → s'.stake ≡ half s.stake → s'.seen ≡ s.seen →
    s'.made ≡ s.made → HasHalf from (k + 1) s'
half_first from s s' k h store stake seen made = grind (arith, half_more)

pub share_joined : (source : Source) (from one two joint : Knowledge) (k : ℕ) → IsShareOf source from (k + 1) one → IsShareOf source from (k + 1) two →
    Follows one joint → Follows two joint → joint.stake ≡ joined one.stake two.stake → joint.made ≡ one.made ++ two.made
    → IsShareOf source from k joint
share_joined source from one two joint k a b f g stake made = record {
  stake = subst (IsNoLess (halved k from.stake)) (sym stake)
      (halves_join (halved k from.stake) one.stake two.stake
      (subst (λ (z : Stake). IsNoLess z one.stake) (sym (half_more k from.stake)) a.stake)
      (subst (λ (z : Stake). IsNoLess z two.stake) (sym (half_more k from.stake)) b.stake));
  kept = by_source source a.kept b.kept;
}
  where
    by_source : (source : Source) → KeepsFrom source from one → KeepsFrom source from two → KeepsFrom source from joint
    by_source (Tables tables) x y = λ all. keeps_joined one two joint f g made (x all) (y all)
    by_source (Terms terms) x y = tt

-- ---- opened ends

pub opened_session : (end : Result Knowledge Knowledge) (s : Knowledge) (full : Bool) → IsOpened end s full → session_of end ≡ s
opened_session end s true is = ap session_of is
opened_session end s false is = ap session_of is

pub opened_store : (store : StoreId) (workers k : ℕ) (end : Result Knowledge Knowledge) (s : Knowledge) (full : Bool) → IsOpened end s full →
    IsEndOf store workers k end → s.store ≡ store
opened_store store workers k end s true is h = (subst (IsEndOf store workers k) is h).0
opened_store store workers k end s false is h = (subst (IsEndOf store workers k) is h).0

pub opened_found : (store : StoreId) (workers k : ℕ) (end : Result Knowledge Knowledge) (s : Knowledge) (full : Bool) → IsOpened end s full →
    IsEndOf store workers k end → MatchBool full (KnowsFull s) (HasShare s workers k)
opened_found store workers k end s true is h = (subst (IsEndOf store workers k) is h).1
opened_found store workers k end s false is h = (subst (IsEndOf store workers k) is h).1

pub full_follows : (s s' : Knowledge) → Follows s s' → KnowsFull s → KnowsFull s'
full_follows s s' f full p low empty =
    let there = full p (subst (λ (z : StoreId). p < z.plan.places) f.store low) in there (sym (f.nodes p there) ∙ empty)

match_map : {A A' B B' : Type 0} (b : Bool) → (A → A') → (B → B') → MatchBool b A B → MatchBool b A' B'
match_map true f g h = f h
match_map false f g h = g h

-- the parts that a session knows from some worker's on
abbrev pub KnowsFrom : Knowledge → ℕ → ℕ → Type 0
KnowsFrom s workers left = (q : ℕ) → q < s.store.plan.roots → left ≤ q % workers → HasPart s q

pub found_first : (store : StoreId) (workers left : ℕ) (end : Result Knowledge Knowledge) (s : Knowledge) (full : Bool) → IsOpened end s full →
    IsEndOf store workers left end → 0 < workers → left + 1 ≡ workers → MatchBool full (KnowsFull s) (KnowsFrom s workers left)
found_first store workers left end s full is h some last =
    match_map full (λ (f : KnowsFull s). f) (joined_first s workers left some last) (opened_found store workers left end s full is h)

pub found_joined : (store : StoreId) (s t joint : Knowledge) (workers left k : ℕ) (end : Result Knowledge Knowledge) (full full' : Bool) →
    Follows s joint → Follows t joint → s.store ≡ t.store → left + 1 ≡ k → MatchBool full (KnowsFull s) (KnowsFrom s workers k)
    → IsOpened end t full' → IsEndOf store workers left end → MatchBool (full || full') (KnowsFull joint) (KnowsFrom joint workers left)
found_joined store s t joint workers left k end true full' f g same next known is h = full_follows s joint f known
found_joined store s t joint workers left k end false full' f g same next known is h =
    match_map full' (full_follows t joint g) (joined_more s t joint workers left k f g same next known)
    (opened_found store workers left end t full' is h)

-- the shares of ends
module _ (source : Source) (from : Knowledge) (workers : ℕ) (items front : List End) (end : End) (is : items ≡ front ++ end ∷ [])
    (s : Knowledge) (full : Bool) (opened : IsOpened end s full) (h : AreSharesOf source from workers items) where
  pub shares_front : AreSharesOf source from workers front
  shares_front = ends_front (λ k x. IsShareOf source from (halvings_for workers k) (session_of x)) items front end is h

  pub share_last : (k : ℕ) → halvings_for workers (length front) ≡ k → IsShareOf source from k s
  share_last k number = subst (IsShareOf source from k) (opened_session end s full opened)
      (subst (λ z. IsShareOf source from z (session_of end)) number
      (ends_last (λ i x. IsShareOf source from (halvings_for workers i) (session_of x)) items front end is h))

-- ---- one more job

pushed : {X : Type 0} (front : List X) (x y : X) (k : ℕ) → slice_get (front ++ x ∷ []) k ≡ Some y →
    ((k < length front) × (slice_get front k ≡ Some y)) ⊎ ((k ≡ length front) × (x ≡ y))
pushed [] x y zero e = inr (refl, get_or_from_slice_get (x ∷ []) 0 y y e)
pushed [] x y (suc k) e = let low = slice_get_within (x ∷ []) (suc k) y e in absurd (omega (arith, low))
pushed (z ∷ zs) x y zero e = inl (omega arith, e)
pushed (z ∷ zs) x y (suc k) e = grind (arith, ⊎_elim, slice_get, pushed zs x y k e)

module _ (jobs more : List BuildJob) (job : BuildJob) (is : more ≡ jobs ++ job ∷ []) where
  either : (k : ℕ) (j : BuildJob) → slice_get more k ≡ Some j → ((k < length jobs) × (slice_get jobs k ≡ Some j)) ⊎ ((k ≡ length jobs) × (job ≡ j))
  either k j at = pushed jobs job j k (ap (λ z. slice_get z k) (sym is) ∙ at)

  long : length more ≡ length jobs + 1
  long = ap length is ∙ length_pushed jobs
    where
      length_pushed : (front : List BuildJob) → length (front ++ job ∷ []) ≡ length front + 1
      length_pushed [] = refl
      length_pushed (z ∷ zs) = let e = length_pushed zs in omega (arith, e)

  pub jobs_more : (store : StoreId) (count : ℕ) → AreJobsOf store count jobs → job.session.store ≡ store → job.worker ≡ count + 1 →
      AreJobsOf store (count + 1) more
  jobs_more store count are same number = grind (arith, long, ⊎_elim, slice_get, either)

  pub halves_more : (from : Knowledge) (workers k : ℕ) → AreHalves from workers jobs → length jobs ≡ k →
      HasHalf from (halvings_for workers k) job.session → AreHalves from workers more
  halves_more from workers k are long_is mine i j at = grind (arith, ⊎_elim, slice_get, either)

-- ends that go on from jobs
pub shares_of : (source : Source) (from : Knowledge) (workers : ℕ) (jobs : List BuildJob) (ends : List End) → AreHalves from workers jobs →
    ((k : ℕ) (end : End) → slice_get ends k ≡ Some end →
    (job : BuildJob) × (slice_get jobs k ≡ Some job) × Continues source job.session (session_of end))
    → AreSharesOf source from workers ends
shares_of source from workers jobs ends halves on k end at =
    let h = on k end at in share_ends source from h.0.session (session_of end) (halvings_for workers k) (halves k h.0 h.1) h.2
