-- Seats after posts.
--     stays_same, stays_trans      what stays at no post, at posts in turn
--     claimed_same, posted_stays      what was claimed, and what was posted
use Rattle.std.proofs.Common.{if◌then◌else◌, ◌≡◌, ℕ, Bool, true, false, List, get_or, Option, Some, None, refl, sym, ap, ◌∙◌}
use Rattle.layer_core.specs.Machine.{Worker, place_of, knows, ends}
use Rattle.subset_layers.specs.Layers.{LayerOf}
use Rattle.layer_core.specs.Instances.{layout_of}
use Rattle.layer_board.specs.Views.{BoardId, SeatOf, stepped, no_more, claims_place, knows_place, has_claimed}
use Rattle.layer_work.specs.Gains.{StaysClaimed, IsPosted}

-- a worker knows no less
abbrev KnowsMore : Worker → Worker → Type 0
KnowsMore w w' = (q : ℕ) → knows w q ≡ true → knows w' q ≡ true

known_place : (w w' : Worker) (o : Option ℕ) → KnowsMore w w' → knows_place w o ≡ true → knows_place w' o ≡ true
known_place w w' None h e = e
known_place w w' (Some p) h e = h p e

claimed_place : (l : LayerOf) (w w' : Worker) (o : Option ℕ) → w'.claims ≡ w.claims → claims_place l w' o ≡ claims_place l w o
claimed_place l w w' None e = refl
claimed_place l w w' (Some p) e = ap (λ (xs : List Bool). get_or xs (get_or (layout_of l).block_of p 0) false) e

stays_from : (s s' : SeatOf) → s'.board ≡ s.board → s'.worker.claims ≡ s.worker.claims → KnowsMore s.worker s'.worker → StaysClaimed s s'
stays_from s s' board claims more = record {
  board = board;
  claims = claims;
  known = λ mask e. ap (λ (b : BoardId). knows_place s'.worker (place_of (layout_of b.brief.layer) mask)) board
      ∙ known_place s.worker s'.worker (place_of (layout_of s.board.brief.layer) mask) more e;
}

pub stays_same : (s : SeatOf) → StaysClaimed s s
stays_same s = record { board = refl; claims = refl; known = λ mask e. e }

pub stays_trans : (s s' s'' : SeatOf) → StaysClaimed s s' → StaysClaimed s' s'' → StaysClaimed s s''
stays_trans s s' s'' a b = record { board = b.board ∙ a.board; claims = b.claims ∙ a.claims; known = λ mask e. b.known mask (a.known mask e) }

pub claimed_same : (s s' : SeatOf) → StaysClaimed s s' → (mask : ℕ) → has_claimed s' mask ≡ has_claimed s mask
claimed_same s s' h mask = ap (λ (b : BoardId). claims_place b.brief.layer s'.worker (place_of (layout_of b.brief.layer) mask)) h.board
    ∙ claimed_place s.board.brief.layer s.worker s'.worker (place_of (layout_of s.board.brief.layer) mask) h.claims

pub posted_stays : (s s' : SeatOf) → StaysClaimed s s' → (mask : ℕ) → IsPosted s mask → IsPosted s' mask
posted_stays s s' h mask p e = h.known mask (p (sym (claimed_same s s' h mask) ∙ e))

-- a seat that is told that there is no more
pub no_more_stays : (s : SeatOf) → StaysClaimed s (no_more s)
no_more_stays s = by s.worker.ended
  where
    by : (b : Bool) → StaysClaimed s (if b then s else stepped s (ends s.worker) 1)
    by true = stays_same s
    by false = stays_from s (stepped s (ends s.worker) 1) refl refl (λ q e. e)
