-- The words of a board, and the rule of its table: what the words and the seats show is a right state of the machine.
--     cell_in n, word_of c, IsCellWord n      the cell that a word stands for; the word of a cell; whether n is the word of some cell
--     state_shown l words views      the state that words and seats show: word 0 is the counter, word p + 1 the cell of the mask at place p
--     Kept b s      the rule
--     claims, posts, reads      what a seat learns by a step
--     shows b s, claim_reply, post_reply, read_reply      the state that a table shows, and the machine's replies
use Rattle.std.specs.Prelude.{◌≡◌, ◌≢◌, ℕ, ◌+◌, ◌-◌, ◌*◌, ◌/◌, ◌%◌, ◌^◌, ◌<◌, ◌≤◌, true, false, if◌then◌else◌, nat_eq, nat_lt, List, [], ◌∷◌, map, length, slice_index, Option, Some, None}
use mathlib.Core.Option.{some}
use lib.ListN.{get_elem?}
use Rattle.atomic_table.specs.Table.{State, Me, Step}
use Rattle.subset_layers.specs.Layers.{LayerOf, masks_of, blocks_of}
use Rattle.layer_core.specs.Machine.{World, Worker, Reply, Claimed, NoMore, Posted, Double, Seen, Empty, claims_block, ends, learns, claimed, knows}
use Rattle.layer_core.specs.Rights.{Right, total}
use Rattle.layer_core.specs.Instances.{InstanceOf, cell_for, layout_of}
use Rattle.layer_board.specs.Views.{BriefOf, SeatView, fresh, after}

-- the cell that a word stands for: none for 0
abbrev pub cell_in : ℕ → Option (ℕ × ℕ)
cell_in n = if nat_eq n 0 then None else Some (n / 32 - 1, n % 32)

abbrev pub word_of : ℕ × ℕ → ℕ
word_of c = (c.0 + 1) * 32 + c.1

-- n is the word of some cell
abbrev pub IsCellWord : ℕ → Type 0
IsCellWord n = (1 ≤ n / 32) × (n / 32 ≤ 2 ^ 32)

abbrev pub counter_of : List ℕ → ℕ
counter_of [] = 0
counter_of (n ∷ ns) = n

abbrev pub cell_words : List ℕ → List ℕ
cell_words [] = []
cell_words (n ∷ ns) = ns

abbrev pub worker_of : SeatView → Worker
worker_of v = v.worker

abbrev pub state_shown : LayerOf → List ℕ → List SeatView → World
state_shown l words views = record {
  layout = layout_of l;
  counter = counter_of words;
  cells = map cell_in (cell_words words);
  workers = map worker_of views;
}

abbrev pub IsCellAt : InstanceOf → ℕ → ℕ × ℕ → Type 0
IsCellAt t mask cell = cell ≡ cell_for t mask

-- each seat stands for at least one of the workers, and together they stand for no more than there are, so the counter does not wrap
pub record Kept (b : BriefOf) (s : State (Unit {0}) SeatView) : Type 0 where
  pub size : length s.words ≡ length (masks_of b.layer) + 1
  pub cells : (p : ℕ) → slice_index (cell_words s.words) p ≢ 0 → IsCellWord (slice_index (cell_words s.words) p)
  pub right : Right (IsCellAt b.instance) (state_shown b.layer s.words s.views)
  pub briefs : (i : ℕ) (v : SeatView) → get_elem? s.views i ≡ some v → (v.brief ≡ b) × (0 < v.seats)
  pub seats : total (λ v. v.seats) s.views ≤ b.workers
  pub few : b.workers ≤ 64

abbrev pub first_view : BriefOf → SeatView
first_view b = fresh b b.workers

abbrev pub one_left : SeatView → SeatView
one_left v = record v { seats = v.seats - 1 }

abbrev pub Sat : Type 0
Sat = Me (Unit {0}) SeatView

-- the step of a claim that found the count n
abbrev pub claims : Step (Unit {0}) → Sat → ℕ → Sat → Type 0
claims st m n m' =
    (n < length (blocks_of m.0.brief.layer) →
    (m' ≡ (after m.0 (claims_block m.0.worker n) 1, m.1)) × ((q : ℕ) → claimed m.0.worker q ≡ true → q < n))
    × (length (blocks_of m.0.brief.layer) ≤ n → m' ≡ (after m.0 (ends m.0.worker) 1, m.1))

-- the step of a post at the place p that found the word n there
abbrev pub posts_at : ℕ → Sat → ℕ → Sat → Type 0
posts_at p m n m' =
    (n ≡ 0 → m' ≡ (after m.0 (learns m.0.worker p) 1, m.1))
    × (n ≢ 0 → (m' ≡ (after m.0 m.0.worker 0, m.1)) × (knows m.0.worker p ≡ true))

-- the step of a read at the place p that found the word n there
abbrev pub reads_at : ℕ → Sat → ℕ → Sat → Type 0
reads_at p m n m' =
    (n ≡ 0 → (m' ≡ (after m.0 m.0.worker 0, m.1)) × (knows m.0.worker p ≡ false))
    × (n ≢ 0 → (m' ≡ (after m.0 (learns m.0.worker p) 0, m.1)) × IsCellWord n
    × ((n / 32 - 1, n % 32) ≡ cell_for m.0.brief.instance (slice_index (masks_of m.0.brief.layer) p)))

-- steps of posts and reads; the cell at place p of the layer is word p + 1
abbrev pub posts : Step (Unit {0}) → Sat → ℕ → Sat → Type 0
posts st = posts_at (st.word - 1)

abbrev pub reads : Step (Unit {0}) → Sat → ℕ → Sat → Type 0
reads st = reads_at (st.word - 1)

-- the machine's state that a table's state shows
abbrev pub shows : BriefOf → State (Unit {0}) SeatView → World
shows b s = state_shown b.layer s.words s.views

-- the machine's reply to a claim that found the count n, to a post that found the word n, and to a read that found the word n
abbrev pub claim_reply : ℕ → ℕ → Reply
claim_reply blocks n = if nat_lt n blocks then Claimed n else NoMore

abbrev pub post_reply : ℕ → Reply
post_reply n = if nat_eq n 0 then Posted else Double

abbrev pub read_reply : ℕ → Reply
read_reply n = if nat_eq n 0 then Empty else Seen (n / 32 - 1, n % 32)
