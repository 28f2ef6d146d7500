-- Queues of seats, each linked from seat to seat
use Rattle.std.specs.Prelude.{◌≡◌, ℕ, zero, suc, ◌≤◌, ◌==◌, nat_lt, not, Option, Some, None, if◌then◌else◌}
use Rattle.std.specs.Prelude.{List, [], ◌∷◌, length, filter, slice_index_or}
use Rattle.monk_history.specs.{Limits.most_seats, Meaning.Standing.times_in_conditions}
use Rattle.monk_floor.specs.declared.chain.Chain.{Chain}

-- the most queues: three, and one for each condition variable
abbrev pub most_queues : ℕ
most_queues = 11

-- the first n seats of a queue that begins with s, link by link
unfoldable pub walk : List ℕ → ℕ → ℕ → List ℕ
walk next zero s = []
walk next (suc n) s = s ∷ walk next n (slice_index_or next s 0)

-- the seats of a queue
abbrev pub seats_of : List ℕ → Chain → List ℕ
seats_of next chain = walk next chain.length chain.first

-- the chain of an empty queue
abbrev pub empty_chain : Chain
empty_chain = record { first = 0; last = 0; length = 0 }

-- the chain of that queue
abbrev pub chain_at : List Chain → ℕ → Chain
chain_at chains c = slice_index_or chains c empty_chain

-- the seats of queue number c, or none if there is no such queue
abbrev pub queue_in : List ℕ → List Chain → ℕ → List ℕ
queue_in next chains c = seats_of next (chain_at chains c)

-- how often a seat is in the queues
unfoldable pub places : ℕ → (ℕ → List ℕ) → ℕ
places s queues = times_in_conditions most_queues s queues

-- the last seat is this one, if there is a last one
abbrev pub EndsWith : List ℕ → ℕ → Type 0
EndsWith [] l = Unit {0}
EndsWith (x ∷ []) l = x ≡ l
EndsWith (x ∷ y ∷ ys) l = EndsWith (y ∷ ys) l

-- the seats without that one
abbrev pub without : ℕ → List ℕ → List ℕ
without s xs = filter (λ x. not (s == x)) xs

-- the seat just before a seat
abbrev pub seat_before : ℕ → List ℕ → Option ℕ
seat_before s [] = None
seat_before s (x ∷ []) = None
seat_before s (x ∷ y ∷ ys) = if y == s then Some x else seat_before s (y ∷ ys)

-- each queue ends with its last seat, and a seat is in at most one queue
pub record IsLinked (next : List ℕ) (chains : List Chain) : Type 0 where
  pub count : length chains ≡ most_queues
  pub last : (c : ℕ) → EndsWith (queue_in next chains c) (chain_at chains c).last
  pub once : (s : ℕ) → places s (queue_in next chains) ≤ (if nat_lt s most_seats then 1 else 0)
