-- A queue of many, by its index
use Rattle.std.specs.Prelude.{ℕ, zero, suc, List, [], ◌∷◌}

-- the seats of queue number c, or none if there is no such queue. `seats` says who is in a queue
abbrev pub seats_at : {Q : Type 0} → (Q → List ℕ) → List Q → ℕ → List ℕ
seats_at seats [] c = []
seats_at seats (q ∷ qs) zero = seats q
seats_at seats (q ∷ qs) (suc c) = seats_at seats qs c
