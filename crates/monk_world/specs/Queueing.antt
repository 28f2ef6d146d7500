-- The queues of the history agree with where the seats are
use Rattle.std.specs.Prelude.{◌≡◌, ◌≢◌, ℕ, ◌≤◌, ◌⊎◌, Bool, true}
use Rattle.monk_world.specs.Places.{stage, source, back_turn, open_turn, is_queued_at, due_stage, active_stage, back_stage, free_source}
use Rattle.monk_world.specs.World.{World}

-- `queued` says who is in a queue or due from one, and `quiet` whether nobody could be chosen from a queue
pub record FitsQueues (w : World) (queued : ℕ → Bool) (quiet : Bool) : Type 0 where
  pub in_queue : (j : ℕ) → stage (w.place j) ≢ active_stage → queued j ≡ is_queued_at (w.place j)
  pub free : w.unpassed ≡ 0 → quiet ≡ true
  pub still_free : (j : ℕ) → stage (w.place j) ≡ due_stage → source (w.place j) ≡ free_source → quiet ≡ true
  pub back_to_entry : (j : ℕ) → stage (w.place j) ≡ back_stage → back_turn (w.place j) ≡ open_turn
      → (quiet ≡ true) ⊎ (2 ≤ w.unpassed)
