-- How an event changes the queues
use Rattle.std.proofs.Common.{◌≡◌, ℕ, ◌≤◌, Bool, true, false, cond, List, [], ◌∷◌, filter, arith}
use Rattle.monk_floor.specs.Queues.{QueueLists, queue_at, times_in_waits, in_lists}
use Rattle.std.proofs.lemmas.Bool.Decides.{nat_tests}

times_fewer : (s : ℕ) (p : ℕ × ℕ → Bool) (us : List (ℕ × ℕ)) → times_in_waits s (filter p us) ≤ times_in_waits s us
times_fewer s p [] = omega arith
times_fewer s p (w ∷ ws) = kept (p w) (times_fewer s p ws)
  where
    kept : (b : Bool) → times_in_waits s (filter p ws) ≤ times_in_waits s ws
        → times_in_waits s (cond b (w ∷ filter p ws) (filter p ws)) ≤ times_in_waits s (w ∷ ws)
    kept true h = omega (arith, h)
    kept false h = omega (arith, h)

-- a seat that is in none of the queues is in none after some have gone
pub still_apart : (s : ℕ) (old left : QueueLists) (p : ℕ × ℕ → Bool)
    → ((c : ℕ) → queue_at left.conditions c ≡ queue_at old.conditions c)
    → left.waiters ≡ old.waiters → left.signallers ≡ old.signallers → left.untils ≡ filter p old.untils
    → in_lists s old ≡ 0
    → in_lists s left ≡ 0
still_apart s old left p c w g u h = grind (arith, nat_tests, times_fewer)
