-- How a hall ends
use Rattle.std.specs.Prelude.{◌≡◌, ℕ, ◌+◌, ◌*◌, length, ◌≤◌, ◌<◌, ◌⊎◌, true, false, List, [], ◌∷◌, ◌++◌}
use Rattle.monk_kinds.specs.declared.mode.Rules.{Rules}
use Rattle.monk_object.specs.Object.{Object}
use Rattle.monk_history.specs.Meaning.{Conditions.condition, Counts.events_of, Legal.IsLegal, Monitor.data_of}
use Rattle.monk_history.specs.Meaning.{Signallers.signallers, Standing.is_queued, Untils.untils, Waiters.waiters}
use Rattle.monk_history.specs.declared.event.{Event.Event, Event.TheVariants.Leave, Next.TheVariants.Entry}
use Rattle.monk_floor.specs.View.{FloorView, monitor_of, stands_of}
use Rattle.monk_hall.specs.{Calls.HasPeeked, Tokens.Holder}

-- every queue is empty
pub record HasNobody (f : FloorView) : Type 0 where
  pub conditions : (c : ℕ) → c < f.conds → condition c f.history ≡ []
  pub waiters : waiters f.history ≡ []
  pub signallers : signallers f.history ≡ []
  pub untils : untils f.history ≡ []

-- a queue has some seat
pub record HasSomebody (k : Rules) (o : Object) (f : FloorView) : Type 0 where
  pub seat : ℕ
  pub queued : is_queued f.conds seat (stands_of k o f) ≡ true

-- no seat below this number is in a queue
abbrev pub IsUnqueued : Rules → Object → FloorView → ℕ → Type 0
IsUnqueued k o f seats = (j : ℕ) → j < seats → is_queued f.conds j (stands_of k o f) ≡ false

-- the hall has ended: nobody was in a queue, and the active seat has left. The history is legal and within the
-- budgets of all seats. Its events of the seat are the seat's own, and the object has its data
pub record IsEnded (k : Rules) (o : Object) (a : Holder) (history : List Event) (state : List ℕ) : Type 0 where
  pub nobody : HasNobody a.floor
  pub leaves : history ≡ a.floor.history ++ Leave a.me.seat Entry ∷ []
  pub own : events_of history a.me.seat ≡ a.me.mine ++ Leave a.me.seat Entry ∷ []
  pub legal : IsLegal (monitor_of k o a.floor) history
  pub contents : state ≡ data_of (monitor_of k o a.floor) history
  pub few : length history ≤ a.floor.seats * a.floor.budget

-- the hall goes on: a queue has somebody, or a look at the ticket word found somebody at the entry. Nothing else has
-- changed
pub record IsBusy (k : Rules) (o : Object) (a b : Holder) : Type 0 where
  pub some : HasSomebody k o a.floor ⊎ (b.me.known ≡ true)
  pub peeks : ℕ
  pub few : peeks ≤ 1
  pub peeked : HasPeeked peeks a b
