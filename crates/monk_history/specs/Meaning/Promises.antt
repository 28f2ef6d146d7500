-- What a signal promises to the seat that it serves, and a wait-until to the seat that goes on
use Rattle.std.specs.Prelude.{◌≡◌, ◌<◌, ℕ, ◌+◌, ◌==◌, nat_lt, Bool, true, false, ◌&&◌, ◌||◌, IsTrue, Some, List, take, slice_get, is_some}
use Rattle.std.specs.List.{list_any}
use Rattle.monk_kinds.specs.declared.name.KindName.{KindName}
use Rattle.monk_kinds.specs.declared.name.KindName.TheVariants.{Pb, Npb, Pnb, Npnb, Pqb, Npqb, Pir, Npir, Pis, Npis}
use Rattle.monk_kinds.specs.declared.mode.{Mode.Mode, Mode.TheVariants.Blocking, Mode.TheVariants.NonBlocking}
use Rattle.monk_kinds.specs.declared.mode.{Mode.TheVariants.QuasiBlocking, Mode.TheVariants.ImmediateReturn}
use Rattle.monk_kinds.specs.declared.mode.{Mode.TheVariants.Automatic, Rules.Rules}
use Rattle.monk_history.specs.Meaning.{Events.returns_at_once, Events.via_of, Monitor.Monitor, Monitor.data_of}
use Rattle.monk_history.specs.Meaning.{Conditions.condition, Waiters.serves, Untils.untils}
use Rattle.monk_history.specs.declared.event.From3.TheVariants.{Waiter as FromWaiter, Until as FromUntil}
use Rattle.monk_history.specs.declared.event.Event.{Event, TheVariants.Resume}

-- whether the mode is blocking: its signaller steps back for the seat that it serves
abbrev pub is_blocking : Mode → Bool
is_blocking Blocking = true
is_blocking NonBlocking = false
is_blocking QuasiBlocking = false
is_blocking ImmediateReturn = false
is_blocking Automatic = false

-- whether a signal hands the monitor to the seat that it serves. It does so under a blocking kind, and under
-- immediate return if waiters go before callers
abbrev pub hands_over : Rules → Bool
hands_over k = is_blocking k.mode || (returns_at_once k.mode && nat_lt k.entry k.waiter)

-- whether that is so, for each of the ten kinds
abbrev pub has_hoares_rule : KindName → Bool
has_hoares_rule Pb = true
has_hoares_rule Npb = true
has_hoares_rule Pnb = false
has_hoares_rule Npnb = false
has_hoares_rule Pqb = false
has_hoares_rule Npqb = false
has_hoares_rule Pir = true
has_hoares_rule Npir = false
has_hoares_rule Pis = false
has_hoares_rule Npis = false

-- whether the kind puts waiters before callers
abbrev pub puts_callers_last : KindName → Bool
puts_callers_last Pb = true
puts_callers_last Npb = true
puts_callers_last Pnb = true
puts_callers_last Npnb = false
puts_callers_last Pqb = true
puts_callers_last Npqb = false
puts_callers_last Pir = true
puts_callers_last Npir = false
puts_callers_last Pis = true
puts_callers_last Npis = false

-- whether seat w is in the list
abbrev pub is_among : ℕ → List ℕ → Bool
is_among w ss = list_any (λ s. s == w) ss

-- whether seat w is among those that an event serves after `past`
abbrev pub is_served : ℕ → List Event → Event → Bool
is_served w past e = is_among w (serves (λ c. condition c past) e)

-- the next event after the signal is the resume of that seat, and the data are those at the signal
pub record IsHandedTo (m : Monitor) (h : List Event) (i w : ℕ) (next : Event) : Type 0 where
  pub resumes : next ≡ Resume w FromWaiter
  pub same_data : data_of m (take (i + 2) h) ≡ data_of m (take i h)

-- Hoare's rule: a served seat goes on next, so what held at the signal holds when it goes on
abbrev pub HoaresRule : Monitor → List Event → Type 0
HoaresRule m h =
    (i w : ℕ) (e next : Event) → slice_get h i ≡ Some e → slice_get h (i + 1) ≡ Some next
    → IsTrue (is_served w (take i h) e) → IsHandedTo m h i w next

-- between the events i and k seat w goes on from the waiter queue
abbrev pub GoesOnBetween : List Event → ℕ → ℕ → ℕ → Type 0
GoesOnBetween h w i k = (j : ℕ) × (i < j) × (j < k) × (slice_get h j ≡ Some (Resume w FromWaiter))

-- nobody enters after a signal before the seat that it served has gone on
abbrev pub NobodyComesBetween : List Event → Type 0
NobodyComesBetween h =
    (i k w : ℕ) (e x : Event) → slice_get h i ≡ Some e → slice_get h k ≡ Some x → i < k
    → IsTrue (is_served w (take i h) e) → IsTrue (is_some (via_of x)) → GoesOnBetween h w i k

-- a seat waited for that predicate before the step, and the predicate holds after it
abbrev pub AwaitsWhatHolds : Monitor → List Event → ℕ → ℕ → ℕ → Type 0
AwaitsWhatHolds m h i s p =
    IsTrue (list_any (λ u. u.0 == s && u.1 == p) (untils (take i h)))
    × IsTrue (m.object.holds (data_of m (take (i + 1) h)) p)

-- a seat that goes on from a wait-until waited for a predicate that holds for the data
abbrev pub ThePredicateHolds : Monitor → List Event → Type 0
ThePredicateHolds m h =
    (i s : ℕ) → slice_get h (i + 1) ≡ Some (Resume s FromUntil) → (p : ℕ) × AwaitsWhatHolds m h i s p
