-- The choice of a release by the path of its mode, if not all three queues can matter
use Rattle.std.specs.Prelude.{ℕ, ◌==◌, Bool, true, false, ◌&&◌, Option, Some, None, if◌then◌else◌}
use Rattle.monk_kinds.specs.declared.mode.Mode.{Mode}
use Rattle.monk_kinds.specs.declared.mode.Mode.TheVariants.{Blocking, NonBlocking, QuasiBlocking, ImmediateReturn, Automatic}
use Rattle.monk_kinds.specs.declared.mode.Pick.{Pick}
use Rattle.monk_kinds.specs.declared.mode.Pick.TheVariants.{Entry as WishEntry, Waiter as WishWaiter, Signaller as WishSignaller}
use Rattle.monk_history.specs.declared.event.From3.{From3}
use Rattle.monk_history.specs.declared.event.From3.TheVariants.{Waiter as FromWaiter, Signaller as FromSignaller, Until as FromUntil}
use Rattle.monk_history.specs.declared.event.Next.{Next}
use Rattle.monk_history.specs.declared.event.Next.TheVariants.{Stay, Entry, Waiter, Signaller, Until as UntilSeat}

-- whether somebody may be in the signaller queue between two events
abbrev pub keeps_signallers : Mode → Bool
keeps_signallers Blocking = true
keeps_signallers NonBlocking = false
keeps_signallers QuasiBlocking = true
keeps_signallers ImmediateReturn = false
keeps_signallers Automatic = false

-- the choice of that seat from that queue
abbrev pub next_from : From3 → ℕ → Next
next_from FromWaiter j = Waiter j
next_from FromSignaller j = Signaller j
next_from FromUntil j = UntilSeat j

-- the choice if only one inner queue counts, by its front and by whether entry ties with it
abbrev pub single_choice : From3 → Bool → Option ℕ → Bool → Pick → Next
single_choice queue ties None known wish = Entry
single_choice queue ties (Some j) known WishEntry = if known && ties then Entry else next_from queue j
single_choice queue ties (Some j) known WishWaiter = next_from queue j
single_choice queue ties (Some j) known WishSignaller = next_from queue j

-- the choice of the signaller queue's front j. It is to stay if j is the caller s
abbrev pub staying : ℕ → ℕ → Next
staying j s = if j == s then Stay else Signaller j

-- the choice if a waiter queue and a signaller queue have one priority, by their fronts and by whether entry ties
-- with them
abbrev pub equal_choice : Bool → Option ℕ → Option ℕ → ℕ → Bool → Pick → Next
equal_choice ties None None s known wish = Entry
equal_choice ties (Some w) None s known WishEntry = if known && ties then Entry else Waiter w
equal_choice ties (Some w) None s known WishWaiter = Waiter w
equal_choice ties (Some w) None s known WishSignaller = Waiter w
equal_choice ties None (Some g) s known WishEntry = if known && ties then Entry else staying g s
equal_choice ties None (Some g) s known WishWaiter = staying g s
equal_choice ties None (Some g) s known WishSignaller = staying g s
equal_choice ties (Some w) (Some g) s known WishEntry = if known && ties then Entry else Waiter w
equal_choice ties (Some w) (Some g) s known WishWaiter = Waiter w
equal_choice ties (Some w) (Some g) s known WishSignaller = staying g s

-- the choice of a signal that hands over to the seat that it serves, by that seat
abbrev pub served_choice : Option ℕ → Next
served_choice None = Stay
served_choice (Some j) = Waiter j
