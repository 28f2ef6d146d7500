-- The samples: their objects, and what a run of one leaves
use Rattle.std.specs.Prelude.{◌≡◌, ℕ, ◌*◌, ◌+◌, ◌^◌, ◌≤◌, IsTrue, List, length, nat_le, if◌then◌else◌}
use Rattle.std.specs.List.{list_all}
use Rattle.monk_kinds.specs.{Names.rules_named, declared.mode.Rules.Rules, declared.name.KindName.KindName}
use Rattle.monk_object.specs.declared.name.ObjectName.TheVariants as object
use Rattle.monk_object.specs.{Names.meaning_named, Names.opening_named, declared.name.ObjectName.ObjectName}
use Rattle.monk_history.specs.Meaning.{Events.has_conditions, Legal.IsLegal, Named.named_monitor}
use Rattle.monk_history.specs.Meaning.Acts.{IsInOrder, ExcludesEachOther, ServesEachOne, acts_in}
use Rattle.monk_history.specs.Meaning.Monitor.{Monitor, monitor, data_of}
use Rattle.monk_history.specs.declared.event.Event.{Event}
use Rattle.monk_history.specs.Text.{Heading, first_version, heading, is_writable}
use Rattle.monk_samples.specs.Totals.{HasTotals, totals_of}
use Rattle.monk_samples.specs.declared.sample.Sample.{Sample, TheVariants.Buffer, TheVariants.Book, TheVariants.Shop}
use Rattle.monk_samples.specs.declared.scenario.Scenario.{Scenario}
use Rattle.monk_samples.specs.declared.manner.Manner.{Manner, TheVariants.Patient, TheVariants.Hasty}

-- the object of a sample
abbrev pub sample_object : Sample → ObjectName
sample_object Buffer = object.Buffer
sample_object Book = object.Book
sample_object Shop = object.Shop

-- what the seats of a run do. Other crates use this name
abbrev pub Played : Type 0
Played = Scenario

-- the same, by its parts
abbrev pub scenario_of : Sample → Manner → Scenario
scenario_of sample m = record { sample = sample; manner = m }

-- a run of a sample whose seats look again
abbrev pub patiently : Sample → Scenario
patiently sample = scenario_of sample Patient

-- a hasty run, which is over a buffer and whose seats don't look again
abbrev pub in_haste : Scenario
in_haste = scenario_of Buffer Hasty

-- the size of a sample's object. A hasty run has one place, because its seats then wait most often for each other
abbrev pub size_in : Manner → ℕ
size_in Patient = 4
size_in Hasty = 1

-- how many conditions a run has
abbrev pub conds_of : Rules → ℕ
conds_of k = if has_conditions k.mode then 3 else 0

-- how many events each seat of a run may record
abbrev pub budget_of : ℕ → ℕ → ℕ
budget_of seats rounds = 64 + rounds * (40 + 32 * seats)

-- the numbers of a run are in range
abbrev pub IsInRange : ℕ → ℕ → Type 0
IsInRange seats rounds = (2 ≤ seats) × (seats ≤ 16) × (1 ≤ rounds) × (rounds ≤ 1000)

-- the heading of a run's history
abbrev pub run_heading : KindName → Scenario → ℕ → Heading
run_heading k s seats = heading 1 k seats (conds_of (rules_named k)) (sample_object s.sample) (size_in s.manner)

-- each event has a line in the first version of a text
abbrev pub IsOfFirstVersion : List Event → Type 0
IsOfFirstVersion h = IsTrue (list_all (λ e. nat_le (first_version e) 1) h)

-- the acts of the history keep the law of the sample's object, for that size
abbrev pub KeepsLaw : Sample → ℕ → List ℕ → List Event → Type 0
KeepsLaw Buffer size state h = IsInOrder size state (acts_in h)
KeepsLaw Book size state h = ExcludesEachOther size state (acts_in h)
KeepsLaw Shop size state h = ServesEachOne size state (acts_in h)

-- the monitor of a run
abbrev pub run_monitor : Rules → Scenario → ℕ → Monitor
run_monitor k s seats = monitor k seats (conds_of k) (meaning_named (sample_object s.sample))
    (opening_named (sample_object s.sample) (size_in s.manner))

-- the history of a run: it is legal, within the budgets of all seats, has only events of the first version, and has
-- the totals of its seats and rounds
pub record IsHistoryOf (k : Rules) (s : Scenario) (seats rounds : ℕ) (h : List Event) : Type 0 where
  pub legal : IsLegal (run_monitor k s seats) h
  pub few : length h ≤ seats * budget_of seats rounds
  pub early : IsOfFirstVersion h
  pub totals : HasTotals s.sample seats rounds (totals_of s.sample h)

-- a run has left this history. It is legal for the monitor that its header names, is not too long for an audit, and
-- has a text under that header. The sample's law holds for it, and the totals are its own
pub record IsOutcome (k : KindName) (s : Scenario) (seats : ℕ) (h : Heading) (history : List Event)
    (totals : List ℕ) : Type 0 where
  pub header : h ≡ run_heading k s seats
  pub legal : IsLegal (named_monitor h) history
  pub few : length history ≤ 2 ^ 24
  pub writable : IsTrue (is_writable h history)
  pub law : KeepsLaw s.sample (size_in s.manner) (data_of (named_monitor h) history) history
  pub totals_are : totals ≡ totals_of s.sample history
