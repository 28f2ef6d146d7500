-- Threads that wait and wake, beside the steps of the table; and that no wake is missed
use Rattle.std.specs.Prelude.{◌≡◌, ◌≢◌, ℕ, ◌+◌, ◌==◌, ◌%◌, ◌⊎◌, if◌then◌else◌, Bool, true, false, List, [], ◌∷◌}
use Rattle.std.specs.Prelude.{Option, Some, None, slice_index}
use Rattle.monk_kinds.specs.{Kind.IsKind, declared.mode.Rules.Rules}
use Rattle.monk_object.specs.Object.{Object}
use Rattle.monk_floor.specs.Making.{make_refusal}
use Rattle.monk_world.specs.Places.{stage, ticket, ticketed_stage, inside_stage}
use Rattle.monk_hall.specs.{GrantsInTurn.granted_word, Laws.HallState, Laws.IsRecord, Layout.waiting_word}
use Rattle.monk_hall.specs.Schedules.{Step, By, IsStep, opening_table}
use Rattle.monk_hall.specs.declared.{record.SeatRecord.SeatRecord, setting.Setting.Setting}
use Rattle.monk_hall.specs.declared.deed.Deed.{Deed, TheVariants.LookForTicket, TheVariants.LookForCall}

-- what the thread of a seat does
pub data Wait : Type 0 where
  -- anything else
  Awake : Wait
  -- it has looked at this word, and found this
  Watched : ℕ → ℕ → Wait
  -- and then it has polled, and found no grant
  Polled : ℕ → ℕ → Wait
  -- and then it has set the mark of this word
  Marked : ℕ → ℕ → Wait
  -- it sleeps on this word
  Asleep : ℕ → Wait
  -- it doesn't sleep on this word any longer, and hasn't cleared the word's mark
  Risen : ℕ → Wait

-- the table, what each seat's thread does, which words are marked, and the granted words whose wake is still to come
pub record Threads : Type 0 where
  pub table : HallState
  pub waits : ℕ → Wait
  pub marks : ℕ → Bool
  pub wakes : List ℕ

-- what threads do, one at a time
pub data Act : Type 0 where
  -- a step of the table
  Take : Step → Act
  -- the thread of seat j looks at its word
  Watch : ℕ → Act
  -- it sets the mark of its word
  Mark : ℕ → Act
  -- it asks the system to sleep, and falls asleep
  Sleep : ℕ → Act
  -- it doesn't wait any longer: its word has changed, or it woke for no reason, or before its turn
  Rise : ℕ → Act
  -- it clears the mark of its word
  Clear : ℕ → Act
  -- the wake of a grant in this word, by a call of the system
  Wake : ℕ → Act
  -- the same where the word's mark is found clear: it wakes nobody
  Skip : ℕ → Act

-- a thread that has polled in vain, sleeps, or has its word marked takes no step
abbrev pub takes_none : Wait → Bool
takes_none Awake = false
takes_none (Watched w n) = false
takes_none (Polled w n) = true
takes_none (Marked w n) = true
takes_none (Asleep w) = true
takes_none (Risen w) = true

-- the thread whose seat takes the step is free to take it
abbrev pub MayTake : (ℕ → Wait) → Step → Type 0
MayTake waits (By i id d) = takes_none (waits i) ≡ false
MayTake waits _ = Unit {0}

-- what a thread does after its seat has taken a step: after a look in vain it may sleep on what it had seen before
abbrev pub wait_after : Wait → Deed → Wait
wait_after (Watched w n) (LookForTicket false) = Polled w n
wait_after (Watched w n) (LookForCall false) = Polled w n
wait_after _ _ = Awake

-- the same, with one seat's thread doing this now
abbrev pub with_wait : (ℕ → Wait) → ℕ → Wait → ℕ → Wait
with_wait waits i a j = if i == j then a else waits j

-- what a thread does when it doesn't wait any longer: one that has marked its word has still to clear that
abbrev pub risen : Wait → Wait
risen (Marked w n) = Risen w
risen (Asleep w) = Risen w
risen (Risen w) = Risen w
risen _ = Awake

-- the marks, with this one set or clear now
abbrev pub with_mark : (ℕ → Bool) → ℕ → Bool → ℕ → Bool
with_mark marks w b v = if w == v then b else marks v

-- what each thread does after a step
abbrev pub waits_after : (ℕ → Wait) → Step → ℕ → Wait
waits_after waits (By i id d) = with_wait waits i (wait_after (waits i) d)
waits_after waits _ = waits

-- a step that grants a word owes a wake of it
abbrev pub owed : Option ℕ → List ℕ → List ℕ
owed None ws = ws
owed (Some w) ws = w ∷ ws

-- the word is in the list
abbrev pub IsIn : ℕ → List ℕ → Type 0
IsIn w [] = ⊥
IsIn w (x ∷ xs) = (w ≡ x) ⊎ IsIn w xs

-- vs is ws without one w
abbrev pub IsWithout : ℕ → List ℕ → List ℕ → Type 0
IsWithout w [] vs = ⊥
IsWithout w (x ∷ xs) vs = ((w ≡ x) × (vs ≡ xs)) ⊎ ((rest : List ℕ) × (vs ≡ x ∷ rest) × IsWithout w xs rest)

-- the system wakes one thread that sleeps on the word, or nobody sleeps there
abbrev pub WakesOne : ℕ → (ℕ → Wait) → (ℕ → Wait) → Type 0
WakesOne w old new = (((j : ℕ) → old j ≢ Asleep w) × (new ≡ old))
    ⊎ ((j : ℕ) × (old j ≡ Asleep w) × (new ≡ with_wait old j (Risen w)))

-- the system lets a thread sleep only if the low half of the word is that of what the thread has seen
abbrev pub low_half : ℕ → ℕ
low_half n = n % 4294967296

-- an act leads from x to y
abbrev pub IsAct : Rules → Object → Setting → Threads → Act → Threads → Type 0
IsAct k o c x (Take step) y = (t : HallState) × IsStep k o c x.table step t × MayTake x.waits step
    × (y ≡ record {
      table = t;
      waits = waits_after x.waits step;
      marks = x.marks;
      wakes = owed (granted_word c.seats step) x.wakes;
    })
IsAct k o c x (Watch j) y = (r : SeatRecord) × IsRecord x.table r × (r.seat ≡ j)
    × (y ≡ record x {
      waits = with_wait x.waits j (Watched (waiting_word r) (slice_index x.table.words (waiting_word r)));
    })
IsAct k o c x (Mark j) y = (w : ℕ) × (n : ℕ) × (x.waits j ≡ Polled w n)
    × (y ≡ record x { waits = with_wait x.waits j (Marked w n); marks = with_mark x.marks w true })
IsAct k o c x (Sleep j) y = (w : ℕ) × (n : ℕ) × (x.waits j ≡ Marked w n)
    × (low_half (slice_index x.table.words w) ≡ low_half n)
    × (y ≡ record x { waits = with_wait x.waits j (Asleep w) })
IsAct k o c x (Rise j) y = y ≡ record x { waits = with_wait x.waits j (risen (x.waits j)) }
IsAct k o c x (Clear j) y = (w : ℕ) × (x.waits j ≡ Risen w)
    × (y ≡ record x { waits = with_wait x.waits j Awake; marks = with_mark x.marks w false })
IsAct k o c x (Wake w) y = (waits : ℕ → Wait) × (wakes : List ℕ) × WakesOne w x.waits waits
    × IsWithout w x.wakes wakes × (y ≡ record x { waits = waits; wakes = wakes })
IsAct k o c x (Skip w) y = (wakes : List ℕ) × (x.marks w ≡ false) × IsWithout w x.wakes wakes
    × (y ≡ record x { wakes = wakes })

-- these acts lead from x to y
abbrev pub IsRun : Rules → Object → Setting → Threads → List Act → Threads → Type 0
IsRun k o c x [] y = y ≡ x
IsRun k o c x (a ∷ acts) y = (z : Threads) × IsAct k o c x a z × IsRun k o c z acts y

-- before any act
abbrev pub opening_threads : Setting → Threads
opening_threads c = record { table = opening_table c; waits = λ j. Awake; marks = λ w. false; wakes = [] }

-- the seat's grant is in its word: its next look finds it
abbrev pub HasGrant : HallState → SeatRecord → Type 0
HasGrant s r = ((stage r.place ≡ ticketed_stage) × (slice_index s.words (waiting_word r) ≡ ticket r.place + 1))
    ⊎ ((stage r.place ≡ inside_stage) × (slice_index s.words (waiting_word r) ≡ r.count + 1))

-- in every run of threads, a seat whose thread sleeps sleeps on its own word, and the word is marked: so its wake isn't
-- skipped. If its grant is there, the wake of that word is still to come
abbrev pub NoWakeIsMissed : Type 0
NoWakeIsMissed =
    (k : Rules) (o : Object) (c : Setting) → IsKind k → make_refusal c.seats c.conds c.budget ≡ None
    → (acts : List Act) (x : Threads) → IsRun k o c (opening_threads c) acts x
    → (r : SeatRecord) (w : ℕ) → IsRecord x.table r → x.waits r.seat ≡ Asleep w
    → (waiting_word r ≡ w) × (x.marks w ≡ true) × (HasGrant x.table r → IsIn w x.wakes)
