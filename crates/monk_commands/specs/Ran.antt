-- The answer to a run of a sample: its totals, its history, or both for a run in haste
use Rattle.std.specs.Prelude.{◌≡◌, ℕ, ◌⊎◌, Bool, true, List, [], ◌++◌, Option, Some, None, codes, slice_index}
use Rattle.std.specs.Fmt.{decimal}
use Rattle.monk_kinds.specs.{Names.rules_named, declared.name.KindName.KindName}
use Rattle.monk_history.specs.{Text.Heading, Text.HasText, Text.text, declared.event.Event.Event}
use Rattle.monk_samples.specs.{Runs.HasLeft, Runs.IsFaultOfRun, Totals.HasTotals, Totals.first_missed, Totals.missed_in}
use Rattle.monk_samples.specs.Samples.{IsOutcome, Played, in_haste, patiently}
use Rattle.monk_samples.specs.declared.sample.Sample.{Sample, TheVariants.Buffer, TheVariants.Book, TheVariants.Shop}
use Rattle.monk_samples.specs.declared.run_fault.RunFault.{RunFault}
use Rattle.monk_samples.specs.declared.run_fault.RunFault.TheVariants.{Range, Memory, Tired, Late, Busy, Thread}

-- the rows of a sample's totals
abbrev pub rows_text : Sample → List ℕ → List ℕ
rows_text Buffer t =
    codes "put " ++ (decimal (slice_index t 0) ++ (codes " " ++ (decimal (slice_index t 1)
    ++ (codes "\ntaken " ++ (decimal (slice_index t 2) ++ (codes " " ++ (decimal (slice_index t 3) ++ codes "\n")))))))
rows_text Book t =
    codes "reads " ++ (decimal (slice_index t 0) ++ (codes " " ++ (decimal (slice_index t 1)
    ++ (codes "\nwrites " ++ (decimal (slice_index t 2) ++ (codes " " ++ (decimal (slice_index t 3) ++ codes "\n")))))))
rows_text Shop t =
    codes "sat " ++ (decimal (slice_index t 0) ++ (codes "\ncalled " ++ (decimal (slice_index t 1)
    ++ (codes "\nfinished " ++ (decimal (slice_index t 2)
    ++ (codes "\ndeparted " ++ (decimal (slice_index t 3) ++ codes "\n")))))))

-- the lines with the totals of a legal run
abbrev pub totals_text : Sample → List ℕ → List ℕ
totals_text sample t = rows_text sample t ++ codes "legal\n"

-- the gate of the program's runs has let every seat into every round
abbrev pub lets_in : ℕ → ℕ → Bool → Type 0
lets_in seat round answer = answer ≡ true

-- every seat has served to its end in a run that left this legal history, with the totals of its seats and rounds
pub record HasServed (k : KindName) (s : Played) (sample : Sample) (seats rounds : ℕ) (heading : Heading)
    (history : List Event) (totals : List ℕ) : Type 0 where
  pub served : HasLeft (rules_named k) lets_in s seats rounds history
  pub outcome : IsOutcome k s seats heading history totals
  pub totals_are : HasTotals sample seats rounds totals

-- the totals of such a run are written
pub record IsTold (k : KindName) (sample : Sample) (seats rounds : ℕ) (Puts : List ℕ → Type 0) : Type 0 where
  pub heading : Heading
  pub history : List Event
  pub totals : List ℕ
  pub ran : HasServed k (patiently sample) sample seats rounds heading history totals
  pub told : Puts (totals_text sample totals)

-- the text of its history is written
pub record IsRecorded (k : KindName) (sample : Sample) (seats rounds : ℕ) (Puts : List ℕ → Type 0) : Type 0 where
  pub heading : Heading
  pub history : List Event
  pub totals : List ℕ
  pub ran : HasServed k (patiently sample) sample seats rounds heading history totals
  pub has_text : HasText heading history
  pub told : Puts (text heading history)

-- the line of the first act that was refused, by its step
abbrev pub first_line : Option ℕ → List ℕ
first_line None = codes "first none\n"
first_line (Some step) = codes "first " ++ (decimal step ++ codes "\n")

-- the totals of a buffer, how many acts were refused, and the first of them
abbrev pub hasty_text : List ℕ → ℕ → Option ℕ → List ℕ
hasty_text t missed first =
    rows_text Buffer t ++ (codes "missed " ++ (decimal missed ++ (codes "\n" ++ (first_line first ++ codes "legal\n"))))

-- for a run in haste the file gets the text of its history, and the lines are read from this history
pub record IsHastyTold (k : KindName) (seats rounds : ℕ) (Files Puts : List ℕ → Type 0) : Type 0 where
  pub heading : Heading
  pub history : List Event
  pub totals : List ℕ
  pub ran : HasServed k in_haste Buffer seats rounds heading history totals
  pub has_text : HasText heading history
  pub filed : Files (text heading history)
  pub told : Puts (hasty_text totals (missed_in history) (first_missed history))

-- the line that says how a run ended that left nothing; there is none for want of memory, and for a thread that was
-- not started, because the stream itself fails
abbrev pub end_word : RunFault → Option (List ℕ)
end_word Tired = Some (codes "tired\n")
end_word Late = Some (codes "late\n")
end_word Busy = Some (codes "busy\n")
end_word Memory = None
end_word Thread = None
end_word Range = None

-- a run has ended without totals, and a line says how
pub record IsEnd (k : KindName) (s : Played) (seats rounds : ℕ) (Puts : List ℕ → Type 0) : Type 0 where
  pub fault : RunFault
  pub why : IsFaultOfRun (rules_named k) lets_in s seats rounds fault
  pub word : List ℕ
  pub is : end_word fault ≡ Some word
  pub told : Puts word

-- a run has ended because a thread of it was not started: then the stream itself fails
abbrev pub IsUnstarted : KindName → Played → ℕ → ℕ → Type 0
IsUnstarted k s seats rounds = IsFaultOfRun (rules_named k) lets_in s seats rounds Thread

-- the answer to a run: its totals, or how it ended without them
abbrev pub IsRunAnswer : KindName → Sample → ℕ → ℕ → ℕ → (List ℕ → Type 0) → Type 0
IsRunAnswer k sample seats rounds status Puts =
    ((status ≡ 0) × IsTold k sample seats rounds Puts) ⊎ ((status ≡ 1) × IsEnd k (patiently sample) seats rounds Puts)

-- the answer to a record: the text of its history, or how it ended without one
abbrev pub IsRecordAnswer : KindName → Sample → ℕ → ℕ → ℕ → (List ℕ → Type 0) → Type 0
IsRecordAnswer k sample seats rounds status Puts =
    ((status ≡ 0) × IsRecorded k sample seats rounds Puts)
    ⊎ ((status ≡ 1) × IsEnd k (patiently sample) seats rounds Puts)

-- the answer to a hasty run: that; or how it ended without a history, and then the file gets nothing
abbrev pub IsHastyAnswer : KindName → ℕ → ℕ → ℕ → (List ℕ → Type 0) → (List ℕ → Type 0) → Type 0
IsHastyAnswer k seats rounds status Files Puts = ((status ≡ 0) × IsHastyTold k seats rounds Files Puts)
    ⊎ ((status ≡ 1) × IsEnd k in_haste seats rounds Puts × Files [])
