-- How a run ends: all its seats have served to their end, or why not
use Rattle.std.specs.Prelude.{ℕ, ◌⊎◌, Bool, List}
use Rattle.atomic_table.specs.Seated.{TableId}
use Rattle.monk_kinds.specs.declared.mode.Rules.{Rules}
use Rattle.monk_object.specs.Names.{meaning_named, opening_named}
use Rattle.monk_history.specs.declared.event.Event.{Event}
use Rattle.monk_hall.specs.{Records.first_view, Rule.setting_of, declared.setting.Setting.Setting}
use Rattle.monk_hall.specs.Tokens.{House, Token, tokens}
use Rattle.monk_samples.specs.declared.run_fault.RunFault.TheVariants as run
use Rattle.monk_samples.specs.{Crews.IsClosed, Ends.HaveServed, Ends.HasEndedFirst, Totals.RefusesNothing}
use Rattle.monk_samples.specs.Wholes.{HoldsOperationsOf, IsFirstSpent, IsLeftBy, IsUnclosable}
use Rattle.monk_samples.specs.Samples.{IsHistoryOf, sample_object, size_in, conds_of, budget_of}
use Rattle.monk_samples.specs.declared.{run_fault.RunFault.RunFault, scenario.Scenario.Scenario}
use Rattle.monk_samples.specs.declared.end.End.{End, TheVariants.Tired, TheVariants.Late}

-- how the hall of a run is made
abbrev pub run_setting : Rules → Scenario → ℕ → ℕ → Setting
run_setting k s seats rounds =
    setting_of (opening_named (sample_object s.sample) (size_in s.manner)) seats (conds_of k) (budget_of seats rounds)

-- the hall of a run
abbrev pub run_house : Rules → Scenario → ℕ → ℕ → TableId → House
run_house k s seats rounds z = record { id = z; setting = run_setting k s seats rounds }

-- the passes with which a run begins, one for each seat in order
abbrev pub run_passes : Rules → Scenario → ℕ → ℕ → TableId → List Token
run_passes k s seats rounds z = tokens z (first_view (run_setting k s seats rounds))

module _ (k : Rules) (answers : ℕ → ℕ → Bool → Type 0) (s : Scenario) (seats rounds : ℕ) where
  -- in a hall of the run every seat has served to its end, and has returned its pass
  pub record HasRun : Type 0 where
    pub hall : TableId
    pub passes : List Token
    pub served : HaveServed k (meaning_named (sample_object s.sample)) answers s seats rounds
        (run_house k s seats rounds hall) (run_passes k s seats rounds hall) passes

  -- the seats have done that, and this is the history that they have left
  pub record HasLeft (history : List Event) : Type 0 where
    pub run : HasRun
    pub left : IsLeftBy history run.passes

  -- the hall of the run was also closed with this history, which holds what they have done and nothing else
  pub record HasClosed (history : List Event) : Type 0 where
    pub run : HasRun
    pub left : IsLeftBy history run.passes
    pub closed : IsClosed k (meaning_named (sample_object s.sample)) (run_setting k s seats rounds) history
    pub whole : HoldsOperationsOf history run.passes

  -- the history is also legal, with the totals of the run
  pub record HasLeftHistory (history : List Event) : Type 0 where
    pub left : HasLeft history
    pub is : IsHistoryOf k s seats rounds history
    pub refuses : RefusesNothing k s history

  -- the lowest seat that did not serve to its end has ended with `end`
  pub record HasStopped (end : End) : Type 0 where
    pub hall : TableId
    pub first : HasEndedFirst k (meaning_named (sample_object s.sample)) answers s seats rounds
        (run_passes k s seats rounds hall) end

  -- every seat has served to its end, and then the first has too few events left to come in once more and close the
  -- hall
  pub record IsOverspent : Type 0 where
    pub run : HasRun
    pub spent : IsFirstSpent run.passes

  -- every seat has served to its end, and the first could come in once more. But the hall could not be closed, or its
  -- history is not whole
  pub record IsUnclosed : Type 0 where
    pub run : HasRun
    pub able : IsFirstSpent run.passes → ⊥
    pub why : IsUnclosable k (meaning_named (sample_object s.sample)) s.sample run.passes

  -- why the run has no outcome
  abbrev pub IsFaultOfRun : RunFault → Type 0
  IsFaultOfRun run.Range = Unit {0}
  IsFaultOfRun run.Memory = Unit {0}
  IsFaultOfRun run.Thread = Unit {0}
  IsFaultOfRun run.Tired = HasStopped Tired ⊎ IsOverspent
  IsFaultOfRun run.Late = HasStopped Late
  IsFaultOfRun run.Busy = IsUnclosed
