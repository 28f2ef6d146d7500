-- What a closed hall of a run has left: a legal history with the totals of the run
use Rattle.std.proofs.Common.{ℕ, ◌≤◌, Bool, List, arith}
use Rattle.monk_kinds.specs.declared.mode.Rules.{Rules}
use Rattle.monk_history.specs.declared.event.Event.{Event}
use Rattle.monk_samples.proofs.{MissLaws.buffer_misses, MissLaws.misses_by, RunEndLaws.has_left, RunLaws.law_of}
use Rattle.monk_samples.proofs.ProductLaws.{buffer_totals, book_totals, shop_totals}
use Rattle.monk_samples.specs.Totals.{HasEnded, HasTotals, RefusesNothing, totals_of}
use Rattle.monk_samples.specs.Samples.{scenario_of, size_in}
use Rattle.monk_samples.specs.declared.{manner.Manner.Manner, scenario.Scenario.Scenario}
use Rattle.monk_samples.specs.declared.sample.Sample.{Sample, TheVariants.Buffer, TheVariants.Book, TheVariants.Shop}
use Rattle.monk_samples.specs.Runs.{HasClosed, HasLeftHistory, run_house, run_setting}
use Rattle.std.proofs.lemmas.Bool.Decides.{nat_tests}

module _ (k : Rules) (answers : ℕ → ℕ → Bool → Type 0) (seats rounds : ℕ) (some : 1 ≤ seats) (h : List Event) where
  abbrev Closed : Scenario → Type 0
  Closed scenario = HasClosed k answers scenario seats rounds h

  totals_by : (sample : Sample) (m : Manner) → Closed (scenario_of sample m) → HasEnded sample h
      → HasTotals sample seats rounds (totals_of sample h)
  totals_by Buffer m is ended =
      let scenario = scenario_of Buffer m in
      buffer_totals k answers seats rounds is.run.hall (run_setting k scenario seats rounds)
      (run_house k scenario seats rounds is.run.hall) h is.run.passes is.whole m is.run.served (size_in m) _
      (law_of k scenario seats h is.closed.legal)
  totals_by Book m is ended =
      let scenario = scenario_of Book m in
      grind (arith, nat_tests, book_totals)
  totals_by Shop m is ended =
      let scenario = scenario_of Shop m in
      shop_totals k answers seats rounds is.run.hall (run_setting k scenario seats rounds)
      (run_house k scenario seats rounds is.run.hall) h is.run.passes is.whole some m is.run.served (size_in m) _
      (law_of k scenario seats h is.closed.legal)

  refuses_by : (sample : Sample) (m : Manner) → Closed (scenario_of sample m)
      → RefusesNothing k (scenario_of sample m) h
  refuses_by Buffer m is e =
      let scenario = scenario_of Buffer m in
      grind (arith, nat_tests, misses_by, buffer_misses)
  refuses_by Book m is e = absurd (cc)
  refuses_by Shop m is e = absurd (cc)

  -- for any scenario
  pub left_history : (scenario : Scenario) → Closed scenario → HasEnded scenario.sample h
      → HasLeftHistory k answers scenario seats rounds h
  left_history scenario is ended = record {
    left = has_left k answers scenario seats rounds h is;
    is = record {
      legal = is.closed.legal;
      few = is.closed.few;
      early = is.closed.early;
      totals = totals_by scenario.sample scenario.manner is ended;
    };
    refuses = refuses_by scenario.sample scenario.manner is;
  }
