-- How a run ends, by the ends of its workers
use Rattle.std.proofs.Common.{◌≡◌, ℕ, ◌<◌, ◌≤◌, inl, inr, Bool, All, List, [], ◌∷◌, length, sym, ap, subst, ◌∙◌, arith}
use Rattle.std.proofs.lemmas.{List.Elements.All-cons, List.Elements.All-nil, Bool.Decides.nat_tests}
use Rattle.atomic_table.specs.Seated.{TableId}
use Rattle.monk_kinds.specs.declared.mode.Rules.{Rules}
use Rattle.monk_object.specs.Names.{meaning_named}
use Rattle.monk_history.specs.declared.event.Event.{Event}
use Rattle.monk_hall.specs.{declared.setting.Setting.Setting, Records.first_view}
use Rattle.monk_hall.specs.Tokens.{House, Token, tokens}
use Rattle.monk_samples.specs.declared.crew_fault.CrewFault.TheVariants as crew
use Rattle.monk_samples.specs.{Crews.IsClosed, Crews.IsOf, Faults.run_fault_of, Samples.sample_object}
use Rattle.monk_samples.specs.Runs.{HasClosed, HasLeft, HasRun, HasStopped, IsFaultOfRun, run_setting}
use Rattle.monk_samples.specs.Ends.{HaveServed, HasEndedFirst, IsFaultOfCrew}
use Rattle.monk_samples.specs.declared.{crew_fault.CrewFault.CrewFault, scenario.Scenario.Scenario}
use Rattle.monk_samples.specs.declared.end.End.{End, TheVariants.Tired, TheVariants.Late}
use Rattle.monk_samples.specs.Wholes.{HoldsOperationsOf, IsFaultOfClosing, IsLeftBy}

-- there is a pass
pub some_pass : (z : TableId) (c : Setting) → 2 ≤ c.seats → 0 < length (tokens z (first_view c))
some_pass z c many = grind (arith, nat_tests)

-- a history with which the hall was closed is what its seats have left
pub has_left : (k : Rules) (answers : ℕ → ℕ → Bool → Type 0) (scenario : Scenario) (seats rounds : ℕ)
    (history : List Event) → HasClosed k answers scenario seats rounds history
    → HasLeft k answers scenario seats rounds history
has_left k answers scenario seats rounds history s = record { run = s.run; left = s.left }

module _ (k : Rules) (answers : ℕ → ℕ → Bool → Type 0) (scenario : Scenario) (seats rounds : ℕ) where
  abbrev Served : House → List Token → List Token → Type 0
  Served = HaveServed k (meaning_named (sample_object scenario.sample)) answers scenario seats rounds

  -- each pass that came back is of the hall, and there is one
  pub back_of : (h : House) (ps qs : List Token) → Served h ps qs → All (IsOf h) qs
  back_of h [] [] s = All-nil (IsOf h)
  back_of h [] (q ∷ qs) s = absurd s
  back_of h (p ∷ ps) [] s = absurd s
  back_of h (p ∷ ps) (q ∷ qs) s = All-cons (IsOf h) q qs s.0.0 (back_of h ps qs s.1)

  pub some_back : (h : House) (ps qs : List Token) → Served h ps qs → 0 < length ps → 0 < length qs
  some_back h [] qs s some = absurd (omega (arith, some))
  some_back h (p ∷ ps) [] s some = absurd s
  some_back h (p ∷ ps) (q ∷ qs) s some = omega arith

  -- there was no memory
  pub no_memory : (fault : CrewFault) → fault ≡ crew.Memory
      → IsFaultOfRun k answers scenario seats rounds (run_fault_of fault)
  no_memory fault e = subst (λ f. IsFaultOfRun k answers scenario seats rounds (run_fault_of f)) (sym e) tt

  module _ (h : House) (made : List Token) (e : made ≡ tokens h.id (first_view h.setting))
      (c : h.setting ≡ run_setting k scenario seats rounds) where
    passes_are : made ≡ tokens h.id (first_view (run_setting k scenario seats rounds))
    passes_are = e ∙ ap (λ (x : Setting). tokens h.id (first_view x)) c

    -- all have served
    pub has_run : (qs : List Token) → Served h made qs → HasRun k answers scenario seats rounds
    has_run qs s = record {
      hall = h.id;
      passes = qs;
      served = subst (λ (x : Setting). Served (record { id = h.id; setting = x })
          (tokens h.id (first_view (run_setting k scenario seats rounds))) qs)
          c (subst (λ (ps : List Token). Served h ps qs) passes_are s);
    }

    pub has_closed : (qs : List Token) (history : List Event) → Served h made qs
        → IsClosed k (meaning_named (sample_object scenario.sample)) h.setting history → HoldsOperationsOf history qs
        → IsLeftBy history qs
        → HasClosed k answers scenario seats rounds history
    unfolding has_run
    has_closed qs history s closed whole left = record {
      run = has_run qs s;
      left = left;
      closed = subst (λ (x : Setting). IsClosed k (meaning_named (sample_object scenario.sample)) x history) c closed;
      whole = whole;
    }

    stopped : (end : End)
        → HasEndedFirst k (meaning_named (sample_object scenario.sample)) answers scenario seats rounds made end
        → HasStopped k answers scenario seats rounds end
    stopped end s = record {
      hall = h.id;
      first = subst (λ (ps : List Token). HasEndedFirst k
          (meaning_named (sample_object scenario.sample)) answers scenario seats rounds ps end)
          passes_are s;
    }

    -- or the crew has no passes
    pub crew_fault : (fault : CrewFault)
        → IsFaultOfCrew k (meaning_named (sample_object scenario.sample)) answers scenario seats rounds made fault
        → IsFaultOfRun k answers scenario seats rounds (run_fault_of fault)
    crew_fault crew.Memory s = tt
    crew_fault crew.Thread s = tt
    crew_fault crew.Tired s = inl (stopped Tired s)
    crew_fault crew.Late s = stopped Late s
    crew_fault crew.Busy s = absurd s

    -- or it can't be closed
    pub close_fault : (qs : List Token) (fault : CrewFault) → Served h made qs
        → IsFaultOfClosing k (meaning_named (sample_object scenario.sample)) scenario.sample qs fault
        → IsFaultOfRun k answers scenario seats rounds (run_fault_of fault)
    unfolding has_run
    close_fault qs fault s (inl is) = no_memory fault is
    close_fault qs fault s (inr (inl is)) =
        subst (λ f. IsFaultOfRun k answers scenario seats rounds (run_fault_of f)) (sym is.0)
        (record { run = has_run qs s; able = is.1; why = is.2 })
    close_fault qs fault s (inr (inr is)) =
        subst (λ f. IsFaultOfRun k answers scenario seats rounds (run_fault_of f)) (sym is.0)
        (inr (record { run = has_run qs s; spent = is.1 }))
