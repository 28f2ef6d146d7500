-- After a release gets the choice that a line shows, the line leads where it leads by that choice
use Rattle.std.proofs.Common.{arith, ◌≡◌, ◌∙◌, Bool, true, false, not, List, [], ◌∷◌, ◌++◌, ap, append_assoc}
use Rattle.std.specs.Prelude.{◌==◌, Result, Ok, Err, OnOk}
use Rattle.monk_history.specs.Meaning.{Monitor.Monitor, Reasons.reason_in, Situation.Situation, Step.after}
use Rattle.monk_history.specs.declared.event.Event.{Event}
use Rattle.monk_logs.specs.declared.text.line.LogLine.{LogLine}
use Rattle.monk_completion.specs.{Events.line_events, Events.told_events, Told.is_lapse, Told.told_release}
use Rattle.monk_completion.specs.Stand.{line_settled, line_told, settle, stand_or}
use Rattle.monk_completion.specs.declared.blame.Blame.{Blame}
use Rattle.monk_completion.specs.declared.pending.Pending.{Pending, TheVariants.Settled, TheVariants.Release}

module _ (m : Monitor) (t u : Situation) (e told : Event) (l : LogLine) (r : Result Pending Blame)
    (refused : Bool)
    (is : told ≡ told_release m.object t e l) (settled : stand_or u r ≡ settle m t told)
    (tested : refused ≡ not (reason_in m t told == 0)) (passed : refused ≡ false)
  where
    allowed : (reason_in m t told == 0) ≡ true
    allowed = grind arith

    pub there : (u ≡ after m.object t told) × (r ≡ Ok Settled)
    there = grind arith

    pub told_goes : is_lapse l ≡ false → line_settled m u l ≡ line_told m t e l
    told_goes h = grind arith

    -- the line's events come after the release
    pub told_more : (past known : List Event) → OnOk r (known ≡ past ++ told ∷ [])
        → known ++ line_events u l ≡ past ++ told_events m.object t (Release e) l
    told_more past known h =
        ap (λ (x : List Event). x ++ line_events u l) (on_ok r (known ≡ past ++ told ∷ []) there.1 h)
        ∙ append_assoc past (told ∷ []) (line_events u l)
        ∙ ap (λ (v : Situation). past ++ told ∷ line_events v l) there.0
        ∙ ap (λ (f : Event). past ++ f ∷ line_events (after m.object t f) l) is
      where
        on_ok : (s : Result Pending Blame) (P : Type 0) → s ≡ Ok Settled → OnOk s P → P
        on_ok (Ok p) P k x = x
        on_ok (Err why) P k x = absurd cc
