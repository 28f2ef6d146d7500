-- A run by some commands, and one more step
use Rattle.std.proofs.Common.{◌≡◌, ℕ, List, [], ◌∷◌, ◌++◌, refl, sym, ap, subst, ◌∙◌, append_assoc}
use Rattle.std.proofs.lemmas.List.{append-nil, map-append}
use Rattle.monk_kinds.specs.declared.mode.Rules.{Rules}
use Rattle.monk_object.specs.Object.{Object}
use Rattle.monk_world.specs.{Runs.Told, Runs.IsRun, State.State, StepTable.IsStep, Telling.command_of, Telling.IsLed}
use Rattle.monk_world.specs.declared.{answer.Answer.Answer, command.Command.Command}

run-push : (k : Rules) (o : Object) (s t u : State) (told : List Told) (x : Told) → IsRun k o s told t
    → IsStep k o t x.seat x.command x.answer u → IsRun k o s (told ++ x ∷ []) u
run-push k o s t u [] x r step = (u, subst (λ (v : State). IsStep k o v x.seat x.command x.answer u) r step, refl)
run-push k o s t u (y ∷ ys) x r step = (r.0, r.1, run-push k o r.0 t u ys x r.2 step)

pub led_more : (k : Rules) (o : Object) (s t u : State) (commands : List (ℕ × Command)) (seat : ℕ) (command : Command)
    (answer : Answer) → IsLed k o s commands t → IsStep k o t seat command answer u
    → IsLed k o s (commands ++ (seat, command) ∷ []) u
led_more k o s t u commands seat command answer led step =
    let x : Told = record { seat = seat; command = command; answer = answer } in
    record {
      told = led.told ++ x ∷ [];
      by_commands = map-append command_of led.told (x ∷ []) ∙ ap (λ cs. cs ++ (seat, command) ∷ []) led.by_commands;
      is_run = run-push k o s t u led.told x led.is_run step;
    }

-- ---- a run by commands of which these are left

pub record IsLedSoFar (k : Rules) (o : Object) (s : State) (left all : List (ℕ × Command)) (t : State) : Type 0 where
  pub done : List (ℕ × Command)
  pub led : IsLed k o s done t
  pub whole : done ++ left ≡ all

pub so_far_more : (k : Rules) (o : Object) (s t u : State) (old new all : List (ℕ × Command)) (told : ℕ × Command)
    (answer : Answer) → old ≡ told ∷ new → IsStep k o t told.0 told.1 answer u → IsLedSoFar k o s old all t
    → IsLedSoFar k o s new all u
so_far_more k o s t u old new all told answer is step h =
    record {
      done = h.done ++ told ∷ [];
      led = led_more k o s t u h.done told.0 told.1 answer h.led step;
      whole = append_assoc h.done (told ∷ []) new ∙ (ap (λ cs. h.done ++ cs) (sym is) ∙ h.whole);
    }

pub so_far_all : (k : Rules) (o : Object) (s t : State) (left all : List (ℕ × Command)) → left ≡ []
    → IsLedSoFar k o s left all t → IsLed k o s all t
so_far_all k o s t left all none h =
    subst (λ (cs : List (ℕ × Command)). IsLed k o s cs t)
    (sym (append-nil h.done) ∙ (ap (λ cs. h.done ++ cs) (sym none) ∙ h.whole)) h.led
