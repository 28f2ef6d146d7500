-- A play is played exactly if the bytes are its text, and what is written then.
use Rattle.std.proofs.Common.{◌≡◌, ℕ, ◌≤◌, ◌^◌, inl, inr, List, length, Result, Ok, Err}
use Rattle.std.proofs.Common.{refl, sym, ap, subst, ◌∙◌, arith}
use Rattle.std.specs.Prelude.{◌↔◌}
use Rattle.monk_kinds.specs.declared.mode.Rules.{Rules}
use Rattle.monk_object.specs.{Object.Object, Names.most}
use Rattle.monk_history.specs.Text.{Heading, HasText}
use Rattle.monk_history.specs.Meaning.{Legal.IsLegal, Monitor.Monitor, Monitor.monitor}
use Rattle.monk_history.specs.declared.{event.Event.Event, text.fault.ReadFault.ReadFault}
use Rattle.monk_world.proofs.PublicLaws.{same_monitor, play_again, play_found}
use Rattle.monk_world.specs.{declared.command.Command.Command, Play.Reading.Play, Play.Reading.play}
use Rattle.monk_world.specs.{Play.Reading.play_at, Records.IsRecordedBy, Runs.opening_state, State.State, Telling.IsLed}
use Rattle.monk_floor.specs.View.{monitor_of}
use Rattle.monk_commands.specs.Played.{IsAnswer, IsAnswerTo, IsLedTo, IsPlayOf, IsPlayText, Telling}
use Rattle.std.proofs.lemmas.Bool.Decides.{nat_tests}

found_again : (input : List ℕ) (h : Heading) (budget : ℕ) (cs : List (ℕ × Command)) → IsPlayOf input h budget cs
    → play_at (2 ^ 25) input ≡ Ok (play h budget cs)
found_again input h budget cs t = ap (play_at (2 ^ 25)) t.whole ∙ play_again (2 ^ 25) h budget cs t.has_text t.few

module _ (Tells : Telling) (input : List ℕ) (status : ℕ) (Puts : List ℕ → Type 0) where
  text_is : (p : Play) → play_at (2 ^ 25) input ≡ Ok p → p.0.size ≤ most p.0.object → IsPlayOf input p.0 p.1 p.2
  text_is p is size =
      let t = play_found (2 ^ 25) input p is in
      record { has_text = t.has_text; few = t.few; whole = t.whole; size = size }

  is_text : (r : Result Play ReadFault) → play_at (2 ^ 25) input ≡ r → IsAnswer Tells r status Puts
      → status ≡ 0 → IsPlayText input
  is_text (Ok p) is (inl a) none = (p.0, (p.1, (p.2, text_is p is a.0)))
  is_text (Ok p) is (inr a) none = absurd (omega (arith, a.1, none))
  is_text (Err f) is a none = absurd (omega (arith, a.0, none))

  -- the answer to the text of a play
  of_play : (h : Heading) (budget : ℕ) (cs : List (ℕ × Command)) → h.size ≤ most h.object
      → IsAnswer Tells (Ok (play h budget cs)) status Puts → (status ≡ 0) × Tells h budget cs Puts
  of_play h budget cs size h' = grind (arith, nat_tests)

  pub answer_of : (h : Heading) (budget : ℕ) (cs : List (ℕ × Command)) → IsPlayOf input h budget cs
      → IsAnswerTo Tells input status Puts → (status ≡ 0) × Tells h budget cs Puts
  answer_of h budget cs t a = grind (arith, nat_tests, of_play, Result, found_again)

  pub exactly : IsAnswerTo Tells input status Puts → (status ≡ 0) ↔ IsPlayText input
  exactly a = (is_text (play_at (2 ^ 25) input) refl a, λ t. (answer_of t.0 t.1.0 t.1.1.0 t.1.1.1 a).0)

-- what a world that was made and run has come to
pub led_to : (k : Rules) (o : Object) (opening : List ℕ) (h : Heading) (budget : ℕ) (commands : List (ℕ × Command))
    (events : List Event) (seats conds : ℕ) (s t : State)
    → seats ≡ h.seats → conds ≡ h.conds → s ≡ opening_state opening seats conds budget
    → IsLed k o s commands t → IsRecordedBy k o s commands t → events ≡ t.floor.history
    → IsLegal (monitor_of k o t.floor) t.floor.history
    → length t.floor.history ≤ 2 ^ 25 → HasText h events → IsLedTo k o opening h budget commands events
led_to k o opening h budget commands events seats conds s t seats_are conds_are opens led recorded is legal few
    has_text =
    let kept = same_monitor k o s recorded.steps t recorded.recorded in
    let opening_is : t.floor.opening ≡ opening = kept.opening ∙ ap (λ (u : State). u.floor.opening) opens in
    let seats_is : t.floor.seats ≡ h.seats = kept.seats ∙ (ap (λ (u : State). u.floor.seats) opens ∙ seats_are) in
    let conds_is : t.floor.conds ≡ h.conds = kept.conds ∙ (ap (λ (u : State). u.floor.conds) opens ∙ conds_are) in
    let monitor_is : monitor_of k o t.floor ≡ monitor k h.seats h.conds o opening = grind (arith, nat_tests) in
    let opened : opening_state opening seats conds budget ≡ opening_state opening h.seats h.conds budget =
    rw (seats_are, conds_are) refl in
    record {
      last = t;
      is_led = subst (λ (u : State). IsLed k o u commands t) (opens ∙ opened) led;
      is_last = is;
      legal = subst (λ (m : Monitor). IsLegal m events) monitor_is
          (subst (λ (es : List Event). IsLegal (monitor_of k o t.floor) es) (sym is) legal);
      has_text = has_text;
      few = subst (λ (es : List Event). length es ≤ 2 ^ 25) (sym is) few;
    }
