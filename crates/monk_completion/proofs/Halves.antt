-- A log ends with half a signal exactly if one is still to come
use Rattle.std.proofs.Common.{arith, ◌≡◌, ℕ, true, cond, List, [], ◌∷◌, ◌++◌, Option, Some, None, refl, ap, ◌∙◌}
use Rattle.std.{specs.List.last_or, proofs.lemmas.Bool.Decides.nat_tests}
use Rattle.monk_kinds.specs.declared.mode.Mode.{Mode}
use Rattle.monk_history.specs.{declared.event.Event.Event, Meaning.Events.is_call_of, Meaning.Events.returns_at_once}
use Rattle.monk_completion.specs.{Completion.leaving, Completion.other_half, Erasure.erasure_of}
use Rattle.monk_logs.specs.declared.text.line.LogLine.{LogLine, TheVariants.Leave, TheVariants.Signal}

last_append : (o : Option LogLine) (xs ys : List LogLine) → last_or o (xs ++ ys) ≡ last_or (last_or o xs) ys
last_append o [] ys = refl
last_append o (x ∷ xs) ys = last_append (Some x) xs ys

half_after : (k : Mode) (front ls : List LogLine)
    → other_half k (front ++ ls) ≡ cond (returns_at_once k) (leaving (last_or (last_or None front) ls)) []
half_after k front ls = ap (λ (o : Option LogLine). cond (returns_at_once k) (leaving o) []) (last_append None front ls)

pub never : (k : Mode) → other_half k [] ≡ []
never k = grind arith

whole_event : (k : Mode) (o : Option LogLine) (e : Event) → is_call_of k e ≡ true
    → cond (returns_at_once k) (leaving (last_or o (erasure_of e))) [] ≡ []
whole_event k o e h = grind arith

-- after an event that the mode has, no half is to come
pub event_whole : (k : Mode) (front : List LogLine) (e : Event) → is_call_of k e ≡ true
    → other_half k (front ++ erasure_of e) ≡ []
event_whole k front e h = half_after k front (erasure_of e) ∙ whole_event k (last_or None front) e h

-- after a signal of immediate return, one half is to come
pub signal_half : (k : Mode) (front : List LogLine) (s c : ℕ) → returns_at_once k ≡ true
    → other_half k (front ++ Signal s c ∷ []) ≡ Leave s ∷ []
signal_half k front s c h = grind (arith, nat_tests, half_after)
