-- A choice in order of arrival depends only on the fronts of the queues
use Rattle.std.proofs.Common.{arith, ◌≡◌, ℕ, Bool, List, [], ◌∷◌, ◌++◌, take, Option, Some, refl}
use Rattle.std.specs.{Option.option_or, Prelude.slice_get}
use Rattle.monk_kinds.specs.declared.mode.Rules.{Rules}
use Rattle.monk_history.specs.{Just.just, Meaning.Choice.Queues, Meaning.Events.next_of, Meaning.Signallers.signals}
use Rattle.monk_history.specs.{Meaning.Waiters.serves, Meaning.Wish.unwished_choice}
use Rattle.monk_history.specs.declared.event.{Event.Event, Next.TheVariants.Stay}
use Rattle.monk_audit.specs.Settled.{permits}
use Rattle.monk_logs.specs.declared.text.line.LogLine.{LogLine}
use Rattle.monk_completion.specs.{Blame.stay_blame, Fronts.fronts_of, Told.told_next}

-- the first seat of two queues, one after the other
pub first_of_both : (xs ys : List ℕ) (o p : Option ℕ) → o ≡ slice_get xs 0 → p ≡ slice_get ys 0
    → just (option_or o p) ≡ take 1 (xs ++ ys)
first_of_both [] [] o p is so = rw (is, so) refl
first_of_both [] (y ∷ ys) o p is so = rw (is, so) refl
first_of_both (x ∷ xs) ys o p is so = rw is refl

pub first_alone : (xs : List ℕ) (o : Option ℕ) → o ≡ slice_get xs 0 → just o ≡ take 1 xs
first_alone xs o h = grind arith

-- a release serves at most one seat, and at most one steps back
pub one_served : (queue : ℕ → List ℕ) (e : Event) → next_of e ≡ Some Stay
    → just (slice_get (serves queue e) 0) ≡ serves queue e
one_served queue e h = grind arith

pub one_steps_back : (queue : ℕ → List ℕ) (e : Event) → just (slice_get (signals queue e) 0) ≡ signals queue e
one_steps_back queue e = grind arith

pub told_same : (q : Queues) (l : LogLine) → told_next (fronts_of q) l ≡ told_next q l
told_same q l = grind arith

-- ---- what is permitted

pub permits_same : (k : Rules) (q : Queues) (stays : Bool) (e : Event)
    → permits k (fronts_of q) stays e ≡ permits k q stays e
permits_same k q stays e = grind arith

-- ---- the choice without a wish

pub unwished_same : (k : Rules) (q : Queues) (s : ℕ) → unwished_choice k (fronts_of q) s ≡ unwished_choice k q s
unwished_same k q s = grind arith

pub stay_blame_same : (k : Rules) (q : Queues) (s : ℕ) → stay_blame k (fronts_of q) s ≡ stay_blame k q s
stay_blame_same k q s = grind arith
