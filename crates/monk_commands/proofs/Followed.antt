-- A replay that carries out one more event of a legal history
use Rattle.std.proofs.Common.{◌≡◌, ◌+◌, ◌<◌, ◌∙◌, ℕ, List, [], ap, get_or, length, refl, take}
use Rattle.monk_kinds.specs.declared.mode.Rules.{Rules}
use Rattle.monk_object.specs.Object.{Object}
use Rattle.monk_history.specs.Meaning.{Legal.IsLegal, Monitor.monitor, Reasons.reason_in, Step.after}
use Rattle.monk_history.specs.Meaning.Situation.{Situation, situation}
use Rattle.monk_history.specs.declared.event.{Event.Event, Event.TheVariants.Enter, Via.TheVariants.Free}
use Rattle.monk_audit.proofs.PublicLaws.{legal_take, no_reason, stands_more}

-- the opening state has no part in a reason
reason_opening : (k : Rules) (seats conds : ℕ) (o : Object) (d : List ℕ) (t : Situation) (e : Event)
    → reason_in (monitor k seats conds o []) t e ≡ reason_in (monitor k seats conds o d) t e
unfolding reason_in
reason_opening k seats conds o d t e = refl

pub followed_more : (k : Rules) (seats conds : ℕ) (o : Object) (d : List ℕ) (es : List Event) (i : ℕ) (t u : Situation)
    (r : ℕ) → i < length es → IsLegal (monitor k seats conds o d) es
    → t ≡ situation (monitor k seats conds o d) (take i es)
    → r ≡ reason_in (monitor k seats conds o []) t (get_or es i (Enter 0 Free))
    → (r ≡ 0 → u ≡ after o t (get_or es i (Enter 0 Free)))
    → u ≡ situation (monitor k seats conds o d) (take (i + 1) es)
followed_more k seats conds o d es i t u r there legal stands is goes =
    let m = monitor k seats conds o d in
    let e = get_or es i (Enter 0 Free) in
    let none : r ≡ 0 = no_reason m es i (Enter 0 Free) r there legal
    (is ∙ reason_opening k seats conds o d t e ∙ ap (λ (x : Situation). reason_in m x e) stands) in
    stands_more m es i (Enter 0 Free) t u there (legal_take m es i legal) stands (goes none)
