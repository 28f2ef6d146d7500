-- What a recorder writes for one more event, and how seats enter
use Rattle.std.proofs.Common.{arith, ◌≡◌, ℕ, Bool, false, not, cond, List, [], ◌∷◌, ◌++◌, Some, None, refl, ap, ◌∙◌}
use Rattle.std.{specs.List.AllByRecursion, proofs.lemmas.Grind.flat_map-append, proofs.lemmas.List.append-nil}
use Rattle.monk_history.specs.declared.event.Event.TheVariants as event
use Rattle.monk_history.specs.Meaning.{Events.next_of, Events.via_of, Release.with_next, Signallers.is_empty}
use Rattle.monk_history.specs.declared.event.{Event.Event, Via.TheVariants.Free, Via.TheVariants.Handed}
use Rattle.monk_history.specs.declared.event.Next.{Next, TheVariants.Stay}
use Rattle.monk_logs.specs.declared.text.line.LogLine.{LogLine}
use Rattle.monk_completion.specs.Completion.{AreHandedOver, IsNoFreeEnter}
use Rattle.monk_completion.specs.Erasure.{erasure_of, erasure}

pub erasure-push : (h : List Event) (e : Event) → erasure (h ++ e ∷ []) ≡ erasure h ++ erasure_of e
erasure-push h e = flat_map-append erasure_of h (e ∷ [])
    ∙ ap (λ (x : List LogLine). erasure h ++ x) (append-nil (erasure_of e))

pub erased_with_next : (x : Next) (e : Event) → erasure_of (with_next x e) ≡ erasure_of e
erased_with_next x e = grind arith

-- ---- each seat that enters after the first event is handed the monitor

all_push : (P : Event → Type 0) (es : List Event) (e : Event) → AllByRecursion P es → P e
    → AllByRecursion P (es ++ e ∷ [])
all_push P [] e all one = (one, tt)
all_push P (x ∷ xs) e all one = (all.0, all_push P xs e all.1 one)

pub handed-push : (past : List Event) (e : Event) → AreHandedOver past → (is_empty past ≡ false → IsNoFreeEnter e)
    → AreHandedOver (past ++ e ∷ [])
handed-push [] e all one = tt
handed-push (x ∷ xs) e all one = all_push IsNoFreeEnter xs e all (one refl)

pub no_enter : (e : Event) → via_of e ≡ None → IsNoFreeEnter e
no_enter e h k0 = grind arith

pub release_is_no_enter : (x : Next) (e : Event) → next_of e ≡ Some Stay → via_of (with_next x e) ≡ None
release_is_no_enter x e h = grind arith

pub handed_enter : (s : ℕ) (b : Bool) → b ≡ false → IsNoFreeEnter (event.Enter s (cond (not b) Handed Free))
handed_enter s b h k0 = grind arith
