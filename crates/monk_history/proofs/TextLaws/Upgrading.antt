-- An upgraded header has a line for each event.
use Rattle.std.proofs.Common.{◌≡◌, ℕ, ◌≤◌, ◌<◌, Bool, true, false, cond, List, [], ◌∷◌, refl, arith}
use Rattle.std.proofs.lemmas.Bool.{leb-true, leb-false, le-leb, Decides.nat_tests}
use Rattle.std.specs.Prelude.{nat_le}
use Rattle.monk_history.proofs.TextLaws.ObjectVersions.{every_event_named}
use Rattle.monk_history.specs.{declared.event.Event.Event, Limits.all_events_version}
use Rattle.monk_history.specs.Text.{Heading, upgraded_heading, first_version, is_writable, HasText}

has_line : (e : Event) → first_version e ≤ all_events_version
has_line e = grind (arith, nat_tests)

record Upgrades (v u : ℕ) : Type 0 where
  from : v ≤ u
  all_events : all_events_version ≤ u
  no_further : (n : ℕ) → all_events_version ≤ n → v ≤ n → u ≤ n

upgrades_by : (v : ℕ) (b : Bool) → nat_le all_events_version v ≡ b → Upgrades v (cond b v all_events_version)
upgrades_by v true e =
    record { from = omega arith; all_events = leb-true all_events_version v e; no_further = λ _ _ m. m }
upgrades_by v false e =
    let less : v < all_events_version = leb-false all_events_version v e in
    record { from = omega (arith, less); all_events = omega arith; no_further = λ _ all _. all }

upgrades : (h : Heading) → Upgrades h.version (upgraded_heading h).version
upgrades h = upgrades_by h.version (nat_le all_events_version h.version) refl

pub all_writable : (h : Heading) → all_events_version ≤ h.version → (es : List Event) → is_writable h es ≡ true
all_writable h all [] = refl
all_writable h all (e ∷ es) =
    rw (le-leb (first_version e) h.version (omega (arith, all, has_line e)), all_writable h all es) refl

-- a history that has a text has one under the upgraded header
pub upgraded_text : (h : Heading) (es : List Event) → HasText h es → HasText (upgraded_heading h) es
upgraded_text h es has =
    let fits = has.header_fits in
    let u = upgrades h in
    let from = u.from in
    let all = u.all_events in
    grind (arith, nat_tests, every_event_named, all_writable)
