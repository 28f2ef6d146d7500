-- A stored list, read as a function of its places, after a store at one of them
use Rattle.std.proofs.Common.{◌≡◌, ℕ, ◌<◌, Bool, true, false, cond, get_or, List, length, set, refl, ap, ◌∙◌, arith}
use Rattle.std.proofs.{Common.get_or-set_same, Common.get_or-set_other, lemmas.List.get_or_read}
use Rattle.std.specs.Prelude.{slice_index_or, Some}
use Rattle.monk_history.specs.{Meaning.Events.is_stay, declared.event.Next.Next}
use Rattle.monk_floor.specs.View.{FloorView}
use Rattle.monk_world.proofs.UpdateLaws.{at_update, update_same}
use Rattle.monk_world.specs.{State.State, Steps.after_floor_in, Update.update, WorldViews.world_on, WorldViews.state_in}
use Rattle.monk_world.specs.declared.{home.Home.Home, words.WorldWords.WorldWords}
use Rattle.monk_world.specs.declared.place.Place.{Place, TheVariants.Idle, TheVariants.Back}
use mathlib.Core.Path.{Path}

pub stored : {X : Type 0} (xs : List X) (i : ℕ) (x d : X) → i < length xs
    → Path (ℕ → X) (λ j. slice_index_or (set xs i x) j d) (update (λ j. slice_index_or xs j d) i x)
stored {X} xs i x d near = λ m j.
    at_update (λ n. slice_index_or xs n d) i x (λ n y. Path X (slice_index_or (set xs i x) n d) y)
    (get_or-set_same xs i x d near) (λ n ne. get_or-set_other xs i n x d ne) j m

module _ (w : WorldWords) (i : ℕ) (near : i < w.seats) where
  pub place_stored : (p q : Place) → p ≡ q → Path (ℕ → Place) (λ j. slice_index_or (set w.places.items i p) j Idle)
      (update (world_on w).place i q)
  place_stored p q e = stored w.places.items i p Idle (omega (arith, near, w.has_places, w.places.ok.0))
      ∙ ap (λ (x : Place). update (world_on w).place i x) e

  pub count_stored : (x y : ℕ) → x ≡ y
      → Path (ℕ → ℕ) (λ j. slice_index_or (set w.counts.items i x) j 0) (update (world_on w).count i y)
  count_stored x y e = stored w.counts.items i x 0 (omega (arith, near, w.has_counts, w.counts.ok.0))
      ∙ ap (λ (n : ℕ). update (world_on w).count i n) e

  pub call_stored : (x y : ℕ) → x ≡ y
      → Path (ℕ → ℕ) (λ j. slice_index_or (set w.seat_places.items i x) j 0) (update (world_on w).seat_place i y)
  call_stored x y e = stored w.seat_places.items i x 0 (omega (arith, near, w.has_seats, w.seat_places.ok.0))
      ∙ ap (λ (n : ℕ). update (world_on w).seat_place i n) e

  pub ticket_stored : (x y : ℕ) → x ≡ y → Path (ℕ → ℕ) (λ j. slice_index_or (set w.ticket_places.items i x) j 0)
      (update (world_on w).ticket_place i y)
  ticket_stored x y e = stored w.ticket_places.items i x 0 (omega (arith, near, w.has_tickets, w.ticket_places.ok.0))
      ∙ ap (λ (n : ℕ). update (world_on w).ticket_place i n) e

  pub known_stored : (x y : Bool) → x ≡ y
      → Path (ℕ → Bool) (λ j. slice_index_or (set w.known.items i x) j false)
      (update (λ j. slice_index_or w.known.items j false) i y)
  known_stored x y e = stored w.known.items i x false (omega (arith, near, w.has_known, w.known.ok.0))
      ∙ ap (λ (b : Bool). update (λ j. slice_index_or w.known.items j false) i b) e

  -- a seat that stays active keeps its place
  pub settled : (x : Next) (to : Home) (p : Place)
      → p ≡ cond (is_stay (Some x)) ((world_on w).place i) (Back x to) → (f : FloorView)
      → Path State (record (state_in w f) {
        world =
            record (world_on w) { place = λ j. slice_index_or (set w.places.items i p) j Idle };
      })
      (record (state_in w f) { world = cond (is_stay (Some x)) (world_on w) (after_floor_in (world_on w) i x to) })
  settled x to p e f =
      ap (λ (place : ℕ → Place). record (state_in w f) { world = record (world_on w) { place = place } })
      (place_stored p (cond (is_stay (Some x)) ((world_on w).place i) (Back x to)) e)
      ∙ same_world (is_stay (Some x))
    where
      same_world : (b : Bool)
          → Path State (record (state_in w f) {
            world = record (world_on w) {
              place =
                  update (world_on w).place i (cond b ((world_on w).place i) (Back x to));
            };
          })
          (record (state_in w f) { world = cond b (world_on w) (after_floor_in (world_on w) i x to) })
      same_world true = ap (λ (place : ℕ → Place). record (state_in w f)
          { world = record (world_on w) { place = place } })
          (update_same (world_on w).place i ((world_on w).place i) refl)
      same_world false = refl

  pub call_read : (x : ℕ) → x ≡ get_or w.seat_places.items i x → x ≡ (world_on w).seat_place i
  call_read x e = get_or_read w.seat_places.items i x (omega (arith, near, w.has_seats, w.seat_places.ok.0)) e 0

  pub count_read : (x : ℕ) → x ≡ get_or w.counts.items i x → x ≡ (world_on w).count i
  count_read x e = get_or_read w.counts.items i x (omega (arith, near, w.has_counts, w.counts.ok.0)) e 0

  pub known_read : (x : Bool) → x ≡ get_or w.known.items i x → x ≡ slice_index_or w.known.items i false
  known_read x e = get_or_read w.known.items i x (omega (arith, near, w.has_known, w.known.ok.0)) e false

  pub place_read : (x : Place) → x ≡ get_or w.places.items i x → x ≡ (world_on w).place i
  place_read x e = get_or_read w.places.items i x (omega (arith, near, w.has_places, w.places.ok.0)) e Idle
