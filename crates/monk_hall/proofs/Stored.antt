-- The world that is shown after a store of one word, or a change of one record
use Rattle.std.proofs.Common.{◌≡◌, ◌≢◌, ℕ, ◌<◌, List, length, set, sym, refl, arith, get_or-set_same, get_or-set_other}
use Rattle.std.specs.Prelude.{slice_index}
use Rattle.monk_world.{specs.Update.update, proofs.PublicLaws.at_update}
use mathlib.Core.Path.{Path}
use Rattle.monk_hall.specs.{Layout.place_word, Layout.seat_word, declared.record.SeatRecord.SeatRecord}

-- a field of the records, after one record has changed
pub field_update : {X : Type 0} (f : SeatRecord → X) (at : ℕ → SeatRecord) (i : ℕ) (w : SeatRecord)
    → Path (ℕ → X) (λ j. f (update at i w j)) (update (λ j. f (at j)) i (f w))
field_update {X} f at i w = λ m j.
    at_update at i w (λ n y. Path X (f y) (update (λ k. f (at k)) i (f w) n))
    (sym (at_update (λ k. f (at k)) i (f w) (λ n y. n ≡ i → Path X y (f w)) (λ _. refl)
    (λ n ne e. absurd (ne e)) i refl))
    (λ n ne. sym (at_update (λ k. f (at k)) i (f w) (λ k y. k ≢ i → Path X y (f (at k)))
    (λ no. absurd (no refl)) (λ k _ _. refl) n ne)) j m

pub field_stays : {X : Type 0} (f : SeatRecord → X) (at : ℕ → SeatRecord) (i : ℕ) (w : SeatRecord)
    → Path X (f (at i)) (f w) → Path (ℕ → X) (λ j. f (update at i w j)) (λ j. f (at j))
field_stays {X} f at i w same = λ m j. at_update at i w (λ n y. Path X (f y) (f (at n))) (sym same) (λ n _. refl) j m

-- the place of another ticket, or of a seat, keeps its word
pub places_stay : (words : List ℕ) (k x : ℕ) → ((i : ℕ) → place_word i ≢ k)
    → Path (ℕ → ℕ) (λ i. slice_index (set words k x) (place_word i)) (λ i. slice_index words (place_word i))
places_stay words k x ne = λ m i. get_or-set_other words k (place_word i) x 0 (ne i) m

pub seats_stay : (words : List ℕ) (k x : ℕ) → ((j : ℕ) → seat_word j ≢ k)
    → Path (ℕ → ℕ) (λ j. slice_index (set words k x) (seat_word j)) (λ j. slice_index words (seat_word j))
seats_stay words k x ne = λ m j. get_or-set_other words k (seat_word j) x 0 (ne j) m

pub place_stored : (words : List ℕ) (q x : ℕ) → place_word q < length words
    → Path (ℕ → ℕ) (λ i. slice_index (set words (place_word q) x) (place_word i))
    (update (λ i. slice_index words (place_word i)) q x)
place_stored words q x near = λ m i.
    at_update (λ n. slice_index words (place_word n)) q x
    (λ n y. Path ℕ (slice_index (set words (place_word q) x) (place_word n)) y)
    (get_or-set_same words (place_word q) x 0 near)
    (λ n ne. get_or-set_other words (place_word q) (place_word n) x 0 (λ e. ne (omega arith))) i m

pub seat_stored : (words : List ℕ) (q x : ℕ) → seat_word q < length words
    → Path (ℕ → ℕ) (λ j. slice_index (set words (seat_word q) x) (seat_word j))
    (update (λ j. slice_index words (seat_word j)) q x)
seat_stored words q x near = λ m j.
    at_update (λ n. slice_index words (seat_word n)) q x
    (λ n y. Path ℕ (slice_index (set words (seat_word q) x) (seat_word n)) y)
    (get_or-set_same words (seat_word q) x 0 near)
    (λ n ne. get_or-set_other words (seat_word q) (seat_word n) x 0 (λ e. ne (omega arith))) j m
