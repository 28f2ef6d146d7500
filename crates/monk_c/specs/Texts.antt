-- The text of a history, as C gets it
use Rattle.std.specs.Prelude.{◌≡◌, ◌⊎◌, ◌++◌, ◌≤◌, ℕ, ℤ, pos, List, length, drop, nat_le, Option, Some, None, if◌then◌else◌}
use Rattle.monk_kinds.specs.declared.name.KindName.{KindName}
use Rattle.monk_history.specs.{Limits.most_lines, Text.HasText, Text.text}
use Rattle.monk_history.specs.Meaning.{Legal.IsLegal, Named.named_monitor}
use Rattle.monk_hall.specs.Tokens.{Holder}
use Rattle.monk_c.specs.{Answers.refusal_number, Headings.heading_for}
use Rattle.monk_c.specs.Stands.{At, Booked, RoomView, At.Outside, At.Waiting, At.Inside}
use Rattle.monk_c.specs.declared.refusal.Refusal.{Refusal, TheVariants.NotNow, TheVariants.Memory, TheVariants.Closed}

-- the text of the history that the seat inside sees, under the header of its hall. The history is legal for the monitor
-- that the header names, and no longer than a text may be. So the text is read as this header and these events again
pub record IsTextOf (k : KindName) (r : RoomView) (a : Holder) (bytes : List ℕ) : Type 0 where
  pub is : bytes ≡ text (heading_for k r) a.floor.history
  pub has_text : HasText (heading_for k r) a.floor.history
  pub legal : IsLegal (named_monitor (heading_for k r)) a.floor.history
  pub few : length a.floor.history ≤ most_lines

-- only a seat that is inside has the text
abbrev pub HasTextAt : KindName → RoomView → At → List ℕ → Type 0
HasTextAt k r (Outside p) bytes = ⊥
HasTextAt k r (Waiting p) bytes = ⊥
HasTextAt k r (Inside a) bytes = IsTextOf k r a bytes

-- why there is none
abbrev pub IsTextRefusal : At → Refusal → Type 0
IsTextRefusal (Outside p) f = f ≡ NotNow
IsTextRefusal (Waiting p) f = f ≡ NotNow
IsTextRefusal (Inside a) f = f ≡ Memory

-- the bytes are the text of the handle's history
abbrev pub HasTextBooked : Option Booked → List ℕ → Type 0
HasTextBooked None bytes = ⊥
HasTextBooked (Some b) bytes = HasTextAt b.kind b.seat.room b.seat.at bytes

-- why a handle gives no text
abbrev pub IsTextRefusalOf : Option Booked → Refusal → Type 0
IsTextRefusalOf None f = f ≡ Closed
IsTextRefusalOf (Some b) f = IsTextRefusal b.seat.at f

-- the bytes are at the front of C's memory if they have room there; else it is unchanged
abbrev pub filled : List ℕ → List ℕ → List ℕ
filled bytes old = if nat_le (length bytes) (length old) then bytes ++ drop (length bytes) old else old

-- the answer to C for a text that is there
abbrev pub IsPut : List ℕ → ℤ → List ℕ → List ℕ → Type 0
IsPut bytes code old new =
    ((code ≡ pos (length bytes)) × (new ≡ filled bytes old)) ⊎ ((code ≡ refusal_number Memory) × (new ≡ old))

-- the answer to C: the length of the text, or why there is none
abbrev pub IsTold : Option Booked → ℤ → List ℕ → List ℕ → Type 0
IsTold s code old new =
    ((bytes : List ℕ) × HasTextBooked s bytes × IsPut bytes code old new)
    ⊎ ((f : Refusal) × IsTextRefusalOf s f × (code ≡ refusal_number f) × (new ≡ old))
