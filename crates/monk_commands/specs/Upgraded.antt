-- The answer to a text that is upgraded: the text of the same events in a version that has every event
use Rattle.std.specs.Prelude.{◌≡◌, ℕ, ◌≤◌, ◌^◌, List, length, Result, Ok, Err}
use Rattle.monk_history.specs.Text.{Heading, HasText, text, upgraded_heading, Reading.History, Reading.text_at}
use Rattle.monk_history.specs.declared.{event.Event.Event, text.fault.ReadFault.ReadFault}
use Rattle.monk_commands.specs.Answer.{LineAnswer, unreadable}

-- the answer of an upgrade to what was read
abbrev pub upgrade_answer : Result History ReadFault → LineAnswer
upgrade_answer (Ok h) = record { status = 0; text = text (upgraded_heading h.0) h.1 }
upgrade_answer (Err f) = unreadable f

-- the answer of an upgrade to an input
abbrev pub upgrade_of : List ℕ → LineAnswer
upgrade_of input = upgrade_answer (text_at (2 ^ 25) input)

-- the text of a history, of any size, legal or not
pub record IsHistoryOf (input : List ℕ) (h : Heading) (events : List Event) : Type 0 where
  pub has_text : HasText h events
  pub few : length events ≤ 2 ^ 25
  pub whole : input ≡ text h events

-- the input is the text of a history
abbrev pub IsHistoryText : List ℕ → Type 0
IsHistoryText input = (h : Heading) × ((events : List Event) × IsHistoryOf input h events)

-- given what writing bytes means: a text is written that is its own upgrade
pub record IsUpgraded (Puts : List ℕ → Type 0) : Type 0 where
  pub written : List ℕ
  pub puts : Puts written
  pub again : upgrade_of written ≡ record { status = 0; text = written }
