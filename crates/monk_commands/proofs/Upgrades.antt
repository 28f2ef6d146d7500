-- A text is upgraded exactly if it is a history, and then to the text of the same events
use Rattle.std.proofs.Common.{◌≡◌, ℕ, ◌^◌, List, Result, Ok, Err}
use Rattle.std.proofs.Common.{refl, sym, ap, subst, ◌∙◌, arith}
use Rattle.std.specs.Prelude.{◌↔◌}
use Rattle.std.proofs.lemmas.Bool.Decides.{nat_tests}
use Rattle.monk_history.proofs.PublicLaws.Texts.{text_again, text_read, upgraded_text}
use Rattle.monk_history.specs.declared.{event.Event.Event, text.fault.ReadFault.ReadFault}
use Rattle.monk_history.specs.Text.{Heading, text, upgraded_heading, Reading.History, Reading.history, Reading.text_at}
use Rattle.monk_commands.specs.Upgraded.{IsHistoryOf, IsHistoryText, IsUpgraded, upgrade_answer, upgrade_of}
use Rattle.monk_commands.specs.Answer.{LineAnswer}

history_read : (input : List ℕ) (x : History) → text_at (2 ^ 25) input ≡ Ok x → IsHistoryOf input x.0 x.1
history_read input x is =
    let t = text_read (2 ^ 25) input x is in record { has_text = t.has_text; few = t.few; whole = t.whole }

text_upgraded : (input : List ℕ) (h : Heading) (events : List Event) → IsHistoryOf input h events
    → upgrade_of input ≡ upgrade_answer (Ok (history h events))
text_upgraded input h events t = grind (arith, nat_tests, text_again)

is_read : (input : List ℕ) (r : Result History ReadFault) → text_at (2 ^ 25) input ≡ r → (upgrade_answer r).status ≡ 0
    → IsHistoryText input
is_read input (Ok x) is e = (x.0, (x.1, history_read input x is))
is_read input (Err f) is e = absurd (omega (arith, e))

pub exactly : (status : ℕ) (bytes : List ℕ) → status ≡ (upgrade_of bytes).status → (status ≡ 0) ↔ IsHistoryText bytes
exactly status bytes h = (
  λ e. is_read bytes (text_at (2 ^ 25) bytes) refl (sym h ∙ e),
  λ t. h ∙ ap (λ (a : LineAnswer). a.status) (text_upgraded bytes t.0 t.1.0 t.1.1),
)

pub upgraded : (bytes : List ℕ) (Puts : List ℕ → Type 0) → Puts (upgrade_of bytes).text → (h : Heading)
    (events : List Event)
    → IsHistoryOf bytes h events → Puts (text (upgraded_heading h) events)
upgraded bytes Puts puts h events t =
    subst (λ (a : LineAnswer). Puts a.text) (text_upgraded bytes h events t) puts

upgraded_twice : (h : Heading) → upgraded_heading (upgraded_heading h) ≡ upgraded_heading h
upgraded_twice h = grind (arith, nat_tests)

abbrev answer_with : List Event → Heading → LineAnswer
answer_with events h = record { status = 0; text = text h events }

-- the text of an upgraded history is its own answer
upgraded_again : (input : List ℕ) (r : Result History ReadFault) (Puts : List ℕ → Type 0) → text_at (2 ^ 25) input ≡ r
    → (upgrade_answer r).status ≡ 0 → Puts (upgrade_answer r).text → IsUpgraded Puts
upgraded_again input (Ok x) Puts is e puts =
    let t = history_read input x is in
    record {
      written = text (upgraded_heading x.0) x.1;
      puts = puts;
      again = text_upgraded (text (upgraded_heading x.0) x.1) (upgraded_heading x.0) x.1
          (record { has_text = upgraded_text x.0 x.1 t.has_text; few = t.few; whole = refl })
          ∙ ap (answer_with x.1) (upgraded_twice x.0);
    }
upgraded_again input (Err f) Puts is e puts = absurd (omega (arith, e))

pub again : (status : ℕ) (bytes : List ℕ) (Puts : List ℕ → Type 0) → status ≡ (upgrade_of bytes).status
    → Puts (upgrade_of bytes).text → status ≡ 0 → IsUpgraded Puts
again status bytes Puts h puts e = upgraded_again bytes (text_at (2 ^ 25) bytes) Puts refl (sym h ∙ e) puts
