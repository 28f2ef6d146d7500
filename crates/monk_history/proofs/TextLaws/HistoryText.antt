-- The laws of the text of a history: what is read has that text, and what has a text is read from it.
use Rattle.std.proofs.Common.{◌≡◌, ℕ, ◌≤◌, true, List, [], ◌∷◌, length, Result, Ok, Err, refl, ap, subst, ◌∙◌, arith}
use Rattle.std.specs.{Prelude.IfOk, Prelude.nat_le, List.AllByRecursion, Global.Vec}
use Rattle.monk_history.proofs.TextLaws.TextFormats as formats
use Rattle.monk_history.proofs.TextLaws.{LineCuts.both, TextFormats.IsFormat}
use Rattle.monk_history.proofs.TextLaws.HeaderReading.{header_takes, header_again}
use Rattle.monk_history.proofs.TextLaws.PlainWords.{event_are_words, header_are_words, some_word}
use Rattle.monk_history.proofs.TextLaws.EventReading.{FitsVersion, event_takes, event_again}
use Rattle.monk_history.specs.Text.{Heading, text, header_words, event_words, first_version, is_writable, IsHeading}
use Rattle.monk_history.specs.Text.{EventFits, HasText, Lines.Gives}
use Rattle.monk_history.specs.Text.Reading.{History, history, view, header_at, event_under, text_at}
use Rattle.monk_history.specs.declared.{event.Event.Event, text.fault.ReadFault.ReadFault}
use Rattle.std.proofs.lemmas.Bool.Decides.{nat_tests}

headers : IsFormat header_words header_at IsHeading
headers = record { takes = header_takes; again = header_again; plain = header_are_words; some = λ h. omega arith }

abbrev EventFitsUnder : Heading → Event → Type 0
EventFitsUnder h = FitsVersion h.version

events : (h : Heading) → IsFormat event_words (event_under h) (EventFitsUnder h)
events h = record {
  takes = event_takes h.version;
  again = λ e fits. event_again h.version e fits.0 fits.1;
  plain = λ e fits. event_are_words e fits.0;
  some = some_word;
}

-- each event fits the version if each is in range and all are writable
fit_under : (h : Heading) (es : List Event) → AllByRecursion EventFits es → is_writable h es ≡ true
    → AllByRecursion (EventFitsUnder h) es
fit_under h [] fit has = tt
fit_under h (e ∷ es) fit has =
    let p = both (nat_le (first_version e) h.version) (is_writable h es) has in
    ((fit.0, p.0), fit_under h es fit.1 p.1)

fit_alone : (h : Heading) (es : List Event) → AllByRecursion (EventFitsUnder h) es → AllByRecursion EventFits es
fit_alone h [] fit = tt
fit_alone h (e ∷ es) fit = (fit.0.0, fit_alone h es fit.1)

writable_under : (h : Heading) (es : List Event) → AllByRecursion (EventFitsUnder h) es → is_writable h es ≡ true
writable_under h [] fit = refl
writable_under h (e ∷ es) fit = rw (fit.0.1, writable_under h es fit.1) refl

pub text_again : (limit : ℕ) (h : Heading) (es : List Event) → HasText h es → length es ≤ limit
    → text_at limit (text h es) ≡ Ok (history h es)
text_again limit h es has le =
    formats.text_again header_words header_at IsHeading headers event_words event_under EventFitsUnder events limit h es
    has.header_fits (fit_under h es has.events_fit has.writable) le

-- a history that was found in the bytes
pub record IsRead (limit : ℕ) (bytes : List ℕ) (h : Heading) (es : List Event) : Type 0 where
  pub has_text : HasText h es
  pub few : length es ≤ limit
  pub whole : bytes ≡ text h es

pub text_read : (limit : ℕ) (bytes : List ℕ) (x : History) → text_at limit bytes ≡ Ok x → IsRead limit bytes x.0 x.1
text_read limit bytes x e =
    let h = formats.text_read header_words header_at IsHeading headers event_words event_under EventFitsUnder events
    limit bytes x.0 x.1 e in
    grind (arith, nat_tests, fit_alone, writable_under)

pub text_one : (h g : Heading) (es fs : List Event) → HasText h es → HasText g fs → text h es ≡ text g fs
    → history h es ≡ history g fs
text_one h g es fs one two same =
    let is = formats.text_one header_words header_at IsHeading headers event_words event_under EventFitsUnder events h g
    es fs one.header_fits (fit_under h es one.events_fit one.writable) two.header_fits
    (fit_under g fs two.events_fit two.writable) same in
    ap (λ (x : Heading). history x es) is.0 ∙ ap (λ (x : List Event). history g x) is.1

-- ---- what a function returns

pub is_found : (limit : ℕ) (bytes : List ℕ) (r : Result (Heading × Vec Event) ReadFault)
    → Gives view r (text_at limit bytes)
    → IfOk r (λ x. HasText x.0 x.1.items × (length x.1.items ≤ limit) × (bytes ≡ text x.0 x.1.items))
is_found limit bytes (Ok x) given = let h = text_read limit bytes (view x) given in (h.has_text, h.few, h.whole)
is_found limit bytes (Err e) given = tt

pub is_only : (limit : ℕ) (bytes : List ℕ) (r : Result (Heading × Vec Event) ReadFault) (h : Heading) (es : List Event)
    → HasText h es → length es ≤ limit → bytes ≡ text h es → Gives view r (text_at limit bytes)
    → Gives view r (Ok (history h es))
is_only limit bytes r h es has le same given =
    subst (λ (x : Result History ReadFault). Gives view r x) (ap (text_at limit) same ∙ text_again limit h es has le)
    given
