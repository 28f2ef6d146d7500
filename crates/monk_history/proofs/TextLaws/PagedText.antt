-- A text that goes out page by page.
use Rattle.std.proofs.Common.{◌≡◌, ℕ, ◌+◌, ◌<◌, take, get_or, List, [], ◌∷◌, ◌++◌, Option, sym, ap, ◌∙◌, length, append_assoc}
use Rattle.std.proofs.{KnownBytes.Appends-trans, Common.arith}
use Rattle.std.proofs.lemmas.{List.append-nil, List.take_more, Grind.flat_map-append, Bool.Decides.nat_tests}
use Rattle.std.specs.{List.AllByRecursion, List.flat_map, Io.KnownBytes.Appends}
use Rattle.monk_history.specs.declared.event.Event.{Event}
use Rattle.monk_history.specs.Text.{EventFits, Heading, IsHeading, event_words, header_words, text, Lines.line}

-- the writer got a part of the text, and the page has the rest
pub record IsOnItsWay (before now : Option (List ℕ)) (page text : List ℕ) : Type 0 where
  pub sent : List ℕ
  pub got : Appends before now sent
  pub whole : text ≡ sent ++ page

pub grows : (before now : Option (List ℕ)) (page text page_after piece text_after : List ℕ)
    → IsOnItsWay before now page text → page_after ≡ page ++ piece → text_after ≡ text ++ piece
    → IsOnItsWay before now page_after text_after
grows before now page text page_after piece text_after h on_page in_text = grind (arith, nat_tests, append_assoc)

flat_map-more : {A : Type 0} (f : A → List ℕ) (es : List A) (i : ℕ) (d : A) → i < length es
    → flat_map f (take (i + 1) es) ≡ flat_map f (take i es) ++ f (get_or es i d)
flat_map-more f es i d lt =
    rw (take_more es i d lt, flat_map-append f (take i es) (get_or es i d ∷ []))
    (ap (λ (y : List ℕ). flat_map f (take i es) ++ y) (append-nil (f (get_or es i d))))

-- the text with one more event
pub text-more : (h : Heading) (es : List Event) (i : ℕ) (d : Event) → i < length es
    → text h (take (i + 1) es) ≡ text h (take i es) ++ line (event_words (get_or es i d))
text-more h es i d lt =
    let f : Event → List ℕ = λ e. line (event_words e) in
    ap (λ (y : List ℕ). line (header_words h) ++ y) (flat_map-more f es i d lt)
    ∙ sym (append_assoc (line (header_words h)) (flat_map f (take i es)) (f (get_or es i d)))

pub sends : (before now later : Option (List ℕ)) (page text : List ℕ) → IsOnItsWay before now page text
    → Appends now later page → IsOnItsWay before later [] text
sends before now later page text h appends = grind (arith, nat_tests, Appends-trans, append-nil)

-- ---- events of which some are left

-- the text of all of them has gone out or is on the page, up to those that are left
pub record IsWritten (before now : Option (List ℕ)) (page : List ℕ) (h : Heading) (left all : List Event) : Type 0 where
  pub done : List Event
  pub whole : done ++ left ≡ all
  pub on_its_way : IsOnItsWay before now page (text h done)
  pub heading : IsHeading h
  pub fit : AllByRecursion EventFits done

pub written_sent : (before now later : Option (List ℕ)) (page : List ℕ) (h : Heading) (left all : List Event)
    → IsWritten before now page h left all → Appends now later page → IsWritten before later [] h left all
written_sent before now later page h left all w appends = grind (arith, nat_tests, sends)

text-push : (h : Heading) (es : List Event) (e : Event) → text h (es ++ e ∷ []) ≡ text h es ++ line (event_words e)
text-push h es e = grind (arith, nat_tests, flat_map-append, append-nil, append_assoc)

fit-push : (es : List Event) (e : Event) → AllByRecursion EventFits es → EventFits e
    → AllByRecursion EventFits (es ++ e ∷ [])
fit-push [] e fit one = (one, tt)
fit-push (x ∷ es) e fit one = (fit.0, fit-push es e fit.1 one)

pub written_more : (before now : Option (List ℕ)) (page page_after : List ℕ) (h : Heading)
    (old new all : List Event) (e : Event)
    → old ≡ e ∷ new → page_after ≡ page ++ line (event_words e) → EventFits e → IsWritten before now page h old all
    → IsWritten before now page_after h new all
written_more before now page page_after h old new all e is on_page fits w =
    grind (arith, nat_tests, append_assoc, grows, text-push, fit-push)
