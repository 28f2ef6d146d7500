-- If the verdict is that the size is too big, no memory was asked for.
use Rattle.std.proofs.Common.{◌≡◌, ◌<◌, ◌^◌, ℕ, List, [], Option, None, Result, Ok, Err, arith}
use Rattle.std.proofs.Common.{refl, sym, ◌∙◌}
use Rattle.std.{proofs.lemmas.List.append-nil, proofs.lemmas.Bool.Decides.nat_tests, specs.Prelude.IfOk}
use Rattle.monk_object.specs.{Names.most, Buffer.buffer_meaning, Book.book_meaning, Shop.shop_meaning}
use Rattle.monk_object.specs.{Flags.flags_meaning}
use Rattle.monk_history.specs.Text.Words.{◌>>=◌}
use Rattle.monk_history.specs.declared.{event.Event.Event, text.fault.ReadFault.ReadFault}
use Rattle.monk_history.specs.Text.{Heading, Reading.event_under, Reading.header_at}
use Rattle.monk_history.specs.Text.Lines.{LinesLeft, items_left, lines_of, opened_at}
use Rattle.monk_audit.specs.declared.stage.Stage.TheVariants as stage
use Rattle.monk_audit.proofs.ReadingLaws.{opened_text}
use Rattle.monk_audit.specs.{Audits.owed_by, Reading.lines_verdict, Reading.text_verdict}
use Rattle.monk_audit.specs.Pieces.{owed_verdict, verdict_from_here, AsksForNone}
use Rattle.monk_audit.specs.declared.{stage.Stage.Stage, verdict.Verdict.Verdict}
use Rattle.monk_audit.specs.declared.text_verdict.TextVerdict.{TextVerdict, TheVariants.Judged, TheVariants.TooBig}

behind_too_big : (h : Heading) (read : Result (List Event) ReadFault) → lines_verdict h read ≡ Ok TooBig
    → most h.object < h.size
behind_too_big h read is = grind (arith, nat_tests)

opened_too_big : (bytes : List ℕ) (opened : Result (Heading × LinesLeft) ReadFault)
    → opened ≡ opened_at header_at (2 ^ 25) (lines_of bytes) → text_verdict bytes ≡ Ok TooBig
    → IfOk opened (λ o. most o.0.object < o.0.size)
opened_too_big bytes (Ok o) opened is =
    behind_too_big o.0 (items_left (event_under o.0) o.1) (sym (opened_text bytes o.0 o.1 opened) ∙ is)
opened_too_big bytes (Err f) opened is = tt

never_too_big : (r : Result Verdict ReadFault) → (r >>= λ v. Ok (Judged v)) ≡ Ok TooBig → ⊥
never_too_big r is = grind (arith, nat_tests)

too_big_asks_for_none : (s : Stage) (bytes : List ℕ) → owed_verdict s bytes ≡ Ok TooBig → AsksForNone s bytes
unfolding owed_verdict
too_big_asks_for_none stage.Opening bytes is =
    opened_too_big bytes (opened_at header_at (2 ^ 25) (lines_of bytes)) refl is
too_big_asks_for_none (stage.Buffer c d) bytes is = never_too_big (verdict_from_here buffer_meaning c d bytes) is
too_big_asks_for_none (stage.Book c d) bytes is = never_too_big (verdict_from_here book_meaning c d bytes) is
too_big_asks_for_none (stage.Shop c d) bytes is = never_too_big (verdict_from_here shop_meaning c d bytes) is
too_big_asks_for_none (stage.Flags c d) bytes is = never_too_big (verdict_from_here flags_meaning c d bytes) is
too_big_asks_for_none (stage.Found h n found) bytes is = tt

-- at the end of a text that came in pieces
pub end_too_big : (f : Option ReadFault) (s : Stage) (held bytes : List ℕ) (r : Result TextVerdict ReadFault)
    → f ≡ None → bytes ≡ held → (AsksForNone s bytes → r ≡ owed_verdict s bytes)
    → owed_by f s held [] ≡ Ok TooBig → r ≡ Ok TooBig
end_too_big f s held bytes r none is same owed = grind (arith, nat_tests, Ok, append-nil, too_big_asks_for_none)
