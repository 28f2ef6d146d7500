-- The laws of the text of a log: the text is that of the log that is read, and each log is read from its text.
use Rattle.std.proofs.Common.{◌≡◌, ℕ, ◌≤◌, List, length, Result, Ok, Err, ap, subst, ◌∙◌, arith, rules}
use Rattle.std.specs.{Prelude.IfOk, Prelude.IfSome, Prelude.Option, Global.Vec}
use Rattle.monk_history.proofs.PublicLaws.Formats as formats
use Rattle.monk_history.proofs.PublicLaws.Formats.{IsFormat}
use Rattle.monk_history.specs.Text.{Lines.Gives, Lines.IsAtFront, Lines.line, Places.StandsAt}
use Rattle.monk_history.specs.declared.text.fault.ReadFault.{ReadFault}
use Rattle.monk_logs.proofs.LogLaws.HeaderReading.{log_header_takes, log_header_again}
use Rattle.monk_logs.proofs.LogLaws.LineReading.{log_line_takes, log_line_again}
use Rattle.monk_logs.proofs.LogLaws.PlainLogs.{header_are_words, line_are_words}
use Rattle.monk_logs.specs.Log.{LogHeading, IsLogHeading, HasLogText, LineFits, log_header_words, log_words, log_text}
use Rattle.monk_logs.specs.Log.Reading.{Log, log, log_view, log_header_at, line_under, log_at}
use Rattle.monk_logs.specs.declared.text.line.LogLine.{LogLine}
use Rattle.std.proofs.lemmas.Bool.Decides.{nat_tests}

headers : IsFormat log_header_words log_header_at IsLogHeading
headers = search (rules, log_header_takes, log_header_again, header_are_words)

some_word : (l : LogLine) → 1 ≤ length (log_words l)
some_word l = grind (arith, nat_tests)

abbrev FitsUnder : LogHeading → LogLine → Type 0
FitsUnder h = LineFits

lines : (h : LogHeading) → IsFormat log_words (line_under h) (FitsUnder h)
lines h = record { takes = log_line_takes; again = log_line_again; plain = line_are_words; some = some_word }

pub log_again : (limit : ℕ) (h : LogHeading) (ls : List LogLine) → HasLogText h ls → length ls ≤ limit
    → log_at limit (log_text h ls) ≡ Ok (log h ls)
log_again limit h ls has le =
    formats.text_again log_header_words log_header_at IsLogHeading headers log_words line_under FitsUnder lines
    limit h ls
    has.header_fits has.lines_fit le

pub log_one : (h g : LogHeading) (xs ys : List LogLine) → HasLogText h xs → HasLogText g ys
    → log_text h xs ≡ log_text g ys
    → log h xs ≡ log g ys
log_one h g xs ys one two same =
    let is =
    formats.text_one log_header_words log_header_at IsLogHeading headers log_words line_under FitsUnder lines h g
    xs ys one.header_fits one.lines_fit two.header_fits two.lines_fit same in
    ap (λ (x : LogHeading). log x xs) is.0 ∙ ap (λ (x : List LogLine). log g x) is.1

-- the bytes are the text of the log that was read
pub log_read : (limit : ℕ) (bytes : List ℕ) (x : Log) → log_at limit bytes ≡ Ok x
    → HasLogText x.0 x.1 × (length x.1 ≤ limit) × (bytes ≡ log_text x.0 x.1)
log_read limit bytes x is =
    let r = formats.text_read log_header_words log_header_at IsLogHeading headers log_words line_under FitsUnder lines
    limit bytes x.0 x.1 is in
    (record { header_fits = r.head_fits; lines_fit = r.fit }, r.few, r.whole)

-- ---- what a function returns

pub is_found : (limit : ℕ) (bytes : List ℕ) (r : Result (LogHeading × Vec LogLine) ReadFault)
    → Gives log_view r (log_at limit bytes)
    → IfOk r (λ x. HasLogText x.0 x.1.items × (length x.1.items ≤ limit) × (bytes ≡ log_text x.0 x.1.items))
is_found limit bytes (Ok x) given =
    let r = formats.text_read log_header_words log_header_at IsLogHeading headers log_words line_under FitsUnder lines
    limit bytes x.0 x.1.items given in
    (record { header_fits = r.head_fits; lines_fit = r.fit }, r.few, r.whole)
is_found limit bytes (Err e) given = tt

pub is_only : (limit : ℕ) (bytes : List ℕ) (r : Result (LogHeading × Vec LogLine) ReadFault) (h : LogHeading)
    (ls : List LogLine) → HasLogText h ls → length ls ≤ limit → bytes ≡ log_text h ls
    → Gives log_view r (log_at limit bytes)
    → Gives log_view r (Ok (log h ls))
is_only limit bytes r h ls has le same given =
    subst (λ (x : Result Log ReadFault). Gives log_view r x)
    (ap (log_at limit) same ∙ log_again limit h ls has le) given

-- ---- the line at the front

pub line_at_front : (h : LogHeading) (bytes : List ℕ) (r : Option (LogLine × ℕ))
    → IfSome r (λ x. StandsAt bytes 0 (line (log_words x.0)) x.1) → IfSome r (λ x. LineFits x.0)
    → IfSome r (λ x. IsAtFront (line_under h) bytes x.0 x.1)
line_at_front h bytes r stands fits =
    formats.item_at_front log_words (line_under h) LineFits (lines h) bytes r stands fits
