-- No word of a line or of a log's first line has a byte 32 or 10.
use Rattle.std.proofs.Common.{refl, arith}
use Rattle.monk_history.proofs.PublicLaws.Texts.{AreWords, IsWord-decimal, decimal_word, object_is_word}
use Rattle.monk_logs.specs.Log.{LogHeading, IsLogHeading, log_header_words, log_version, log_words, LineFits}
use Rattle.monk_logs.specs.declared.text.line.LogLine.{LogLine}
use Rattle.monk_logs.proofs.LogLaws.HeaderReading.{small_version}
use Rattle.monk_logs.specs.declared.text.line.LogLine.TheVariants.{Enter, Resume, Lapse, Leave, Wait, Signal, Broadcast, Until, Act}

pub line_are_words : (l : LogLine) → LineFits l → AreWords (log_words l)
line_are_words (Enter s) fits = rw (decimal_word s fits) refl
line_are_words (Resume s) fits = rw (decimal_word s fits) refl
line_are_words (Lapse s) fits = rw (decimal_word s fits) refl
line_are_words (Leave s) fits = rw (decimal_word s fits) refl
line_are_words (Wait s c) fits = rw (decimal_word s fits.0, decimal_word c fits.1) refl
line_are_words (Signal s c) fits = rw (decimal_word s fits.0, decimal_word c fits.1) refl
line_are_words (Broadcast s c) fits = rw (decimal_word s fits.0, decimal_word c fits.1) refl
line_are_words (Until s c) fits = rw (decimal_word s fits.0, decimal_word c fits.1) refl
line_are_words (Act s op reply) fits =
    rw (
      decimal_word s fits.0,
      decimal_word op.code fits.1,
      IsWord-decimal op.arg (omega (arith, fits.2)),
      IsWord-decimal reply (omega (arith, fits.3)),
    ) refl

pub header_are_words : (h : LogHeading) → IsLogHeading h → AreWords (log_header_words h)
header_are_words h fits =
    rw (
      decimal_word (log_version h.object) (small_version h.object),
      decimal_word h.seats (omega (arith, fits.seats)),
      decimal_word h.conds (omega (arith, fits.conds)),
      object_is_word h.object,
      decimal_word h.size fits.size,
    ) refl
