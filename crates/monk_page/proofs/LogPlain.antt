-- The data of a log's page hold no byte that markup reads, and don't nest deeply
use Rattle.std.proofs.Common.{◌≡◌, ℕ, true, List, arith}
use Rattle.monk_object.specs.Object.{Object}
use Rattle.monk_judge.specs.{Blame.blame_sentence, Blame.blame_word, Text.line_text, Text.place_text, Text.step_text}
use Rattle.monk_judge.specs.declared.{blame.Blame.Blame, place.Place.Place, run.Run.Run, step.Step.Step}
use Rattle.monk_logs.specs.{Log.LogHeading, Log.log_words, declared.text.line.LogLine.LogLine}
use Rattle.monk_page.proofs.{PlainData.is_plain, PlainData.plain_parts, PlainWords.bare_words}
use Rattle.monk_page.proofs.PlainTexts.{bare_append, bare_decimal, bare_join, is_bare}
use Rattle.monk_page.specs.Log.{log_json}

line_bare : (l : LogLine) → is_bare (line_text l) ≡ true
line_bare l = bare_join (log_words l) (grind (arith, bare_decimal))

step_bare : (step : Step) → is_bare (step_text step) ≡ true
step_bare step = grind (arith, line_bare, bare_append, bare_decimal)

place_bare : (p : Place) → is_bare (place_text p) ≡ true
place_bare p = grind (arith, bare_append, bare_decimal)

word_bare : (b : Blame) → is_bare (blame_word b) ≡ true
word_bare b = grind arith

sentence_bare : (b : Blame) → is_bare (blame_sentence b) ≡ true
sentence_bare b = grind arith

pub log_plain : (h : LogHeading) (o : Object) (d : List ℕ) (run : Run) (lines : List LogLine) (before last : ℕ)
    → is_plain 5 (log_json h o d run lines before last) ≡ true
log_plain h o d run lines before last =
    search (plain_parts, bare_words, line_bare, step_bare, place_bare, word_bare, sentence_bare) depth 40
