-- What other crates may cite of the words and lines of a text.

-- An act is read from the words that it is written as, and the words of an act are read as that act.
pub use Rattle.monk_history.proofs.TextLaws.EventReading.{act_again, act_takes}
-- A header is read from the words that it is written as, and a header that is written is read again.
pub use Rattle.monk_history.proofs.TextLaws.HeaderReading.{object_again, parts_again, parts_take}
-- The laws of the text of a history: what is read has that text, and what has a text is read from it.
pub use Rattle.monk_history.proofs.TextLaws.HistoryText.{text_again, text_read}
-- Words without a separator are the parts that their line is cut into, and lines are those of their text.
pub use Rattle.monk_history.proofs.TextLaws.LineCuts.{AreWords, IsWord, IsWord-decimal}
-- Reading a text line after line, as a loop does, whatever its lines hold.
pub use Rattle.monk_history.proofs.TextLaws.LineSteps.{behind, lines_behind}
-- The last version that names an object is one that exists.
pub use Rattle.monk_history.proofs.TextLaws.ObjectVersions.{none_newer}
-- An upgraded header has a line for each event.
pub use Rattle.monk_history.proofs.TextLaws.Upgrading.{upgraded_text}
-- A text that comes in pieces: its header, and its end.
pub use Rattle.monk_history.proofs.TextLaws.PieceLaws.{head_missing, head_opens, head_refused, items_end, items_unfinished}
-- No word of an event or of a header has a byte 32 or 10.
pub use Rattle.monk_history.proofs.TextLaws.PlainWords.{decimal_word, kind_is_word, object_is_word}
-- A value is taken from the words that it is written as, and a value that is written so is taken again.
pub use Rattle.monk_history.proofs.TextLaws.WordReaders.{bind_ok, end_takes, literal_takes, number_again}
pub use Rattle.monk_history.proofs.TextLaws.WordReaders.{number_takes, ok_is, one_of_again, one_of_takes}
-- The same for one of the values that a version has.
pub use Rattle.monk_history.proofs.TextLaws.WordReaders.{kept_again, one_of_kept}
