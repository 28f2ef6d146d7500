-- What other crates may cite of a text of lines under a header, for any items.

-- The laws of texts of lines, for any header and any items that are written in words and read from them.
pub use Rattle.monk_history.proofs.TextLaws.TextFormats.{IsFormat, text_again, text_one, text_read}
-- An item whose line is at the front of some bytes is what is read there.
pub use Rattle.monk_history.proofs.TextLaws.FormatFronts.{item_at_front}
