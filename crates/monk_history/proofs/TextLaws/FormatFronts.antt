-- An item whose line is at the front of some bytes, for any items that are written in words and read from them.
use Rattle.std.proofs.Common.{ℕ, List, Option, Ok, arith}
use Rattle.std.{proofs.Common.append_assoc, proofs.Common.drop, specs.Prelude.IfSome}
use Rattle.monk_history.proofs.TextLaws.{LineCuts.words_of-words, LineCuts.no_end_in_join, TextFormats.IsFormat}
use Rattle.monk_history.specs.Text.{Lines.line, Lines.IsReadAs, Lines.IsAtFront, Places.StandsAt}
use Rattle.monk_history.specs.Text.Words.{Word, Taken}
use Rattle.std.proofs.lemmas.Bool.Decides.{nat_tests}

module _ {A : Type 0} (words : A → List Word) (parse : List Word → Taken A) (Fits : A → Type 0)
    (is : IsFormat words parse Fits) where
  item_stands : (bytes : List ℕ) (x : A) (count : ℕ) → StandsAt bytes 0 (line (words x)) count → Fits x
      → IsReadAs parse bytes (Ok x) (drop count bytes)
  item_stands bytes x count stands fits = grind (arith, nat_tests, no_end_in_join, append_assoc, words_of-words)

  -- what is at the front, if anything, is what is read there
  pub item_at_front : (bytes : List ℕ) (r : Option (A × ℕ)) → IfSome r (λ x. StandsAt bytes 0 (line (words x.0)) x.1)
      → IfSome r (λ x. Fits x.0) → IfSome r (λ x. IsAtFront parse bytes x.0 x.1)
  item_at_front bytes r stands fits = grind (arith, nat_tests, item_stands)
