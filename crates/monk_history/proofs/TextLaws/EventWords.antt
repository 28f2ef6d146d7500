-- Which of its words comes next in the line of an event, or none.
use Rattle.std.proofs.Common.{◌≡◌, ℕ, ◌≤◌, false, List, ◌∷◌, Some, Ok, Err, ap, ◌∙◌, arith, rules}
use Rattle.std.{proofs.lemmas.Bool.le-leb, proofs.lemmas.Bool.Decides.nat_tests, specs.Prelude.codes}
use Rattle.monk_history.specs.declared.text.fault.Flaw.TheVariants as flaw
use Rattle.monk_history.proofs.TextLaws.WordReaders.{one_of_again}
use Rattle.monk_history.proofs.TextLaws.EventReading.{via_again, from_again, next_word_again, verb_of_again}
use Rattle.monk_history.specs.declared.text.{next_word.NextWord.NextWord, verb.Verb.Verb}
use Rattle.monk_history.specs.declared.event.{Via.Via, From3.From3}
use Rattle.monk_history.specs.Text.{via_word, from_word, Words.Word, Words.one_of, Words.is_next}
use Rattle.monk_history.specs.Text.Reading.{vias, froms, next_word, all_next_words, verb_word, verb_version, verbs_of}
use Rattle.monk_kinds.specs.Names.{with_text}

one_of-next : {A : Type 0} (word : A → Word) (values : List A) (x : A) (ws rest : List Word)
    → with_text word values (word x) ≡ Some x → ws ≡ word x ∷ rest → one_of word values ws ≡ Ok (x, rest)
one_of-next word values x ws rest found is = ap (one_of word values) is ∙ one_of_again word values x rest found

pub verb-next : (version : ℕ) (v : Verb) (ws rest : List Word) → verb_version v ≤ version → ws ≡ verb_word v ∷ rest
    → one_of verb_word (verbs_of version) ws ≡ Ok (v, rest)
verb-next version v ws rest has is = search (rules, one_of-next, verb_of_again, le-leb)

-- the next word is none of version 1
pub record IsNoFirstVerb (ws : List Word) : Type 0 where
  pub enter : is_next (codes "enter") ws ≡ false
  pub act : is_next (codes "act") ws ≡ false
  pub leave : is_next (codes "leave") ws ≡ false
  pub wait : is_next (codes "wait") ws ≡ false
  pub signal : is_next (codes "signal") ws ≡ false
  pub signal_leave : is_next (codes "signal-leave") ws ≡ false
  pub until : is_next (codes "until") ws ≡ false
  pub resume : is_next (codes "resume") ws ≡ false

-- the next word is none that version 2 adds, if the version has those
abbrev pub IsNoLaterVerb : ℕ → List Word → Type 0
IsNoLaterVerb version ws = 2 ≤ version
    → (is_next (codes "signal-all") ws ≡ false) × (is_next (codes "signal-wait") ws ≡ false)

pub verb-none : (version : ℕ) (ws : List Word) → IsNoFirstVerb ws → IsNoLaterVerb version ws
    → one_of verb_word (verbs_of version) ws ≡ Err flaw.Word
unfolding one_of
verb-none version ws first later = grind (arith, nat_tests)

pub next-next : (n : NextWord) (ws rest : List Word) → ws ≡ next_word n ∷ rest
    → one_of next_word all_next_words ws ≡ Ok (n, rest)
next-next n ws rest is = one_of-next next_word all_next_words n ws rest (next_word_again n) is

pub next-none : (ws : List Word) → is_next (codes "stay") ws ≡ false → is_next (codes "entry") ws ≡ false
    → is_next (codes "waiter") ws ≡ false → is_next (codes "signaller") ws ≡ false → is_next (codes "until") ws ≡ false
    → one_of next_word all_next_words ws ≡ Err flaw.Word
unfolding one_of
next-none ws a b c d e = grind (arith, nat_tests)

pub via-next : (v : Via) (ws rest : List Word) → ws ≡ via_word v ∷ rest → one_of via_word vias ws ≡ Ok (v, rest)
via-next v ws rest is = one_of-next via_word vias v ws rest (via_again v) is

pub via-none : (ws : List Word) → is_next (codes "free") ws ≡ false → is_next (codes "handed") ws ≡ false
    → one_of via_word vias ws ≡ Err flaw.Word
unfolding one_of
via-none ws a b = grind (arith, nat_tests)

pub from-next : (q : From3) (ws rest : List Word) → ws ≡ from_word q ∷ rest → one_of from_word froms ws ≡ Ok (q, rest)
from-next q ws rest is = one_of-next from_word froms q ws rest (from_again q) is

pub from-none : (ws : List Word) → is_next (codes "waiter") ws ≡ false → is_next (codes "signaller") ws ≡ false
    → is_next (codes "until") ws ≡ false → one_of from_word froms ws ≡ Err flaw.Word
unfolding one_of
from-none ws a b c = grind (arith, nat_tests)

pub ruleset verb_words = (verb-next, verb-none)

pub ruleset next_words = (next-next, next-none)

pub ruleset via_words = (via-next, via-none)

pub ruleset from_words = (from-next, from-none)
