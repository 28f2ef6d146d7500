-- The words and sentences of a page's data are bare
use Rattle.std.proofs.Common.{◌≡◌, ℕ, zero, suc, true, List, [], ◌∷◌, arith, refl}
use Rattle.monk_kinds.specs.Names.{kind_word}
use Rattle.monk_kinds.specs.declared.{mode.Mode.Mode, mode.Rules.Rules, name.KindName.KindName}
use Rattle.monk_object.specs.{Names.object_word, declared.name.ObjectName.ObjectName}
use Rattle.monk_object.specs.InWords.{bits_below, spaced, state_in_words}
use Rattle.monk_history.specs.declared.event.{Event.Event, From3.From3, Next.Next, Turn.Turn}
use Rattle.monk_history.specs.Text.{event_words, from_word, next_words}
use Rattle.monk_audit.specs.{Words.verdict_text, declared.verdict.Verdict.Verdict}
use Rattle.monk_tell.specs.{Why.why_text, declared.why.Why.Why}
use Rattle.monk_tell.specs.Words.{event_text, mode_word, next_text, ranks_in, turn_text}
use Rattle.monk_page.proofs.PlainTexts.{bare_append, bare_decimal, bare_join, is_bare}

pub kind_bare : (k : KindName) → is_bare (kind_word k) ≡ true
kind_bare k = grind arith

pub object_bare : (o : ObjectName) → is_bare (object_word o) ≡ true
object_bare o = grind arith

pub mode_bare : (m : Mode) → is_bare (mode_word m) ≡ true
mode_bare m = grind arith

pub from_bare : (q : From3) → is_bare (from_word q) ≡ true
from_bare q = grind arith

pub next_bare : (n : Next) → is_bare (next_text n) ≡ true
next_bare n = bare_join (next_words n) (grind (arith, bare_decimal))

pub event_bare : (e : Event) → is_bare (event_text e) ≡ true
event_bare e = bare_join (event_words e) (grind (arith, bare_decimal, from_bare))

pub turn_bare : (t : Turn) → is_bare (turn_text t) ≡ true
turn_bare t = grind (arith, bare_append, bare_decimal, from_bare)

pub verdict_bare : (v : Verdict) → is_bare (verdict_text v) ≡ true
verdict_bare v = grind (arith, bare_append, bare_decimal)

pub ranks_bare : (m : Mode) (k : Rules) → is_bare (ranks_in m k) ≡ true
ranks_bare m k = grind (arith, bare_append, bare_decimal)

pub why_bare : (w : Why) → is_bare (why_text w) ≡ true
why_bare w = grind (arith, bare_append, bare_decimal, kind_bare, from_bare)

-- ---- the state of an object

spaced_bare : (ns : List ℕ) → is_bare (spaced ns) ≡ true
spaced_bare [] = refl
spaced_bare (n ∷ ns) = search (bare_append, bare_decimal, spaced_bare ns)

bits_bare : (bits place : ℕ) → is_bare (bits_below bits place) ≡ true
unfolding bits_below
bits_bare bits zero = refl
bits_bare bits (suc place) = grind (arith, bare_append, bare_decimal, bits_bare bits place)

pub state_bare : (o : ObjectName) (state : List ℕ) → is_bare (state_in_words o state) ≡ true
state_bare o state = grind (arith, bare_append, bare_decimal, spaced_bare, bits_bare)

pub ruleset bare_words = (
  kind_bare,
  object_bare,
  mode_bare,
  from_bare,
  next_bare,
  event_bare,
  turn_bare,
  verdict_bare,
  ranks_bare,
  why_bare,
  state_bare,
)
