-- A line is read from the words that it is written as, and a line that is written is read again.
use Rattle.std.proofs.Common.{arith, lit<, ◌≡◌, ℕ, ◌≤◌, List, [], ◌∷◌, ◌++◌, Some, Ok, refl, ap, subst}
use Rattle.std.{specs.Fmt.decimal, proofs.lemmas.List.append-nil, proofs.lemmas.Bool.Decides.nat_tests}
use Rattle.monk_kinds.specs.Names.{with_text}
use Rattle.monk_history.specs.Text.Words.{◌>>=◌, Word, Taken, number_at, one_of, end_at}
use Rattle.monk_history.proofs.PublicLaws.Texts.{act_again, act_takes, bind_ok, ok_is, number_takes, number_again}
use Rattle.monk_history.proofs.PublicLaws.Texts.{one_of_takes, one_of_again, end_takes}
use Rattle.monk_history.specs.Text.Reading.{act_at}
use Rattle.monk_logs.specs.declared.text.verb.LineVerb.TheVariants as verb
use Rattle.monk_logs.specs.Log.{log_words, LineFits}
use Rattle.monk_logs.specs.Log.Reading.{log_verb_word, log_verbs, line_after, log_line_at}
use Rattle.monk_logs.specs.declared.text.line.LogLine.{LogLine}
use Rattle.monk_logs.specs.declared.text.line.LogLine.TheVariants.{Enter, Resume, Lapse, Leave, Wait, Signal, Broadcast}
use Rattle.monk_logs.specs.declared.text.line.LogLine.TheVariants.{Until, Act}
use Rattle.monk_logs.specs.declared.text.verb.LineVerb.{LineVerb}

verb_again : (v : LineVerb) → with_text log_verb_word log_verbs (log_verb_word v) ≡ Some v
verb_again v = grind arith

-- ---- after verb and seat

-- what a line is after its verb and its seat have been read
abbrev Ends : LineVerb → ℕ → List Word → LogLine × List Word → Type 0
Ends v s ws y = (log_verb_word v ∷ decimal s ∷ ws ≡ log_words y.0 ++ y.1) × LineFits y.0

abbrev behind : LineVerb → ℕ → List Word → List Word
behind v s ws = log_verb_word v ∷ decimal s ∷ ws

line_takes : (v : LineVerb) (s : ℕ) (ws : List Word) (x : LogLine × List Word) → s ≤ 255 → line_after v s ws ≡ Ok x
    → Ends v s ws x
unfolding line_after
line_takes verb.Enter s ws x le e = subst (Ends verb.Enter s ws) (ok_is (Enter s, ws) x e) (refl, le)
line_takes verb.Resume s ws x le e = subst (Ends verb.Resume s ws) (ok_is (Resume s, ws) x e) (refl, le)
line_takes verb.Lapse s ws x le e = subst (Ends verb.Lapse s ws) (ok_is (Lapse s, ws) x e) (refl, le)
line_takes verb.Leave s ws x le e = subst (Ends verb.Leave s ws) (ok_is (Leave s, ws) x e) (refl, le)
line_takes verb.Wait s ws x le e =
    let b = bind_ok (number_at 255 ws) (λ c. Ok (Wait s c.0, c.1)) x e in
    let t = number_takes 255 ws b.0 b.1 in
    subst (Ends verb.Wait s ws) (ok_is (Wait s b.0.0, b.0.1) x b.2) (ap (behind verb.Wait s) t.0, (le, t.1))
line_takes verb.Signal s ws x le e =
    let b = bind_ok (number_at 255 ws) (λ c. Ok (Signal s c.0, c.1)) x e in
    let t = number_takes 255 ws b.0 b.1 in
    subst (Ends verb.Signal s ws) (ok_is (Signal s b.0.0, b.0.1) x b.2) (ap (behind verb.Signal s) t.0, (le, t.1))
line_takes verb.Broadcast s ws x le e =
    let b = bind_ok (number_at 255 ws) (λ c. Ok (Broadcast s c.0, c.1)) x e in
    let t = number_takes 255 ws b.0 b.1 in
    grind (arith, nat_tests, ok_is)
line_takes verb.Until s ws x le e =
    let b = bind_ok (number_at 255 ws) (λ c. Ok (Until s c.0, c.1)) x e in
    let t = number_takes 255 ws b.0 b.1 in
    subst (Ends verb.Until s ws) (ok_is (Until s b.0.0, b.0.1) x b.2) (ap (behind verb.Until s) t.0, (le, t.1))
line_takes verb.Act s ws x le e =
    let b = bind_ok (act_at ws) (λ a. Ok (Act s a.0.0 a.0.1, a.1)) x e in
    let t = act_takes ws b.0 b.1 in
    grind (arith, nat_tests, ok_is)

-- ---- a line

abbrev at_line : LogLine × List Word → Taken LogLine
at_line l = end_at l.1 >>= λ z. Ok (l.0, z.1)

abbrev at_seat : LineVerb → ℕ × List Word → Taken LogLine
at_seat v s = line_after v s.0 s.1 >>= at_line

abbrev at_verb : LineVerb × List Word → Taken LogLine
at_verb v = number_at 255 v.1 >>= at_seat v.0

pub log_line_takes : (ws : List Word) (x : LogLine × List Word) → log_line_at ws ≡ Ok x
    → (ws ≡ log_words x.0) × LineFits x.0
unfolding log_line_at
log_line_takes ws x e =
    let v = bind_ok (one_of log_verb_word log_verbs ws) at_verb x e in
    let s = bind_ok (number_at 255 v.0.1) (at_seat v.0.0) x v.2 in
    let l = bind_ok (line_after v.0.0 s.0.0 s.0.1) at_line x s.2 in
    let n = bind_ok (end_at l.0.1) (λ z. Ok (l.0.0, z.1)) x l.2 in
    let verb_is = one_of_takes log_verb_word log_verbs ws v.0 v.1 in
    let seat_is = number_takes 255 v.0.1 s.0 s.1 in
    let line_is = line_takes v.0.0 s.0.0 s.0.1 l.0 seat_is.1 l.1 in
    let none = (end_takes l.0.1 n.0 n.1).0 in
    let whole : ws ≡ log_words l.0.0 = grind (arith, nat_tests, append-nil) in
    grind (arith, nat_tests, ok_is)

from_after : (v : LineVerb) (s : ℕ) (ws : List Word) (l : LogLine) → s ≤ 255 → line_after v s ws ≡ Ok (l, [])
    → log_line_at (log_verb_word v ∷ decimal s ∷ ws) ≡ Ok (l, [])
unfolding log_line_at
from_after v s ws l le h =
    rw (
      one_of_again log_verb_word log_verbs v (decimal s ∷ ws) (verb_again v),
      number_again 255 s ws (lit< tt) le,
      h,
    ) refl

pub log_line_again : (l : LogLine) → LineFits l → log_line_at (log_words l) ≡ Ok (l, [])
unfolding line_after
log_line_again (Enter s) fits = from_after verb.Enter s [] (Enter s) fits refl
log_line_again (Resume s) fits = from_after verb.Resume s [] (Resume s) fits refl
log_line_again (Lapse s) fits = from_after verb.Lapse s [] (Lapse s) fits refl
log_line_again (Leave s) fits = from_after verb.Leave s [] (Leave s) fits refl
log_line_again (Wait s c) fits =
    from_after verb.Wait s (decimal c ∷ []) (Wait s c) fits.0 (rw (number_again 255 c [] (lit< tt) fits.1) refl)
log_line_again (Signal s c) fits =
    from_after verb.Signal s (decimal c ∷ []) (Signal s c) fits.0 (rw (number_again 255 c [] (lit< tt) fits.1) refl)
log_line_again (Broadcast s c) fits =
    from_after verb.Broadcast s (decimal c ∷ []) (Broadcast s c) fits.0
    (rw (number_again 255 c [] (lit< tt) fits.1) refl)
log_line_again (Until s c) fits =
    from_after verb.Until s (decimal c ∷ []) (Until s c) fits.0 (rw (number_again 255 c [] (lit< tt) fits.1) refl)
log_line_again (Act s op reply) fits =
    from_after verb.Act s (decimal op.code ∷ decimal op.arg ∷ decimal reply ∷ []) (Act s op reply) fits.0
    (rw (act_again op reply fits.1 fits.2 fits.3) refl)
