-- An event is read from the words that it is written as, and an event that is written is read again.
use Rattle.std.proofs.Common.{arith, ◌-◌, lit<, ◌≡◌, ℕ, ◌≤◌, ◌^◌, true, List, [], ◌∷◌, ◌++◌, Some, Ok, refl, sym, ap, subst, ◌∙◌}
use Rattle.std.{specs.Prelude.IsTrue, specs.Prelude.nat_le, specs.Fmt.decimal, proofs.lemmas.List.append-nil}
use Rattle.monk_history.specs.declared.event.Next.TheVariants as next
use Rattle.monk_history.specs.declared.text.next_word.NextWord.TheVariants as word
use Rattle.monk_history.specs.declared.text.verb.Verb.TheVariants as verb
use Rattle.monk_history.specs.Text.Words.{◌>>=◌, Word, number_at, one_of, end_at}
use Rattle.monk_history.proofs.TextLaws.WordReaders.{bind_ok, ok_is, number_takes, number_again, one_of_takes}
use Rattle.monk_history.proofs.TextLaws.WordReaders.{one_of_again, end_takes, kept_again, one_of_kept}
use Rattle.monk_history.specs.Text.{via_word, from_word, next_words, event_words, first_version, NextFits, EventFits}
use Rattle.monk_history.specs.Text.Reading.{vias, froms, next_word, all_next_words, next_after, next_at, verb_word}
use Rattle.monk_history.specs.Text.Reading.{verb_version, verbs, verbs_of, cond_next_at, act_at, event_after, event_at}
use Rattle.monk_history.specs.declared.event.{Via.Via, From3.From3}
use Rattle.monk_history.specs.declared.event.Next.{Next}
use Rattle.monk_history.specs.declared.event.Next.TheVariants.{Stay, Entry, Waiter, Signaller}
use Rattle.monk_history.specs.declared.event.Event.{Event}
use Rattle.monk_history.specs.declared.event.Event.TheVariants.{Enter, Act, Leave, Wait, Signal, SignalLeave, Until}
use Rattle.monk_history.specs.declared.event.Event.TheVariants.{Resume, SignalAll, SignalWait}
use Rattle.monk_history.specs.declared.text.{next_word.NextWord.NextWord, verb.Verb.Verb}
use Rattle.monk_object.specs.declared.op.Op.{Op}
use Rattle.monk_kinds.specs.Names.{with_text}
use Rattle.std.proofs.lemmas.Bool.Decides.{nat_tests}

pub via_again : (v : Via) → with_text via_word vias (via_word v) ≡ Some v
via_again v = grind arith

pub from_again : (q : From3) → with_text from_word froms (from_word q) ≡ Some q
from_again q = grind arith

pub next_word_again : (c : NextWord) → with_text next_word all_next_words (next_word c) ≡ Some c
next_word_again c = grind arith

pub verb_again : (v : Verb) → with_text verb_word verbs (verb_word v) ≡ Some v
verb_again v = grind arith

-- ---- a next

next_after_takes : (c : NextWord) (ws : List Word) (x : Next × List Word) → next_after c ws ≡ Ok x
    → (next_word c ∷ ws ≡ next_words x.0 ++ x.1) × NextFits x.0
next_after_takes word.Stay ws x e = grind (arith, nat_tests, ok_is)
next_after_takes word.Entry ws x e = grind (arith, nat_tests, ok_is)
next_after_takes word.Waiter ws x e =
    let b = bind_ok (number_at 255 ws) (λ j. Ok (Waiter j.0, j.1)) x e in
    let t = number_takes 255 ws b.0 b.1 in
    grind (arith, nat_tests, ok_is)
next_after_takes word.Signaller ws x e =
    let b = bind_ok (number_at 255 ws) (λ j. Ok (Signaller j.0, j.1)) x e in
    let t = number_takes 255 ws b.0 b.1 in
    grind (arith, nat_tests, ok_is)
next_after_takes word.Until ws x e =
    let b = bind_ok (number_at 255 ws) (λ j. Ok (next.Until j.0, j.1)) x e in
    let t = number_takes 255 ws b.0 b.1 in
    grind (arith, nat_tests, ok_is)

next_takes : (ws : List Word) (x : Next × List Word) → next_at ws ≡ Ok x → (ws ≡ next_words x.0 ++ x.1) × NextFits x.0
unfolding next_at
next_takes ws x e =
    let b = bind_ok (one_of next_word all_next_words ws) (λ c. next_after c.0 c.1) x e in
    let t = one_of_takes next_word all_next_words ws b.0 b.1 in
    let n = next_after_takes b.0.0 b.0.1 x b.2 in
    (t ∙ n.0, n.1)

next_again : (n : Next) (ws : List Word) → NextFits n → next_at (next_words n ++ ws) ≡ Ok (n, ws)
unfolding next_at
next_again Stay ws fits = rw (one_of_again next_word all_next_words word.Stay ws refl) refl
next_again Entry ws fits = rw (one_of_again next_word all_next_words word.Entry ws refl) refl
next_again (Waiter j) ws fits =
    rw (one_of_again next_word all_next_words word.Waiter (decimal j ∷ ws) refl, number_again 255 j ws (lit< tt) fits)
    refl
next_again (Signaller j) ws fits =
    rw (
      one_of_again next_word all_next_words word.Signaller (decimal j ∷ ws) refl,
      number_again 255 j ws (lit< tt) fits,
    ) refl
next_again (next.Until j) ws fits =
    rw (one_of_again next_word all_next_words word.Until (decimal j ∷ ws) refl, number_again 255 j ws (lit< tt) fits)
    refl

cond_next_takes : (ws : List Word) (x : (ℕ × Next) × List Word) → cond_next_at ws ≡ Ok x
    → (ws ≡ decimal x.0.0 ∷ (next_words x.0.1 ++ x.1)) × (x.0.0 ≤ 255) × NextFits x.0.1
unfolding cond_next_at
cond_next_takes ws x e =
    let a = bind_ok (number_at 255 ws) (λ c. next_at c.1 >>= λ n. Ok ((c.0, n.0), n.1)) x e in
    let b = bind_ok (next_at a.0.1) (λ n. Ok ((a.0.0, n.0), n.1)) x a.2 in
    let t = number_takes 255 ws a.0 a.1 in
    let n = next_takes a.0.1 b.0 b.1 in
    grind (arith, nat_tests, ok_is)

cond_next_again : (c : ℕ) (n : Next) (ws : List Word) → c ≤ 255 → NextFits n
    → cond_next_at (decimal c ∷ (next_words n ++ ws)) ≡ Ok ((c, n), ws)
unfolding cond_next_at
cond_next_again c n ws le fits = rw (number_again 255 c (next_words n ++ ws) (lit< tt) le, next_again n ws fits) refl

-- ---- an act

-- the words of an act: its code, its argument and its reply
abbrev pub act_words : Op × ℕ → List Word → List Word
act_words a ws = decimal a.0.code ∷ decimal a.0.arg ∷ decimal a.1 ∷ ws

three_words : (ws a b c : List Word) (x y z : Word) → ws ≡ x ∷ a → a ≡ y ∷ b → b ≡ z ∷ c → ws ≡ x ∷ y ∷ z ∷ c
three_words ws a b c x y z e0 e1 e2 = cc

pub act_takes : (ws : List Word) (x : (Op × ℕ) × List Word) → act_at ws ≡ Ok x
    → (ws ≡ act_words x.0 x.1) × (x.0.0.code ≤ 255)
    × (x.0.0.arg ≤ 2 ^ 32 - 1) × (x.0.1 ≤ 2 ^ 64 - 1)
unfolding act_at
act_takes ws x e =
    let a = bind_ok (number_at 255 ws)
    (λ c. number_at (2 ^ 32 - 1) c.1 >>= λ a. number_at (2 ^ 64 - 1) a.1 >>= λ r. Ok
    ((record { code = c.0; arg = a.0 }, r.0), r.1)) x e in
    let b = bind_ok (number_at (2 ^ 32 - 1) a.0.1)
    (λ n. number_at (2 ^ 64 - 1) n.1 >>= λ r. Ok ((record { code = a.0.0; arg = n.0 }, r.0), r.1)) x a.2 in
    let c = bind_ok (number_at (2 ^ 64 - 1) b.0.1) (λ r. Ok ((record { code = a.0.0; arg = b.0.0 }, r.0), r.1)) x b.2 in
    let t = number_takes 255 ws a.0 a.1 in
    let u = number_takes (2 ^ 32 - 1) a.0.1 b.0 b.1 in
    let v = number_takes (2 ^ 64 - 1) b.0.1 c.0 c.1 in
    let made : (Op × ℕ) × List Word = ((record { code = a.0.0; arg = b.0.0 }, c.0.0), c.0.1) in
    grind (arith, nat_tests, ok_is, three_words)

pub act_again : (op : Op) (reply : ℕ) → op.code ≤ 255 → op.arg ≤ 2 ^ 32 - 1 → reply ≤ 2 ^ 64 - 1
    → act_at (decimal op.code ∷ decimal op.arg ∷ decimal reply ∷ []) ≡ Ok ((op, reply), [])
unfolding act_at
act_again op reply code arg fits = grind (arith, nat_tests, number_again, lit<)

after_act : (s : ℕ) (op : Op) (reply : ℕ) → op.code ≤ 255 → op.arg ≤ 2 ^ 32 - 1 → reply ≤ 2 ^ 64 - 1
    → event_after verb.Act s (decimal op.code ∷ decimal op.arg ∷ decimal reply ∷ []) ≡ Ok (Act s op reply, [])
unfolding event_after
after_act s op reply code arg fits = rw (act_again op reply code arg fits) refl

-- ---- an event

-- what a line is after its verb and seat were read
abbrev Ends : Verb → ℕ → List Word → Event × List Word → Type 0
Ends v s ws y = (verb_word v ∷ decimal s ∷ ws ≡ event_words y.0 ++ y.1) × EventFits y.0
    × (verb_version v ≡ first_version y.0)

abbrev behind : Verb → ℕ → List Word → List Word
behind v s ws = verb_word v ∷ decimal s ∷ ws

event_after_takes : (v : Verb) (s : ℕ) (ws : List Word) (x : Event × List Word) → s ≤ 255
    → event_after v s ws ≡ Ok x → Ends v s ws x
unfolding event_after
event_after_takes verb.Enter s ws x le e =
    let b = bind_ok (one_of via_word vias ws) (λ v. Ok (Enter s v.0, v.1)) x e in
    let t = one_of_takes via_word vias ws b.0 b.1 in
    subst (Ends verb.Enter s ws) (ok_is (Enter s b.0.0, b.0.1) x b.2) (ap (behind verb.Enter s) t, le, refl)
event_after_takes verb.Leave s ws x le e =
    let b = bind_ok (next_at ws) (λ n. Ok (Leave s n.0, n.1)) x e in
    let t = next_takes ws b.0 b.1 in
    subst (Ends verb.Leave s ws) (ok_is (Leave s b.0.0, b.0.1) x b.2) (ap (behind verb.Leave s) t.0, (le, t.1), refl)
event_after_takes verb.Wait s ws x le e =
    let b = bind_ok (cond_next_at ws) (λ n. Ok (Wait s n.0.0 n.0.1, n.1)) x e in
    let t = cond_next_takes ws b.0 b.1 in
    grind (arith, nat_tests, ok_is)
event_after_takes verb.Signal s ws x le e =
    let b = bind_ok (cond_next_at ws) (λ n. Ok (Signal s n.0.0 n.0.1, n.1)) x e in
    let t = cond_next_takes ws b.0 b.1 in
    grind (arith, nat_tests, ok_is)
event_after_takes verb.SignalLeave s ws x le e =
    let b = bind_ok (cond_next_at ws) (λ n. Ok (SignalLeave s n.0.0 n.0.1, n.1)) x e in
    let t = cond_next_takes ws b.0 b.1 in
    grind (arith, nat_tests, ok_is)
event_after_takes verb.Until s ws x le e =
    let b = bind_ok (cond_next_at ws) (λ n. Ok (Until s n.0.0 n.0.1, n.1)) x e in
    let t = cond_next_takes ws b.0 b.1 in
    grind (arith, nat_tests, ok_is)
event_after_takes verb.Act s ws x le e =
    let b = bind_ok (act_at ws) (λ a. Ok (Act s a.0.0 a.0.1, a.1)) x e in
    let t = act_takes ws b.0 b.1 in
    grind (arith, nat_tests, ok_is)
event_after_takes verb.Resume s ws x le e =
    let b = bind_ok (one_of from_word froms ws) (λ q. Ok (Resume s q.0, q.1)) x e in
    let t = one_of_takes from_word froms ws b.0 b.1 in
    subst (Ends verb.Resume s ws) (ok_is (Resume s b.0.0, b.0.1) x b.2) (ap (behind verb.Resume s) t, le, refl)
event_after_takes verb.SignalAll s ws x le e =
    let b = bind_ok (number_at 255 ws) (λ c. Ok (SignalAll s c.0, c.1)) x e in
    let t = number_takes 255 ws b.0 b.1 in
    grind (arith, nat_tests, ok_is)
event_after_takes verb.SignalWait s ws x le e =
    let a = bind_ok (number_at 255 ws) (λ c. cond_next_at c.1 >>= λ n. Ok (SignalWait s c.0 n.0.0 n.0.1, n.1)) x e in
    let b = bind_ok (cond_next_at a.0.1) (λ n. Ok (SignalWait s a.0.0 n.0.0 n.0.1, n.1)) x a.2 in
    let t = number_takes 255 ws a.0 a.1 in
    let u = cond_next_takes a.0.1 b.0 b.1 in
    let whole : ws ≡ decimal a.0.0 ∷ decimal b.0.0.0 ∷ (next_words b.0.0.1 ++ b.0.1) = grind (arith, nat_tests) in
    grind (arith, nat_tests, ok_is)

-- each number of the event is in its range, and the version has a line for it
abbrev pub FitsVersion : ℕ → Event → Type 0
FitsVersion version e = EventFits e × IsTrue (nat_le (first_version e) version)

pub event_takes : (version : ℕ) (ws : List Word) (x : Event × List Word) → event_at version ws ≡ Ok x
    → (ws ≡ event_words x.0) × FitsVersion version x.0
unfolding event_at
event_takes version ws x e =
    let a = bind_ok (one_of verb_word (verbs_of version) ws)
    (λ v. number_at 255 v.1 >>= λ s. event_after v.0 s.0 s.1 >>= λ e. end_at e.1 >>= λ z. Ok (e.0, z.1)) x e in
    let b = bind_ok (number_at 255 a.0.1)
    (λ s. event_after a.0.0 s.0 s.1 >>= λ e. end_at e.1 >>= λ z. Ok (e.0, z.1)) x a.2 in
    let c = bind_ok (event_after a.0.0 b.0.0 b.0.1) (λ e. end_at e.1 >>= λ z. Ok (e.0, z.1)) x b.2 in
    let d = bind_ok (end_at c.0.1) (λ z. Ok (c.0.0, z.1)) x c.2 in
    let verb_is = one_of_takes verb_word (verbs_of version) ws a.0 a.1 in
    let verb_has = one_of_kept verb_word (λ v. nat_le (verb_version v) version) verbs ws a.0 a.1 in
    let seat_is = number_takes 255 a.0.1 b.0 b.1 in
    let event_is = event_after_takes a.0.0 b.0.0 b.0.1 c.0 seat_is.1 c.1 in
    let none = (end_takes c.0.1 d.0 d.1).0 in
    let whole : ws ≡ event_words c.0.0 = grind (arith, nat_tests, append-nil) in
    let has : nat_le (first_version c.0.0) version ≡ true = grind (arith, nat_tests) in
    grind (arith, nat_tests, ok_is)

next_again_last : (n : Next) → NextFits n → next_at (next_words n) ≡ Ok (n, [])
next_again_last n fits = ap next_at (sym (append-nil (next_words n))) ∙ next_again n [] fits

cond_next_again_last : (c : ℕ) (n : Next) → c ≤ 255 → NextFits n
    → cond_next_at (decimal c ∷ next_words n) ≡ Ok ((c, n), [])
cond_next_again_last c n le fits =
    ap (λ (v : List Word). cond_next_at (decimal c ∷ v)) (sym (append-nil (next_words n)))
    ∙ cond_next_again c n [] le fits

pub verb_of_again : (version : ℕ) (v : Verb) → nat_le (verb_version v) version ≡ true
    → with_text verb_word (verbs_of version) (verb_word v) ≡ Some v
verb_of_again version v has = kept_again verb_word (λ u. nat_le (verb_version u) version) verbs v has (verb_again v)

event_from_after : (version : ℕ) (v : Verb) (s : ℕ) (ws : List Word) (e : Event)
    → nat_le (verb_version v) version ≡ true
    → s ≤ 255 → event_after v s ws ≡ Ok (e, []) → event_at version (verb_word v ∷ decimal s ∷ ws) ≡ Ok (e, [])
unfolding event_at
event_from_after version v s ws e has le h =
    rw (
      one_of_again verb_word (verbs_of version) v (decimal s ∷ ws) (verb_of_again version v has),
      number_again 255 s ws (lit< tt) le,
      h,
    ) refl

after_enter : (s : ℕ) (via : Via) → event_after verb.Enter s (via_word via ∷ []) ≡ Ok (Enter s via, [])
unfolding event_after
after_enter s via = rw (one_of_again via_word vias via [] (via_again via)) refl

after_resume : (s : ℕ) (q : From3) → event_after verb.Resume s (from_word q ∷ []) ≡ Ok (Resume s q, [])
unfolding event_after
after_resume s q = rw (one_of_again from_word froms q [] (from_again q)) refl

after_leave : (s : ℕ) (n : Next) → NextFits n → event_after verb.Leave s (next_words n) ≡ Ok (Leave s n, [])
unfolding event_after
after_leave s n fits = rw (next_again_last n fits) refl

after_wait : (s c : ℕ) (n : Next) → c ≤ 255 → NextFits n
    → event_after verb.Wait s (decimal c ∷ next_words n) ≡ Ok (Wait s c n, [])
unfolding event_after
after_wait s c n le fits = rw (cond_next_again_last c n le fits) refl

after_until : (s c : ℕ) (n : Next) → c ≤ 255 → NextFits n
    → event_after verb.Until s (decimal c ∷ next_words n) ≡ Ok (Until s c n, [])
unfolding event_after
after_until s c n le fits = rw (cond_next_again_last c n le fits) refl

after_signal : (s c : ℕ) (n : Next) → c ≤ 255 → NextFits n
    → event_after verb.Signal s (decimal c ∷ next_words n) ≡ Ok (Signal s c n, [])
unfolding event_after
after_signal s c n le fits = rw (cond_next_again_last c n le fits) refl

after_signal_leave : (s c : ℕ) (n : Next) → c ≤ 255 → NextFits n
    → event_after verb.SignalLeave s (decimal c ∷ next_words n) ≡ Ok (SignalLeave s c n, [])
unfolding event_after
after_signal_leave s c n le fits = rw (cond_next_again_last c n le fits) refl

after_signal_all : (s c : ℕ) → c ≤ 255 → event_after verb.SignalAll s (decimal c ∷ []) ≡ Ok (SignalAll s c, [])
unfolding event_after
after_signal_all s c le = rw (number_again 255 c [] (lit< tt) le) refl

after_signal_wait : (s c d : ℕ) (n : Next) → c ≤ 255 → d ≤ 255 → NextFits n
    → event_after verb.SignalWait s (decimal c ∷ decimal d ∷ next_words n) ≡ Ok (SignalWait s c d n, [])
unfolding event_after
after_signal_wait s c d n le le_too fits = grind (arith, nat_tests, number_again, lit<, cond_next_again_last)

pub event_again : (version : ℕ) (e : Event) → EventFits e → nat_le (first_version e) version ≡ true
    → event_at version (event_words e) ≡ Ok (e, [])
event_again version (Enter s via) fits has =
    event_from_after version verb.Enter s (via_word via ∷ []) (Enter s via) has fits (after_enter s via)
event_again version (Leave s n) fits has =
    event_from_after version verb.Leave s (next_words n) (Leave s n) has fits.0 (after_leave s n fits.1)
event_again version (Wait s c n) fits has =
    event_from_after version verb.Wait s (decimal c ∷ next_words n) (Wait s c n) has fits.0
    (after_wait s c n fits.1 fits.2)
event_again version (Signal s c n) fits has =
    event_from_after version verb.Signal s (decimal c ∷ next_words n) (Signal s c n) has fits.0
    (after_signal s c n fits.1 fits.2)
event_again version (SignalLeave s c n) fits has =
    event_from_after version verb.SignalLeave s (decimal c ∷ next_words n) (SignalLeave s c n) has fits.0
    (after_signal_leave s c n fits.1 fits.2)
event_again version (Until s c n) fits has =
    event_from_after version verb.Until s (decimal c ∷ next_words n) (Until s c n) has fits.0
    (after_until s c n fits.1 fits.2)
event_again version (Act s op reply) fits has =
    event_from_after version verb.Act s (decimal op.code ∷ decimal op.arg ∷ decimal reply ∷ [])
    (Act s op reply) has fits.0
    (after_act s op reply fits.1 fits.2 fits.3)
event_again version (Resume s q) fits has =
    event_from_after version verb.Resume s (from_word q ∷ []) (Resume s q) has fits (after_resume s q)
event_again version (SignalAll s c) fits has =
    event_from_after version verb.SignalAll s (decimal c ∷ []) (SignalAll s c) has fits.0 (after_signal_all s c fits.1)
event_again version (SignalWait s c d n) fits has =
    event_from_after version verb.SignalWait s (decimal c ∷ decimal d ∷ next_words n) (SignalWait s c d n) has fits.0
    (after_signal_wait s c d n fits.1 fits.2 fits.3)
