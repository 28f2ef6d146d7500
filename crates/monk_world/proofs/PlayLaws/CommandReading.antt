-- A command is read from the words that it is written as, and a command that is written is read again.
use Rattle.std.proofs.Common.{arith, ◌-◌, lit<, ◌≡◌, ℕ, ◌≤◌, ◌^◌, true, List, [], ◌∷◌, ◌++◌, Some, Ok, refl, ap, subst}
use Rattle.std.{specs.Prelude.IsTrue, specs.Prelude.nat_le, specs.Fmt.decimal, proofs.lemmas.List.append-nil}
use Rattle.monk_kinds.specs.{Names.with_text, declared.mode.Pick.Pick}
use Rattle.monk_object.specs.declared.op.Op.{Op}
use Rattle.monk_history.specs.Text.Words.{◌>>=◌, Word, Taken, number_at, one_of, end_at}
use Rattle.monk_history.proofs.PublicLaws.Texts.{bind_ok, ok_is, number_takes, number_again, one_of_takes, one_of_again}
use Rattle.monk_history.proofs.PublicLaws.Texts.{end_takes, kept_again, one_of_kept}
use Rattle.monk_world.specs.declared.play.verb.CommandVerb.TheVariants as verb
use Rattle.monk_world.specs.StepTable.{command_version}
use Rattle.monk_world.specs.Play.{pick_word, action_words, command_words, ActionFits, CommandFits}
use Rattle.monk_world.specs.Play.Reading.{picks, play_verb_version, play_verb_word, play_verbs, play_verbs_of, op_at}
use Rattle.monk_world.specs.Play.Reading.{cond_pick_at, action_after, command_at}
use Rattle.monk_world.specs.declared.play.verb.CommandVerb.{CommandVerb}
use Rattle.monk_world.specs.declared.command.Command.{Command}
use Rattle.monk_world.specs.declared.command.Command.TheVariants.{Arrive, Look, Out, Peek, Drop, Grant, Act, Leave}
use Rattle.monk_world.specs.declared.command.Command.TheVariants.{Wait, Signal, SignalLeave, Until, SignalAll}
use Rattle.monk_world.specs.declared.command.Command.TheVariants.{SignalWait}
use Rattle.std.proofs.lemmas.Bool.Decides.{nat_tests}

pick_again : (p : Pick) → with_text pick_word picks (pick_word p) ≡ Some p
pick_again p = grind arith

pub verb_again : (v : CommandVerb) → with_text play_verb_word play_verbs (play_verb_word v) ≡ Some v
verb_again v = grind arith

-- ---- the parts of an action

op_takes : (ws : List Word) (x : Op × List Word) → op_at ws ≡ Ok x → (ws ≡ decimal x.0.code ∷ decimal x.0.arg ∷ x.1)
    × (x.0.code ≤ 255) × (x.0.arg ≤ 2 ^ 32 - 1)
unfolding op_at
op_takes ws x e =
    let a = bind_ok (number_at 255 ws)
    (λ c. number_at (2 ^ 32 - 1) c.1 >>= λ a. Ok (record { code = c.0; arg = a.0 }, a.1)) x e in
    let b = bind_ok (number_at (2 ^ 32 - 1) a.0.1) (λ n. Ok (record { code = a.0.0; arg = n.0 }, n.1)) x a.2 in
    let t = number_takes 255 ws a.0 a.1 in
    let u = number_takes (2 ^ 32 - 1) a.0.1 b.0 b.1 in
    let made : Op × List Word = (record { code = a.0.0; arg = b.0.0 }, b.0.1) in
    grind (arith, nat_tests, ok_is)

cond_pick_takes : (ws : List Word) (x : (ℕ × Pick) × List Word) → cond_pick_at ws ≡ Ok x
    → (ws ≡ decimal x.0.0 ∷ pick_word x.0.1 ∷ x.1) × (x.0.0 ≤ 255)
unfolding cond_pick_at
cond_pick_takes ws x e =
    let a = bind_ok (number_at 255 ws) (λ c. one_of pick_word picks c.1 >>= λ p. Ok ((c.0, p.0), p.1)) x e in
    let b = bind_ok (one_of pick_word picks a.0.1) (λ p. Ok ((a.0.0, p.0), p.1)) x a.2 in
    let t = number_takes 255 ws a.0 a.1 in
    let p = one_of_takes pick_word picks a.0.1 b.0 b.1 in
    grind (arith, nat_tests, ok_is)

cond_pick_again : (c : ℕ) (p : Pick) → c ≤ 255 → cond_pick_at (decimal c ∷ pick_word p ∷ []) ≡ Ok ((c, p), [])
unfolding cond_pick_at
cond_pick_again c p le =
    rw (number_again 255 c (pick_word p ∷ []) (lit< tt) le, one_of_again pick_word picks p [] (pick_again p)) refl

-- ---- an action

-- what a line is after its verb was read
abbrev Ends : CommandVerb → List Word → Command × List Word → Type 0
Ends v ws y = (play_verb_word v ∷ ws ≡ action_words y.0 ++ y.1) × ActionFits y.0
    × (play_verb_version v ≡ command_version y.0)

abbrev behind : CommandVerb → List Word → List Word
behind v ws = play_verb_word v ∷ ws

action_takes : (v : CommandVerb) (ws : List Word) (x : Command × List Word) → action_after v ws ≡ Ok x → Ends v ws x
unfolding action_after
action_takes verb.Arrive ws x e = subst (Ends verb.Arrive ws) (ok_is (Arrive, ws) x e) (refl, tt, refl)
action_takes verb.Look ws x e = subst (Ends verb.Look ws) (ok_is (Look, ws) x e) (refl, tt, refl)
action_takes verb.Out ws x e = subst (Ends verb.Out ws) (ok_is (Out, ws) x e) (refl, tt, refl)
action_takes verb.Peek ws x e = subst (Ends verb.Peek ws) (ok_is (Peek, ws) x e) (refl, tt, refl)
action_takes verb.Drop ws x e = subst (Ends verb.Drop ws) (ok_is (Drop, ws) x e) (refl, tt, refl)
action_takes verb.Grant ws x e = subst (Ends verb.Grant ws) (ok_is (Grant, ws) x e) (refl, tt, refl)
action_takes verb.Act ws x e =
    let b = bind_ok (op_at ws) (λ o. Ok (Act o.0, o.1)) x e in
    let t = op_takes ws b.0 b.1 in
    subst (Ends verb.Act ws) (ok_is (Act b.0.0, b.0.1) x b.2) (ap (behind verb.Act) t.0, (t.1, t.2), refl)
action_takes verb.Leave ws x e =
    let b = bind_ok (one_of pick_word picks ws) (λ p. Ok (Leave p.0, p.1)) x e in
    let t = one_of_takes pick_word picks ws b.0 b.1 in
    subst (Ends verb.Leave ws) (ok_is (Leave b.0.0, b.0.1) x b.2) (ap (behind verb.Leave) t, tt, refl)
action_takes verb.Wait ws x e =
    let b = bind_ok (cond_pick_at ws) (λ c. Ok (Wait c.0.0 c.0.1, c.1)) x e in
    let t = cond_pick_takes ws b.0 b.1 in
    subst (Ends verb.Wait ws) (ok_is (Wait b.0.0.0 b.0.0.1, b.0.1) x b.2) (ap (behind verb.Wait) t.0, t.1, refl)
action_takes verb.Signal ws x e =
    let b = bind_ok (cond_pick_at ws) (λ c. Ok (Signal c.0.0 c.0.1, c.1)) x e in
    let t = cond_pick_takes ws b.0 b.1 in
    subst (Ends verb.Signal ws) (ok_is (Signal b.0.0.0 b.0.0.1, b.0.1) x b.2) (ap (behind verb.Signal) t.0, t.1, refl)
action_takes verb.SignalLeave ws x e =
    let b = bind_ok (cond_pick_at ws) (λ c. Ok (SignalLeave c.0.0 c.0.1, c.1)) x e in
    let t = cond_pick_takes ws b.0 b.1 in
    grind (arith, nat_tests, ok_is)
action_takes verb.Until ws x e =
    let b = bind_ok (cond_pick_at ws) (λ c. Ok (Until c.0.0 c.0.1, c.1)) x e in
    let t = cond_pick_takes ws b.0 b.1 in
    subst (Ends verb.Until ws) (ok_is (Until b.0.0.0 b.0.0.1, b.0.1) x b.2) (ap (behind verb.Until) t.0, t.1, refl)
action_takes verb.SignalAll ws x e =
    let b = bind_ok (number_at 255 ws) (λ c. Ok (SignalAll c.0, c.1)) x e in
    let t = number_takes 255 ws b.0 b.1 in
    subst (Ends verb.SignalAll ws) (ok_is (SignalAll b.0.0, b.0.1) x b.2) (ap (behind verb.SignalAll) t.0, t.1, refl)
action_takes verb.SignalWait ws x e =
    let a = bind_ok (number_at 255 ws) (λ c. cond_pick_at c.1 >>= λ d. Ok (SignalWait c.0 d.0.0 d.0.1, d.1)) x e in
    let b = bind_ok (cond_pick_at a.0.1) (λ d. Ok (SignalWait a.0.0 d.0.0 d.0.1, d.1)) x a.2 in
    let t = number_takes 255 ws a.0 a.1 in
    let u = cond_pick_takes a.0.1 b.0 b.1 in
    let whole : ws ≡ decimal a.0.0 ∷ decimal b.0.0.0 ∷ pick_word b.0.0.1 ∷ b.0.1 = grind (arith, nat_tests) in
    grind (arith, nat_tests, ok_is)

after_act : (op : Op) → op.code ≤ 255 → op.arg ≤ 2 ^ 32 - 1
    → action_after verb.Act (decimal op.code ∷ decimal op.arg ∷ []) ≡ Ok (Act op, [])
unfolding action_after op_at
after_act op code arg = grind (arith, nat_tests, number_again, lit<)

after_leave : (p : Pick) → action_after verb.Leave (pick_word p ∷ []) ≡ Ok (Leave p, [])
unfolding action_after
after_leave p = rw (one_of_again pick_word picks p [] (pick_again p)) refl

after_wait : (c : ℕ) (p : Pick) → c ≤ 255 → action_after verb.Wait (decimal c ∷ pick_word p ∷ []) ≡ Ok (Wait c p, [])
unfolding action_after
after_wait c p le = rw (cond_pick_again c p le) refl

after_signal : (c : ℕ) (p : Pick) → c ≤ 255
    → action_after verb.Signal (decimal c ∷ pick_word p ∷ []) ≡ Ok (Signal c p, [])
unfolding action_after
after_signal c p le = rw (cond_pick_again c p le) refl

after_signal_leave : (c : ℕ) (p : Pick) → c ≤ 255
    → action_after verb.SignalLeave (decimal c ∷ pick_word p ∷ []) ≡ Ok (SignalLeave c p, [])
unfolding action_after
after_signal_leave c p le = rw (cond_pick_again c p le) refl

after_until : (c : ℕ) (p : Pick) → c ≤ 255 → action_after verb.Until (decimal c ∷ pick_word p ∷ []) ≡ Ok (Until c p, [])
unfolding action_after
after_until c p le = rw (cond_pick_again c p le) refl

after_signal_all : (c : ℕ) → c ≤ 255 → action_after verb.SignalAll (decimal c ∷ []) ≡ Ok (SignalAll c, [])
unfolding action_after
after_signal_all c le = rw (number_again 255 c [] (lit< tt) le) refl

after_signal_wait : (c d : ℕ) (p : Pick) → c ≤ 255 → d ≤ 255
    → action_after verb.SignalWait (decimal c ∷ decimal d ∷ pick_word p ∷ []) ≡ Ok (SignalWait c d p, [])
unfolding action_after
after_signal_wait c d p le le_too = grind (arith, nat_tests, number_again, lit<, cond_pick_again)

-- ---- a command

abbrev at_action : ℕ → Command × List Word → Taken (ℕ × Command)
at_action s a = end_at a.1 >>= λ z. Ok ((s, a.0), z.1)

abbrev at_verb : ℕ → CommandVerb × List Word → Taken (ℕ × Command)
at_verb s v = action_after v.0 v.1 >>= at_action s

abbrev at_seat : ℕ → ℕ × List Word → Taken (ℕ × Command)
at_seat version s = one_of play_verb_word (play_verbs_of version) s.1 >>= at_verb s.0

-- each number of the command is in its range, and the version has it
abbrev pub FitsVersion : ℕ → ℕ × Command → Type 0
FitsVersion version m = CommandFits m × IsTrue (nat_le (command_version m.1) version)

pub command_takes : (version : ℕ) (ws : List Word) (x : (ℕ × Command) × List Word) → command_at version ws ≡ Ok x
    → (ws ≡ command_words x.0) × FitsVersion version x.0
unfolding command_at
command_takes version ws x e =
    let a = bind_ok (number_at 255 ws) (at_seat version) x e in
    let b = bind_ok (one_of play_verb_word (play_verbs_of version) a.0.1) (at_verb a.0.0) x a.2 in
    let c = bind_ok (action_after b.0.0 b.0.1) (at_action a.0.0) x b.2 in
    let d = bind_ok (end_at c.0.1) (λ z. Ok ((a.0.0, c.0.0), z.1)) x c.2 in
    let seat_is = number_takes 255 ws a.0 a.1 in
    let verb_is = one_of_takes play_verb_word (play_verbs_of version) a.0.1 b.0 b.1 in
    let verb_has = one_of_kept play_verb_word (λ v. nat_le (play_verb_version v) version) play_verbs a.0.1 b.0 b.1 in
    let action_is = action_takes b.0.0 b.0.1 c.0 c.1 in
    let none = (end_takes c.0.1 d.0 d.1).0 in
    let whole : a.0.1 ≡ action_words c.0.0 = grind (arith, nat_tests, append-nil) in
    let has : nat_le (command_version c.0.0) version ≡ true = grind (arith, nat_tests) in
    grind (arith, nat_tests, ok_is)

from_after : (version : ℕ) (v : CommandVerb) (s : ℕ) (ws : List Word) (c : Command)
    → nat_le (play_verb_version v) version ≡ true
    → s ≤ 255 → action_after v ws ≡ Ok (c, [])
    → command_at version (decimal s ∷ play_verb_word v ∷ ws) ≡ Ok ((s, c), [])
unfolding command_at
from_after version v s ws c has le h =
    rw (
      number_again 255 s (play_verb_word v ∷ ws) (lit< tt) le,
      one_of_again play_verb_word (play_verbs_of version) v ws
          (kept_again play_verb_word (λ u. nat_le (play_verb_version u) version) play_verbs v has (verb_again v)),
      h,
    ) refl

action_again : (version s : ℕ) (c : Command) → s ≤ 255 → ActionFits c → nat_le (command_version c) version ≡ true
    → command_at version (decimal s ∷ action_words c) ≡ Ok ((s, c), [])
unfolding action_after
action_again n s Arrive le fits has = from_after n verb.Arrive s [] Arrive has le refl
action_again n s Look le fits has = from_after n verb.Look s [] Look has le refl
action_again n s Out le fits has = from_after n verb.Out s [] Out has le refl
action_again n s Peek le fits has = from_after n verb.Peek s [] Peek has le refl
action_again n s Drop le fits has = from_after n verb.Drop s [] Drop has le refl
action_again n s Grant le fits has = from_after n verb.Grant s [] Grant has le refl
action_again n s (Act op) le fits has =
    from_after n verb.Act s (decimal op.code ∷ decimal op.arg ∷ []) (Act op) has le (after_act op fits.0 fits.1)
action_again n s (Leave p) le fits has = from_after n verb.Leave s (pick_word p ∷ []) (Leave p) has le (after_leave p)
action_again n s (Wait c p) le fits has =
    from_after n verb.Wait s (decimal c ∷ pick_word p ∷ []) (Wait c p) has le (after_wait c p fits)
action_again n s (Signal c p) le fits has =
    from_after n verb.Signal s (decimal c ∷ pick_word p ∷ []) (Signal c p) has le (after_signal c p fits)
action_again n s (SignalLeave c p) le fits has =
    from_after n verb.SignalLeave s (decimal c ∷ pick_word p ∷ []) (SignalLeave c p) has le
    (after_signal_leave c p fits)
action_again n s (Until c p) le fits has =
    from_after n verb.Until s (decimal c ∷ pick_word p ∷ []) (Until c p) has le (after_until c p fits)
action_again n s (SignalAll c) le fits has =
    from_after n verb.SignalAll s (decimal c ∷ []) (SignalAll c) has le (after_signal_all c fits)
action_again n s (SignalWait c d p) le fits has =
    from_after n verb.SignalWait s (decimal c ∷ decimal d ∷ pick_word p ∷ []) (SignalWait c d p) has le
    (after_signal_wait c d p fits.0 fits.1)

pub command_again : (version : ℕ) (m : ℕ × Command) → FitsVersion version m
    → command_at version (command_words m) ≡ Ok (m, [])
command_again version m fits = action_again version m.0 m.1 fits.0.0 fits.0.1 fits.1
