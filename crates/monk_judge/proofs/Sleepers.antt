-- Who sleeps after a line, and how the waits end then
use Rattle.std.proofs.Common.{◌≡◌, ℕ, zero, suc, ◌<◌, ◌+◌, ◌==◌, ◌⊎◌, inl, inr, Bool, true, false, List, [], ◌∷◌, ◌++◌, length, get_or, Option, Some, None, if◌then◌else◌, refl, sym, ap, subst, arith, ◌∙◌}
use Rattle.std.proofs.lemmas.Bool.{eq-eqb, eqb-true, false≢true, Decides.nat_tests}
use Rattle.std.proofs.lemmas.List.{get_or-set_same, get_or-set_other}
use Rattle.monk_logs.specs.Log.{line_seat}
use Rattle.monk_logs.specs.declared.text.line.LogLine.{LogLine}
use Rattle.monk_logs.specs.declared.text.line.LogLine.TheVariants.{Enter, Resume, Lapse, Leave, Wait, Signal, Broadcast}
use Rattle.monk_logs.specs.declared.text.line.LogLine.TheVariants.{Until, Act}
use Rattle.monk_judge.proofs.{LinesAhead.end_past, Covers.GoesFirst, Least.elsewhere, LeastLaw.GoesOnWithin}
use Rattle.monk_judge.specs.Ends.{IsEnd, ends_after, resumes_within, runs_out}
use Rattle.monk_judge.specs.Shown.{IsEarliest, Shown, WakesEarliest, state_of}
use Rattle.monk_judge.specs.Run.{Setting, State, MaySignal, WakesRightly, run_out, signalled, woken, woken_unasked}
use Rattle.monk_judge.specs.Run.{with_place}
use Rattle.monk_judge.specs.Judged.{CanStand, IsRight, after_all, running_out, steps_at, waking}
use Rattle.monk_judge.specs.declared.wait_end.WaitEnd.{WaitEnd, TheVariants.Resumes}
use Rattle.monk_judge.specs.declared.step.Step.TheVariants.{Tells}
use Rattle.monk_judge.specs.declared.place.Place.{Place, TheVariants.Outside, TheVariants.Active, TheVariants.Waiting}

-- ---- one thread in another place

placed_by : (s j c : ℕ) (p : Place) (f : ℕ → Place) (b : Bool) → (j == s) ≡ b → (p ≡ Waiting c → ⊥)
    → (if b then p else f j) ≡ Waiting c → (j ≡ s → ⊥) × (f j ≡ Waiting c)
placed_by s j c p f b e not_there h = grind (arith, nat_tests)

pub placed_sleeps : (s j c : ℕ) (p : Place) (f : ℕ → Place) → (p ≡ Waiting c → ⊥) → with_place s p f j ≡ Waiting c
    → (j ≡ s → ⊥) × (f j ≡ Waiting c)
placed_sleeps s j c p f not_there h = placed_by s j c p f (j == s) refl not_there h

pub outside_not : (c : ℕ) → Outside ≡ Waiting c → ⊥
outside_not c e = cc

pub active_not : (c : ℕ) → Active ≡ Waiting c → ⊥
active_not c e = cc

pub run_out_not : (p : Place) (c : ℕ) → run_out p ≡ Waiting c → ⊥
run_out_not p c e = grind (arith, nat_tests)

pub unasked_not : (p : Place) (c : ℕ) → woken_unasked p ≡ Waiting c → ⊥
unasked_not p c e = grind (arith, nat_tests)

pub woken_back : (e c : ℕ) (p : Place) → woken e p ≡ Waiting c → p ≡ Waiting c
woken_back e c p h = grind (arith, nat_tests)

pub signalled_back : (e j c : ℕ) (w : Option ℕ) (f : ℕ → Place) → signalled e w f j ≡ Waiting c → f j ≡ Waiting c
signalled_back e j c w f h = grind (arith, nat_tests)

-- ---- who sleeps after a line

-- the thread that has the lock is active
abbrev pub HoldersAct : State → Type 0
HoldersAct x = (s : ℕ) → x.lock ≡ Some s → x.place s ≡ Active

sender_awake : (m : Setting) (x : State) (s c : ℕ) → HoldersAct x → MaySignal m x s c
    → (x.place s ≡ Active) ⊎ (x.place s ≡ Outside)
sender_awake m x s c acts h = grind (arith, nat_tests)

other_than : (x : State) (s j c : ℕ) → (x.place s ≡ Active) ⊎ (x.place s ≡ Outside) → x.place j ≡ Waiting c → j ≡ s → ⊥
other_than x s j c awake h same = grind (arith, nat_tests)

record HasCome (l : LogLine) (j : ℕ) : Type 0 where
  cond : ℕ
  is : l ≡ Wait j cond

-- it slept before, and the line isn't its own; or the line is its wait
abbrev Sleeper : State → LogLine → ℕ → ℕ → Type 0
Sleeper x l j c = ((j ≡ line_seat l → ⊥) × (x.place j ≡ Waiting c)) ⊎ HasCome l j

resumed : (m : Setting) (x : State) (s j c : ℕ) (p : Place)
    → (after_all m x (waking s p ++ Tells (Resume s) None ∷ [])).place j ≡ Waiting c
    → (j ≡ s → ⊥) × (x.place j ≡ Waiting c)
resumed m x s j c p h = grind (arith, nat_tests)

came_by : (x : State) (s j c e : ℕ) (b : Bool) → (j == s) ≡ b → (if b then Waiting e else x.place j) ≡ Waiting c
    → Sleeper x (Wait s e) j c
came_by x s j c e true same h = inr (record { cond = e; is = ap (λ k. Wait k e) (sym (eqb-true j s same)) })
came_by x s j c e false same h = inl (λ k. false≢true (sym same ∙ eq-eqb j s k), h)

waited : (m : Setting) (x : State) (s j c e : ℕ) (b : Bool)
    → (after_all m x (Tells (Wait s e) None ∷ running_out s b)).place j ≡ Waiting c
    → Sleeper x (Wait s e) j c
waited m x s j c e false h = came_by x s j c e (j == s) refl h
waited m x s j c e true h =
    let first = with_place s (Waiting e) x.place in
    let past = placed_sleeps s j c (run_out (first s)) first (run_out_not (first s) c) h in
    inl (past.0, sym (elsewhere s (Waiting e) x.place j past.0) ∙ past.1)

sleeper : (m : Setting) (x : State) (l : LogLine) (w : Option ℕ) (b : Bool) (j c : ℕ) → HoldersAct x → CanStand m x l
    → (after_all m x (steps_at x l w b)).place j ≡ Waiting c → Sleeper x l j c
sleeper m x (Enter s) w b j c acts can h = inl (placed_sleeps s j c Active x.place (active_not c) h)
sleeper m x (Resume s) w b j c acts can h = inl (resumed m x s j c (x.place s) h)
sleeper m x (Lapse s) w b j c acts can h = inl (placed_sleeps s j c Active x.place (active_not c) h)
sleeper m x (Leave s) w b j c acts can h = inl (placed_sleeps s j c Outside x.place (outside_not c) h)
sleeper m x (Wait s e) w b j c acts can h = waited m x s j c e b h
sleeper m x (Signal s e) w b j c acts can h =
    let was = signalled_back e j c w x.place h in inl (other_than x s j c (sender_awake m x s e acts can) was, was)
sleeper m x (Broadcast s e) w b j c acts can h =
    let was = woken_back e c (x.place j) h in inl (other_than x s j c (sender_awake m x s e acts can) was, was)
sleeper m x (Until s p) w b j c acts can h = absurd can
sleeper m x (Act s op r) w b j c acts can h = inl (other_than x s j c (inl (acts s can.2)) h, h)

-- ---- how the waits end

-- for each thread that sleeps, by the lines after the first `i`
abbrev pub EndsAt : Shown → ℕ → List LogLine → Type 0
EndsAt v i rest = (j c : ℕ) → get_or v.places j Outside ≡ Waiting c → IsEnd j i (get_or v.ends j (Resumes 0)) rest

ends_other : (ends : List WaitEnd) (l : LogLine) (e : WaitEnd) (j : ℕ) → (j ≡ line_seat l → ⊥)
    → get_or (ends_after ends l e) j (Resumes 0) ≡ get_or ends j (Resumes 0)
ends_other ends l e j ne = grind (arith, nat_tests, get_or-set_other)

came_end : (m : Setting) (x : State) (ends : List WaitEnd) (l : LogLine) (e : WaitEnd) (i j : ℕ) (rest : List LogLine)
    → m.seats ≡ length ends → CanStand m x l → IsEnd (line_seat l) (i + 1) e rest → HasCome l j
    → IsEnd j (i + 1) (get_or (ends_after ends l e) j (Resumes 0)) rest
came_end m x ends l e i j rest many can end came = grind (arith, nat_tests, get_or-set_same)

pub ends_next : (m : Setting) (v new : Shown) (l : LogLine) (w : Option ℕ) (e : WaitEnd) (i : ℕ) (rest : List LogLine)
    → m.seats ≡ length v.ends → HoldersAct (state_of v) → CanStand m (state_of v) l → EndsAt v i (l ∷ rest)
    → IsEnd (line_seat l) (i + 1) e rest
    → state_of new ≡ after_all m (state_of v) (steps_at (state_of v) l w (runs_out e))
    → new.ends ≡ ends_after v.ends l e
    → EndsAt new (i + 1) rest
ends_next m v new l w e i rest many acts can ends end leads kept j c h =
    let x = state_of v in
    subst (λ k. IsEnd j (i + 1) (get_or k j (Resumes 0)) rest) (sym kept)
    (elim (sleeper m x l w (runs_out e) j c acts can (sym (ap (λ y. y.place j) leads) ∙ h)) as
    (λ k. IsEnd j (i + 1) (get_or (ends_after v.ends l e) j (Resumes 0)) rest) [
      | inl slept ↦ subst (λ k. IsEnd j (i + 1) k rest) (sym (ends_other v.ends l e j slept.0))
          (end_past j i (get_or v.ends j (Resumes 0)) l rest slept.0 (ends j c slept.1))
      | inr came ↦ came_end m x v.ends l e i j rest many can end came
    ])

-- ---- whom a signal wakes

pub sleeps_within : (places : List Place) (j c : ℕ) → get_or places j Outside ≡ Waiting c → j < length places
sleeps_within [] j c h = absurd (outside_not c h)
sleeps_within (p ∷ places) zero c h = omega arith
sleeps_within (p ∷ places) (suc j) c h = let a = sleeps_within places j c h in omega arith

first_by : (m : Setting) (v : Shown) (s e k d i : ℕ) (w : Option ℕ) (rest : List LogLine) → m.seats ≡ length v.places
    → ((state_of v).place s ≡ Active) ⊎ ((state_of v).place s ≡ Outside) → WakesRightly (state_of v) e w
    → IsEarliest v e w
    → EndsAt v i (Signal s e ∷ rest) → (state_of v).place k ≡ Waiting e → resumes_within k d rest ≡ true
    → GoesOnWithin m.seats d rest w
first_by m v s e k d i None rest many awake right early ends is goes = absurd (right k is)
first_by m v s e k d i (Some j) rest many awake right early ends is goes =
    let end_of = λ (n : ℕ) (at : (state_of v).place n ≡ Waiting e).
    end_past n i (get_or v.ends n (Resumes 0)) (Signal s e) rest (other_than (state_of v) s n e awake at)
    (ends n e at) in
    let mine = end_of j right in
    grind (arith, nat_tests, sleeps_within)

pub goes_first : (m : Setting) (v : Shown) (l : LogLine) (w : Option ℕ) (i : ℕ) (rest : List LogLine)
    → m.seats ≡ length v.places
    → HoldersAct (state_of v) → CanStand m (state_of v) l → IsRight (state_of v) l w → WakesEarliest v l w
    → EndsAt v i (l ∷ rest)
    → GoesFirst m (state_of v) l w rest
goes_first m v l w i rest many acts can right early ends s e k d is at goes =
    first_by m v s e k d i w rest many
    (sender_awake m (state_of v) s e acts (subst (λ k. CanStand m (state_of v) k) is can))
    (subst (λ k. IsRight (state_of v) k w) is right) (subst (λ k. WakesEarliest v k w) is early)
    (subst (λ k. EndsAt v i (k ∷ rest)) is ends) at goes
