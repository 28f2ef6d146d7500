-- After the release gets the choice that the line shows, the line is judged as one with all known before it
use Rattle.std.proofs.Common.{◌≡◌, ◌∙◌, Bool, true, false, cond, not, ◌&&◌, Some, None, refl, sym, ap}
use Rattle.std.specs.Prelude.{◌==◌, Result, Ok, Err, IfOk, OnOk}
use Rattle.std.proofs.{lemmas.Grind.common_steps, Common.arith}
use Rattle.monk_history.specs.declared.event.Event.TheVariants as event
use Rattle.monk_history.specs.Meaning.{Events.answered_act, Events.next_of, Monitor.Monitor, Reasons.reason_in}
use Rattle.monk_history.specs.Meaning.{Release.with_next, Situation.Situation, Step.after}
use Rattle.monk_history.specs.declared.event.{Event.Event, Next.Next, Next.TheVariants.Stay}
use Rattle.monk_logs.specs.declared.text.line.LogLine.{LogLine}
use Rattle.monk_audit.specs.Replay.{replay_situation}
use Rattle.monk_completion.proofs.judging.line_told.Goals as goal
use Rattle.monk_completion.proofs.judging.line_told.Goals.{then-is_lapse-via-then-is_lapse}
use Rattle.monk_completion.proofs.judging.line_told.Goals.{then-is_lapse-via-else-is_lapse+then-refuses}
use Rattle.monk_completion.proofs.ToldLaws.{told_goes, told_more}
use Rattle.monk_completion.specs.{Blame.release_blame, declared.blame.Blame.Blame, Told.is_lapse, Told.told_release}
use Rattle.monk_completion.specs.Stand.{Stand, line_settled, line_told, monitor_in}

-- a release is no act, whatever it chooses
no_act : (x : Next) (e : Event) → next_of e ≡ Some Stay → answered_act (with_next x e) ≡ None
no_act x (event.Enter s via) h = refl
no_act x (event.Act s op r) h = absurd cc
no_act x (event.Leave s y) h = refl
no_act x (event.Wait s c y) h = refl
no_act x (event.Signal s c y) h = refl
no_act x (event.SignalLeave s c y) h = refl
no_act x (event.Until s p y) h = refl
no_act x (event.Resume s q) h = refl
no_act x (event.SignalAll s c) h = refl
no_act x (event.SignalWait s c d y) h = refl

pub refuses-requires-clause-no_act : goal.refuses-requires-clause-no_act
refuses-requires-clause-no_act g c κs within =
    let o = g.T.Guarded.meaning in
    let t = replay_situation c.args.replay.now (g.T.Guarded.state c.args.object.now) in
    grind (arith, common_steps, no_act)

-- ---- the line doesn't fit

not_refused : (b : Bool) → not b ≡ true → b ≡ false
not_refused false h = refl
not_refused true h = absurd cc

abbrev blamed : Blame → Result Stand Blame
blamed why = Err why

module _ (m : Monitor) (t : Situation) (e : Event) (l : LogLine) where
  -- a lapse shows no choice
  lapses : (b : Bool) → b ≡ is_lapse l → b ≡ true
      → (not (is_lapse l) && (reason_in m t (told_release m.object t e l) == 0)) ≡ false
  lapses b is h = ap (λ (x : Bool). not x && (reason_in m t (told_release m.object t e l) == 0)) (sym is ∙ h)

  -- the release fails a test
  fails : (b : Bool) → b ≡ is_lapse l → b ≡ false → (told : Event) → told ≡ told_release m.object t e l
      → (refused : Bool) → refused ≡ not (reason_in m t told == 0) → refused ≡ true
      → (not (is_lapse l) && (reason_in m t (told_release m.object t e l) == 0)) ≡ false
  fails b is h told told_is refused refused_is h2 =
      ap (λ (x : Bool). not x && (reason_in m t (told_release m.object t e l) == 0)) (sym is ∙ h)
      ∙ ap (λ (d : Event). reason_in m t d == 0) (sym told_is)
      ∙ not_refused (reason_in m t told == 0) (sym refused_is ∙ h2)

  misfits : (not (is_lapse l) && (reason_in m t (told_release m.object t e l) == 0)) ≡ false → (why : Blame)
      → why ≡ release_blame m t e l → line_told m t e l ≡ Err why
  misfits h why is =
      ap (λ (b : Bool). cond b (line_settled m (after m.object t (told_release m.object t e l)) l)
      (Err (release_blame m t e l))) h
      ∙ sym (ap (λ (x : Blame). blamed x) is)

pub returns-then-is_lapse : goal.returns-then-is_lapse
returns-then-is_lapse g c =
    let m = monitor_in c.args.setting g.T.Guarded.meaning in
    let t = replay_situation c.args.replay.now (g.T.Guarded.state c.args.object.now) in
    grind (
      arith,
      common_steps,
      misfits,
      then-is_lapse-via-then-is_lapse,
      lapses,
      then-is_lapse-via-else-is_lapse+then-refuses,
      fails,
    )

-- ---- it fits so far, and is judged with all known before it

if_on_ok : {A B E : Type 0} (x : Result (Result A B) E) (P : Type 0) → OnOk x P → IfOk x (λ r. OnOk r P)
if_on_ok (Ok (Ok a)) P h = h
if_on_ok (Ok (Err b)) P h = tt
if_on_ok (Err e) P h = tt

pub returns : goal.returns
returns g c =
    let k = c.args.setting in
    let m = monitor_in k g.T.Guarded.meaning in
    let t = replay_situation c.args.replay.now (g.T.Guarded.state c.args.object.now) in
    let u = replay_situation c.settle.new.replay (g.T.Guarded.state c.settle.new.object) in
    let v = replay_situation c.line_settled.new.replay (g.T.Guarded.state c.line_settled.new.object) in
    grind (arith, common_steps, told_goes, if_on_ok, told_more)
