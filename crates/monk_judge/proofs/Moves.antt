-- How a line that the judge takes changes the lock and woken threads
use Rattle.std.proofs.Common.{◌≡◌, ℕ, ◌⊎◌, inl, inr, Bool, true, false, ◌∷◌, [], ◌++◌, Option, Some, None, refl, sym, ap, subst, ◌∙◌}
use Rattle.std.proofs.{lemmas.Bool.false≢true, lemmas.Bool.Decides.nat_tests, Common.arith}
use Rattle.monk_object.specs.declared.op.Op.{Op}
use Rattle.monk_logs.specs.Log.{line_seat}
use Rattle.monk_logs.specs.declared.text.line.LogLine.{LogLine}
use Rattle.monk_logs.specs.declared.text.line.LogLine.TheVariants.{Enter, Resume, Lapse, Leave, Wait, Signal, Broadcast}
use Rattle.monk_logs.specs.declared.text.line.LogLine.TheVariants.{Until, Act}
use Rattle.monk_judge.proofs.{Least.elsewhere, Least.here, Sleepers.HoldersAct}
use Rattle.monk_judge.specs.{Ends.is_resume, Holding.takes_lock, Overtaken.is_refused}
use Rattle.monk_judge.specs.Judged.{CanStand, IsRight, after_all, running_out, steps_at, waking}
use Rattle.monk_judge.specs.declared.step.Step.TheVariants.{Tells, WakesUnasked}
use Rattle.monk_judge.specs.declared.place.Place.{Place}
use Rattle.monk_judge.specs.declared.place.Place.TheVariants.{Outside, Active, Waiting, Woken, RanOut}
use Rattle.monk_judge.specs.Run.{HasRunOut, Setting, State, after, takes, WakesRightly, signalled, with_place, woken}

pub record Moves (x : State) (l : LogLine) (y : State) : Type 0 where
  pub free : takes_lock l ≡ true → x.lock ≡ None
  pub taken : takes_lock l ≡ true → y.lock ≡ Some (line_seat l)
  pub held : takes_lock l ≡ false → (s : ℕ) → x.lock ≡ Some s → (line_seat l ≡ s → ⊥) → y.lock ≡ Some s
  pub still : (j c : ℕ) → x.place j ≡ Woken c → (takes_lock l ≡ true → j ≡ line_seat l → ⊥) → y.place j ≡ Woken c
  pub back : takes_lock l ≡ true → (c : ℕ) → x.place (line_seat l) ≡ Woken c → is_resume l ≡ true
  pub acts : takes_lock l ≡ true → y.place (line_seat l) ≡ Active
  pub keeps : takes_lock l ≡ false → (y.lock ≡ x.lock) ⊎ (y.lock ≡ None)
  pub refused : is_refused l ≡ true → y.lock ≡ x.lock
  pub leaves : (s : ℕ) → l ≡ Leave s → x.lock ≡ Some s

pub outside_woken : (c : ℕ) (A : Type 0) (p : Place) → p ≡ Outside → p ≡ Woken c → A
outside_woken c A p e h = cc

pub active_woken : (c : ℕ) (A : Type 0) (p : Place) → p ≡ Active → p ≡ Woken c → A
active_woken c A p e h = cc

some_same : (o : Option ℕ) (s j : ℕ) → o ≡ Some s → o ≡ Some j → s ≡ j
some_same o s j e h = cc

refused_free : (l : LogLine) → is_refused l ≡ true → takes_lock l ≡ false
refused_free l h = grind (arith, nat_tests)

-- a line with which a thread takes the lock, and any other
took : (x : State) (l : LogLine) → takes_lock l ≡ true → x.lock ≡ None
    → ((c : ℕ) → x.place (line_seat l) ≡ Woken c → is_resume l ≡ true) → Moves x l (takes (line_seat l) x)
took x l is free back = record {
  free = λ h. free;
  taken = λ h. refl;
  held = λ h. absurd (false≢true (sym h ∙ is));
  still = λ j c h other. elsewhere (line_seat l) Active x.place j (other is) ∙ h;
  back = λ h. back;
  acts = λ h. here (line_seat l) Active x.place;
  keeps = λ h. absurd (false≢true (sym h ∙ is));
  refused = λ h. absurd (false≢true (sym (refused_free l h) ∙ is));
  leaves = λ s e. absurd (false≢true (sym (ap takes_lock e) ∙ is));
}

stayed : (x : State) (l : LogLine) (y : State) → takes_lock l ≡ false
    → ((s : ℕ) → x.lock ≡ Some s → (line_seat l ≡ s → ⊥) → y.lock ≡ Some s)
    → ((j c : ℕ) → x.place j ≡ Woken c → y.place j ≡ Woken c)
    → ((y.lock ≡ x.lock) ⊎ (y.lock ≡ None)) → (is_refused l ≡ true → y.lock ≡ x.lock)
    → ((s : ℕ) → l ≡ Leave s → x.lock ≡ Some s) → Moves x l y
stayed x l y is held still keeps refused leaves = record {
  free = λ h. absurd (false≢true (sym is ∙ h));
  taken = λ h. absurd (false≢true (sym is ∙ h));
  held = λ h. held;
  still = λ j c h other. still j c h;
  back = λ h. absurd (false≢true (sym is ∙ h));
  acts = λ h. absurd (false≢true (sym is ∙ h));
  keeps = λ h. keeps;
  refused = refused;
  leaves = leaves;
}

comes_back : (m : Setting) (x : State) (s : ℕ) (p : Place) → x.lock ≡ None
    → Moves x (Resume s) (after_all m x (waking s p ++ Tells (Resume s) None ∷ []))
comes_back m x s Outside free = took x (Resume s) refl free (λ c h. refl)
comes_back m x s Active free = took x (Resume s) refl free (λ c h. refl)
comes_back m x s (Waiting d) free =
    let z = after m x (WakesUnasked s) in
    let then : Moves z (Resume s) (takes s z) = took z (Resume s) refl free (λ c h. refl) in
    grind (arith, nat_tests, elsewhere)
comes_back m x s (Woken d) free = took x (Resume s) refl free (λ c h. refl)
comes_back m x s (RanOut d) free = took x (Resume s) refl free (λ c h. refl)

-- a line of the holder of the lock, by which it lets it go
let_go : (x y : State) (l : LogLine) → takes_lock l ≡ false → is_refused l ≡ false → y.lock ≡ None
    → x.lock ≡ Some (line_seat l) → ((j c : ℕ) → x.place j ≡ Woken c → y.place j ≡ Woken c) → Moves x l y
let_go x y l is accepted free lock still =
    stayed x l y is (λ s had other. absurd (other (some_same x.lock (line_seat l) s lock had))) still
    (inr free) (λ h. absurd (false≢true (sym accepted ∙ h))) (λ s e. lock ∙ ap (λ k. Some (line_seat k)) e)

apart : (x : State) (s j c : ℕ) → x.place s ≡ Active → x.place j ≡ Woken c → j ≡ s → ⊥
apart x s j c acts h same = active_woken c ⊥ (x.place j) (ap x.place same ∙ acts) h

waits : (m : Setting) (x : State) (s e : ℕ) (b : Bool) → x.lock ≡ Some s → x.place s ≡ Active
    → Moves x (Wait s e) (after_all m x (Tells (Wait s e) None ∷ running_out s b))
waits m x s e false lock acts = let_go x _ (Wait s e) refl refl refl lock
    (λ j c h. elsewhere s (Waiting e) x.place j (apart x s j c acts h) ∙ h)
waits m x s e true lock acts =
    let first = with_place s (Waiting e) x.place in
    grind (arith, nat_tests, let_go, elsewhere, apart)

signal_still : (x : State) (e j c : ℕ) (w : Option ℕ) → WakesRightly x e w → x.place j ≡ Woken c
    → signalled e w x.place j ≡ Woken c
signal_still x e j c w right h = grind (arith, nat_tests)

left_by_signal : (s e j : ℕ) → {A : Type 0} → Signal s e ≡ Leave j → A
left_by_signal s e j h = cc

left_by_broadcast : (s e j : ℕ) → {A : Type 0} → Broadcast s e ≡ Leave j → A
left_by_broadcast s e j h = cc

left_by_act : (s : ℕ) (op : Op) (r j : ℕ) → {A : Type 0} → Act s op r ≡ Leave j → A
left_by_act s op r j h = cc

pub line_moves : (m : Setting) (x : State) (l : LogLine) (w : Option ℕ) (b : Bool) → HoldersAct x → CanStand m x l
    → IsRight x l w → Moves x l (after_all m x (steps_at x l w b))
line_moves m x (Enter s) w b acts can right =
    took x (Enter s) refl can.1 (λ c e. outside_woken c _ (x.place s) can.2 e)
line_moves m x (Resume s) w b acts can right = comes_back m x s (x.place s) can.1
line_moves m x (Lapse s) w b acts can right =
    took x (Lapse s) refl can.1 (λ c e. absurd (subst HasRunOut e can.2))
line_moves m x (Leave s) w b acts can right = let_go x _ (Leave s) refl refl refl can.1
    (λ j c h. elsewhere s Outside x.place j (apart x s j c (acts s can.1) h) ∙ h)
line_moves m x (Wait s e) w b acts can right = waits m x s e b can.2 (acts s can.2)
line_moves m x (Signal s e) w b acts can right =
    stayed x (Signal s e) _ refl (λ j had other. had) (λ j c h. signal_still x e j c w right h) (inl refl) (λ h. refl)
    (λ j h. left_by_signal s e j h)
line_moves m x (Broadcast s e) w b acts can right =
    stayed x (Broadcast s e) _ refl (λ j had other. had) (λ j c h. ap (woken e) h) (inl refl) (λ h. refl)
    (λ j h. left_by_broadcast s e j h)
line_moves m x (Until s p) w b acts can right = absurd can
line_moves m x (Act s op r) w b acts can right =
    stayed x (Act s op r) _ refl (λ j had other. had) (λ j c h. h) (inl refl) (λ h. refl)
    (λ j h. left_by_act s op r j h)
