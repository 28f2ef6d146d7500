-- If some run tells the lines, the judge takes them: between its run and any other, threads inside
-- differ only in whether they still sleep
use Rattle.std.proofs.Common.{arith, ◌≡◌, ℕ, ◌==◌, ◌⊎◌, Bool, true, false, List, [], ◌∷◌, ◌++◌, Option, Some, None, if◌then◌else◌, refl, sym, ap, subst, ◌∙◌, inl, inr}
use Rattle.std.proofs.lemmas.Bool.{eq-eqb, eqb-true, false≢true}
use Rattle.monk_logs.specs.Log.{is_lapse, line_seat}
use Rattle.monk_logs.specs.declared.text.line.LogLine.{LogLine}
use Rattle.monk_logs.specs.declared.text.line.LogLine.TheVariants.{Enter, Resume, Lapse, Leave, Wait, Signal, Broadcast, Until, Act}
use Rattle.monk_judge.specs.declared.place.Place.{Place}
use Rattle.monk_judge.specs.declared.place.Place.TheVariants.{Outside, Active, Waiting, Woken, RanOut}
use Rattle.monk_judge.specs.Run.{Setting, State, May, MaySignal, WakesRightly, IsWoken, HasRunOut, after, run_out, signalled, takes, woken, woken_unasked, with_place}
use Rattle.monk_judge.specs.declared.step.Step.{Step}
use Rattle.monk_judge.specs.declared.step.Step.TheVariants.{Tells}
use Rattle.monk_judge.specs.Judged.{CanResume, CanStand, IsRight, after_all, running_out, steps_at, waking}
use Rattle.monk_judge.specs.Ends.{lapses_next}
use Rattle.std.proofs.lemmas.Bool.Decides.{nat_tests}

-- where a thread is, as far as lines alone say
abbrev pub class : Place → Place
class Outside = Outside
class Active = Active
class (Waiting c) = Waiting c
class (Woken c) = Waiting c
class (RanOut c) = Waiting c

-- a thread's wait has run out in the judge's state exactly if its next line is a lapse
abbrev pub Foreseen : Place → Bool → Type 0
Foreseen Outside b = Unit {0}
Foreseen Active b = Unit {0}
Foreseen (Waiting c) b = b ≡ false
Foreseen (Woken c) b = b ≡ false
Foreseen (RanOut c) b = b ≡ true

-- the judge's state x, compared with that of another run of the same lines
pub record Follows (x y : State) (rest : List LogLine) : Type 0 where
  pub lock : x.lock ≡ y.lock
  pub same_data : x.data_now ≡ y.data_now
  pub place : (j : ℕ) → class (x.place j) ≡ class (y.place j)
  pub foreseen : (j : ℕ) → Foreseen (x.place j) (lapses_next j rest)
  pub holder : (j : ℕ) → x.lock ≡ Some j → x.place j ≡ Active

-- ---- places

class_woken : (c : ℕ) (p : Place) → class (woken c p) ≡ class p
class_woken c p = grind arith

pub class_out : (p : Place) → class (run_out p) ≡ class p
class_out p = grind arith

pub class_unasked : (p : Place) → class (woken_unasked p) ≡ class p
class_unasked p = grind arith

foreseen_woken : (c : ℕ) (p : Place) (b : Bool) → Foreseen p b → Foreseen (woken c p) b
foreseen_woken c p b h = grind arith

is_outside : (p : Place) → class p ≡ Outside → p ≡ Outside
is_outside p e = grind arith

can_resume : (p q : Place) → class p ≡ class q → IsWoken q → Foreseen p false → CanResume p
can_resume p Outside e h k = absurd h
can_resume p Active e h k = absurd h
can_resume p (Waiting d) e h k = absurd h
can_resume p (RanOut d) e h k = absurd h
can_resume Outside (Woken d) e h k = cc
can_resume Active (Woken d) e h k = cc
can_resume (Waiting c) (Woken d) e h k = tt
can_resume (Woken c) (Woken d) e h k = tt
can_resume (RanOut c) (Woken d) e h k = absurd (false≢true k)

can_lapse : (p q : Place) → class p ≡ class q → HasRunOut q → Foreseen p true → HasRunOut p
can_lapse p Outside e h k = absurd h
can_lapse p Active e h k = absurd h
can_lapse p (Waiting d) e h k = absurd h
can_lapse p (Woken d) e h k = absurd h
can_lapse Outside (RanOut d) e h k = cc
can_lapse Active (RanOut d) e h k = cc
can_lapse (Waiting c) (RanOut d) e h k = absurd (false≢true (sym k))
can_lapse (Woken c) (RanOut d) e h k = absurd (false≢true (sym k))
can_lapse (RanOut c) (RanOut d) e h k = tt

-- if the seat wrote the first of the lines, that is its next line
next_is : (s : ℕ) (l : LogLine) (rest : List LogLine) → line_seat l ≡ s → lapses_next s (l ∷ rest) ≡ is_lapse l
next_is s l rest e = ap (λ b. if b then is_lapse l else lapses_next s rest) (eq-eqb s (line_seat l) (sym e))

-- ---- one thread in another place

placed : (s : ℕ) (p q : Place) (f g : ℕ → Place) → class p ≡ class q → ((j : ℕ) → class (f j) ≡ class (g j))
    → (j : ℕ) → class (with_place s p f j) ≡ class (with_place s q g j)
placed s p q f g e h j = grind (arith, nat_tests)

-- the places are as before, as far as lines say
same_class_by : (j s : ℕ) (p : Place) (f : ℕ → Place) (b : Bool) → (j == s) ≡ b → class p ≡ class (f s)
    → class (if b then p else f j) ≡ class (f j)
same_class_by j s p f b e h = grind (arith, nat_tests)

same_class : (s : ℕ) (p : Place) (f : ℕ → Place) → class p ≡ class (f s) → (j : ℕ)
    → class (with_place s p f j) ≡ class (f j)
same_class s p f h j = same_class_by j s p f (j == s) refl h

foreseen_by : (j s : ℕ) (p old : Place) (such : Bool) (rest : List LogLine) (b : Bool) → (j == s) ≡ b
    → Foreseen p (lapses_next s rest) → Foreseen old (if b then such else lapses_next j rest)
    → Foreseen (if b then p else old) (lapses_next j rest)
foreseen_by j s p old such rest true e fp h = subst (λ k. Foreseen p (lapses_next k rest)) (sym (eqb-true j s e)) fp
foreseen_by j s p old such rest false e fp h = h

foreseen_on : (s : ℕ) (p : Place) (f : ℕ → Place) (such : Bool) (rest : List LogLine) → Foreseen p (lapses_next s rest)
    → ((j : ℕ) → Foreseen (f j) (if j == s then such else lapses_next j rest))
    → (j : ℕ) → Foreseen (with_place s p f j) (lapses_next j rest)
foreseen_on s p f such rest fp h j = foreseen_by j s p (f j) such rest (j == s) refl fp (h j)

-- nobody moved: the seat of the line is outside or active
foreseen_past_by : (j s : ℕ) (f : ℕ → Place) (such : Bool) (rest : List LogLine) (b : Bool) → (j == s) ≡ b
    → ((k : Bool) → Foreseen (f s) k) → Foreseen (f j) (if b then such else lapses_next j rest)
    → Foreseen (f j) (lapses_next j rest)
foreseen_past_by j s f such rest true e here h = subst (λ k. Foreseen (f k) (lapses_next j rest))
    (sym (eqb-true j s e)) (here (lapses_next j rest))
foreseen_past_by j s f such rest false e here h = h

pub foreseen_past : (s : ℕ) (f : ℕ → Place) (such : Bool) (rest : List LogLine) → ((k : Bool) → Foreseen (f s) k)
    → ((j : ℕ) → Foreseen (f j) (if j == s then such else lapses_next j rest)) → (j : ℕ)
    → Foreseen (f j) (lapses_next j rest)
foreseen_past s f such rest here h j = foreseen_past_by j s f such rest (j == s) refl here (h j)

-- ---- a signal

signalled_class : (x : State) (c : ℕ) (w : Option ℕ) → WakesRightly x c w → (j : ℕ)
    → class (signalled c w x.place j) ≡ class (x.place j)
signalled_class x c w h j = grind (arith, nat_tests)

signalled_foreseen_by : (x : State) (c k j : ℕ) (n b : Bool) → (j == k) ≡ b → x.place k ≡ Waiting c
    → Foreseen (x.place j) n
    → Foreseen (if b then Woken c else x.place j) n
signalled_foreseen_by x c k j n true e h f = subst (λ p. Foreseen p n) h
    (subst (λ i. Foreseen (x.place i) n) (eqb-true j k e) f)
signalled_foreseen_by x c k j n false e h f = f

signalled_foreseen : (x : State) (c : ℕ) (w : Option ℕ) → WakesRightly x c w → (j : ℕ) (n : Bool)
    → Foreseen (x.place j) n
    → Foreseen (signalled c w x.place j) n
signalled_foreseen x c None h j n f = f
signalled_foreseen x c (Some k) h j n f = signalled_foreseen_by x c k j n (j == k) refl h f

signalled_active : (x : State) (c : ℕ) (w : Option ℕ) → WakesRightly x c w → (j : ℕ) → x.place j ≡ Active
    → signalled c w x.place j ≡ Active
signalled_active x c w h j a = grind (arith, nat_tests)

-- a thread that may signal is outside or active
pub sender_here : (m : Setting) (x y : State) (rest : List LogLine) (s c : ℕ) → Follows x y rest → MaySignal m y s c
    → (b : Bool) → Foreseen (x.place s) b
sender_here m x y rest s c f h b =
    elim h.sender as (λ k. Foreseen (x.place s) b) [
      | inl lock ↦ subst (λ p. Foreseen p b) (sym (f.holder s (f.lock ∙ lock))) tt
      | inr out ↦ subst (λ p. Foreseen p b) (sym (is_outside (x.place s) (f.place s ∙ ap class out))) tt
    ]

may_signal : (m : Setting) (x y : State) (rest : List LogLine) (s c : ℕ) → Follows x y rest → MaySignal m y s c
    → MaySignal m x s c
may_signal m x y rest s c f h = record {
  seat = h.seat;
  cond = h.cond;
  sender = elim h.sender as (λ k. (x.lock ≡ Some s) ⊎ (x.place s ≡ Outside)) [
    | inl lock ↦ inl (f.lock ∙ lock)
    | inr out ↦ inr (is_outside (x.place s) (f.place s ∙ ap class out))
  ];
}

-- ---- a line

pub can_stand : (m : Setting) (x y : State) (l : LogLine) (w : Option ℕ) (rest : List LogLine) → Follows x y (l ∷ rest)
    → May m y (Tells l w) → CanStand m x l
can_stand m x y (Enter s) w rest f h = (h.0, f.lock ∙ h.1, is_outside (x.place s) (f.place s ∙ ap class h.2))
can_stand m x y (Resume s) w rest f h = (
  h.0,
  f.lock ∙ h.1,
  can_resume (x.place s) (y.place s) (f.place s) h.2
      (subst (λ b. Foreseen (x.place s) b) (next_is s (Resume s) rest refl) (f.foreseen s)),
)
can_stand m x y (Lapse s) w rest f h = (
  h.0,
  f.lock ∙ h.1,
  can_lapse (x.place s) (y.place s) (f.place s) h.2
      (subst (λ b. Foreseen (x.place s) b) (next_is s (Lapse s) rest refl) (f.foreseen s)),
)
can_stand m x y (Leave s) w rest f h = (h.0, f.lock ∙ h.1)
can_stand m x y (Wait s c) w rest f h = (h.0, h.1, f.lock ∙ h.2)
can_stand m x y (Signal s c) w rest f h = may_signal m x y (Signal s c ∷ rest) s c f h.0
can_stand m x y (Broadcast s c) w rest f h = may_signal m x y (Broadcast s c ∷ rest) s c f h
can_stand m x y (Until s p) w rest f h = absurd h
can_stand m x y (Act s op r) w rest f h = (
  h.0,
  h.1,
  f.lock ∙ h.2,
  h.3
      ∙ ap (λ d. m.object.reply d op) (sym f.same_data),
)

-- the thread takes the lock in both runs
active_by : (j s : ℕ) (p : Place) (b : Bool) → (j == s) ≡ b → s ≡ j → (if b then Active else p) ≡ Active
active_by j s p b e same = grind (arith, nat_tests)

some_same : (s j : ℕ) → Some s ≡ Some j → s ≡ j
some_same s j e = cc

took : (x y : State) (s : ℕ) (l : LogLine) (rest : List LogLine) → line_seat l ≡ s → Follows x y (l ∷ rest)
    → Follows (takes s x) (takes s y) rest
took x y s l rest e f = record {
  lock = refl;
  same_data = f.same_data;
  place = placed s Active Active x.place y.place refl f.place;
  foreseen = grind (arith, nat_tests, foreseen_on);
  holder = λ j same. active_by j s (x.place j) (j == s) refl (some_same s j same);
}

-- the judge's thread wakes just before it comes back
unasked_follows : (x y : State) (s : ℕ) (p : Place) (rest : List LogLine) → x.place s ≡ p → CanResume p
    → Follows x y rest
    → (m : Setting) → Follows (after_all m x (waking s p)) y rest
unasked_follows x y s Outside rest e h f m = absurd h
unasked_follows x y s Active rest e h f m = absurd h
unasked_follows x y s (Waiting c) rest e h f m = record {
  lock = f.lock;
  same_data = f.same_data;
  place = λ j. same_class s (woken_unasked (x.place s)) x.place (class_unasked (x.place s)) j ∙ f.place j;
  foreseen = grind (arith, nat_tests, signalled_foreseen);
  holder = grind (arith, nat_tests, signalled_active);
}
unasked_follows x y s (Woken c) rest e h f m = f
unasked_follows x y s (RanOut c) rest e h f m = absurd h

pub after_on : (m : Setting) (x : State) (a b : List Step) → after_all m x (a ++ b) ≡ after_all m (after_all m x a) b
after_on m x [] b = refl
after_on m x (step ∷ a) b = after_on m (after m x step) a b

-- the thread lets the lock go
pub no_lock : (j : ℕ) (A : Type 0) (x : Option ℕ) → x ≡ None → x ≡ Some j → A
no_lock j A x e h = cc

ran_out_by : (j s c : ℕ) (old : Place) (rest : List LogLine) (b : Bool) → (j == s) ≡ b → lapses_next s rest ≡ true
    → Foreseen old (if b then false else lapses_next j rest)
    → Foreseen (if b then RanOut c else if b then Waiting c else old) (lapses_next j rest)
ran_out_by j s c old rest true e h k = ap (λ i. lapses_next i rest) (eqb-true j s e) ∙ h
ran_out_by j s c old rest false e h k = k

waited : (m : Setting) (x y : State) (s c : ℕ) (rest : List LogLine) (b : Bool) → lapses_next s rest ≡ b
    → Follows x y (Wait s c ∷ rest)
    → Follows (after_all m x (Tells (Wait s c) None ∷ running_out s b)) (after m y (Tells (Wait s c) None)) rest
waited m x y s c rest false e f = record {
  lock = refl;
  same_data = f.same_data;
  place = placed s (Waiting c) (Waiting c) x.place y.place refl f.place;
  foreseen = foreseen_on s (Waiting c) x.place false rest e f.foreseen;
  holder = λ j same. no_lock j _ None refl same;
}
waited m x y s c rest true e f =
    let here : run_out (with_place s (Waiting c) x.place s) ≡ RanOut c = grind (arith, nat_tests, eq-eqb) in
    grind (arith, nat_tests, ran_out_by, no_lock)

-- the same after one more line, whichever threads the two runs wake
pub follow_line : (m : Setting) (x y : State) (l : LogLine) (v w : Option ℕ) (rest : List LogLine) → IsRight x l v
    → Follows x y (l ∷ rest) → May m y (Tells l w)
    → Follows (after_all m x (steps_at x l v (lapses_next (line_seat l) rest))) (after m y (Tells l w)) rest
follow_line m x y (Enter s) v w rest right f h = took x y s (Enter s) rest refl f
follow_line m x y (Resume s) v w rest right f h =
    let stands = can_stand m x y (Resume s) w rest f h in
    let woke = unasked_follows x y s (x.place s) (Resume s ∷ rest) refl stands.2 f m in
    grind (arith, nat_tests, after_on, took)
follow_line m x y (Lapse s) v w rest right f h = took x y s (Lapse s) rest refl f
follow_line m x y (Leave s) v w rest right f h = record {
  lock = refl;
  same_data = f.same_data;
  place = placed s Outside Outside x.place y.place refl f.place;
  foreseen = foreseen_on s Outside x.place false rest tt f.foreseen;
  holder = λ j same. no_lock j _ None refl same;
}
follow_line m x y (Wait s c) v w rest right f h = waited m x y s c rest (lapses_next s rest) refl f
follow_line m x y (Signal s c) v w rest right f h = record {
  lock = f.lock;
  same_data = f.same_data;
  place = λ j. signalled_class x c v right j ∙ f.place j ∙ sym (signalled_class y c w h.1 j);
  foreseen = grind (arith, nat_tests, signalled_foreseen, foreseen_past, sender_here);
  holder = λ j lock. signalled_active x c v right j (f.holder j lock);
}
follow_line m x y (Broadcast s c) v w rest right f h = record {
  lock = f.lock;
  same_data = f.same_data;
  place = λ j. class_woken c (x.place j) ∙ f.place j ∙ sym (class_woken c (y.place j));
  foreseen = grind (arith, nat_tests, foreseen_woken, foreseen_past, sender_here);
  holder = λ j lock. ap (woken c) (f.holder j lock);
}
follow_line m x y (Until s p) v w rest right f h = absurd h
follow_line m x y (Act s op r) v w rest right f h = record {
  lock = f.lock;
  same_data = ap (λ d. m.object.after d op) f.same_data;
  place = f.place;
  foreseen = grind (arith, nat_tests, foreseen_past);
  holder = f.holder;
}

-- ---- silent steps of the other run

pub silent : (x y : State) (s : ℕ) (p : Place) (rest : List LogLine) → class p ≡ class (y.place s) → Follows x y rest
    → Follows x (record { lock = y.lock; place = with_place s p y.place; data_now = y.data_now }) rest
silent x y s p rest e f = record {
  lock = f.lock;
  same_data = f.same_data;
  place = λ j. f.place j ∙ sym (same_class s p y.place e j);
  foreseen = f.foreseen;
  holder = f.holder;
}
