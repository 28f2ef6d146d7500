-- What a member does inside until its operation is done: it pauses, and it acts or leaves
use Rattle.std.proofs.Common.{◌≡◌, ℕ, false, cond, Option, Some, None, List, [], ◌∷◌, ◌++◌}
use Rattle.std.proofs.Common.{◌≤◌, refl, sym, ap, subst, ◌∙◌, inr, arith}
use Rattle.std.proofs.{Common.append_assoc, lemmas.Bool.Decides.nat_tests}
use Rattle.monk_kinds.specs.declared.mode.{Pick.TheVariants.Entry, Rules.Rules}
use Rattle.monk_object.specs.{Object.Object, declared.op.Op.Op}
use Rattle.monk_history.specs.{Meaning.Monitor.data_of, declared.event.Event.TheVariants.Act}
use Rattle.monk_floor.specs.View.{monitor_of}
use Rattle.monk_hall.specs.{Calls.HasDone, Layout.floor_of, declared.setting.Setting.Setting}
use Rattle.monk_hall.specs.Tokens.{Token, Holder}
use Rattle.monk_samples.proofs.TrailLaws.{called_none, called_then, did, replied}
use Rattle.monk_samples.proofs.ShortLaws.{less_than, needs_two, short_yet}
use Rattle.monk_samples.specs.Styles.{HasGivenUp, HasPaused, Holds, pause_call}
use Rattle.monk_samples.specs.Visits.{Guard, AreFew, ArePauses, HasPausedFor, IsLeftWaiting, wish_of, IsUnready}
use Rattle.monk_samples.specs.Visits.{HasTired, HasStayedOut, HasPausedUntil, HasActed, HasActedInHaste, HasLooked}
use Rattle.monk_samples.specs.Visits.{Promises, hasty_guard, data_after, needed_yet}
use Rattle.monk_samples.specs.Trails.{Addition, Trail, HasCalled, inside, outside}
use Rattle.monk_samples.specs.declared.manner.Manner.{Manner, TheVariants.Patient, TheVariants.Hasty}

module _ (k : Rules) (o : Object) where
  pauses_then : (c : Setting) (s : ℕ) (w : Guard) (xs ys : List Addition) → ArePauses k o c s w xs
      → ArePauses k o c s w ys
      → ArePauses k o c s w (xs ++ ys)
  pauses_then c s w [] ys h t = t
  pauses_then c s w (d ∷ xs) ys h t = (h.0, h.1, pauses_then c s w xs ys h.2 t)

  -- a patient visit pauses as often as it must
  abbrev pub IsPatient : Option Guard → Type 0
  IsPatient None = Unit {0}
  IsPatient (Some w) = w.manner ≡ Patient

  few_patient : (m : Manner) (ds : List Addition) → m ≡ Patient → AreFew m ds
  few_patient m ds e = subst (λ (x : Manner). AreFew x ds) (sym e) tt

  few_none : (m : Manner) → AreFew m []
  few_none Patient = tt
  few_none Hasty = omega arith

  few_one : (m : Manner) (d : Addition) → AreFew m (d ∷ [])
  few_one Patient d = tt
  few_one Hasty d = omega arith

  paused_for_then : (c : Setting) (s : ℕ) (w : Option Guard) → IsPatient w → (xs ys : List Addition)
      → HasPausedFor k o c s w xs
      → HasPausedFor k o c s w ys
      → HasPausedFor k o c s w (xs ++ ys)
  paused_for_then c s None patient xs ys h t = (λ i. h i ++ t i)
  paused_for_then c s (Some w) patient xs ys h t =
      (pauses_then c s w xs ys h.0 t.0, few_patient w.manner (xs ++ ys) patient)

  paused_for_none : (c : Setting) (s : ℕ) (w : Option Guard) → HasPausedFor k o c s w []
  paused_for_none c s None = refl
  paused_for_none c s (Some w) = (tt, few_none w.manner)

  -- a seat that is active has not paused yet
  pub paused_none : (x : Trail) (w : Option Guard) (a : Holder) → HasCalled x (inside a) [] → HasPausedUntil k o x w a
  paused_none x w a called = record { pauses = []; called = called; paused = paused_for_none x.setting x.seat w }

  pub paused_then : (x : Trail) (w : Option Guard) → IsPatient w → (a b : Holder) → HasPausedUntil k o x w a
      → HasPausedUntil k o (inside a) w b → HasPausedUntil k o x w b
  paused_then x w patient a b s t = let seat = s.called.went.seat in let setting = s.called.went.setting in record {
    pauses = s.pauses ++ t.pauses;
    called = called_then x (inside a) (inside b) s.pauses t.pauses s.called t.called;
    paused = paused_for_then x.setting x.seat w patient s.pauses t.pauses s.paused (rw (seat, setting) at t.paused);
  }

  -- a pause, after the predicate was false
  pub paused_first : (w : Guard) (a b : Holder)
      → HasPaused k o (wish_of w.manner) a (pause_call k a.me.seat w.cond w.pred) b
      → o.holds (data_of (monitor_of k o a.floor) a.floor.history) w.pred ≡ false
      → HasPausedUntil k o (inside a) (Some w) b
  paused_first w a b t not_yet = record {
    pauses = t.pause ∷ [];
    called = t.called;
    paused = (
      (
        t.is,
        ap (λ h. o.holds (data_after k o a.me.setting h) w.pred) t.at
            ∙ sym (ap (λ f. o.holds (data_of (monitor_of k o f) a.floor.history) w.pred) t.floor) ∙ not_yet,
        tt,
      ),
      few_one w.manner t.pause,
    );
  }

  -- a hasty seat has looked: the predicate held, or it has paused
  pub looked_none : (x : Trail) (cond pred : ℕ) (a : Holder) → HasCalled x (inside a) [] → Holds k o pred a
      → HasLooked k o x cond pred a
  unfolding paused_none
  looked_none x cond pred a called held = record {
    paused = paused_none x (Some (hasty_guard cond pred)) a called;
    found = λ none. held;
  }

  pub looked_first : (cond pred : ℕ) (a b : Holder)
      → HasPaused k o Entry a (pause_call k a.me.seat cond pred) b
      → o.holds (data_of (monitor_of k o a.floor) a.floor.history) pred ≡ false
      → HasLooked k o (inside a) cond pred b
  unfolding paused_first
  looked_first cond pred a b t not_yet = record {
    paused = paused_first (hasty_guard cond pred) a b t not_yet;
    found = λ none. absurd (let e : t.pause ∷ [] ≡ [] = none in cc);
  }

  -- one more pause, while the predicate was false
  pub paused_once : (x : Trail) (w : Guard) → w.manner ≡ Patient → (a b : Holder) → HasPausedUntil k o x (Some w) a
      → HasPaused k o (wish_of w.manner) a (pause_call k a.me.seat w.cond w.pred) b
      → o.holds (data_of (monitor_of k o a.floor) a.floor.history) w.pred ≡ false → HasPausedUntil k o x (Some w) b
  paused_once x w patient a b s t not_yet = paused_then x (Some w) patient a b s (paused_first w a b t not_yet)

  -- the active seat acted
  pub acted_now : (a : Holder) (op : Op) (reply : ℕ) (b : Holder) → HasDone k o a (Act a.me.seat op reply) b
      → a.floor ≡ floor_of a.me.setting a.floor.history → HasActed k o (inside a) None op reply b
  acted_now a op reply b done floor = record {
    pauses = [];
    act = record { before = a.floor.history; event = Act a.me.seat op reply };
    called = did k o a a.me.seat op reply b done;
    paused = refl;
    acts = record {
      is = refl;
      replied = grind (arith, nat_tests, replied);
    };
    last = ap (λ (h : Holder). h.floor.history) done.is;
    floor = grind (arith, nat_tests);
  }

  -- a seat that paused, and left instead of its next call
  pub left_after : (x : Trail) (w : Option Guard) (a : Holder) (q : Token) → HasPausedUntil k o x w a → (needed : ℕ)
      → HasGivenUp k o needed a q → needed ≤ needed_yet k o a.me.setting w a.floor.history
      → HasTired k o x (IsLeftWaiting k o x.setting x.seat w) q
  left_after x w a q s needed t within =
      let seat = s.called.went.seat in let setting = s.called.went.setting in record {
        calls = s.pauses ++ t.leave ∷ [];
        called = called_then x (inside a) (outside q) s.pauses (t.leave ∷ []) s.called t.called;
        are = record {
          pauses = s.pauses;
          leave = t.leave;
          are = refl;
          paused = s.paused;
          leaves = rw (seat, setting) at t.is;
          short = grind (arith, nat_tests, short_yet, less_than);
        };
        spent = t.spent;
        told = t.told;
      }

  -- a seat that paused, and was tired before it was done with its pauses
  pub tired_after : (x : Trail) (w : Option Guard) → IsPatient w → (a : Holder) (q : Token) → HasPausedUntil k o x w a
      → HasTired k o (inside a) (IsLeftWaiting k o a.me.setting a.me.seat w) q
      → HasTired k o x (IsLeftWaiting k o x.setting x.seat w) q
  tired_after x w patient a q s t = let seat = s.called.went.seat in let setting = s.called.went.setting in record {
    calls = s.pauses ++ t.calls;
    called = called_then x (inside a) (outside q) s.pauses t.calls s.called t.called;
    are = record {
      pauses = s.pauses ++ t.are.pauses;
      leave = t.are.leave;
      are = ap (λ ds. s.pauses ++ ds) t.are.are ∙ sym (append_assoc s.pauses t.are.pauses (t.are.leave ∷ []));
      paused =
          paused_for_then x.setting x.seat w patient s.pauses t.are.pauses s.paused
          (rw (seat, setting) at t.are.paused);
      leaves = rw (seat, setting) at t.are.leaves;
      short = grind (arith, nat_tests, short_yet);
    };
    spent = t.spent;
    told = t.told;
  }

  -- a seat that left instead of its operation, when it had nothing more to wait for
  pub tired_inside : (x : Trail) (w : Option Guard) (a : Holder) (q : Token) → HasPausedUntil k o x w a
      → HasTired k o (inside a) (IsLeftWaiting k o a.me.setting a.me.seat None) q
      → HasTired k o x (IsLeftWaiting k o x.setting x.seat w) q
  tired_inside x w a q s t = let seat = s.called.went.seat in let setting = s.called.went.setting in record {
    calls = s.pauses ++ t.calls;
    called = called_then x (inside a) (outside q) s.pauses t.calls s.called t.called;
    are = record {
      pauses = s.pauses;
      leave = t.are.leave;
      are = ap (λ ds. s.pauses ++ ds) (t.are.are ∙ ap (λ ds. ds ++ t.are.leave ∷ []) t.are.paused);
      paused = s.paused;
      leaves = rw (seat, setting) at t.are.leaves;
      short = grind (arith, nat_tests, short_yet, less_than, needs_two);
    };
    spent = t.spent;
    told = t.told;
  }

  -- a seat that came in and was tired then, or that did not come in
  pub unready : (x : Trail) (w : Option Guard) (q : Token) → HasTired k o x (IsLeftWaiting k o x.setting x.seat w) q
      → HasTired k o x (IsUnready k o x.setting x.seat w) q
  unready x w q t = record { calls = t.calls; called = t.called; are = inr t.are; spent = t.spent; told = t.told }

  pub stayed_out : (p q : Token) (w : Option Guard) → HasStayedOut k o p q
      → HasTired k o (outside p) (IsUnready k o p.me.setting p.me.seat w) q
  stayed_out p q w t = grind (arith, nat_tests, called_none)

  -- a seat that paused, and acted
  pub acted_after : (x : Trail) (w : Option Guard) (op : Op) (reply : ℕ) (a b : Holder) → HasPausedUntil k o x w a
      → HasActed k o (inside a) None op reply b → HasActed k o x w op reply b
  acted_after x w op reply a b s t = let seat = s.called.went.seat in let setting = s.called.went.setting in record {
    pauses = s.pauses;
    act = t.act;
    called = grind (arith, nat_tests, called_then);
    paused = s.paused;
    acts = rw (seat, setting) at t.acts;
    last = t.last;
    floor = rw setting at t.floor;
  }

  -- a hasty seat that looked, and acted
  pub acted_looked : (x : Trail) (cond pred : ℕ) (op : Op) (reply : ℕ) (a b : Holder) → Promises o pred op
      → HasLooked k o x cond pred a → HasActed k o (inside a) None op reply b
      → reply ≡ o.reply (data_of (monitor_of k o a.floor) a.floor.history) op
      → HasActedInHaste k o x cond pred op reply b
  unfolding acted_after
  acted_looked x cond pred op reply a b promise s t replied = record {
    acted = acted_after x (Some (hasty_guard cond pred)) op reply a b s.paused t;
    done = grind (arith, nat_tests, replied);
  }
