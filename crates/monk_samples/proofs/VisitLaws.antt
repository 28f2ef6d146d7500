-- What becomes of a member's visit
use Rattle.std.proofs.Common.{◌≡◌, ℕ, Bool, true, false, cond, Option, Some, None, List, [], ◌∷◌, ◌++◌, arith}
use Rattle.std.proofs.Common.{refl, sym, ap, subst, ◌∙◌, inl, inr}
use Rattle.std.proofs.lemmas.{Grind.flat_map-append, List.map-append, Bool.Decides.nat_tests}
use Rattle.std.proofs.Common.{append-nil, append_assoc}
use Rattle.monk_kinds.specs.declared.mode.{Pick.Pick, Pick.TheVariants.Waiter, Rules.Rules}
use Rattle.monk_object.specs.{Object.Object, declared.op.Op.Op}
use Rattle.monk_history.specs.Meaning.{Acts.act_of, Acts.acts_in, Release.with_next, Events.has_conditions}
use Rattle.monk_history.specs.declared.event.Next.TheVariants.{Stay}
use Rattle.monk_history.specs.declared.event.Event.{Event, TheVariants.Leave, TheVariants.Wait, TheVariants.Until}
use Rattle.monk_hall.specs.{Tokens.Token, Tokens.Holder, declared.setting.Setting.Setting}
use Rattle.monk_samples.proofs.{ShortLaws.short_out, TrailLaws.called_none, TrailLaws.called_then}
use Rattle.monk_samples.specs.Visits.{Guard, Plan, ArePauses, HasPausedFor, IsCertain, AreMisses, HasMissed, HasTried}
use Rattle.monk_samples.specs.Visits.{IsTried, IsVisitTo, Misses, MissesIn, wish_in, wish_of, IsUnready, AreVisits}
use Rattle.monk_samples.specs.Visits.{HasVisited, HasTired, HasActed, WayOut, Signals, calls_out}
use Rattle.monk_samples.specs.Trails.{Addition, Trail, events_in, inside, outside}
use Rattle.monk_samples.specs.Styles.{HasFinished, HasGoneOut, pause_call, way_out}
use Rattle.monk_samples.specs.declared.end.End.{End, TheVariants.Done, TheVariants.Tired, TheVariants.Late}
use Rattle.monk_samples.specs.declared.manner.Manner.{Manner, TheVariants.Patient, TheVariants.Hasty}
use Rattle.monk_samples.specs.Asked.{AreCalls, IsCall}

module _ (k : Rules) (o : Object) where
  -- a call that does no operation leaves none
  next_acts : (e : Event) → act_of (with_next Stay e) ≡ act_of e
  next_acts e = grind (arith, nat_tests)

  call_acts : (u : Pick) (c : Setting) (e : Event) (d : Addition) → IsCall k o u c e d → act_of d.event ≡ act_of e
  call_acts u c e d is = sym (next_acts d.event) ∙ ap act_of is.asks

  pub calls_acts : (u : Pick) (c : Setting) (es : List Event) (ds : List Addition) → AreCalls k o u c es ds
      → acts_in (events_in ds) ≡ acts_in es
  calls_acts u c [] [] are = refl
  calls_acts u c [] (d ∷ ds) are = absurd are
  calls_acts u c (e ∷ es) [] are = absurd are
  calls_acts u c (e ∷ es) (d ∷ ds) are = (λ i. call_acts u c e d are.0 i ++ calls_acts u c es ds are.1 i)

  pause_act : (b : Bool) (s c p : ℕ) → act_of (cond b (Wait s c Stay) (Until s p Stay)) ≡ []
  pause_act b s c p = grind (arith, nat_tests)

  pauses_acts : (c : Setting) (s : ℕ) (w : Guard) (ds : List Addition) → ArePauses k o c s w ds
      → acts_in (events_in ds) ≡ []
  pauses_acts c s w [] h = refl
  pauses_acts c s w (d ∷ ds) h =
      (λ i. (call_acts (wish_of w.manner) c (pause_call k s w.cond w.pred) d h.0
      ∙ pause_act (has_conditions k.mode) s w.cond w.pred) i
      ++ pauses_acts c s w ds h.2 i)

  pub paused_acts : (c : Setting) (s : ℕ) (w : Option Guard) (ds : List Addition) → HasPausedFor k o c s w ds
      → acts_in (events_in ds) ≡ []
  paused_acts c s w ds h = grind (arith, nat_tests, pauses_acts)

  pub calls_out_acts : (s : ℕ) (way : WayOut) → acts_in (calls_out k s way) ≡ []
  calls_out_acts s way = grind (arith, nat_tests)

  pub acts_append : (xs ys : List Addition)
      → acts_in (events_in (xs ++ ys)) ≡ acts_in (events_in xs) ++ acts_in (events_in ys)
  acts_append xs ys = grind (arith, nat_tests, map-append, flat_map-append)

  -- of the pauses, the operation and the way out, only the operation is one
  one_act : (x : Trail) (w : Option Guard) (op : Op) (reply : ℕ) (a : Holder) (s : HasActed k o x w op reply a)
      → (u : Pick) (c : Setting) (es : List Event) (made : List Addition) → AreCalls k o u c es made → acts_in es ≡ []
      → acts_in (events_in ((s.pauses ++ s.act ∷ []) ++ made)) ≡ record { op = op; reply = reply } ∷ []
  one_act x w op reply a s u c es made are none = grind (arith, nat_tests, paused_acts, acts_append, calls_acts)

  -- a way out by one condition or by the other
  pub finished_by : (b : Bool) (m n next : ℕ) (a : Holder) (q : Token) (end : End) → (b ≡ true → next ≡ m)
      → (b ≡ false → next ≡ n)
      → HasFinished k o Waiter a (way_out k a.me.seat next) q end
      → HasFinished k o Waiter a (calls_out k a.me.seat (cond b (Signals m) (Signals n))) q end
  finished_by true m n next a q end is_m is_n out =
      subst (λ (c : ℕ). HasFinished k o Waiter a (way_out k a.me.seat c) q end) (is_m refl) out
  finished_by false m n next a q end is_m is_n out =
      subst (λ (c : ℕ). HasFinished k o Waiter a (way_out k a.me.seat c) q end) (is_n refl) out

  pub finished : (u : Pick) (a : Holder) (calls : List Event) (q : Token) (end : End) → HasFinished k o u a calls q end
      → HasGoneOut k o u a calls q end
  finished u a calls q Done out = out
  finished u a calls q Tired out = out.1
  finished u a calls q Late out = out

  -- no try has missed
  pub no_miss : (w : Option Guard) → Misses w 0
  no_miss None = refl
  no_miss (Some w) = none_in w.manner
    where
      none_in : (m : Manner) → MissesIn m 0
      none_in Patient = refl
      none_in Hasty = tt

  -- the tries that missed, and a last one
  tries_to : (c : Setting) (s : ℕ) (v : Plan) (misses : ℕ) (first rest : List Addition) → Misses v.guard misses
      → AreMisses k o c s v misses first → (end : End) → IsTried k o c s v end rest
      → IsVisitTo k o c s v end (first ++ rest)
  tries_to c s v misses first rest may missed end tried = grind (arith, nat_tests)

  pub one_visit : (c : Setting) (s : ℕ) (v : Plan) (misses : ℕ) (first rest : List Addition) → Misses v.guard misses
      → AreMisses k o c s v misses first → (end : End) → IsTried k o c s v end rest
      → AreVisits k o c s end (v ∷ []) (first ++ rest)
  one_visit c s v misses first rest may missed Done tried = record {
    first = first ++ rest;
    rest = [];
    are = sym (append-nil (first ++ rest));
    is_first = tries_to c s v misses first rest may missed Done tried;
    is_rest = refl;
  }
  one_visit c s v misses first rest may missed Tired tried =
      inl (tries_to c s v misses first rest may missed Tired tried)
  one_visit c s v misses first rest may missed Late tried = absurd tried

  abbrev pub visited_by : (p m q : Token) (v : Plan) (end : End) (misses : ℕ) → Misses v.guard misses
      → HasMissed k o p v misses m
      → HasTried k o m v q end → HasVisited k o p (v ∷ []) q end
  visited_by p m q v end misses may s t = let seat = s.called.went.seat in
      let setting = s.called.went.setting in record {
        calls = s.calls ++ t.calls;
        called = called_then (outside p) (outside m) (outside q) s.calls t.calls s.called t.called;
        are = one_visit p.me.setting p.me.seat v misses s.calls t.calls may s.are end (rw (seat, setting) at t.are);
        spent = t.spent;
        told = t.told;
      }

  abbrev pub none_missed : (p : Token) (v : Plan) → HasMissed k o p v 0 p
  none_missed p v = record { calls = []; called = called_none (outside p); are = refl }

  abbrev pub visited_first : (p q : Token) (v : Plan) (end : End) → HasTried k o p v q end
      → HasVisited k o p (v ∷ []) q end
  visited_first p q v end t = visited_by p p q v end 0 (no_miss v.guard) (none_missed p v) t

  -- a try that acted and went out
  pub tried_telling : (p : Token) (v : Plan) (reply : ℕ) (a : Holder) (q : Token) (end : End)
      → HasActed k o (outside p) v.guard v.op reply a → IsCertain v.guard reply
      → HasGoneOut k o (wish_in v.guard) a (calls_out k a.me.seat (v.goes_out a.floor.history)) q end
      → (t : HasTried k o p v q end) × (acts_in (events_in t.calls) ≡ record { op = v.op; reply = reply } ∷ [])
  tried_telling p v reply a q Done s certain out = let seat = s.called.went.seat in
      let setting = s.called.went.setting in (
        record {
          calls = (s.pauses ++ s.act ∷ []) ++ out.made;
          called = called_then (outside p) (inside a) (outside q) (s.pauses ++ s.act ∷ []) out.made s.called out.called;
          are = record {
            pauses = s.pauses;
            act = s.act;
            out = out.made;
            are = append_assoc s.pauses (s.act ∷ []) out.made;
            done = record { paused = s.paused; reply = reply; acts = s.acts; certain = certain };
            goes = rw (seat, setting, s.last) at out.are;
          };
          spent = λ e. cc;
          told = out.told;
        },
        one_act (outside p) v.guard v.op reply a s (wish_in v.guard) a.me.setting
            (calls_out k a.me.seat (v.goes_out a.floor.history))
            out.made out.are (calls_out_acts a.me.seat (v.goes_out a.floor.history)),
      )
  tried_telling p v reply a q Tired s certain out =
      let seat = s.called.went.seat in let setting = s.called.went.setting in let d = out.leave in (
        record {
          calls = (s.pauses ++ s.act ∷ []) ++ d ∷ [];
          called = called_then (outside p) (inside a) (outside q) (s.pauses ++ s.act ∷ []) (d ∷ []) s.called out.called;
          are = inr record {
            pauses = s.pauses;
            act = s.act;
            leave = d;
            are = append_assoc s.pauses (s.act ∷ []) (d ∷ []);
            done = record { paused = s.paused; reply = reply; acts = s.acts; certain = certain };
            leaves = rw (seat, setting) at out.is;
            short = grind (arith, nat_tests, short_out);
          };
          spent = λ e. out.spent;
          told = out.told;
        },
        one_act (outside p) v.guard v.op reply a s Waiter a.me.setting (Leave a.me.seat Stay ∷ []) (d ∷ [])
            (out.is, tt) refl,
      )
  tried_telling p v reply a q Late s certain out = absurd out

  pub tried_in : (p : Token) (v : Plan) (reply : ℕ) (a : Holder) (q : Token) (end : End)
      → HasActed k o (outside p) v.guard v.op reply a → IsCertain v.guard reply
      → HasFinished k o (wish_in v.guard) a (calls_out k a.me.seat (v.goes_out a.floor.history)) q end
      → HasTried k o p v q end
  tried_in p v reply a q end s certain out = (tried_telling p v reply a q end s certain
      (finished (wish_in v.guard) a (calls_out k a.me.seat (v.goes_out a.floor.history)) q end out)).0

  -- a visit that acted and went out
  gone_telling : (p : Token) (v : Plan) (reply : ℕ) (a : Holder) (q : Token) (end : End)
      → HasActed k o (outside p) v.guard v.op reply a → IsCertain v.guard reply
      → HasGoneOut k o (wish_in v.guard) a (calls_out k a.me.seat (v.goes_out a.floor.history)) q end
      → (visit : HasVisited k o p (v ∷ []) q end)
      × (acts_in (events_in visit.calls) ≡ record { op = v.op; reply = reply } ∷ [])
  gone_telling p v reply a q end s certain out =
      let t = tried_telling p v reply a q end s certain out in (visited_first p q v end t.0, t.1)

  pub visited_telling : (p : Token) (v : Plan) (reply : ℕ) (a : Holder) (q : Token) (end : End)
      → HasActed k o (outside p) v.guard v.op reply a → IsCertain v.guard reply
      → HasFinished k o (wish_in v.guard) a (calls_out k a.me.seat (v.goes_out a.floor.history)) q end
      → (visit : HasVisited k o p (v ∷ []) q end)
      × (acts_in (events_in visit.calls) ≡ record { op = v.op; reply = reply } ∷ [])
  visited_telling p v reply a q end s certain out =
      gone_telling p v reply a q end s certain
      (finished (wish_in v.guard) a (calls_out k a.me.seat (v.goes_out a.floor.history)) q end out)

  pub visited_out : (p : Token) (v : Plan) (reply : ℕ) (a : Holder) (q : Token) (end : End)
      → HasActed k o (outside p) v.guard v.op reply a → IsCertain v.guard reply
      → HasGoneOut k o (wish_in v.guard) a (calls_out k a.me.seat (v.goes_out a.floor.history)) q end
      → HasVisited k o p (v ∷ []) q end
  visited_out p v reply a q end s certain out = (gone_telling p v reply a q end s certain out).0

  pub visited : (p : Token) (v : Plan) (reply : ℕ) (a : Holder) (q : Token) (end : End)
      → HasActed k o (outside p) v.guard v.op reply a → IsCertain v.guard reply
      → HasFinished k o (wish_in v.guard) a (calls_out k a.me.seat (v.goes_out a.floor.history)) q end
      → HasVisited k o p (v ∷ []) q end
  visited p v reply a q end s certain out = (visited_telling p v reply a q end s certain out).0

  -- a try that was cut short before it acted, and a visit that was
  abbrev pub untried : (p : Token) (v : Plan) (q : Token)
      → HasTired k o (outside p) (IsUnready k o p.me.setting p.me.seat v.guard) q
      → HasTried k o p v q Tired
  untried p v q t = record { calls = t.calls; called = t.called; are = inl t.are; spent = λ e. t.spent; told = t.told }

  abbrev pub tired : (p : Token) (v : Plan) (q : Token)
      → HasTired k o (outside p) (IsUnready k o p.me.setting p.me.seat v.guard) q
      → HasVisited k o p (v ∷ []) q Tired
  tired p v q t = visited_first p q v Tired (untried p v q t)

  -- it did no operation
  pub tired_tells : (p : Token) (v : Plan) (q : Token)
      → (t : HasTired k o (outside p) (IsUnready k o p.me.setting p.me.seat v.guard) q)
      → acts_in (events_in t.calls) ≡ []
  tired_tells p v q t = grind (arith, nat_tests, acts_append, paused_acts, calls_acts)

  -- two visits, of which the first was done
  pub visited_twice : (p q r : Token) (end : End) (v w : Plan) → HasVisited k o p (v ∷ []) q Done
      → HasVisited k o q (w ∷ []) r end → HasVisited k o p (v ∷ w ∷ []) r end
  visited_twice p q r Late v w s t = absurd t.are
  visited_twice p q r Done v w s t = let seat = s.called.went.seat in let setting = s.called.went.setting in record {
    calls = s.calls ++ t.calls;
    called = called_then (outside p) (outside q) (outside r) s.calls t.calls s.called t.called;
    are = record {
      first = s.are.first;
      rest = t.calls;
      are = ap (λ ds. ds ++ t.calls) (s.are.are ∙ ap (λ ds. s.are.first ++ ds) s.are.is_rest ∙ append-nil s.are.first);
      is_first = s.are.is_first;
      is_rest = rw (seat, setting) at t.are;
    };
    spent = t.spent;
    told = t.told;
  }
  visited_twice p q r Tired v w s t = let seat = s.called.went.seat in let setting = s.called.went.setting in record {
    calls = s.calls ++ t.calls;
    called = called_then (outside p) (outside q) (outside r) s.calls t.calls s.called t.called;
    are = inr record {
      first = s.are.first;
      rest = t.calls;
      are = ap (λ ds. ds ++ t.calls) (s.are.are ∙ ap (λ ds. s.are.first ++ ds) s.are.is_rest ∙ append-nil s.are.first);
      is_first = s.are.is_first;
      is_rest = rw (seat, setting) at t.are;
    };
    spent = t.spent;
    told = t.told;
  }
