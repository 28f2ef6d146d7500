-- What becomes of a hasty visit, try by try
use Rattle.std.proofs.Common.{◌≡◌, ◌<◌, ℕ, suc, true, false, arith, Option, Some, [], ◌∷◌, ◌++◌, append_assoc}
use Rattle.std.proofs.Common.{refl, ap, ◌∙◌}
use Rattle.monk_kinds.specs.declared.mode.Rules.{Rules}
use Rattle.monk_object.specs.Object.{Object}
use Rattle.monk_history.specs.Meaning.Events.{has_conditions}
use Rattle.monk_history.specs.declared.event.{Event.TheVariants.Leave, Next.TheVariants.Stay}
use Rattle.monk_hall.specs.Tokens.{Token, Holder}
use Rattle.monk_samples.proofs.TrailLaws.{called_then}
use Rattle.monk_samples.specs.Asked.{IsCall}
use Rattle.monk_samples.specs.Visits.{Guard, Plan, HasActed, HasLooked, HasMissed, HasPausedUntil, HasTired}
use Rattle.monk_samples.specs.Visits.{IsLeftWaiting, IsMiss, hasty_guard, wish_in}
use Rattle.monk_samples.specs.Trails.{Addition, Trail, HasCalled, inside, outside}
use Rattle.std.proofs.lemmas.Bool.Decides.{nat_tests}

-- only under a kind with conditions an operation is refused
pub signalled : (k : Rules) (reply : ℕ) → reply ≡ 0 → (has_conditions k.mode ≡ false → 0 < reply)
    → has_conditions k.mode ≡ true
signalled k reply none done = grind (arith, nat_tests)

module _ (k : Rules) (o : Object) where
  -- what follows after the seat has come in
  pub paused_since : (x : Trail) (w : Option Guard) (a b : Holder) → HasCalled x (inside a) []
      → HasPausedUntil k o (inside a) w b
      → HasPausedUntil k o x w b
  paused_since x w a b came t = let seat = came.went.seat in let setting = came.went.setting in record {
    pauses = t.pauses;
    called = called_then x (inside a) (inside b) [] t.pauses came t.called;
    paused = rw (seat, setting) at t.paused;
  }

  pub looked_since : (x : Trail) (cond pred : ℕ) (a b : Holder) → HasCalled x (inside a) []
      → HasLooked k o (inside a) cond pred b → HasLooked k o x cond pred b
  unfolding paused_since
  looked_since x cond pred a b came t =
      record { paused = paused_since x (Some (hasty_guard cond pred)) a b came t.paused; found = t.found }

  pub tired_since : (x : Trail) (w : Option Guard) (a : Holder) (q : Token) → HasCalled x (inside a) []
      → HasTired k o (inside a) (IsLeftWaiting k o a.me.setting a.me.seat w) q
      → HasTired k o x (IsLeftWaiting k o x.setting x.seat w) q
  tired_since x w a q came t = let seat = came.went.seat in let setting = came.went.setting in record {
    calls = t.calls;
    called = called_then x (inside a) (outside q) [] t.calls came t.called;
    are = rw (seat, setting) at t.are;
    spent = t.spent;
    told = t.told;
  }

  -- a try whose operation was refused, and then a leave
  pub missed_once : (p : Token) (v : Plan) (a : Holder) (q : Token) (s : HasActed k o (outside p) v.guard v.op 0 a)
      → (s.pauses ≡ [] → ⊥)
      → ((d : Addition) × HasCalled (inside a) (outside q) (d ∷ [])
      × IsCall k o (wish_in v.guard) a.me.setting (Leave a.me.seat Stay) d
      × (d.before ≡ a.floor.history)) → has_conditions k.mode ≡ true
      → HasMissed k o p v 1 q
  missed_once p v a q s woken one signalled =
      let seat = s.called.went.seat in let setting = s.called.went.setting in record {
        calls = (s.pauses ++ s.act ∷ []) ++ one.0 ∷ [];
        called = called_then (outside p) (inside a) (outside q) (s.pauses ++ s.act ∷ []) (one.0 ∷ []) s.called one.1;
        are = record {
          first = [];
          rest = (s.pauses ++ s.act ∷ []) ++ one.0 ∷ [];
          are = refl;
          is_first = refl;
          is_rest = record {
            pauses = s.pauses;
            act = s.act;
            leave = one.0;
            are = append_assoc s.pauses (s.act ∷ []) (one.0 ∷ []);
            paused = s.paused;
            acts = s.acts;
            leaves = rw (seat, setting) at one.2;
            woken = woken;
            signalled = signalled;
          };
        };
      }

  -- and once more
  pub missed_then : (p m q : Token) (v : Plan) (n : ℕ) → HasMissed k o p v n m → HasMissed k o m v 1 q
      → HasMissed k o p v (suc n) q
  missed_then p m q v n s t =
      let seat = s.called.went.seat in let setting = s.called.went.setting in let last = t.are in
      let same = last.are ∙ ap (λ ds. ds ++ last.rest) last.is_first in
      let miss : IsMiss k o m.me.setting m.me.seat v t.calls = grind (arith, nat_tests) in
      record {
        calls = s.calls ++ t.calls;
        called = called_then (outside p) (outside m) (outside q) s.calls t.calls s.called t.called;
        are = record {
          first = s.calls;
          rest = t.calls;
          are = refl;
          is_first = s.are;
          is_rest = rw (seat, setting) at miss;
        };
      }
