-- How the ends of workers add up
use Rattle.std.proofs.Common.{◌≡◌, ℕ, Bool, All, Option, Some, None, List, [], ◌∷◌, ◌++◌, refl, sym, ap, subst, ◌∙◌}
use Rattle.std.proofs.Common.{append_assoc, append-nil}
use Rattle.std.proofs.lemmas.List.Elements.{All-cons, All-nil}
use Rattle.std.specs.Prelude.{Result, Ok, Err, IsErr, IsErrAnd, IfErr, IfSome, option_to_list}
use Rattle.monk_kinds.specs.declared.mode.Rules.{Rules}
use Rattle.monk_object.specs.Object.{Object}
use Rattle.monk_hall.specs.{Tokens.House, Tokens.Token, declared.setting.Setting.Setting}
use Rattle.monk_samples.specs.declared.crew_fault.CrewFault.TheVariants as crew
use Rattle.monk_samples.proofs.RoundLaws.{no_round}
use Rattle.monk_samples.specs.{Crews.IsOf, Crews.IsReady, Faults.fault_after}
use Rattle.monk_samples.specs.Ends.{HaveServed, HasEndedFirst, IsFaultOfCrew, IsWantOfRoom}
use Rattle.monk_samples.specs.Rounds.{HasDoneRounds, HasServed, HasServedToEnd, round_of, rounds_of}
use Rattle.monk_samples.specs.declared.{crew_fault.CrewFault.CrewFault, scenario.Scenario.Scenario}
use Rattle.monk_samples.specs.declared.end.End.{End, TheVariants.Done, TheVariants.Tired, TheVariants.Late}

module _ (k : Rules) (o : Object) (answers : ℕ → ℕ → Bool → Type 0) (scenario : Scenario) (seats rounds : ℕ) where
  abbrev Served : House → List Token → List Token → Type 0
  Served = HaveServed k o answers scenario seats rounds

  abbrev EndedFirst : List Token → End → Type 0
  EndedFirst = HasEndedFirst k o answers scenario seats rounds

  abbrev Faulted : List Token → CrewFault → Type 0
  Faulted = IsFaultOfCrew k o answers scenario seats rounds

  -- some, and then others
  pub served_then : (h : House) (ps qs more back : List Token) → Served h ps qs → Served h more back
      → Served h (ps ++ more) (qs ++ back)
  served_then h [] [] more back s t = t
  served_then h [] (q ∷ qs) more back s t = absurd s
  served_then h (p ∷ ps) [] more back s t = absurd s
  served_then h (p ∷ ps) (q ∷ qs) more back s t = (s.0, served_then h ps qs more back s.1 t)

  -- each to its end
  pub to_end : (h : House) (ps qs : List Token) → Served h ps qs
      → All (HasServedToEnd k o answers scenario seats rounds) ps
  to_end h [] qs s = All-nil (HasServedToEnd k o answers scenario seats rounds)
  to_end h (p ∷ ps) [] s = absurd s
  to_end h (p ∷ ps) (q ∷ qs) s =
      All-cons (HasServedToEnd k o answers scenario seats rounds) p ps (q, s.0.1) (to_end h ps qs s.1)

  ended_then : (ps more : List Token) (end : End) → EndedFirst ps end → EndedFirst (ps ++ more) end
  ended_then ps more end s = record {
    before = s.before;
    seat = s.seat;
    rest = s.rest ++ more;
    are = ap (λ xs. xs ++ more) s.are ∙ append_assoc s.before (s.seat ∷ s.rest) more;
    served = s.served;
    last = s.last;
    ended = s.ended;
  }

  -- a fault stays, whoever comes after
  pub fault_then : (ps more : List Token) (fault : CrewFault) → Faulted ps fault → Faulted (ps ++ more) fault
  fault_then ps more crew.Memory s = s
  fault_then ps more crew.Thread s = s
  fault_then ps more crew.Tired s = ended_then ps more Tired s
  fault_then ps more crew.Late s = ended_then ps more Late s
  fault_then ps more crew.Busy s = s

  -- these seats have been waited for, with this fault so far
  abbrev pub HaveJoined : House → List Token → List Token → Option CrewFault → Type 0
  HaveJoined h ps qs None = Served h ps qs
  HaveJoined h ps qs (Some fault) = Faulted ps fault

  last_of : (h : House) (ps qs : List Token) (p q : Token) (end : End) → Served h ps qs
      → HasServed k o answers scenario seats rounds p q end
      → EndedFirst (ps ++ p ∷ []) end
  last_of h ps qs p q end s t = record {
    before = ps;
    seat = p;
    rest = [];
    are = refl;
    served = to_end h ps qs s;
    last = q;
    ended = t;
  }

  -- and one more
  pub joined_then : (h : House) (ps qs : List Token) (p q : Token) (end : End) (fault : Option CrewFault)
      → HaveJoined h ps qs fault
      → IsOf h q → HasServed k o answers scenario seats rounds p q end
      → HaveJoined h (ps ++ p ∷ []) (qs ++ q ∷ []) (fault_after fault end)
  joined_then h ps qs p q Done None s of t = served_then h ps qs (p ∷ []) (q ∷ []) s ((of, t), tt)
  joined_then h ps qs p q Tired None s of t = last_of h ps qs p q Tired s t
  joined_then h ps qs p q Late None s of t = last_of h ps qs p q Late s t
  joined_then h ps qs p q end (Some fault) s of t = fault_then ps (p ∷ []) fault s

  -- a seat without rounds has served
  idle_served : (p : Token) → rounds_of scenario.sample seats rounds p.me.seat ≡ 0
      → HasServed k o answers scenario seats rounds p p Done
  idle_served p none =
      subst (λ n. HasDoneRounds k o (answers p.me.seat) (round_of scenario k p.me.setting seats p.me.seat) n p p)
      (sym none) (no_round k o answers (λ (c : Setting) (s r : ℕ). round_of scenario k c seats s r) p)

  -- those who worked, and after them one who may have been idle
  pub all_served : (h : House) (ps working back all : List Token) (idle : Option Token)
      → ps ≡ working ++ option_to_list idle
      → all ≡ back ++ option_to_list idle → Served h working back → IfSome idle (IsReady k h)
      → IfSome idle (λ p. rounds_of scenario.sample seats rounds p.me.seat ≡ 0) → Served h ps all
  all_served h ps working back all None are gives s of none =
      subst (λ xs. Served h xs all) (sym (are ∙ append-nil working))
      (subst (Served h working) (sym (gives ∙ append-nil back)) s)
  all_served h ps working back all (Some p) are gives s of none =
      subst (λ xs. Served h xs all) (sym are) (subst (Served h (working ++ p ∷ [])) (sym gives)
      (served_then h working back (p ∷ []) (p ∷ []) s ((of.0, idle_served p none), tt)))

-- what holds for an error holds for the result
pub if_err : {A E : Type 0} (r : Result A E) (P Q : E → Type 0) → IsErr r × IsErrAnd r P
    → ((e : E) → P e → Q e) → IfErr r Q
if_err (Ok a) P Q s f = tt
if_err (Err e) P Q s f = f e s.1

pub is_memory : (fault : CrewFault) → fault ≡ crew.Memory → IsWantOfRoom fault
is_memory fault e = subst IsWantOfRoom (sym e) tt
