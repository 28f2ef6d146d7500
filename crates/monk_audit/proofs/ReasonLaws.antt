-- Reasons and their numbers
use Rattle.std.proofs.Common.{◌≡◌, ◌≢◌, ◌∙◌, ℕ, Bool, not, cond, List, Option, Some, None, ap, sym, arith}
use Rattle.std.proofs.lemmas.Bool.Decides.{nat_tests}
use Rattle.monk_audit.specs.{Reasons.number_of, Reasons.number_or_0, Reasons.numbered, declared.reason.Reason.Reason}
use Rattle.monk_history.specs.Meaning.{Legal.IsFirstFault, Monitor.Monitor, Reasons.reason_in, Situation.Situation}
use Rattle.monk_history.specs.declared.event.Event.{Event}

-- no reason has the number 0
pub some_number : (r : Reason) → number_of r ≢ 0
some_number r = grind (arith, nat_tests)

-- if the number is 0, there is no reason
pub none_by_number : (r : Option Reason) → number_or_0 r ≡ 0 → r ≡ None
none_by_number r z = grind (arith, nat_tests)

-- the number of a reason that was found is the number of the event's first reason, and not 0
pub number_found : (r : Option Reason) (reason : Reason) (n v : ℕ) → number_or_0 r ≡ v → r ≡ Some reason
    → n ≡ number_of reason → n ≡ v
number_found r reason n v a is b = b ∙ (sym (ap number_or_0 is) ∙ a)

pub number_there : (reason : Reason) (n : ℕ) → n ≡ number_of reason → n ≢ 0
number_there reason n b = λ z. some_number reason (sym b ∙ z)

-- the number of the first of six tests that fails, or 0
abbrev first_failed : Bool → Bool → Bool → Bool → Bool → Bool → ℕ
first_failed a b c d e f =
    cond (not a) 1 (cond (not b) 2 (cond (not c) 3 (cond (not d) 4 (cond (not e) 5 (cond (not f) 6 0)))))

six_again : (a b c d e f : Bool) → first_failed a b c d e f ≢ 0
    → number_of (numbered (first_failed a b c d e f)) ≡ first_failed a b c d e f
six_again a b c d e f some = grind (arith, nat_tests)

numbered_again : (m : Monitor) (t : Situation) (e : Event) → reason_in m t e ≢ 0
    → number_of (numbered (reason_in m t e)) ≡ reason_in m t e
unfolding reason_in
numbered_again m t e some = omega (arith, six_again)

-- the number of a first fault's reason says which reason it is
pub fault_again : (m : Monitor) (h : List Event) (step reason : ℕ) → IsFirstFault m h step reason
    → number_of (numbered reason) ≡ reason
fault_again m h step reason f = grind (arith, nat_tests, numbered_again)
