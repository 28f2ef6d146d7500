-- Where lines lead
use Rattle.std.proofs.Common.{arith, ◌≡◌, List, [], ◌∷◌, ◌++◌, refl}
use Rattle.std.{specs.Prelude.Result, specs.Prelude.Ok, specs.Prelude.Err, proofs.lemmas.Bool.Decides.nat_tests}
use Rattle.monk_history.specs.Meaning.Monitor.{Monitor}
use Rattle.monk_logs.specs.declared.text.line.LogLine.{LogLine}
use Rattle.monk_completion.specs.{Stand.Stand, Stand.line_over, Stand.opening_stand, declared.blame.Blame.Blame}

-- the stand after the lines to come, or the reason against one of them, from there on
unfoldable pub lead : Monitor → Result Stand Blame → List LogLine → Result Stand Blame
lead m (Err why) log = Err why
lead m (Ok s) [] = Ok s
lead m (Ok s) (l ∷ log) = lead m (line_over m s l) log

-- the same for a whole log
abbrev pub lead_all : Monitor → List LogLine → Result Stand Blame
lead_all m log = lead m (Ok (opening_stand m)) log

pub lead_none : (m : Monitor) (r : Result Stand Blame) → lead m r [] ≡ r
unfolding lead
lead_none m r = grind arith

pub lead_err : (m : Monitor) (why : Blame) (log : List LogLine) → lead m (Err why) log ≡ Err why
unfolding lead
lead_err m why log = refl

pub lead_more : (m : Monitor) (s : Stand) (l : LogLine) (log : List LogLine)
    → lead m (Ok s) (l ∷ log) ≡ lead m (line_over m s l) log
unfolding lead
lead_more m s l log = refl

pub lead-append : (m : Monitor) (r : Result Stand Blame) (xs ys : List LogLine)
    → lead m r (xs ++ ys) ≡ lead m (lead m r xs) ys
unfolding lead
lead-append m (Err why) xs ys = refl
lead-append m (Ok s) [] ys = refl
lead-append m (Ok s) (l ∷ xs) ys = lead-append m (line_over m s l) xs ys

-- one line more
pub lead_push : (m : Monitor) (front : List LogLine) (s : Stand) (l : LogLine) → lead_all m front ≡ Ok s
    → lead_all m (front ++ l ∷ []) ≡ line_over m s l
lead_push m front s l is = grind (arith, nat_tests, lead-append, lead, lead_more, lead_none)
