-- What a write to the places shows
use Rattle.std.proofs.Common.{◌≡◌, ℕ, ◌<◌, ◌==◌, Bool, true, false, List, Option, None, ◌∷◌, length, get_or, refl, if◌then◌else◌}
use Rattle.std.proofs.{lemmas.Bool.eqb-true, lemmas.Bool.eq-eqb, lemmas.Bool.false≢true, lemmas.Bool.Decides.nat_tests}
use Rattle.std.proofs.{lemmas.List.get_or-set_same, lemmas.List.get_or-set_other, Common.arith, Common.rules}
use Rattle.std.proofs.Math.ListN.{set, length-set}
use Rattle.monk_object.specs.Object.{Object}
use Rattle.monk_judge.specs.{Run.run_out, Run.with_place, Shown.Shown, Shown.setting_of, Shown.shown, Shown.state_of}
use Rattle.monk_judge.specs.Judged.{after_all, running_out}
use Rattle.monk_judge.specs.declared.{wait_end.WaitEnd.WaitEnd, step.Step.TheVariants.Tells}
use Rattle.monk_judge.specs.declared.place.Place.{Place, TheVariants.Outside, TheVariants.Waiting, TheVariants.RanOut}
use Rattle.monk_logs.specs.declared.text.line.LogLine.TheVariants.{Wait}

pub ext : (f g : ℕ → Place) → ((j : ℕ) → f j ≡ g j) → f ≡ g
ext f g h = λ i. λ j. h j i

set_by : (places : List Place) (s j : ℕ) (p : Place) (b : Bool) → (j == s) ≡ b → s < length places
    → get_or (set places s p) j Outside ≡ (if b then p else get_or places j Outside)
set_by places s j p b e lt = grind (arith, nat_tests, eqb-true, get_or-set_same, get_or-set_other, false≢true, eq-eqb)

pub places_set : (places : List Place) (s : ℕ) (p : Place) → s < length places
    → (λ j. get_or (set places s p) j Outside) ≡ with_place s p (λ j. get_or places j Outside)
places_set places s p lt = ext _ _ (λ j. set_by places s j p (j == s) refl lt)

pub state_set : (conds : ℕ) (lock : Option ℕ) (places : List Place) (ends : List WaitEnd) (d : List ℕ) (s : ℕ)
    (p : Place) → s < length places
    → state_of (shown conds lock (set places s p) ends d)
    ≡ record { lock = lock; place = with_place s p (λ j. get_or places j Outside); data_now = d }
state_set conds lock places ends d s p lt = search (rules, places_set)

pub setting_set : (conds : ℕ) (lock : Option ℕ) (places : List Place) (ends : List WaitEnd) (d : List ℕ) (s : ℕ)
    (p : Place) (o : Object)
    (was : Option ℕ) (old : List WaitEnd) (old_d : List ℕ)
    → setting_of (shown conds lock (set places s p) ends d) o ≡ setting_of (shown conds was places old old_d) o
setting_set conds lock places ends d s p o was old old_d = grind (arith, nat_tests, length-set)

-- a wait that runs out at once
out_by : (s c j : ℕ) (f : ℕ → Place) (b : Bool) → (j == s) ≡ b
    → (if b then RanOut c else f j) ≡ (if b then run_out (with_place s (Waiting c) f s) else if b then Waiting c else
    f j)
out_by s c j f b e = grind (arith, nat_tests)

pub ran_out_state : (v : Shown) (o : Object) (s c : ℕ) (ends : List WaitEnd) → s < length v.places
    → state_of (shown v.conds None (set v.places s (RanOut c)) ends v.data_now)
    ≡ after_all (setting_of v o) (state_of v) (Tells (Wait s c) None ∷ running_out s true)
ran_out_state v o s c ends lt = search (rules, places_set, ext, out_by)

pub ran_out_setting : (v : Shown) (o : Object) (s c : ℕ) (ends : List WaitEnd)
    → setting_of (shown v.conds None (set v.places s (RanOut c)) ends v.data_now) o ≡ setting_of v o
ran_out_setting v o s c ends = λ i. record { seats = length-set v.places s (RanOut c) i; conds = v.conds; object = o }
