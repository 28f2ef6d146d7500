-- Why seats that have all served to their end leave no history
use Rattle.std.proofs.Common.{◌≡◌, ◌≢◌, ℕ, inr, true, All, List, [], ◌∷◌, ◌++◌, subst, ◌∙◌, arith}
use Rattle.std.proofs.lemmas.List.Elements.{All-cons, All-head, All-nil, All-tail}
use Rattle.monk_kinds.specs.declared.mode.Rules.{Rules}
use Rattle.monk_object.specs.Object.{Object}
use Rattle.monk_history.specs.Meaning.Counts.{events_of}
use Rattle.monk_history.specs.declared.event.{Event.Event, Event.TheVariants.Leave, Next.TheVariants.Entry}
use Rattle.monk_hall.specs.{Closing.IsBusy, Floors.StartsWith, Tokens.Holder, Tokens.Token}
use Rattle.monk_samples.proofs.{MeetLaws.by_first, MeetLaws.own_back, MeetLaws.same_back, TrailLaws.starts_then}
use Rattle.monk_samples.specs.{Trails.is_coming, declared.sample.Sample.Sample}
use Rattle.monk_samples.specs.Wholes.{AreSame, IsUnclosable, IsWhole}
use Rattle.std.proofs.lemmas.Bool.Decides.{nat_tests}

-- the history that the first seat comes in to begins with what it had seen, and so with what all had seen that it met
pub active_begins : (at seen before own : List Event) (e : Event) (ps : List Token) → at ≡ seen ++ e ∷ []
    → StartsWith seen before → before ≡ own → All (λ p. StartsWith own p.me.seen) ps
    → All (λ p. StartsWith at p.me.seen) ps
active_begins at seen before own e ps came starts same all k d near =
    let first : StartsWith at seen = (e ∷ [], came) in
    starts_then _ own at (all k d near) (subst (λ xs. StartsWith at xs) same (starts_then before seen at starts first))

all_back : (ps qs : List Token) → AreSame ps qs → AreSame qs ps
all_back [] [] s = s
all_back [] (q ∷ qs) s = absurd s
all_back (p ∷ ps) [] s = absurd s
all_back (p ∷ ps) (q ∷ qs) s = (same_back p q s.0, all_back ps qs s.1)

seats_back : (n : ℕ) (ps qs : List Token) → AreSame ps qs → All (λ q. q.me.seat ≢ n) qs → All (λ p. p.me.seat ≢ n) ps
seats_back n [] [] s differ = All-nil (λ p. p.me.seat ≢ n)
seats_back n [] (q ∷ qs) s differ = absurd s
seats_back n (p ∷ ps) [] s differ = absurd s
seats_back n (p ∷ ps) (q ∷ qs) s differ =
    All-cons (λ p. p.me.seat ≢ n) p ps (λ e. All-head (λ r. r.me.seat ≢ n) q qs differ (s.0.seat ∙ e))
    (seats_back n ps qs s.1 (All-tail (λ r. r.me.seat ≢ n) q qs differ))

-- a history is whole for passes that have met if it was whole for them before
still_whole : (sample : Sample) (h : List Event) (p q : Token) (ps qs : List Token) → AreSame (p ∷ ps) (q ∷ qs)
    → IsWhole sample h p.me.seat ps → IsWhole sample h q.me.seat qs
still_whole sample h p q ps qs same whole = grind (arith, nat_tests, own_back, all_back, seats_back)

-- a borrowed history
pub whole_here : (sample : Sample) (h g : List Event) (s seat : ℕ) (qs rs : List Token) → g ≡ h → s ≡ seat → rs ≡ qs
    → IsWhole sample g s rs → IsWhole sample h seat qs
whole_here sample h g s seat qs rs same here those whole = grind (arith, nat_tests)

module _ (k : Rules) (o : Object) (sample : Sample) where
  -- somebody was in the hall, or at its entry
  pub crowded : (ps : List Token) (q : Token) (qs : List Token) (a b : Holder) (e : Event) → AreSame ps (q ∷ qs)
      → is_coming e ≡ true → a.me.seat ≡ q.me.seat → a.me.mine ≡ q.me.mine ++ e ∷ []
      → All (λ p. StartsWith a.floor.history p.me.seen) ps → IsBusy k o a b → IsUnclosable k o sample ps
  crowded [] q qs a b e same comes seat mine seen busy = absurd same
  crowded (p ∷ ps) q qs a b e same comes seat mine seen busy = grind (arith, nat_tests)

  -- the history was not whole
  pub torn : (h before : List Event) (e : Event) (ps : List Token) (q : Token) (qs : List Token)
      → AreSame ps (q ∷ qs) → is_coming e ≡ true → h ≡ before ++ e ∷ Leave q.me.seat Entry ∷ []
      → events_of h q.me.seat ≡ q.me.mine ++ e ∷ Leave q.me.seat Entry ∷ []
      → All (λ p. StartsWith h p.me.seen) ps → (IsWhole sample h q.me.seat qs → ⊥) → IsUnclosable k o sample ps
  torn h before e [] q qs same comes ends own seen not_whole = absurd same
  torn h before e (p ∷ ps) q qs same comes ends own seen not_whole = inr (record {
    history = h;
    closed = by_first h before e p q same.0 comes ends own;
    seen = seen;
    torn = λ whole. not_whole (still_whole sample h p q ps qs same whole);
  })
