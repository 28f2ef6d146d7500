-- Queues with nobody in them
use Rattle.std.proofs.Common.{◌≡◌, ℕ, zero, suc, List, [], ◌∷◌, map, refl, ap, ◌∙◌, arith, length}
use Rattle.std.proofs.lemmas.Bool.Decides.{nat_tests}
use Rattle.monk_history.specs.Meaning.Standing.{times, times_in_conditions}
use Rattle.monk_floor.proofs.LinkLaws.Chains.{queue_is}
use Rattle.monk_floor.specs.{declared.chain.Chain.Chain, Queues.queue_at}
use Rattle.monk_floor.specs.Links.{most_queues, walk, seats_of, empty_chain, chain_at, queue_in, places, IsLinked}

abbrev empty_chains : ℕ → List Chain
empty_chains zero = []
empty_chains (suc n) = empty_chain ∷ empty_chains n

empty_at : (n c : ℕ) → chain_at (empty_chains n) c ≡ empty_chain
empty_at zero c = refl
empty_at (suc n) zero = refl
empty_at (suc n) (suc c) = empty_at n c

count_is : (n : ℕ) → length (empty_chains n) ≡ n
count_is zero = refl
count_is (suc n) = ap suc (count_is n)

pub none : (next : List ℕ) → seats_of next empty_chain ≡ []
unfolding walk
none next = refl

empty_in : (next : List ℕ) (n c : ℕ) → queue_in next (empty_chains n) c ≡ []
empty_in next n c = ap (seats_of next) (empty_at n c) ∙ none next

no_times : (n s : ℕ) (q : ℕ → List ℕ) → ((c : ℕ) → q c ≡ []) → times_in_conditions n s q ≡ 0
no_times zero s q h = refl
no_times (suc n) s q h = let here : times s (q n) ≡ 0 = ap (times s) (h n) in omega (arith, no_times n s q h, here)

no_places : (s : ℕ) (q : ℕ → List ℕ) → ((c : ℕ) → q c ≡ []) → places s q ≡ 0
unfolding places
no_places s q h = no_times most_queues s q h

none_linked : (next : List ℕ) (n : ℕ) → n ≡ most_queues → IsLinked next (empty_chains n)
none_linked next n e = grind (arith, nat_tests, count_is, empty_in, no_places)

none_shown : (next : List ℕ) (n c : ℕ) → queue_at (map (seats_of next) (empty_chains n)) c ≡ []
none_shown next n c = queue_is next (empty_chains n) _ refl c ∙ empty_in next n c

pub empty_linked : (next : List ℕ) → IsLinked next (empty_chains 11)
empty_linked next = none_linked next 11 refl

pub empty_shown : (next : List ℕ) (c : ℕ) → queue_at (map (seats_of next) (empty_chains 11)) c ≡ []
empty_shown next c = none_shown next 11 c
