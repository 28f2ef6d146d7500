use Rattle.std.specs.Prelude.{◌≡◌, All, List, ◌∷◌, ◌++◌, vec_items}
use Rattle.std.specs.Vec.Iter.{into_iter_items}
use Rattle.monk_hall.specs.{Floors.StartsWith, Tokens.Token}
use Rattle.monk_samples.proofs.closing.meet_all.Given as goal
use Rattle.monk_samples.specs.{Crews.IsOf, Wholes.IsSame, Wholes.AreSame}

-- the passes that have met, and those still to come
abbrev pub invariant-loop-pass : goal.invariant-loop-pass
invariant-loop-pass g l = (one : Token) × (met : List Token)
    × (vec_items l.fn.passes ≡ one ∷ met ++ into_iter_items l.pass-iterator)
    × IsSame one l.first × AreSame met (vec_items l.others)
    × All (λ p. StartsWith l.first.me.seen p.me.seen) (vec_items l.others)
    × All (IsOf l.hall) (one ∷ into_iter_items l.pass-iterator)
    × All (λ p. StartsWith l.first.me.seen p.me.seen) (one ∷ met)
