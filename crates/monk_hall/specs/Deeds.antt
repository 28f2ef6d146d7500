-- What a seat does at the table, and what follows from it
use Rattle.std.specs.Prelude.{ℕ, zero, suc, Bool, false, List, [], ◌∷◌, ◌++◌, length, nat_le, sum_by}
use Rattle.monk_history.specs.declared.event.Event.{Event}
use Rattle.monk_world.specs.declared.place.Place.{Place, TheVariants.Ticket, TheVariants.Inner}
use Rattle.monk_hall.specs.declared.deed.Deed.{Deed}
use Rattle.monk_hall.specs.declared.deed.Deed.TheVariants.{LookForTicket, LookForCall, Peek, FloorOut, FloorIn}

-- the events that a deed takes home
abbrev pub brings : Deed → List Event
brings (FloorIn es) = es
brings _ = []

-- all events that these deeds take home, in order
abbrev pub brought_home : List Deed → List Event
brought_home [] = []
brought_home (d ∷ ds) = brings d ++ brought_home ds

-- whether a seat knows of somebody at the entry after a deed: by its last look since the floor came to it
abbrev pub knows_after : Bool → Deed → Bool
knows_after b (Peek n) = nat_le 2 n
knows_after b FloorOut = false
knows_after b _ = b

-- whether it knows of somebody after these deeds, in order
abbrev pub knows_from : Bool → List Deed → Bool
knows_from b [] = b
knows_from b (d ∷ ds) = knows_from (knows_after b d) ds

-- whether a seat that has done this, and nothing else, knows of somebody at the entry
abbrev pub knows : List Deed → Bool
knows ds = knows_from false ds

-- 1 for a look at a word that others write, and else 0
abbrev pub looks_in : Deed → ℕ
looks_in (LookForTicket found) = 1
looks_in (LookForCall found) = 1
looks_in (Peek n) = 1
looks_in _ = 0

-- how many looks these deeds are
abbrev pub looks_of : List Deed → ℕ
looks_of ds = sum_by looks_in ds

-- how many steps of the table these deeds are
abbrev pub steps_of : List Deed → ℕ
steps_of ds = length ds

-- the look of a seat that waits at this place. It finds its grant or not. A seat that is due needs no look
abbrev pub look_at : Place → Bool → List Deed
look_at (Ticket t) found = LookForTicket found ∷ []
look_at Inner found = LookForCall found ∷ []
look_at _ found = []

-- n looks that found nothing
abbrev pub looks_in_vain : ℕ → Place → List Deed
looks_in_vain zero p = []
looks_in_vain (suc n) p = look_at p false ++ looks_in_vain n p
