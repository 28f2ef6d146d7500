-- A seat that has looked several times comes in as it would have the first time
use Rattle.std.proofs.Common.{◌≡◌, ℕ, zero, suc, false, sym, ap, ◌∙◌, List, ◌++◌, append-nil, append_assoc}
use Rattle.monk_world.specs.declared.place.Place.{Place}
use Rattle.monk_hall.specs.{Deeds.look_at, Deeds.looks_in_vain}
use Rattle.monk_hall.specs.declared.{deed.Deed.Deed, record.SeatRecord.SeatRecord}

-- one more look in vain, after the others
pub one_more : (n : ℕ) (p : Place) → looks_in_vain n p ++ look_at p false ≡ looks_in_vain (suc n) p
one_more zero p = sym (append-nil (look_at p false))
one_more (suc n) p = append_assoc (look_at p false) (looks_in_vain n p) (look_at p false)
    ∙ ap (λ (ds : List Deed). look_at p false ++ ds) (one_more n p)

-- a seat that has looked n times in vain looks once more in vain
pub looks_again : (r w v : SeatRecord) (n : ℕ) → w ≡ record r { did = r.did ++ looks_in_vain n r.place }
    → v ≡ record w { did = w.did ++ look_at w.place false }
    → v ≡ record r { did = r.did ++ looks_in_vain (suc n) r.place }
looks_again r w v n is more = more
    ∙ ap (λ (x : SeatRecord). let y : SeatRecord = record x { did = x.did ++ look_at x.place false } in y) is
    ∙ (λ i. record r {
      did = (append_assoc r.did (looks_in_vain n r.place) (look_at r.place false)
          ∙ ap (λ (ds : List Deed). r.did ++ ds) (one_more n r.place)) i;
    })
