-- What the seats of the table know: views, each a list of records
use Rattle.std.specs.Prelude.{◌≡◌, ◌≢◌, ℕ, zero, suc, ◌⊎◌, false, List, [], ◌∷◌}
use Rattle.monk_world.specs.declared.place.Place.TheVariants.{Idle}
use Rattle.monk_hall.specs.declared.{record.SeatRecord.SeatRecord, setting.Setting.Setting}

-- what the holder of a view knows of the seats
abbrev pub View : Type 0
View = List SeatRecord

-- the record is in the view
abbrev pub In : SeatRecord → View → Type 0
In r [] = ⊥
In r (x ∷ xs) = (r ≡ x) ⊎ In r xs

-- no two of its records are of one seat
abbrev pub Distinct : View → Type 0
Distinct [] = Unit {0}
Distinct (x ∷ xs) = ((y : SeatRecord) → In y xs → y.seat ≢ x.seat) × Distinct xs

-- a seat before any step
abbrev pub opening_record : Setting → ℕ → SeatRecord
opening_record c j =
    record { seat = j; setting = c; place = Idle; count = 0; known = false; seen = []; mine = []; did = [] }

-- the records of n seats from i on
abbrev pub opening_records : Setting → ℕ → ℕ → View
opening_records c zero i = []
opening_records c (suc n) i = opening_record c i ∷ opening_records c n (suc i)

-- the view with which a hall opens
abbrev pub first_view : Setting → View
first_view c = opening_records c c.seats 0

-- a setting that no hall has
abbrev pub no_setting : Setting
no_setting = record { opening = []; seats = 0; conds = 0; budget = 0 }

-- the first record of a view; a blank one if there is none
abbrev pub the : View → SeatRecord
the [] = opening_record no_setting 0
the (r ∷ rs) = r

-- the view has one record
abbrev pub IsOne : View → Type 0
IsOne v = v ≡ the v ∷ []

-- the view's first record, if it has one
abbrev pub head : View → View
head [] = []
head (r ∷ rs) = r ∷ []

-- the view without its first record
abbrev pub tail : View → View
tail [] = []
tail (r ∷ rs) = rs
