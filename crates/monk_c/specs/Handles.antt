-- What a handle has, and what a call makes of it
use Rattle.std.specs.Prelude.{◌≡◌, ℕ, ℤ, Option, Some, None, IfSome}
use Rattle.monk_kinds.specs.declared.name.KindName.TheVariants as kind
use Rattle.monk_kinds.specs.{Names.rules_named, declared.mode.Pick.Pick, declared.name.KindName.KindName}
use Rattle.monk_c.specs.{Answers.refusal_number, Refusal.refusal_at, Taken.Answers}
use Rattle.monk_c.specs.Stands.{SeatView, Booked, booking}
use Rattle.monk_c.specs.declared.any_seat.AnySeat.{AnySeat}
use Rattle.monk_c.specs.declared.any_seat.AnySeat.TheVariants.{Empty, Pb, Npb, Pnb, Npnb, Pqb, Npqb, Pir, Npir, Pis}
use Rattle.monk_c.specs.declared.any_seat.AnySeat.TheVariants.{Npis}
use Rattle.monk_c.specs.declared.call.Call.{Call}

-- what a handle has: nothing, or a seat of a kind
abbrev pub booked : AnySeat → Option Booked
booked Empty = None
booked (Pb s) = Some (booking kind.Pb s)
booked (Npb s) = Some (booking kind.Npb s)
booked (Pnb s) = Some (booking kind.Pnb s)
booked (Npnb s) = Some (booking kind.Npnb s)
booked (Pqb s) = Some (booking kind.Pqb s)
booked (Npqb s) = Some (booking kind.Npqb s)
booked (Pir s) = Some (booking kind.Pir s)
booked (Npir s) = Some (booking kind.Npir s)
booked (Pis s) = Some (booking kind.Pis s)
booked (Npis s) = Some (booking kind.Npis s)

-- a handle's seat of that kind
abbrev pub seat_named : KindName → SeatView → AnySeat
seat_named kind.Pb s = Pb s
seat_named kind.Npb s = Npb s
seat_named kind.Pnb s = Pnb s
seat_named kind.Npnb s = Npnb s
seat_named kind.Pqb s = Pqb s
seat_named kind.Npqb s = Npqb s
seat_named kind.Pir s = Pir s
seat_named kind.Npir s = Npir s
seat_named kind.Pis s = Pis s
seat_named kind.Npis s = Npis s

-- the same for what a handle has: if a call is refused, nothing has changed
abbrev pub AnswersAt : Call → Pick → Option Booked → ℤ → ℕ → Option Booked → Type 0
AnswersAt call wish None code told t = ⊥
AnswersAt call wish (Some a) code told None = ⊥
AnswersAt call wish (Some a) code told (Some b) =
    (b.kind ≡ a.kind) × Answers (rules_named a.kind) call wish a.seat code told b.seat

-- a call that isn't refused is carried out
abbrev pub IfTakenAt : Call → Pick → AnySeat → ℤ → ℕ → AnySeat → Type 0
IfTakenAt call wish s code told t = refusal_at (booked s) call ≡ None
    → AnswersAt call wish (booked s) code told (booked t)

-- a call that is refused changes nothing, and is answered by its refusal
abbrev pub IfRefusedAt : Call → AnySeat → ℤ → AnySeat → Type 0
IfRefusedAt call s code t = IfSome (refusal_at (booked s) call) (λ f. (t ≡ s) × (code ≡ refusal_number f))

-- a call that is refused gives no word
abbrev pub IfUntoldAt : Call → AnySeat → ℕ → Type 0
IfUntoldAt call s told = IfSome (refusal_at (booked s) call) (λ f. told ≡ 0)
