-- A log's first line is read from the words that it is written as, and one that is written is read again.
use Rattle.std.proofs.Common.{lit<, ◌≡◌, ℕ, ◌≤◌, ◌==◌, Bool, true, cond, List, [], ◌∷◌, Option, Some, None, Ok}
use Rattle.std.{proofs.Common.refl, proofs.Common.arith, proofs.lemmas.Bool.eqb-true, proofs.lemmas.Bool.eq-eqb}
use Rattle.std.{proofs.lemmas.Bool.Decides.nat_tests, specs.Prelude.codes, specs.Fmt.decimal}
use Rattle.monk_object.specs.{declared.name.ObjectName.ObjectName, Names.object_word, Names.objects}
use Rattle.monk_history.specs.Text.Words.{◌>>=◌, Word, Taken, number_at, one_of, with_rest, literal_at, end_at}
use Rattle.monk_history.proofs.PublicLaws.Texts.{bind_ok, number_takes, number_again, literal_takes, end_takes}
use Rattle.monk_history.proofs.PublicLaws.Texts.{object_again, one_of_takes, one_of_again}
use Rattle.monk_logs.specs.Log.{LogHeading, IsLogHeading, log_heading, log_header_words, log_version}
use Rattle.monk_logs.specs.Log.Reading.{log_heading_of, log_header_at}

-- the steps of a first line, each with those after it
abbrev at_end : ℕ → ℕ → ℕ → ObjectName → ℕ → Unit {0} × List Word → Taken LogHeading
at_end v s c o z end = with_rest end.1 (cond (v == log_version o) (log_heading_of s c o z) None)

abbrev at_size : ℕ → ℕ → ℕ → ObjectName → ℕ × List Word → Taken LogHeading
at_size v s c o z = end_at z.1 >>= at_end v s c o z.0

abbrev at_object : ℕ → ℕ → ℕ → ObjectName × List Word → Taken LogHeading
at_object v s c o = number_at 255 o.1 >>= at_size v s c o.0

abbrev at_conds : ℕ → ℕ → ℕ × List Word → Taken LogHeading
at_conds v s c = one_of object_word objects c.1 >>= at_object v s c.0

abbrev at_seats : ℕ → ℕ × List Word → Taken LogHeading
at_seats v s = number_at 255 s.1 >>= at_conds v s.0

abbrev at_version : ℕ × List Word → Taken LogHeading
at_version v = number_at 255 v.1 >>= at_seats v.0

abbrev at_name : Unit {0} × List Word → Taken LogHeading
at_name l = number_at 255 l.1 >>= at_version

heading_fits : (s c : ℕ) (o : ObjectName) (z : ℕ) (ws : List Word) (x : LogHeading × List Word) → z ≤ 255
    → with_rest ws (log_heading_of s c o z) ≡ Ok x
    → (x ≡ (log_heading s c o z, ws)) × IsLogHeading (log_heading s c o z)
heading_fits s c o z ws x le e = grind (arith, nat_tests)

-- the version is the one of the logs that name the object
of_version : (b : Bool) (ws : List Word) (h : Option LogHeading) (x : LogHeading × List Word)
    → with_rest ws (cond b h None) ≡ Ok x
    → (b ≡ true) × (with_rest ws h ≡ Ok x)
of_version b ws h x e = grind (arith, nat_tests)

pub small_version : (o : ObjectName) → log_version o ≤ 255
small_version o = grind (arith, nat_tests)

all_words : (ws a b c d e f : List Word) (t u v w x y : Word) → ws ≡ t ∷ a → a ≡ u ∷ b → b ≡ v ∷ c → c ≡ w ∷ d
    → d ≡ x ∷ e
    → e ≡ y ∷ f → f ≡ [] → ws ≡ t ∷ u ∷ v ∷ w ∷ x ∷ y ∷ []
all_words ws a b c d e f t u v w x y e0 e1 e2 e3 e4 e5 e6 = cc

pub log_header_takes : (ws : List Word) (x : LogHeading × List Word) → log_header_at ws ≡ Ok x
    → (ws ≡ log_header_words x.0) × IsLogHeading x.0
unfolding log_header_at
log_header_takes ws x e =
    let l = bind_ok (literal_at (codes "log") ws) at_name x e in
    let v = bind_ok (number_at 255 l.0.1) at_version x l.2 in
    let s = bind_ok (number_at 255 v.0.1) (at_seats v.0.0) x v.2 in
    let c = bind_ok (number_at 255 s.0.1) (at_conds v.0.0 s.0.0) x s.2 in
    let o = bind_ok (one_of object_word objects c.0.1) (at_object v.0.0 s.0.0 c.0.0) x c.2 in
    let z = bind_ok (number_at 255 o.0.1) (at_size v.0.0 s.0.0 c.0.0 o.0.0) x o.2 in
    let n = bind_ok (end_at z.0.1) (at_end v.0.0 s.0.0 c.0.0 o.0.0 z.0.0) x z.2 in
    let made = of_version (v.0.0 == log_version o.0.0) n.0.1 (log_heading_of s.0.0 c.0.0 o.0.0 z.0.0) x n.2 in
    let version_is : v.0.0 ≡ log_version o.0.0 = eqb-true _ _ made.0 in
    let size_is = number_takes 255 o.0.1 z.0 z.1 in
    let h = heading_fits s.0.0 c.0.0 o.0.0 z.0.0 n.0.1 x size_is.1 made.1 in
    let e0 : ws ≡ codes "log" ∷ l.0.1 = literal_takes (codes "log") ws l.0 l.1 in
    let e1 : l.0.1 ≡ decimal (log_version o.0.0) ∷ v.0.1 = grind (arith, nat_tests, number_takes) in
    let e2 : v.0.1 ≡ decimal s.0.0 ∷ s.0.1 = (number_takes 255 v.0.1 s.0 s.1).0 in
    let e3 : s.0.1 ≡ decimal c.0.0 ∷ c.0.1 = (number_takes 255 s.0.1 c.0 c.1).0 in
    let e4 : c.0.1 ≡ object_word o.0.0 ∷ o.0.1 = one_of_takes object_word objects c.0.1 o.0 o.1 in
    let e5 : o.0.1 ≡ decimal z.0.0 ∷ z.0.1 = size_is.0 in
    let e6 : z.0.1 ≡ [] = (end_takes z.0.1 n.0 n.1).0 in
    grind (arith, nat_tests, all_words)

heading_again : (h : LogHeading) → IsLogHeading h → log_heading_of h.seats h.conds h.object h.size ≡ Some h
heading_again h fits = grind (arith, nat_tests)

pub log_header_again : (h : LogHeading) → IsLogHeading h → log_header_at (log_header_words h) ≡ Ok (h, [])
unfolding log_header_at
log_header_again h fits =
    rw (
      number_again 255 (log_version h.object)
          (decimal h.seats ∷ decimal h.conds ∷ object_word h.object ∷ decimal h.size ∷ []) (lit< tt)
          (small_version h.object),
      number_again 255 h.seats (decimal h.conds ∷ object_word h.object ∷ decimal h.size ∷ []) (lit< tt)
          (omega (arith, fits.seats)),
      number_again 255 h.conds (object_word h.object ∷ decimal h.size ∷ []) (lit< tt) (omega (arith, fits.conds)),
      one_of_again object_word objects h.object (decimal h.size ∷ []) (object_again h.object),
      number_again 255 h.size [] (lit< tt) fits.size,
      eq-eqb (log_version h.object) (log_version h.object) refl,
      heading_again h fits,
    ) refl
