-- A header is read from the words that it is written as, and a header that is written is read again.
use Rattle.std.proofs.Common.{lit<, ◌≡◌, ℕ, ◌≤◌, List, [], ◌∷◌, ◌++◌, Some, Ok, refl, sym, ap, subst, arith}
use Rattle.std.{specs.Prelude.codes, specs.Fmt.decimal, proofs.lemmas.Bool.Decides.nat_tests}
use Rattle.monk_kinds.proofs.PublicLaws.{kind_again}
use Rattle.monk_kinds.specs.{declared.name.KindName.KindName, Names.kind_word, Names.with_text, Names.kinds}
use Rattle.monk_object.specs.{declared.name.ObjectName.ObjectName, Names.object_word, Names.objects}
use Rattle.monk_history.specs.Text.Words.{◌>>=◌, Word, Taken, number_at, with_rest, one_of, literal_at, end_at}
use Rattle.monk_history.proofs.TextLaws.WordReaders.{bind_ok, ok_is, number_takes, number_again, one_of_takes}
use Rattle.monk_history.proofs.TextLaws.WordReaders.{one_of_again, literal_takes, end_takes}
use Rattle.monk_history.proofs.TextLaws.ObjectVersions.{none_newer}
use Rattle.monk_history.specs.Text.{Heading, heading, part_words, header_words, IsHeading}
use Rattle.monk_history.specs.Text.Reading.{heading_of, parts_at, header_at}

pub object_again : (o : ObjectName) → with_text object_word objects (object_word o) ≡ Some o
object_again o = grind arith

heading_fits : (v : ℕ) (k : KindName) (s c : ℕ) (o : ObjectName) (z : ℕ) (ws : List Word)
    (x : Heading × List Word) → z ≤ 255
    → with_rest ws (heading_of v k s c o z) ≡ Ok x → (x ≡ (heading v k s c o z, ws)) × IsHeading (heading v k s c o z)
heading_fits v k s c o z ws x le e = grind (arith, nat_tests)

-- the steps of the parts, each with those after it
abbrev Numbered : Type 0
Numbered = ℕ × List Word

abbrev Kinded : Type 0
Kinded = KindName × List Word

abbrev Named : Type 0
Named = ObjectName × List Word

abbrev at_size : ℕ → Kinded → Numbered → Numbered → Named → Numbered → Taken Heading
at_size v k s c o z = with_rest z.1 (heading_of v k.0 s.0 c.0 o.0 z.0)

abbrev at_object : ℕ → Kinded → Numbered → Numbered → Named → Taken Heading
at_object v k s c o = number_at 255 o.1 >>= at_size v k s c o

abbrev at_conds : ℕ → Kinded → Numbered → Numbered → Taken Heading
at_conds v k s c = one_of object_word objects c.1 >>= at_object v k s c

abbrev at_seats : ℕ → Kinded → Numbered → Taken Heading
at_seats v k s = number_at 255 s.1 >>= at_conds v k s

abbrev at_kind : ℕ → Kinded → Taken Heading
at_kind v k = number_at 255 k.1 >>= at_seats v k

five_words : (ws a b c d e : List Word) (t u v w x : Word) → ws ≡ t ∷ a → a ≡ u ∷ b → b ≡ v ∷ c → c ≡ w ∷ d → d ≡ x ∷ e
    → ws ≡ t ∷ u ∷ v ∷ w ∷ x ∷ e
five_words ws a b c d e t u v w x e0 e1 e2 e3 e4 = cc

pub parts_take : (v : ℕ) (ws : List Word) (x : Heading × List Word) → parts_at v ws ≡ Ok x
    → (ws ≡ part_words x.0 ++ x.1) × IsHeading x.0 × (x.0.version ≡ v)
unfolding parts_at
parts_take v ws x e =
    let k = bind_ok (one_of kind_word kinds ws) (at_kind v) x e in
    let s = bind_ok (number_at 255 k.0.1) (at_seats v k.0) x k.2 in
    let c = bind_ok (number_at 255 s.0.1) (at_conds v k.0 s.0) x s.2 in
    let o = bind_ok (one_of object_word objects c.0.1) (at_object v k.0 s.0 c.0) x c.2 in
    let z = bind_ok (number_at 255 o.0.1) (at_size v k.0 s.0 c.0 o.0) x o.2 in
    let size_is = number_takes 255 o.0.1 z.0 z.1 in
    let h = heading_fits v k.0.0 s.0.0 c.0.0 o.0.0 z.0.0 z.0.1 x size_is.1 z.2 in
    let e0 : ws ≡ kind_word k.0.0 ∷ k.0.1 = one_of_takes kind_word kinds ws k.0 k.1 in
    let e1 : k.0.1 ≡ decimal s.0.0 ∷ s.0.1 = (number_takes 255 k.0.1 s.0 s.1).0 in
    let e2 : s.0.1 ≡ decimal c.0.0 ∷ c.0.1 = (number_takes 255 s.0.1 c.0 c.1).0 in
    let e3 : c.0.1 ≡ object_word o.0.0 ∷ o.0.1 = one_of_takes object_word objects c.0.1 o.0 o.1 in
    let e4 : o.0.1 ≡ decimal z.0.0 ∷ z.0.1 = size_is.0 in
    grind (arith, nat_tests, five_words)

heading_again : (h : Heading) → IsHeading h → heading_of h.version h.kind h.seats h.conds h.object h.size ≡ Some h
heading_again h fits = grind (arith, nat_tests)

parts_same : (h : Heading) (ws : List Word) → IsHeading h → parts_at h.version (part_words h ++ ws) ≡ Ok (h, ws)
unfolding parts_at
parts_same h ws fits =
    rw (
      one_of_again kind_word kinds h.kind
          (decimal h.seats ∷ decimal h.conds ∷ object_word h.object ∷ decimal h.size ∷ ws) (kind_again h.kind),
      number_again 255 h.seats (decimal h.conds ∷ object_word h.object ∷ decimal h.size ∷ ws) (lit< tt)
          (omega (arith, fits.seats)),
      number_again 255 h.conds (object_word h.object ∷ decimal h.size ∷ ws) (lit< tt) (omega (arith, fits.conds)),
      one_of_again object_word objects h.object (decimal h.size ∷ ws) (object_again h.object),
      number_again 255 h.size ws (lit< tt) fits.size,
      heading_again h fits,
    ) refl

pub parts_again : (v : ℕ) (h : Heading) (ws : List Word) → h.version ≡ v → IsHeading h
    → parts_at v (part_words h ++ ws) ≡ Ok (h, ws)
parts_again v h ws is fits = subst (λ (n : ℕ). parts_at n (part_words h ++ ws) ≡ Ok (h, ws)) is (parts_same h ws fits)

-- ---- the whole line

abbrev at_parts : Heading × List Word → Taken Heading
at_parts h = end_at h.1 >>= λ z. Ok (h.0, z.1)

abbrev at_version : Numbered → Taken Heading
at_version v = parts_at v.0 v.1 >>= at_parts

abbrev at_name : Unit {0} × List Word → Taken Heading
at_name m = number_at 255 m.1 >>= at_version

pub header_takes : (ws : List Word) (x : Heading × List Word) → header_at ws ≡ Ok x
    → (ws ≡ header_words x.0) × IsHeading x.0
unfolding header_at
header_takes ws x e =
    let m = bind_ok (literal_at (codes "monk") ws) at_name x e in
    let v = bind_ok (number_at 255 m.0.1) at_version x m.2 in
    let h = bind_ok (parts_at v.0.0 v.0.1) at_parts x v.2 in
    let n = bind_ok (end_at h.0.1) (λ z. Ok (h.0.0, z.1)) x h.2 in
    let name_is : ws ≡ codes "monk" ∷ m.0.1 = literal_takes (codes "monk") ws m.0 m.1 in
    let version_is : m.0.1 ≡ decimal v.0.0 ∷ v.0.1 = (number_takes 255 m.0.1 v.0 v.1).0 in
    let parts_are = parts_take v.0.0 v.0.1 h.0 h.1 in
    let written : decimal v.0.0 ≡ decimal h.0.0.version = ap decimal (sym parts_are.2) in
    let none : h.0.1 ≡ [] = (end_takes h.0.1 n.0 n.1).0 in
    let whole : ws ≡ header_words h.0.0 = grind (arith, nat_tests) in
    grind (arith, nat_tests, ok_is)

pub header_again : (h : Heading) → IsHeading h → header_at (header_words h) ≡ Ok (h, [])
unfolding header_at
header_again h fits = grind (arith, nat_tests, number_again, lit<, none_newer, parts_again)
