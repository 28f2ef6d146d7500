-- A play's first line is read from the words that it is written as, and one that is written is read again.
use Rattle.std.proofs.Common.{lit<, ◌≡◌, ℕ, ◌≤◌, Bool, true, cond, List, [], ◌∷◌, Some, None, Ok, refl, sym, ap}
use Rattle.std.proofs.Common.{◌∙◌, arith}
use Rattle.std.proofs.lemmas.Bool.{leb-true, le-leb, Decides.nat_tests}
use Rattle.std.specs.{Prelude.nat_le, Prelude.codes, Fmt.decimal}
use Rattle.monk_history.specs.Text.Words.{◌>>=◌, Word, Taken, number_at, with_rest, literal_at, end_at}
use Rattle.monk_history.proofs.PublicLaws.Texts.{parts_take, parts_again, bind_ok, none_newer, number_takes}
use Rattle.monk_history.proofs.PublicLaws.Texts.{number_again, literal_takes, end_takes}
use Rattle.monk_history.specs.Limits.{least_budget, most_budget}
use Rattle.monk_history.specs.Text.{Heading, IsHeading, Reading.parts_at}
use Rattle.monk_world.specs.declared.play.head.PlayHead.{PlayHead}
use Rattle.monk_world.specs.Play.{play_words, Reading.play_head, Reading.play_head_of, Reading.play_head_at}

pub record HeadFits (h : PlayHead) : Type 0 where
  pub header_fits : IsHeading h.header
  pub some_budget : least_budget ≤ h.budget
  pub budget_fits : h.budget ≤ most_budget

abbrev pub head_words : PlayHead → List Word
head_words h = play_words h.header h.budget

head_made : (b : Bool) (h : PlayHead) (ws : List Word) (x : PlayHead × List Word)
    → with_rest ws (cond b (Some h) None) ≡ Ok x → (b ≡ true) × (x ≡ (h, ws))
head_made b h ws x e = grind (arith, nat_tests)

-- the steps of a first line, each with those after it
abbrev at_end : Heading → ℕ → Unit {0} × List Word → Taken PlayHead
at_end h b end = with_rest end.1 (play_head_of h b)

abbrev at_budget : Heading → ℕ × List Word → Taken PlayHead
at_budget h b = end_at b.1 >>= at_end h b.0

abbrev at_parts : Heading × List Word → Taken PlayHead
at_parts h = number_at most_budget h.1 >>= at_budget h.0

abbrev at_version : ℕ × List Word → Taken PlayHead
at_version v = parts_at v.0 v.1 >>= at_parts

abbrev at_name : Unit {0} × List Word → Taken PlayHead
at_name p = number_at 255 p.1 >>= at_version

pub head_takes : (ws : List Word) (x : PlayHead × List Word) → play_head_at ws ≡ Ok x
    → (ws ≡ head_words x.0) × HeadFits x.0
unfolding play_head_at
head_takes ws x e =
    let p = bind_ok (literal_at (codes "play") ws) at_name x e in
    let v = bind_ok (number_at 255 p.0.1) at_version x p.2 in
    let h = bind_ok (parts_at v.0.0 v.0.1) at_parts x v.2 in
    let b = bind_ok (number_at most_budget h.0.1) (at_budget h.0.0) x h.2 in
    let n = bind_ok (end_at b.0.1) (at_end h.0.0 b.0.0) x b.2 in
    let name_is : ws ≡ codes "play" ∷ p.0.1 = literal_takes (codes "play") ws p.0 p.1 in
    let version_is : p.0.1 ≡ decimal v.0.0 ∷ v.0.1 = (number_takes 255 p.0.1 v.0 v.1).0 in
    let parts_are = parts_take v.0.0 v.0.1 h.0 h.1 in
    let written : decimal v.0.0 ≡ decimal h.0.0.version = ap decimal (sym parts_are.2) in
    let budget_is = number_takes most_budget h.0.1 b.0 b.1 in
    let none : b.0.1 ≡ [] = (end_takes b.0.1 n.0 n.1).0 in
    let made = head_made (nat_le least_budget b.0.0) (play_head h.0.0 b.0.0) n.0.1 x n.2 in
    let last : h.0.1 ≡ decimal b.0.0 ∷ [] = budget_is.0 ∙ ap (λ (w : List Word). decimal b.0.0 ∷ w) none in
    let whole : ws ≡ play_words h.0.0 b.0.0 = grind (arith, nat_tests) in
    grind (arith, nat_tests, leb-true)

head_whole : (h : PlayHead) → least_budget ≤ h.budget → play_head_of h.header h.budget ≡ Some h
head_whole h some = rw (le-leb least_budget h.budget some) refl

pub head_again : (h : PlayHead) → HeadFits h → play_head_at (head_words h) ≡ Ok (h, [])
unfolding play_head_at
head_again h fits = grind (arith, nat_tests, number_again, lit<, none_newer, parts_again, head_whole)
