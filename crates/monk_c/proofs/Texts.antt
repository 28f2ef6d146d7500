-- The text that C gets is one of a legal history
use Rattle.std.proofs.Common.{◌≡◌, ◌≤◌, ℕ, List, length, ap, subst, ◌∙◌, arith}
use Rattle.std.proofs.lemmas.Bool.Decides.{nat_tests}
use Rattle.monk_kinds.specs.{Names.rules_named, declared.mode.Rules.Rules, declared.name.KindName.KindName}
use Rattle.monk_object.specs.{Flags.flags_meaning, Names.opening_named, declared.name.ObjectName.TheVariants.Flags}
use Rattle.monk_history.specs.{Limits.most_lines, Meaning.Legal.IsLegal, declared.event.Event.Event}
use Rattle.monk_history.specs.Text.{Heading, HasText, text}
use Rattle.monk_floor.{proofs.PublicLaws.legal_as_headed, specs.Headed.IsHeadedBy, specs.View.monitor_of}
use Rattle.monk_hall.specs.{Layout.floor_of, Tokens.Holder, declared.setting.Setting.Setting}
use Rattle.monk_c.specs.{Texts.IsTextOf, Headings.flags_made, Headings.heading_for}
use Rattle.monk_c.specs.Stands.{IsAtHome, RoomView, At.Inside}

module _ (k : KindName) (r : RoomView) (a : Holder)
    (opening : r.house.setting.opening ≡ opening_named Flags (flags_made r.flags)) (home : IsAtHome r (Inside a))
    (floor : a.floor ≡ floor_of a.me.setting a.floor.history) where
  setting : floor_of a.me.setting a.floor.history ≡ floor_of r.house.setting a.floor.history
  setting = ap (λ (c : Setting). floor_of c a.floor.history) home.setting

  headed : IsHeadedBy a.floor (heading_for k r)
  headed = grind (arith, nat_tests)

  pub is_text : (rules : Rules) (h : Heading) (events : List Event) (bytes : List ℕ) → rules ≡ rules_named k
      → IsLegal (monitor_of rules flags_meaning a.floor) a.floor.history → length a.floor.history ≤ most_lines
      → h ≡ heading_for k r
      → events ≡ a.floor.history
      → HasText h events → bytes ≡ text h events → IsTextOf k r a bytes
  is_text rules h events bytes named legal few is same has written = record {
    is = written ∙ ap (λ (x : Heading). text x events) is ∙ ap (λ (es : List Event). text (heading_for k r) es) same;
    has_text =
        subst (λ (es : List Event). HasText (heading_for k r) es) same
        (subst (λ (x : Heading). HasText x events) is has);
    legal = legal_as_headed (heading_for k r) a.floor a.floor.history headed
        (subst (λ (x : Rules). IsLegal (monitor_of x flags_meaning a.floor) a.floor.history) named legal);
    few = few;
  }
