use Rattle.std.proofs.Common.{cond, refl, ap, ◌∙◌}
use Rattle.std.specs.Prelude.{Some}
use Rattle.monk_world.proofs.words.WorldWords.floor_in.Goals as goal
use Rattle.monk_world.proofs.StoredLaws.{settled, place_read}
use Rattle.monk_world.specs.declared.place.Place.{Place, TheVariants.Back}
use Rattle.monk_history.specs.Meaning.Events.{is_stay}

pub returns-clause-shows : goal.returns-clause-shows
returns-clause-shows c =
    let w = c.args.self.now in
    record {
      state = settled w c.args.seat c.requires c.args.next c.args.home _
          (c.after_choice.ensures
          ∙ ap (λ (p : Place). cond (is_stay (Some c.args.next)) p (Back c.args.next c.args.home))
          (place_read w c.args.seat c.requires c.index-place.result.now c.index-place.ensures));
      seats = refl;
    }
