use Rattle.std.proofs.Common.{ℕ, set, Bool, false, refl, ap, ◌∙◌}
use Rattle.std.specs.Prelude.{slice_index_or}
use Rattle.monk_world.proofs.words.WorldWords.floor_out.Goals as goal
use Rattle.monk_world.proofs.StoredLaws.{place_stored, known_stored}
use Rattle.monk_world.specs.{Update.update, declared.place.Place.Place, declared.place.Place.TheVariants.Active}
use Rattle.monk_world.specs.WorldViews.{world_on, state_in}

pub returns-clause-shows : goal.returns-clause-shows
returns-clause-shows c =
    let w = c.args.self.now in
    record {
      state = λ f.
          ap (λ (place : ℕ → Place). record (state_in w f) {
            world = record (world_on w) { place = place };
            known =
                λ j. slice_index_or (set w.known.items c.args.seat false) j false;
          })
          (place_stored w c.args.seat c.requires (Active c.args.source) (Active c.args.source) refl)
          ∙ ap (λ (known : ℕ → Bool). record (state_in w f) {
            world = record (world_on w) { place = update (world_on w).place c.args.seat (Active c.args.source) };
            known = known;
          }) (known_stored w c.args.seat c.requires false false refl);
      seats = refl;
    }
