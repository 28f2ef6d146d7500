use Rattle.std.proofs.Common.{ℕ, ◌||◌, Bool, false, refl, ap, ◌∙◌}
use Rattle.std.specs.Prelude.{nat_le, slice_index_or}
use Rattle.monk_world.proofs.words.WorldWords.peek.Goals as goal
use Rattle.monk_world.{specs.WorldViews.state_in, proofs.StoredLaws.known_stored, proofs.StoredLaws.known_read}

pub returns-clause-shows : goal.returns-clause-shows
returns-clause-shows c =
    let w = c.args.self.now in
    record {
      state = λ f. ap (λ (known : ℕ → Bool). record (state_in w f) { known = known })
          (known_stored w c.args.seat c.requires _
          (slice_index_or w.known.items c.args.seat false || nat_le 2 w.unpassed)
          (c.known_after.ensures
          ∙ ap (λ (b : Bool). b || nat_le 2 w.unpassed)
          (known_read w c.args.seat c.requires c.index-knew.result.now c.index-knew.ensures)));
      seats = refl;
    }
