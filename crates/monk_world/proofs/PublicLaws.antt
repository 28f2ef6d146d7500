-- What other crates may cite of these proofs: nothing else of `proofs` is public.

-- No word grows beyond what the events allow
pub use Rattle.monk_world.proofs.BoundLaws.{bounded_floor, few_drawn, no_less}
-- A step that is carried out keeps what a world keeps
pub use Rattle.monk_world.proofs.DoneLaws.{IsReady, kept_done}
-- Each step keeps the enters of the history in agreement with the tickets
pub use Rattle.monk_world.proofs.EntersLaws.{entered_here}
-- Who has the right, and who waits for it
pub use Rattle.monk_world.proofs.Holders.{has_right, held}
-- The right is in exactly one place, because it is where `right` says
pub use Rattle.monk_world.proofs.OnePlaceLaws.{in_one_place}
-- The laws of the text of a play: what is read has that text, and what has a text is read from it.
pub use Rattle.monk_world.proofs.PlayLaws.PlayText.{play_again, play_found}
-- One number changes, and the others stay
pub use Rattle.monk_world.proofs.UpdateLaws.{all_back, at_update, update_else, update_here, update_same}
-- What each step of a run adds to the history
pub use Rattle.monk_world.proofs.RecordLaws.{same_monitor}
-- What every run leads to
pub use Rattle.monk_world.proofs.RunLaws.{well_led}
-- A step with the floor, by which the history grows by one event, keeps a state sound
pub use Rattle.monk_world.proofs.SoundFloor.{stays}
-- From tests to facts, and back
pub use Rattle.monk_world.proofs.TestLaws.{names_chosen}
-- From the change of the words and the floor to a step of the state
pub use Rattle.monk_world.proofs.WorldLaws.{opening_kept}
pub use Rattle.monk_world.proofs.StateSteps.{active_is}
