use Rattle.monk_hall.proofs.HandedOver.{floor_changes_hands, never_by_reads_alone}
use Rattle.monk_hall.proofs.laws.floor_changes_hands_by_a_word.Goals as goal

pub returns : goal.returns
returns c = record { word = floor_changes_hands; reads = never_by_reads_alone }
