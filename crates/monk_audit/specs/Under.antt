-- The header of the same events under another kind
use Rattle.monk_kinds.specs.declared.name.KindName.{KindName}
use Rattle.monk_history.specs.Text.{Heading, heading, object_version}

-- the heading with another kind; its version plays no part in judging
abbrev pub under : KindName → Heading → Heading
under k h = heading (object_version h.object) k h.seats h.conds h.object h.size
