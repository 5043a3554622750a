-- The test passes at all 256 entries.
use Rattle.reader.proofs.classes.class_of.Goals as goal

pub entry-requires : goal.entry-requires
entry-requires c = tt
