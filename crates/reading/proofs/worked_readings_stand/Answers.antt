-- Each example is computed.
use Rattle.reading.proofs.worked_readings_stand.Goals as goal
use Rattle.reading.proofs.Worked.{readings_stand, spellings_stand, no_spellings_stand}

pub returns : goal.returns
returns c = (readings_stand, spellings_stand, no_spellings_stand)
