-- `Lead::fmt` writes its text. The check finds this by itself; it stands here so that the edit lead_lost is refused for a fact, not for a limit
-- of the search.
use Rattle.named.proofs.told.LeadDisplay.fmt.Goals as goal

pub returns-clause-writes : goal.returns-clause-writes
returns-clause-writes g c p ok = c.write_str.ensures.writes p ok
