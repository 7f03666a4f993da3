use Rattle.level_walks.proofs.Checked.{walk-gives}
use Rattle.level_walks.proofs.law_walk.Goals as goal

pub returns : goal.returns
returns c step answer s reduce alike reduces k P es order = walk-gives step answer s reduce alike reduces k P es order
