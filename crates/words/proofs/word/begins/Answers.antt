-- `words::word::begins` meets its contract.
-- Assumes nothing.
use Rattle.std.proofs.Common.{◌∙◌}
use Rattle.words.proofs.Words.{starts_with-starts}
use Rattle.words.proofs.word.begins.Goals as goal

pub returns : goal.returns
returns c = c.starts_with.ensures.value ∙ starts_with-starts c.args.w.now c.args.s.now
