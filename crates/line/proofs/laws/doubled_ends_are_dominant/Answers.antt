-- At every length.
use Rattle.line.proofs.Doubled.{doubled}
use Rattle.line.proofs.laws.doubled_ends_are_dominant.Goals as goal

pub returns : goal.returns
returns c = λ n two. doubled n
