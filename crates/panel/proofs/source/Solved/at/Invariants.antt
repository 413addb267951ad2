use Rattle.std.proofs.Common.{◌≡◌, ℕ, ◌<◌, [], get_or, pos}
use Rattle.panel.proofs.source.Solved.at.Given as goal

abbrev pub invariant-loop-q : goal.invariant-loop-q
invariant-loop-q g l = (k : ℕ) → k < l.q → get_or (g.K.Sample.parts l.sample) k (pos 0) ≡ get_or (get_or l.self.parts.now k []) l.e (pos 0)
