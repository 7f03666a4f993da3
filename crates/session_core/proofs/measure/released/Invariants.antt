use Rattle.session_core.proofs.Released.{ReleasedBefore}
use Rattle.session_core.proofs.measure.released.Given as goal

abbrev pub invariant-loop-weight : goal.invariant-loop-weight
invariant-loop-weight g l =
    ReleasedBefore (g.N.Noise.given l.initial.noise) (g.N.Noise.given l.noise) (g.N.Noise.faults l.initial.noise) (g.N.Noise.faults l.noise)
    l.epsilon l.weights l.weight-index l.values.items
