-- The bound holds after every run, as a part of the promise.
use Rattle.theory.proofs.Whole.{promise}
use Rattle.theory.proofs.bound_stands.Goals as goal

pub returns : goal.returns
returns c = λ code negative inverse accepted slots ks. (promise code negative inverse accepted slots ks).strong
