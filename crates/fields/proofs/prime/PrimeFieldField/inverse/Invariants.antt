-- The power so far, below the prime.
use Rattle.std.proofs.Common.{◌≡◌, ◌%◌, ◌^◌, ◌<◌}
use Rattle.fields.proofs.prime.PrimeFieldField.inverse.Given as goal

abbrev pub invariant-loop : goal.invariant-loop
invariant-loop l = (l.power ≡ (l.x ^ l.counter) % l.self.p.value) × (l.power < l.self.p.value)
