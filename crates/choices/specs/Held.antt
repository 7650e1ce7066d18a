-- What clauses see of a choice, of coefficients and of a visit counter: their fields.
use Rattle.std.specs.Prelude.{ℕ, List}

-- The first t rows of these are a choice of t rows out of k.
pub record HeldChoice : Type 0 where
  pub rows : List ℕ
  pub t : ℕ
  pub k : ℕ

-- The first t codes of these are the coefficients of t rows over a field of order q.
pub record HeldCoefficients : Type 0 where
  pub codes : List ℕ
  pub t : ℕ
  pub q : ℕ

-- The visit with this choice and these coefficients has this place among the visits of its level, which are so many.
pub record HeldVisit : Type 0 where
  pub choice : HeldChoice
  pub coefficients : HeldCoefficients
  pub place : ℕ
  pub size : ℕ
