-- Each codeword stands once in the list of codewords.
use Rattle.theory.proofs.Whole.{codewords-once}
use Rattle.theory.proofs.codewords_once.Goals as goal

pub returns : goal.returns
returns c = codewords-once
