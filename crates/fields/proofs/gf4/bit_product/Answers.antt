-- The product by bits is the table's.
use Rattle.fields.specs.Four.{bit_product}
use Rattle.fields.proofs.gf4.bit_product.Goals as goal

pub returns : goal.returns
returns c = record { value = bit_product c.args.a c.args.b c.requires.0 c.requires.1 }
