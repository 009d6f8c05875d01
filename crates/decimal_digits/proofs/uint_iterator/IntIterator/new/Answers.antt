use Rattle.decimal_digits.proofs.lemmas.ops.Integers.{length-ascending_digits}
use Rattle.decimal_digits.proofs.uint_iterator.IntIterator.new.Goals as goal

pub returns-clause-at_most : goal.returns-clause-at_most
returns-clause-at_most g c = length-ascending_digits _ c.requires
