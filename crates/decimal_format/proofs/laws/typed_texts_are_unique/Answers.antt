use Rattle.decimal_format.proofs.lemmas.reader.NumeralLaws as laws
use Rattle.decimal_format.proofs.laws.typed_texts_are_unique.Goals as goal

pub returns : goal.returns
returns c = laws.typed_texts_are_unique
