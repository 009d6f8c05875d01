use Rattle.number_format.proofs.lemmas.format.PlainNumbers.{plain_text}
use Rattle.number_format.proofs.laws.plain_texts_are_decimals.Goals as goal

pub returns : goal.returns
returns c = plain_text
