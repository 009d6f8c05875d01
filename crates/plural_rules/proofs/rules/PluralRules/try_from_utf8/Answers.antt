use Rattle.plural_rules.proofs.lemmas.parse.ParserComplete.{grammar-unique}
use Rattle.plural_rules.proofs.rules.PluralRules.try_from_utf8.Goals as goal

pub returns-clause-unique : goal.returns-clause-unique
returns-clause-unique c = λ first second a b. grammar-unique a b
