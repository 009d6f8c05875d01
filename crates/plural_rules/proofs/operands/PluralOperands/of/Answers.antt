use Rattle.fixed_decimal.proofs.Calling.{read_text, follows_grammar}
use Rattle.plural_rules.proofs.lemmas.operands.ByText.{by_text}
use Rattle.plural_rules.proofs.operands.PluralOperands.of.Goals as goal
use Rattle.std.proofs.Common.{arith, rules}

pub returns-clause-by_text : goal.returns-clause-by_text
returns-clause-by_text g c = search (rules, arith, by_text, read_text, follows_grammar)
