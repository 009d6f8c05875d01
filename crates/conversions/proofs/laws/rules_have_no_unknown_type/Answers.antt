use Rattle.conversions.proofs.lemmas.calls.UnknownTypes.{no_unknown_type}
use Rattle.conversions.proofs.laws.rules_have_no_unknown_type.Goals as goal

pub returns : goal.returns
returns c = no_unknown_type
