use Rattle.conversions.specs.Calls.{signs}
use Rattle.conversions.proofs.lemmas.calls.Lookups.{lookup-none}
use Rattle.conversions.proofs.calls.sign.Goals as goal

pub returns-in_default : goal.returns-in_default
returns-in_default c =
    let other = c.in_default in
    lookup-none signs c.args.word.now
    (other.not-none, (other.not-minus, (other.not-plus, tt)))
