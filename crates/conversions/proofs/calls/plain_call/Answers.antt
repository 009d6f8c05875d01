use Rattle.conversions.specs.Calls.{plain_calls}
use Rattle.conversions.proofs.lemmas.calls.Lookups.{lookup-none}
use Rattle.conversions.proofs.calls.plain_call.Goals as goal

pub returns-in_default : goal.returns-in_default
returns-in_default c =
    let other = c.in_default in
    lookup-none plain_calls c.args.name.now
    (other.not-text, (other.not-text-2, (other.not-text-3, tt)))
