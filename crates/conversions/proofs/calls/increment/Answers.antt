use Rattle.conversions.specs.Calls.{increments}
use Rattle.conversions.proofs.lemmas.calls.Lookups.{lookup-none}
use Rattle.conversions.proofs.calls.increment.Goals as goal

pub returns-in_default : goal.returns-in_default
returns-in_default c =
    let other = c.in_default in
    lookup-none increments c.args.word.now
    (other.not-text, (other.not-text-2, (other.not-text-3, (other.not-text-4, tt))))
