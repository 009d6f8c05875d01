use Rattle.conversions.specs.Calls.{displays}
use Rattle.conversions.proofs.lemmas.calls.Lookups.{lookup-none}
use Rattle.conversions.proofs.calls.display.Goals as goal

pub returns-in_default : goal.returns-in_default
returns-in_default c =
    let other = c.in_default in
    lookup-none displays c.args.word.now
    (other.not-auto, (other.not-never, (other.not-always, (other.not-text, (other.not-negative, tt)))))
