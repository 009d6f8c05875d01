use Rattle.conversions.specs.Calls.{modes}
use Rattle.conversions.proofs.lemmas.calls.Lookups.{lookup-none}
use Rattle.conversions.proofs.calls.mode.Goals as goal

pub returns-in_default : goal.returns-in_default
returns-in_default c =
    let other = c.in_default in
    lookup-none modes c.args.word.now (
      other.not-ceil,
      (
        other.not-floor,
        (
          other.not-expand,
          (
            other.not-trunc,
            (
              other.not-text,
              (
                other.not-text-2,
                (other.not-text-3, (other.not-text-4, (other.not-text-5, tt))),
              ),
            ),
          ),
        ),
      ),
    )
