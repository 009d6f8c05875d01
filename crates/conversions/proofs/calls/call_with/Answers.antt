use Rattle.std.proofs.Common.{ap}
use Rattle.std.specs.Option.{option_and_then}
use Rattle.conversions.specs.Calls.{calls_with}
use Rattle.conversions.proofs.lemmas.calls.Lookups.{lookup-none}
use Rattle.conversions.proofs.calls.call_with.Goals as goal

pub returns-in_default : goal.returns-in_default
returns-in_default c =
    let other = c.in_default in
    ap (option_and_then (λ call. call c.args.parameter.now))
    (lookup-none calls_with c.args.name.now (
      other.not-shift,
      (
        other.not-text,
        (
          other.not-text-2,
          (
            other.not-max,
            (
              other.not-round,
              (
                other.not-sign,
                (other.not-display, tt),
              ),
            ),
          ),
        ),
      ),
    ))
