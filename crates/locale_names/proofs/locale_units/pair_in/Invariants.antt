use Rattle.std.proofs.Common.{◌≡◌, drop, find}
use Rattle.locale_names.specs.LocaleUnits.{is_pair}
use Rattle.locale_names.proofs.locale_units.pair_in.Given as goal

abbrev pub invariant-loop-compound : goal.invariant-loop-compound
invariant-loop-compound l =
    find (is_pair l.numerator l.denominator) l.compounds
    ≡ find (is_pair l.numerator l.denominator) (drop l.compound-index l.compounds)
