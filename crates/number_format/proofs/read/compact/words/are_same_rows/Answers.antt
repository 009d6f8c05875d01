use Rattle.std.proofs.{Common.{◌≡◌, arith}, lemmas.Bool.Decides.nat_tests}
use Rattle.std.specs.Prelude.{slice_range}
use Rattle.locale_data.specs.declared.tables.compact.TheConstants.{COMPACT_PATTERNS}
use Rattle.number_format.proofs.read.compact.words.are_same_rows.Goals as goal

pub returns : goal.returns
returns c = λ t.
    let from : c.args.first.0.0 ≡ c.args.second.0.0 = grind (arith, nat_tests, c.if-first-second.false) in
    let to : c.args.first.0.1 ≡ c.args.second.0.1 = grind (arith, nat_tests, t) in
    λ i. slice_range COMPACT_PATTERNS (from i) (to i)
