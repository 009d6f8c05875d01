use Rattle.std.proofs.{Common.{◌≡◌, ◌+◌, ◌-◌, ◌/◌, true, sym, ◌∙◌, ap, arith}, lemmas.{Int.ints, Bool.Decides.nat_tests}}
use Rattle.std.specs.{Prelude.{nat_abs, pos}, Int.int_gap}
use Rattle.fixed_decimal.proofs.Calling.{narrow_kept, gap_is}
use Rattle.decimal_format.specs.{Grouping.is_grouped, Parts.separators_below}
use Rattle.decimal_format.proofs.{lemmas.symbols.Separators.{count-none, count-some, grouped_least}, grouping.GroupingSizes.separator_count.Goals.{then-self-eq0-via-then-self-eq0, then-self-eq0-via-else-self-eq0+then-not-is_grouped}}
use Rattle.decimal_format.proofs.grouping.GroupingSizes.separator_count.Goals as goal

pub returns-then-self-eq0-clause-value : goal.returns-then-self-eq0-clause-value
returns-then-self-eq0-clause-value c = grind (arith, nat_tests, narrow_kept, count-none)

pub returns-clause-value : goal.returns-clause-value
returns-clause-value c =
    let sizes = c.args.self in
    let hi = narrow_kept c.ranges.hi.sfits in
    let grouped : is_grouped c.args.strategy sizes c.args.hi ≡ true =
    ap (is_grouped c.args.strategy sizes) (sym hi) ∙ sym c.is_grouped.ensures ∙ c.if-not-is_grouped.false in
    let least = grouped_least c.args.strategy sizes c.args.hi c.args.strategy grouped in
    let x = nat_abs c.args.hi - sizes.primary in
    let all : sizes.primary + x + 1 ≡ int_gap (pos 0) c.args.hi + 1 =
    omega (arith, ints, gap_is (pos 0) c.args.hi, least, c.requires) in
    (λ i. (nat_abs (hi i) - sizes.primary) / c.secondary_size.ensures i + 1)
    ∙ sym (count-some c.args.strategy sizes c.args.hi (omega (arith, c.if-self-eq0.false)) grouped x)
    ∙ ap (separators_below c.args.strategy sizes c.args.hi) all
