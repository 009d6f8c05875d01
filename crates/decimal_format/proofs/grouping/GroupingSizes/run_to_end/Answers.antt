use Rattle.std.proofs.Common.{◌≡◌, ◌+◌, ◌-◌, ◌%◌, ap, ◌∙◌, arith}
use Rattle.decimal_format.specs.Grouping.{ends_group, secondary_size}
use Rattle.decimal_format.proofs.lemmas.symbols.Separators.{ends_none, ends_last}
use Rattle.decimal_format.proofs.grouping.GroupingSizes.run_to_end.Goals as goal

pub returns-then-before_last-most-clause-none_between : goal.returns-then-before_last-most-clause-none_between
returns-then-before_last-most-clause-none_between c = grind (arith, ends_none)

pub returns-then-before_last-most-clause-last : goal.returns-then-before_last-most-clause-last
returns-then-before_last-most-clause-last c = grind (arith, ends_none)

pub returns-clause-none_between : goal.returns-clause-none_between
returns-clause-none_between c = grind (arith, ends_none)

pub returns-clause-last : goal.returns-clause-last
returns-clause-last c =
    let rest = rw c.secondary_size.ensures at c.remainder-before_last.ensures in
    let sizes = c.args.self in
    let back : c.remainder-before_last.result + 1 - 1 ≡ (c.args.magnitude - sizes.primary) % secondary_size sizes =
    omega (arith, rest) in
    ap (λ x. ends_group sizes (c.args.magnitude - x)) back
    ∙ ends_last sizes c.args.magnitude (omega arith) (omega arith)
