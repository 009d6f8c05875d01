use Rattle.std.proofs.Common.{◌≡◌, subst, rules}
use Rattle.locale_data.specs.Plurals.{HasNoRules}
use Rattle.fixed_decimal_c.proofs.categories.range_category.Goals as goal

pub returns-in-None : goal.returns-in-None
returns-in-None c = λ _.
    let same : c.in-Ok.tag.now ≡ c.args.tag.now = search rules in
    subst HasNoRules same c.in-None.ensures.unknown
