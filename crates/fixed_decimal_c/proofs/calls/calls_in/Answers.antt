use Rattle.std.proofs.{Common.{◌≡◌, take, length, min, ap, ◌∙◌, rules}, lemmas.List.take_min}
use Rattle.fixed_decimal_c.proofs.calls.calls_in.Goals as goal

pub returns-in-None : goal.returns-in-None
returns-in-None c =
    let least : c.min.result ≡ min c.args.count (length c.args.short.now) = search rules in
    rw c.in-None.is (ap (λ n. take n c.args.short.now) least ∙ take_min c.args.count c.args.short.now)
