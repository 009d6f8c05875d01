use Rattle.std.proofs.{Common.{◌≡◌, ◌-◌, ◌++◌, replicate, rules, take, ap, ◌∙◌}, lemmas.List.drop-replicate}
use Rattle.fixed_decimal_c.proofs.kept_tag.kept_tag.Goals as goal

pub returns : goal.returns
returns c =
    let end = c.kept_end-end.result in
    let copied : c.copy_from_slice.new.self ≡ take end c.args.tag.now = search rules in
    ap (λ l. c.copy_from_slice.new.self ++ l) (drop-replicate end 16 32)
    ∙ ap (λ l. l ++ replicate (16 - end) 32) copied
    ∙ ap (λ n. take n c.args.tag.now ++ replicate (16 - n) 32) c.kept_end-end.ensures.value
