use Rattle.std.proofs.{Common.{◌≡◌, ◌==◌, true, get_or, take, ap, sym, arith}, lemmas.{Grind.common_steps, List.Sums.position_or_len_is, Bool.Decides.nat_tests}}
use Rattle.locale_data.specs.Tag.{tag_byte}
use Rattle.locale_data.proofs.tag.first_subtag.Goals as goal

pub returns-then-tag_byte-eq45 : goal.returns-then-tag_byte-eq45
returns-then-tag_byte-eq45 c =
    let found : (tag_byte (get_or c.args.tag.now c.loop-index.index 0) == 45) ≡ true = grind (arith, nat_tests) in
    ap (λ n. take n c.args.tag.now) (sym (position_or_len_is (λ b. tag_byte b == 45) c.args.tag.now c.loop-index.index 0
    (omega arith) c.loop-index.invariant (λ _. found)))

pub returns : goal.returns
returns c =
    let e = position_or_len_is (λ b. tag_byte b == 45) c.args.tag.now c.loop-index.index 0
    c.loop-index.auto.index-end c.loop-index.invariant (λ inside. absurd (omega arith)) in
    grind (arith, common_steps, e)
