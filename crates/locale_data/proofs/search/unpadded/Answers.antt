use Rattle.std.proofs.{Common.{◌≡◌, ◌==◌, true, get_or, take, ap, sym, arith}, lemmas.{Grind.common_steps, List.Sums.position_or_len_is, Bool.Decides.nat_tests}}
use Rattle.locale_data.proofs.search.unpadded.Goals as goal

pub returns-then-byte-eq32 : goal.returns-then-byte-eq32
returns-then-byte-eq32 c =
    let found : (get_or c.args.padded.now c.loop-index.index 0 == 32) ≡ true = grind (arith, nat_tests) in
    ap (λ n. take n c.args.padded.now) (sym (position_or_len_is (λ b. b == 32) c.args.padded.now c.loop-index.index 0
    (omega arith) c.loop-index.invariant (λ _. found)))

pub returns : goal.returns
returns c =
    let e = position_or_len_is (λ b. b == 32) c.args.padded.now c.loop-index.index 0
    c.loop-index.auto.index-end c.loop-index.invariant (λ inside. absurd (omega arith)) in
    grind (arith, common_steps, e)
