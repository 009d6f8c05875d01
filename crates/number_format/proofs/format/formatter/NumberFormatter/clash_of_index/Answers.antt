use Rattle.std.proofs.Common.{subst, arith}
use Rattle.number_format.specs.CompactReading.{AreKeysApart}
use Rattle.number_format.proofs.lemmas.read.CompactPatterns.{all_of, clash_of, one_more, told_again, AllBelow, IsToldFrom}
use Rattle.number_format.proofs.format.formatter.NumberFormatter.clash_of_index.Goals as goal

pub returns-then-not-are_pair_told : goal.returns-then-not-are_pair_told
returns-then-not-are_pair_told c =
    clash_of c.args.self.now c.args.style c.key_at-key.result c.key_at-other_key.result _ _ c.word_name.ensures
    c.word_name-then-not-are_pair_told.ensures
    (λ apart. let t = c.are_pair_told.ensures.1 apart in absurd (cc (t, c.if-not-are_pair_told.true)))

pub loop-other-preserved-then-repeats : goal.loop-other-preserved-then-repeats
loop-other-preserved-then-repeats c =
    let f = c.args.self.now in
    let style = c.args.style in
    let key = c.key_at-key.result in
    let i = c.loop-other.other in
    one_more (IsToldFrom f style key) i c.loop-other.invariant
    (told_again f style key i i (omega arith) c.loop-other.invariant (c.repeats.ensures c.if-repeats.true))

pub loop-other-preserved : goal.loop-other-preserved
loop-other-preserved c =
    let f = c.args.self.now in
    let style = c.args.style in
    let key = c.key_at-key.result in
    one_more (IsToldFrom f style key) c.loop-other.other c.loop-other.invariant
    (subst (AreKeysApart f style key)
    c.key_at-other_key.ensures (c.are_pair_told.ensures.0 c.if-not-are_pair_told.false))

pub returns : goal.returns
returns c =
    let f = c.args.self.now in
    let style = c.args.style in
    subst (λ k. AllBelow (IsToldFrom f style k) 3888) c.key_at-key.ensures
    (all_of (IsToldFrom f style c.key_at-key.result) c.loop-other.other 3888 (omega arith) c.loop-other.invariant)
