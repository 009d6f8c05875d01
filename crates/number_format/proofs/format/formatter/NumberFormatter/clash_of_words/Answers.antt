use Rattle.std.proofs.Common.{arith}
use Rattle.number_format.specs.CompactReading.{IsIndexApart}
use Rattle.number_format.proofs.lemmas.read.CompactPatterns.{all_of, apart_again, each_apart, one_more}
use Rattle.number_format.proofs.format.formatter.NumberFormatter.clash_of_words.Goals as goal

pub loop-index-preserved-then-repeats : goal.loop-index-preserved-then-repeats
loop-index-preserved-then-repeats c =
    let f = c.args.self.now in
    let style = c.args.style in
    let i = c.loop-index.index in
    one_more (IsIndexApart f style) i c.loop-index.invariant
    (apart_again f style i i (omega arith) c.loop-index.invariant (c.repeats.ensures c.if-repeats.true))

pub loop-index-preserved : goal.loop-index-preserved
loop-index-preserved c =
    one_more (IsIndexApart c.args.self.now c.args.style) c.loop-index.index c.loop-index.invariant
    c.in_default.ensures

pub returns : goal.returns
returns c =
    let f = c.args.self.now in
    let style = c.args.style in
    each_apart f style c.requires.exponents
    (all_of (IsIndexApart f style) c.loop-index.index 3888 (omega arith) c.loop-index.invariant)
