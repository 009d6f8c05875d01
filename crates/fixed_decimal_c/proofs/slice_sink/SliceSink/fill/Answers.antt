use Rattle.std.proofs.Common.{take, ap}
use Rattle.fixed_decimal_c.proofs.lemmas.texts.Writing.{filled}
use Rattle.fixed_decimal_c.proofs.slice_sink.SliceSink.fill.Goals as goal

pub returns-clause-same_slice : goal.returns-clause-same_slice
returns-clause-same_slice g c =
    let old = c.args.self.now in
    let new = c.write_to.new.sink in
    (filled c.write_to.result _ _ _ new.len new.bytes.now (g.T.Writeable.text c.args.value.now)
    (take old.len old.bytes.now) (ap (λ n. take n old.bytes.now) c.requires.empty) c.requires.fits
    c.write_to.ensures.ok c.write_to.ensures.err c.write_to.ensures.failed).0

pub returns-clause-text : goal.returns-clause-text
returns-clause-text g c =
    let old = c.args.self.now in
    let new = c.write_to.new.sink in
    (filled c.write_to.result _ _ _ new.len new.bytes.now (g.T.Writeable.text c.args.value.now)
    (take old.len old.bytes.now) (ap (λ n. take n old.bytes.now) c.requires.empty) c.requires.fits
    c.write_to.ensures.ok c.write_to.ensures.err c.write_to.ensures.failed).1
