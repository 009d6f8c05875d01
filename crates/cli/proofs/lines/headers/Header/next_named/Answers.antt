use Rattle.std.proofs.{Common.{◌≡◌, ◌≤◌, ◌<◌, length, slice_get, Some, ⊎_elim, arith, refl}, lemmas.Option.slice_get_read}
use Rattle.cli.proofs.lemmas.lines.{HeaderNames.{none_more, other_at, past}, Separators.le_or_lt}
use Rattle.cli.proofs.lines.headers.Header.next_named.Goals as goal

pub loop-index-preserved : goal.loop-index-preserved
loop-index-preserved c =
    let header = c.args.self.now in
    let at : slice_get header.bounds.items c.loop-index.index ≡ Some c.index.result.now =
    slice_get_read header.bounds.items (length header.bounds.items) c.loop-index.index c.index.result.now refl
    (omega (arith, c.loop-index-test.true, c.len-index-end.ensures)) c.index.ensures in
    none_more header.trims header.field header.bytes.now c.args.name.now c.args.from c.loop-index.index
    c.loop-index.invariant
    (other_at header c.requires.bounds c.args.name.now c.loop-index.index c.index.result.now at
    (rw c.within.ensures at (c.holds_name.ensures.no c.if-holds_name.false)))

pub returns-clause-none : goal.returns-clause-none
returns-clause-none c = λ _ index above.
    let header = c.args.self.now in
    ⊎_elim
    (λ (more : c.loop-index.index ≤ index).
    let all : length header.bounds.items ≤ index =
    omega (arith, more, c.loop-index-test.false, c.len-index-end.ensures) in
    past header c.requires.bounds c.args.name.now index all)
    (λ (less : index < c.loop-index.index). c.loop-index.invariant index above less)
    (le_or_lt c.loop-index.index index)
