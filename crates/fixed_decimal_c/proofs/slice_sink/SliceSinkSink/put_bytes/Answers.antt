use Rattle.std.proofs.{Common.{◌≡◌, ◌∷◌, ◌+◌, length, take, drop, sym, ap, ◌∙◌, arith, take-append-drop}, lemmas.List.{length-take, take_all}}
use Rattle.fixed_decimal_c.proofs.slice_sink.SliceSinkSink.put_bytes.Goals as goal

pub returns-then-count-bytes-clause-prefix : goal.returns-then-count-bytes-clause-prefix
returns-then-count-bytes-clause-prefix c =
    let name = c.args.self.now.bytes.ghost_name in
    let capacity = length c.args.self.now.bytes.now in
    let len = c.args.self.now.len in
    let count = c.min-count.result in
    let put = take count c.args.bytes.now in
    let new = c.copy_at.new.buffer in
    let least = length-take count c.args.bytes.now in
    let same = c.copy_at.ensures.length in
    let full : take (capacity + 1) new ≡ take (len + length put) new =
    take_all (capacity + 1) new (omega (arith, same))
    ∙ sym (take_all (len + length put) new
    (omega (arith, same, least, c.min-count.ensures, c.if-count-bytes.true, c.if-self-capacity.false))) in (
      put,
      drop count c.args.bytes.now,
      take-append-drop count c.args.bytes.now,
      ap (λ n. name ∷ n ∷ take (capacity + 1) new) same
          ∙ ap (λ l. name ∷ capacity ∷ l) (full ∙ c.copy_at.ensures.bytes),
    )
