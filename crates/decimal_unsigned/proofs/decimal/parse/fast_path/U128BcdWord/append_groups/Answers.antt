use Rattle.std.proofs.{Common.{◌≡◌, ◌+◌, ◌-◌, length, take, drop, ap, ◌∙◌, arith}, lemmas.List.drop-drop}
use Rattle.decimal_unsigned.proofs.lemmas.parse.BcdValues.{read_eight}
use Rattle.decimal_unsigned.proofs.decimal.parse.fast_path.U128BcdWord.append_groups.Goals as goal

pub loop-bytes-preserved : goal.loop-bytes-preserved
loop-bytes-preserved c =
    let inv = c.loop-bytes.invariant in
    let chunk = c.in-Some.ensures.cases in
    let text = c.args.text.now in
    let n = length text - length c.loop-bytes.rest.now in
    let size : length c.in-Some.others.now + 8 ≡ length c.loop-bytes.rest.now = chunk.2 in
    let next : n + 8 ≡ length text - length c.in-Some.others.now = omega (arith, size, inv.size) in
    let bytes : c.in-Some.bytes.now ≡ take 8 (drop n text) = chunk.0 ∙ ap (take 8) inv.rest in
    record {
      size = omega (arith, size, inv.size);
      rest = chunk.1 ∙ ap (drop 8) inv.rest ∙ drop-drop 8 n text ∙ ap (λ j. drop j text) next;
      read =
          rw (← next) (read_eight inv.read c.in-Some-read_group.group (omega (arith, size, inv.size))
          (rw bytes at c.in-Some-read_group.ensures.digits) (rw bytes at c.in-Some-read_group.ensures.number));
    }
