use Rattle.std.proofs.Common.{◌≡◌, ◌+◌, ◌*◌, ◌/◌, length, get_or, ap, refl, arith}
use Rattle.decimal_digits.proofs.{lemmas.digits.{Nibbles.nibble_rules, Words.cut_encodes}, digits.packed.bytes.cut_bytes.Goals.{then-count-eq1, else-count-eq1}}
use Rattle.decimal_digits.specs.{Nibbles.nibbles, Packing.padding}
use Rattle.decimal_digits.proofs.digits.packed.bytes.cut_bytes.Goals as goal

pub returns-clause-encodes : goal.returns-clause-encodes
returns-clause-encodes c =
    let p = c.requires.padded in
    let n = c.args.count in
    elim c.if-count-eq1.branch [
      | then-count-eq1 w ↦
          let e = w.remove_high_nibble.ensures in
          rw (c.drop_bytes.ensures.items, ap (λ v. v.items) w.bytes-is)
          (cut_encodes _ _ c.args.len n _ p c.requires.in_range
          (grind (arith, nibble_rules, padding, ap length e)) c.byte_count.ensures
          (λ k. grind (arith, nibble_rules, padding, ap (λ l. get_or l (2 * (n / 2) + k) 0) e)))
      | else-count-eq1 w ↦
          let even : 2 * (n / 2) ≡ n = omega (arith, w.if-count-eq1.false) in
          rw (c.drop_bytes.ensures.items, ap (λ v. v.items) w.bytes-is)
          (cut_encodes _ _ c.args.len n _ p c.requires.in_range refl c.byte_count.ensures
          (λ k. ap (λ i. get_or (nibbles c.args.bytes.now.items) (i + k) 0) even))
    ]
