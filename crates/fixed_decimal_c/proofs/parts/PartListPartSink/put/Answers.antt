use Rattle.std.proofs.Common.{◌≡◌, ℕ, ◌+◌, ◌<◌, ◌≤◌, ◌^◌, List, length, subst}
use Rattle.number_format.specs.TextParts.{Piece}
use Rattle.fixed_decimal_c.specs.{declared.parts.FdPart.FdPart, Parts.{with_bytes, last_of}}
use Rattle.fixed_decimal_c.proofs.lemmas.parts.PartLists.{taken}
use Rattle.fixed_decimal_c.proofs.parts.PartListPartSink.put.Goals as goal

pub returns-clause-puts : goal.returns-clause-puts
returns-clause-puts c =
    let old = c.args.self.now in
    let text = c.args.text.now in
    let count = c.with_bytes-count.result.0 in
    let last = c.with_bytes-count.result.1 in
    let piece : Piece = record { kind = c.args.kind; text = text } in
    let step =
    subst (λ (kind : ℕ). (parts : List FdPart) → old.count ≡ length parts → old.last ≡ last_of parts
    → old.count ≤ old.last.end → old.last.end + length text < 2 ^ 64
    → (count ≡ length (with_bytes (length text) kind parts)) × (last ≡ last_of (with_bytes (length text) kind parts)))
    c.kind_number.ensures c.with_bytes-count.ensures in record {
      grown = taken old.parts.ghost_name old.parts.now c.set_last.new.parts old.count count old.last last piece step
          c.set_last.ensures.length c.set_last.ensures.set;
    }
