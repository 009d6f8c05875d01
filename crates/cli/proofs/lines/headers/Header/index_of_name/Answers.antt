use Rattle.std.proofs.Common.{arith, refl}
use Rattle.cli.proofs.lemmas.lines.HeaderNames.{only_one}
use Rattle.cli.proofs.lines.headers.Header.index_of_name.Goals as goal

pub returns-in_default-next_named-clause-err : goal.returns-in_default-next_named-clause-err
returns-in_default-next_named-clause-err c =
    let none = rw c.as_bytes-2.ensures.value at (c.in_default-next_named.ensures.none refl) in
    λ _. (c.of.ensures, λ index. none index (omega arith))

pub returns-in-Some-next_named-clause-err : goal.returns-in-Some-next_named-clause-err
returns-in-Some-next_named-clause-err c =
    let first = rw c.as_bytes-2.ensures.value at c.in-Some.ensures.some in
    let second = rw c.as_bytes-4.ensures.value at c.in-Some-next_named.ensures.some in
    λ _. (
      c.of-in-Some-next_named.ensures,
      (
        c.in-Some.index,
        c.in-Some-next_named.field-0,
        (λ same. absurd (omega (arith, same, second.0))),
        first.1,
        second.1,
      ),
    )

pub returns-clause-ok : goal.returns-clause-ok
returns-clause-ok c =
    let header = c.args.self.now in
    let first = rw c.as_bytes-2.ensures.value at c.in-Some.ensures.some in
    let before = rw c.as_bytes-2.ensures.value at c.in-Some.ensures.before in
    let after = rw c.as_bytes-4.ensures.value at (c.in-None.ensures.none refl) in
    (first.1, only_one header.trims header.field header.bytes.now c.args.name.now c.in-Some.index first.1 before after)
