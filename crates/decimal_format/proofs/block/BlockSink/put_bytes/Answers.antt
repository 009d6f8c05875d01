use Rattle.std.proofs.{Common.{ℕ, List, Bool, ◌-◌, ap, length, take, drop, take-append-drop}, lemmas.Result.on_err_weaker}
use Rattle.decimal_format.specs.Blocks.{DoNotFit}
use Rattle.decimal_format.proofs.block.BlockSink.put_bytes.Goals as goal

pub returns-clause-prefix : goal.returns-clause-prefix
returns-clause-prefix c =
    let room = 192 - length c.args.self.now.0 in
    let bytes = c.args.bytes.now in
    on_err_weaker c.append.result (λ (no : DoNotFit c.args.self.now c.append.new.self bytes).
    (take room bytes, drop room bytes, take-append-drop room bytes, ap (λ (b : List ℕ × Bool). b.0) no.kept))
    c.append.ensures.err
