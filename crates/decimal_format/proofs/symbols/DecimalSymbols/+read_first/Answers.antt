use Rattle.std.proofs.Common.{Ok, Err}
use Rattle.decimal_unsigned.specs.declared.error.ParseError.TheVariants.{Limit, Memory}
use Rattle.decimal_format.proofs.lemmas.reader.Around.{first_reads, rest_reads}
use Rattle.decimal_format.proofs.symbols.DecimalSymbols.+read_first.Goals as goal

pub returns-in-Ok : goal.returns-in-Ok
returns-in-Ok g t c =
    first_reads c.args.self.now (g.T.Input.bytes c.args.text) g.D.DigitStore.L c.args.alternatives.now _
    c.in-len1-up.len_at_least (Ok c.in-Ok.value) c.in-Ok.ensures (λ h. cc)

pub returns-in-Err-Syntax : goal.returns-in-Err-Syntax
returns-in-Err-Syntax g t c =
    rest_reads c.args.self.now (g.T.Input.bytes c.args.text) g.D.DigitStore.L c.args.alternatives.now _
    c.in-len1-up.len_at_least c.read_first.result (rw c.in-Err-Syntax.field-0-is at c.in-Err-Syntax.ensures)
    c.read_first.ensures

pub returns-in-Err-Limit : goal.returns-in-Err-Limit
returns-in-Err-Limit g t c =
    first_reads c.args.self.now (g.T.Input.bytes c.args.text) g.D.DigitStore.L c.args.alternatives.now _
    c.in-len1-up.len_at_least (Err Limit) (rw c.in-Err-Limit.field-0-is at c.in-Err-Limit.ensures) (λ h. cc)

pub returns-in-Err-Memory : goal.returns-in-Err-Memory
returns-in-Err-Memory g t c =
    first_reads c.args.self.now (g.T.Input.bytes c.args.text) g.D.DigitStore.L c.args.alternatives.now _
    c.in-len1-up.len_at_least (Err Memory) (rw c.in-Err-Memory.field-0-is at c.in-Err-Memory.ensures) (λ h. cc)
