use Rattle.std.proofs.Common.{◌≡◌, ◌≢◌, None}
use Rattle.std.specs.Prelude.{IfSome}
use Rattle.conversions.specs.declared.error.OperationError.TheVariants.{Output}
use Rattle.cli.specs.Fields.{IsCursor}
use Rattle.cli.proofs.lemmas.lines.Editing.{Continues, Found}
use Rattle.cli.proofs.lines.edits.edited.Given as goal

-- each field so far has a conversion, and the line is written up to the copied bytes; or the first error was found
abbrev pub invariant-loop-field : goal.invariant-loop-field
invariant-loop-field l = record {
  cursor : IsCursor l.base l.line l.cursor;
  found : Found l.trims l.base l.line l.fields l.field-index l.found;
  continues : l.found ≡ None → Continues l.trims l.base l.line l.fields l.text.0 l.copied l.field-index;
  other : IfSome l.found (λ error. error.error ≢ Output);
}
