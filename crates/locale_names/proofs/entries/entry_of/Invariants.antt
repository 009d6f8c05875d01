use Rattle.std.proofs.Common.{◌≡◌, drop}
use Rattle.locale_names.specs.Entries.{entry_of}
use Rattle.locale_names.proofs.entries.entry_of.Given as goal

abbrev pub invariant-loop-entry : goal.invariant-loop-entry
invariant-loop-entry g l =
    entry_of g.E.Entry.number l.kind l.entries ≡ entry_of g.E.Entry.number l.kind (drop l.entry-index l.entries)
