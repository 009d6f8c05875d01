use Rattle.std.proofs.Common.{take}
use Rattle.std.specs.Io.KnownBytes.{Appends}
use Rattle.cli.specs.LocaleList.{tag_lines}
use Rattle.cli.proofs.program.locale_list.print_tags.Given as goal

-- the tags so far are written
abbrev pub invariant-loop-locale : goal.invariant-loop-locale
invariant-loop-locale g l =
    Appends (g.W.Write.contents l.initial.out) (g.W.Write.contents l.out) (tag_lines (take l.locale-index l.locales))
