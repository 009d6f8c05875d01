use Rattle.std.proofs.Common.{◌≡◌, ◌++◌, take, drop}
use Rattle.std.specs.Prelude.{codes}
use Rattle.locale_data.specs.Tag.{before_text}
use Rattle.locale_data.proofs.tag.without_private_use.Given as goal

abbrev pub invariant-loop-index : goal.invariant-loop-index
invariant-loop-index l =
    before_text (codes "-x-") l.tag ≡ take l.index l.tag ++ before_text (codes "-x-") (drop l.index l.tag)
