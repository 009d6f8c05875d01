use Rattle.number_format.proofs.format.formatter.NumberFormatter.for_ranges.Goals as goal

pub unreachable-requires : goal.unreachable-requires
unreachable-requires c = c.in_ok-ids.ensures.exist c.in-None.ensures.none

pub returns-clause-ok : goal.returns-clause-ok
returns-clause-ok c =
    record { ids = c.in_ok-ids.ids; ids_are = c.in_ok-ids.ensures.ok; at = c.in-Some.ensures.some }
