-- What the stems of a skeleton choose, by groups.
use Rattle.std.specs.Prelude.{Bool, true, false, ◌||◌, is_some, Some, None}
use Rattle.number_skeleton.specs.{declared.choices.{Span.Span, Choice.{Choice, TheVariants.{Nothing, Notation, Unit, PercentTimes100, UnitAlone, PerUnit, Usage, Precision, StripIfInteger, Mode, Grouping, Integer, System, Width, Sign, DecimalSeparator, Scale}}, Choices.Choices}, Decimal.hundred}
use Rattle.number_skeleton.specs.declared.choices.ChosenPerUnit.TheVariants.{InUnit}
use Rattle.number_skeleton.specs.declared.choices.ChosenUnit.TheVariants as unit

abbrev pub no_choices : Choices
no_choices = record {
  notation = None;
  unit = None;
  per_unit = None;
  usage = None;
  precision = None;
  strips_if_integer = false;
  mode = None;
  grouping = None;
  integer = None;
  system = None;
  width = None;
  sign = None;
  decimal_separator = None;
  scale = None;
}

-- the group of a choice has one; `%x100`, `currency/` and `unit/` take two groups
abbrev pub has : Choices → Choice → Bool
has c Nothing = false
has c (Notation _) = is_some c.notation
has c (Unit _) = is_some c.unit
has c PercentTimes100 = is_some c.scale || is_some c.unit
has c UnitAlone = is_some c.unit || is_some c.per_unit
has c (PerUnit _) = is_some c.per_unit
has c Usage = is_some c.usage
has c (Precision _) = is_some c.precision
has c StripIfInteger = false
has c (Mode _) = is_some c.mode
has c (Grouping _ _) = is_some c.grouping
has c (Integer _) = is_some c.integer
has c (System _) = is_some c.system
has c (Width _) = is_some c.width
has c (Sign _ _) = is_some c.sign
has c (DecimalSeparator _) = is_some c.decimal_separator
has c (Scale _) = is_some c.scale

-- the choices with one more, or with another one of its group, by a stem
abbrev pub with : Span → Choice → Choices → Choices
with stem Nothing c = c
with stem (Notation n) c = record c { notation = Some (n, stem) }
with stem (Unit u) c = record c { unit = Some (u, stem) }
with stem PercentTimes100 c = record c { unit = Some (unit.Percent, stem); scale = Some (hundred, stem) }
with stem UnitAlone c = record c { unit = Some (unit.Other, stem); per_unit = Some (InUnit, stem) }
with stem (PerUnit per) c = record c { per_unit = Some (per, stem) }
with stem Usage c = record c { usage = Some stem }
with stem (Precision p) c = record c { precision = Some (p, stem) }
with stem StripIfInteger c = record c { strips_if_integer = true }
with stem (Mode m) c = record c { mode = Some (m, stem) }
with stem (Grouping strategy sizes) c = record c { grouping = Some (strategy, sizes) }
with stem (Integer i) c = record c { integer = Some (i, stem) }
with stem (System s) c = record c { system = Some (s, stem) }
with stem (Width w) c = record c { width = Some (w, stem) }
with stem (Sign display sign) c = record c { sign = Some (display, sign) }
with stem (DecimalSeparator display) c = record c { decimal_separator = Some display }
with stem (Scale s) c = record c { scale = Some (s, stem) }
