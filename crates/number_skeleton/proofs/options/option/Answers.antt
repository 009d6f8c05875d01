use Rattle.std.proofs.Common.{◌≡◌, ℕ, sym, ap, ◌∙◌, List}
use Rattle.std.specs.Prelude.{Option}
use Rattle.number_skeleton.specs.{declared.meaning.{Expected.Expected, Meaning.Meaning}, Options.option}
use Rattle.number_skeleton.proofs.options.option.Goals as goal

by : {e f : Expected} {m : Option Meaning} (text : List ℕ) → e ≡ f → m ≡ option f text → m ≡ option e text
by text is means = means ∙ ap (λ x. option x text) (sym is)

pub returns-in-Exponent : goal.returns-in-Exponent
returns-in-Exponent c = by c.args.text.now c.in-Exponent.is c.exponent_option.ensures

pub returns-in-Currency : goal.returns-in-Currency
returns-in-Currency c = by c.args.text.now c.in-Currency.is c.currency_option.ensures

pub returns-in-Integer : goal.returns-in-Integer
returns-in-Integer c = by c.args.text.now c.in-Integer.is c.integer_option.ensures

pub returns-in-System : goal.returns-in-System
returns-in-System c = by c.args.text.now c.in-System.is c.system_option.ensures

pub returns-in-Scale : goal.returns-in-Scale
returns-in-Scale c = by c.args.text.now c.in-Scale.is c.scale_option.ensures

pub returns-in-Increment : goal.returns-in-Increment
returns-in-Increment c = by c.args.text.now c.in-Increment.is c.increment_option.ensures

pub returns-in-Significant : goal.returns-in-Significant
returns-in-Significant c = by c.args.text.now c.in-Significant.is c.significant_option.ensures

pub returns-in-StripIfInteger : goal.returns-in-StripIfInteger
returns-in-StripIfInteger c = by c.args.text.now c.in-StripIfInteger.is c.strip_option.ensures

pub returns-in-Unit : goal.returns-in-Unit
returns-in-Unit c = by c.args.text.now c.in-Unit.is c.unit_option.ensures

pub returns-in-MeasureUnit : goal.returns-in-MeasureUnit
returns-in-MeasureUnit c = by c.args.text.now c.in-MeasureUnit.is c.measure_option.ensures

pub returns-in-PerMeasureUnit : goal.returns-in-PerMeasureUnit
returns-in-PerMeasureUnit c = by c.args.text.now c.in-PerMeasureUnit.is c.per_option.ensures
