-- The state of the builder as the rules so far. Only private contracts cite this file.
use Rattle.std.specs.Prelude.{◌≡◌, ℕ, Bool, ◌+◌, ◌*◌, ◌^◌, ◌<◌, ◌≤◌, true, map}
use Rattle.plural_rules.specs.{declared.parse.{state.{Event.Event, Categories.Categories}, builder.Builder.Builder}, RulesReader.Partial}
use Rattle.plural_rules.specs.declared.parse.state.Event.TheVariants as event

abbrev pub partial : Categories → Builder → Partial
partial seen b = record {
  seen = seen;
  rules = b.rules.items;
  category = b.category;
  alternatives = map (λ relations. relations.items) b.alternatives.items;
  relations = b.relations.items;
  operand = b.operand;
  is_divided = b.is_divided;
  modulus = b.modulus;
  is_equal = b.is_equal;
  ranges = b.ranges.items;
  low = b.low;
  number = b.number;
}

-- the number after an event is below 2^64, and a modulus at most 10^18
abbrev pub IsSmall : Event → ℕ → Bool → Type 0
IsSmall (event.Digit d) n is_divided = n * 10 + d < 2 ^ 64
IsSmall (event.Equal is_equal) n is_divided = is_divided ≡ true → n ≤ 10 ^ 18
IsSmall e n is_divided = Unit {0}
