-- The filter that the words of `fixdec_lines` name, and its result on an input.
use Rattle.std.specs.{Prelude.{◌≡◌, ◌⊎◌, ℕ, ◌&&◌, not, ⊤, Bool, true, false, List, String, Option, Some, None, Result, Err, OnOk, IfErr, IsOkAnd, MatchResult}, declared.{alloc.Global.Global, io.ErrorKind.ErrorKind}}
use Rattle.cli.specs.{Targets.{NamesTarget, NameNoTarget, have_names}, Options.{options_of, copied_options, field_of}, declared.{words.{options.Options.Options, targets.NamedTarget.NamedTarget}, lines.named_filter.NamedFilter.NamedFilter, program.{error.{WordsError.{WordsError, TheVariants.{Memory, NoHeader}}, ProgramError.{ProgramError, TheVariants.{Setup, Output}}}, help.Program.TheVariants.FixdecLines}}, Error.setup_error, NamedFilter.FiltersNamed, Filter.{Change, Effects}, Lines.AppendsUnwritten}

-- whether a field has a name, and `header` is not there
abbrev pub lacks_header : Options → NamedTarget → Bool
lacks_header options target = have_names target && not options.has_header

-- the words are [OPTION].. and those of what is converted, with this filter; if a field has a name, `header` is there
abbrev pub NamesFilter : List (String Global) → NamedFilter → Type 0
NamesFilter words filter =
    let named = options_of words in
    (copied_options filter.options ≡ named.0)
    × IsOkAnd (field_of named.0) (λ first. NamesTarget first named.1 filter.target)
    × (lacks_header named.0 filter.target ≡ false)

-- they are not, for this error: that of the options; or the other words name nothing to convert; or a field has a name,
-- and `header` is not there
abbrev pub FilterFails : List (String Global) → WordsError → Type 0
FilterFails words error =
    let named = options_of words in
    MatchResult (field_of named.0)
    (λ first. NameNoTarget first named.1 error
    ⊎ ((target : NamedTarget) × NamesTarget first named.1 target × (lacks_header named.0 target ≡ true)
    × (error ≡ NoHeader)))
    (λ why. error ≡ why)

-- the error comes before the first line
abbrev pub IsEarly : ProgramError → Type 0
IsEarly (Setup error) = ⊤
IsEarly _ = ⊥

-- what is left of the input, and the kind of the first error of the reader, if it has failed; the writer, and how its
-- contents are seen; and the diagnostics, before and after
pub record Process (O D : Type 0) : Type 0 where
  pub input : Change (Option (List ℕ))
  pub failure : Option ErrorKind
  pub writer : O
  pub contents : O → Option (List ℕ)
  pub diagnostics : Change D

-- what a process changes if this is the writer afterwards
abbrev pub effects : {O D : Type 0} → Process O D → O → Effects D
effects process writer = record {
  input = process.input;
  failure = process.failure;
  output = record { before = process.contents process.writer; after = process.contents writer };
  diagnostics = process.diagnostics;
}

module _ {D : Type 0} (reports : D → ProgramError → D → Type 0) where
  -- the words name a filter, which ran with this result; or they name none, and nothing was reported before this error
  abbrev pub WordsFilter : List (String Global) → Effects D → Result Bool ProgramError → Type 0
  WordsFilter words effects returned =
      ((filter : NamedFilter) × NamesFilter words filter
      × FiltersNamed reports AppendsUnwritten filter effects returned)
      ⊎ ((why : WordsError) × FilterFails words why × (returned ≡ Err (setup_error FixdecLines why))
      × (effects.diagnostics.after ≡ effects.diagnostics.before))

  -- the work of `fixdec_lines`: the block before the writer cannot be allocated; or the words filter with this result,
  -- and the writer has failed only with an error, and at `Output`; at an early one it is not called
  abbrev pub LinesEnd :
      {O : Type 0} → Process O D → List (String Global) → Result Bool ProgramError → Option (O × Bool) → Type 0
  LinesEnd process words returned None = returned ≡ Err (setup_error FixdecLines Memory)
  LinesEnd process words returned (Some closed) =
      WordsFilter words (effects process closed.0) returned
      × OnOk returned (closed.1 ≡ false)
      × IfErr returned
      (λ error. (error ≡ Output → closed.1 ≡ true) × (IsEarly error → closed ≡ (process.writer, false)))
