use Rattle.std.proofs.{Common.{◌≡◌, ◌∙◌, ℕ, List, [], Option, Some, Result, Ok, Err, IfErr, OnOk, Bool, true, false, inl, inr, refl, ap}, KnownBytes.Appends-kept}
use Rattle.std.specs.{Io.KnownBytes.{Keeps, append_known}}
use Rattle.decimal_digits.specs.AppendsPrefix.{AppendsPrefix}
use Rattle.cli.specs.{declared.{program.error.ProgramError.{ProgramError, TheVariants.{Setup, Output}}, lines.{filter.Filter.Filter, named_filter.NamedFilter.NamedFilter}}, Filter.{Effects, FilteredLine}, Lines.{AreFirst, number_after, Returns, Filters, AppendsUnwritten}, NamedFilter.{EndsAtHeader, FiltersNamed}, FixdecLines.IsEarly}
use Rattle.cli.proofs.lemmas.program.{Buffers.append_known-nil, Programs.err_map}
use Rattle.cli.proofs.fixdec_lines.filter_words.Goals as goal

unwritten :
    (a b d : Option (List ℕ)) (text missing : List ℕ) → AppendsPrefix a b text → Keeps b (append_known d missing)
    → AppendsUnwritten a d text
unwritten a b d text missing (part, rest, e, p) k = (missing, (part, rest, e, Appends-kept a b _ part p k))

-- the same effects, but for the output afterwards
abbrev ending : {D : Type 0} → Effects D → Option (List ℕ) → Effects D
ending e output = record e { output = record { before = e.output.before; after = output } }

are_first :
    (filter : Filter) (next : ℕ) (rows : List (List ℕ)) (results : List FilteredLine)
    {D : Type 0} (e : Effects D) (r : Result Bool ProgramError)
    → Returns filter next e.input.before e.failure rows results r → AreFirst filter e.input.before rows
are_first filter next rows results e (Ok texts) (all, same) = (Some [], all)
are_first filter next rows results e (Err error) (first, how) = first

module _
    {D : Type 0} (reports : D → ProgramError → D → Type 0) (e : Effects D) (d : Option (List ℕ))
    (r : Result Bool ProgramError)
  where
    -- the block was written
    module _ (k : Keeps e.output.after d) where
      all_kept : Keeps e.output.after (append_known d [])
      all_kept = rw (append_known-nil d) k

      filters_kept :
          (filter : Filter) → Filters AppendsPrefix reports filter 1 e r
          → Filters AppendsUnwritten reports filter 1 (ending e d) r
      filters_kept filter h = record {
        rows = h.rows;
        results = h.results;
        are_results = h.are_results;
        returns = h.returns;
        stop = h.stop;
        whole = λ other. Appends-kept e.output.before e.output.after d _ (h.whole other) k;
        part = unwritten e.output.before e.output.after d _ [] h.part all_kept;
        reported = h.reported;
      }

      named_kept :
          (filter : NamedFilter) → FiltersNamed reports AppendsPrefix filter e r
          → FiltersNamed reports AppendsUnwritten filter (ending e d) r
      named_kept filter (inl (header, run, has, is, filters)) = inl (header, run, has, is, filters_kept run filters)
      named_kept filter (inr (ends, (nothing, part), silent)) =
          inr (
            ends_with r ends,
            (
              (λ other. Appends-kept e.output.before e.output.after d [] (nothing other) k),
              unwritten e.output.before e.output.after d [] [] part all_kept,
            ),
            silent,
          )
        where
          ends_with : (r : Result Bool ProgramError) → EndsAtHeader filter e r → EndsAtHeader filter (ending e d) r
          ends_with (Ok texts) h = h
          ends_with (Err error) h = h

    -- whatever the filter returned, bytes of the block were not written
    module _ (missing : List ℕ) (k : Keeps e.output.after (append_known d missing)) where
      filters_missing :
          (filter : Filter) → Filters AppendsPrefix reports filter 1 e r
          → Filters AppendsUnwritten reports filter 1 (ending e d) (Err Output)
      filters_missing filter h = record {
        rows = h.rows;
        results = h.results;
        are_results = h.are_results;
        returns =
            (are_first filter (number_after filter 1 h.rows) h.rows h.results e r h.returns, tt);
        stop = h.stop;
        whole = λ other. absurd (other refl);
        part = unwritten e.output.before e.output.after d _ missing h.part k;
        reported = h.reported;
      }

      named_missing :
          (filter : NamedFilter) → FiltersNamed reports AppendsPrefix filter e r
          → FiltersNamed reports AppendsUnwritten filter (ending e d) (Err Output)
      named_missing filter (inl (header, run, has, is, filters)) =
          inl (header, run, has, is, filters_missing run filters)
      named_missing filter (inr (ends, (nothing, part), silent)) =
          inr (
            tt,
            (
              (λ other. absurd (other refl)),
              unwritten e.output.before e.output.after d [] missing part k,
            ),
            silent,
          )

-- a filter that ran returned no early error
not_early :
    {D : Type 0} {P : Option (List ℕ) → Option (List ℕ) → List ℕ → Type 0} {reports : D → ProgramError → D → Type 0}
    {e : Effects D} (filter : NamedFilter) (Q : Type 0) (r : Result Bool ProgramError)
    → FiltersNamed reports P filter e r → IfErr r (λ error. IsEarly error → Q)
not_early filter Q (Ok texts) h = tt
not_early filter Q (Err (Setup error)) (inl (header, run, has, is, filters)) = λ _. absurd filters.returns.1
not_early filter Q (Err (Setup error)) (inr (ends, nothing, silent)) = λ _. absurd ends.1
not_early filter Q (Err error) h = λ never. absurd never

on_ok : {X E : Type 0} {P : Type 0} (r : Result X E) → P → OnOk r P
on_ok (Ok x) h = h
on_ok (Err e) h = tt

pub returns-in-Err-clause-filtered : goal.returns-in-Err-clause-filtered
returns-in-Err-clause-filtered g c =
    let closed : c.abandon.result ≡ (c.args.out, false) = rw c.in-Ok.ensures.opened at c.abandon.ensures in
    rw c.setup-error.ensures (inr (c.in-Err.why, c.in-Err.ensures.err, refl, refl), tt, ((λ is. cc), λ _. closed))

pub returns-then-has_failed-clause-filtered : goal.returns-then-has_failed-clause-filtered
returns-then-has_failed-clause-filtered g c =
    let run = c.filter_input-filtered in
    let filter = c.in-Ok-parse_filter.filter in
    let (missing, kept) = c.close-closed.ensures.prefix in
    let filtered =
    rw c.in-Ok.ensures.contents at (named_missing g.D.Diagnostics.reports _
    (g.O.Write.contents c.close-closed.result.0) run.result missing kept filter run.ensures.filtered) in
    let failed : c.close-closed.result.1 ≡ true = cc (c.has_failed.ensures, c.if-has_failed.true) in
    (inl (filter, c.in-Ok-parse_filter.ensures.some, filtered), tt, ((λ _. failed), λ never. absurd never))

pub returns-clause-filtered : goal.returns-clause-filtered
returns-clause-filtered g c =
    let run = c.filter_input-filtered in
    let filter = c.in-Ok-parse_filter.filter in
    let closed = c.close-closed.ensures in
    let has_not_failed : c.close-closed.result.1 ≡ false = cc (c.has_failed.ensures, c.if-has_failed.false) in
    let filtered =
    rw c.in-Ok.ensures.contents at (named_kept g.D.Diagnostics.reports _ (g.O.Write.contents c.close-closed.result.0)
    run.result (closed.written has_not_failed) filter run.ensures.filtered) in (
      inl (filter, c.in-Ok-parse_filter.ensures.some, filtered),
      on_ok run.result has_not_failed,
      err_map run.result
          (λ error is untouched. ((λ e. closed.stays_failed (run.ensures.failed (is ∙ ap Err e))), untouched))
          (not_early filter _ run.result run.ensures.filtered),
    )

pub returns-clause-unchanged_on_error : goal.returns-clause-unchanged_on_error
returns-clause-unchanged_on_error g c =
    not_early c.in-Ok-parse_filter.filter _ c.filter_input-filtered.result c.filter_input-filtered.ensures.filtered
