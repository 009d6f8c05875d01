use Rattle.std.proofs.{Common.{◌≡◌, ◌-◌, ◌*◌, ◌%◌, ◌^◌, nat_lt, false, get_or, ap, ◌∙◌, subst, arith}, lemmas.List.get_or_default}
use Rattle.std.specs.Int.{from_be_bytes, w128}
use Rattle.locale_data.proofs.lemmas.search.Searches.{far_from}
use Rattle.locale_data.proofs.search.is_near.Goals as goal

pub returns-in-Some : goal.returns-in-Some
returns-in-Some g c = λ far. (
  omega arith,
  λ row inside.
      let key_of = λ (r : g.row.R.Denot). from_be_bytes w128 (g.R.Row.name r) in
      let rows = c.args.rows.now in
      let found = c.in-Some.row.now in
      let at : found ≡ get_or rows c.args.index row =
      c.in-Some.ensures.lookup.1 ∙ get_or_default rows c.args.index found row inside in
      let is = c.saturating_sub.ensures
      ∙ ap (λ n. n - c.args.key) (c.from_be_bytes.ensures ∙ ap (from_be_bytes w128) c.name.ensures)
      ∙ ap (λ r. key_of r - c.args.key) at in
      far_from c.args.key (key_of (get_or rows c.args.index row)) c.args.end c.if-end-eq0.false (omega arith)
      (subst (λ n. nat_lt n (1 * 2 ^ (8 * (16 - c.args.end)) % 2 ^ 128) ≡ false) is far),
)
